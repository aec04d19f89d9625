-- Where no code stands in expressions: names are declared, numbers are bounds, and there are no more symbols than allowed, each counted with its copies.
use Rattle.std.proofs.Common.{◌≡◌, ℕ, zero, suc, ◌+◌, ◌-◌, ◌*◌, ◌<◌, ◌≤◌, Bool, true, false, Some, None, List, [], ◌∷◌, ◌++◌, length, map, refl, ap, sym, ◌∙◌, subst, arith, length-append}
use Rattle.std.specs.Prelude.{Option, ⊤, ◌||◌, ◌&&◌, nat_le, bytes_eq, if◌then◌else◌}
use Rattle.std.proofs.lemmas.Bool.{le-leb, lt-leb, leb-false, leb-true}
use Rattle.std.proofs.lemmas.List.{append_assoc}
use Rattle.std.proofs.lemmas.Slice.Eq.{bytes_eq-Decides}
use Rattle.rx_lang.specs.Expression.{Expr}
use Rattle.rx_lang.specs.Copies.{times, occurrences}
use Rattle.rx_syntax.specs.Lexemes.{Lexeme, word_of}
use Rattle.rx_syntax.specs.Grammar.{Tree, leaf, union, sequence, star, plus, optional, marked, counted, StatementTree}
use Rattle.rx_syntax.specs.Uses.{Use, leaf_use, mark_use, least_use, most_use, copies_use, number_of, tree_leaves, tree_uses, expr_uses, Declared, is_among, bound_code, bounds_code, use_code, fault_or, first_use_fault}
use Rattle.rx_syntax.specs.Accepted.{number_in, resolve}
use Rattle.rx_syntax.specs.declared.spec_code.SpecCode.{SpecCode}
use Rattle.rx_syntax.specs.declared.spec_code.SpecCode.TheVariants.{S3, S13, S15}
use Rattle.rx_syntax.proofs.NewNames.{no_fault_here, no_fault_with}
use Rattle.rx_syntax.proofs.PrintedExprs.{Proper}
use Rattle.rx_syntax.proofs.PrintedSections.{Statement, statement_of}

-- how many symbols an expression has, counted with their copies
abbrev pub size : Expr → ℕ
size e = length (occurrences e)

times_size : {A : Type 0} (n : ℕ) (xs : List A) → length (times n xs) ≡ n * length xs
times_size zero xs = omega arith
times_size (suc n) xs = length-append xs (times n xs) ∙ grind (arith, times_size n xs)

more_copies : (n l : ℕ) → 1 ≤ n → l + (n - 1) * l ≡ n * l
more_copies zero l some = absurd (omega (arith, some))
more_copies (suc n) l some =
    let less : suc n - 1 ≡ n = omega arith in
    ap (λ k. l + k * l) less ∙ grind arith

-- tests and what they tell

both_true : (a b : Bool) → (a && b) ≡ true → (a ≡ true) × (b ≡ true)
both_true true b e = (refl, e)
both_true false b e = absurd cc

no_code : (b : Bool) (code : SpecCode) → (if b then None else Some code) ≡ None → b ≡ true
no_code true code e = refl
no_code false code e = let clash : ◌≡◌ {A = Option SpecCode} (Some code) None = e in absurd cc

no_code_else : (b : Bool) (code : SpecCode) → (if b then Some code else None) ≡ None → b ≡ false
no_code_else true code e = let clash : ◌≡◌ {A = Option SpecCode} (Some code) None = e in absurd cc
no_code_else false code e = refl

number_among : (names : List (List ℕ)) (w : List ℕ) → is_among w names ≡ true → number_in names w < length names
number_among [] w e = absurd cc
number_among (first ∷ names) w e = by_first (bytes_eq first w) refl (number_among names w)
  where
    by_first : (here : Bool) → bytes_eq first w ≡ here → (is_among w names ≡ true → number_in names w < length names)
        → (if here then 0 else suc (number_in names w)) < suc (length names)
    by_first true f later = omega arith
    by_first false f later = omega (arith, later (behind (bytes_eq w first) refl e))
      where
        behind : (b : Bool) → bytes_eq w first ≡ b → (b || is_among w names) ≡ true → is_among w names ≡ true
        behind true g h =
            let clash : ◌≡◌ {A = Bool} true false = sym ((bytes_eq-Decides first w).1 (sym ((bytes_eq-Decides w first).0 g))) ∙ f in
            absurd cc
        behind false g h = h

among_number : (names : List (List ℕ)) (w : List ℕ) → number_in names w < length names → is_among w names ≡ true
among_number [] w lt = absurd (omega (arith, lt))
among_number (first ∷ names) w lt = by_test (bytes_eq w first) refl (among_number names w)
  where
    by_test : (b : Bool) → bytes_eq w first ≡ b → (number_in names w < length names → is_among w names ≡ true) → (b || is_among w names) ≡ true
    by_test true e later = refl
    by_test false e later = later (behind (bytes_eq first w) refl lt)
      where
        behind : (here : Bool) → bytes_eq first w ≡ here → (if here then 0 else suc (number_in names w)) < suc (length names) → number_in names w < length names
        behind true f h =
            let clash : ◌≡◌ {A = Bool} true false = sym ((bytes_eq-Decides w first).1 (sym ((bytes_eq-Decides first w).0 f))) ∙ e in
            absurd cc
        behind false f h = omega (arith, h)

leaf_told : (among full : Bool) → (if among then (if full then Some S13 else None) else Some S3) ≡ None → (among ≡ true) × (full ≡ false)
leaf_told true full e = (refl, no_code_else full S13 e)
leaf_told false full e = let clash : ◌≡◌ {A = Option SpecCode} (Some S3) None = e in absurd cc

leaf_tells : (among full : Bool) → among ≡ true → full ≡ false → (if among then (if full then Some S13 else None) else Some S3) ≡ None
leaf_tells among full e f = rw (e, f) refl

bounds_told : (m n : ℕ) → bounds_code m n ≡ None → (m ≤ n) × (1 ≤ n) × (n ≤ 255)
bounds_told m n e =
    let all = both_true (nat_le n 255 && nat_le 1 n) (nat_le m n) (no_code (nat_le n 255 && nat_le 1 n && nat_le m n) S15 e) in
    let two = both_true (nat_le n 255) (nat_le 1 n) all.0 in
    (leb-true m n all.1, leb-true 1 n two.1, leb-true n 255 two.0)

bounds_tell : (m n : ℕ) → m ≤ n → 1 ≤ n → n ≤ 255 → bounds_code m n ≡ None
bounds_tell m n le some few = rw (le-leb m n le, le-leb 1 n some, le-leb n 255 few) refl

bound_tells : (m : ℕ) → m ≤ 255 → bound_code m ≡ None
bound_tells m few = rw (le-leb m 255 few) refl

-- statements

abbrev pub EachExpr : (Expr → Type 0) → List Statement → Type 0
EachExpr Q [] = ⊤
EachExpr Q (s ∷ ss) = Q s.expr × EachExpr Q ss

abbrev pub AllProper : List (List ℕ) → List (List ℕ) → List Statement → Type 0
AllProper symbols outputs ss = EachExpr (Proper symbols outputs) ss

-- how many symbols they have
abbrev pub total : List Statement → ℕ
total [] = 0
total (s ∷ ss) = size s.expr + total ss

module _ (text : List ℕ) (limit : ℕ) (d : Declared) where
  -- the names of these declarations, where expressions have so many symbols
  abbrev pub at_count : ℕ → Declared
  at_count n = record d { leaves = n }

  abbrev pub meant : Tree → Expr
  meant t = resolve (number_in d.symbols) (number_in d.outputs) text t

  -- No code stands at the uses, where there were so many symbols before.
  abbrev pub AreFree : ℕ → List Use → Type 0
  AreFree n us = first_use_fault text limit (at_count n) us ≡ None

  tree_size : (t : Tree) → tree_leaves text t ≡ size (meant t)
  tree_size (leaf t) = refl
  tree_size (union e f) = omega (arith, tree_size e, tree_size f, length-append (occurrences (meant e)) (occurrences (meant f)))
  tree_size (sequence e f) = omega (arith, tree_size e, tree_size f, length-append (occurrences (meant e)) (occurrences (meant f)))
  tree_size (star e) = tree_size e
  tree_size (plus e) = tree_size e
  tree_size (optional e) = tree_size e
  tree_size (marked e t) = tree_size e
  tree_size (counted e least most c) =
      ap (λ l. number_of text most * l) (tree_size e) ∙ sym (times_size (number_of text most) (occurrences (meant e)))

  -- The expression is in order, and what follows it too.
  record Counts (n : ℕ) (e : Expr) (us : List Use) : Type 0 where
    proper : Proper d.symbols d.outputs e
    low : n + size e ≤ limit
    later : AreFree (n + size e) us

  -- more symbols by these copies
  with_copies : (e : Tree) (most : Lexeme) (n : ℕ) → 1 ≤ number_of text most
      → (n + size (meant e)) + (number_of text most - 1) * tree_leaves text e ≡ n + length (times (number_of text most) (occurrences (meant e)))
  with_copies e most n some =
      ap (λ l. (n + size (meant e)) + (number_of text most - 1) * l) (tree_size e)
      ∙ omega (arith, more_copies (number_of text most) (size (meant e)) some, times_size (number_of text most) (occurrences (meant e)))

  tree_counts : (t : Tree) (n : ℕ) (us : List Use) → AreFree n (tree_uses text t ++ us) → Counts n (meant t) us
  tree_counts (leaf t) n us e =
      let word = word_of text t in
      let cut = no_fault_here (use_code text limit (at_count n) (leaf_use t)) t.start (first_use_fault text limit (at_count (suc n)) us) e in
      let told = leaf_told (is_among word d.symbols) (nat_le limit n) cut.0 in
      let one : suc n ≡ n + 1 = omega arith in
      record {
        proper = number_among d.symbols word told.0;
        low = omega (arith, leb-false limit n told.1);
        later = subst (λ k. AreFree k us) one cut.1;
      }
  tree_counts (union e f) n us free =
      let first = tree_counts e n (tree_uses text f ++ us) (ap (first_use_fault text limit (at_count n)) (sym (append_assoc (tree_uses text e) (tree_uses text f) us)) ∙ free) in
      let second = tree_counts f (n + size (meant e)) us first.later in
      let both : (n + size (meant e)) + size (meant f) ≡ n + size (meant (union e f)) =
      omega (arith, length-append (occurrences (meant e)) (occurrences (meant f))) in
      record { proper = (first.proper, second.proper); low = omega (arith, both, second.low); later = subst (λ k. AreFree k us) both second.later }
  tree_counts (sequence e f) n us free =
      let first = tree_counts e n (tree_uses text f ++ us) (ap (first_use_fault text limit (at_count n)) (sym (append_assoc (tree_uses text e) (tree_uses text f) us)) ∙ free) in
      let second = tree_counts f (n + size (meant e)) us first.later in
      let both : (n + size (meant e)) + size (meant f) ≡ n + size (meant (sequence e f)) =
      omega (arith, length-append (occurrences (meant e)) (occurrences (meant f))) in
      record { proper = (first.proper, second.proper); low = omega (arith, both, second.low); later = subst (λ k. AreFree k us) both second.later }
  tree_counts (star e) n us free = let inner = tree_counts e n us free in record { proper = inner.proper; low = inner.low; later = inner.later }
  tree_counts (plus e) n us free = let inner = tree_counts e n us free in record { proper = inner.proper; low = inner.low; later = inner.later }
  tree_counts (optional e) n us free = let inner = tree_counts e n us free in record { proper = inner.proper; low = inner.low; later = inner.later }
  tree_counts (marked e t) n us free =
      let inner = tree_counts e n (mark_use t ∷ us) (ap (first_use_fault text limit (at_count n)) (sym (append_assoc (tree_uses text e) (mark_use t ∷ []) us)) ∙ free) in
      let now = at_count (n + size (meant e)) in
      let cut = no_fault_here (use_code text limit now (mark_use t)) t.start (first_use_fault text limit now us) inner.later in
      let among : is_among (word_of text t) d.outputs ≡ true = no_code (is_among (word_of text t) d.outputs) S3 cut.0 in
      record { proper = (inner.proper, number_among d.outputs (word_of text t) among); low = inner.low; later = cut.1 }
  tree_counts (counted e least most c) n us free =
      let more = (number_of text most - 1) * tree_leaves text e in
      let bounds = least_use least ∷ most_use least most ∷ copies_use c more ∷ [] in
      let inner = tree_counts e n (bounds ++ us) (ap (first_use_fault text limit (at_count n)) (sym (append_assoc (tree_uses text e) bounds us)) ∙ free) in
      let k = n + size (meant e) in
      let behind = first_use_fault text limit (at_count (k + more)) us in
      let code = use_code text limit (at_count k) (copies_use c more) in
      let second = bounds_code (number_of text least) (number_of text most) in
      let one = no_fault_here (bound_code (number_of text least)) least.start (fault_or second most.start (fault_or code c.start behind)) inner.later in
      let two = no_fault_here second most.start (fault_or code c.start behind) one.1 in
      let three = no_fault_here code c.start behind two.1 in
      let told = bounds_told (number_of text least) (number_of text most) two.0 in
      let low = leb-true (k + more) limit (no_code (nat_le (k + more) limit) S13 three.0) in
      let all = with_copies e most n told.1 in
      record { proper = (inner.proper, told.0, told.1, told.2); low = omega (arith, all, low); later = subst (λ k. AreFree k us) all three.1 }

  pub statements_count : (ss : List StatementTree) (n : ℕ) → n ≤ limit → AreFree n (expr_uses text ss)
      → AllProper d.symbols d.outputs (map (statement_of meant) ss) × (n + total (map (statement_of meant) ss) ≤ limit)
  statements_count [] n low free = (tt, omega (arith, low))
  statements_count (s ∷ ss) n low free =
      let first = tree_counts s.tree n (expr_uses text ss) free in
      let later = statements_count ss (n + size (meant s.tree)) first.low first.later in
      ((first.proper, later.0), omega (arith, later.1))

  -- and back

  tree_free : (t : Tree) (n : ℕ) (us : List Use) → Proper d.symbols d.outputs (meant t) → n + size (meant t) ≤ limit → AreFree (n + size (meant t)) us
      → AreFree n (tree_uses text t ++ us)
  tree_free (leaf t) n us h low later =
      let word = word_of text t in
      let one : n + 1 ≡ suc n = omega arith in
      no_fault_with (use_code text limit (at_count n) (leaf_use t)) t.start (first_use_fault text limit (at_count (suc n)) us)
      (leaf_tells (is_among word d.symbols) (nat_le limit n) (among_number d.symbols word h) (lt-leb limit n (omega (arith, low))))
      (subst (λ k. AreFree k us) one later)
  tree_free (union e f) n us (h, i) low later =
      let both : n + size (meant (union e f)) ≡ (n + size (meant e)) + size (meant f) =
      omega (arith, length-append (occurrences (meant e)) (occurrences (meant f))) in
      let second = tree_free f (n + size (meant e)) us i (omega (arith, both, low)) (subst (λ k. AreFree k us) both later) in
      ap (first_use_fault text limit (at_count n)) (append_assoc (tree_uses text e) (tree_uses text f) us)
      ∙ tree_free e n (tree_uses text f ++ us) h (omega (arith, both, low)) second
  tree_free (sequence e f) n us (h, i) low later =
      let both : n + size (meant (sequence e f)) ≡ (n + size (meant e)) + size (meant f) =
      omega (arith, length-append (occurrences (meant e)) (occurrences (meant f))) in
      let second = tree_free f (n + size (meant e)) us i (omega (arith, both, low)) (subst (λ k. AreFree k us) both later) in
      ap (first_use_fault text limit (at_count n)) (append_assoc (tree_uses text e) (tree_uses text f) us)
      ∙ tree_free e n (tree_uses text f ++ us) h (omega (arith, both, low)) second
  tree_free (star e) n us h low later = tree_free e n us h low later
  tree_free (plus e) n us h low later = tree_free e n us h low later
  tree_free (optional e) n us h low later = tree_free e n us h low later
  tree_free (marked e t) n us (h, i) low later =
      let now = at_count (n + size (meant e)) in
      let mark =
      no_fault_with (use_code text limit now (mark_use t)) t.start (first_use_fault text limit now us)
      (ap (λ b. if b then None else Some S3) (among_number d.outputs (word_of text t) i)) later in
      ap (first_use_fault text limit (at_count n)) (append_assoc (tree_uses text e) (mark_use t ∷ []) us) ∙ tree_free e n (mark_use t ∷ us) h low mark
  tree_free (counted e least most c) n us (h, le, some, few) low later =
      let more = (number_of text most - 1) * tree_leaves text e in
      let bounds = least_use least ∷ most_use least most ∷ copies_use c more ∷ [] in
      let k = n + size (meant e) in
      let all = with_copies e most n some in
      let behind = first_use_fault text limit (at_count (k + more)) us in
      let code = use_code text limit (at_count k) (copies_use c more) in
      let second = bounds_code (number_of text least) (number_of text most) in
      let room : k + more ≤ limit = omega (arith, all, low) in
      let three = no_fault_with code c.start behind (ap (λ b. if b then None else Some S13) (le-leb (k + more) limit room)) (subst (λ k. AreFree k us) (sym all) later) in
      let two = no_fault_with second most.start (fault_or code c.start behind) (bounds_tell (number_of text least) (number_of text most) le some few) three in
      let one =
      no_fault_with (bound_code (number_of text least)) least.start (fault_or second most.start (fault_or code c.start behind))
      (bound_tells (number_of text least) (omega (arith, le, few))) two in
      ap (first_use_fault text limit (at_count n)) (append_assoc (tree_uses text e) bounds us)
      ∙ tree_free e n (bounds ++ us) h (omega (arith, room)) one

  pub statements_free : (ss : List StatementTree) (n : ℕ) → AllProper d.symbols d.outputs (map (statement_of meant) ss)
      → n + total (map (statement_of meant) ss) ≤ limit → AreFree n (expr_uses text ss)
  statements_free [] n h low = refl
  statements_free (s ∷ ss) n (h, others) low =
      tree_free s.tree n (expr_uses text ss) h (omega (arith, low)) (statements_free ss (n + size (meant s.tree)) others (omega (arith, low)))
