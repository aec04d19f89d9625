-- Uses of names at which no code stands: their names are declared, and expressions have no more symbols than allowed.
use Rattle.std.proofs.Common.{◌≡◌, ℕ, zero, suc, ◌+◌, ◌-◌, ◌*◌, ◌<◌, ◌≤◌, Bool, true, false, ◌||◌, Some, None, List, [], ◌∷◌, ◌++◌, map, sum_by, flat_map, refl, ap, sym, ◌∙◌, subst, inl, inr, arith, if◌then◌else◌}
use Rattle.std.specs.Prelude.{Option, ◌&&◌, nat_le, bytes_eq}
use Rattle.std.specs.List.{list_any}
use Rattle.std.proofs.lemmas.Bool.{cases_Bool, cases_lt}
use Rattle.std.proofs.lemmas.Bool.Decides.{nat_tests}
use Rattle.std.proofs.lemmas.List.{append_assoc, append-nil}
use Rattle.std.proofs.lemmas.List.Folds.{list_any-append}
use Rattle.std.proofs.lemmas.List.Sums.{sum_by-append, sum_by-cons}
use Rattle.std.proofs.lemmas.Grind.{flat_map-append}
use Rattle.rx_syntax.specs.Lexemes.{Lexeme, word_of}
use Rattle.rx_syntax.specs.Grammar.{Tree, leaf, union, sequence, star, plus, optional, marked, counted, SymbolTokens, StatementTree, Syntax}
use Rattle.rx_syntax.specs.Uses.{Use, line_use, symbol_use, output_use, leaf_use, mark_use, least_use, most_use, copies_use, number_of, tree_leaves, tree_uses, line_uses, symbol_uses, output_uses, expr_uses, syntax_uses, Declared, undeclared, is_among, bounds_code, use_code, behind_use, use_token, fault_or, first_use_fault}
use Rattle.rx_syntax.specs.Accepted.{both_scan, trees_of, resolve}
use Rattle.rx_syntax.specs.declared.spec_code.SpecCode.{SpecCode}
use Rattle.rx_syntax.specs.declared.spec_code.SpecCode.TheVariants.{S3, S13, S15}
use Rattle.rx_syntax.proofs.Growth.{leaves}

-- no fault, neither here nor later
pub no_faults : (o : Option SpecCode) (place : ℕ) (later : Option (SpecCode × ℕ)) → fault_or o place later ≡ None → (o ≡ None) × (later ≡ None)
no_faults None place later e = (refl, e)
no_faults (Some c) place later e = absurd cc

module _ (text : List ℕ) (limit : ℕ) where
  -- what is declared behind the uses
  pub behind : Declared → List Use → Declared
  behind before [] = before
  behind before (u ∷ us) = behind (behind_use text before u) us

  -- no code stands at a use behind others
  pub no_code : (before : Declared) (us vs : List Use) (u : Use) → first_use_fault text limit before (us ++ (u ∷ vs)) ≡ None
      → use_code text limit (behind before us) u ≡ None
  unfolding behind
  no_code before [] vs u e = (no_faults (use_code text limit before u) (use_token u).start (first_use_fault text limit (behind_use text before u) vs) e).0
  no_code before (x ∷ us) vs u e =
      no_code (behind_use text before x) us vs u
      (no_faults (use_code text limit before x) (use_token x).start (first_use_fault text limit (behind_use text before x) (us ++ (u ∷ vs))) e).1

  -- the symbols and outputs that the uses declare
  abbrev pub new_symbols : Use → List (List ℕ)
  new_symbols (symbol_use t) = word_of text t ∷ []
  new_symbols u = []

  abbrev pub new_outputs : Use → List (List ℕ)
  new_outputs (output_use t) = word_of text t ∷ []
  new_outputs u = []

  abbrev pub new_leaves : Use → ℕ
  new_leaves (leaf_use t) = 1
  new_leaves (copies_use t more) = more
  new_leaves u = 0

  one_symbols : (before : Declared) (u : Use) → (behind_use text before u).symbols ≡ before.symbols ++ new_symbols u
  one_symbols before (symbol_use t) = refl
  one_symbols before u = sym (append-nil before.symbols)

  one_outputs : (before : Declared) (u : Use) → (behind_use text before u).outputs ≡ before.outputs ++ new_outputs u
  one_outputs before (output_use t) = refl
  one_outputs before u = sym (append-nil before.outputs)

  behind_symbols : (before : Declared) (us : List Use) → (behind before us).symbols ≡ before.symbols ++ flat_map new_symbols us
  unfolding behind
  behind_symbols before [] = sym (append-nil before.symbols)
  behind_symbols before (u ∷ us) =
      behind_symbols (behind_use text before u) us ∙ ap (λ names. names ++ flat_map new_symbols us) (one_symbols before u)
      ∙ append_assoc before.symbols (new_symbols u) (flat_map new_symbols us)

  behind_outputs : (before : Declared) (us : List Use) → (behind before us).outputs ≡ before.outputs ++ flat_map new_outputs us
  unfolding behind
  behind_outputs before [] = sym (append-nil before.outputs)
  behind_outputs before (u ∷ us) =
      behind_outputs (behind_use text before u) us ∙ ap (λ names. names ++ flat_map new_outputs us) (one_outputs before u)
      ∙ append_assoc before.outputs (new_outputs u) (flat_map new_outputs us)

  -- names stay declared
  among_more : (name : List ℕ) (names more : List (List ℕ)) → is_among name names ≡ true → is_among name (names ++ more) ≡ true
  among_more name names more h = list_any-append (bytes_eq name) names more ∙ ap (λ here. here || list_any (bytes_eq name) more) h

  by_name : (known : Bool) (rest : Option SpecCode) (c : SpecCode) → (if known then rest else Some c) ≡ None → known ≡ true
  by_name true rest c e = refl
  by_name false rest c e = absurd cc

  -- the symbol is among all that are declared
  pub leaf_known : (us vs : List Use) (t : Lexeme) → first_use_fault text limit undeclared (us ++ (leaf_use t ∷ vs)) ≡ None
      → is_among (word_of text t) (flat_map new_symbols (us ++ (leaf_use t ∷ vs))) ≡ true
  leaf_known us vs t e =
      let here = by_name _ _ _ (no_code undeclared us vs (leaf_use t) e) in
      let front : is_among (word_of text t) (flat_map new_symbols us) ≡ true =
      subst (λ names. is_among (word_of text t) names ≡ true) (behind_symbols undeclared us) here in
      subst (λ names. is_among (word_of text t) names ≡ true) (sym (flat_map-append new_symbols us (leaf_use t ∷ vs)))
      (among_more (word_of text t) (flat_map new_symbols us) (flat_map new_symbols (leaf_use t ∷ vs)) front)

  -- the output is among all that are declared
  pub mark_known : (us vs : List Use) (t : Lexeme) → first_use_fault text limit undeclared (us ++ (mark_use t ∷ vs)) ≡ None
      → is_among (word_of text t) (flat_map new_outputs (us ++ (mark_use t ∷ vs))) ≡ true
  mark_known us vs t e =
      let here = by_name _ _ _ (no_code undeclared us vs (mark_use t) e) in
      let front : is_among (word_of text t) (flat_map new_outputs us) ≡ true =
      subst (λ names. is_among (word_of text t) names ≡ true) (behind_outputs undeclared us) here in
      subst (λ names. is_among (word_of text t) names ≡ true) (sym (flat_map-append new_outputs us (mark_use t ∷ vs)))
      (among_more (word_of text t) (flat_map new_outputs us) (flat_map new_outputs (mark_use t ∷ vs)) front)

  -- the numbers of a counted repeat are bounds
  pub bounds_known : (us vs : List Use) (least most : Lexeme) → first_use_fault text limit undeclared (us ++ (most_use least most ∷ vs)) ≡ None
      → (number_of text least ≤ number_of text most) × (1 ≤ number_of text most) × (number_of text most ≤ 255)
  bounds_known us vs least most e = by_bounds (number_of text least) (number_of text most) (no_code undeclared us vs (most_use least most) e)
    where
      test_true : (test : Bool) → ◌≡◌ {A = Option SpecCode} (if test then None else Some S15) None → test ≡ true
      test_true true e = refl
      test_true false e = absurd cc

      both_true : (a b : Bool) → (a && b) ≡ true → (a ≡ true) × (b ≡ true)
      both_true true b e = (refl, e)
      both_true false b e = absurd cc

      le_true : (a b : ℕ) → nat_le a b ≡ true → a ≤ b
      le_true a b e = grind (arith, nat_tests)

      by_bounds : (m n : ℕ) → bounds_code m n ≡ None → (m ≤ n) × (1 ≤ n) × (n ≤ 255)
      by_bounds m n e =
          let all = test_true (nat_le n 255 && nat_le 1 n && nat_le m n) e in
          let last = both_true (nat_le n 255 && nat_le 1 n) (nat_le m n) all in
          let first = both_true (nat_le n 255) (nat_le 1 n) last.0 in
          (le_true m n last.1, le_true 1 n first.1, le_true n 255 first.0)

  -- expressions have at most as many symbols as allowed

  by_limit : (known : Bool) (before : ℕ) (c d : SpecCode) → (if known then (if nat_le limit before then Some c else None) else Some d) ≡ None
      → before < limit
  by_limit true before c d e = elim (cases_lt before limit) [
    | inl lt ↦ lt
    | inr le ↦ absurd (past (le_test limit before le) e)
  ]
    where
      le_test : (a b : ℕ) → a ≤ b → nat_le a b ≡ true
      le_test a b le = grind (arith, le)

      past : nat_le limit before ≡ true → ◌≡◌ {A = Option SpecCode} (if nat_le limit before then Some c else None) None → ⊥
      past full e =
          let clash : ◌≡◌ {A = Option SpecCode} (Some c) None = subst (λ b. ◌≡◌ {A = Option SpecCode} (if b then Some c else None) None) full e in
          cc
  by_limit false before c d e = absurd cc

  one_leaf : (before : Declared) (u : Use) → use_code text limit before u ≡ None → before.leaves ≤ limit
      → ((behind_use text before u).leaves ≡ before.leaves + new_leaves u) × ((behind_use text before u).leaves ≤ limit)
  one_leaf before (leaf_use t) e le =
      let lt = by_limit (is_among (word_of text t) before.symbols) before.leaves S13 S3 e in
      (omega arith, omega (arith, lt))
  one_leaf before (copies_use t more) e le = (refl, by_more (before.leaves + more) e)
    where
      by_more : (n : ℕ) → ◌≡◌ {A = Option SpecCode} (if nat_le n limit then None else Some S13) None → n ≤ limit
      by_more n e = elim (cases_Bool (nat_le n limit)) [
        | inl fits ↦ grind (arith, nat_tests, fits)
        | inr full ↦ absurd (let clash : ◌≡◌ {A = Option SpecCode} (Some S13) None = rw full at e in cc)
      ]
  one_leaf before u e le = (omega arith, le)

  leaves_within : (before : Declared) (us : List Use) → first_use_fault text limit before us ≡ None → before.leaves ≤ limit
      → before.leaves + sum_by new_leaves us ≤ limit
  leaves_within before [] e le = omega (arith, le)
  leaves_within before (u ∷ us) e le =
      let cut = no_faults (use_code text limit before u) (use_token u).start (first_use_fault text limit (behind_use text before u) us) e in
      let here = one_leaf before u cut.0 le in
      omega (arith, sum_by-cons new_leaves u us, here.0, leaves_within (behind_use text before u) us cut.1 here.1)

  -- what the uses of a specification declare

  -- uses in expressions declare nothing of this sort
  record Quiet {A : Type 0} (of : Use → List A) : Type 0 where
    leafs : (t : Lexeme) → of (leaf_use t) ≡ []
    marks : (t : Lexeme) → of (mark_use t) ≡ []
    leasts : (t : Lexeme) → of (least_use t) ≡ []
    mosts : (s t : Lexeme) → of (most_use s t) ≡ []
    copies : (t : Lexeme) (n : ℕ) → of (copies_use t n) ≡ []

  trees_declare : {A : Type 0} (of : Use → List A) → Quiet of → (e : Tree) → flat_map of (tree_uses text e) ≡ []
  trees_declare of quiet (leaf t) = ap (λ xs. xs ++ []) (quiet.leafs t)
  trees_declare of quiet (union e f) =
      flat_map-append of (tree_uses text e) (tree_uses text f) ∙ ap (λ xs. xs ++ flat_map of (tree_uses text f)) (trees_declare of quiet e)
      ∙ trees_declare of quiet f
  trees_declare of quiet (sequence e f) =
      flat_map-append of (tree_uses text e) (tree_uses text f) ∙ ap (λ xs. xs ++ flat_map of (tree_uses text f)) (trees_declare of quiet e)
      ∙ trees_declare of quiet f
  trees_declare of quiet (star e) = trees_declare of quiet e
  trees_declare of quiet (plus e) = trees_declare of quiet e
  trees_declare of quiet (optional e) = trees_declare of quiet e
  trees_declare of quiet (marked e t) =
      flat_map-append of (tree_uses text e) (mark_use t ∷ []) ∙ ap (λ xs. xs ++ (of (mark_use t) ++ [])) (trees_declare of quiet e)
      ∙ ap (λ xs. xs ++ []) (quiet.marks t)
  trees_declare of quiet (counted e least most c) =
      let more = (number_of text most - 1) * tree_leaves text e in
      flat_map-append of (tree_uses text e) (least_use least ∷ most_use least most ∷ copies_use c more ∷ [])
      ∙ rw (trees_declare of quiet e, quiet.leasts least, quiet.mosts least most, quiet.copies c more) refl

  exprs_declare : {A : Type 0} (of : Use → List A) → Quiet of → (es : List StatementTree) → flat_map of (expr_uses text es) ≡ []
  exprs_declare of quiet [] = refl
  exprs_declare of quiet (e ∷ es) =
      flat_map-append of (tree_uses text e.tree) (expr_uses text es)
      ∙ ap (λ xs. xs ++ flat_map of (expr_uses text es)) (trees_declare of quiet e.tree) ∙ exprs_declare of quiet es

  lines_declare : {A : Type 0} (of : Use → List A) → ((t : Lexeme) → of (line_use t) ≡ []) → (ts : List Lexeme) → flat_map of (line_uses ts) ≡ []
  lines_declare of none [] = refl
  lines_declare of none (t ∷ ts) = ap (λ xs. xs ++ flat_map of (line_uses ts)) (none t) ∙ lines_declare of none ts

  symbols_of_symbols : (ss : List SymbolTokens) → flat_map new_symbols (symbol_uses ss) ≡ map (λ (s : SymbolTokens). word_of text s.name) ss
  symbols_of_symbols [] = refl
  symbols_of_symbols (s ∷ ss) = ap (λ names. word_of text s.name ∷ names) (symbols_of_symbols ss)

  symbols_of_outputs : (ts : List Lexeme) → flat_map new_symbols (output_uses ts) ≡ []
  symbols_of_outputs [] = refl
  symbols_of_outputs (t ∷ ts) = symbols_of_outputs ts

  outputs_of_symbols : (ss : List SymbolTokens) → flat_map new_outputs (symbol_uses ss) ≡ []
  outputs_of_symbols [] = refl
  outputs_of_symbols (s ∷ ss) = outputs_of_symbols ss

  outputs_of_outputs : (ts : List Lexeme) → flat_map new_outputs (output_uses ts) ≡ map (word_of text) ts
  outputs_of_outputs [] = refl
  outputs_of_outputs (t ∷ ts) = ap (λ names. word_of text t ∷ names) (outputs_of_outputs ts)

  -- the four sections
  sections : {A : Type 0} (of : Use → List A) (s : Syntax)
      → flat_map of (syntax_uses text s)
      ≡ ((flat_map of (line_uses s.lines) ++ flat_map of (symbol_uses s.symbols)) ++ flat_map of (output_uses s.outputs)) ++ flat_map of (expr_uses text s.exprs)
  sections of s =
      let lines = line_uses s.lines in
      let symbols = symbol_uses s.symbols in
      let outputs = output_uses s.outputs in
      let exprs = expr_uses text s.exprs in
      flat_map-append of ((lines ++ symbols) ++ outputs) exprs
      ∙ ap (λ xs. xs ++ flat_map of exprs) (flat_map-append of (lines ++ symbols) outputs
      ∙ ap (λ xs. xs ++ flat_map of outputs) (flat_map-append of lines symbols))

  quiet_symbols : Quiet new_symbols
  quiet_symbols = record { leafs = λ t. refl; marks = λ t. refl; leasts = λ t. refl; mosts = λ s t. refl; copies = λ t n. refl }

  quiet_outputs : Quiet new_outputs
  quiet_outputs = record { leafs = λ t. refl; marks = λ t. refl; leasts = λ t. refl; mosts = λ s t. refl; copies = λ t n. refl }

  pub declared_symbols : (s : Syntax) → flat_map new_symbols (syntax_uses text s) ≡ map (λ (s : SymbolTokens). word_of text s.name) s.symbols
  declared_symbols s =
      sections new_symbols s
      ∙ rw (lines_declare new_symbols (λ t. refl) s.lines, symbols_of_symbols s.symbols, symbols_of_outputs s.outputs, exprs_declare new_symbols quiet_symbols s.exprs)
      (simp append-nil)

  pub declared_outputs : (s : Syntax) → flat_map new_outputs (syntax_uses text s) ≡ map (word_of text) s.outputs
  declared_outputs s =
      sections new_outputs s
      ∙ rw (lines_declare new_outputs (λ t. refl) s.lines, outputs_of_symbols s.symbols, outputs_of_outputs s.outputs, exprs_declare new_outputs quiet_outputs s.exprs)
      (simp append-nil)

  -- the symbols of expressions among the uses

  leaves_of : (symbol output : List ℕ → ℕ) (e : Tree) → leaves (resolve symbol output text e) ≡ tree_leaves text e
  leaves_of symbol output (leaf t) = refl
  leaves_of symbol output (union e f) = omega (arith, leaves_of symbol output e, leaves_of symbol output f)
  leaves_of symbol output (sequence e f) = omega (arith, leaves_of symbol output e, leaves_of symbol output f)
  leaves_of symbol output (star e) = leaves_of symbol output e
  leaves_of symbol output (plus e) = leaves_of symbol output e
  leaves_of symbol output (optional e) = leaves_of symbol output e
  leaves_of symbol output (marked e t) = leaves_of symbol output e
  leaves_of symbol output (counted e least most c) = ap (λ n. number_of text most * n) (leaves_of symbol output e)

  leaves_used : (e : Tree) → tree_leaves text e ≤ sum_by new_leaves (tree_uses text e)
  leaves_used (leaf t) = omega arith
  leaves_used (union e f) = omega (arith, sum_by-append new_leaves (tree_uses text e) (tree_uses text f), leaves_used e, leaves_used f)
  leaves_used (sequence e f) = omega (arith, sum_by-append new_leaves (tree_uses text e) (tree_uses text f), leaves_used e, leaves_used f)
  leaves_used (star e) = leaves_used e
  leaves_used (plus e) = leaves_used e
  leaves_used (optional e) = leaves_used e
  leaves_used (marked e t) =
      omega (arith, sum_by-append new_leaves (tree_uses text e) (mark_use t ∷ []), sum_by-cons new_leaves (mark_use t) [], leaves_used e)
  leaves_used (counted e least most c) =
      let n = number_of text most in
      let more = (n - 1) * tree_leaves text e in
      omega (
        arith,
        sum_by-append new_leaves (tree_uses text e) (least_use least ∷ most_use least most ∷ copies_use c more ∷ []),
        sum_by-cons new_leaves (least_use least) (most_use least most ∷ copies_use c more ∷ []),
        sum_by-cons new_leaves (most_use least most) (copies_use c more ∷ []),
        sum_by-cons new_leaves (copies_use c more) [],
        leaves_used e,
        copied n (tree_leaves text e),
      )
    where
      copied : (n k : ℕ) → n * k ≤ k + (n - 1) * k
      copied zero k = omega arith
      copied (suc n) k =
          let one : suc n - 1 ≡ n = omega arith in
          rw one (omega arith)

  -- the expressions of one kind and those of the other
  expr_leaves : (symbol output : List ℕ → ℕ) (ss : List StatementTree)
      → sum_by leaves (map (resolve symbol output text) (trees_of false ss)) + sum_by leaves (map (resolve symbol output text) (trees_of true ss))
      ≤ sum_by new_leaves (expr_uses text ss)
  expr_leaves symbol output [] = omega arith
  expr_leaves symbol output (s ∷ ss) =
      let of = resolve symbol output text in
      let uses = sum_by-append new_leaves (tree_uses text s.tree) (expr_uses text ss) in
      let here : leaves (of s.tree) ≤ sum_by new_leaves (tree_uses text s.tree) = omega (arith, leaves_of symbol output s.tree, leaves_used s.tree) in
      by s.scans (omega (arith, uses, here, expr_leaves symbol output ss))
    where
      by : (kind : Bool) → leaves (resolve symbol output text s.tree)
          + (sum_by leaves (map (resolve symbol output text) (trees_of false ss))
          + sum_by leaves (map (resolve symbol output text) (trees_of true ss)))
          ≤ sum_by new_leaves (expr_uses text (s ∷ ss))
          → sum_by leaves (map (resolve symbol output text) (if both_scan false kind then s.tree ∷ trees_of false ss else trees_of false ss))
          + sum_by leaves (map (resolve symbol output text) (if both_scan true kind then s.tree ∷ trees_of true ss else trees_of true ss))
          ≤ sum_by new_leaves (expr_uses text (s ∷ ss))
      by false le = omega (arith, le, sum_by-cons leaves (resolve symbol output text s.tree) (map (resolve symbol output text) (trees_of false ss)))
      by true le = omega (arith, le, sum_by-cons leaves (resolve symbol output text s.tree) (map (resolve symbol output text) (trees_of true ss)))

  -- where no code stands, the expressions have at most so many symbols
  pub few_symbols : (symbol output : List ℕ → ℕ) (s : Syntax) → first_use_fault text limit undeclared (syntax_uses text s) ≡ None
      → sum_by leaves (map (resolve symbol output text) (trees_of false s.exprs))
      + sum_by leaves (map (resolve symbol output text) (trees_of true s.exprs)) ≤ limit
  few_symbols symbol output s e = omega (
    arith,
    leaves_within undeclared (syntax_uses text s) e (omega arith),
    sum_by-append new_leaves ((line_uses s.lines ++ symbol_uses s.symbols) ++ output_uses s.outputs) (expr_uses text s.exprs),
    expr_leaves symbol output s.exprs,
  )
