-- The uses met while the tokens are read are those of what the tokens say.
use Rattle.std.proofs.Common.{◌≡◌, ℕ, suc, ◌+◌, ◌-◌, ◌*◌, Bool, true, false, List, [], ◌∷◌, ◌++◌, map, refl, ap, sym, ◌∙◌, subst, inl, inr, arith}
use Rattle.std.specs.Prelude.{Option, ◌≢◌, ⊤, fold}
use Rattle.std.proofs.lemmas.List.{append_assoc, append-nil}
use Rattle.rx_syntax.specs.Lexemes.{Lexeme}
use Rattle.rx_syntax.specs.Grammar.{Tree, leaf, union, counted, Level, unions, sequences, parts, Derives, named, closed, classed, starred, looped, optioned, noted, repeated, alone, followed, single, either, AreNames, IsPattern, IsNumber, class_tree, NamesOf, SymbolTokens, StatementTree, keyword_of, SymbolOf, ExprOf, Statements, one, more, Syntax, Specifies}
use Rattle.rx_syntax.specs.Uses.{Use, line_use, symbol_use, pattern_use, output_use, mark_use, leaf_use, least_use, most_use, copies_use, number_of, tree_leaves, tree_uses, line_uses, symbol_uses, output_uses, expr_uses, syntax_uses}
use Rattle.rx_syntax.specs.UsesRead.{Counts, part_leaves, repeated_leaves, closed_at, kind_of_use, use_over, counts_over, use_on, counts_on, listed, uses_along, counts_along}
use Rattle.rx_syntax.specs.declared.kind.Kind.{Kind}
use Rattle.rx_syntax.specs.declared.kind.Kind.TheVariants.{Name, Bits, Pattern, Line, Symbol, Output, Expr, Scan, Bar, Mark, Open, Close, Equals, Semicolon, OpenBrace, CloseBrace, Comma, OpenBracket, CloseBracket}
use Rattle.rx_syntax.specs.declared.machine.Due.{Due}
use Rattle.rx_syntax.specs.declared.machine.Due.TheVariants.{FirstLine, LineName, MoreNames, NextLine, SymbolName, SymbolEquals, SymbolPattern, SymbolEnd, NextSymbol, OutputName, MoreOutputs, NextOutput, Part, Rest, ClassName, ClassNames, NextExpr}
use Rattle.rx_syntax.specs.declared.machine.State.{State}
use Rattle.rx_syntax.specs.Machine.{at, step, next_state, run}
use Rattle.rx_syntax.proofs.Derived.{goes, ready, Takes, line_first, line_next, symbol_first, symbol_next, output_first, output_next, expr_first, expr_next, scan_first, scan_next, derived_run, class_run, line_first_run, output_first_run, line_run, symbol_run, output_run, expr_run, statements_run, lines_run, symbols_run, outputs_run}

-- arithmetic of copies

part_is : (leaves before part c : ℕ) → leaves ≡ c + part → before ≡ c → leaves - before ≡ part
part_is leaves before part c e f = omega (arith, e, f)

repeated_is : (leaves before part c n : ℕ) → leaves ≡ c + part → before ≡ c → before + n * (leaves - before) ≡ c + n * part
repeated_is leaves before part c n e f = rw (part_is leaves before part c e f, f) refl

module _ (text : List ℕ) where
  pub uses_append : (xs ys : List Lexeme) (s : Option State) (c : Counts Lexeme)
      → uses_along text (xs ++ ys) s c ≡ uses_along text xs s c ++ uses_along text ys (run xs s) (counts_along text xs s c)
  uses_append [] ys s c = refl
  uses_append (x ∷ xs) ys s c =
      ap (λ us. listed (use_on text s c x) ++ us) (uses_append xs ys (next_state s x.kind) (counts_on text s c x))
      ∙ sym (append_assoc (listed (use_on text s c x)) (uses_along text xs (next_state s x.kind) (counts_on text s c x))
      (uses_along text ys (run xs (next_state s x.kind)) (counts_along text xs (next_state s x.kind) (counts_on text s c x))))

  pub counts_append : (xs ys : List Lexeme) (s : Option State) (c : Counts Lexeme)
      → counts_along text (xs ++ ys) s c ≡ counts_along text ys (run xs s) (counts_along text xs s c)
  counts_append [] ys s c = refl
  counts_append (x ∷ xs) ys s c = counts_append xs ys (next_state s x.kind) (counts_on text s c x)

  -- one token of a known kind
  uses_go : (t : Lexeme) (ts : List Lexeme) (due : Due) (d : ℕ) (kind : Kind) (c : Counts Lexeme) → t.kind ≡ kind
      → uses_along text (t ∷ ts) (at due d) c
      ≡ listed (use_over text c (kind_of_use due kind) t) ++ uses_along text ts (step due kind d) (counts_over text c (kind_of_use due kind) t)
  uses_go t ts due d kind c e =
      ap (λ k. listed (use_over text c (kind_of_use due k) t) ++ uses_along text ts (step due k d) (counts_over text c (kind_of_use due k) t)) e

  -- a list, and then another
  uses : (xs ys zs : List Lexeme) (s m : Option State) (c after : Counts Lexeme) (us vs : List Use) → zs ≡ xs ++ ys → run xs s ≡ m
      → counts_along text xs s c ≡ after → uses_along text xs s c ≡ us → uses_along text ys m after ≡ vs → uses_along text zs s c ≡ us ++ vs
  uses xs ys zs s m c after us vs whole ran counts first second =
      ap (λ ts. uses_along text ts s c) whole ∙ uses_append xs ys s c ∙ ap (λ n. uses_along text xs s c ++ uses_along text ys n (counts_along text xs s c)) ran
      ∙ ap (λ n. uses_along text xs s c ++ uses_along text ys m n) counts ∙ ap (λ us. us ++ uses_along text ys m after) first ∙ ap (λ vs. us ++ vs) second

  counts : (xs ys zs : List Lexeme) (s m : Option State) (c after last : Counts Lexeme) → zs ≡ xs ++ ys → run xs s ≡ m
      → counts_along text xs s c ≡ after → counts_along text ys m after ≡ last → counts_along text zs s c ≡ last
  counts xs ys zs s m c after last whole ran first second =
      ap (λ ts. counts_along text ts s c) whole ∙ counts_append xs ys s c ∙ ap (λ n. counts_along text ys n (counts_along text xs s c)) ran
      ∙ ap (λ n. counts_along text ys m n) first ∙ second

  -- of expressions

  -- a part begins where so many symbols were counted
  abbrev BeginsAt : Level → ℕ → ℕ → Type 0
  BeginsAt parts before leaves = before ≡ leaves
  BeginsAt sequences before leaves = ⊤
  BeginsAt unions before leaves = ⊤

  -- The tokens have the uses of the expression, and its symbols are counted behind them.
  pub record TreeRead (l : Level) (xs : List Lexeme) (e : Tree) (s : Option State) (c : Counts Lexeme) : Type 0 where
    pub after : Counts Lexeme
    pub used : uses_along text xs s c ≡ tree_uses text e
    pub behind : counts_along text xs s c ≡ after
    pub leaves : after.leaves ≡ c.leaves + tree_leaves text e
    pub opened : after.opened ≡ c.opened
    pub part : BeginsAt l after.before_part c.leaves

  moved : {l : Level} {xs : List Lexeme} {e : Tree} {s : Option State} {c : Counts Lexeme} (ys : List Lexeme) → xs ≡ ys → TreeRead l ys e s c
      → TreeRead l xs e s c
  moved {l = l} {e = e} {s = s} {c = c} ys whole r = subst (λ ts. TreeRead l ts e s c) (sym whole) r

  named_read : (bb : Bool) (d : ℕ) (c : Counts Lexeme) (t : Lexeme) → t.kind ≡ Name → TreeRead parts (t ∷ []) (leaf t) (at (ready bb) d) c
  named_read true d c t k = record {
    after = record c { leaves = suc c.leaves; before_part = c.leaves };
    used = rw k refl;
    behind = rw k refl;
    leaves = omega arith;
    opened = refl;
    part = refl;
  }
  named_read false d c t k = record {
    after = record c { leaves = suc c.leaves; before_part = c.leaves };
    used = rw k refl;
    behind = rw k refl;
    leaves = omega arith;
    opened = refl;
    part = refl;
  }

  abbrev with_open : Counts Lexeme → Counts Lexeme
  with_open c = record c { opened = c.leaves ∷ c.opened }

  opened_used : (bb : Bool) (d : ℕ) (c : Counts Lexeme) (o : Lexeme) (ys : List Lexeme) → o.kind ≡ Open
      → (uses_along text (o ∷ ys) (at (ready bb) d) c ≡ uses_along text ys (at Part (suc d)) (with_open c))
      × (counts_along text (o ∷ ys) (at (ready bb) d) c ≡ counts_along text ys (at Part (suc d)) (with_open c))
  opened_used true d c o ys k = (rw k refl, rw k refl)
  opened_used false d c o ys k = (rw k refl, rw k refl)

  closed_read : (bb : Bool) (d : ℕ) (c : Counts Lexeme) (o z : Lexeme) (ys : List Lexeme) (e : Tree) → o.kind ≡ Open → z.kind ≡ Close
      → run ys (at Part (suc d)) ≡ at Rest (suc d) → TreeRead unions ys e (at Part (suc d)) (with_open c)
      → TreeRead parts (o ∷ (ys ++ (z ∷ []))) e (at (ready bb) d) c
  closed_read bb d c o z ys e ko kz ran r =
      let front = opened_used bb d c o (ys ++ (z ∷ [])) ko in
      let ends : counts_along text (z ∷ []) (at Rest (suc d)) r.after ≡ closed_at r.after.opened r.after = rw kz refl in
      record {
        after = record r.after { before_part = c.leaves; opened = c.opened };
        used = front.0 ∙ uses ys (z ∷ []) (ys ++ (z ∷ [])) (at Part (suc d)) (at Rest (suc d)) (with_open c) r.after (tree_uses text e) [] refl ran
            r.behind r.used (rw kz refl) ∙ append-nil (tree_uses text e);
        behind = front.1 ∙ counts ys (z ∷ []) (ys ++ (z ∷ [])) (at Part (suc d)) (at Rest (suc d)) (with_open c) r.after
            (record r.after { before_part = c.leaves; opened = c.opened }) refl ran r.behind (ends ∙ ap (λ o. closed_at o r.after) r.opened);
        leaves = r.leaves;
        opened = refl;
        part = refl;
      }

  -- a postfix sign that is no use
  signed_read : (ys xs : List Lexeme) (e f : Tree) (s : Lexeme) (bb : Bool) (d : ℕ) (c : Counts Lexeme) → xs ≡ ys ++ (s ∷ [])
      → run ys (at (ready bb) d) ≡ at Rest d → tree_uses text f ≡ tree_uses text e → tree_leaves text f ≡ tree_leaves text e
      → ((n : Counts Lexeme) → (uses_along text (s ∷ []) (at Rest d) n ≡ []) × (counts_along text (s ∷ []) (at Rest d) n ≡ n))
      → TreeRead parts ys e (at (ready bb) d) c → TreeRead parts xs f (at (ready bb) d) c
  signed_read ys xs e f s bb d c whole ran us ls none r = record {
    after = r.after;
    used = uses ys (s ∷ []) xs (at (ready bb) d) (at Rest d) c r.after (tree_uses text e) [] whole ran r.behind r.used (none r.after).0
        ∙ append-nil (tree_uses text e) ∙ sym us;
    behind = counts ys (s ∷ []) xs (at (ready bb) d) (at Rest d) c r.after r.after whole ran r.behind (none r.after).1;
    leaves = r.leaves ∙ ap (λ n. c.leaves + n) (sym ls);
    opened = r.opened;
    part = r.part;
  }

  noted_read : (ys xs : List Lexeme) (e f : Tree) (s t : Lexeme) (bb : Bool) (d : ℕ) (c : Counts Lexeme) → xs ≡ ys ++ (s ∷ t ∷ [])
      → run ys (at (ready bb) d) ≡ at Rest d → tree_uses text f ≡ tree_uses text e ++ (mark_use t ∷ []) → tree_leaves text f ≡ tree_leaves text e
      → s.kind ≡ Mark → t.kind ≡ Name → TreeRead parts ys e (at (ready bb) d) c → TreeRead parts xs f (at (ready bb) d) c
  noted_read ys xs e f s t bb d c whole ran us ls k n r = record {
    after = r.after;
    used = uses ys (s ∷ t ∷ []) xs (at (ready bb) d) (at Rest d) c r.after (tree_uses text e) (mark_use t ∷ []) whole ran r.behind r.used (rw (k, n) refl)
        ∙ sym us;
    behind = counts ys (s ∷ t ∷ []) xs (at (ready bb) d) (at Rest d) c r.after r.after whole ran r.behind (rw (k, n) refl);
    leaves = r.leaves ∙ ap (λ n. c.leaves + n) (sym ls);
    opened = r.opened;
    part = r.part;
  }

  -- a counted repeat

  abbrev with_bounds : Counts Lexeme → Lexeme → Lexeme → Counts Lexeme
  with_bounds c least most = record c { least = least; most = number_of text most }

  abbrev with_copies : Counts Lexeme → Lexeme → Lexeme → Counts Lexeme
  with_copies c least most = record (with_bounds c least most) { leaves = repeated_leaves (with_bounds c least most) }

  abbrev bound_uses : Lexeme → Lexeme → Lexeme → ℕ → List Use
  bound_uses least most z part = least_use least ∷ most_use least most ∷ copies_use z ((number_of text most - 1) * part) ∷ []

  bounds_used : (d : ℕ) (c : Counts Lexeme) (o least comma most z : Lexeme) → o.kind ≡ OpenBrace → IsNumber least → comma.kind ≡ Comma
      → IsNumber most → z.kind ≡ CloseBrace
      → (uses_along text (o ∷ least ∷ comma ∷ most ∷ z ∷ []) (at Rest d) c ≡ bound_uses least most z (part_leaves c))
      × (counts_along text (o ∷ least ∷ comma ∷ most ∷ z ∷ []) (at Rest d) c ≡ with_copies c least most)
  bounds_used d c o least comma most z ko (inl kl) kc (inl km) kz = (rw (ko, kl, kc, km, kz) refl, rw (ko, kl, kc, km, kz) refl)
  bounds_used d c o least comma most z ko (inl kl) kc (inr km) kz = (rw (ko, kl, kc, km, kz) refl, rw (ko, kl, kc, km, kz) refl)
  bounds_used d c o least comma most z ko (inr kl) kc (inl km) kz = (rw (ko, kl, kc, km, kz) refl, rw (ko, kl, kc, km, kz) refl)
  bounds_used d c o least comma most z ko (inr kl) kc (inr km) kz = (rw (ko, kl, kc, km, kz) refl, rw (ko, kl, kc, km, kz) refl)

  repeated_read : (ys xs : List Lexeme) (e : Tree) (o least comma most z : Lexeme) (bb : Bool) (d : ℕ) (c : Counts Lexeme)
      → xs ≡ ys ++ (o ∷ least ∷ comma ∷ most ∷ z ∷ []) → run ys (at (ready bb) d) ≡ at Rest d
      → o.kind ≡ OpenBrace → IsNumber least → comma.kind ≡ Comma → IsNumber most → z.kind ≡ CloseBrace
      → TreeRead parts ys e (at (ready bb) d) c → TreeRead parts xs (counted e least most z) (at (ready bb) d) c
  repeated_read ys xs e o least comma most z bb d c whole ran ko kl kc km kz r =
      let bounds : List Lexeme = o ∷ least ∷ comma ∷ most ∷ z ∷ [] in
      let tail = bounds_used d r.after o least comma most z ko kl kc km kz in
      let part : part_leaves r.after ≡ tree_leaves text e = part_is r.after.leaves r.after.before_part (tree_leaves text e) c.leaves r.leaves r.part in
      record {
        after = with_copies r.after least most;
        used = uses ys bounds xs (at (ready bb) d) (at Rest d) c r.after (tree_uses text e) (bound_uses least most z (part_leaves r.after)) whole ran
            r.behind r.used tail.0 ∙ ap (λ n. tree_uses text e ++ bound_uses least most z n) part;
        behind = counts ys bounds xs (at (ready bb) d) (at Rest d) c r.after (with_copies r.after least most) whole ran r.behind tail.1;
        leaves = repeated_is r.after.leaves r.after.before_part (tree_leaves text e) c.leaves (number_of text most) r.leaves r.part;
        opened = r.opened;
        part = r.part;
      }

  -- a class

  abbrev leaf_uses : List Lexeme → List Use
  leaf_uses ts = map (λ t. leaf_use t) ts

  abbrev class_of : Tree → List Lexeme → Tree
  class_of e ts = fold (λ f u. union f (leaf u)) e ts

  class_uses : (e : Tree) (ts : List Lexeme) → tree_uses text (class_of e ts) ≡ tree_uses text e ++ leaf_uses ts
  class_uses e [] = sym (append-nil (tree_uses text e))
  class_uses e (t ∷ ts) = class_uses (union e (leaf t)) ts ∙ append_assoc (tree_uses text e) (leaf_use t ∷ []) (leaf_uses ts)

  abbrev with_leaves : Counts Lexeme → List Lexeme → Counts Lexeme
  with_leaves c [] = c
  with_leaves c (t ∷ ts) = with_leaves (record c { leaves = suc c.leaves }) ts

  names_used : (d : ℕ) (c : Counts Lexeme) (names : List Lexeme) → AreNames names
      → (uses_along text names (at ClassNames d) c ≡ leaf_uses names) × (counts_along text names (at ClassNames d) c ≡ with_leaves c names)
  names_used d c [] are = (refl, refl)
  names_used d c (t ∷ ts) (k, others) =
      let more = names_used d (record c { leaves = suc c.leaves }) ts others in
      (uses_go t ts ClassNames d Name c k ∙ ap (λ us. leaf_use t ∷ us) more.0, rw k more.1)

  class_leaves : (c : Counts Lexeme) (e : Tree) (start : ℕ) (names : List Lexeme) → c.leaves ≡ start + tree_leaves text e
      → ((with_leaves c names).leaves ≡ start + tree_leaves text (class_of e names)) × ((with_leaves c names).opened ≡ c.opened)
      × ((with_leaves c names).before_part ≡ c.before_part)
  class_leaves c e start [] h = (h, refl, refl)
  class_leaves c e start (t ∷ ts) h = class_leaves (record c { leaves = suc c.leaves }) (union e (leaf t)) start ts (omega (arith, h))

  bracket_used : (bb : Bool) (d : ℕ) (c : Counts Lexeme) (o : Lexeme) (ys : List Lexeme) → o.kind ≡ OpenBracket
      → (uses_along text (o ∷ ys) (at (ready bb) d) c ≡ uses_along text ys (at ClassName (suc d)) c)
      × (counts_along text (o ∷ ys) (at (ready bb) d) c ≡ counts_along text ys (at ClassName (suc d)) c)
  bracket_used true d c o ys k = (rw k refl, rw k refl)
  bracket_used false d c o ys k = (rw k refl, rw k refl)

  classed_read : (bb : Bool) (d : ℕ) (c : Counts Lexeme) (o t z : Lexeme) (names : List Lexeme) → o.kind ≡ OpenBracket → z.kind ≡ CloseBracket
      → AreNames (t ∷ names) → TreeRead parts (o ∷ ((t ∷ names) ++ (z ∷ []))) (class_tree t names) (at (ready bb) d) c
  classed_read bb d c o t z names ko kz are =
      let front = bracket_used bb d c o ((t ∷ names) ++ (z ∷ [])) ko in
      let first : Counts Lexeme = record c { leaves = suc c.leaves; before_part = c.leaves } in
      let rest = names_used (suc d) first names are.1 in
      let last = with_leaves first names in
      let sizes = class_leaves first (leaf t) c.leaves names (omega arith) in
      let all : uses_along text (t ∷ names) (at ClassName (suc d)) c ≡ tree_uses text (class_tree t names) =
      uses_go t names ClassName (suc d) Name c are.0 ∙ ap (λ us. leaf_use t ∷ us) rest.0 ∙ sym (class_uses (leaf t) names) in
      let counted_all : counts_along text (t ∷ names) (at ClassName (suc d)) c ≡ last = rw are.0 rest.1 in
      let ran = class_run (suc d) t names are in
      record {
        after = last;
        used = front.0 ∙ uses (t ∷ names) (z ∷ []) ((t ∷ names) ++ (z ∷ [])) (at ClassName (suc d)) (at ClassNames (suc d)) c last
            (tree_uses text (class_tree t names)) [] refl ran counted_all all (rw kz refl) ∙ append-nil (tree_uses text (class_tree t names));
        behind = front.1 ∙ counts (t ∷ names) (z ∷ []) ((t ∷ names) ++ (z ∷ [])) (at ClassName (suc d)) (at ClassNames (suc d)) c last last refl ran
            counted_all (rw kz refl);
        leaves = sizes.0;
        opened = sizes.1;
        part = sizes.2;
      }

  -- two expressions
  both_read : (l m : Level) (xs ys zs : List Lexeme) (e f g : Tree) (s n : Option State) (c : Counts Lexeme) → zs ≡ xs ++ ys → run xs s ≡ n
      → tree_uses text g ≡ tree_uses text e ++ tree_uses text f → tree_leaves text g ≡ tree_leaves text e + tree_leaves text f
      → ((before leaves : ℕ) → BeginsAt l before leaves) → {k : Level} → (r : TreeRead k xs e s c) → TreeRead m ys f n r.after → TreeRead l zs g s c
  both_read l m xs ys zs e f g s n c whole ran us ls any r q = record {
    after = q.after;
    used = uses xs ys zs s n c r.after (tree_uses text e) (tree_uses text f) whole ran r.behind r.used q.used ∙ sym us;
    behind = counts xs ys zs s n c r.after q.after whole ran r.behind q.behind;
    leaves = omega (arith, q.leaves, r.leaves, ls);
    opened = q.opened ∙ r.opened;
    part = any q.after.before_part c.leaves;
  }

  -- a sign before an expression
  after_bar : (d : ℕ) (s : Lexeme) (zs : List Lexeme) (f : Tree) (c : Counts Lexeme) → s.kind ≡ Bar → TreeRead sequences zs f (at Part d) c
      → TreeRead sequences (s ∷ zs) f (at Rest d) c
  after_bar d s zs f c k r = record {
    after = r.after;
    used = rw k r.used;
    behind = rw k r.behind;
    leaves = r.leaves;
    opened = r.opened;
    part = tt;
  }

  -- the same as an expression of a wider level
  wider : (l m : Level) (xs : List Lexeme) (e : Tree) (s : Option State) (c : Counts Lexeme) → ((before leaves : ℕ) → BeginsAt m before leaves)
      → TreeRead l xs e s c → TreeRead m xs e s c
  wider l m xs e s c any r = record {
    after = r.after;
    used = r.used;
    behind = r.behind;
    leaves = r.leaves;
    opened = r.opened;
    part = any r.after.before_part c.leaves;
  }

  pub tree_read : {l : Level} {xs : List Lexeme} {e : Tree} → Derives l xs e → (bb : Bool) (d : ℕ) (c : Counts Lexeme)
      → TreeRead l xs e (at (ready bb) d) c
  tree_read (named {t = t} k whole) bb d c = moved (t ∷ []) whole (named_read bb d c t k)
  tree_read (closed {ys = ys} {e = e} o z ko kz whole inner) bb d c =
      moved (o ∷ (ys ++ (z ∷ []))) whole
      (closed_read bb d c o z ys e ko kz (derived_run inner true (suc d)) (tree_read inner true (suc d) (with_open c)))
  tree_read (classed o t z names ko kz are whole) bb d c =
      moved (o ∷ ((t ∷ names) ++ (z ∷ []))) whole (classed_read bb d c o t z names ko kz are)
  tree_read (starred {xs = xs} {ys = ys} {e = e} s k whole inner) bb d c =
      signed_read ys xs e _ s bb d c whole (derived_run inner bb d) refl refl (λ n. (rw k refl, rw k refl)) (tree_read inner bb d c)
  tree_read (looped {xs = xs} {ys = ys} {e = e} s k whole inner) bb d c =
      signed_read ys xs e _ s bb d c whole (derived_run inner bb d) refl refl (λ n. (rw k refl, rw k refl)) (tree_read inner bb d c)
  tree_read (optioned {xs = xs} {ys = ys} {e = e} s k whole inner) bb d c =
      signed_read ys xs e _ s bb d c whole (derived_run inner bb d) refl refl (λ n. (rw k refl, rw k refl)) (tree_read inner bb d c)
  tree_read (noted {xs = xs} {ys = ys} {e = e} s {t = t} k n whole inner) bb d c =
      noted_read ys xs e _ s t bb d c whole (derived_run inner bb d) refl refl k n (tree_read inner bb d c)
  tree_read (repeated {xs = xs} {ys = ys} {e = e} o least comma most z ko kl kc km kz whole inner) bb d c =
      repeated_read ys xs e o least comma most z bb d c whole (derived_run inner bb d) ko kl kc km kz (tree_read inner bb d c)
  tree_read (alone {xs = xs} {e = e} inner) bb d c = wider parts sequences xs e (at (ready bb) d) c (λ before leaves. tt) (tree_read inner bb d c)
  tree_read (followed {xs = xs} {ys = ys} {zs = zs} {e = e} {f = f} whole first second) bb d c =
      let r = tree_read first bb d c in
      both_read sequences parts ys zs xs e f _ (at (ready bb) d) (at Rest d) c whole (derived_run first bb d) refl refl (λ before leaves. tt) r
      (tree_read second false d r.after)
  tree_read (single {xs = xs} {e = e} inner) bb d c = wider sequences unions xs e (at (ready bb) d) c (λ before leaves. tt) (tree_read inner bb d c)
  tree_read (either {xs = xs} {ys = ys} {zs = zs} {e = e} {f = f} s k whole first second) bb d c =
      let r = tree_read first bb d c in
      both_read unions sequences ys (s ∷ zs) xs e f _ (at (ready bb) d) (at Rest d) c whole (derived_run first bb d) refl refl (λ before leaves. tt) r
      (after_bar d s zs f r.after k (tree_read second true d r.after))

  -- of statements

  -- a keyword is no use
  keyword_used : {due next : Due} {key : Kind} → Takes due key next → (k : Lexeme) (xs : List Lexeme) (c : Counts Lexeme) → k.kind ≡ key
      → uses_along text (k ∷ xs) (at due 0) c ≡ uses_along text xs (at next 0) c
  keyword_used line_first k xs c e = rw e refl
  keyword_used line_next k xs c e = rw e refl
  keyword_used symbol_first k xs c e = rw e refl
  keyword_used symbol_next k xs c e = rw e refl
  keyword_used output_first k xs c e = rw e refl
  keyword_used output_next k xs c e = rw e refl
  keyword_used expr_first k xs c e = rw e refl
  keyword_used expr_next k xs c e = rw e refl
  keyword_used scan_first k xs c e = rw e refl
  keyword_used scan_next k xs c e = rw e refl

  line_names_used : (c : Counts Lexeme) (names : List Lexeme) → AreNames names → uses_along text names (at MoreNames 0) c ≡ line_uses names
  line_names_used c [] h = refl
  line_names_used c (t ∷ ts) (k, others) = uses_go t ts MoreNames 0 Name c k ∙ ap (λ us. line_use t ∷ us) (line_names_used c ts others)

  output_names_used : (c : Counts Lexeme) (names : List Lexeme) → AreNames names → uses_along text names (at MoreOutputs 0) c ≡ output_uses names
  output_names_used c [] h = refl
  output_names_used c (t ∷ ts) (k, others) =
      uses_go t ts MoreOutputs 0 Name c k ∙ ap (λ us. output_use t ∷ us) (output_names_used c ts others)

  first_line_used : (c : Counts Lexeme) (names : List Lexeme) → names ≢ [] → AreNames names → uses_along text names (at LineName 0) c ≡ line_uses names
  first_line_used c [] some h = absurd (some refl)
  first_line_used c (t ∷ ts) some (k, others) = uses_go t ts LineName 0 Name c k ∙ ap (λ us. line_use t ∷ us) (line_names_used c ts others)

  first_output_used : (c : Counts Lexeme) (names : List Lexeme) → names ≢ [] → AreNames names
      → uses_along text names (at OutputName 0) c ≡ output_uses names
  first_output_used c [] some h = absurd (some refl)
  first_output_used c (t ∷ ts) some (k, others) =
      uses_go t ts OutputName 0 Name c k ∙ ap (λ us. output_use t ∷ us) (output_names_used c ts others)

  line_used : (due : Due) → Takes due Line LineName → (xs names : List Lexeme) → NamesOf Line xs names → (c : Counts Lexeme)
      → uses_along text xs (at due 0) c ≡ line_uses names
  line_used due takes xs names h c =
      let ends : List Lexeme = h.last ∷ [] in
      ap (λ ts. uses_along text ts (at due 0) c) h.tokens
      ∙ keyword_used takes h.keyword (names ++ ends) c h.begins
      ∙ uses names ends (names ++ ends) (at LineName 0) (at MoreNames 0) c (counts_along text names (at LineName 0) c) (line_uses names) [] refl
      (line_first_run names h.some h.are_names) refl (first_line_used c names h.some h.are_names) (rw h.ends refl)
      ∙ append-nil (line_uses names)

  output_used : (due : Due) → Takes due Output OutputName → (xs names : List Lexeme) → NamesOf Output xs names → (c : Counts Lexeme)
      → uses_along text xs (at due 0) c ≡ output_uses names
  output_used due takes xs names h c =
      let ends : List Lexeme = h.last ∷ [] in
      ap (λ ts. uses_along text ts (at due 0) c) h.tokens
      ∙ keyword_used takes h.keyword (names ++ ends) c h.begins
      ∙ uses names ends (names ++ ends) (at OutputName 0) (at MoreOutputs 0) c (counts_along text names (at OutputName 0) c) (output_uses names) [] refl
      (output_first_run names h.some h.are_names) refl (first_output_used c names h.some h.are_names) (rw h.ends refl)
      ∙ append-nil (output_uses names)

  entry_used : (c : Counts Lexeme) (name equals pattern last : Lexeme) → name.kind ≡ Name → equals.kind ≡ Equals → IsPattern pattern
      → last.kind ≡ Semicolon
      → uses_along text (name ∷ equals ∷ pattern ∷ last ∷ []) (at SymbolName 0) c ≡ symbol_use name ∷ pattern_use pattern ∷ []
  entry_used c name equals pattern last kn ke is kl =
      uses_go name (equals ∷ pattern ∷ last ∷ []) SymbolName 0 Name c kn
      ∙ ap (λ us. symbol_use name ∷ us) (uses_go equals (pattern ∷ last ∷ []) SymbolEquals 0 Equals c ke ∙ pattern_used is)
    where
      pattern_used : IsPattern pattern → uses_along text (pattern ∷ last ∷ []) (at SymbolPattern 0) c ≡ pattern_use pattern ∷ []
      pattern_used (inl k) =
          uses_go pattern (last ∷ []) SymbolPattern 0 Bits c k ∙ ap (λ us. pattern_use pattern ∷ us) (uses_go last [] SymbolEnd 0 Semicolon c kl)
      pattern_used (inr k) =
          uses_go pattern (last ∷ []) SymbolPattern 0 Pattern c k ∙ ap (λ us. pattern_use pattern ∷ us) (uses_go last [] SymbolEnd 0 Semicolon c kl)

  symbol_used : (due : Due) → Takes due Symbol SymbolName → (xs : List Lexeme) (found : List SymbolTokens) → SymbolOf xs found
      → (c : Counts Lexeme) → uses_along text xs (at due 0) c ≡ symbol_uses found
  symbol_used due takes xs found h c =
      ap (λ ts. uses_along text ts (at due 0) c) h.tokens
      ∙ keyword_used takes h.keyword (h.name ∷ h.equals ∷ h.pattern ∷ h.last ∷ []) c h.begins
      ∙ entry_used c h.name h.equals h.pattern h.last h.is_name h.is_equals h.is_pattern h.ends
      ∙ ap symbol_uses (sym h.entry)

  statement_used : {due : Due} {key : Kind} → Takes due key Part → (xs body : List Lexeme) (k last : Lexeme) (e : Tree) → k.kind ≡ key
      → Derives unions body e → last.kind ≡ Semicolon → xs ≡ k ∷ (body ++ (last ∷ [])) → (c : Counts Lexeme)
      → uses_along text xs (at due 0) c ≡ tree_uses text e ++ []
  statement_used {due = due} takes xs body k last e begins derives ends tokens c =
      let r = tree_read derives true 0 c in
      ap (λ ts. uses_along text ts (at due 0) c) tokens
      ∙ keyword_used takes k (body ++ (last ∷ [])) c begins
      ∙ uses body (last ∷ []) (body ++ (last ∷ [])) (at Part 0) (at Rest 0) c r.after (tree_uses text e) [] refl (derived_run derives true 0)
      r.behind r.used (rw ends refl)

  by_keyword : (due : Due) → Takes due Expr Part → Takes due Scan Part → (xs body : List Lexeme) (k last : Lexeme) (scans : Bool) (e : Tree)
      → k.kind ≡ keyword_of scans → Derives unions body e → last.kind ≡ Semicolon → xs ≡ k ∷ (body ++ (last ∷ [])) → (c : Counts Lexeme)
      → uses_along text xs (at due 0) c ≡ tree_uses text e ++ []
  by_keyword due expr scan xs body k last false e begins derives ends tokens c = statement_used expr xs body k last e begins derives ends tokens c
  by_keyword due expr scan xs body k last true e begins derives ends tokens c = statement_used scan xs body k last e begins derives ends tokens c

  expr_used : (due : Due) → Takes due Expr Part → Takes due Scan Part → (xs : List Lexeme) (found : List StatementTree) → ExprOf xs found
      → (c : Counts Lexeme) → uses_along text xs (at due 0) c ≡ expr_uses text found
  expr_used due expr scan xs found h c =
      by_keyword due expr scan xs h.body h.keyword h.last h.scans h.tree h.begins h.derives h.ends h.tokens c ∙ ap (expr_uses text) (sym h.entry)

  -- of sections

  module _ {A : Type 0} (Is : List Lexeme → List A → Type 0) (of : List A → List Use) (first later : Due)
      (joins : (some others : List A) → of (some ++ others) ≡ of some ++ of others)
      (begin_run : (ys : List Lexeme) (some : List A) → Is ys some → run ys (at first 0) ≡ at later 0)
      (next_run : (ys : List Lexeme) (some : List A) → Is ys some → run ys (at later 0) ≡ at later 0)
      (begin : (ys : List Lexeme) (some : List A) → Is ys some → (c : Counts Lexeme) → uses_along text ys (at first 0) c ≡ of some)
      (again : (ys : List Lexeme) (some : List A) → Is ys some → (c : Counts Lexeme) → uses_along text ys (at later 0) c ≡ of some) where
    section_used : (xs : List Lexeme) (found : List A) → Statements Is xs found → (c : Counts Lexeme) → uses_along text xs (at first 0) c ≡ of found
    section_used xs found (one is) c = begin xs found is c
    section_used xs found (more {ys = ys} {zs = zs} {some = some} {others = others} whole holds before is) c =
        let behind = counts_along text ys (at first 0) c in
        uses ys zs xs (at first 0) (at later 0) c behind (of some) (of others) whole (statements_run first later begin_run next_run before) refl
        (section_used ys some before c) (again zs others is behind)
        ∙ sym (joins some others) ∙ ap of (sym holds)

  lines_append : (some others : List Lexeme) → line_uses (some ++ others) ≡ line_uses some ++ line_uses others
  lines_append [] others = refl
  lines_append (t ∷ ts) others = ap (λ us. line_use t ∷ us) (lines_append ts others)

  outputs_append : (some others : List Lexeme) → output_uses (some ++ others) ≡ output_uses some ++ output_uses others
  outputs_append [] others = refl
  outputs_append (t ∷ ts) others = ap (λ us. output_use t ∷ us) (outputs_append ts others)

  symbols_append : (some others : List SymbolTokens) → symbol_uses (some ++ others) ≡ symbol_uses some ++ symbol_uses others
  symbols_append [] others = refl
  symbols_append (s ∷ ss) others =
      ap (λ us. symbol_use s.name ∷ pattern_use s.pattern ∷ us) (symbols_append ss others)

  pub exprs_append : (some others : List StatementTree) → expr_uses text (some ++ others) ≡ expr_uses text some ++ expr_uses text others
  exprs_append [] others = refl
  exprs_append (s ∷ ss) others =
      ap (λ us. tree_uses text s.tree ++ us) (exprs_append ss others)
      ∙ sym (append_assoc (tree_uses text s.tree) (expr_uses text ss) (expr_uses text others))

  pub all_used : (xs : List Lexeme) (s : Syntax) → Specifies xs s → (c : Counts Lexeme) → uses_along text xs (at FirstLine 0) c ≡ syntax_uses text s
  all_used xs s h c =
      let two = h.line_tokens ++ h.symbol_tokens in
      let three = two ++ h.output_tokens in
      let c1 = counts_along text h.line_tokens (at FirstLine 0) c in
      let c2 = counts_along text two (at FirstLine 0) c in
      let c3 = counts_along text three (at FirstLine 0) c in
      let e1 = section_used (NamesOf Line) line_uses FirstLine NextLine lines_append (line_run FirstLine line_first) (line_run NextLine line_next)
      (line_used FirstLine line_first) (line_used NextLine line_next) h.line_tokens s.lines h.lines c in
      let e2 = section_used SymbolOf symbol_uses NextLine NextSymbol symbols_append (symbol_run NextLine symbol_first) (symbol_run NextSymbol symbol_next)
      (symbol_used NextLine symbol_first) (symbol_used NextSymbol symbol_next) h.symbol_tokens s.symbols h.symbols c1 in
      let e3 = section_used (NamesOf Output) output_uses NextSymbol NextOutput outputs_append (output_run NextSymbol output_first)
      (output_run NextOutput output_next) (output_used NextSymbol output_first) (output_used NextOutput output_next) h.output_tokens s.outputs
      h.outputs c2 in
      let e4 = section_used ExprOf (expr_uses text) NextOutput NextExpr exprs_append (expr_run NextOutput expr_first scan_first)
      (expr_run NextExpr expr_next scan_next) (expr_used NextOutput expr_first scan_first) (expr_used NextExpr expr_next scan_next) h.expr_tokens
      s.exprs h.exprs c3 in
      let r1 : run two (at FirstLine 0) ≡ at NextSymbol 0 =
      goes h.line_tokens h.symbol_tokens two (at FirstLine 0) (at NextLine 0) (at NextSymbol 0) refl (lines_run h.lines) (symbols_run h.symbols) in
      let r2 : run three (at FirstLine 0) ≡ at NextOutput 0 =
      goes two h.output_tokens three (at FirstLine 0) (at NextSymbol 0) (at NextOutput 0) refl r1 (outputs_run h.outputs) in
      let a2 = uses h.line_tokens h.symbol_tokens two (at FirstLine 0) (at NextLine 0) c c1 (line_uses s.lines) (symbol_uses s.symbols) refl
      (lines_run h.lines) refl e1 e2 in
      let a3 = uses two h.output_tokens three (at FirstLine 0) (at NextSymbol 0) c c2 (line_uses s.lines ++ symbol_uses s.symbols) (output_uses s.outputs) refl
      r1 refl a2 e3 in
      uses three h.expr_tokens xs (at FirstLine 0) (at NextOutput 0) c c3 ((line_uses s.lines ++ symbol_uses s.symbols) ++ output_uses s.outputs)
      (expr_uses text s.exprs) h.whole r2 refl a3 e4
