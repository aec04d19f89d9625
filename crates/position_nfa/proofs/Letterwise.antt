-- The statements of a specification, copies in place of their counted repeats, over occurrences and over vectors.
use Rattle.std.proofs.Common.{◌≡◌, ℕ, zero, suc, ◌+◌, ◌<◌, List, [], ◌∷◌, ◌++◌, length, map, refl, sym, ap, ◌∙◌, subst, inl, inr, append-nil, append_assoc, length-append, arith}
use Rattle.std.specs.Prelude.{slice_index_or, flat_map, pred, ⊤}
use Rattle.rx_lang.specs.Expression.{Expr, symbol, sequence, union, star, plus, optional, marked, repeated}
use Rattle.rx_lang.specs.Meaning.{Spells, Marks, SomeMarks}
use Rattle.rx_lang.specs.Copies.{IsItself, IsBounded, copies, copied, numbered, all_numbered, occurrences}
use Rattle.rx_lang.specs.Laws.{CopiesMean}
use Rattle.rx_lang.specs.Positions.{IsSpelled, IsMarked, occurrence_symbols, expr_letters, scan_letters}
use Rattle.rx_lang.specs.Specification.{Specification, MatchesSymbol}
use Rattle.star_normal.specs.Shapes.{HasNoRepeat}
use Rattle.star_normal.specs.Laws.{SomeSpells}
use Rattle.position_nfa.specs.Reached.{IsReadByPairs}
use Rattle.position_nfa.proofs.LocalWords.{IsLocal, local_at, local_or}
use Rattle.position_nfa.proofs.Images.{Same, same_to, same_back, Image, or_image, never_image, marks_image, IsNamed, named_first, named_second}
use Rattle.position_nfa.proofs.Reaching.{read_by_pairs}

copies_unrepeated : (m n : ℕ) (f : Expr) → HasNoRepeat f → HasNoRepeat (copies m n f)
copies_unrepeated zero zero f h = h
copies_unrepeated (suc m) zero f h = h
copies_unrepeated zero (suc n) f h = (h, copies_unrepeated zero n f h)
copies_unrepeated (suc m) (suc n) f h = (h, copies_unrepeated m n f h)

unrepeated : (e : Expr) → HasNoRepeat (copied e)
unrepeated (symbol s) = tt
unrepeated (sequence f g) = (unrepeated f, unrepeated g)
unrepeated (union f g) = (unrepeated f, unrepeated g)
unrepeated (star f) = unrepeated f
unrepeated (plus f) = unrepeated f
unrepeated (optional f) = unrepeated f
unrepeated (marked f y) = unrepeated f
unrepeated (repeated f m n) = copies_unrepeated m (pred n) (copied f) (unrepeated f)

-- ---- some expression of a list

spelled_any : (es : List Expr) (u : List ℕ) → SomeSpells IsItself es u → IsSpelled es u
spelled_any [] u h = absurd h
spelled_any (e ∷ es) u (inl h) = (0, e, omega arith, refl, h)
spelled_any (e ∷ es) u (inr h) = let a = spelled_any es u h in (suc a.0, a.1, omega (arith, a.2), a.3, a.4)

any_at : (es : List Expr) (u : List ℕ) (k : ℕ) (e d : Expr) → k < length es → slice_index_or es k d ≡ e → Spells IsItself e u → SomeSpells IsItself es u
any_at [] u k e d h g s = absurd (omega arith)
any_at (x ∷ es) u zero e d h g s = inl (subst (λ y. Spells IsItself y u) (sym g) s)
any_at (x ∷ es) u (suc k) e d h g s = inr (any_at es u k e d (omega arith) g s)

any_spelled : (es : List Expr) (u : List ℕ) → IsSpelled es u → SomeSpells IsItself es u
any_spelled es u h = any_at es u h.0 h.1 h.1 h.2 h.3 h.4

local_any : (lo hi : ℕ) (es : List Expr) → IsLocal lo hi (SomeSpells IsItself es) (SomeMarks IsItself es) → IsLocal lo hi (IsSpelled es) (IsMarked es)
local_any lo hi es a = record {
  order = a.order;
  uses = λ x u v s. a.uses x u v (any_spelled es (u ++ x ∷ v) s);
  mark_uses = a.mark_uses;
  swaps = λ x u v front rest s t. spelled_any es (u ++ x ∷ rest)
      (a.swaps x u v front rest (any_spelled es (u ++ x ∷ v) s) (any_spelled es (front ++ x ∷ rest) t));
  mark_swaps = λ y x u v front rest s m. a.mark_swaps y x u v front rest (any_spelled es (u ++ x ∷ v) s) m;
  goes_on = λ y w m. let h = a.goes_on y w m in (h.0, spelled_any es (w ++ h.0) h.1);
}

-- their counted repeats keep within their bounds
abbrev pub AreBounded : List Expr → Type 0
AreBounded [] = ⊤
AreBounded (e ∷ es) = IsBounded e × AreBounded es

local_none : (k : ℕ) → IsLocal k (k + 0) (λ w. ⊥) (λ y w. ⊥)
local_none k = record {
  order = omega arith;
  uses = λ x u v s. absurd s;
  mark_uses = λ y x u v m. absurd m;
  swaps = λ x u v front rest s t. absurd s;
  mark_swaps = λ y x u v front rest s m. absurd s;
  goes_on = λ y w m. absurd m;
}

module _ (same : (e : Expr) → IsBounded e → occurrences (copied e) ≡ occurrences e) where
  abbrev letters : ℕ → List Expr → List Expr
  letters k es = all_numbered k (map copied es)

  abbrev end : ℕ → List Expr → ℕ
  end k es = k + length (flat_map occurrences es)

  counted : (k : ℕ) (e : Expr) (es : List Expr) → IsBounded e → end (k + length (occurrences (copied e))) es ≡ end k (e ∷ es)
  counted k e es b = omega (arith, ap length (same e b), length-append (occurrences e) (flat_map occurrences es))

  some_local : (k : ℕ) (es : List Expr) → AreBounded es → IsLocal k (end k es) (SomeSpells IsItself (letters k es)) (SomeMarks IsItself (letters k es))
  some_local k [] b = local_none k
  some_local k (e ∷ es) b =
      let mid : ℕ = k + length (occurrences (copied e)) in
      subst (λ hi. IsLocal k hi (SomeSpells IsItself (letters k (e ∷ es))) (SomeMarks IsItself (letters k (e ∷ es)))) (counted k e es b.0)
      (local_or k mid (end mid es) (Spells IsItself (numbered k (copied e))) (SomeSpells IsItself (letters mid es)) (Marks IsItself (numbered k (copied e)))
      (SomeMarks IsItself (letters mid es)) (local_at k (copied e) (unrepeated e)) (some_local mid es b.1))

  module _ {X : Type 0} (Is : ℕ → X → Type 0) (symbols : List ℕ) (mean : (e : Expr) → IsBounded e → CopiesMean Is e) where
    abbrev R : ℕ → X → Type 0
    R q x = Is (slice_index_or symbols q 0) x

    some_image : (k : ℕ) (es : List Expr) → AreBounded es → IsNamed symbols k (flat_map occurrences es) → (y : ℕ)
        → Same (SomeMarks Is es y) (Image R (SomeMarks IsItself (letters k es) y))
    some_image k [] b h y = never_image R
    some_image k (e ∷ es) b h y =
        let mid : ℕ = k + length (occurrences (copied e)) in
        let own : IsNamed symbols k (occurrences (copied e)) =
        subst (IsNamed symbols k) (sym (same e b.0)) (named_first symbols k (occurrences e) (flat_map occurrences es) h) in
        let others : IsNamed symbols mid (flat_map occurrences es) =
        subst (λ l. IsNamed symbols (k + length l) (flat_map occurrences es)) (sym (same e b.0))
        (named_second symbols k (occurrences e) (flat_map occurrences es) h) in
        or_image R (Marks Is e y) (SomeMarks Is es y) (Marks IsItself (numbered k (copied e)) y) (SomeMarks IsItself (letters mid es) y)
        (same_to (Marks Is e y) (Marks Is (copied e) y) (Image R (Marks IsItself (numbered k (copied e)) y)) (same_back (Marks Is (copied e) y) (Marks Is e y) ((mean e b.0).marks y))
        (marks_image Is symbols k (copied e) (unrepeated e) own y))
        (some_image mid es b.1 others y)

  -- ---- specifications

  flat_append : (a b : List Expr) → flat_map occurrences (a ++ b) ≡ flat_map occurrences a ++ flat_map occurrences b
  flat_append [] b = refl
  flat_append (e ∷ a) b = ap (λ l. occurrences e ++ l) (flat_append a b) ∙ sym (append_assoc (occurrences e) (flat_map occurrences a) (flat_map occurrences b))

  pub specification_read : (spec : Specification) → ((e : Expr) → IsBounded e → CopiesMean (MatchesSymbol spec.symbols) e) → AreBounded spec.statements
      → AreBounded spec.scans → IsReadByPairs spec
  specification_read spec mean exprs scans =
      let front : List ℕ = flat_map occurrences spec.statements in
      let rest : List ℕ = flat_map occurrences spec.scans in
      let middle : ℕ = length front in
      let whole : occurrence_symbols spec ≡ front ++ rest = flat_append spec.statements spec.scans in
      read_by_pairs spec middle
      (local_any 0 middle (expr_letters spec)
      (subst (λ hi. IsLocal 0 hi (SomeSpells IsItself (letters 0 spec.statements)) (SomeMarks IsItself (letters 0 spec.statements))) (omega arith) (some_local 0 spec.statements exprs)))
      (local_any middle (length (occurrence_symbols spec)) (scan_letters spec)
      (subst (λ hi. IsLocal middle hi (SomeSpells IsItself (letters middle spec.scans)) (SomeMarks IsItself (letters middle spec.scans)))
      (sym (ap length whole ∙ length-append front rest)) (some_local middle spec.scans scans)))
      (λ y. some_image (MatchesSymbol spec.symbols) (occurrence_symbols spec) mean 0 spec.statements exprs
      (record { before = []; behind = rest; whole = whole; size = refl }) y)
      (λ y. some_image (MatchesSymbol spec.symbols) (occurrence_symbols spec) mean middle spec.scans scans
      (record { before = front; behind = []; whole = whole ∙ ap (λ l. front ++ l) (sym (append-nil rest)); size = refl }) y)

-- the trees of roots are bounded as all trees are
pub bounded_roots : (trees_of : ℕ → Expr) → ((k : ℕ) → IsBounded (trees_of k)) → (roots : List ℕ) → AreBounded (map trees_of roots)
bounded_roots trees_of h [] = tt
bounded_roots trees_of h (r ∷ roots) = (h r, bounded_roots trees_of h roots)
