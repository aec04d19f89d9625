-- At every node of a normal form the flag of the empty word is exact.
use Rattle.std.proofs.Common.{◌≡◌, ℕ, Bool, true, false, not, ◌&&◌, Decides, [], refl, sym, ap, ◌∙◌}
use Rattle.rx_lang.specs.Expression.{Expr, symbol, sequence, union, star, plus, optional, marked, repeated}
use Rattle.rx_lang.specs.Meaning.{Spells}
use Rattle.star_normal.specs.Trees.{Flags, FlaggedTree, leaf, seq, alt, flags, TreeSpells}
use Rattle.star_normal.specs.Normal.{nullable, with_flags, looped, emptied, marking, joined, sequenced, turned, opted, normal}
use Rattle.star_normal.specs.Shapes.{HasNoRepeat, IsExact}
use Rattle.star_normal.proofs.Forms.{bare_normal, flags_with, Holds, nullable_holds, Form, forms}

eps_joined : (nf ng : Bool) (l r : FlaggedTree) → (flags (joined nf ng l r)).eps ≡ false
eps_joined true true l r = refl
eps_joined true false l r = refl
eps_joined false ng l r = refl

eps_sequenced : (under nf ng : Bool) (l r : FlaggedTree) → (flags (sequenced under nf ng l r)).eps ≡ (not under && (nf && ng))
eps_sequenced true nf ng l r = eps_joined nf ng l r
eps_sequenced false nf ng l r = refl

eps_turned : (under e : Bool) (t : FlaggedTree) → (flags t).eps ≡ false → (flags (turned under e t)).eps ≡ (not under && e)
eps_turned true e t h = h
eps_turned false e t h = ap (λ f. f.eps) (flags_with (looped e (flags t)) t)

eps_opted : (under e : Bool) (t : FlaggedTree) → (flags t).eps ≡ (not under && e) → (flags (opted under t)).eps ≡ (not under && true)
eps_opted true e t h = h
eps_opted false e t h = ap (λ f. f.eps) (flags_with (emptied (flags t)) t)

-- the flag of the top node is the test of the expression, but false below a loop
pub eps_normal : (under : Bool) (e : Expr) → HasNoRepeat e → (flags (normal under e)).eps ≡ (not under && nullable e)
eps_normal true (symbol s) p = refl
eps_normal false (symbol s) p = refl
eps_normal under (sequence f g) p = eps_sequenced under (nullable f) (nullable g) (normal (under && nullable g) f) (normal (under && nullable f) g)
eps_normal under (union f g) p = refl
eps_normal under (star f) p = eps_turned under true (normal true f) (bare_normal f).eps
eps_normal under (plus f) p = eps_turned under (nullable f) (normal true f) (bare_normal f).eps
eps_normal under (optional f) p = eps_opted under (nullable f) (normal under f) (eps_normal under f p)
eps_normal under (marked f y) p = ap (λ h. h.eps) (flags_with (marking y (nullable f) (flags (normal under f))) (normal under f)) ∙ eps_normal under f p
eps_normal under (repeated f m n) p = absurd p

module _ {X : Type 0} (Is : ℕ → X → Type 0) where
  top_decided : (under : Bool) (e : Expr) → HasNoRepeat e → (t : FlaggedTree) → Form Is under e t → (flags t).eps ≡ (not under && nullable e) → Decides (flags t).eps (TreeSpells Is t [])
  top_decided true e p t s h = (λ yes. let e = h in cc, λ b. absurd (s.full [] b refl))
  top_decided false e p t s h = let n : Holds Is (Spells Is e) (nullable e) = nullable_holds Is e p in
      (λ yes. s.to [] (n.yes (sym h ∙ yes)), λ b. h ∙ n.no (s.from [] b))

  -- exact below the top node
  abbrev Inner : FlaggedTree → Type 0
  Inner (leaf f s) = Unit {0}
  Inner (seq f l r) = IsExact Is l × IsExact Is r
  Inner (alt f l r) = IsExact Is l × IsExact Is r

  exact_of : (t : FlaggedTree) → Decides (flags t).eps (TreeSpells Is t []) → Inner t → IsExact Is t
  exact_of (leaf f s) h i = h
  exact_of (seq f l r) h i = (h, i.0, i.1)
  exact_of (alt f l r) h i = (h, i.0, i.1)

  inner_with : (h : Flags) (t : FlaggedTree) → Inner t → Inner (with_flags h t)
  inner_with h (leaf f s) i = i
  inner_with h (seq f l r) i = i
  inner_with h (alt f l r) i = i

  inner_joined : (nf ng : Bool) (l r : FlaggedTree) → IsExact Is l → IsExact Is r → Inner (joined nf ng l r)
  inner_joined true true l r a b = (a, b)
  inner_joined true false l r a b = (a, b)
  inner_joined false ng l r a b = (a, b)

  inner_sequenced : (under nf ng : Bool) (l r : FlaggedTree) → IsExact Is l → IsExact Is r → Inner (sequenced under nf ng l r)
  inner_sequenced true nf ng l r a b = inner_joined nf ng l r a b
  inner_sequenced false nf ng l r a b = (a, b)

  inner_turned : (under e : Bool) (t : FlaggedTree) → Inner t → Inner (turned under e t)
  inner_turned true e t i = i
  inner_turned false e t i = inner_with (looped e (flags t)) t i

  inner_opted : (under : Bool) (t : FlaggedTree) → Inner t → Inner (opted under t)
  inner_opted true t i = i
  inner_opted false t i = inner_with (emptied (flags t)) t i

  top_normal : (under : Bool) (e : Expr) → HasNoRepeat e → Inner (normal under e) → IsExact Is (normal under e)
  top_normal under e p i = exact_of (normal under e) (top_decided under e p (normal under e) (forms Is under e p) (eps_normal under e p)) i

  inner_normal : (under : Bool) (e : Expr) → HasNoRepeat e → Inner (normal under e)
  inner_normal under (symbol s) p = tt
  inner_normal under (sequence f g) p = inner_sequenced under (nullable f) (nullable g) (normal (under && nullable g) f) (normal (under && nullable f) g)
      (top_normal (under && nullable g) f p.0 (inner_normal (under && nullable g) f p.0)) (top_normal (under && nullable f) g p.1 (inner_normal (under && nullable f) g p.1))
  inner_normal under (union f g) p = (top_normal under f p.0 (inner_normal under f p.0), top_normal under g p.1 (inner_normal under g p.1))
  inner_normal under (star f) p = inner_turned under true (normal true f) (inner_normal true f p)
  inner_normal under (plus f) p = inner_turned under (nullable f) (normal true f) (inner_normal true f p)
  inner_normal under (optional f) p = inner_opted under (normal under f) (inner_normal under f p)
  inner_normal under (marked f y) p = inner_with (marking y (nullable f) (flags (normal under f))) (normal under f) (inner_normal under f p)
  inner_normal under (repeated f m n) p = absurd p

  pub exact_normal : (under : Bool) (e : Expr) → HasNoRepeat e → IsExact Is (normal under e)
  exact_normal under e p = top_normal under e p (inner_normal under e p)
