-- Words one after another, and the laws of marks.
use Rattle.std.proofs.Common.{◌≡◌, ◌⊎◌, ℕ, Bool, true, false, List, [], ◌∷◌, ◌++◌, Decides, refl, sym, ap, ◌∙◌, subst, inl, inr, append_assoc}
use Rattle.std.proofs.lemmas.Bool.{false≢true}
use Rattle.rx_lang.specs.Expression.{Expr, sequence, marked}
use Rattle.rx_lang.specs.Meaning.{Cut, Many, none, more, Spells, Marks}
use Rattle.rx_lang.specs.Laws.{MatchingIsDecided, LanguageIsDecided, ManyJoins, PlusSpells, SequenceMarks, StarMarksEmpty}
use Rattle.rx_lang.proofs.Decided.{matches, matches_decided, language, language_decided}

from_test : (b : Bool) (P : Type 0) → Decides b P → P ⊎ (P → ⊥)
from_test true P d = inl (d.0 refl)
from_test false P d = inr (λ p. false≢true (d.1 p))

pub matching_is_decided : MatchingIsDecided
matching_is_decided pattern x = from_test (matches pattern x) _ (matches_decided pattern x)

pub language_is_decided : LanguageIsDecided
language_is_decided spec y u = from_test (language spec y u) _ (language_decided spec y u)

module _ {X : Type 0} (P : List X → Type 0) where
  many_front : (v w : List X) → P v → Many P w → Many P (v ++ w)
  many_front [] w p m = m
  many_front (x ∷ v) w p m = more ((x ∷ v) ++ w) (x ∷ v) w refl (λ e. cc) p m

  many_behind : (v w : List X) → Many P v → Many P w → Many P (v ++ w)
  many_behind _ w (none v e) n = rw e n
  many_behind _ w (more u v t e ne p m) n =
      more (u ++ w) v (t ++ w) (ap (λ s. s ++ w) e ∙ append_assoc v t w) ne p (many_behind t w m n)

  pub many_joins : ManyJoins P
  many_joins = record { front = many_front; behind = many_behind }

module _ {X : Type 0} (Is : ℕ → X → Type 0) where
  pub plus_spells : PlusSpells Is
  plus_spells f u = (λ h. h, λ h. h)

  only_marked : (f g : Expr) (y z : ℕ) (u : List X) → Marks Is (sequence (marked f y) g) z u
      → ((y ≡ z) × Spells Is f u) ⊎ Marks Is f z u ⊎ Cut (Spells Is f) (Marks Is g z) u
  only_marked f g y z u (inl (inl h)) = inl h
  only_marked f g y z u (inl (inr h)) = inr (inl h)
  only_marked f g y z u (inr h) = inr (inr h)

  pub sequence_marks : SequenceMarks Is
  sequence_marks = record {
    first = λ f g y u h. inl (inl (refl, h));
    second = λ f g y z v w h k. inr (record { front = v; rest = w; whole = refl; first = h; second = k });
    only = only_marked;
  }

  -- the rest of a cut of the empty word is empty
  empty_rest : (v w : List X) → [] ≡ v ++ w → w ≡ []
  empty_rest [] w e = sym e
  empty_rest (x ∷ v) w e = cc

  pub star_marks_empty : StarMarksEmpty Is
  star_marks_empty f y z = (
    (λ h. subst (Marks Is (marked f y) z) (empty_rest h.front h.rest h.whole) h.second),
    (λ h. record { front = []; rest = []; whole = refl; first = none [] refl; second = h }),
  )
