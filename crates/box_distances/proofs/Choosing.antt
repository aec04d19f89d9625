-- The narrow boxes of a list, one by one.
use Rattle.std.proofs.Common.{◌≡◌, inl, inr, ℕ, ◌<◌, ◌≤◌, ◌+◌, ℤ, true, false, List, [], ◌∷◌, ◌++◌, length, take, get_or, sym, ap, subst}
use Rattle.std.proofs.lemmas.List.{take_more, take_all}
use Rattle.geom.specs.Squares.{BoxShape}
use Rattle.box_distances.specs.Narrow.{AreNarrow, is_narrow}
use Rattle.box_distances.proofs.Lists.{among_push, among_left, among_last}

pub no_narrow : (side : ℤ) → AreNarrow side [] []
no_narrow side b = ((λ i. absurd i), (λ h. absurd h.0))

push_narrow : (side : ℤ) (done chosen : List BoxShape) (b : BoxShape) → is_narrow side b ≡ true → AreNarrow side done chosen
    → AreNarrow side (done ++ b ∷ []) (chosen ++ b ∷ [])
push_narrow side done chosen b t h c =
    let P : BoxShape → Type 0 = λ v. is_narrow side v ≡ true in (
      (λ i. elim (among_push chosen b c i) [
        | inl j ↦ let k = (h c).0 j in (among_left done (b ∷ []) c k.0, k.1)
        | inr e ↦ (among_last done b c e, subst P e t)
      ]),
      (λ k. elim (among_push done b c k.0) [
        | inl j ↦ among_left chosen (b ∷ []) c ((h c).1 (j, k.1))
        | inr e ↦ among_last chosen b c e
      ]),
    )

pass_wide : (side : ℤ) (done chosen : List BoxShape) (b : BoxShape) → is_narrow side b ≡ false → AreNarrow side done chosen
    → AreNarrow side (done ++ b ∷ []) chosen
pass_wide side done chosen b t h c = (
  (λ i. let k = (h c).0 i in (among_left done (b ∷ []) c k.0, k.1)),
  (λ k. elim (among_push done b c k.0) [
    | inl j ↦ (h c).1 (j, k.1)
    | inr e ↦ let f : is_narrow side b ≡ is_narrow side c = ap (is_narrow side) e in let g : is_narrow side c ≡ true = k.1 in absurd (cc)
  ]),
)

pub narrow_at : (side : ℤ) (m : List BoxShape) (k : ℕ) (b : BoxShape) (old new : List BoxShape) → k < length m → b ≡ get_or m k b
    → is_narrow side b ≡ true → new ≡ old ++ b ∷ [] → AreNarrow side (take k m) old → AreNarrow side (take (k + 1) m) new
narrow_at side m k b old new l is t e h =
    let P : List BoxShape → Type 0 = λ ns. AreNarrow side (take (k + 1) m) ns in
    let Q : List BoxShape → Type 0 = λ ms. AreNarrow side ms (old ++ b ∷ []) in
    let R : BoxShape → Type 0 = λ v. AreNarrow side (take k m ++ v ∷ []) (old ++ b ∷ []) in
    subst P (sym e) (subst Q (sym (take_more m k b l)) (subst R is (push_narrow side (take k m) old b t h)))

pub narrow_past : (side : ℤ) (m : List BoxShape) (k : ℕ) (b : BoxShape) (old : List BoxShape) → k < length m → b ≡ get_or m k b
    → is_narrow side b ≡ false → AreNarrow side (take k m) old → AreNarrow side (take (k + 1) m) old
narrow_past side m k b old l is t h =
    let Q : List BoxShape → Type 0 = λ ms. AreNarrow side ms old in
    let R : BoxShape → Type 0 = λ v. AreNarrow side (take k m ++ v ∷ []) old in
    subst Q (sym (take_more m k b l)) (subst R is (pass_wide side (take k m) old b t h))

pub all_narrow : (side : ℤ) (m : List BoxShape) (k : ℕ) (narrow : List BoxShape) → length m ≤ k → AreNarrow side (take k m) narrow → AreNarrow side m narrow
all_narrow side m k narrow past h = let P : List BoxShape → Type 0 = λ ms. AreNarrow side ms narrow in subst P (take_all k m past) h
