-- How far two lists agree from their fronts on.
use Rattle.std.proofs.Common.{rules, ◌⊎◌, zero, ◌≡◌, ◌≢◌, inl, inr, ℕ, suc, ◌<◌, ◌≤◌, true, false, ◌==◌, List, [], ◌∷◌, ◌++◌, length, take, drop, get_or, refl, sym, ap, ◌∙◌, arith}
use Rattle.std.proofs.lemmas.Bool.{cases_Bool}
use Rattle.std.proofs.lemmas.List.{drop_all}
use Rattle.net_text.specs.Reading.{agreeing}

-- one step, where the first bytes are the same and where they are not
pub agree_same : (a b : ℕ) (w r : List ℕ) → a ≡ b → agreeing (a ∷ w) (b ∷ r) ≡ suc (agreeing w r)
agree_same a b w r e = rw e (elim (cases_Bool (b == b)) [
  | inl one ↦ rw one refl
  | inr other ↦ (let right : (b == b) ≡ true = search rules in let clash : true ≡ false = sym right ∙ other in cc)
])

agree_differ : (a b : ℕ) (w r : List ℕ) → a ≢ b → agreeing (a ∷ w) (b ∷ r) ≡ 0
agree_differ a b w r e = elim (cases_Bool (a == b)) [
  | inl one ↦ (let same : a ≡ b = search rules in absurd (e same))
  | inr other ↦ rw other refl
]

-- nothing is left to agree with
pub agree_ended : (w r : List ℕ) (i : ℕ) → length r ≤ i → agreeing w (drop i r) ≡ 0
agree_ended w r i h = rw (drop_all i r h) (empty w)
  where
    empty : (w : List ℕ) → agreeing w [] ≡ 0
    empty [] = refl
    empty (a ∷ w) = refl

-- where the bytes differ they agree no further
pub agree_stops : (w r : List ℕ) (i : ℕ) → i < length w → i < length r → get_or r i 0 ≢ get_or w i 0 → agreeing (drop i w) (drop i r) ≡ 0
agree_stops [] r i hw hr e = absurd (omega arith)
agree_stops (a ∷ w) [] i hw hr e = absurd (omega arith)
agree_stops (a ∷ w) (b ∷ r) zero hw hr e = agree_differ a b w r (λ h. e (sym h))
agree_stops (a ∷ w) (b ∷ r) (suc i) hw hr e = agree_stops w r i (omega arith) (omega arith) e

-- no further than either of them
pub agree_within : (w r : List ℕ) → (agreeing w r ≤ length w) × (agreeing w r ≤ length r)
agree_within [] r = (omega arith, omega arith)
agree_within (a ∷ w) [] = (omega arith, omega arith)
agree_within (a ∷ w) (b ∷ r) = elim (cases_Bool (a == b)) [
  | inl one ↦ (let h = agree_within w r in rw one (omega (arith, h.0), omega (arith, h.1)))
  | inr other ↦ rw other (omega arith, omega arith)
]

-- as far as they agree they are the same
pub agree_take : (w r : List ℕ) → take (agreeing w r) r ≡ take (agreeing w r) w
agree_take [] r = refl
agree_take (a ∷ w) [] = refl
agree_take (a ∷ w) (b ∷ r) = elim (cases_Bool (a == b)) [
  | inl one ↦ (let same : a ≡ b = search rules in rw (one, same, agree_take w r) refl)
  | inr other ↦ rw other refl
]

-- a word that agrees whole stands at the front
pub agree_whole : (w r : List ℕ) → agreeing w r ≡ length w → r ≡ w ++ drop (length w) r
agree_whole [] r h = refl
agree_whole (a ∷ w) [] h = absurd (omega (arith, h))
agree_whole (a ∷ w) (b ∷ r) h = elim (cases_Bool (a == b)) [
  | inl one ↦ (let same : a ≡ b = search rules in let inner = agree_whole w r (omega (arith, rw one at h)) in let both : b ∷ r ≡ a ∷ (w ++ drop (length w) r) = cc (same, inner) in both)
  | inr other ↦ absurd (omega (arith, rw other at h))
]

-- a word at the front agrees whole
pub agree_front : (w z : List ℕ) → agreeing w (w ++ z) ≡ length w
agree_front [] z = refl
agree_front (a ∷ w) z = agree_same a a w (w ++ z) refl ∙ ap suc (agree_front w z)

-- a text that shares so many bytes with the rest, and begins with the word: either the rest begins with it, or they agree as far
pub agree_past : (w r : List ℕ) (j : ℕ) (z y : List ℕ) → j ≤ length r → take j r ++ z ≡ w ++ y → (agreeing w r ≡ length w) ⊎ (j ≤ agreeing w r)
agree_past [] r j z y h e = inl refl
agree_past (a ∷ w) r zero z y h e = inr (omega arith)
agree_past (a ∷ w) [] (suc j) z y h e = absurd (omega arith)
agree_past (a ∷ w) (b ∷ r) (suc j) z y h e =
    let same : a ≡ b = cc in
    let others : take j r ++ z ≡ w ++ y = cc in
    rw (agree_same a b w r same) (elim (agree_past w r j z y (omega arith) others) [
      | inl whole ↦ inl (ap suc whole)
      | inr far ↦ inr (omega (arith, far))
    ])
