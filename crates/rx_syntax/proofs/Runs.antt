-- The longest run of bytes that pass a test.
use Rattle.std.specs.Prelude.{⊤}
use Rattle.std.proofs.Common.{◌≡◌, ℕ, suc, Bool, true, false, List, [], ◌∷◌, take, refl, inl, inr}
use Rattle.std.specs.List.{list_all, prefix_len}
use Rattle.std.proofs.Math.Numerals.{one-add}
use Rattle.std.proofs.lemmas.Bool.{cases_Bool}

-- the text does not begin with a byte of this kind
abbrev pub StopsAt : (ℕ → Bool) → List ℕ → Type 0
StopsAt is [] = ⊤
StopsAt is (byte ∷ rest) = is byte ≡ false

module _ (p : ℕ → Bool) where
  pub run_more : (x : ℕ) (xs : List ℕ) → p x ≡ true → prefix_len p (x ∷ xs) ≡ suc (prefix_len p xs)
  run_more x xs e = rw e (one-add _)

  pub run_none : (x : ℕ) (xs : List ℕ) → p x ≡ false → prefix_len p (x ∷ xs) ≡ 0
  run_none x xs e = rw e refl

  -- each byte of the run passes
  pub run_passes : (xs : List ℕ) → list_all p (take (prefix_len p xs) xs) ≡ true
  run_passes [] = refl
  run_passes (x ∷ xs) =
      elim (cases_Bool (p x)) [ inl e ↦ rw (run_more x xs e) (rw e (run_passes xs)) | inr e ↦ rw (run_none x xs e) refl ]
