-- Kinds, and the number of one of them.
use Rattle.std.specs.Prelude.{◌≡◌, ◌≢◌, ℕ, List, [], ◌∷◌, ◌++◌, length, slice_get, Some, All, ◌⊎◌}
use Rattle.geom.specs.Squares.{BoxShape}

-- The boxes are the kind of this number, and stand behind the kinds where they were none of them.
pub record IsNumbered (old : List (List BoxShape)) (boxes : List BoxShape) (number : ℕ) (new : List (List BoxShape)) : Type 0 where
  pub kind : slice_get new number ≡ Some boxes
  pub grown : (new ≡ old) ⊎ ((new ≡ old ++ boxes ∷ []) × (number ≡ length old) × All (λ kind. kind ≢ boxes) old)
