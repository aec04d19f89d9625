-- Two lists, entry by entry.
use Rattle.std.specs.Prelude.{List, [], ◌∷◌}

-- The lists are equally long, and R holds of each two entries at one place.
abbrev pub Matched : {X Y : Type 0} → (X → Y → Type 0) → List X → List Y → Type 0
Matched R [] [] = Unit {0}
Matched R [] (y ∷ ys) = ⊥
Matched R (x ∷ xs) [] = ⊥
Matched R (x ∷ xs) (y ∷ ys) = R x y × Matched R xs ys
