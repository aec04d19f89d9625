-- The vectors of a trace, whose bits stand in one list and whose ends in another.
use Rattle.std.specs.Prelude.{◌≡◌, ℕ, ◌+◌, ◌-◌, ◌≤◌, Bool, List, [], ◌∷◌, length, take, drop}

-- the bits are cut at these ends, where so many stand before them
abbrev pub cut : ℕ → List ℕ → List Bool → List (List Bool)
cut from [] bits = []
cut from (end ∷ ends) bits = take (end - from) bits ∷ cut end ends (drop (end - from) bits)

-- the ends never fall, and the last is that of the bits
abbrev pub AreEnds : ℕ → List ℕ → List Bool → Type 0
AreEnds from [] bits = bits ≡ []
AreEnds from (end ∷ ends) bits = (from ≤ end) × (end ≤ from + length bits) × AreEnds end ends (drop (end - from) bits)

-- the two lists are those of a trace
pub record IsKept (ends : List ℕ) (bits : List Bool) : Type 0 where
  pub cuts : AreEnds 0 ends bits
  pub few : length ends ≤ 10000
