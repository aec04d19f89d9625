-- Words that spaces separate.
use Rattle.std.specs.Prelude.{ℕ, ◌==◌, Bool, not, List, [], ◌∷◌}

-- any byte but the space
abbrev pub is_inside_word : ℕ → Bool
is_inside_word byte = not (byte == 32)

-- a word before others, if it has bytes; else there is none
abbrev pub put_word : List ℕ → List (List ℕ) → List (List ℕ)
put_word [] words = []
put_word (byte ∷ bytes) words = (byte ∷ bytes) ∷ words
