-- Line and column in a text.
use Rattle.std.specs.Prelude.{ℕ, ◌+◌, Bool, not, ◌==◌, List, count_by, reverse}
use Rattle.std.specs.List.{prefix_len}
use Rattle.rx_text.specs.declared.place.Place.{Place}
use Rattle.rx_text.specs.declared.place.Place.TheVariants.{Text}

-- a line feed, which alone ends a line
abbrev pub is_line_feed : ℕ → Bool
is_line_feed byte = byte == 10

-- how many bytes stand behind the last line feed
abbrev pub since_line_feed : List ℕ → ℕ
since_line_feed bytes = prefix_len (λ byte. not (is_line_feed byte)) (reverse bytes)

-- The place behind these bytes: lines and columns count from 1.
abbrev pub place_behind : List ℕ → Place
place_behind bytes = Text (count_by is_line_feed bytes + 1) (since_line_feed bytes + 1)
