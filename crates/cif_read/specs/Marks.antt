-- Places in a text, by line and column.
use Rattle.std.specs.Prelude.{◌≡◌, ℕ, ◌+◌, ◌≤◌, List, length, take, if◌then◌else◌}
use Rattle.rx_text.specs.TextPlace.{place_behind, is_line_feed}
use Rattle.rx_text.specs.declared.place.Place.{Place}
use Rattle.rx_text.specs.declared.place.Place.TheVariants.{Text}
use Rattle.cif_read.specs.declared.mark.Mark.{Mark}

abbrev pub place_of : Mark → Place
place_of mark = Text mark.line mark.column

-- The line and the column are those of the byte of this number.
pub record IsMark (text : List ℕ) (mark : Mark) : Type 0 where
  pub within : mark.at ≤ length text
  pub place_is : place_behind (take mark.at text) ≡ place_of mark

-- behind this byte
abbrev pub next_mark : Mark → ℕ → Mark
next_mark mark byte =
    if is_line_feed byte then record { at = mark.at + 1; line = mark.line + 1; column = 1 }
    else record { at = mark.at + 1; line = mark.line; column = mark.column + 1 }
