-- Lists of boxes that may be there.
use Rattle.std.proofs.Common.{◌≡◌, ℕ, ◌+◌, ◌-◌, ◌<◌, true, false, List, ◌++◌, length, Option, Some, None, slice_get, slice_index_or, drop, refl, drop-cons, add-one, arith}
use Rattle.std.specs.Option.{is_some}
use Rattle.geom.specs.Squares.{BoxShape}
use Rattle.micro_tiles.specs.Slots.{listed, present}

-- what stands at a place of the slots and behind it
present_from : (slots : List (Option BoxShape)) (i : ℕ) (d : Option BoxShape) → i < length slots
    → present (drop i slots) ≡ listed (slice_index_or slots i d) ++ present (drop (i + 1) slots)
present_from slots i d h = rw (add-one, drop-cons slots i d h) refl

first_present : (o : Option BoxShape) (rest : List BoxShape) → is_some o ≡ true → slice_get (listed o ++ rest) 0 ≡ o
first_present (Some b) rest h = refl
first_present None rest h = cc

later_present : (o : Option BoxShape) (rest : List BoxShape) (left : ℕ) → is_some o ≡ true
    → slice_get (listed o ++ rest) (left + 1) ≡ slice_get rest left
later_present (Some b) rest left h = rw add-one refl
later_present None rest left h = cc

none_present : (o : Option BoxShape) (rest : List BoxShape) → is_some o ≡ false → listed o ++ rest ≡ rest
none_present (Some b) rest h = cc
none_present None rest h = refl

one_present : (o : Option BoxShape) (rest : List BoxShape) → is_some o ≡ true → length (listed o ++ rest) ≡ length rest + 1
one_present (Some b) rest h = rw add-one refl
one_present None rest h = cc

-- The box at the slot is the one that is left to find.
pub found : (slots : List (Option BoxShape)) (all : List BoxShape) (i left index : ℕ) (d : Option BoxShape) → i < length slots
    → is_some (slice_index_or slots i d) ≡ true → left ≡ 0 → present slots ≡ all
    → slice_get (present (drop i slots)) left ≡ slice_get (present slots) index
    → slice_index_or slots i d ≡ slice_get all index
found slots all i left index d within some none is before =
    let here = present_from slots i d within in
    let first = first_present (slice_index_or slots i d) (present (drop (i + 1) slots)) some in
    cc

-- A box that is not the one is passed.
pub passed : (slots : List (Option BoxShape)) (i left index : ℕ) (d : Option BoxShape) → i < length slots
    → is_some (slice_index_or slots i d) ≡ true → 0 < left
    → slice_get (present (drop i slots)) left ≡ slice_get (present slots) index
    → slice_get (present (drop (i + 1) slots)) (left - 1) ≡ slice_get (present slots) index
passed slots i left index d within some more before =
    let here = present_from slots i d within in
    let later = later_present (slice_index_or slots i d) (present (drop (i + 1) slots)) (left - 1) some in
    let whole : left - 1 + 1 ≡ left = omega arith in
    cc

pub skipped : (slots : List (Option BoxShape)) (i left index : ℕ) (d : Option BoxShape) → i < length slots
    → is_some (slice_index_or slots i d) ≡ false
    → slice_get (present (drop i slots)) left ≡ slice_get (present slots) index
    → slice_get (present (drop (i + 1) slots)) left ≡ slice_get (present slots) index
skipped slots i left index d within none before =
    let here = present_from slots i d within in
    let rest = none_present (slice_index_or slots i d) (present (drop (i + 1) slots)) none in
    cc

pub counted : (slots : List (Option BoxShape)) (i count : ℕ) (d : Option BoxShape) → i < length slots
    → is_some (slice_index_or slots i d) ≡ true
    → count + length (present (drop i slots)) ≡ length (present slots)
    → (count + 1) + length (present (drop (i + 1) slots)) ≡ length (present slots)
counted slots i count d within some before =
    let here = present_from slots i d within in
    let one = one_present (slice_index_or slots i d) (present (drop (i + 1) slots)) some in
    let size : length (present (drop i slots)) ≡ length (present (drop (i + 1) slots)) + 1 = cc in
    omega arith

pub uncounted : (slots : List (Option BoxShape)) (i count : ℕ) (d : Option BoxShape) → i < length slots
    → is_some (slice_index_or slots i d) ≡ false
    → count + length (present (drop i slots)) ≡ length (present slots)
    → count + length (present (drop (i + 1) slots)) ≡ length (present slots)
uncounted slots i count d within none before =
    let here = present_from slots i d within in
    let rest = none_present (slice_index_or slots i d) (present (drop (i + 1) slots)) none in
    let size : present (drop i slots) ≡ present (drop (i + 1) slots) = cc in
    rw (← size) before
