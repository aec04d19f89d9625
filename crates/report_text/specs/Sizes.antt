-- How large a specification is, and how large its layouts are or may be. Lengths are in lambda.
use Rattle.std.specs.Prelude.{ℕ, ◌+◌, ◌*◌, length}
use Rattle.rx_lang.specs.Specification.{Specification}
use Rattle.rx_lang.specs.Positions.{array_columns, array_rows, occurrence_symbols}
use Rattle.rx_lang.specs.Squares.{side_bound}

-- how many symbols stand in the expressions, copies under counted repeats counted
abbrev pub leaves : Specification → ℕ
leaves spec = length (occurrence_symbols spec)

-- how many lines, symbols and outputs there are
abbrev pub wires : Specification → ℕ
wires spec = length spec.lines + length spec.symbols + length spec.outputs

-- how many blocks of a tree's layout hold cells: one for each node of the tree, and the frame's
abbrev pub blocks : Specification → ℕ
blocks spec = 2 * leaves spec

-- how wide and high a block is
abbrev pub block_width : Specification → ℕ
block_width spec = 140 * wires spec + 840

-- the most of each side of a tree's layout whose blocks have room in a square of this level
abbrev pub tree_side_bound : Specification → ℕ → ℕ
tree_side_bound spec level = side_bound level * block_width spec

-- the most of its area
abbrev pub tree_area_bound : Specification → ℕ
tree_area_bound spec = 361267200 * (wires spec * wires spec) * leaves spec

-- the area of an array with t terms, whose tiles are 14 wide and high
abbrev pub array_area : Specification → ℕ → ℕ
array_area spec t = 196 * (array_rows spec t * array_columns spec)
