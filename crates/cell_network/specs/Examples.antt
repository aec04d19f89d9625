-- Normal forms as tables, with runs of their cells worked out by hand. A letter is one bit: symbol 0 is the high bit a, every
-- other symbol the low bit b.
use Rattle.std.specs.Prelude.{ℕ, zero, suc, Bool, true, false, not, List, [], ◌∷◌, map, slice_index_or}
use Rattle.star_normal.specs.declared.node.Node.{Node}
use Rattle.star_normal.specs.declared.node.NodeKind.TheVariants.{Leaf, Seq}
use Rattle.star_normal.specs.Tables.{TreeTable}
use Rattle.cell_network.specs.Cells.{CellValues, pulls}

abbrev pub bit : ℕ → Bool → Bool
bit zero x = x
bit (suc s) x = not x

-- IN and OUT of the nodes in order
abbrev pub cells : List Bool → List Bool → CellValues
cells inn out = record { inn = λ k. slice_index_or inn k false; out = λ k. slice_index_or out k false }

-- for each time of a run, whether this node pulls the shared wire of the output
abbrev pub pulled : ℕ → Node → ℕ → List CellValues → List Bool
pulled k node y vs = map (λ v. pulls node y (v.inn k) (v.out k)) vs

-- a !z
abbrev pub marked_node : Node
marked_node = record { kind = Leaf 0; loops = false; eps = false; scan = false; marks = 1; eps_marks = 0 }

abbrev pub marked_table : TreeTable
marked_table = record { nodes = marked_node ∷ []; root = 0 }

-- under a b a
abbrev pub marked_run : List CellValues
marked_run = cells (true ∷ []) (false ∷ [])
    ∷ cells (false ∷ []) (true ∷ [])
    ∷ cells (false ∷ []) (false ∷ [])
    ∷ cells (false ∷ []) (false ∷ [])
    ∷ []

-- (a? !z)*
abbrev pub looped_node : Node
looped_node = record { kind = Leaf 0; loops = true; eps = true; scan = false; marks = 1; eps_marks = 1 }

abbrev pub looped_table : TreeTable
looped_table = record { nodes = looped_node ∷ []; root = 0 }

-- under a b
abbrev pub looped_run : List CellValues
looped_run = cells (true ∷ []) (false ∷ []) ∷ cells (false ∷ []) (true ∷ []) ∷ cells (false ∷ []) (false ∷ []) ∷ []

-- (a? !y) b !z
abbrev pub first_node : Node
first_node = record { kind = Leaf 0; loops = false; eps = true; scan = false; marks = 1; eps_marks = 1 }

abbrev pub second_node : Node
second_node = record { kind = Leaf 1; loops = false; eps = false; scan = false; marks = 2; eps_marks = 0 }

abbrev pub sequence_node : Node
sequence_node = record { kind = Seq 0 1; loops = false; eps = false; scan = false; marks = 0; eps_marks = 0 }

abbrev pub sequence_table : TreeTable
sequence_table = record { nodes = first_node ∷ second_node ∷ sequence_node ∷ []; root = 2 }

-- under a b: after a the second part alone may go on
abbrev pub sequence_run : List CellValues
sequence_run = cells (true ∷ true ∷ true ∷ []) (false ∷ false ∷ false ∷ [])
    ∷ cells (false ∷ true ∷ false ∷ []) (true ∷ false ∷ false ∷ [])
    ∷ cells (false ∷ false ∷ false ∷ []) (false ∷ true ∷ true ∷ [])
    ∷ []

-- under b: the first part is passed over
abbrev pub passed_run : List CellValues
passed_run = cells (true ∷ true ∷ true ∷ []) (false ∷ false ∷ false ∷ [])
    ∷ cells (false ∷ false ∷ false ∷ []) (false ∷ true ∷ true ∷ [])
    ∷ []
