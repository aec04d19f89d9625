-- The gates of nodes and of the frame, on named nets (after Floyd and Ullman, 1982), and their numbers under a numbering.
-- Wires are high where what they say is so, but for the shared wires of outputs, which are pulled low.
use Rattle.std.specs.Prelude.{ℕ, ◌+◌, ◌<◌, ◌^◌, Bool, true, false, if◌then◌else◌, List, [], ◌∷◌, ◌++◌, length, map, flat_map, slice_index_or}
use Rattle.std.specs.List.{range_with_len}
use Rattle.rx_lang.specs.declared.pattern.PatternBit.{PatternBit}
use Rattle.rx_lang.specs.declared.pattern.PatternBit.TheVariants.{Zero, One, Any}
use Rattle.rx_lang.specs.Specification.{NamedPattern}
use Rattle.rx_lang.specs.Tables.{Tables}
use Rattle.rx_text.specs.declared.pad_name.Role.TheVariants.{Phi1, Phi2}
use Rattle.star_normal.specs.declared.node.Node.{Node}
use Rattle.star_normal.specs.declared.node.NodeKind.{NodeKind}
use Rattle.star_normal.specs.declared.node.NodeKind.TheVariants.{Leaf, Seq, Alt}
use Rattle.star_normal.specs.Tables.{flags_of}
use Rattle.nor_net.specs.Netlist.{NorGate}
use Rattle.nor_net.specs.declared.gate.Transfer.{Transfer}
use Rattle.cell_network.specs.declared.part_net.PartNet.{PartNet}
use Rattle.cell_network.specs.declared.part_net.PartNet.TheVariants.{Symbol, Shared, In, Out, Reset, Vdd, NotBegins, Begins, NotSymbol, Data, Master, Inverse, Stored, LeftOut, RightIn, RightOut, NotRight, NotOut, Line, Complement, Output}
use Rattle.cell_network.specs.declared.numbering.Numbering.{Numbering}
use Rattle.cell_network.specs.Cells.{eps_at}

-- a NOR gate on named nets
pub record NamedGate : Type 0 where
  pub out : PartNet
  pub inputs : List PartNet

abbrev pub gate : PartNet → List PartNet → NamedGate
gate out inputs = record { out = out; inputs = inputs }

-- ---- nodes

-- what makes the node begin, so that the complement of IN' is low: its IN, and its OUT where it loops. At a scan node it is low
-- at all times.
abbrev pub complement_inputs : Bool → Bool → List PartNet
complement_inputs true loops = Vdd ∷ []
complement_inputs false true = In ∷ Out ∷ []
complement_inputs false false = In ∷ []

-- IN' is the inverse of its complement, and a NOR of no nets at a scan node.
abbrev pub begin_inputs : Bool → List PartNet
begin_inputs true = []
begin_inputs false = NotBegins ∷ []

-- A leaf: OUT is its register, which stores where the node begins with the symbol and without reset.
abbrev pub leaf_gates : Node → ℕ → List NamedGate
leaf_gates node s =
    gate Out (Stored ∷ [])
    ∷ gate NotBegins (complement_inputs node.scan node.loops)
    ∷ gate Begins (begin_inputs node.scan)
    ∷ gate NotSymbol (Symbol s ∷ [])
    ∷ gate Data (NotBegins ∷ NotSymbol ∷ Reset ∷ [])
    ∷ gate Inverse (Master ∷ [])
    ∷ []

-- A node of two parts: the right part begins by one of the first nets, and the node ends by one of the second.
abbrev pub pair_gates : Node → List PartNet → List PartNet → List NamedGate
pair_gates node right ends =
    gate NotOut ends
    ∷ gate Out (NotOut ∷ [])
    ∷ gate NotBegins (complement_inputs node.scan node.loops)
    ∷ gate Begins (begin_inputs node.scan)
    ∷ gate NotRight right
    ∷ gate RightIn (NotRight ∷ [])
    ∷ []

-- The right part of a sequence begins where the left one ends, and with it where the left one spells the empty word.
abbrev pub right_inputs : Bool → List PartNet
right_inputs left_eps = if left_eps then LeftOut ∷ Begins ∷ [] else LeftOut ∷ []

-- A sequence ends with its right part, and with its left one where the right one spells the empty word.
abbrev pub end_inputs : Bool → List PartNet
end_inputs right_eps = if right_eps then RightOut ∷ LeftOut ∷ [] else RightOut ∷ []

-- the gates of the node that have their load in its part
abbrev pub kind_gates : List Node → Node → NodeKind → List NamedGate
kind_gates nodes node (Leaf s) = leaf_gates node s
kind_gates nodes node (Seq l r) = pair_gates node (right_inputs (eps_at nodes l)) (end_inputs (eps_at nodes r))
kind_gates nodes node (Alt l r) = pair_gates node (Begins ∷ []) (RightOut ∷ LeftOut ∷ [])

-- the gate of a mark, which pulls the shared wire by OUT, and by IN' for the mark of the empty word
abbrev pub mark_of : ℕ → Bool → Bool → List NamedGate
mark_of y true true = gate (Shared y) (Out ∷ Begins ∷ []) ∷ []
mark_of y true false = gate (Shared y) (Out ∷ []) ∷ []
mark_of y false true = gate (Shared y) (Begins ∷ []) ∷ []
mark_of y false false = []

-- the gate of the node's mark for the output, if there is one
abbrev pub mark_gate : Node → ℕ → List NamedGate
mark_gate node y = mark_of y ((flags_of node).marks y) ((flags_of node).eps_marks y)

-- the gates of the node's marks
abbrev pub mark_gates : ℕ → Node → List NamedGate
mark_gates outputs node = flat_map (mark_gate node) (range_with_len 0 outputs)

-- ---- the frame

-- what is high where the line does not have the bit that this place of a pattern asks for
abbrev pub mismatch : ℕ → PatternBit → List PartNet
mismatch line Zero = Line line ∷ []
mismatch line One = Complement line ∷ []
mismatch line Any = []

-- the mismatches of a pattern, whose first place is that of line 0
abbrev pub mismatches : List PatternBit → List PartNet
mismatches pattern = flat_map (λ line. mismatch line (slice_index_or pattern line Any)) (range_with_len 0 (length pattern))

abbrev pub pattern_at : List NamedPattern → ℕ → List PatternBit
pattern_at symbols s = (slice_index_or symbols s (record { name = []; pattern = [] })).pattern

abbrev pub complement_gate : ℕ → NamedGate
complement_gate line = gate (Complement line) (Line line ∷ [])

abbrev pub symbol_gate : List NamedPattern → ℕ → NamedGate
symbol_gate symbols s = gate (Symbol s) (mismatches (pattern_at symbols s))

abbrev pub output_gate : ℕ → NamedGate
output_gate y = gate (Output y) (Shared y ∷ [])

-- The frame has the complements of the lines, decodes the symbols, inverts the shared wires, and IN of the root is its
-- start register.
abbrev pub frame_gates : Tables → List NamedGate
frame_gates tables =
    map complement_gate (range_with_len 0 (length tables.lines))
    ++ map (symbol_gate tables.symbols) (range_with_len 0 (length tables.symbols))
    ++ gate In (Stored ∷ []) ∷ []
    ++ map output_gate (range_with_len 0 (length tables.outputs))
    ++ gate Inverse (Master ∷ []) ∷ []

-- ---- numbers

-- the number of a net
abbrev pub number : Numbering → PartNet → ℕ
number n (Symbol s) = n.symbols + s
number n (Shared y) = n.shared + y
number n In = n.inn
number n Out = n.out
number n Reset = n.reset
number n Vdd = n.vdd
number n NotBegins = n.not_begins
number n Begins = n.begins
number n NotSymbol = n.not_symbol
number n Data = n.source
number n Master = n.master
number n Inverse = n.inverse
number n Stored = n.stored
number n LeftOut = n.left_out
number n RightIn = n.right_in
number n RightOut = n.right_out
number n NotRight = n.not_right
number n NotOut = n.not_out
number n (Line i) = n.lines + i
number n (Complement i) = n.complements + i
number n (Output y) = n.outputs + y

-- the gate with numbers for names
abbrev pub numbered : Numbering → NamedGate → NorGate
numbered n g = record { out = number n g.out; inputs = map (number n) g.inputs }

-- a register's transfers: from its source through PHI1, and from the complement behind it through PHI2
abbrev pub register : Numbering → PartNet → List Transfer
register n source =
    record { clock = Phi1; from = number n source; to = n.master }
    ∷ record { clock = Phi2; from = n.inverse; to = n.stored }
    ∷ []

-- a leaf has a register, the other nodes none
abbrev pub kind_transfers : Numbering → NodeKind → List Transfer
kind_transfers n (Leaf s) = register n Data
kind_transfers n (Seq l r) = []
kind_transfers n (Alt l r) = []

-- the numbers that are counted on from are small
pub record AreSmall (n : Numbering) : Type 0 where
  pub symbols : n.symbols < 2 ^ 31
  pub shared : n.shared < 2 ^ 31
  pub lines : n.lines < 2 ^ 31
  pub complements : n.complements < 2 ^ 31
  pub outputs : n.outputs < 2 ^ 31
