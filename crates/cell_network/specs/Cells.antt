-- The cells of a normal form, apart from gates: IN and OUT of every node, the equations between them, and how they follow
-- one another from letter to letter (after Floyd and Ullman, 1982). OUT speaks of words that are not empty.
use Rattle.std.specs.Prelude.{◌≡◌, ℕ, Bool, true, false, ◌&&◌, ◌||◌, List, [], ◌∷◌, Option, Some, None, slice_get}
use Rattle.star_normal.specs.declared.node.Node.{Node}
use Rattle.star_normal.specs.declared.node.NodeKind.TheVariants.{Leaf, Seq, Alt}
use Rattle.star_normal.specs.Tables.{TreeTable, flags_of}

-- IN and OUT of every node at one time, by the node's number
pub record CellValues : Type 0 where
  pub inn : ℕ → Bool
  pub out : ℕ → Bool

-- IN': the node begins, or a further turn of it does; from its IN and OUT. A scan node begins at all times.
abbrev pub begins : Node → Bool → Bool → Bool
begins node inn out = node.scan || (inn || (node.loops && out))

-- the same of the node with this number
abbrev pub begins_at : CellValues → ℕ → Node → Bool
begins_at v k node = begins node (v.inn k) (v.out k)

abbrev pub eps_of : Option Node → Bool
eps_of None = false
eps_of (Some node) = node.eps

-- the node with this number spells the empty word
abbrev pub eps_at : List Node → ℕ → Bool
eps_at nodes k = eps_of (slice_get nodes k)

-- A sequence: the left part begins where the node does, the right part where the left part ends, and the node ends where
-- the right part does. A part that spells the empty word may be passed over.
pub record SequenceCells (nodes : List Node) (v : CellValues) (k : ℕ) (node : Node) (l r : ℕ) : Type 0 where
  pub left : v.inn l ≡ begins_at v k node
  pub right : v.inn r ≡ (v.out l || (eps_at nodes l && begins_at v k node))
  pub out : v.out k ≡ (v.out r || (eps_at nodes r && v.out l))

-- An alternative: both parts begin where the node does, and it ends where one of them does.
pub record AlternativeCells (v : CellValues) (k : ℕ) (node : Node) (l r : ℕ) : Type 0 where
  pub left : v.inn l ≡ begins_at v k node
  pub right : v.inn r ≡ begins_at v k node
  pub out : v.out k ≡ (v.out r || v.out l)

-- The equations hold at every node of the table. OUT of a leaf is its register.
pub record AreCells (table : TreeTable) (v : CellValues) : Type 0 where
  pub sequence : (k l r : ℕ) (node : Node) → slice_get table.nodes k ≡ Some node → node.kind ≡ Seq l r → SequenceCells table.nodes v k node l r
  pub alternative : (k l r : ℕ) (node : Node) → slice_get table.nodes k ≡ Some node → node.kind ≡ Alt l r → AlternativeCells v k node l r

-- The cells after the reset clock: the root begins, and all registers are clear.
pub record StartCells (table : TreeTable) (v : CellValues) : Type 0 where
  pub cells : AreCells table v
  pub root : v.inn table.root ≡ true
  pub clear : (k s : ℕ) (node : Node) → slice_get table.nodes k ≡ Some node → node.kind ≡ Leaf s → v.out k ≡ false

-- the node pulls the shared wire of output y: by OUT for its mark, and by IN' for its mark of the empty word
abbrev pub pulls : Node → ℕ → Bool → Bool → Bool
pulls node y inn out = ((flags_of node).marks y && out) || ((flags_of node).eps_marks y && begins node inn out)

-- some node of the table pulls the shared wire of output y
pub record SomeCellPulls (table : TreeTable) (v : CellValues) (y : ℕ) : Type 0 where
  pub at : ℕ
  pub node : Node
  pub here : slice_get table.nodes at ≡ Some node
  pub pulled : pulls node y (v.inn at) (v.out at) ≡ true

-- the letters, by a test whether a letter is the symbol with this number
module _ {X : Type 0} (is : ℕ → X → Bool) (table : TreeTable) where
  -- The cells one clock later: each leaf has stored whether it began and the letter is its symbol, and the root no longer begins.
  pub record NextCells (x : X) (before after : CellValues) : Type 0 where
    pub cells : AreCells table after
    pub root : after.inn table.root ≡ false
    pub stored : (k s : ℕ) (node : Node) → slice_get table.nodes k ≡ Some node → node.kind ≡ Leaf s
        → after.out k ≡ (begins_at before k node && is s x)

  -- the values after each letter of the word, each from those before
  abbrev pub CellClocks : CellValues → List X → List CellValues → Type 0
  CellClocks before [] [] = Unit {0}
  CellClocks before [] (v ∷ vs) = ⊥
  CellClocks before (x ∷ u) [] = ⊥
  CellClocks before (x ∷ u) (v ∷ vs) = NextCells x before v × CellClocks v u vs

  -- The values after the reset clock, and after each letter of the word.
  abbrev pub CellRun : List X → List CellValues → Type 0
  CellRun u [] = ⊥
  CellRun u (v ∷ vs) = StartCells table v × CellClocks v u vs
