-- One clock of the network of cells: what each register stores, and so the cells after the reset clock and after a letter.
use Rattle.std.proofs.Common.{◌≡◌, ℕ, ◌+◌, ◌*◌, ◌<◌, ◌&&◌, ◌||◌, not, Bool, true, false, List, [], ◌∷◌, length, Contains, refl, ap, subst, ◌∙◌, arith}
use Rattle.std.proofs.lemmas.Option.{slice_get_within}
use Rattle.rx_text.specs.declared.pad_name.Role.TheVariants.{Phi1, Phi2}
use Rattle.rx_lang.specs.Tables.{Tables, IsSpecification}
use Rattle.star_normal.specs.declared.node.Node.{Node}
use Rattle.star_normal.specs.declared.node.NodeKind.TheVariants.{Leaf}
use Rattle.star_normal.specs.Tables.{TreeTable, IsTree}
use Rattle.switch_net.specs.Clock.{Drive}
use Rattle.nor_net.specs.Netlist.{NorGate}
use Rattle.nor_net.specs.Evaluation.{value_at, phase}
use Rattle.nor_net.specs.Equations.{Solves, ClockSolves}
use Rattle.cell_network.specs.declared.numbering.Counts.{Counts}
use Rattle.cell_network.specs.declared.part_net.PartNet.TheVariants.{Data, Inverse, Master, NotBegins, NotSymbol, Out, Reset, Stored, Symbol}
use Rattle.cell_network.specs.Cells.{begins_at, StartCells, NextCells}
use Rattle.cell_network.specs.Shapes.{gate}
use Rattle.cell_network.specs.Parts.{NamesSymbol, counts_of, node_at}
use Rattle.cell_network.specs.Home.{symbol_net, start_net, end_net, begin_net, master_net, whole_nets}
use Rattle.cell_network.specs.Whole.{whole_gates, whole_transfers, cells_of}
use Rattle.cell_network.proofs.Named.{NamesSymbols}
use Rattle.cell_network.proofs.Feeding.{root_fed}
use Rattle.cell_network.proofs.Nors.{IsNor}
use Rattle.cell_network.proofs.Wired.{start_nor, inverse_nor, kind_facts}
use Rattle.cell_network.proofs.Netlists.{first_in, second_in}
use Rattle.cell_network.proofs.Solved as solved
use Rattle.cell_network.proofs.Solved.{seen, kind_nor, are_cells}
use Rattle.cell_network.proofs.Decoding.{passes, reset_value, symbol_value}
use Rattle.cell_network.proofs.Stable.{begin_kept}

not_not : (b : Bool) → not (not b) ≡ b
not_not true = refl
not_not false = refl

-- nothing is stored while the reset is high
cleared : (a b : Bool) → not (a || (b || (true || false))) ≡ false
cleared true b = refl
cleared false true = refl
cleared false false = refl

-- else what began with its symbol
taken : (a b : Bool) → not (not a || (not b || (false || false))) ≡ (a && b)
taken true true = refl
taken true false = refl
taken false true = refl
taken false false = refl

module _ (tree : TreeTable) (tables : Tables) (t : IsTree tree) (spec : IsSpecification tables) (named : NamesSymbols (length tables.symbols) tree.nodes)
    (reset : Bool) (lines old new : List Bool) (clock : ClockSolves (cells_of tree tables) reset lines old new) where
  abbrev c : Counts
  c = counts_of tree tables

  abbrev nodes : List Node
  nodes = tree.nodes

  abbrev gates : List NorGate
  gates = whole_gates c tree tables

  -- ---- registers

  -- a storage node behind PHI2 keeps its value until then
  kept_so_far : (from net : ℕ) → Contains (whole_transfers c tree) (record { clock = Phi2; from = from; to = net })
      → value_at clock.first net ≡ value_at old net
  kept_so_far from net at = clock.phi1_high.transfers _ at ∙ clock.settles.transfers _ at

  -- A register of two storage nodes gives what its source was while PHI1 was high.
  register_gives : (source master inverse stored out : ℕ) → master < whole_nets c → inverse < whole_nets c → out < whole_nets c
      → Contains (whole_transfers c tree) (record { clock = Phi1; from = source; to = master })
      → Contains (whole_transfers c tree) (record { clock = Phi2; from = inverse; to = stored })
      → IsNor gates inverse (master ∷ []) → IsNor gates out (stored ∷ [])
      → value_at new out ≡ value_at clock.first source
  register_gives source master inverse stored out ml il ol first second nor last =
      solved.inverted tree tables t spec named (phase reset lines false false) clock.second new clock.phi2_low out stored ol last
      ∙ ap not (clock.phi2_low.transfers _ second ∙ clock.phi2_high.transfers _ second
      ∙ solved.inverted tree tables t spec named (phase reset lines false true) clock.between clock.second clock.phi2_high inverse master il nor)
      ∙ not_not (value_at clock.second master)
      ∙ clock.phi2_high.transfers _ first ∙ clock.phi1_low.transfers _ first ∙ clock.phi1_high.transfers _ first

  -- ---- the start register

  root_shows : value_at new (start_net c + 1) ≡ reset
  root_shows =
      register_gives 4 (master_net c) (master_net c + 1) (start_net c) (start_net c + 1) (omega arith) (omega arith) (omega arith)
      (0, omega arith, refl) (1, omega arith, refl) (inverse_nor tree tables t spec named) (start_nor tree tables t spec named)
      ∙ reset_value tree tables t spec named (phase reset lines true false) clock.changed clock.first clock.phi1_high

  root_in : (seen tree tables t spec named new).inn tree.root ≡ reset
  root_in = ap (value_at new) (root_fed c tree t) ∙ root_shows

  -- ---- leaves

  module _ (v s : ℕ) (lt : v < length nodes) (kind : (node_at nodes v).kind ≡ Leaf s) where
    pub stored_kept : value_at clock.first (end_net c v) ≡ value_at old (end_net c v)
    stored_kept = kept_so_far (master_net c + 3 + 2 * v) (end_net c v) (second_in tree tables t spec named v s lt kind)

    leaf_gives : value_at new (end_net c v + 1) ≡ value_at clock.first (begin_net c v + 3)
    leaf_gives =
        register_gives (begin_net c v + 3) (master_net c + 2 + 2 * v) (master_net c + 3 + 2 * v) (end_net c v) (end_net c v + 1)
        (omega (arith, lt)) (omega (arith, lt)) (omega (arith, lt)) (first_in tree tables t spec named v s lt kind) (second_in tree tables t spec named v s lt kind)
        (kind_nor tree tables t spec named v (Leaf s) 5 (gate Inverse (Master ∷ [])) lt kind refl)
        (kind_nor tree tables t spec named v (Leaf s) 0 (gate Out (Stored ∷ [])) lt kind refl)

    symbol_below : s < length tables.symbols
    symbol_below = let known : NamesSymbol (length tables.symbols) (Leaf s) = rw kind at (kind_facts tree tables t spec named v lt) in known

    -- while PHI1 is high: the complements of IN' and of the symbol, and the reset
    data_value : length lines ≡ length tables.lines
        → value_at clock.first (begin_net c v + 3)
        ≡ not (value_at clock.first (begin_net c v) || (not (passes tables.symbols s lines) || (reset || false)))
    data_value wide =
        let D : Drive = phase reset lines true false in
        solved.nor_value tree tables t spec named D clock.changed clock.first clock.phi1_high (begin_net c v + 3) (begin_net c v ∷ (begin_net c v + 2) ∷ 4 ∷ [])
        (omega arith) (kind_nor tree tables t spec named v (Leaf s) 4 (gate Data (NotBegins ∷ NotSymbol ∷ Reset ∷ [])) lt kind refl)
        ∙ rw (
          solved.inverted tree tables t spec named D clock.changed clock.first clock.phi1_high (begin_net c v + 2) (symbol_net c + s) (omega arith)
              (kind_nor tree tables t spec named v (Leaf s) 3 (gate NotSymbol (Symbol s ∷ [])) lt kind refl),
          symbol_value tree tables t spec named D clock.changed clock.first clock.phi1_high s symbol_below wide,
          reset_value tree tables t spec named D clock.changed clock.first clock.phi1_high,
        )
        refl

  -- ---- the cells

  pub start_cells : reset ≡ true → length lines ≡ length tables.lines → StartCells tree (seen tree tables t spec named new)
  start_cells on wide = record {
    cells = are_cells tree tables t spec named (phase reset lines false false) clock.second new clock.phi2_low;
    root = root_in ∙ on;
    clear = λ v s node e kind.
        let lt : v < length nodes = slice_get_within nodes v node e in
        let same : node_at nodes v ≡ node = solved.at_node tree tables t spec named (phase reset lines false false) clock.second new clock.phi2_low v node e in
        leaf_gives v s lt (rw same kind) ∙ data_value v s lt (rw same kind) wide
        ∙ rw on (cleared (value_at clock.first (begin_net c v)) (not (passes tables.symbols s lines)));
  }

  module _ (before : Drive) (older : List Bool) (h : Solves (cells_of tree tables) before older old) where
    kept_begin : (v : ℕ) → v < length nodes → value_at clock.first (begin_net c v) ≡ value_at old (begin_net c v)
    kept_begin v lt =
        (begin_kept tree tables t spec named before (phase reset lines true false) older old clock.changed clock.first h clock.phi1_high
        (kept_so_far (master_net c + 1) (start_net c) (1, omega arith, refl)) (λ u s ul kind. stored_kept u s ul kind) v lt).complement

    pub next_cells : reset ≡ false → length lines ≡ length tables.lines
        → NextCells (passes tables.symbols) tree lines (seen tree tables t spec named old) (seen tree tables t spec named new)
    next_cells off wide = record {
      cells = are_cells tree tables t spec named (phase reset lines false false) clock.second new clock.phi2_low;
      root = root_in ∙ off;
      stored = λ v s node e kind.
          let lt : v < length nodes = slice_get_within nodes v node e in
          let same : node_at nodes v ≡ node = solved.at_node tree tables t spec named before older old h v node e in
          let began : value_at clock.first (begin_net c v) ≡ not (begins_at (seen tree tables t spec named old) v (node_at nodes v)) =
          kept_begin v lt ∙ solved.not_begins tree tables t spec named before older old h v lt in
          subst (λ (x : Node). value_at new (end_net c v + 1) ≡ (begins_at (seen tree tables t spec named old) v x && passes tables.symbols s lines)) same
          (leaf_gives v s lt (rw same kind) ∙ data_value v s lt (rw same kind) wide
          ∙ rw (began, off) (taken (begins_at (seen tree tables t spec named old) v (node_at nodes v)) (passes tables.symbols s lines)));
    }
