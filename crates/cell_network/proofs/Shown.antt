-- The clocks of the network of cells are a run of cells, so its outputs show the languages of the tree.
use Rattle.std.proofs.Common.{◌≡◌, ◌↔◌, ℕ, zero, suc, Bool, true, false, List, [], ◌∷◌, map, length, take, slice_get, Some, refl}
use Rattle.std.specs.List.{AllByRecursion}
use Rattle.std.proofs.lemmas.List.Elements.{recursion_from_All}
use Rattle.rx_lang.specs.Vector.{Bits}
use Rattle.rx_lang.specs.Specification.{MatchesSymbol, Language}
use Rattle.rx_lang.specs.Tables.{Tables, IsSpecification, specification}
use Rattle.star_normal.specs.Trees.{WholeMarks}
use Rattle.star_normal.specs.Tables.{TreeTable, IsTree, whole}
use Rattle.switch_net.specs.Clock.{Drive}
use Rattle.nor_net.specs.Netlist.{Netlist}
use Rattle.nor_net.specs.Evaluation.{clocked, phase}
use Rattle.nor_net.specs.Equations.{Solves, ClockSolves, ClocksSolve}
use Rattle.nor_net.specs.Recognised.{clocked_along, clocked_run, ShowsByClocks}
use Rattle.cell_network.specs.declared.numbering.Counts.{Counts}
use Rattle.cell_network.specs.Cells.{CellValues, CellClocks, CellRun}
use Rattle.cell_network.specs.Parts.{counts_of}
use Rattle.cell_network.specs.Home.{whole_nets}
use Rattle.cell_network.specs.Whole.{cells_of}
use Rattle.cell_network.proofs.Named.{NamesSymbols}
use Rattle.cell_network.proofs.Runs.{pull_marks}
use Rattle.cell_network.proofs.PadNets as pads
use Rattle.cell_network.proofs.Netlists.{is_netlist}
use Rattle.cell_network.proofs.Wired.{get_map}
use Rattle.cell_network.proofs.Solved.{seen}
use Rattle.cell_network.proofs.Decoding.{passes, tests_symbols}
use Rattle.cell_network.proofs.OneClock.{start_cells, next_cells}
use Rattle.cell_network.proofs.Outputs.{output_tells}

module _ (solves : ClocksSolve) (tree : TreeTable) (tables : Tables) (t : IsTree tree) (spec : IsSpecification tables)
    (named : NamesSymbols (length tables.symbols) tree.nodes) where
  abbrev c : Counts
  c = counts_of tree tables

  abbrev net : Netlist
  net = cells_of tree tables

  abbrev shown : List Bool → CellValues
  shown = seen tree tables t spec named

  clock_of : (reset : Bool) (lines state : List Bool) → length state ≡ whole_nets c → ClockSolves net reset lines state (clocked net reset lines state)
  clock_of reset lines state size = solves net (is_netlist tree tables t spec named) reset lines state size

  -- the values are those that some clock left
  record Left (values : List Bool) : Type 0 where
    before : Drive
    older : List Bool
    solved : Solves net before older values

  left : (reset : Bool) (lines state : List Bool) → length state ≡ whole_nets c → Left (clocked net reset lines state)
  left reset lines state size =
      let clock = clock_of reset lines state size in
      record { before = phase reset lines false false; older = clock.second; solved = clock.phi2_low }

  along : (u : List Bits) (values : List Bool) → AllByRecursion (λ x. length x ≡ length tables.lines) u → Left values
      → CellClocks (passes tables.symbols) tree (shown values) u (map shown (clocked_along net u values))
  along [] values wide h = tt
  along (x ∷ u) values wide h =
      let size : length values ≡ whole_nets c = h.solved.size in (
        next_cells tree tables t spec named false x values (clocked net false x values) (clock_of false x values size) h.before h.older h.solved refl wide.0,
        along u (clocked net false x values) wide.1 (left false x values size),
      )

  run : (lines state : List Bool) (u : List Bits) → length state ≡ whole_nets c → length lines ≡ length tables.lines
      → AllByRecursion (λ x. length x ≡ length tables.lines) u
      → CellRun (passes tables.symbols) tree u (map shown (clocked_run net lines u state))
  run lines state u size wide words = (
    start_cells tree tables t spec named true lines state (clocked net true lines state) (clock_of true lines state size) refl wide,
    along u (clocked net true lines state) words (left true lines state size),
  )

  -- all values of a run were left by some clock
  along_left : (u : List Bits) (values : List Bool) → Left values → (k : ℕ) (later : List Bool) → slice_get (clocked_along net u values) k ≡ Some later → Left later
  along_left [] values h k later e = absurd (cc)
  along_left (x ∷ u) values h zero later e =
      let same : clocked net false x values ≡ later = cc in
      rw (← same) (left false x values h.solved.size)
  along_left (x ∷ u) values h (suc k) later e = along_left u (clocked net false x values) (left false x values h.solved.size) k later e

  run_left : (lines state : List Bool) (u : List Bits) → length state ≡ whole_nets c → (k : ℕ) (later : List Bool)
      → slice_get (clocked_run net lines u state) k ≡ Some later → Left later
  run_left lines state u size zero later e =
      let same : clocked net true lines state ≡ later = cc in
      rw (← same) (left true lines state size)
  run_left lines state u size (suc k) later e = along_left u (clocked net true lines state) (left true lines state size) k later e

  -- the outputs show what the tree marks
  pub shows_marks : ShowsByClocks net (length tables.lines) (WholeMarks (MatchesSymbol tables.symbols) (whole tree))
  shows_marks state lines u size wide words time output at values later named_net =
      let place = pads.output_at c tables refl refl output at named_net in
      let h = run_left lines state u size time values later in
      let tells = output_tells tree tables t spec named h.before h.older values h.solved output place.0 in
      let marks =
      pull_marks (passes tables.symbols) (MatchesSymbol tables.symbols) (tests_symbols tables.symbols) tree t u (map shown (clocked_run net lines u state))
      (run lines state u size wide (recursion_from_All (λ x. length x ≡ length tables.lines) u words)) time output (shown values)
      (get_map shown (clocked_run net lines u state) time values later) in
      rw place.1 (λ e. marks.0 (tells.0 e), λ m. tells.1 (marks.1 m))

  -- and so a language that is the same
  pub shows : ((y : ℕ) (u : List Bits) → WholeMarks (MatchesSymbol tables.symbols) (whole tree) y u ↔ Language (specification tables) y u)
      → ShowsByClocks net (length tables.lines) (Language (specification tables))
  shows same state lines u size wide words time output at values later named_net =
      let told = shows_marks state lines u size wide words time output at values later named_net in
      let marks = same output (take time u) in
      (λ e. marks.0 (told.0 e), λ m. told.1 (marks.1 m))
