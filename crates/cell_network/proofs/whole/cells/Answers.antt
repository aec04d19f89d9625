use Rattle.std.proofs.Common.{◌≡◌, ◌↔◌, ℕ, List, length, refl, sym, subst, ◌∙◌}
use Rattle.rx_lang.specs.Specification.{MatchesSymbol, Language}
use Rattle.rx_lang.specs.Tables.{specification}
use Rattle.rx_lang.specs.Vector.{Bits}
use Rattle.star_normal.specs.Trees.{WholeMarks}
use Rattle.star_normal.specs.Tables.{whole}
use Rattle.nor_net.specs.Netlist.{Netlist}
use Rattle.nor_net.specs.Clearing.{ClearsByReset}
use Rattle.nor_net.specs.Recognised.{ShowsByClocks}
use Rattle.cell_network.specs.Home.{AreFew}
use Rattle.cell_network.specs.Parts.{counts_of}
use Rattle.cell_network.specs.Whole.{cells_of}
use Rattle.cell_network.proofs.LeafSymbols.{names_symbols}
use Rattle.cell_network.proofs.Named.{NamesSymbols}
use Rattle.cell_network.proofs.Netlists.{is_netlist}
use Rattle.cell_network.proofs.PadNames.{names_of_pads, few_nets}
use Rattle.cell_network.proofs.Clears.{clears}
use Rattle.cell_network.proofs.Shown.{shows, shows_marks}
use Rattle.cell_network.proofs.whole.cells.Goals as goal

pub new-requires : goal.new-requires
new-requires c =
    rw (
      c.whole_nets.ensures,
      c.in_ok-gates.ensures,
      c.in_ok-transfers.ensures,
      c.in_ok-pads.ensures,
      c.in_ok-first.ensures,
      c.in_ok-second.ensures,
      c.of-counts.ensures.counts,
    )
    (is_netlist c.args.tree.now c.args.spec.now c.of-counts.ensures.tree c.of-counts.ensures.specification
    (names_symbols c.args.tree.now c.of-counts.ensures.tree (length c.args.spec.now.symbols) c.requires.symbols))

-- the table's leaves name symbols of the specification
named : (c : goal.After-drop-inns-2) → NamesSymbols (length c.args.spec.now.symbols) c.args.tree.now.nodes
named c = names_symbols c.args.tree.now c.of-counts.ensures.tree (length c.args.spec.now.symbols) c.requires.symbols

-- what was made is the network of cells
made : (c : goal.After-drop-inns-2) → c.new.result ≡ cells_of c.args.tree.now c.args.spec.now
made c =
    c.new.ensures
    ∙ rw (
      c.whole_nets.ensures,
      c.in_ok-gates.ensures,
      c.in_ok-transfers.ensures,
      c.in_ok-pads.ensures,
      c.in_ok-first.ensures,
      c.in_ok-second.ensures,
      c.of-counts.ensures.counts,
    )
    refl

pub returns-clause-clears : goal.returns-clause-clears
returns-clause-clears c =
    subst ClearsByReset (sym (made c)) (clears c.args.tree.now c.args.spec.now c.of-counts.ensures.tree c.of-counts.ensures.specification (named c))

pub returns-clause-marks : goal.returns-clause-marks
returns-clause-marks c =
    subst (λ (net : Netlist). ShowsByClocks net (length c.args.spec.now.lines) (WholeMarks (MatchesSymbol c.args.spec.now.symbols) (whole c.args.tree.now)))
    (sym (made c))
    (shows_marks c.clocks_solve_the_equations.ensures c.args.tree.now c.args.spec.now c.of-counts.ensures.tree c.of-counts.ensures.specification (named c))

pub returns-clause-shows : goal.returns-clause-shows
returns-clause-shows c =
    subst
    (λ (net : Netlist).
    ((y : ℕ) (u : List Bits) → WholeMarks (MatchesSymbol c.args.spec.now.symbols) (whole c.args.tree.now) y u ↔ Language (specification c.args.spec.now) y u)
    → ShowsByClocks net (length c.args.spec.now.lines) (Language (specification c.args.spec.now)))
    (sym (made c))
    (shows c.clocks_solve_the_equations.ensures c.args.tree.now c.args.spec.now c.of-counts.ensures.tree c.of-counts.ensures.specification (named c))

pub returns-clause-pads : goal.returns-clause-pads
returns-clause-pads c = rw (made c) (names_of_pads (counts_of c.args.tree.now c.args.spec.now) c.args.spec.now)

pub returns-clause-few : goal.returns-clause-few
returns-clause-few c =
    rw (made c) (few_nets (counts_of c.args.tree.now c.args.spec.now) (subst AreFew c.of-counts.ensures.counts c.of-counts.ensures.few))
