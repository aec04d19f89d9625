use Rattle.rx_lang.specs.Tables.{specification}
use Rattle.rxc_program.proofs.TreeCells.{recogniser_of}
use Rattle.rxc_program.proofs.tree.cells_recognise.Goals as goal

-- src/tree.rt
pub returns : goal.returns
returns c =
    let tables = c.args.spec.now in
    let cells = c.in_ok-netlist.ensures in
    let network = c.in_ok-to_switch.ensures in
    let shows = cells.shows c.requires.languages.marks in
    recogniser_of c.args.tree.now tables c.in_ok-netlist.netlist _ network.form cells.cells cells.pads
    (network.recognises (specification tables) shows) (network.sure (specification tables) shows cells.clears)
