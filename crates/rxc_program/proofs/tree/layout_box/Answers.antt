use Rattle.cif_write.specs.ChipText.{chip_text}
use Rattle.rxc_program.proofs.tree.layout_box.Goals as goal

-- src/tree.rt
pub box_of-requires-clause-calls : goal.box_of-requires-clause-calls
box_of-requires-clause-calls c = c.in_ok-chip.ensures.measured

pub box_of-requires-clause-some : goal.box_of-requires-clause-some
box_of-requires-clause-some c = c.in_ok-chip.ensures.some

pub returns-clause-sides : goal.returns-clause-sides
returns-clause-sides c = record {
  file = chip_text c.in_ok-chip.chip;
  is_file = c.in_ok-chip.ensures.file;
  box = c.in_ok-chip.ensures.drawn c.box_of.result c.box_of.ensures;
}

pub returns-clause-narrow : goal.returns-clause-narrow
returns-clause-narrow c = c.in_ok-chip.ensures.narrow c.box_of.result c.box_of.ensures

pub returns-clause-low : goal.returns-clause-low
returns-clause-low c = c.in_ok-chip.ensures.low c.box_of.result c.box_of.ensures
