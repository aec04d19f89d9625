use Rattle.rx_lang.specs.Tables.{specification}
use Rattle.rxc_program.proofs.tree.compile.Goals as goal

-- src/tree.rt
pub layout_chip-requires-clause-lines : goal.layout_chip-requires-clause-lines
layout_chip-requires-clause-lines c = c.accepted_names_are_names.ensures.lines c.args.text.now _ _ c.in_ok-spec.ensures.accepted

pub layout_chip-requires-clause-outputs : goal.layout_chip-requires-clause-outputs
layout_chip-requires-clause-outputs c = c.accepted_names_are_names.ensures.outputs c.args.text.now _ _ c.in_ok-spec.ensures.accepted

pub returns-in-Ok-clause-file : goal.returns-in-Ok-clause-file
returns-in-Ok-clause-file c = record {
  spec = specification c.in_ok-spec.spec;
  accepted = c.in_ok-spec.ensures.accepted;
  file_of = c.in-Ok.ensures.file;
}
