use Rattle.rxc_program.proofs.pla.compile.Goals as goal

-- src/pla.rt
pub array_chip-requires-clause-lines : goal.array_chip-requires-clause-lines
array_chip-requires-clause-lines c = c.accepted_names_are_names.ensures.lines c.args.text.now _ _ c.in_ok-spec.ensures.accepted

pub array_chip-requires-clause-outputs : goal.array_chip-requires-clause-outputs
array_chip-requires-clause-outputs c = c.accepted_names_are_names.ensures.outputs c.args.text.now _ _ c.in_ok-spec.ensures.accepted
