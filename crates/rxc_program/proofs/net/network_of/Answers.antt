use Rattle.rx_lang.specs.Tables.{specification}
use Rattle.rxc_program.proofs.net.network_of.Goals as goal

-- src/net.rt
pub returns-in-Ok-to_switch-clause-network : goal.returns-in-Ok-to_switch-clause-network
returns-in-Ok-to_switch-clause-network c = record {
  pads = rw (c.in-Ok-to_switch.ensures.form) c.in-Ok-cells.ensures.pads;
  recognises = c.in-Ok-to_switch.ensures.recognises (specification c.args.spec.now) (c.in-Ok-cells.ensures.shows c.in-Ok.ensures.languages.marks);
  sure = c.in-Ok-to_switch.ensures.sure (specification c.args.spec.now) (c.in-Ok-cells.ensures.shows c.in-Ok.ensures.languages.marks) c.in-Ok-cells.ensures.clears;
}
