use Rattle.net_text.specs.Reading.{first_lines, later_lines}
use Rattle.net_text.proofs.Steps.{Reads-found}
use Rattle.net_text.proofs.reading.first_word.Goals as goal

pub returns-then-pads_may_follow-clause-reads : goal.returns-then-pads_may_follow-clause-reads
returns-then-pads_may_follow-clause-reads c = Reads-found first_lines c.args.text.now c.args.at c.line_kind.result c.requires c.line_kind.ensures

pub returns-else-pads_may_follow-clause-reads : goal.returns-else-pads_may_follow-clause-reads
returns-else-pads_may_follow-clause-reads c =
    Reads-found later_lines c.args.text.now c.args.at c.line_kind-else-pads_may_follow.result c.requires c.line_kind-else-pads_may_follow.ensures
