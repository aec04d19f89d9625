use Rattle.std.proofs.Common.{◌∙◌, ap, Some}
use Rattle.nor_net.proofs.Steps.{line_first}
use Rattle.nor_net.proofs.evaluation.Drive.level.Goals as goal

pub returns-in-Input : goal.returns-in-Input
returns-in-Input c =
    rw (c.in-Input.is, ← c.self.view_is)
    (ap Some (c.line_bit.ensures ∙ line_first c.self.inside.vector c.args.line (c.requires c.in-Input.is)))
