-- The nets of the group are the row's.
use Rattle.std.proofs.Common.{◌==◌, ap, ◌∙◌}
use Rattle.std.specs.List.{list_any}
use Rattle.gate_matrix.specs.Rows.{MatrixRow}
use Rattle.gate_matrix.proofs.row.is_gated.Goals as goal

pub returns : goal.returns
returns c = c.has.ensures ∙ ap (λ (r : MatrixRow). list_any (λ one. one == c.args.net) r.gated) c.row.view_is
