-- Few bytes, and all such.
use Rattle.std.proofs.Common.{sym, ◌∙◌, arith}
use Rattle.cif_labels.proofs.Spotting.{short_name, no_short_empty}
use Rattle.cif_labels.proofs.spots.is_short_name.Goals as goal

pub returns : goal.returns
returns c = short_name c.args.word.now c.has_name_bytes.result (sym c.is_empty.ensures ∙ c.if-is_empty.false) (omega arith) c.has_name_bytes.ensures
