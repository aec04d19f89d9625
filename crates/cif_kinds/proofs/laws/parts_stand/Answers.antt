use Rattle.cif_kinds.proofs.Standing.{parts_at}
use Rattle.cif_kinds.proofs.laws.parts_stand.Goals as goal

pub returns : goal.returns
returns c = λ text from first end h m. parts_at text from first end h m
