-- The least code of a close.
use Rattle.std.proofs.Common.{Option, sym, subst}
use Rattle.geom.specs.declared.cif_code.CifCode.{CifCode}
use Rattle.geom.specs.CifCommands.{Closes}
use Rattle.cif_codes.specs.Least.{IsLeastCode}
use Rattle.cif_codes.proofs.LayerCodes.{closing_least}
use Rattle.cif_codes.proofs.layers.closing_code.Goals as goal

pub returns : goal.returns
returns c = λ s o.
    let Q : Option CifCode → Type 0 = λ v. IsLeastCode s Closes v in
    subst Q (sym c.closing_verdict_code.ensures) (closing_least s c.args.is_open o)
