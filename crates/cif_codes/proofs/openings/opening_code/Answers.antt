-- The least code of a definition.
use Rattle.std.proofs.Common.{Option, sym, subst}
use Rattle.geom.specs.declared.cif_code.CifCode.{CifCode}
use Rattle.geom.specs.CifCommands.{Opens}
use Rattle.cif_codes.specs.Least.{IsLeastCode}
use Rattle.cif_codes.proofs.OpeningCodes.{opening_least}
use Rattle.cif_codes.proofs.openings.opening_code.Goals as goal

pub returns : goal.returns
returns c = λ s m n scale o a d.
    let Q : Option CifCode → Type 0 = λ v. IsLeastCode s (Opens n scale) v in
    subst Q (sym c.opening_verdict_code.ensures)
    (opening_least s n scale c.args.again c.args.nested c.has_great.result a d (c.has_great.ensures m n scale o))
