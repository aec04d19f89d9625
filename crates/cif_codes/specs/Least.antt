-- The least code that a command meets.
use Rattle.std.specs.Prelude.{◌<◌, Option, Some, None}
use Rattle.geom.specs.declared.cif_code.CifCode.{CifCode}
use Rattle.geom.specs.CifCommands.{CifCommand}
use Rattle.geom.specs.CifDrawings.{CifState}
use Rattle.geom.specs.CifCodes.{MeetsCode, code_number}

-- The command meets the code in this state, and no lower one; or it meets none.
abbrev pub IsLeastCode : CifState → CifCommand → Option CifCode → Type 0
IsLeastCode s c None = (code : CifCode) → MeetsCode code s c → ⊥
IsLeastCode s c (Some code) = MeetsCode code s c × ((lower : CifCode) → code_number lower < code_number code → MeetsCode lower s c → ⊥)
