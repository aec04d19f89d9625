-- What the log takes.
use Rattle.std.specs.Prelude.{◌⊎◌, ℕ, List}
use Rattle.rxc_program.specs.Endings.{Change, Gained, GainedFront, HasFailed, Untouched}
use Rattle.rxc_program.specs.StatusText.{status_line}
use Rattle.rxc_program.specs.declared.status.Status.{Status}
use Rattle.rxc_program.specs.declared.status.Status.TheVariants.{Done, Refused, Usage, ReadFault, WriteFault, NoMemory}

-- The log gained the text, or failed and gained a front of it.
abbrev pub GainsOrFails : {X : Type 0} → Change X → List ℕ → Type 0
GainsOrFails log text = Gained log text ⊎ (HasFailed log × GainedFront log text)

-- What the log takes: it is left alone where the run is done, and else told the line of the status.
abbrev pub IsLogged : {X : Type 0} → Change X → Status → Type 0
IsLogged log Done = Untouched log
IsLogged log (Refused code place) = GainsOrFails log (status_line (Refused code place))
IsLogged log (Usage word) = GainsOrFails log (status_line (Usage word))
IsLogged log ReadFault = GainsOrFails log (status_line ReadFault)
IsLogged log WriteFault = GainsOrFails log (status_line WriteFault)
IsLogged log NoMemory = GainsOrFails log (status_line NoMemory)
