-- What holds of the texts of traces.
use Rattle.std.specs.Prelude.{ℕ, Bool, List}
use Rattle.switch_sim.specs.TraceTexts.{IsTrace}

-- the text begins with a trace
abbrev pub BeginsWithTrace : List ℕ → Type 0
BeginsWithTrace text = (vectors : List (List Bool)) × (place : ℕ) × IsTrace text vectors place
