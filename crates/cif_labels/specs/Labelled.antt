-- States with labels.
use Rattle.std.specs.Prelude.{Option, Some, None}
use Rattle.geom.specs.declared.chip.Label.{Label}
use Rattle.geom.specs.CifDrawings.{CifState, labelled_state}

-- the state with a label, if there is one
abbrev pub state_with : CifState → Option Label → CifState
state_with s None = s
state_with s (Some label) = labelled_state s label
