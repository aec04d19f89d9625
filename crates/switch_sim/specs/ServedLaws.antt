-- What holds of runs that serve probes.
use Rattle.std.specs.Prelude.{◌≡◌, ℕ, Bool, false, List, Option, All}
use Rattle.switch_net.specs.Circuit.{Circuit}
use Rattle.switch_net.specs.Validity.{IsNetwork}
use Rattle.switch_sim.specs.TraceLines.{GainsLines, GainsFront}
use Rattle.switch_sim.specs.Serving.{Listener, is_served, ServesRun, GainsServed, GainsServedFront}
use Rattle.switch_sim.specs.declared.serving.Asked.{Asked}

-- A run over any vectors serves any listeners.
abbrev pub ServedRunsExist : Type 0
ServedRunsExist = (circuit : Circuit) → IsNetwork circuit → (vectors : List (List Bool)) (asked : Asked) (before : List Listener)
    → (after : List Listener) × (text : List ℕ) × ServesRun circuit vectors asked before after text

-- What it writes, and which listeners it leaves and what they have seen, is one.
abbrev pub ServedRunsAreOne : Type 0
ServedRunsAreOne = (circuit : Circuit) → IsNetwork circuit → (vectors : List (List Bool)) (asked : Asked) (before after other : List Listener) (text another : List ℕ)
    → ServesRun circuit vectors asked before after text → ServesRun circuit vectors asked before other another → (after ≡ other) × (text ≡ another)

-- none of the listeners is served
abbrev pub AreUnserved : Asked → List Listener → Type 0
AreUnserved asked listeners = All (λ one. is_served asked one.manner.kind ≡ false) listeners

-- Where none is served, a run writes the lines of its clocks alone, and the listeners are as they were.
abbrev pub UnservedRunsWriteLines : Type 0
UnservedRunsWriteLines = (circuit : Circuit) (vectors : List (List Bool)) (asked : Asked) (before after : List Listener) (old new : Option (List ℕ))
    → AreUnserved asked before → GainsServed old new circuit vectors asked before after → (after ≡ before) × GainsLines old new circuit vectors

-- And a front of them, where it fails.
abbrev pub UnservedRunsWriteFronts : Type 0
UnservedRunsWriteFronts = (circuit : Circuit) (vectors : List (List Bool)) (asked : Asked) (before after : List Listener) (old new : Option (List ℕ))
    → AreUnserved asked before → GainsServedFront old new circuit vectors asked before after → (after ≡ before) × GainsFront old new circuit vectors
