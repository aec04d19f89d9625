-- The samples that are due to a probe.
use Rattle.std.specs.Prelude.{ℕ, suc, Bool, if◌then◌else◌, List, [], ◌∷◌, ◌++◌}
use Rattle.rx_text.specs.declared.pad_name.Role.{Role}
use Rattle.switch_net.specs.Ternary.{Levels}
use Rattle.switch_net.specs.declared.network.Pad.{Pad}
use Rattle.sim_probe.specs.declared.sample.Sample.{Sample}

-- after a clock with these levels: one for each of the pads that is wanted, in order, where the first has this number
abbrev pub due_at : (ℕ → Role → Bool) → ℕ → Levels → ℕ → List Pad → List Sample
due_at wants clock v number [] = []
due_at wants clock v number (pad ∷ pads) =
    if wants number pad.name.role then record { at = clock; pad = number; value = v pad.net.0 } ∷ due_at wants clock v (suc number) pads
    else due_at wants clock v (suc number) pads

-- after each clock from this one on
abbrev pub due_from : (ℕ → Role → Bool) → List Pad → ℕ → List Levels → List Sample
due_from wants pads clock [] = []
due_from wants pads clock (v ∷ vs) = due_at wants clock v 0 pads ++ due_from wants pads (suc clock) vs
