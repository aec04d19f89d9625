-- Worked examples of texts, and what ends a `Toggles`.
use Rattle.std.specs.Prelude.{◌≡◌, ◌↔◌, ℕ, List, [], ◌∷◌, ◌++◌, Option, Some, IsTrue, codes}
use Rattle.switch_net.specs.declared.network.Level.{Level}
use Rattle.switch_net.specs.declared.network.Level.TheVariants.{Low, High, Unknown}
use Rattle.sim_probe.specs.declared.sample.Sample.{Sample}
use Rattle.sim_probe.specs.TogglesText.{toggles_text, toggles_manner}
use Rattle.sim_probe.specs.WavesText.{waves_text}

abbrev pub sample : ℕ → ℕ → Level → Sample
sample clock pad level = record { at = clock; pad = pad; value = level }

-- an input 5 and an output 6 that follows it but for the last clock
abbrev pub followed : List Sample
followed =
    sample 0 5 Low ∷ sample 0 6 Low ∷ sample 1 5 High ∷ sample 1 6 High ∷ sample 2 5 Low ∷ sample 2 6 Low ∷ sample 3 5 High ∷ sample 3 6 Low ∷ []

abbrev pub FollowedWaves : Type 0
FollowedWaves =
    waves_text followed
    ≡ codes "$var wire 1 p5 p5 $end\n$var wire 1 p6 p6 $end\n$enddefinitions $end\n#0\n0p5\n0p6\n#1\n1p5\n1p6\n#2\n0p5\n0p6\n#3\n1p5\n#4\n"

-- nothing is seen
abbrev pub NoWaves : Type 0
NoWaves = waves_text [] ≡ codes "$enddefinitions $end\n"

-- no time is written of a clock without a change
abbrev pub QuietWaves : Type 0
QuietWaves =
    waves_text (sample 0 14 Unknown ∷ sample 1 14 Unknown ∷ sample 2 14 High ∷ sample 3 14 High ∷ [])
    ≡ codes "$var wire 1 p14 p14 $end\n$enddefinitions $end\n#0\nxp14\n#2\n1p14\n#4\n"

-- the time is written once for all changes at a clock
abbrev pub LateWaves : Type 0
LateWaves =
    waves_text (sample 0 2 Low ∷ sample 0 3 High ∷ sample 1 2 Low ∷ sample 1 3 Low ∷ [])
    ≡ codes "$var wire 1 p2 p2 $end\n$var wire 1 p3 p3 $end\n$enddefinitions $end\n#0\n0p2\n1p3\n#1\n0p3\n#2\n"

abbrev pub FollowedToggles : Type 0
FollowedToggles = toggles_text followed ≡ codes "toggles 5 3\ntoggles 6 2\n"

-- pads are written in ascending order, those without a change too
abbrev pub MixedToggles : Type 0
MixedToggles =
    toggles_text (sample 0 7 Unknown ∷ sample 0 3 High ∷ sample 1 7 Low ∷ sample 1 3 High ∷ []) ≡ codes "toggles 3 0\ntoggles 7 1\n"

abbrev pub NoToggles : Type 0
NoToggles = toggles_text [] ≡ []

-- A `Toggles` ends exactly at a sample whose clock is `stop`.
abbrev pub TogglesEndAtStops : Type 0
TogglesEndAtStops = (stop : Option ℕ) (samples : List Sample) (last : Sample)
    → IsTrue ((toggles_manner stop).ends (samples ++ last ∷ [])) ↔ (stop ≡ Some last.at)
