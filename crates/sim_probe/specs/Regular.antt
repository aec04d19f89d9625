-- Regular lists of samples.
use Rattle.std.specs.Prelude.{◌≡◌, ℕ, suc, ◌^◌, ◌<◌, ◌≤◌, Bool, List, [], ◌∷◌, ◌++◌, map, length, All, AllPairs}
use Rattle.rx_text.specs.declared.pad_name.Role.{Role}
use Rattle.switch_net.specs.Ternary.{Levels}
use Rattle.switch_net.specs.declared.network.Level.{Level}
use Rattle.switch_net.specs.declared.network.Pad.{Pad}
use Rattle.sim_probe.specs.Due.{due_from}
use Rattle.sim_probe.specs.declared.sample.Sample.{Sample}

-- the samples of these pads from a clock on, with the levels after each
abbrev pub samples_from : List ℕ → ℕ → List (ℕ → Level) → List Sample
samples_from pads clock [] = []
samples_from pads clock (v ∷ vs) = map (λ pad. record { at = clock; pad = pad; value = v pad }) pads ++ samples_from pads (suc clock) vs

-- The samples are those of the clocks from 0 on, at most 10,001 of them, each with the same pads in ascending order, or none.
pub record IsRegular (samples : List Sample) : Type 0 where
  pub pads : List ℕ
  pub levels : List (ℕ → Level)
  pub ascending : AllPairs (λ one other. one < other) pads
  pub fits : All (λ pad. pad < 2 ^ 32) pads
  pub few : length levels ≤ 10001
  pub whole : samples ≡ samples_from pads 0 levels

-- The samples that are due after the clocks of a run of at most 10,000 vectors are regular, whichever pads are wanted.
abbrev pub DueSamplesAreRegular : Type 0
DueSamplesAreRegular = (wants : ℕ → Role → Bool) (pads : List Pad) (levels : List Levels)
    → length pads < 2 ^ 32 → length levels ≤ 10001 → IsRegular (due_from wants pads 0 levels)
