-- What `Toggles` writes, and when it has enough.
use Rattle.std.specs.Prelude.{ℕ, ◌+◌, Bool, true, false, if◌then◌else◌, List, [], ◌∷◌, ◌++◌, Option, codes}
use Rattle.std.specs.Fmt.{decimal}
use Rattle.std.specs.List.{flat_map}
use Rattle.rx_text.specs.declared.pad_name.Role.{Role}
use Rattle.rx_text.specs.declared.pad_name.Role.TheVariants.{Vdd, Gnd, Phi1, Phi2, Reset, Input, Output}
use Rattle.switch_net.specs.declared.network.Level.{Level}
use Rattle.sim_probe.specs.declared.sample.Sample.{Sample}
use Rattle.sim_probe.specs.Levels.{levels_of, pads_of, last_clock, is_same_clock, is_same_level}
use Rattle.sim_probe.specs.Manner.{Manner}

-- in how many places of a list the next level is another one
abbrev pub changes : List Level → ℕ
changes [] = 0
changes (level ∷ []) = 0
changes (level ∷ next ∷ more) = (if is_same_level level next then 0 else 1) + changes (next ∷ more)

-- `toggles PAD COUNT`
abbrev pub toggles_line : ℕ → ℕ → List ℕ
toggles_line pad count = codes "toggles " ++ decimal pad ++ codes " " ++ decimal count ++ codes "\n"

-- for each pad in the samples, in ascending order, how often its level changed
abbrev pub toggles_text : List Sample → List ℕ
toggles_text samples = flat_map (λ pad. toggles_line pad (changes (levels_of pad samples))) (pads_of samples)

abbrev pub is_output : Role → Bool
is_output Output = true
is_output Vdd = false
is_output Gnd = false
is_output Phi1 = false
is_output Phi2 = false
is_output Reset = false
is_output Input = false

-- The manner of `Toggles` that ends at the first sample of the clock `stop`, or never.
abbrev pub toggles_manner : Option ℕ → Manner
toggles_manner stop = record {
  kind = 1;
  wants = λ pad role. is_output role;
  said = toggles_text;
  ends = λ samples. is_same_clock stop (last_clock samples);
}

-- What is seen of a `Toggles`.
pub record Counting : Type 0 where
  pub stop : Option ℕ
  pub seen : List Sample
