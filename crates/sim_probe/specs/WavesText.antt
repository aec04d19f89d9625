-- What `Waves` writes: a value change dump (IEEE Std 1364, "Value change dump files") in one profile.
use Rattle.std.specs.Prelude.{ℕ, ◌+◌, ◌&&◌, Bool, true, false, if◌then◌else◌, List, [], ◌∷◌, ◌++◌, Option, Some, None, codes}
use Rattle.std.specs.Fmt.{decimal}
use Rattle.std.specs.List.{flat_map}
use Rattle.rx_text.specs.declared.pad_name.Role.{Role}
use Rattle.rx_text.specs.declared.pad_name.Role.TheVariants.{Vdd, Gnd, Phi1, Phi2, Reset, Input, Output}
use Rattle.switch_net.specs.declared.network.Level.{Level}
use Rattle.switch_net.specs.declared.network.Level.TheVariants.{Low, High, Unknown}
use Rattle.sim_probe.specs.declared.sample.Sample.{Sample}
use Rattle.sim_probe.specs.Levels.{levels_of, pads_of, last_of, last_clock, is_same_clock, is_change}
use Rattle.sim_probe.specs.Manner.{Manner}

-- `$var wire 1 pK pK $end`
abbrev pub pad_line : ℕ → List ℕ
pad_line pad = codes "$var wire 1 p" ++ decimal pad ++ codes " p" ++ decimal pad ++ codes " $end\n"

-- `#T`
abbrev pub time_line : ℕ → List ℕ
time_line clock = codes "#" ++ decimal clock ++ codes "\n"

-- `0`, `1` or `x`
abbrev pub level_text : Level → List ℕ
level_text Low = codes "0"
level_text High = codes "1"
level_text Unknown = codes "x"

-- the level and `pK`
abbrev pub change_line : Sample → List ℕ
change_line sample = level_text sample.value ++ codes "p" ++ decimal sample.pad ++ codes "\n"

-- The lines of the samples behind others. A sample has a line where its pad has no sample before, or the last one has another
-- level. Its time stands before it where no line has been written since the clock last changed; `timed` says whether one has.
abbrev pub change_lines : List Sample → Bool → List Sample → List ℕ
change_lines before timed [] = []
change_lines before timed (sample ∷ more) =
    if is_change (last_of (levels_of sample.pad before)) sample.value
    then (if timed && is_same_clock (last_clock before) (Some sample.at) then [] else time_line sample.at) ++ change_line sample
    ++ change_lines (before ++ sample ∷ []) true more
    else change_lines (before ++ sample ∷ []) (timed && is_same_clock (last_clock before) (Some sample.at)) more

-- the time behind the last clock
abbrev pub end_line : Option ℕ → List ℕ
end_line None = []
end_line (Some clock) = time_line (clock + 1)

-- a line for each pad in the samples, in ascending order; the end of these; the lines of the samples; and the last time
abbrev pub waves_text : List Sample → List ℕ
waves_text samples =
    flat_map pad_line (pads_of samples) ++ codes "$enddefinitions $end\n" ++ change_lines [] false samples ++ end_line (last_clock samples)

abbrev pub is_line_or_output : Role → Bool
is_line_or_output Input = true
is_line_or_output Output = true
is_line_or_output Vdd = false
is_line_or_output Gnd = false
is_line_or_output Phi1 = false
is_line_or_output Phi2 = false
is_line_or_output Reset = false

-- The manner of `Waves`, which never has enough.
abbrev pub waves_manner : Manner
waves_manner = record {
  kind = 2;
  wants = λ pad role. is_line_or_output role;
  said = waves_text;
  ends = λ samples. false;
}
