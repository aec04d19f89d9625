-- What never changes of a probe.
use Rattle.std.specs.Prelude.{ℕ, Bool, if◌then◌else◌, List}
use Rattle.rx_text.specs.declared.pad_name.Role.{Role}
use Rattle.sim_probe.specs.declared.sample.Sample.{Sample}
use Rattle.sim_probe.specs.declared.sample.Verdict.{Verdict}
use Rattle.sim_probe.specs.declared.sample.Verdict.TheVariants.{More, Enough}

pub record Manner : Type 0 where
  -- what `kind` answers
  pub kind : ℕ
  -- what `wants` answers for the number and the role of a pad
  pub wants : ℕ → Role → Bool
  -- the bytes that the probe writes for a list of samples
  pub said : List Sample → List ℕ
  -- whether a list of samples that is not empty ends the probe
  pub ends : List Sample → Bool

-- the answer to the last of these samples
abbrev pub verdict : Manner → List Sample → Verdict
verdict manner seen = if manner.ends seen then Enough else More
