-- Which pads bear a name of their own, and the name of a pad as contracts see it.
use Rattle.std.specs.Prelude.{ℕ, Bool, true, false, List, Option}
use Rattle.rx_text.specs.declared.pad_name.Role.{Role}
use Rattle.rx_text.specs.declared.pad_name.Role.TheVariants.{Vdd, Gnd, Phi1, Phi2, Reset, Input, Output}

-- input lines and outputs bear a name of their own
abbrev pub bears_name : Role → Bool
bears_name Input = true
bears_name Output = true
bears_name Vdd = false
bears_name Gnd = false
bears_name Phi1 = false
bears_name Phi2 = false
bears_name Reset = false

-- a role, and the name of the line or output
pub record NamedRole : Type 0 where
  pub role : Role
  pub name : Option (List ℕ)
