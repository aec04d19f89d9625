-- One clock of a two-phase circuit, and a run of clocks.
use Rattle.std.specs.Prelude.{Bool, true, false, List, [], ◌∷◌}
use Rattle.rx_text.specs.declared.pad_name.Role.{Role}
use Rattle.rx_text.specs.declared.pad_name.Role.TheVariants.{Vdd, Gnd, Phi1, Phi2, Reset, Input, Output}
use Rattle.switch_net.specs.Circuit.{Circuit}
use Rattle.switch_net.specs.Settling.{Values, Settled}
use Rattle.switch_net.specs.declared.network.Pad.{Pad}

-- What drives the pads in one settling: the two clocks, the reset, and one bit for each input pad.
pub record Drive : Type 0 where
  pub phi1 : Bool
  pub phi2 : Bool
  pub reset : Bool
  pub lines : List Bool

-- the first bit, low where there is none
abbrev pub first_bit : List Bool → Bool
first_bit [] = false
first_bit (bit ∷ bits) = bit

-- the bits behind the first
abbrev pub later_bits : List Bool → List Bool
later_bits [] = []
later_bits (bit ∷ bits) = bits

-- how a pad of this role is driven, where the next input pad takes the first of the bits
abbrev pub pad_drive : Drive → List Bool → Role → Bool
pad_drive drive bits Vdd = true
pad_drive drive bits Gnd = false
pad_drive drive bits Phi1 = drive.phi1
pad_drive drive bits Phi2 = drive.phi2
pad_drive drive bits Reset = drive.reset
pad_drive drive bits Input = first_bit bits
pad_drive drive bits Output = false

-- the bits that are left for the pads behind one of this role
abbrev pub bits_behind : List Bool → Role → List Bool
bits_behind bits Input = later_bits bits
bits_behind bits Vdd = bits
bits_behind bits Gnd = bits
bits_behind bits Phi1 = bits
bits_behind bits Phi2 = bits
bits_behind bits Reset = bits
bits_behind bits Output = bits

abbrev pub drives_from : Drive → List Bool → List Pad → List Bool
drives_from drive bits [] = []
drives_from drive bits (pad ∷ pads) =
    pad_drive drive bits pad.name.role ∷ drives_from drive (bits_behind bits pad.name.role) pads

-- one drive for each pad: bit i drives the i-th input pad
abbrev pub drives_of : Drive → List Pad → List Bool
drives_of drive pads = drives_from drive drive.lines pads

-- the values settle from the charges in this phase of the clock
abbrev pub Phase : Circuit → Bool → List Bool → Bool → Bool → Values → Values → Type 0
Phase circuit reset lines phi1 phi2 q v =
    Settled circuit (drives_of (record { phi1 = phi1; phi2 = phi2; reset = reset; lines = lines }) circuit.pads) q v

-- One clock: the lines and the reset change while both clocks are low, then PHI1 is high and low, and PHI2 high and low.
pub record Clock (circuit : Circuit) (reset : Bool) (lines : List Bool) (q v : Values) : Type 0 where
  pub changed : Values
  pub first : Values
  pub between : Values
  pub second : Values
  pub settles : Phase circuit reset lines false false q changed
  pub phi1_high : Phase circuit reset lines true false changed first
  pub phi1_low : Phase circuit reset lines false false first between
  pub phi2_high : Phase circuit reset lines false true between second
  pub phi2_low : Phase circuit reset lines false false second v

-- One clock with the reset low for each vector of the word, each from the values that the one before left.
abbrev pub Clocks : Circuit → Values → List (List Bool) → List Values → Type 0
Clocks circuit q [] [] = Unit {0}
Clocks circuit q [] (v ∷ vs) = ⊥
Clocks circuit q (x ∷ u) [] = ⊥
Clocks circuit q (x ∷ u) (v ∷ vs) = Clock circuit false x q v × Clocks circuit v u vs

-- The values after the reset clock, which begins from the charges q with these lines, and after each further clock.
abbrev pub Run : Circuit → Values → List Bool → List (List Bool) → List Values → Type 0
Run circuit q lines u [] = ⊥
Run circuit q lines u (v ∷ vs) = Clock circuit true lines q v × Clocks circuit v u vs
