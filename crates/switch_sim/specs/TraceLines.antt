-- The lines that a trace gives: for each clock its number and the levels of the outputs.
use Rattle.std.specs.Prelude.{◌≡◌, ℕ, suc, ◌==◌, not, Bool, true, false, List, [], ◌∷◌, ◌++◌, length, count_by, position, Option, Some, None, Result, Ok, Err}
use Rattle.std.specs.Fmt.{decimal}
use Rattle.std.specs.List.{flat_map}
use Rattle.std.specs.Io.KnownBytes.{Appends}
use Rattle.rx_io.specs.Streams.{AppendsFront}
use Rattle.rx_text.specs.declared.pad_name.Role.{Role}
use Rattle.rx_text.specs.declared.pad_name.Role.TheVariants.{Vdd, Gnd, Phi1, Phi2, Reset, Input, Output}
use Rattle.switch_net.specs.Circuit.{Circuit}
use Rattle.switch_net.specs.Ternary.{Levels, nothing_known, RunLevels}
use Rattle.switch_net.specs.declared.network.Pad.{Pad}
use Rattle.switch_net.specs.declared.network.Level.{Level}
use Rattle.switch_net.specs.declared.network.Level.TheVariants.{Low, High, Unknown}
use Rattle.switch_sim.specs.declared.run.RunFault.{RunFault}
use Rattle.switch_sim.specs.declared.run.RunFault.TheVariants.{WrongWidth, WriteFault, NoMemory}

-- `0`, `1` or `x`
abbrev pub level_byte : Level → ℕ
level_byte Low = 48
level_byte High = 49
level_byte Unknown = 120

-- the byte of an output, nothing for other pads
abbrev pub pad_byte : Role → Level → List ℕ
pad_byte Output level = level_byte level ∷ []
pad_byte Vdd level = []
pad_byte Gnd level = []
pad_byte Phi1 level = []
pad_byte Phi2 level = []
pad_byte Reset level = []
pad_byte Input level = []

-- the levels of the outputs in the order of the pads
abbrev pub output_bytes : List Pad → Levels → List ℕ
output_bytes pads v = flat_map (λ pad. pad_byte pad.name.role (v pad.net.0)) pads

-- the line after this clock
abbrev pub clock_line : Circuit → ℕ → Levels → List ℕ
clock_line circuit clock v = decimal clock ++ (32 ∷ (output_bytes circuit.pads v ++ 10 ∷ []))

-- the lines from this clock on
abbrev pub lines_from : Circuit → ℕ → List Levels → List ℕ
lines_from circuit clock [] = []
lines_from circuit clock (v ∷ vs) = clock_line circuit clock v ++ lines_from circuit (suc clock) vs

-- The text is the lines of a run: clock 0 has the reset high and all lines low, each further clock takes the next vector.
-- At the start nothing is known of any net.
pub record TraceLines (circuit : Circuit) (vectors : List (List Bool)) (text : List ℕ) : Type 0 where
  pub levels : List Levels
  pub run : RunLevels circuit nothing_known [] vectors levels
  pub lines : text ≡ lines_from circuit 0 levels

-- a sink gained the lines
pub record GainsLines (old new : Option (List ℕ)) (circuit : Circuit) (vectors : List (List Bool)) : Type 0 where
  pub text : List ℕ
  pub lines : TraceLines circuit vectors text
  pub gained : Appends old new text

-- a sink gained a front of the lines
pub record GainsFront (old new : Option (List ℕ)) (circuit : Circuit) (vectors : List (List Bool)) : Type 0 where
  pub text : List ℕ
  pub lines : TraceLines circuit vectors text
  pub gained : AppendsFront old new text

-- an input pad
abbrev pub is_input : Role → Bool
is_input Input = true
is_input Vdd = false
is_input Gnd = false
is_input Phi1 = false
is_input Phi2 = false
is_input Reset = false
is_input Output = false

abbrev pub input_count : List Pad → ℕ
input_count pads = count_by (λ pad. is_input pad.name.role) pads

-- the number of the first vector that has not a bit for each input pad
abbrev pub first_wrong : Circuit → List (List Bool) → Option ℕ
first_wrong circuit vectors = position (λ vector. not (length vector == input_count circuit.pads)) vectors

-- the vector that is named as too wide or too narrow
abbrev pub named_wrong : {A : Type 0} → Result A RunFault → Option ℕ
named_wrong (Ok x) = None
named_wrong (Err (WrongWidth vector)) = Some vector
named_wrong (Err WriteFault) = None
named_wrong (Err NoMemory) = None
