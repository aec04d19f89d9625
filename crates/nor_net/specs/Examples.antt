-- A small netlist: a register that stores the NOR of its line and the reset, and shows it at an output.
use Rattle.std.specs.Prelude.{◌≡◌, ℕ, Bool, false, not, ◌||◌, List, [], ◌∷◌, replicate}
use Rattle.rx_text.specs.declared.pad_name.Role.TheVariants.{Vdd, Gnd, Phi1, Phi2, Reset, Input, Output}
use Rattle.switch_net.specs.Recognition.{plain_pad, named_pad}
use Rattle.switch_net.specs.declared.network.Pad.{Pad}
use Rattle.nor_net.specs.Netlist.{Netlist}
use Rattle.nor_net.specs.Evaluation.{value_at, clocked}
use Rattle.nor_net.specs.SwitchForm.{at}

-- the pads stand on the nets 0 to 5, and the output on 10
abbrev pub register_pads : List Pad
register_pads =
    record { name = plain_pad Vdd; net = at 0 }
    ∷ record { name = plain_pad Gnd; net = at 1 }
    ∷ record { name = plain_pad Phi1; net = at 2 }
    ∷ record { name = plain_pad Phi2; net = at 3 }
    ∷ record { name = plain_pad Reset; net = at 4 }
    ∷ record { name = named_pad Input (120 ∷ []); net = at 5 }
    ∷ record { name = named_pad Output (122 ∷ []); net = at 10 }
    ∷ []

-- the nets in order
abbrev pub eleven : List ℕ
eleven = 0 ∷ 1 ∷ 2 ∷ 3 ∷ 4 ∷ 5 ∷ 6 ∷ 7 ∷ 8 ∷ 9 ∷ 10 ∷ []

-- The NOR of line and reset at 6 goes through PHI1 to 7, and is inverted to 8, which goes through PHI2 to 9, and is
-- inverted to the output.
abbrev pub register : Netlist
register = record {
  nets = 11;
  gates = record { out = 6; inputs = 5 ∷ 4 ∷ [] } ∷ record { out = 8; inputs = 7 ∷ [] } ∷ record { out = 10; inputs = 9 ∷ [] } ∷ [];
  transfers = record { clock = Phi1; from = 6; to = 7 } ∷ record { clock = Phi2; from = 8; to = 9 } ∷ [];
  pads = register_pads;
  order1 = eleven;
  order2 = eleven;
}

-- After a clock from low nets the output is high where neither the line nor the reset was.
abbrev pub RegisterShows : Type 0
RegisterShows = (reset line : Bool) → value_at (clocked register reset (line ∷ []) (replicate 11 false)) 10 ≡ not (line || reset)
