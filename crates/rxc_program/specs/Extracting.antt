-- The command `extract`: a layout in, the text of the network that it stands for out.
use Rattle.std.specs.Prelude.{◌≡◌, ◌≤◌, ℕ, true, List}
use Rattle.rx_text.specs.declared.place.Place.{Place}
use Rattle.switch_net.specs.Circuit.{Circuit}
use Rattle.net_text.specs.NetworkText.{IsNetworkText, network_text}
use Rattle.layout_network.specs.Layouts.{IsLayout, LayoutRefusal}
use Rattle.layout_network.specs.declared.fault.LayoutCode.{LayoutCode}
use Rattle.rxc_program.specs.Behaviour.{Behaviour}
use Rattle.rxc_program.specs.LayoutCodes.{layout_code}
use Rattle.rxc_program.specs.declared.status.Code.{Code}
use Rattle.rxc_program.specs.declared.status.Status.TheVariants.{Done}

-- the text is a layout that stands for a network
abbrev pub AcceptsLayout : List ℕ → Type 0
AcceptsLayout text = (circuit : Circuit) × IsLayout text circuit

-- the text is refused as a layout
abbrev pub BreaksLayout : List ℕ → Code → Place → Type 0
BreaksLayout text code place = (named : LayoutCode) × (code ≡ layout_code named) × LayoutRefusal text named place

-- The output is the text of a network that the layout stands for: a network text, unless there are more nets than one may have.
pub record IsExtracted (text output : List ℕ) : Type 0 where
  pub circuit : Circuit
  pub layout : IsLayout text circuit
  pub text_of : output ≡ network_text circuit
  pub is_read_back : circuit.nets ≤ 16777216 → IsNetworkText output circuit

-- What `extract` does.
abbrev pub extracting : Behaviour
extracting = record {
  reads = true;
  memory_first = true;
  Accepts = AcceptsLayout;
  Breaks = BreaksLayout;
  Outputs = λ text output status. (status ≡ Done) × IsExtracted text output;
}
