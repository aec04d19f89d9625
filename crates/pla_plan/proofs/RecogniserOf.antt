-- The switch network of a netlist whose clocks show the languages is one of the specification.
use Rattle.std.proofs.Common.{◌≡◌, map, length, subst}
use Rattle.rx_lang.specs.Specification.{Specification, Language}
use Rattle.switch_net.specs.Circuit.{Circuit}
use Rattle.switch_net.specs.Recognition.{pad_names, Recognises, ShowsSurely}
use Rattle.switch_net.specs.declared.network.Pad.{Pad}
use Rattle.nor_net.specs.Netlist.{Netlist}
use Rattle.nor_net.specs.SwitchForm.{switch_form}
use Rattle.pla_plan.specs.ArrayNetworks.{IsRecogniser}

pub recogniser_of : (spec : Specification) (net given : Netlist) (network : Circuit) → network ≡ switch_form net → net ≡ given
    → map (λ (pad : Pad). pad.name) net.pads ≡ pad_names spec.lines spec.outputs
    → Recognises network (length spec.lines) (Language spec) → ShowsSurely network (length spec.lines) (Language spec) → IsRecogniser spec (switch_form given)
recogniser_of spec net given network form same pads recognises sure =
    subst (λ (n : Netlist). IsRecogniser spec (switch_form n)) same (record {
      pads = pads;
      recognises = subst (λ (k : Circuit). Recognises k (length spec.lines) (Language spec)) form recognises;
      sure = subst (λ (k : Circuit). ShowsSurely k (length spec.lines) (Language spec)) form sure;
    })
