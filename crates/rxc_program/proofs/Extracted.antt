-- Layouts as inputs, and the text of their networks as output.
use Rattle.std.proofs.Common.{◌≡◌, ℕ, List, All, refl, sym, ◌∙◌, ap}
use Rattle.rx_text.specs.declared.place.Place.{Place}
use Rattle.geom.specs.CifLabels.{IsPadName}
use Rattle.switch_net.specs.Circuit.{Circuit}
use Rattle.switch_net.specs.Validity.{IsNetwork}
use Rattle.net_text.specs.NetworkText.{network_text}
use Rattle.layout_network.specs.Layouts.{IsLayout}
use Rattle.layout_network.specs.OneReading.{LayoutsHaveOneReading}
use Rattle.rxc_program.specs.Endings.{Change}
use Rattle.rxc_program.specs.Extracting.{AcceptsLayout, BreaksLayout, IsExtracted, extracting}
use Rattle.rxc_program.specs.LayoutCodes.{layout_code}
use Rattle.rxc_program.specs.Serving.{AnswersText, TakesPiece}
use Rattle.rxc_program.specs.declared.status.Code.{Code}
use Rattle.rxc_program.specs.declared.status.Status.{Status}
use Rattle.rxc_program.specs.declared.status.Status.TheVariants.{Done, Refused, Usage, ReadFault, WriteFault, NoMemory}

module _ (layouts : LayoutsHaveOneReading) (text : List ℕ) where
  -- no text is a layout and refused as one
  pub layouts_apart : (code : Code) (place : Place) → AcceptsLayout text → BreaksLayout text code place → ⊥
  layouts_apart code place accepted broken = layouts.never_both text accepted.0 broken.0 place accepted.1 broken.2

  -- it is refused for one reason
  pub one_layout_break : (one other : Code) (here there : Place) → BreaksLayout text one here → BreaksLayout text other there
      → (one ≡ other) × (here ≡ there)
  one_layout_break one other here there first second =
      let same = layouts.one_refusal text first.0 second.0 here there first.2 second.2 in
      (first.1 ∙ ap layout_code same.0 ∙ sym second.1, same.1)

module _ {Sink : Type 0} (sink : Change Sink) (text : List ℕ) (circuit : Circuit) (layout : IsLayout text circuit) (network : IsNetwork circuit)
    (named : All (λ pad. IsPadName pad.name) circuit.pads) where
  extracted : IsExtracted text (network_text circuit)
  extracted = record {
    circuit = circuit;
    layout = layout;
    text_of = refl;
    is_read_back = λ few. record { text_of = record { text = refl; named = named; few_nets = few }; network = network };
  }

  -- the text of its network is written
  pub extract_answers : (status : Status) → TakesPiece sink (network_text circuit) status → AnswersText extracting sink text status
  extract_answers Done took = (network_text circuit, (refl, extracted), took)
  extract_answers (Refused code place) took = absurd took
  extract_answers (Usage word) took = took
  extract_answers ReadFault took = took
  extract_answers WriteFault took =
      (took.0, record { output = network_text circuit; status = Done; outputs = (refl, extracted); gained = took.1 })
  extract_answers NoMemory took = absurd took
