-- How the commands answer a text that was read.
use Rattle.std.proofs.Common.{◌≡◌, inl, inr, ℕ, ◌≤◌, true, Bool, List, None, All, refl}
use Rattle.rx_lang.specs.Specification.{Specification}
use Rattle.rx_syntax.specs.Accepted.{Accepted}
use Rattle.rx_text.specs.Name.{is_name}
use Rattle.rx_text.specs.declared.place.Place.{Place}
use Rattle.switch_net.specs.Circuit.{Circuit}
use Rattle.switch_net.specs.Validity.{IsNetwork}
use Rattle.net_text.specs.NetworkText.{network_text}
use Rattle.switch_sim.specs.TraceLines.{GainsFront, TraceLines, first_wrong}
use Rattle.rxc_program.proofs.Names.{pads_named}
use Rattle.rxc_program.specs.Behaviour.{Behaviour}
use Rattle.rxc_program.specs.Compiling.{IsCompiled, compiling}
use Rattle.rxc_program.specs.Endings.{Change, Untouched}
use Rattle.rxc_program.specs.Files.{FileKind, IsNetworkOf, most_leaves, network_file}
use Rattle.rxc_program.specs.Serving.{AnswersText, StopsBy, TakesLines, TakesPiece, TookFront}
use Rattle.rxc_program.specs.Simulating.{IsDrivenBy, IsSimulated, simulating}
use Rattle.rxc_program.specs.declared.status.Code.{Code}
use Rattle.rxc_program.specs.declared.status.Status.{Status}
use Rattle.rxc_program.specs.declared.status.Status.TheVariants.{Done, Refused, Usage, ReadFault, WriteFault, NoMemory}

-- a reason is one of others
pub stops_by : (Why Other : Code → Place → Type 0) → ((code : Code) (place : Place) → Why code place → Other code place) → (status : Status)
    → StopsBy Why status → StopsBy Other status
stops_by Why Other within Done stops = stops
stops_by Why Other within (Refused code place) stops = within code place stops
stops_by Why Other within (Usage word) stops = stops
stops_by Why Other within ReadFault stops = stops
stops_by Why Other within WriteFault stops = stops
stops_by Why Other within NoMemory stops = stops

module _ {Sink : Type 0} (sink : Change Sink) (text : List ℕ) where
  -- the reader gave nothing
  pub stopped : (does : Behaviour) (status : Status) → Untouched sink → StopsBy (does.Breaks text) status → AnswersText does sink text status
  stopped does Done untouched stops = absurd stops
  stopped does (Refused code place) untouched stops = (untouched, stops)
  stopped does (Usage word) untouched stops = stops
  stopped does ReadFault untouched stops = stops
  stopped does WriteFault untouched stops = absurd stops
  stopped does NoMemory untouched stops = inl untouched

  -- an output is written as one piece
  module _ (does : Behaviour) (output : List ℕ) (outputs : does.Outputs text output Done) where
    pub piece_answers : (status : Status) → TakesPiece sink output status → AnswersText does sink text status
    piece_answers Done took = (output, outputs, took)
    piece_answers (Refused code place) took = absurd took
    piece_answers (Usage word) took = took
    piece_answers ReadFault took = took
    piece_answers WriteFault took = (took.0, record { output = output; status = Done; outputs = outputs; gained = took.1 })
    piece_answers NoMemory took = absurd took

  -- a compiler writes the file
  pub file_answers : (kind : FileKind) (file : List ℕ) → IsCompiled kind text file → (status : Status) → TakesPiece sink file status
      → AnswersText (compiling kind) sink text status
  file_answers kind file is = piece_answers (compiling kind) file (refl, is)

  module _ (spec : Specification) (circuit : Circuit) (accepted : Accepted text (most_leaves network_file) spec) (of : IsNetworkOf spec circuit)
      (network : IsNetwork circuit) (few : circuit.nets ≤ 16777216)
      (lines : All (λ name. is_name name ≡ true) spec.lines) (outputs : All (λ name. is_name name ≡ true) spec.outputs) where
    -- the text of a network of the specification is a file of it
    pub compiled : IsCompiled network_file text (network_text circuit)
    compiled = record {
      spec = spec;
      accepted = accepted;
      file_of = record {
        circuit = circuit;
        stands = record {
          text_of = record { text = refl; named = pads_named spec.lines spec.outputs lines outputs circuit of.pads; few_nets = few };
          network = network;
        };
        compiled = of;
        sides = tt;
        rules = tt;
      };
    }

  module _ (vectors : List (List Bool)) (circuit : Circuit) (driven : IsDrivenBy text vectors circuit) where
    simulated : (lines : List ℕ) → first_wrong circuit vectors ≡ None → TraceLines circuit vectors lines → IsSimulated text lines
    simulated lines widths shown = record {
      vectors = vectors;
      circuit = circuit;
      drives = record { parts = driven; widths = widths };
      shown = shown;
    }

    front : first_wrong circuit vectors ≡ None → GainsFront (sink.bytes sink.before) (sink.bytes sink.after) circuit vectors → TookFront simulating sink text
    front widths gains = record {
      output = gains.text;
      status = Done;
      outputs = (refl, simulated gains.text widths gains.lines);
      gained = gains.gained;
    }

    -- `sim` writes the lines of the run
    pub sim_answers : (status : Status) → TakesLines sink circuit vectors status → AnswersText simulating sink text status
    sim_answers Done took = (took.1.text, (refl, simulated took.1.text took.0 took.1.lines), took.1.gained)
    sim_answers (Refused code place) took = (took.0, inr (inr (vectors, circuit, driven, took.1)))
    sim_answers (Usage word) took = took
    sim_answers ReadFault took = took
    sim_answers WriteFault took = (took.0, front took.1 took.2)
    sim_answers NoMemory took = inr (refl, front took.0 took.1)
