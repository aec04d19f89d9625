-- A file of a specification, behind a trace, is simulated to the bits of the languages.
use Rattle.std.proofs.Common.{◌≡◌, ℕ, ◌==◌, not, Bool, List, [], ◌∷◌, None, drop, length, refl, sym, subst, arith, eq-eqb}
use Rattle.std.proofs.lemmas.Bool.{le-ltb}
use Rattle.std.proofs.lemmas.List.Elements.{recursion_from_All}
use Rattle.std.specs.List.{AllByRecursion, position, prefix_len}
use Rattle.rx_lang.specs.Specification.{Specification}
use Rattle.switch_net.specs.Circuit.{Circuit}
use Rattle.switch_sim.specs.TraceLines.{input_count}
use Rattle.switch_net.specs.SameRuns.{SameRunAlike}
use Rattle.rxc_program.proofs.Chips.{ChipLaws}
use Rattle.rxc_program.proofs.ChipTexts.{file_chip}
use Rattle.rxc_program.proofs.DrivenJudged.{TraceLaws}
use Rattle.rxc_program.proofs.OneOutput.{lines_of_parts}
use Rattle.rxc_program.proofs.Telling.{tells_languages, width}
use Rattle.switch_net.specs.Recognition.{IsWordOf}
use Rattle.rxc_program.specs.Simulating.{Drives, IsSimulated, simulating}
use Rattle.rxc_program.specs.Telling.{DrivesFile, TellsLanguages}

-- vectors of one width are all right
all_right : (n : ℕ) (vectors : List (List Bool)) → AllByRecursion (λ vector. length vector ≡ n) vectors
    → prefix_len (λ vector. not (not (length vector == n))) vectors ≡ length vectors
all_right n [] widths = refl
all_right n (vector ∷ vectors) widths = rw (eq-eqb (length vector) n widths.0) (let rest = all_right n vectors widths.1 in omega arith)

none_wrong : (n : ℕ) (vectors : List (List Bool)) → IsWordOf n vectors → position (λ vector. not (length vector == n)) vectors ≡ None
none_wrong n vectors widths =
    let all = all_right n vectors (recursion_from_All _ vectors widths) in
    rw (le-ltb (prefix_len (λ vector. not (not (length vector == n))) vectors) (length vectors) (omega arith)) refl

module _ (traces : TraceLaws) (chips : ChipLaws) (alike : SameRunAlike) (spec : Specification)
    (text : List ℕ) (vectors : List (List Bool)) (is : DrivesFile text spec vectors) where
  abbrev circuit : Circuit
  circuit = is.file.circuit

  driven : Drives text vectors circuit
  driven = record {
    parts = record { place = is.place; trace = is.trace; chip = file_chip is.kind (drop is.place text) circuit is.file.stands is.readable };
    widths = none_wrong (input_count circuit.pads) vectors
        (subst (λ n. IsWordOf n vectors) (sym (width spec circuit is.file.compiled vectors)) is.widths);
  }

  pub file_tells : simulating.Accepts text × ((output : List ℕ) → IsSimulated text output → TellsLanguages spec vectors output)
  file_tells = (
    (vectors, circuit, driven),
    λ output shown. tells_languages spec circuit is.file.compiled vectors output driven.widths
        (lines_of_parts traces chips alike text vectors circuit driven.parts output shown),
  )
