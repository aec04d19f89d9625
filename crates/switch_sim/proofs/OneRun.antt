-- A trace has lines, and has them once.
use Rattle.std.proofs.Common.{◌≡◌, ℕ, suc, ◌<◌, Bool, List, [], ◌∷◌, ◌++◌, refl, sym, ap, ap₂, ◌∙◌}
use Rattle.std.proofs.lemmas.List.Elements.{recursion_from_All}
use Rattle.std.specs.List.{AllByRecursion}
use Rattle.std.specs.Fmt.{decimal}
use Rattle.switch_net.specs.Circuit.{Circuit}
use Rattle.switch_net.specs.LeastLevels.{HaveSameLevels, AllHaveSameLevels, RunLevelsExist, RunLevelsAreOne}
use Rattle.switch_net.specs.Ternary.{Levels, nothing_known}
use Rattle.switch_net.specs.Validity.{IsNetwork}
use Rattle.switch_net.specs.declared.network.Pad.{Pad}
use Rattle.switch_sim.specs.TraceLines.{pad_byte, output_bytes, clock_line, lines_from, TraceLines}

-- the line of these bytes after this clock
abbrev byte_line : ℕ → List ℕ → List ℕ
byte_line clock bytes = decimal clock ++ (32 ∷ (bytes ++ 10 ∷ []))

module _ (circuit : Circuit) where
  outputs_alike : (v w : Levels) → HaveSameLevels circuit v w → (pads : List Pad) → AllByRecursion (λ pad. pad.net.0 < circuit.nets) pads → output_bytes pads v ≡ output_bytes pads w
  outputs_alike v w same [] inside = refl
  outputs_alike v w same (pad ∷ pads) inside =
      ap₂ ◌++◌ (ap (pad_byte pad.name.role) (same pad.net.0 inside.0)) (outputs_alike v w same pads inside.1)

  pub line_alike : (inside : AllByRecursion (λ pad. pad.net.0 < circuit.nets) circuit.pads) (clock : ℕ) (v w : Levels) → HaveSameLevels circuit v w
      → clock_line circuit clock v ≡ clock_line circuit clock w
  line_alike inside clock v w same = ap (λ bytes. byte_line clock bytes) (outputs_alike v w same circuit.pads inside)

  lines_alike : (inside : AllByRecursion (λ pad. pad.net.0 < circuit.nets) circuit.pads) (clock : ℕ) (vs ws : List Levels) → AllHaveSameLevels circuit vs ws
      → lines_from circuit clock vs ≡ lines_from circuit clock ws
  lines_alike inside clock [] [] same = refl
  lines_alike inside clock [] (w ∷ ws) same = absurd same
  lines_alike inside clock (v ∷ vs) [] same = absurd same
  lines_alike inside clock (v ∷ vs) (w ∷ ws) same =
      ap₂ ◌++◌ (line_alike inside clock v w same.0) (lines_alike inside (suc clock) vs ws same.1)

pub one_output : RunLevelsAreOne → (circuit : Circuit) → IsNetwork circuit → (vectors : List (List Bool)) (some other : List ℕ)
    → TraceLines circuit vectors some → TraceLines circuit vectors other → some ≡ other
one_output one_run circuit network vectors some other first second =
    let inside = recursion_from_All (λ pad. pad.net.0 < circuit.nets) circuit.pads network.pads_below in
    first.lines
    ∙ lines_alike circuit inside 0 first.levels second.levels
    (one_run circuit network nothing_known nothing_known [] vectors first.levels second.levels (λ net lt. refl) first.run second.run)
    ∙ sym second.lines

pub some_output : RunLevelsExist → (circuit : Circuit) → IsNetwork circuit → (vectors : List (List Bool)) → (text : List ℕ) × TraceLines circuit vectors text
some_output run_exists circuit network vectors =
    let run = run_exists circuit network nothing_known [] vectors in
    (lines_from circuit 0 run.0, record { levels = run.0; run = run.1; lines = refl })
