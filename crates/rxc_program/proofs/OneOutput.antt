-- The output of `sim` is one.
use Rattle.std.proofs.Common.{◌≡◌, ℕ, Bool, List, drop, sym, subst}
use Rattle.switch_net.specs.Circuit.{Circuit}
use Rattle.switch_net.specs.SameRuns.{SameRunAlike}
use Rattle.switch_net.specs.Validity.{IsNetwork}
use Rattle.switch_sim.specs.TraceLines.{TraceLines}
use Rattle.rxc_program.proofs.Chips.{ChipLaws}
use Rattle.rxc_program.proofs.DrivenJudged.{TraceLaws, same_parts}
use Rattle.rxc_program.proofs.SameLines.{same_lines}
use Rattle.rxc_program.specs.Simulating.{IsDrivenBy, IsSimulated}

-- what the chip of a text stands for is a network
pub parts_valid : ChipLaws → (text : List ℕ) (vectors : List (List Bool)) (circuit : Circuit) → IsDrivenBy text vectors circuit → IsNetwork circuit
parts_valid chips text vectors circuit parts = chips.valid (drop parts.place text) circuit parts.chip

module _ (traces : TraceLaws) (chips : ChipLaws) (alike : SameRunAlike) (text : List ℕ) where
  -- an output of a text has the lines of each network that its chip stands for
  pub lines_of_parts : (vectors : List (List Bool)) (circuit : Circuit) → IsDrivenBy text vectors circuit → (output : List ℕ) → IsSimulated text output
      → TraceLines circuit vectors output
  lines_of_parts vectors circuit parts output shown =
      let other = shown.drives.parts in
      let same = same_parts traces.one_trace chips.one_network text vectors shown.vectors circuit shown.circuit parts other in
      same_lines circuit shown.circuit same.1 alike (parts_valid chips text vectors circuit parts)
      (parts_valid chips text shown.vectors shown.circuit other)
      vectors output (subst (λ v. TraceLines shown.circuit v output) (sym same.0) shown.shown)

  -- two outputs of a text are one
  pub one_output : ((circuit : Circuit) → IsNetwork circuit → (vectors : List (List Bool)) (some others : List ℕ)
      → TraceLines circuit vectors some → TraceLines circuit vectors others → some ≡ others)
      → (some others : List ℕ) → IsSimulated text some → IsSimulated text others → some ≡ others
  one_output one some others first second =
      let parts = first.drives.parts in
      one first.circuit (parts_valid chips text first.vectors first.circuit parts) first.vectors some others first.shown
      (lines_of_parts first.vectors first.circuit parts others second)
