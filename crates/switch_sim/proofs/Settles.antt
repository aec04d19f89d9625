-- From unknown levels to those that a settling leaves.
use Rattle.std.proofs.Common.{◌≡◌, ◌≢◌, ◌⊎◌, inl, inr, ℕ, suc, ◌+◌, ◌*◌, ◌<◌, ◌≤◌, Bool, false, List, Option, length, get_or, ap, ◌∙◌, arith}
use Rattle.std.proofs.Math.Nat.{mul-le-mul_right}
use Rattle.switch_net.specs.Circuit.{Circuit}
use Rattle.switch_net.specs.LeastLevels.{NoneIsTold}
use Rattle.switch_net.specs.Settling.{fixed_level, IsFree}
use Rattle.switch_net.specs.Settling.Grouped.{here}
use Rattle.switch_net.specs.Ternary.{Levels, StartsUnknown}
use Rattle.switch_net.specs.declared.network.Level.{Level}
use Rattle.switch_sim.specs.DueNets.{AreListed, AreHandled, Remain}
use Rattle.switch_sim.specs.Nets.{first_level}
use Rattle.switch_sim.specs.Simulation.{level_at}
use Rattle.switch_sim.specs.ToldLevels.{LeadsOn, IsCloser, unknowns}
use Rattle.switch_sim.specs.Waiting.{Waits}

module _ (circuit : Circuit) (drives : List Bool) where
  abbrev f : ℕ → Option Bool
  f = fixed_level circuit.pads drives

  pub starts : (v : Levels) → ((net : ℕ) → net < circuit.nets → v net ≡ first_level (f net)) → StartsUnknown circuit drives v
  starts v first = record {
    fixed = λ net level lt e. first net lt ∙ ap first_level e;
    free = λ net free. first net free.0 ∙ ap first_level free.1;
  }

  pub then_leads : (charges first old new : List Level) → LeadsOn circuit drives charges first old → LeadsOn circuit drives charges old new
      → LeadsOn circuit drives charges first new
  then_leads charges first old new one two = record {
    ones = λ h. two.ones (one.ones h);
    more = λ net level lt e. two.more net level lt (one.more net level lt e);
  }

  -- where all free nets are due, nothing is claimed of any
  pub all_due : (charges levels : List Level) (seen : List Bool) → ((net : ℕ) → get_or seen net false ≡ false)
      → AreHandled circuit drives charges levels seen
  all_due charges levels seen due net free quiet = absurd (quiet net free (due net) (here net))

  -- where none waits, none is told
  pub none_told : (charges levels : List Level) (seen : List Bool) (now next : List ℕ) → AreHandled circuit drives charges levels seen
      → AreListed circuit drives seen now next → ((net : ℕ) → Waits now net ⊎ Waits next net → ⊥)
      → NoneIsTold circuit drives (level_at charges) (level_at levels)
  none_told charges levels seen now next handled listed none net level free unknown =
      handled net free (λ other f e g. none other (listed other f e)) unknown level

  -- one net was taken and looked at
  pub still_listed : (seen seen_new : List Bool) (now next now_left next_left next_new : List ℕ) (net : ℕ)
      → AreListed circuit drives seen now next → Remain now next now_left next_left net
      → ((k : ℕ) → IsFree circuit drives k → get_or seen_new k false ≡ false → ((get_or seen k false ≡ false) × (net ≢ k)) ⊎ Waits next_new k)
      → ((k : ℕ) → Waits next_left k → Waits next_new k) → AreListed circuit drives seen_new now_left next_new
  still_listed seen seen_new now next now_left next_left next_new net listed remain due kept k free e =
      elim (due k free e) [
        | inl before ↦ elim (remain k (listed k free before.0)) [
          | inl same ↦ absurd (before.1 same)
          | inr w ↦ elim w [ inl v ↦ inl v | inr v ↦ inr (kept k v) ]
        ]
        | inr w ↦ inr w
      ]

-- how much is left to do: fewer unknown nets count more than all nets that may wait
abbrev pub work : ℕ → List Level → List ℕ → List ℕ → ℕ
work size levels now next = unknowns levels * (2 * size + 1) + (length now + length next)

pub less_work : (size : ℕ) (levels levels_new : List Level) (now next now_left next_left next_new : List ℕ)
    → length now_left + length next_left < length now + length next → length now_left ≤ size → length next_new ≤ size
    → IsCloser levels next_left levels_new next_new → work size levels_new now_left next_new < work size levels now next
less_work size levels levels_new now next now_left next_left next_new fewer fits fits_next (inr same) =
    let levels_same = ap unknowns same.0 in
    let next_same = ap length same.1 in
    rw (levels_same, next_same) (omega arith)
less_work size levels levels_new now next now_left next_left next_new fewer fits fits_next (inl less) =
    by (unknowns levels) (unknowns levels_new) less
  where
    by : (u w : ℕ) → w < u → w * (2 * size + 1) + (length now_left + length next_new) < u * (2 * size + 1) + (length now + length next)
    by u w lt =
        let whole : suc w * (2 * size + 1) ≤ u * (2 * size + 1) = mul-le-mul_right (2 * size + 1) lt in
        let one : suc w * (2 * size + 1) ≡ w * (2 * size + 1) + (2 * size + 1) = omega arith in
        omega (arith, whole, one)
