-- Same networks run alike: what one does from some charges, the other does net by net under the renaming.
use Rattle.std.specs.Prelude.{◌≡◌, ℕ, Bool, List, [], ◌∷◌, Contains, Some, slice_get}
use mathlib.Core.Logic.{inl, inr}
use mathlib.Core.Path.{sym, ◌∙◌}
use Rattle.switch_net.specs.Circuit.{Circuit, touched, IsSameNetwork}
use Rattle.switch_net.specs.Settling.{Values, Settled}
use Rattle.switch_net.specs.Clock.{Clock, Run}
use Rattle.switch_net.specs.Recognition.{output_nets, Recognises, ShowsSurely}
use Rattle.switch_net.specs.Ternary.{Levels, SettledLevels, ClockLevels, RunLevels, nothing_known}
use Rattle.switch_net.specs.Validity.{IsNetwork}

-- Each touched net has in the first what its renamed net has in the second: values or levels.
abbrev pub AreCarried : {X : Type 0} → Circuit → (ℕ → ℕ) → (ℕ → X) → (ℕ → X) → Type 0
AreCarried circuit rename v w = (net : ℕ) → Contains (touched circuit) net → w (rename net) ≡ v net

-- So it is at each of these times.
abbrev pub AllAreCarried : {X : Type 0} → Circuit → (ℕ → ℕ) → List (ℕ → X) → List (ℕ → X) → Type 0
AllAreCarried circuit rename [] [] = Unit {0}
AllAreCarried circuit rename [] (w ∷ ws) = ⊥
AllAreCarried circuit rename (v ∷ vs) [] = ⊥
AllAreCarried circuit rename (v ∷ vs) (w ∷ ws) = AreCarried circuit rename v w × AllAreCarried circuit rename vs ws

-- From carried charges each step of the one has a carried step of the other, and each of the other has one of the one.
abbrev pub StepAlike : {X : Type 0} → Circuit → (ℕ → ℕ) → ((ℕ → X) → (ℕ → X) → Type 0) → ((ℕ → X) → (ℕ → X) → Type 0)
    → Type 0
StepAlike {X} circuit rename One Other = (q p : ℕ → X) → AreCarried circuit rename q p
    → ((v : ℕ → X) → One q v → (w : ℕ → X) × Other p w × AreCarried circuit rename v w)
    × ((w : ℕ → X) → Other p w → (v : ℕ → X) × One q v × AreCarried circuit rename v w)

-- From carried charges each run of the one has a carried run of the other, and each of the other has one of the one.
abbrev pub RunAlike : {X : Type 0} → Circuit → (ℕ → ℕ) → ((ℕ → X) → List (ℕ → X) → Type 0)
    → ((ℕ → X) → List (ℕ → X) → Type 0) → Type 0
RunAlike {X} circuit rename One Other = (q p : ℕ → X) → AreCarried circuit rename q p
    → ((vs : List (ℕ → X)) → One q vs → (ws : List (ℕ → X)) × Other p ws × AllAreCarried circuit rename vs ws)
    × ((ws : List (ℕ → X)) → Other p ws → (vs : List (ℕ → X)) × One q vs × AllAreCarried circuit rename vs ws)

-- Same networks, whatever their numbers of nets, settle alike under the same drives.
abbrev pub SameSettleAlike : Type 0
SameSettleAlike = (one other : Circuit) → IsNetwork one → IsNetwork other → (same : IsSameNetwork one other) → (drives : List Bool)
    → StepAlike one same.rename (Settled one drives) (Settled other drives)
    × StepAlike one same.rename (SettledLevels one drives) (SettledLevels other drives)

-- They take a clock alike.
abbrev pub SameClockAlike : Type 0
SameClockAlike = (one other : Circuit) → IsNetwork one → IsNetwork other → (same : IsSameNetwork one other)
    → (reset : Bool) (lines : List Bool)
    → StepAlike one same.rename (Clock one reset lines) (Clock other reset lines)
    × StepAlike one same.rename (ClockLevels one reset lines) (ClockLevels other reset lines)

-- They run alike.
abbrev pub SameRunAlike : Type 0
SameRunAlike = (one other : Circuit) → IsNetwork one → IsNetwork other → (same : IsSameNetwork one other)
    → (lines : List Bool) (u : List (List Bool))
    → RunAlike one same.rename (λ q vs. Run one q lines u vs) (λ q vs. Run other q lines u vs)
    × RunAlike one same.rename (λ q ls. RunLevels one q lines u ls) (λ q ls. RunLevels other q lines u ls)

-- At each time each output of the second has what that output of the first has.
abbrev pub AgreeAtOutputs : {X : Type 0} → Circuit → Circuit → List (ℕ → X) → List (ℕ → X) → Type 0
AgreeAtOutputs {X} one other vs ws = (t output net : ℕ) (w : ℕ → X)
    → slice_get ws t ≡ Some w → slice_get (output_nets other.pads) output ≡ Some net
    → (v : ℕ → X) × (from : ℕ) × (slice_get vs t ≡ Some v) × (slice_get (output_nets one.pads) output ≡ Some from) × (w net ≡ v from)

-- The second network runs where the first runs from all charges, and what it shows at its outputs the first shows as well.
pub record ShowsAlike (one other : Circuit) : Type 0 where
  pub runs : (lines : List Bool) (u : List (List Bool)) → ((q : Values) → (vs : List Values) × Run one q lines u vs)
      → (p : Values) → (ws : List Values) × Run other p lines u ws
  pub values : (lines : List Bool) (u : List (List Bool)) (p : Values) (ws : List Values) → Run other p lines u ws
      → (q : Values) × (vs : List Values) × Run one q lines u vs × AgreeAtOutputs one other vs ws
  pub levels : (lines : List Bool) (u : List (List Bool)) (ws : List Levels) → RunLevels other nothing_known lines u ws
      → (vs : List Levels) × RunLevels one nothing_known lines u vs × AgreeAtOutputs one other vs ws

-- Same networks show the same at their outputs.
abbrev pub SameShowAlike : Type 0
SameShowAlike = (one other : Circuit) → IsNetwork one → IsNetwork other → IsSameNetwork one other → ShowsAlike one other

-- So they recognise the same languages: where one of them does, whatever the languages are, the other does.
pub recognises_alike : (one other : Circuit) (width : ℕ) (language : ℕ → List (List Bool) → Type 0) → ShowsAlike one other
    → Recognises one width language → Recognises other width language
recognises_alike one other width language alike recognises = record {
  runs = λ p lines u long word. alike.runs lines u (λ q. recognises.runs q lines u long word) p;
  shows = λ p lines u long word ws run t output net w at out.
      let first = alike.values lines u p ws run in
      let agree = first.3 t output net w at out in
      let tells = recognises.shows first.0 lines u long word first.1 first.2 t output agree.1 agree.0 agree.2 agree.3 in
      (λ high. tells.0 (sym agree.4 ∙ high), λ member. agree.4 ∙ tells.1 member);
}

-- And each shows them surely where the other does.
pub shows_surely_alike : (one other : Circuit) (width : ℕ) (language : ℕ → List (List Bool) → Type 0) → ShowsAlike one other
    → ShowsSurely one width language → ShowsSurely other width language
shows_surely_alike one other width language alike shows = λ lines u long word ws run t output net w at out.
    let first = alike.levels lines u ws run in
    let agree = first.2 t output net w at out in
    elim (shows lines u long word first.0 first.1 t output agree.1 agree.0 agree.2 agree.3) [
      | inl h ↦ inl (agree.4 ∙ h.0, h.1)
      | inr h ↦ inr (agree.4 ∙ h.0, h.1)
    ]
