-- With levels the equations of clocked logic have one solution: each net's value is known once those below it are.
use Rattle.std.proofs.Common.{◌≡◌, ℕ, suc, zero, ◌<◌, ◌==◌, ◌&&◌, ◌||◌, not, cond, Bool, true, false, List, [], ◌∷◌, Option, Some, None, Contains, refl, inl, inr, ap, ap₂, ◌∙◌, sym, arith, eqb-true}
use Rattle.std.proofs.lemmas.Bool.{cases_Bool}
use Rattle.std.proofs.lemmas.List.Elements.{All-contains}
use Rattle.switch_net.proofs.LogicNets as nets
use Rattle.switch_net.proofs.LogicNets.{Setting, Transfer}
use Rattle.switch_net.specs.ClockedLogic.{NetKind, NamesBelow, IsEvaluationOrder, FollowsLogic, pulls_down}
use Rattle.switch_net.specs.ClockedLogic.NetKind.{fixed, gate, stored, isolated}
use Rattle.switch_net.specs.Settling.{Values, fixed_level}
use Rattle.switch_net.specs.declared.network.Device.{Device}
use Rattle.switch_net.specs.declared.network.Device.TheVariants.{Pass, Load}
use Rattle.switch_net.specs.declared.network.Net.{Net}

-- a fixed net's level, low where it has none
abbrev pub level_or_low : Option Bool → Bool
level_or_low (Some level) = level
level_or_low None = false

-- what the equation of a net of this kind makes of the values of other nets
abbrev pub equation : Setting → Values → Values → ℕ → NetKind → Bool
equation s q v net fixed = level_or_low (fixed_level s.circuit.pads s.drives net)
equation s q v net gate = not (pulls_down s.ground s.circuit.devices v net)
equation s q v net (stored clock source) = cond (level_or_low (fixed_level s.circuit.pads s.drives clock)) (v source) (q net)
equation s q v net isolated = q net

-- the value of each net after so many rounds of the equations
abbrev pub rounds : Setting → Values → ℕ → Values
rounds s q zero net = false
rounds s q (suc n) net = equation s q (rounds s q n) net (s.kind net)

both_alike : (p r x y rest rest' : Bool) → (p ≡ true → r ≡ true → x ≡ y) → rest ≡ rest'
    → ((p && r && x) || rest) ≡ ((p && r && y) || rest')
both_alike true true x y rest rest' same e = ap₂ ◌||◌ (same refl refl) e
both_alike true false x y rest rest' same e = e
both_alike false r x y rest rest' same e = e

-- two values pull a net down alike if they agree on the inputs of its pull-downs
pub pulls_alike : (ground : ℕ) (v w : Values) (net : ℕ) (devices : List Device)
    → ((input a : Net) → Contains devices (Pass input a (record { 0 = ground })) → a.0 ≡ net → v input.0 ≡ w input.0)
    → pulls_down ground devices v net ≡ pulls_down ground devices w net
pulls_alike ground v w net [] same = refl
pulls_alike ground v w net (Load at ∷ devices) same =
    pulls_alike ground v w net devices (λ input a c. same input a (suc c.0, omega arith, c.2))
pulls_alike ground v w net (Pass input a b ∷ devices) same =
    both_alike (a.0 == net) (b.0 == ground) _ _ _ _
    (λ e e'. same input a (zero, omega arith, ap (λ (at : ℕ). Pass input a (record { 0 = at })) (eqb-true b.0 ground e')) (eqb-true a.0 net e))
    (pulls_alike ground v w net devices (λ input a c. same input a (suc c.0, omega arith, c.2)))

module _ (s : Setting) where
  open s use {circuit, ground, kind, logic, drives, sized}

  -- the values agree on the nets below this level
  abbrev AgreeBelow : (ℕ → ℕ) → ℕ → Values → Values → Type 0
  AgreeBelow level n v w = (net : ℕ) → net < circuit.nets → level net < n → v net ≡ w net

  open_alike : (test x y z : Bool) → (test ≡ true → x ≡ y) → cond test x z ≡ cond test y z
  open_alike true x y z same = same refl
  open_alike false x y z same = refl

  high_level : (x : Option Bool) → level_or_low x ≡ true → x ≡ Some true
  high_level (Some level) e = ap Some e
  high_level None e = absurd (cc)

  -- equations are alike at values that agree below the net
  equation_alike : (level : ℕ → ℕ) → IsEvaluationOrder circuit ground kind drives level → (q v w : Values) (net : ℕ) → net < circuit.nets
      → AgreeBelow level (level net) v w → (k : NetKind) → kind net ≡ k → equation s q v net k ≡ equation s q w net k
  equation_alike level levelled q v w net below same fixed e = refl
  equation_alike level levelled q v w net below same isolated e = refl
  equation_alike level levelled q v w net below same gate e =
      ap not (pulls_alike ground v w net circuit.devices
      (λ input a c e'. same input.0
      (All-contains (NamesBelow circuit.nets) circuit.devices (Pass input a (record { 0 = ground })) logic.below c).0
      (rw (← e') (levelled.inputs input a c))))
  equation_alike level levelled q v w net below same (stored clock source) e =
      open_alike _ _ _ _
      (λ h. same source (nets.transfer s net clock source below e).source_below
      (levelled.sources net clock source below e (high_level _ h)))

  fixed_equation : (q v : Values) (net : ℕ) (level : Bool) → fixed_level circuit.pads drives net ≡ Some level → v net ≡ level
      → v net ≡ equation s q v net fixed
  fixed_equation q v net level e e' = rw e e'

  fixed_value : (q v : Values) → FollowsLogic circuit ground kind drives q v → (net : ℕ) → net < circuit.nets → kind net ≡ fixed
      → v net ≡ equation s q v net fixed
  fixed_value q v values net below k =
      let level = nets.fixed_at s net below k in
      fixed_equation q v net level.0 level.1 (values.pads net level.0 below level.1)

  -- values of the logic meet each net's equation
  follows_equation : (q v : Values) → FollowsLogic circuit ground kind drives q v → (net : ℕ) → net < circuit.nets
      → (k : NetKind) → kind net ≡ k → v net ≡ equation s q v net k
  follows_equation q v values net below fixed e = fixed_value q v values net below e
  follows_equation q v values net below gate e = values.gates net below e
  follows_equation q v values net below isolated e = values.isolated net below e
  follows_equation q v values net below (stored clock source) e =
      let t = nets.transfer s net clock source below e in
      let c = fixed_value q v values clock t.clock_below t.clock_fixed in
      elim (cases_Bool (v clock)) [
        | inl h ↦ rw (← c, h) (values.follows net clock source below e h)
        | inr low ↦ rw (← c, low) (values.held net clock source below e low)
      ]

  -- and values that meet them are those of the logic
  module _ (q v : Values) (meets : (net : ℕ) → net < circuit.nets → v net ≡ equation s q v net (kind net)) where
    solved : (net : ℕ) (k : NetKind) → net < circuit.nets → kind net ≡ k → v net ≡ equation s q v net k
    solved net k below e = rw e at (meets net below)

    clock_value : (net clock source : ℕ) → net < circuit.nets → kind net ≡ stored clock source
        → v clock ≡ level_or_low (fixed_level circuit.pads drives clock)
    clock_value net clock source below k =
        let t = nets.transfer s net clock source below k in
        solved clock fixed t.clock_below t.clock_fixed

    follows_from_equations : FollowsLogic circuit ground kind drives q v
    follows_from_equations = record {
      pads = λ net level below e. rw e at (solved net fixed below (nets.fixed_kind s net level below e));
      gates = λ net below k. solved net gate below k;
      follows = λ net clock source below k h.
          let c = clock_value net clock source below k in
          rw (← c, h) at (solved net (stored clock source) below k);
      held = λ net clock source below k low.
          let c = clock_value net clock source below k in
          rw (← c, low) at (solved net (stored clock source) below k);
      isolated = λ net below k. solved net isolated below k;
    }

  -- each round leaves the nets below it as they are
  rounds_agree : (level : ℕ → ℕ) → IsEvaluationOrder circuit ground kind drives level → (q : Values) (n m : ℕ) (net : ℕ)
      → net < circuit.nets → level net < n → level net < m → rounds s q n net ≡ rounds s q m net
  rounds_agree level levelled q zero m net below h h' = absurd (omega arith)
  rounds_agree level levelled q (suc n) zero net below h h' = absurd (omega arith)
  rounds_agree level levelled q (suc n) (suc m) net below h h' =
      equation_alike level levelled q (rounds s q n) (rounds s q m) net below
      (λ input below' lower. rounds_agree level levelled q n m input below' (omega arith) (omega arith)) (kind net) refl

  -- the values that the rounds reach
  abbrev pub reached : (ℕ → ℕ) → Values → Values
  reached level q net = rounds s q (suc (level net)) net

  pub reached_follows : (level : ℕ → ℕ) → IsEvaluationOrder circuit ground kind drives level → (q : Values)
      → FollowsLogic circuit ground kind drives q (reached level q)
  reached_follows level levelled q =
      follows_from_equations q (reached level q)
      (λ net below. equation_alike level levelled q (rounds s q (level net)) (reached level q) net below
      (λ input below' lower. rounds_agree level levelled q (level net) (suc (level input)) input below' lower (omega arith))
      (kind net) refl)

  -- values of the logic are those of enough rounds
  follows_rounds : (level : ℕ → ℕ) → IsEvaluationOrder circuit ground kind drives level → (q v : Values)
      → FollowsLogic circuit ground kind drives q v → (n net : ℕ) → net < circuit.nets → level net < n → v net ≡ rounds s q n net
  follows_rounds level levelled q v values zero net below h = absurd (omega arith)
  follows_rounds level levelled q v values (suc n) net below h =
      follows_equation q v values net below (kind net) refl
      ∙ equation_alike level levelled q v (rounds s q n) net below
      (λ input below' lower. follows_rounds level levelled q v values n input below' (omega arith)) (kind net) refl

  pub follows_agree : (level : ℕ → ℕ) → IsEvaluationOrder circuit ground kind drives level → (q v w : Values)
      → FollowsLogic circuit ground kind drives q v → FollowsLogic circuit ground kind drives q w
      → (net : ℕ) → net < circuit.nets → v net ≡ w net
  follows_agree level levelled q v w values values' net below =
      follows_rounds level levelled q v values (suc (level net)) net below (omega arith)
      ∙ sym (follows_rounds level levelled q w values' (suc (level net)) net below (omega arith))
