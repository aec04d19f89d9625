-- Nets of clocked logic that are known by one another settle to their values, whatever the other charges.
use Rattle.std.proofs.Common.{◌≡◌, ◌⊎◌, inl, inr, ℕ, zero, suc, ◌<◌, not, Bool, true, false, Some, Contains, refl, sym, ap, ◌∙◌, arith}
use Rattle.std.proofs.lemmas.List.Elements.{All-contains}
use Rattle.switch_net.proofs.LogicGroups.{Within, gate_low, low_gate, gate_high, alone_level}
use Rattle.switch_net.proofs.LogicGroups.Within.{itself, opened}
use Rattle.switch_net.proofs.LogicEquations.{source_joined, held_free, held_not_high, held_alone}
use Rattle.switch_net.proofs.LogicLevels.{pulls_alike}
use Rattle.switch_net.proofs.LogicNets as nets
use Rattle.switch_net.proofs.LogicNets.{Setting}
use Rattle.switch_net.specs.ClockedLogic.{NetKind, NamesBelow, FollowsLogic, pulls_down}
use Rattle.switch_net.specs.ClockedLogic.NetKind.{fixed, gate, stored, isolated}
use Rattle.switch_net.specs.Settling.{Values, fixed_level, IsFree}
use Rattle.switch_net.specs.Ternary.{Levels, level_of, sure, possible, UpdatedAt, AreDriven, AfterUpdates}
use Rattle.switch_net.specs.TernaryLogic.{IsPullDown, IsKnownBelow, IsTold, ToldNetsSettle}
use Rattle.switch_net.specs.declared.network.Device.TheVariants.{Pass}
use Rattle.switch_net.specs.declared.network.Level.TheVariants.{Low, High}
use Rattle.switch_net.specs.declared.network.Net.{Net}

module _ (s : Setting) (q v w : Levels) (driven : AreDriven s.circuit s.drives v) where
  open s use {circuit, ground, kind, logic, drives, sized}

  -- ---- one update

  -- a gate that is pulled down for sure, with its open storage nodes
  low_update : (net a : ℕ) → net < circuit.nets → a < circuit.nets → kind net ≡ gate → Within kind (sure v) net a
      → pulls_down ground circuit.devices (sure v) net ≡ true → UpdatedAt circuit drives q v w a → w a ≡ Low
  low_update net a below below' g inside pulled updated = updated.low (low_gate s (sure v) net a below below' g inside pulled)

  -- a gate that nothing can pull down
  high_update : (net a : ℕ) → net < circuit.nets → a < circuit.nets → kind net ≡ gate → Within kind (sure v) net a → Within kind (possible v) net a
      → pulls_down ground circuit.devices (possible v) net ≡ false → UpdatedAt circuit drives q v w a → w a ≡ High
  high_update net a below below' g inside perhaps none updated =
      updated.high (record {
        not_low = λ low. let pulled = gate_low s (possible v) net a g perhaps low in absurd (cc);
        high = gate_high s (sure v) net a below below' g inside;
      })

  -- a storage node that is open to a fixed net
  led_update : (net clock source : ℕ) (level : Bool) → net < circuit.nets → kind net ≡ stored clock source → sure v clock ≡ true
      → kind source ≡ fixed → fixed_level circuit.pads drives source ≡ Some level → UpdatedAt circuit drives q v w net → w net ≡ level_of level
  led_update net clock source false below k h f e updated = updated.low (source_joined s (sure v) (sure v) net clock source false below k h e)
  led_update net clock source true below k h f e updated =
      updated.high (record {
        not_low = λ low. let other = (alone_level s (possible v) net clock source false k (λ _. f) low).0 in absurd (cc);
        high = inl (source_joined s (sure v) (sure v) net clock source true below k h e);
      })

  -- a closed storage node
  held_update : (net clock source : ℕ) (level : Bool) → kind net ≡ stored clock source → possible v clock ≡ false
      → q net ≡ level_of level → UpdatedAt circuit drives q v w net → w net ≡ level_of level
  held_update net clock source level k low e updated =
      updated.kept level (record {
        not_low = held_free s (possible v) (possible v) net clock source false k low;
        not_high = held_not_high s (possible v) (possible v) net clock source k low;
        charge = λ m g. rw (held_alone s (possible v) (possible v) net m clock source k low g) e;
      })

  -- a fixed net conducts as it is driven
  driven_level : (net : ℕ) → net < circuit.nets → kind net ≡ fixed → (x : Values)
      → ((n : ℕ) (level : Bool) → n < circuit.nets → fixed_level circuit.pads drives n ≡ Some level → x n ≡ level) → v net ≡ level_of (x net)
  driven_level net below f x pads =
      let level = nets.fixed_at s net below f in
      driven net level.0 below level.1 ∙ ap level_of (sym (pads net level.0 below level.1))

sure_of : (v : Levels) (net : ℕ) (b : Bool) → v net ≡ level_of b → sure v net ≡ b
sure_of v net true e = rw e refl
sure_of v net false e = rw e refl

possible_of : (v : Levels) (net : ℕ) (b : Bool) → v net ≡ level_of b → possible v net ≡ b
possible_of v net true e = rw e refl
possible_of v net false e = rw e refl

module _ (s : Setting) (q : Levels) (charges x : Values) (follows : FollowsLogic s.circuit s.ground s.kind s.drives charges x)
    (level : ℕ → ℕ) (is_known : ℕ → Bool)
    (told : (net : ℕ) → net < s.circuit.nets → is_known net ≡ true → IsTold s.circuit s.ground s.kind q x level is_known (s.kind net) net) where
  open s use {circuit, ground, kind, logic, drives, sized}

  driven_after : (n : ℕ) (v : Levels) → AfterUpdates circuit drives q n v → AreDriven circuit drives v
  driven_after zero v h = h.fixed
  driven_after (suc n) v h = h.2.fixed

  -- the known nets below this level have their values
  abbrev KnownBelow : ℕ → Levels → Type 0
  KnownBelow n v = (net : ℕ) → net < circuit.nets → is_known net ≡ true → level net < n → v net ≡ level_of (x net)

  module _ (v w : Levels) (n : ℕ) (driven : AreDriven circuit drives v) (known : KnownBelow n v) where
    input_below : (input : Net) (net : ℕ) → IsPullDown circuit ground input net → input.0 < circuit.nets
    input_below input net c = (All-contains (NamesBelow circuit.nets) circuit.devices (Pass input (record { 0 = net }) (record { 0 = ground })) logic.below c).0

    -- a gate and its open storage nodes
    gate_known : (net a : ℕ) → net < circuit.nets → a < circuit.nets → kind net ≡ gate → Within kind (sure v) net a → Within kind (possible v) net a
        → level net < suc n → IsTold circuit ground kind q x level is_known gate net → UpdatedAt circuit drives q v w a → w a ≡ level_of (x net)
    gate_known net a below below' g inside perhaps lt (inl pulled) updated =
        let up = known pulled.input pulled.in_nets pulled.below.0 (omega (arith, lt, pulled.below.1)) in
        let down = pulled.pulls (sure v) (sure_of v pulled.input true (rw (pulled.high) at up)) in
        let low : x net ≡ false = follows.gates net below g ∙ ap not (pulled.pulls x pulled.high) in
        rw low (low_update s q v w driven net a below below' g inside down updated)
    gate_known net a below below' g inside perhaps lt (inr all) updated = by_pull (pulls_down ground circuit.devices x net) refl
      where
        inputs : (input b : Net) → Contains circuit.devices (Pass input b (record { 0 = ground })) → b.0 ≡ net → v input.0 ≡ level_of (x input.0)
        inputs input b c e =
            let c' : IsPullDown circuit ground input net = rw e at c in
            let k = all input c' in
            known input.0 (input_below input net c') k.0 (omega (arith, lt, k.1))

        by_pull : (b : Bool) → pulls_down ground circuit.devices x net ≡ b → w a ≡ level_of (x net)
        by_pull true e =
            let down = pulls_alike ground (sure v) x net circuit.devices (λ input b c f. sure_of v input.0 (x input.0) (inputs input b c f)) ∙ e in
            let low : x net ≡ false = follows.gates net below g ∙ ap not e in
            rw low (low_update s q v w driven net a below below' g inside down updated)
        by_pull false e =
            let none = pulls_alike ground (possible v) x net circuit.devices (λ input b c f. possible_of v input.0 (x input.0) (inputs input b c f)) ∙ e in
            let high : x net ≡ true = follows.gates net below g ∙ ap not e in
            rw high (high_update s q v w driven net a below below' g inside perhaps none updated)

    -- a storage node that is open to its source
    open_known : (net clock source : ℕ) → net < circuit.nets → kind net ≡ stored clock source → x clock ≡ true → IsKnownBelow circuit ground kind q x level is_known source net
        → level net < suc n → UpdatedAt circuit drives q v w net → w net ≡ level_of (x net)
    open_known net clock source below k up source_known lt updated = by_source t.source_kind
      where
        t : nets.Transfer circuit kind clock source
        t = nets.transfer s net clock source below k

        clock_up : v clock ≡ level_of true
        clock_up = rw up at (driven_level s q v w driven clock t.clock_below t.clock_fixed x follows.pads)

        same : x net ≡ x source
        same = follows.follows net clock source below k up

        by_source : (kind source ≡ gate) ⊎ (kind source ≡ fixed) → w net ≡ level_of (x net)
        by_source (inl g) =
            rw same (gate_known source net t.source_below below g (opened clock k (sure_of v clock true clock_up)) (opened clock k (possible_of v clock true clock_up))
            (omega (arith, lt, source_known.1)) (rw g at (told source t.source_below source_known.0)) updated)
        by_source (inr f) =
            let l = nets.fixed_at s source t.source_below f in
            rw (same, follows.pads source l.0 t.source_below l.1) (led_update s q v w driven net clock source l.0 below k (sure_of v clock true clock_up) f l.1 updated)

    stored_known : (net clock source : ℕ) → net < circuit.nets → kind net ≡ stored clock source → IsTold circuit ground kind q x level is_known (stored clock source) net
        → level net < suc n → UpdatedAt circuit drives q v w net → w net ≡ level_of (x net)
    stored_known net clock source below k h lt updated = by_clock (x clock) refl
      where
        by_clock : (b : Bool) → x clock ≡ b → w net ≡ level_of (x net)
        by_clock true up = open_known net clock source below k up (h.0 up) lt updated
        by_clock false down =
            let t = nets.transfer s net clock source below k in
            let clock_down : v clock ≡ level_of false = rw down at (driven_level s q v w driven clock t.clock_below t.clock_fixed x follows.pads) in
            held_update s q v w driven net clock source (x net) k (possible_of v clock false clock_down) (h.1 down) updated

    net_known : AreDriven circuit drives w → ((net : ℕ) → IsFree circuit drives net → UpdatedAt circuit drives q v w net)
        → (net : ℕ) → net < circuit.nets → is_known net ≡ true → level net < suc n → (k : NetKind) → kind net ≡ k → w net ≡ level_of (x net)
    net_known fixed_nets free net below is lt fixed k =
        let l = nets.fixed_at s net below k in
        fixed_nets net l.0 below l.1 ∙ ap level_of (sym (follows.pads net l.0 below l.1))
    net_known fixed_nets free net below is lt gate k =
        gate_known net net below below k (itself refl) (itself refl) lt (rw k at (told net below is)) (free net (nets.free_at s net below (λ f. cc)))
    net_known fixed_nets free net below is lt (stored clock source) k =
        stored_known net clock source below k (rw k at (told net below is)) lt (free net (nets.free_at s net below (λ f. cc)))
    net_known fixed_nets free net below is lt isolated k = absurd (rw k at (told net below is))

  settle : (n : ℕ) (v : Levels) → AfterUpdates circuit drives q n v → KnownBelow n v
  settle zero v h net below is lt = absurd (omega arith)
  settle (suc n) w h net below is lt =
      net_known h.0 w n (driven_after n h.0 h.1) (settle n h.0 h.1) h.2.fixed h.2.free net below is lt (kind net) refl

pub told_nets_settle : ToldNetsSettle
told_nets_settle circuit ground kind logic drives sized q charges x follows level is_known told n v h net below is lt =
    settle (record { circuit = circuit; ground = ground; kind = kind; logic = logic; drives = drives; sized = sized }) q charges x follows level is_known told n v h net below is lt
