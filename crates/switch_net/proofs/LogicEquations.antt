-- Settled values of clocked logic are those of the logic, and the other way round: one equation for each net.
use Rattle.std.proofs.Common.{◌≡◌, ◌⊎◌, ℕ, ◌<◌, not, Bool, true, false, Some, refl, inl, inr, ap}
use Rattle.std.proofs.lemmas.Bool.{cases_Bool, false_from_ne_true}
use Rattle.switch_net.proofs.LogicGroups.{Within, gate_low, low_gate, gate_high, transfer_joins, alone, alone_level, alone_loaded, isolated_alone, isolated_unled, isolated_unloaded}
use Rattle.switch_net.proofs.LogicGroups.Within.{itself, opened}
use Rattle.switch_net.proofs.LogicNets as nets
use Rattle.switch_net.proofs.LogicNets.{Setting, Transfer}
use Rattle.switch_net.specs.ClockedLogic.{NetKind, FollowsLogic, pulls_down}
use Rattle.switch_net.specs.ClockedLogic.NetKind.{fixed, gate, stored, isolated}
use Rattle.switch_net.specs.Settling.{Values, fixed_level, IsFree, Grouped, Source, IsPulledLow, IsPulledHigh, SettledAt, Settled}
use Rattle.switch_net.specs.Settling.Grouped.{here}

module _ (s : Setting) (q v : Values) where
  open s use {circuit, ground, kind, logic, drives, sized}

  -- a gate and its open storage nodes are the NOR of what pulls the gate down
  gate_equation : (net a : ℕ) → net < circuit.nets → a < circuit.nets → kind net ≡ gate → Within kind v net a
      → SettledAt circuit drives q v a → v a ≡ not (pulls_down ground circuit.devices v net)
  gate_equation net a below below' g w h =
      elim (cases_Bool (pulls_down ground circuit.devices v net)) [
        | inl pulled ↦ rw pulled (h.low (low_gate s v net a below below' g w pulled))
        | inr none ↦
            rw none
            (h.high (λ low. let pulled = gate_low s v net a g w low in absurd (cc)) (gate_high s v net a below below' g w))
      ]

  gate_settled : (net a : ℕ) → net < circuit.nets → a < circuit.nets → kind net ≡ gate → Within kind v net a
      → v a ≡ not (pulls_down ground circuit.devices v net) → SettledAt circuit drives q v a
  gate_settled net a below below' g w e = record {
    low = λ low. rw (gate_low s v net a g w low) at e;
    high = λ other h. rw (false_from_ne_true _ (λ pulled. other (low_gate s v net a below below' g w pulled))) at e;
    kept = λ other none. absurd (none (gate_high s v net a below below' g w));
    alike = λ other none. absurd (none (gate_high s v net a below below' g w));
  }

  -- a storage node open to a fixed net has the net's level
  pub source_joined : (net clock source : ℕ) (level : Bool) → net < circuit.nets → kind net ≡ stored clock source → v clock ≡ true
      → fixed_level circuit.pads drives source ≡ Some level → Source circuit drives v level net
  source_joined net clock source level below k h e = record {
    from = net;
    to = source;
    grouped = here net;
    joined = transfer_joins s v net clock source below k h;
    fixed = e;
  }

  led_equation : (net clock source : ℕ) (level : Bool) → net < circuit.nets → kind net ≡ stored clock source → v clock ≡ true
      → kind source ≡ fixed → fixed_level circuit.pads drives source ≡ Some level
      → SettledAt circuit drives q v net → v net ≡ level
  led_equation net clock source false below k h f e settled = settled.low (source_joined net clock source false below k h e)
  led_equation net clock source true below k h f e settled =
      settled.high (λ low. let other = (alone_level s v net clock source false k (λ _. f) low).0 in absurd (cc))
      (inl (source_joined net clock source true below k h e))

  led_low : (net clock source : ℕ) (level : Bool) → kind net ≡ stored clock source → kind source ≡ fixed
      → fixed_level circuit.pads drives source ≡ Some level → IsPulledLow circuit drives v net → level ≡ false
  led_low net clock source level k f e low = let other = (alone_level s v net clock source false k (λ _. f) low).0 in cc

  led_pulled : (net clock source : ℕ) (level : Bool) → net < circuit.nets → kind net ≡ stored clock source → v clock ≡ true
      → fixed_level circuit.pads drives source ≡ Some level
      → ((level ≡ false) × IsPulledLow circuit drives v net) ⊎ ((level ≡ true) × IsPulledHigh circuit drives v net)
  led_pulled net clock source false below k h e = inl (refl, source_joined net clock source false below k h e)
  led_pulled net clock source true below k h e = inr (refl, inl (source_joined net clock source true below k h e))

  led_settled : (net clock source : ℕ) (level : Bool) → net < circuit.nets → kind net ≡ stored clock source → v clock ≡ true
      → kind source ≡ fixed → fixed_level circuit.pads drives source ≡ Some level
      → v net ≡ level → SettledAt circuit drives q v net
  led_settled net clock source level below k h f e e' =
      let pulled = led_pulled net clock source level below k h e in
      record {
        low = λ low. let l = led_low net clock source level k f e low in cc;
        high = λ other high. elim pulled [ inl p ↦ absurd (other p.1) | inr p ↦ let l = p.0 in cc ];
        kept = λ other none. absurd (elim pulled [ inl p ↦ other p.1 | inr p ↦ none p.1 ]);
        alike = λ other none. absurd (elim pulled [ inl p ↦ other p.1 | inr p ↦ none p.1 ]);
      }

  -- a closed storage node keeps its charge
  closed_fixed : (clock source : ℕ) → v clock ≡ false → v clock ≡ true → kind source ≡ fixed
  closed_fixed clock source low high = absurd (cc)

  pub held_free : (net clock source : ℕ) (level : Bool) → kind net ≡ stored clock source → v clock ≡ false
      → Source circuit drives v level net → ⊥
  held_free net clock source level k low led =
      let high = (alone_level s v net clock source level k (closed_fixed clock source low) led).1 in cc

  pub held_not_high : (net clock source : ℕ) → kind net ≡ stored clock source → v clock ≡ false → IsPulledHigh circuit drives v net → ⊥
  held_not_high net clock source k low (inl led) = held_free net clock source true k low led
  held_not_high net clock source k low (inr loaded) = alone_loaded s v net clock source k (closed_fixed clock source low) loaded

  pub held_alone : (net m clock source : ℕ) → kind net ≡ stored clock source → v clock ≡ false → Grouped circuit drives v net m → m ≡ net
  held_alone net m clock source k low g = alone s v net m clock source k (closed_fixed clock source low) g

  held_equation : (net clock source : ℕ) → kind net ≡ stored clock source → v clock ≡ false
      → SettledAt circuit drives q v net → v net ≡ q net
  held_equation net clock source k low settled =
      settled.kept (held_free net clock source false k low) (held_not_high net clock source k low) (q net)
      (λ m g. ap q (held_alone net m clock source k low g))

  held_settled : (net clock source : ℕ) → kind net ≡ stored clock source → v clock ≡ false → v net ≡ q net
      → SettledAt circuit drives q v net
  held_settled net clock source k low e = record {
    low = λ led. absurd (held_free net clock source false k low led);
    high = λ other high. absurd (held_not_high net clock source k low high);
    kept = λ other none level charged. let c = charged net (here net) in cc;
    alike = λ other none m g. ap v (held_alone net m clock source k low g);
  }

  -- an isolated net keeps its charge
  isolated_not_high : (net : ℕ) → kind net ≡ isolated → IsPulledHigh circuit drives v net → ⊥
  isolated_not_high net k (inl led) = isolated_unled s v net true k led
  isolated_not_high net k (inr loaded) = isolated_unloaded s v net k loaded

  isolated_equation : (net : ℕ) → kind net ≡ isolated → SettledAt circuit drives q v net → v net ≡ q net
  isolated_equation net k settled =
      settled.kept (isolated_unled s v net false k) (isolated_not_high net k) (q net)
      (λ m g. ap q (isolated_alone s v net m k g))

  isolated_settled : (net : ℕ) → kind net ≡ isolated → v net ≡ q net → SettledAt circuit drives q v net
  isolated_settled net k e = record {
    low = λ led. absurd (isolated_unled s v net false k led);
    high = λ other high. absurd (isolated_not_high net k high);
    kept = λ other none level charged. let c = charged net (here net) in cc;
    alike = λ other none m g. ap v (isolated_alone s v net m k g);
  }

  open_follows : (net clock source : ℕ) → net < circuit.nets → kind net ≡ stored clock source → v clock ≡ true
      → source < circuit.nets → (kind source ≡ gate) ⊎ (kind source ≡ fixed)
      → Settled circuit drives q v → v net ≡ v source
  open_follows net clock source below k h below' (inl g) settled =
      let free = nets.free_at s net below (λ f. cc) in
      let free' = nets.free_at s source below' (λ f. cc) in
      let e = gate_equation source net below' below g (opened clock k h) (settled.free net free) in
      let e' = gate_equation source source below' below' g (itself refl) (settled.free source free') in
      cc
  open_follows net clock source below k h below' (inr f) settled =
      let free = nets.free_at s net below (λ f. cc) in
      let fixed = nets.fixed_at s source below' f in
      let e = led_equation net clock source fixed.0 below k h f fixed.1 (settled.free net free) in
      let e' = settled.fixed source fixed.0 below' fixed.1 in
      cc

  -- settled values are those of the logic
  pub follows_from_settled : Settled circuit drives q v → FollowsLogic circuit ground kind drives q v
  follows_from_settled settled = record {
    pads = settled.fixed;
    gates = λ net below g. gate_equation net net below below g (itself refl) (settled.free net (nets.free_at s net below (λ f. cc)));
    follows = λ net clock source below k h.
        let t = nets.transfer s net clock source below k in
        open_follows net clock source below k h t.source_below t.source_kind settled;
    held = λ net clock source below k low.
        held_equation net clock source k low (settled.free net (nets.free_at s net below (λ f. cc)));
    isolated = λ net below k. isolated_equation net k (settled.free net (nets.free_at s net below (λ f. cc)));
  }

  open_settled : (net clock source : ℕ) → net < circuit.nets → kind net ≡ stored clock source → v clock ≡ true
      → source < circuit.nets → (kind source ≡ gate) ⊎ (kind source ≡ fixed)
      → FollowsLogic circuit ground kind drives q v → SettledAt circuit drives q v net
  open_settled net clock source below k h below' (inl g) values =
      let e = values.follows net clock source below k h in
      let e' = values.gates source below' g in
      gate_settled source net below' below g (opened clock k h) (cc)
  open_settled net clock source below k h below' (inr f) values =
      let fixed = nets.fixed_at s source below' f in
      let e = values.follows net clock source below k h in
      let e' = values.pads source fixed.0 below' fixed.1 in
      led_settled net clock source fixed.0 below k h f fixed.1 (cc)

  kind_settled : (k : NetKind) (net : ℕ) → IsFree circuit drives net → kind net ≡ k
      → FollowsLogic circuit ground kind drives q v → SettledAt circuit drives q v net
  kind_settled fixed net free k values = absurd (nets.free_kind s net free k)
  kind_settled gate net free k values = gate_settled net net free.0 free.0 k (itself refl) (values.gates net free.0 k)
  kind_settled isolated net free k values = isolated_settled net k (values.isolated net free.0 k)
  kind_settled (stored clock source) net free k values =
      let t = nets.transfer s net clock source free.0 k in
      elim (cases_Bool (v clock)) [
        | inl h ↦ open_settled net clock source free.0 k h t.source_below t.source_kind values
        | inr low ↦ held_settled net clock source k low (values.held net clock source free.0 k low)
      ]

  -- values of the logic are settled
  pub settled_from_follows : FollowsLogic circuit ground kind drives q v → Settled circuit drives q v
  settled_from_follows values = record {
    fixed = values.pads;
    free = λ net free. kind_settled (kind net) net free refl values;
  }
