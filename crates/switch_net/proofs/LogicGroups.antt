-- The groups of clocked logic: a gate with its open storage nodes, or one storage node alone. And what pulls each.
use Rattle.std.proofs.Common.{◌≡◌, ◌⊎◌, ℕ, ◌<◌, Bool, true, false, Some, refl, inl, inr}
use Rattle.std.proofs.lemmas.List.Elements.{recursion_from_All}
use Rattle.switch_net.proofs.LogicDevices.{Leads, joins_leads, pulls_joins, contained_joins, joins_back, joins_below, load_gate}
use Rattle.switch_net.proofs.LogicDevices.Leads.{pulls, fills}
use Rattle.switch_net.proofs.LogicNets as nets
use Rattle.switch_net.proofs.LogicNets.{Setting}
use Rattle.switch_net.specs.ClockedLogic.{NetKind, IsLogicDevice, NamesBelow, pulls_down}
use Rattle.switch_net.specs.ClockedLogic.NetKind.{fixed, gate, stored, isolated}
use Rattle.switch_net.specs.Settling.{Values, fixed_level, Joins, Grouped, Source, Loaded, IsPulledLow, IsPulledHigh}
use Rattle.switch_net.specs.Settling.Grouped.{here, step}

-- The net is a gate itself, or a storage node of it that is open.
pub data Within (kind : ℕ → NetKind) (v : Values) (net m : ℕ) : Type 0 where
  itself : m ≡ net → Within kind v net m
  opened : (clock : ℕ) → kind m ≡ stored clock net → v clock ≡ true → Within kind v net m

module _ (s : Setting) (v : Values) where
  open s use {circuit, ground, kind, logic, drives, sized}

  leads : (a b : ℕ) → Joins circuit.devices v a b
      → Leads ground kind circuit.devices v a b ⊎ Leads ground kind circuit.devices v b a
  leads a b h =
      joins_leads ground kind v circuit.devices
      (recursion_from_All (IsLogicDevice ground kind) circuit.devices logic.devices) a b h

  -- one device further the group stays within the gate
  within_lead : (net a b : ℕ) → kind net ≡ gate → Within kind v net a → (kind b ≡ fixed → ⊥)
      → Leads ground kind circuit.devices v a b ⊎ Leads ground kind circuit.devices v b a → Within kind v net b
  within_lead net a b g w other (inl (pulls k e h)) = absurd (other (rw e (nets.ground_kind s)))
  within_lead net a b g (itself e) other (inl (fills clock k h s)) = opened clock (rw (← e) k) h
  within_lead net a b g (opened clock' k' h') other (inl (fills clock k h (inl s))) = absurd (cc)
  within_lead net a b g (opened clock' k' h') other (inl (fills clock k h (inr s))) = absurd (cc)
  within_lead net a b g (itself e) other (inr (pulls k e' h)) = let f = nets.ground_kind s in absurd (cc)
  within_lead net a b g (opened clock k' h') other (inr (pulls k e h)) = let f = nets.ground_kind s in absurd (cc)
  within_lead net a b g (itself e) other (inr (fills clock k h s)) = absurd (cc)
  within_lead net a b g (opened clock' k' h') other (inr (fills clock k h s)) = itself (cc)

  -- the group of a gate is within it
  pub within : (net a m : ℕ) → kind net ≡ gate → Within kind v net a → Grouped circuit drives v a m → Within kind v net m
  within net _ _ g w (here a) = w
  within net _ _ g w (step a b m j f r) =
      within net b m g (within_lead net a b g w (nets.free_kind s b f) (leads a b j)) r

  -- from a gate's group only its own pull-downs lead to a fixed net
  gate_source : (net a to : ℕ) → kind net ≡ gate → Within kind v net a → kind to ≡ fixed
      → Leads ground kind circuit.devices v a to ⊎ Leads ground kind circuit.devices v to a
      → pulls_down ground circuit.devices v net ≡ true
  gate_source net a to g (itself e) f (inl (pulls k e' h)) = rw (← e) h
  gate_source net a to g (opened clock k' h') f (inl (pulls k e' h)) = absurd (cc)
  gate_source net a to g w f (inl (fills clock k h s)) = absurd (cc)
  gate_source net a to g w f (inr (pulls k e h)) = absurd (cc)
  gate_source net a to g (itself e) f (inr (fills clock k h s)) = absurd (cc)
  gate_source net a to g (opened clock' k' h') f (inr (fills clock k h s)) = absurd (cc)

  source_kind : (a : ℕ) (level : Bool) → (led : Source circuit drives v level a) → kind led.to ≡ fixed
  source_kind a level led =
      nets.fixed_kind s led.to level
      (joins_below circuit.nets v circuit.devices (recursion_from_All (NamesBelow circuit.nets) circuit.devices logic.below)
      led.from led.to led.joined)
      led.fixed

  -- a gate's group is pulled low by the gate's pull-downs alone
  pub gate_low : (net a : ℕ) → kind net ≡ gate → Within kind v net a → IsPulledLow circuit drives v a
      → pulls_down ground circuit.devices v net ≡ true
  gate_low net a g w low =
      gate_source net low.from low.to g (within net a low.from g w low.grouped) (source_kind a false low)
      (leads low.from low.to low.joined)

  -- an open storage node is joined to its source
  pub transfer_joins : (net clock source : ℕ) → net < circuit.nets → kind net ≡ stored clock source → v clock ≡ true
      → Joins circuit.devices v net source
  transfer_joins net clock source below k h =
      joins_back ground kind v circuit.devices source net
      (contained_joins ground kind v circuit.devices (record { 0 = clock }) (record { 0 = source }) (record { 0 = net })
      (logic.transfers net clock source below k) h)

  -- from every net of a gate's group the gate is in the group
  gate_reached : (net a : ℕ) → net < circuit.nets → a < circuit.nets → kind net ≡ gate → Within kind v net a
      → Grouped circuit drives v a net
  gate_reached net a below below' g (itself e) = rw e (here net)
  gate_reached net a below below' g (opened clock k h) =
      step a net net (transfer_joins a clock net below' k h) (nets.free_at s net below (λ f. cc)) (here net)

  -- pull-downs that conduct pull the whole group low
  pub low_gate : (net a : ℕ) → net < circuit.nets → a < circuit.nets → kind net ≡ gate → Within kind v net a
      → pulls_down ground circuit.devices v net ≡ true → IsPulledLow circuit drives v a
  low_gate net a below below' g w h = record {
    from = net;
    to = ground;
    grouped = gate_reached net a below below' g w;
    joined = pulls_joins ground kind v circuit.devices net h;
    fixed = nets.ground_level s;
  }

  -- a gate's load pulls the whole group high
  pub gate_high : (net a : ℕ) → net < circuit.nets → a < circuit.nets → kind net ≡ gate → Within kind v net a
      → IsPulledHigh circuit drives v a
  gate_high net a below below' g w =
      inr (record { at = net; grouped = gate_reached net a below below' g w; load = logic.loads net below g })

  -- a storage node that is closed, or open to a fixed net, is a group alone
  alone_lead : (net b clock source : ℕ) → kind net ≡ stored clock source → (v clock ≡ true → kind source ≡ fixed)
      → (kind b ≡ fixed → ⊥)
      → Leads ground kind circuit.devices v net b ⊎ Leads ground kind circuit.devices v b net → ⊥
  alone_lead net b clock source k led other (inl (pulls g e h)) = cc
  alone_lead net b clock source k led other (inl (fills clock' k' h (inl s))) = cc
  alone_lead net b clock source k led other (inl (fills clock' k' h (inr s))) = cc
  alone_lead net b clock source k led other (inr (pulls g e h)) = let f = nets.ground_kind s in cc
  alone_lead net b clock source k led other (inr (fills clock' k' h s)) =
      let same : clock' ≡ clock = cc in
      let f : kind source ≡ fixed = led (rw (← same) h) in
      other (cc)

  pub alone : (net m clock source : ℕ) → kind net ≡ stored clock source → (v clock ≡ true → kind source ≡ fixed)
      → Grouped circuit drives v net m → m ≡ net
  alone _ _ clock source k led (here a) = refl
  alone _ _ clock source k led (step a b m j f r) =
      absurd (alone_lead a b clock source k led (nets.free_kind s b f) (leads a b j))

  -- only its own source leads to such a storage node
  alone_source : (net to clock source : ℕ) → kind net ≡ stored clock source → kind to ≡ fixed
      → Leads ground kind circuit.devices v net to ⊎ Leads ground kind circuit.devices v to net
      → (to ≡ source) × (v clock ≡ true)
  alone_source net to clock source k f (inl (pulls g e h)) = absurd (cc)
  alone_source net to clock source k f (inl (fills clock' k' h s)) = absurd (cc)
  alone_source net to clock source k f (inr (pulls g e h)) = absurd (cc)
  alone_source net to clock source k f (inr (fills clock' k' h s)) =
      let same : clock' ≡ clock = cc in (cc, rw (← same) h)

  pub alone_level : (net clock source : ℕ) (level : Bool) → kind net ≡ stored clock source
      → (v clock ≡ true → kind source ≡ fixed) → Source circuit drives v level net
      → (fixed_level circuit.pads drives source ≡ Some level) × (v clock ≡ true)
  alone_level net clock source level k led h =
      let e = alone net h.from clock source k led h.grouped in
      let ends = alone_source h.from h.to clock source (rw e k) (source_kind net level h) (leads h.from h.to h.joined) in
      (rw (← ends.0) h.fixed, ends.1)

  -- and no load
  pub alone_loaded : (net clock source : ℕ) → kind net ≡ stored clock source → (v clock ≡ true → kind source ≡ fixed)
      → Loaded circuit drives v net → ⊥
  alone_loaded net clock source k led l =
      let e = alone net l.at clock source k led l.grouped in
      let g = load_gate ground kind circuit.devices
      (recursion_from_All (IsLogicDevice ground kind) circuit.devices logic.devices) l.at l.load in
      cc

  -- nothing leads to an isolated net, or from it
  isolated_lead : (net b : ℕ) → kind net ≡ isolated
      → Leads ground kind circuit.devices v net b ⊎ Leads ground kind circuit.devices v b net → ⊥
  isolated_lead net b k (inl (pulls g e h)) = cc
  isolated_lead net b k (inl (fills clock k' h (inl s))) = cc
  isolated_lead net b k (inl (fills clock k' h (inr s))) = cc
  isolated_lead net b k (inr (pulls g e h)) = let f = nets.ground_kind s in cc
  isolated_lead net b k (inr (fills clock k' h s)) = cc

  pub isolated_alone : (net m : ℕ) → kind net ≡ isolated → Grouped circuit drives v net m → m ≡ net
  isolated_alone _ _ k (here a) = refl
  isolated_alone _ _ k (step a b m j f r) = absurd (isolated_lead a b k (leads a b j))

  pub isolated_unled : (net : ℕ) (level : Bool) → kind net ≡ isolated → Source circuit drives v level net → ⊥
  isolated_unled net level k h =
      let e = isolated_alone net h.from k h.grouped in
      isolated_lead h.from h.to (rw e k) (leads h.from h.to h.joined)

  pub isolated_unloaded : (net : ℕ) → kind net ≡ isolated → Loaded circuit drives v net → ⊥
  isolated_unloaded net k l =
      let e = isolated_alone net l.at k l.grouped in
      let g = load_gate ground kind circuit.devices
      (recursion_from_All (IsLogicDevice ground kind) circuit.devices logic.devices) l.at l.load in
      cc
