-- Which nets the devices of clocked logic join, and which have loads.
use Rattle.std.proofs.Common.{◌≡◌, ◌⊎◌, ℕ, suc, zero, ◌<◌, true, List, [], ◌∷◌, Contains, length, slice_index_or, refl, inl, inr, arith, eq-eqb, eqb-true}
use Rattle.std.proofs.lemmas.Bool.{or_cases, or_left, or_right, and_parts, and_from}
use Rattle.std.specs.List.{AllByRecursion}
use Rattle.switch_net.specs.ClockedLogic.{NetKind, IsLogicDevice, NamesBelow, pulls_down}
use Rattle.switch_net.specs.ClockedLogic.NetKind.{fixed, gate, stored}
use Rattle.switch_net.specs.Settling.{Values, Joins, HasLoad}
use Rattle.switch_net.specs.declared.network.Device.{Device}
use Rattle.switch_net.specs.declared.network.Device.TheVariants.{Pass, Load}
use Rattle.switch_net.specs.declared.network.Net.{Net}

-- A conducting device leads from the first net, which is no storage node, to the second: ground or a storage node.
pub data Leads (ground : ℕ) (kind : ℕ → NetKind) (devices : List Device) (v : Values) (a b : ℕ) : Type 0 where
  pulls : kind a ≡ gate → b ≡ ground → pulls_down ground devices v a ≡ true → Leads ground kind devices v a b
  fills : (clock : ℕ) → kind b ≡ stored clock a → v clock ≡ true → (kind a ≡ gate) ⊎ (kind a ≡ fixed)
      → Leads ground kind devices v a b

module _ (ground : ℕ) (kind : ℕ → NetKind) (v : Values) where
  pulls_later : (device : Device) (devices : List Device) (net : ℕ)
      → pulls_down ground devices v net ≡ true → pulls_down ground (device ∷ devices) v net ≡ true
  pulls_later (Load at) devices net h = h
  pulls_later (Pass input a b) devices net h = or_right _ _ h

  leads_later : (device : Device) (devices : List Device) (a b : ℕ)
      → Leads ground kind devices v a b → Leads ground kind (device ∷ devices) v a b
  leads_later device devices a b (pulls g e h) = pulls g e (pulls_later device devices a h)
  leads_later device devices a b (fills clock k h s) = fills clock k h s

  device_leads : (input a b : Net) (devices : List Device) → IsLogicDevice ground kind (Pass input a b) → v input.0 ≡ true
      → Leads ground kind (Pass input a b ∷ devices) v a.0 b.0
  device_leads input a b devices (inl h) high =
      pulls h.0 h.1 (or_left _ _ (and_from _ _ (and_from _ _ (eq-eqb a.0 a.0 refl) (eq-eqb b.0 ground h.1)) high))
  device_leads input a b devices (inr h) high = fills input.0 h.0 high h.2

  -- what joins two nets leads from one to the other
  pub joins_leads : (devices : List Device) → AllByRecursion (IsLogicDevice ground kind) devices → (a b : ℕ)
      → Joins devices v a b → Leads ground kind devices v a b ⊎ Leads ground kind devices v b a
  joins_leads [] all a b h = absurd h
  joins_leads (Load net ∷ devices) all a b h =
      elim (joins_leads devices all.1 a b h) [
        | inl l ↦ inl (leads_later (Load net) devices a b l)
        | inr l ↦ inr (leads_later (Load net) devices b a l)
      ]
  joins_leads (Pass input x y ∷ devices) all a b (inl h) =
      let l : Leads ground kind (Pass input x y ∷ devices) v x.0 y.0 = device_leads input x y devices all.0 h.0 in
      elim h.1 [
        | inl e ↦ inl (rw (← e.0, ← e.1) l)
        | inr e ↦ inr (rw (← e.0, ← e.1) l)
      ]
  joins_leads (Pass input x y ∷ devices) all a b (inr h) =
      elim (joins_leads devices all.1 a b h) [
        | inl l ↦ inl (leads_later (Pass input x y) devices a b l)
        | inr l ↦ inr (leads_later (Pass input x y) devices b a l)
      ]

  joins_later : (device : Device) (devices : List Device) (a b : ℕ) → Joins devices v a b → Joins (device ∷ devices) v a b
  joins_later (Load net) devices a b h = h
  joins_later (Pass input x y) devices a b h = inr h

  -- a pull-down that conducts joins its net to ground
  pub pulls_joins : (devices : List Device) (net : ℕ) → pulls_down ground devices v net ≡ true → Joins devices v net ground
  pulls_joins [] net h = absurd (cc)
  pulls_joins (Load at ∷ devices) net h = pulls_joins devices net h
  pulls_joins (Pass input a b ∷ devices) net h =
      elim (or_cases _ _ h) [
        | inl here ↦
            let parts = and_parts _ _ here in
            let ends = and_parts _ _ parts.0 in
            inl (parts.1, inl (eqb-true a.0 net ends.0, eqb-true b.0 ground ends.1))
        | inr later ↦ inr (pulls_joins devices net later)
      ]

  joins_at : (devices : List Device) (input a b : Net) (k : ℕ) → k < length devices
      → slice_index_or devices k (Pass input a b) ≡ Pass input a b → v input.0 ≡ true → Joins devices v a.0 b.0
  joins_at [] input a b k below e high = absurd (omega arith)
  joins_at (device ∷ devices) input a b zero below e high = rw e (inl (high, inl (refl, refl)))
  joins_at (device ∷ devices) input a b (suc k) below e high =
      joins_later device devices a.0 b.0 (joins_at devices input a b k (omega arith) e high)

  -- a pass device that conducts joins its ends
  pub contained_joins : (devices : List Device) (input a b : Net) → Contains devices (Pass input a b) → v input.0 ≡ true
      → Joins devices v a.0 b.0
  contained_joins devices input a b h high = joins_at devices input a b h.0 h.1 h.2 high

  pub joins_back : (devices : List Device) (a b : ℕ) → Joins devices v a b → Joins devices v b a
  joins_back [] a b h = h
  joins_back (Load net ∷ devices) a b h = joins_back devices a b h
  joins_back (Pass input x y ∷ devices) a b (inl h) =
      inl (h.0, elim h.1 [ inl e ↦ inr (e.1, e.0) | inr e ↦ inl (e.1, e.0) ])
  joins_back (Pass input x y ∷ devices) a b (inr h) = inr (joins_back devices a b h)

-- loads stand at gates
pub load_gate : (ground : ℕ) (kind : ℕ → NetKind) (devices : List Device) → AllByRecursion (IsLogicDevice ground kind) devices
    → (net : ℕ) → HasLoad devices net → kind net ≡ gate
load_gate ground kind [] all net h = absurd h
load_gate ground kind (Pass input a b ∷ devices) all net h = load_gate ground kind devices all.1 net h
load_gate ground kind (Load at ∷ devices) all net (inl e) = rw (← e) all.0
load_gate ground kind (Load at ∷ devices) all net (inr h) = load_gate ground kind devices all.1 net h

-- a device joins nets of the circuit alone
pub joins_below : (nets : ℕ) (v : Values) (devices : List Device) → AllByRecursion (NamesBelow nets) devices → (a b : ℕ)
    → Joins devices v a b → b < nets
joins_below nets v [] all a b h = absurd h
joins_below nets v (Load net ∷ devices) all a b h = joins_below nets v devices all.1 a b h
joins_below nets v (Pass input x y ∷ devices) all a b (inl h) =
    elim h.1 [ inl e ↦ rw (← e.1) all.0.2 | inr e ↦ rw (← e.1) all.0.1 ]
joins_below nets v (Pass input x y ∷ devices) all a b (inr h) = joins_below nets v devices all.1 a b h
