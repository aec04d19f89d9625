-- A device that joins two nets, and its gate.
use Rattle.std.proofs.Common.{◌≡◌, ◌⊎◌, inl, inr, ℕ, suc, ◌<◌, true, List, [], ◌∷◌, length, get_or, refl, arith}
use Rattle.switch_net.specs.Settling.{Values, Joins}
use Rattle.switch_net.specs.declared.network.Device.{Device}
use Rattle.switch_net.specs.declared.network.Device.TheVariants.{Pass, Load}
use Rattle.switch_sim.specs.Gating.{IsGatedBy}
use Rattle.switch_sim.specs.Incidence.{one_end, other_end}

pub record AtGate (devices : List Device) (v : Values) (a b : ℕ) : Type 0 where
  pub gate : ℕ
  pub on : v gate ≡ true
  pub at : ℕ
  pub device : Device
  pub within : at < length devices
  pub gated : IsGatedBy (get_or devices at device) gate
  pub ends : ((one_end (get_or devices at device) ≡ a) × (other_end (get_or devices at device) ≡ b))
      ⊎ ((other_end (get_or devices at device) ≡ a) × (one_end (get_or devices at device) ≡ b))
  pub joins : (w : Values) → w gate ≡ true → Joins devices w a b

pub at_gate : (devices : List Device) (v : Values) (a b : ℕ) → Joins devices v a b → AtGate devices v a b
at_gate [] v a b h = absurd h
at_gate (Load net ∷ devices) v a b h =
    let r = at_gate devices v a b h in
    record {
      gate = r.gate;
      on = r.on;
      at = suc r.at;
      device = r.device;
      within = let lt = r.within in omega arith;
      gated = r.gated;
      ends = r.ends;
      joins = r.joins;
    }
at_gate (Pass gate x y ∷ devices) v a b (inl h) = record {
  gate = gate.0;
  on = h.0;
  at = 0;
  device = Pass gate x y;
  within = omega arith;
  gated = refl;
  ends = h.1;
  joins = λ w on. inl (on, h.1);
}
at_gate (Pass gate x y ∷ devices) v a b (inr h) =
    let r = at_gate devices v a b h in
    record {
      gate = r.gate;
      on = r.on;
      at = suc r.at;
      device = r.device;
      within = let lt = r.within in omega arith;
      gated = r.gated;
      ends = r.ends;
      joins = λ w on. inr (r.joins w on);
    }
