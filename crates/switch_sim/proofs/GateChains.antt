-- One more device in the chain of its gate.
use Rattle.std.proofs.Common.{◌≡◌, ◌≢◌, ◌⊎◌, inl, inr, ℕ, ◌<◌, ◌+◌, arith, sym, subst, ◌∙◌, List, length, get_or, get_or-set_same, get_or-set_other}
use Rattle.std.proofs.Math.ListN.{set}
use Rattle.std.proofs.lemmas.Bool.{cases_eq}
use Rattle.std.proofs.lemmas.List.{get_or_default}
use Rattle.switch_net.specs.ClockedLogic.{NamesBelow}
use Rattle.switch_net.specs.declared.network.Device.{Device}
use Rattle.switch_net.specs.declared.network.Device.TheVariants.{Pass, Load}
use Rattle.switch_sim.specs.Gating.{IsGatedBy, IsLeastGated, AreLastGated, AreEarlierGated}

gated_or_not : (d : Device) (net : ℕ) → IsGatedBy d net ⊎ (IsGatedBy d net → ⊥)
gated_or_not (Load at) net = inr (λ h. h)
gated_or_not (Pass gate a b) net = cases_eq gate.0 net

pub gate_below : (n : ℕ) (d : Device) → NamesBelow n d → (net : ℕ) → IsGatedBy d net → net < n
gate_below n (Load at) below net h = absurd h
gate_below n (Pass gate a b) below net h = subst (λ k. k < n) h below.0

-- no device is in a chain yet
pub none_last : (devices : List Device) (last : List ℕ) → ((net : ℕ) → get_or last net 0 ≡ 0) → AreLastGated devices 0 last
none_last devices last begun net lt = record {
  most = rw (begun net) (omega arith);
  above = λ d x below h. absurd (omega arith);
  at = λ d x e. let none = begun net in absurd (omega (arith, none, e));
}

module _ (devices : List Device) (at : ℕ) (x : Device) (within : at < length devices) (last : List ℕ) (before : AreLastGated devices at last) where
  -- the device by another default
  moved : (d : ℕ) (y : Device) (net : ℕ) → d ≡ at → IsGatedBy (get_or devices d y) net → IsGatedBy (get_or devices at x) net
  moved d y net same h =
      subst (λ device. IsGatedBy device net) (get_or_default devices at y x within) (subst (λ k. IsGatedBy (get_or devices k y) net) same h)

  moved_back : (d : ℕ) (y : Device) (net : ℕ) → d ≡ at → IsGatedBy (get_or devices at x) net → IsGatedBy (get_or devices d y) net
  moved_back d y net same h =
      subst (λ k. IsGatedBy (get_or devices k y) net) (sym same) (subst (λ device. IsGatedBy device net) (get_or_default devices at x y within) h)

  pub last_more : (last_new : List ℕ) → ((net : ℕ) → IsGatedBy (get_or devices at x) net → get_or last_new net 0 ≡ at + 1)
      → ((net : ℕ) → (IsGatedBy (get_or devices at x) net → ⊥) → get_or last_new net 0 ≡ get_or last net 0)
      → length last_new ≡ length last → AreLastGated devices (at + 1) last_new
  last_more last_new here rest size net lt = by (gated_or_not (get_or devices at x) net)
    where
      by : IsGatedBy (get_or devices at x) net ⊎ (IsGatedBy (get_or devices at x) net → ⊥) → IsLeastGated devices (at + 1) net (get_or last_new net 0)
      by (inl h) = record {
        most = rw (here net h) (omega arith);
        above = λ d y below e. rw (here net h) below;
        at = λ d y e. let now = here net h in moved_back d y net (omega (arith, now, e)) h;
      }
      by (inr away) =
          let old : IsLeastGated devices at net (get_or last net 0) = before net (omega (arith, size)) in
          record {
            most = rw (rest net away) (let most = old.most in omega arith);
            above = λ d y below h. rw (rest net away) (elim (cases_eq d at) [
              | inl same ↦ absurd (away (moved d y net same h))
              | inr apart ↦ old.above d y (omega arith) h
            ]);
            at = λ d y e. old.at d y (sym (rest net away) ∙ e);
          }

  pub earlier_more : (earlier : List ℕ) (new : ℕ) → at < length earlier
      → ((net : ℕ) → IsGatedBy (get_or devices at x) net → net < length last)
      → ((net : ℕ) → IsGatedBy (get_or devices at x) net → new ≡ get_or last net 0)
      → AreEarlierGated devices at earlier → AreEarlierGated devices (at + 1) (set earlier at new)
  earlier_more earlier new room lt is olds d y net below gated = by (cases_eq d at)
    where
      by : (d ≡ at) ⊎ (d ≢ at) → IsLeastGated devices d net (get_or (set earlier at new) d 0)
      by (inl same) =
          let here = moved d y net same gated in
          subst (λ k. IsLeastGated devices k net (get_or (set earlier at new) k 0)) (sym same)
          (subst (IsLeastGated devices at net) (sym (get_or-set_same earlier at new 0 room ∙ is net here)) (before net (lt net here)))
      by (inr apart) = subst (IsLeastGated devices d net) (sym (get_or-set_other earlier at d new 0 apart)) (olds d y net (omega arith) gated)
