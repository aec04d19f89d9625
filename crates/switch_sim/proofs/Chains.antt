-- One more device in the chains of its nets.
use Rattle.std.proofs.Common.{◌≡◌, ◌≢◌, ◌⊎◌, inl, inr, ℕ, zero, ◌<◌, ◌+◌, arith, sym, subst, ◌∙◌, List, length, get_or, get_or-set_same, get_or-set_other}
use Rattle.std.proofs.Math.ListN.{set}
use Rattle.std.proofs.lemmas.Bool.{cases_eq}
use Rattle.std.proofs.lemmas.List.{get_or_default}
use Rattle.switch_net.specs.ClockedLogic.{NamesBelow}
use Rattle.switch_net.specs.declared.network.Device.{Device}
use Rattle.switch_net.specs.declared.network.Device.TheVariants.{Pass, Load}
use Rattle.switch_sim.specs.declared.incidence.Earlier.{Earlier}
use Rattle.switch_sim.specs.Incidence.{one_end, other_end, EndsAt, IsLeastAbove, AreLast, AreEarlier}

-- the device that is read behind the end of a list
abbrev pub nowhere : Device
nowhere = Pass (record { 0 = zero }) (record { 0 = zero }) (record { 0 = zero })

pub one_below : (n : ℕ) (d : Device) → NamesBelow n d → one_end d < n
one_below n (Load net) below = below
one_below n (Pass gate a b) below = below.1

pub other_below : (n : ℕ) (d : Device) → NamesBelow n d → other_end d < n
other_below n (Load net) below = below
other_below n (Pass gate a b) below = below.2

ends_or_not : (d : Device) (net : ℕ) → EndsAt d net ⊎ (EndsAt d net → ⊥)
ends_or_not d net =
    elim (cases_eq (one_end d) net) [
      | inl e ↦ inl (inl e)
      | inr one ↦
          elim (cases_eq (other_end d) net) [
            | inl e ↦ inl (inr e)
            | inr other ↦ inr (λ h. elim h [ inl e ↦ one e | inr e ↦ other e ])
          ]
    ]

pub other_one : (d : Device) (net : ℕ) → EndsAt d net → (one_end d ≡ net → ⊥) → other_end d ≡ net
other_one d net (inl e) apart = absurd (apart e)
other_one d net (inr e) apart = e

-- no device is in a chain yet
pub none_last : (devices : List Device) (last : List ℕ) → ((net : ℕ) → get_or last net 0 ≡ 0) → AreLast devices 0 last
none_last devices last begun net lt = record {
  most = rw (begun net) (omega arith);
  above = λ d x below h. absurd (omega arith);
  at = λ d x e. let none = begun net in absurd (omega (arith, none, e));
}

module _ (devices : List Device) (at : ℕ) (x : Device) (within : at < length devices) (last : List ℕ) (before : AreLast devices at last) where
  -- the device by another default
  moved : (d : ℕ) (y : Device) (net : ℕ) → d ≡ at → EndsAt (get_or devices d y) net → EndsAt (get_or devices at x) net
  moved d y net same h =
      subst (λ device. EndsAt device net) (get_or_default devices at y x within) (subst (λ k. EndsAt (get_or devices k y) net) same h)

  moved_back : (d : ℕ) (y : Device) (net : ℕ) → d ≡ at → EndsAt (get_or devices at x) net → EndsAt (get_or devices d y) net
  moved_back d y net same h =
      subst (λ k. EndsAt (get_or devices k y) net) (sym same) (subst (λ device. EndsAt device net) (get_or_default devices at x y within) h)

  pub last_more : (last_new : List ℕ) → ((net : ℕ) → EndsAt (get_or devices at x) net → get_or last_new net 0 ≡ at + 1)
      → ((net : ℕ) → (EndsAt (get_or devices at x) net → ⊥) → get_or last_new net 0 ≡ get_or last net 0)
      → length last_new ≡ length last → AreLast devices (at + 1) last_new
  last_more last_new here rest size net lt = by (ends_or_not (get_or devices at x) net)
    where
      by : EndsAt (get_or devices at x) net ⊎ (EndsAt (get_or devices at x) net → ⊥) → IsLeastAbove devices (at + 1) net (get_or last_new net 0)
      by (inl h) = record {
        most = rw (here net h) (omega arith);
        above = λ d y below e. rw (here net h) below;
        at = λ d y e. let now = here net h in moved_back d y net (omega (arith, now, e)) h;
      }
      by (inr away) =
          let old : IsLeastAbove devices at net (get_or last net 0) = before net (omega (arith, size)) in
          record {
            most = rw (rest net away) (let most = old.most in omega arith);
            above = λ d y below h. rw (rest net away) (elim (cases_eq d at) [
              | inl same ↦ absurd (away (moved d y net same h))
              | inr apart ↦ old.above d y (omega arith) h
            ]);
            at = λ d y e. old.at d y (sym (rest net away) ∙ e);
          }

  pub earlier_more : (earlier : List Earlier) (new : Earlier) → at < length earlier
      → one_end (get_or devices at x) < length last → other_end (get_or devices at x) < length last
      → new.at_one ≡ get_or last (one_end (get_or devices at x)) 0 → new.at_other ≡ get_or last (other_end (get_or devices at x)) 0
      → AreEarlier devices at earlier → AreEarlier devices (at + 1) (set earlier at new)
  earlier_more earlier new room one_lt other_lt one other olds d y e below = by (cases_eq d at)
    where
      Both : ℕ → Device → Earlier → Type 0
      Both k device link = IsLeastAbove devices k (one_end device) link.at_one × IsLeastAbove devices k (other_end device) link.at_other

      here : Both at (get_or devices at x) new
      here = (
        subst (IsLeastAbove devices at (one_end (get_or devices at x))) (sym one) (before (one_end (get_or devices at x)) one_lt),
        subst (IsLeastAbove devices at (other_end (get_or devices at x))) (sym other) (before (other_end (get_or devices at x)) other_lt),
      )

      by : (d ≡ at) ⊎ (d ≢ at) → Both d (get_or devices d y) (get_or (set earlier at new) d e)
      by (inl same) =
          subst (λ k. Both k (get_or devices k y) (get_or (set earlier at new) k e)) (sym same)
          (subst (λ link. Both at (get_or devices at y) link) (sym (get_or-set_same earlier at new e room))
          (subst (λ device. Both at device new) (get_or_default devices at x y within) here))
      by (inr apart) =
          subst (λ link. Both d (get_or devices d y) link) (sym (get_or-set_other earlier at d new e apart)) (olds d y e (omega arith))
