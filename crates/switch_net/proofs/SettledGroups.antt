-- Groups of free nets, and what settled values make of them.
use Rattle.std.proofs.Common.{◌≡◌, ◌⊎◌, ℕ, Bool, true, false, List, refl, sym, ◌∙◌, inl, inr}
use Rattle.switch_net.proofs.LogicDevices.{joins_back}
use Rattle.switch_net.specs.Circuit.{Circuit}
use Rattle.switch_net.specs.ClockedLogic.NetKind.{fixed}
use Rattle.switch_net.specs.Settling.{Values, IsFree, Grouped, IsPulledLow, IsPulledHigh, SettledAt}
use Rattle.switch_net.specs.Settling.Grouped.{here, step}
use Rattle.switch_net.specs.SettlingLaws.{FixedNetsAreDriven, GroupsAreAlike, PulledValuesForgetCharges}

-- levels that cannot differ are the same
stable : (a b : Bool) → ((a ≡ b → ⊥) → ⊥) → a ≡ b
stable true true h = refl
stable true false h = absurd (h (λ e. cc))
stable false true h = absurd (h (λ e. cc))
stable false false h = refl

module _ (circuit : Circuit) (drives : List Bool) (v : Values) where
  abbrev Group : ℕ → ℕ → Type 0
  Group = Grouped circuit drives v

  pub group_free : (a m : ℕ) → IsFree circuit drives a → Group a m → IsFree circuit drives m
  group_free _ _ free (here a) = free
  group_free _ _ free (step a b m j f r) = group_free b m f r

  group_join : (a b c : ℕ) → Group a b → Group b c → Group a c
  group_join _ _ c (here a) more = more
  group_join _ _ c (step a b m j f r) more = step a b c j f (group_join b m c r more)

  group_back : (a m : ℕ) → IsFree circuit drives a → Group a m → Group m a
  group_back _ _ free (here a) = here a
  group_back _ _ free (step a b m j f r) =
      group_join m b a (group_back b m f r) (step b a a (joins_back 0 (λ _. fixed) v circuit.devices a b j) free (here a))

  -- what pulls a net pulls its group
  low_grouped : (a m : ℕ) → Group m a → IsPulledLow circuit drives v a → IsPulledLow circuit drives v m
  low_grouped a m back led = record {
    from = led.from;
    to = led.to;
    grouped = group_join m a led.from back led.grouped;
    joined = led.joined;
    fixed = led.fixed;
  }

  high_grouped : (a m : ℕ) → Group m a → IsPulledHigh circuit drives v a → IsPulledHigh circuit drives v m
  high_grouped a m back (inl led) = inl (record {
    from = led.from;
    to = led.to;
    grouped = group_join m a led.from back led.grouped;
    joined = led.joined;
    fixed = led.fixed;
  })
  high_grouped a m back (inr loaded) =
      inr (record { at = loaded.at; grouped = group_join m a loaded.at back loaded.grouped; load = loaded.load })

pub groups_are_alike : GroupsAreAlike
groups_are_alike circuit drives q v s net m free group =
    stable (v m) (v net) (λ differ.
    let back = group_back circuit drives v net m free group in
    let here' = s.free net free in
    let there = s.free m (group_free circuit drives v net m free group) in
    let unpulled : IsPulledLow circuit drives v net → ⊥ =
    λ low. differ (there.low (low_grouped circuit drives v net m back low) ∙ sym (here'.low low)) in
    let unpulled' : IsPulledLow circuit drives v m → ⊥ =
    λ low. unpulled (low_grouped circuit drives v m net group low) in
    let unheld : IsPulledHigh circuit drives v net → ⊥ =
    λ high. differ
    (there.high unpulled' (high_grouped circuit drives v net m back high) ∙ sym (here'.high unpulled high)) in
    differ (here'.alike unpulled unheld m group))

pub fixed_nets_are_driven : FixedNetsAreDriven
fixed_nets_are_driven circuit drives q v s = s.fixed

-- a net that is pulled does not look at charges
pulled_forgets : (circuit : Circuit) (drives : List Bool) (q r v : Values) (net : ℕ)
    → IsPulledLow circuit drives v net ⊎ IsPulledHigh circuit drives v net
    → SettledAt circuit drives q v net → SettledAt circuit drives r v net
pulled_forgets circuit drives q r v net (inl low) s = record {
  low = s.low;
  high = s.high;
  kept = λ not_low _ _ _. absurd (not_low low);
  alike = s.alike;
}
pulled_forgets circuit drives q r v net (inr high) s = record {
  low = s.low;
  high = s.high;
  kept = λ _ not_high _ _. absurd (not_high high);
  alike = s.alike;
}

pub pulled_values_forget_charges : PulledValuesForgetCharges
pulled_values_forget_charges circuit drives q r v pulled s = record {
  fixed = s.fixed;
  free = λ net free. pulled_forgets circuit drives q r v net (pulled net free) (s.free net free);
}
