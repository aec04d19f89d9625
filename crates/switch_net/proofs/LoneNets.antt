-- Groups that do not leave a set of nets, and what a net settles to that is a group alone.
use Rattle.std.proofs.Common.{◌≡◌, ◌⊎◌, ℕ, Bool, true, false, List, Some, refl, ap, ◌∙◌, inl, inr}
use Rattle.switch_net.specs.Circuit.{Circuit}
use Rattle.switch_net.specs.Settling.{Values, fixed_level, Joins, HasLoad, IsFree, Grouped, IsPulledLow, IsPulledHigh, SettledAt}
use Rattle.switch_net.specs.Settling.Grouped.{here, step}

-- the level of a net that is a group alone: what pulls it, or its charge
abbrev pub lone_level : Bool → Bool → Bool → Bool
lone_level true high charge = false
lone_level false true charge = true
lone_level false false charge = charge

module _ (circuit : Circuit) (drives : List Bool) (v : Values) where
  -- a group stays within a set of nets that no conducting device leaves for a free net
  pub group_within : (P : ℕ → Type 0)
      → ((a b : ℕ) → P a → Joins circuit.devices v a b → IsFree circuit drives b → P b)
      → (a m : ℕ) → P a → Grouped circuit drives v a m → P m
  group_within P closed _ _ p (here a) = p
  group_within P closed _ _ p (step a b m j f r) = group_within P closed b m (closed a b p j f) r

  -- a conducting device leads from the net to one that is fixed at this level
  abbrev pub Leads : Bool → ℕ → Type 0
  Leads level net = (to : ℕ) × Joins circuit.devices v net to × (fixed_level circuit.pads drives to ≡ Some level)

  -- no conducting device leads from the net to a free one; two tests say what pulls it
  pub record LoneNet (net : ℕ) (low high : Bool) : Type 0 where
    pub alone : (b : ℕ) → Joins circuit.devices v net b → IsFree circuit drives b → ⊥
    pub is_low : Leads false net → low ≡ true
    pub low_leads : low ≡ true → Leads false net
    pub is_high : Leads true net ⊎ HasLoad circuit.devices net → high ≡ true
    pub high_leads : high ≡ true → Leads true net ⊎ HasLoad circuit.devices net

  -- nothing leads from the net, and it has no load
  pub idle : (net : ℕ) → ((b : ℕ) → Joins circuit.devices v net b → ⊥) → (HasLoad circuit.devices net → ⊥) → LoneNet net false false
  idle net unjoined unloaded = record {
    alone = λ b j _. unjoined b j;
    is_low = λ led. absurd (unjoined led.0 led.1);
    low_leads = λ e. absurd (cc);
    is_high = λ led. elim led [ inl l ↦ absurd (unjoined l.0 l.1) | inr load ↦ absurd (unloaded load) ];
    high_leads = λ e. absurd (cc);
  }

  pub group_alone : (net m : ℕ) (low high : Bool) → LoneNet net low high → Grouped circuit drives v net m → m ≡ net
  group_alone _ _ low high lone (here a) = refl
  group_alone _ _ low high lone (step a b m j f r) = absurd (lone.alone b j f)

  module _ (net : ℕ) (low high : Bool) (lone : LoneNet net low high) where
    pulled_low : low ≡ true → IsPulledLow circuit drives v net
    pulled_low e =
        let led = lone.low_leads e in
        record { from = net; to = led.0; grouped = here net; joined = led.1; fixed = led.2 }

    low_pulled : IsPulledLow circuit drives v net → low ≡ true
    low_pulled led =
        let e = group_alone net led.from low high lone led.grouped in
        lone.is_low (led.to, rw e at led.joined, led.fixed)

    pulled_high : high ≡ true → IsPulledHigh circuit drives v net
    pulled_high e =
        elim (lone.high_leads e) [
          | inl led ↦ inl (record { from = net; to = led.0; grouped = here net; joined = led.1; fixed = led.2 })
          | inr load ↦ inr (record { at = net; grouped = here net; load = load })
        ]

    high_pulled : IsPulledHigh circuit drives v net → high ≡ true
    high_pulled (inl led) =
        let e = group_alone net led.from low high lone led.grouped in
        lone.is_high (inl (led.to, rw e at led.joined, led.fixed))
    high_pulled (inr loaded) =
        let e = group_alone net loaded.at low high lone loaded.grouped in
        lone.is_high (inr (rw e at loaded.load))

  pub settled_lone : (q : Values) (net : ℕ) (low high : Bool) → LoneNet net low high → SettledAt circuit drives q v net
      → v net ≡ lone_level low high (q net)
  settled_lone q net true high lone s = s.low (pulled_low net true high lone refl)
  settled_lone q net false true lone s =
      s.high (λ led. let e = low_pulled net false true lone led in cc) (pulled_high net false true lone refl)
  settled_lone q net false false lone s =
      s.kept (λ led. let e = low_pulled net false false lone led in cc)
      (λ led. let e = high_pulled net false false lone led in cc)
      (q net) (λ m g. ap q (group_alone net m false false lone g))

  pub lone_settled : (q : Values) (net : ℕ) (low high : Bool) → LoneNet net low high → v net ≡ lone_level low high (q net)
      → SettledAt circuit drives q v net
  lone_settled q net true high lone e =
      let low = pulled_low net true high lone refl in
      record {
        low = λ _. e;
        high = λ not_low _. absurd (not_low low);
        kept = λ not_low _ _ _. absurd (not_low low);
        alike = λ not_low _ _ _. absurd (not_low low);
      }
  lone_settled q net false true lone e =
      let high = pulled_high net false true lone refl in
      record {
        low = λ led. let is = low_pulled net false true lone led in absurd (cc);
        high = λ _ _. e;
        kept = λ _ not_high _ _. absurd (not_high high);
        alike = λ _ not_high _ _. absurd (not_high high);
      }
  lone_settled q net false false lone e =
      record {
        low = λ led. let is = low_pulled net false false lone led in absurd (cc);
        high = λ _ led. let is = high_pulled net false false lone led in absurd (cc);
        kept = λ _ _ level had. e ∙ had net (here net);
        alike = λ _ _ m g. ap v (group_alone net m false false lone g);
      }
