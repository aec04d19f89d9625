-- What holds of the nets that are not due stays so when nets are told whose devices' ends are due then.
use Rattle.std.proofs.Common.{◌≡◌, ◌≢◌, ◌⊎◌, inl, inr, ℕ, ◌<◌, Bool, true, false, List, Option, Some, get_or, refl, sym, ap, ◌∙◌, subst}
use Rattle.switch_net.specs.Circuit.{Circuit}
use Rattle.switch_net.specs.LeastLevels.{Tells, IsRefinedBy}
use Rattle.switch_net.specs.LeastLevels.Tells.{pulled_low, rises, keeps}
use Rattle.switch_net.specs.Settling.{Values, fixed_level, Joins, IsFree, Grouped, Source, IsPulledHigh}
use Rattle.switch_net.specs.Settling.Grouped.{here, step}
use Rattle.switch_net.specs.Ternary.{is_high, may_be_high, sure, possible}
use Rattle.switch_net.specs.declared.network.Device.{Device}
use Rattle.switch_net.specs.declared.network.Level.{Level}
use Rattle.switch_net.specs.declared.network.Level.TheVariants.{Low, High, Unknown}
use Rattle.switch_sim.specs.DueNets.{LeadsLow, IsHeld, IsWoken, AllAreWoken, IsQuiet, AreHandled}
use Rattle.switch_sim.specs.Incidence.{one_end, other_end}
use Rattle.switch_sim.specs.Simulation.{level_at}
use Rattle.switch_sim.specs.Waiting.{Waits}
use Rattle.switch_sim.proofs.AtGates.{AtGate, at_gate}
use Rattle.switch_sim.proofs.DueNets.{same_level}
use Rattle.switch_sim.proofs.RightlyTold.{join, turn, group_is_free}

sure_is_possible : (l : Level) → is_high l ≡ true → may_be_high l ≡ true
sure_is_possible High e = refl
sure_is_possible Low e = absurd (cc)
sure_is_possible Unknown e = absurd (cc)

-- ---- from levels to those after nets were told

module _ (circuit : Circuit) (drives : List Bool) (old new : List Level) (seen : List Bool) (woken : AllAreWoken circuit drives old new seen) where
  abbrev D : List Device
  D = circuit.devices

  -- the end of a device whose gate was told
  end_woken : (v : Values) (a b : ℕ) (r : AtGate D v a b) → level_at new r.gate ≢ level_at old r.gate → (get_or seen a false ≡ false → ⊥)
      → IsHeld circuit drives new r.gate a b
  end_woken v a b r differs calm =
      let both = woken r.gate differs r.at r.device r.within r.gated in
      elim r.ends [
        | inl e ↦ held (subst (λ k. IsWoken circuit drives new seen r.gate k b) e.0
            (subst (λ k. IsWoken circuit drives new seen r.gate (one_end (get_or D r.at r.device)) k) e.1 both.0))
        | inr e ↦ held (subst (λ k. IsWoken circuit drives new seen r.gate k b) e.0
            (subst (λ k. IsWoken circuit drives new seen r.gate (other_end (get_or D r.at r.device)) k) e.1 both.1))
      ]
    where
      held : IsWoken circuit drives new seen r.gate a b → IsHeld circuit drives new r.gate a b
      held (inl due) = absurd (calm due)
      held (inr h) = h

  -- a device at a net that is not due may conduct as before, or it led to ground and another still does
  on_after : (a b : ℕ) → (get_or seen a false ≡ false → ⊥) → Joins D (possible (level_at old)) a b
      → Joins D (possible (level_at new)) a b ⊎ ((fixed_level circuit.pads drives b ≡ Some false) × LeadsLow circuit drives (possible (level_at new)) a)
  on_after a b calm j =
      let r = at_gate D (possible (level_at old)) a b j in
      elim (same_level (level_at new r.gate) (level_at old r.gate)) [
        | inl same ↦ inl (r.joins (possible (level_at new)) (ap may_be_high same ∙ r.on))
        | inr differs ↦ let h = end_woken (possible (level_at old)) a b r differs calm in inr (h.led, h.still)
      ]

  -- one that conducts for sure did so before
  on_before : (a b : ℕ) → (get_or seen a false ≡ false → ⊥) → Joins D (sure (level_at new)) a b → Joins D (sure (level_at old)) a b
  on_before a b calm j =
      let r = at_gate D (sure (level_at new)) a b j in
      elim (same_level (level_at new r.gate) (level_at old r.gate)) [
        | inl same ↦ r.joins (sure (level_at old)) (ap is_high (sym same) ∙ r.on)
        | inr differs ↦
            let h = end_woken (sure (level_at new)) a b r differs calm in
            let high : is_high Low ≡ true = subst (λ l. is_high l ≡ true) h.low r.on in
            absurd (cc)
      ]

  possibly : (a b : ℕ) → Joins D (sure (level_at new)) a b → Joins D (possible (level_at new)) a b
  possibly a b j =
      let r = at_gate D (sure (level_at new)) a b j in
      r.joins (possible (level_at new)) (sure_is_possible (level_at new r.gate) r.on)

  abbrev Quiet : ℕ → Type 0
  Quiet = IsQuiet circuit drives new seen

  calm_here : (a : ℕ) → IsFree circuit drives a → Quiet a → get_or seen a false ≡ false → ⊥
  calm_here a free quiet e = quiet a free e (here a)

  quiet_on : (a b : ℕ) → Joins D (possible (level_at new)) a b → IsFree circuit drives b → Quiet a → Quiet b
  quiet_on a b j free quiet other f e g = quiet other f e (step a b other j free g)

  quiet_at : (a m : ℕ) → Grouped circuit drives (possible (level_at new)) a m → Quiet a → Quiet m
  quiet_at a m g quiet other f e h = quiet other f e (join circuit drives (possible (level_at new)) a m other g h)

  -- ---- the possible group is the same
  possible_group : (a m : ℕ) → IsFree circuit drives a → Quiet a → Grouped circuit drives (possible (level_at old)) a m
      → Grouped circuit drives (possible (level_at new)) a m
  possible_group _ _ free quiet (here a) = here a
  possible_group _ _ free quiet (step a b m j f r) =
      elim (on_after a b (calm_here a free quiet) j) [
        | inl k ↦ step a b m k f (possible_group b m f (quiet_on a b k f quiet) r)
        | inr h ↦ absurd (let fixed = f.1 in let low = h.0 in cc)
      ]

  possible_source : (level : Bool) (a : ℕ) → IsFree circuit drives a → Quiet a → Source circuit drives (possible (level_at old)) level a
      → Source circuit drives (possible (level_at new)) level a
  possible_source level a free quiet s =
      let g = possible_group a s.from free quiet s.grouped in
      let f = group_is_free circuit drives (possible (level_at new)) a s.from free g in
      elim (on_after s.from s.to (calm_here s.from f (quiet_at a s.from g quiet)) s.joined) [
        | inl k ↦ record { from = s.from; to = s.to; grouped = g; joined = k; fixed = s.fixed }
        | inr h ↦
            let same : Some level ≡ Some false = sym s.fixed ∙ h.0 in
            let low : false ≡ level = cc in
            record { from = s.from; to = h.1.to; grouped = g; joined = h.1.joined; fixed = h.1.fixed ∙ ap some low }
      ]
    where
      some : Bool → Option Bool
      some b = Some b

  possible_high : (a : ℕ) → IsFree circuit drives a → Quiet a → IsPulledHigh circuit drives (possible (level_at old)) a
      → IsPulledHigh circuit drives (possible (level_at new)) a
  possible_high a free quiet (inl s) = inl (possible_source true a free quiet s)
  possible_high a free quiet (inr l) = inr (record { at = l.at; grouped = possible_group a l.at free quiet l.grouped; load = l.load })

  -- ---- and so is the sure group
  sure_group : (a m : ℕ) → IsFree circuit drives a → Quiet a → Grouped circuit drives (sure (level_at new)) a m
      → Grouped circuit drives (sure (level_at old)) a m × Grouped circuit drives (possible (level_at new)) a m
  sure_group _ _ free quiet (here a) = (here a, here a)
  sure_group _ _ free quiet (step a b m j f r) =
      let k = possibly a b j in
      let rest = sure_group b m f (quiet_on a b k f quiet) r in
      (step a b m (on_before a b (calm_here a free quiet) j) f rest.0, step a b m k f rest.1)

  sure_source : (level : Bool) (a : ℕ) → IsFree circuit drives a → Quiet a → Source circuit drives (sure (level_at new)) level a
      → Source circuit drives (sure (level_at old)) level a
  sure_source level a free quiet s =
      let g = sure_group a s.from free quiet s.grouped in
      let f = group_is_free circuit drives (possible (level_at new)) a s.from free g.1 in
      record {
        from = s.from;
        to = s.to;
        grouped = g.0;
        joined = on_before s.from s.to (calm_here s.from f (quiet_at a s.from g.1 quiet)) s.joined;
        fixed = s.fixed;
      }

  sure_high : (a : ℕ) → IsFree circuit drives a → Quiet a → IsPulledHigh circuit drives (sure (level_at new)) a
      → IsPulledHigh circuit drives (sure (level_at old)) a
  sure_high a free quiet (inl s) = inl (sure_source true a free quiet s)
  sure_high a free quiet (inr l) = inr (record { at = l.at; grouped = (sure_group a l.at free quiet l.grouped).0; load = l.load })

  -- ---- what a quiet net is told it was told before
  module _ (charges : List Level) where
    abbrev T : List Level → ℕ → Bool → Type 0
    T levels = Tells circuit drives (level_at charges) (level_at levels)

    told_before : (net : ℕ) → IsFree circuit drives net → Quiet net → (level : Bool) → T new net level → T old net level
    told_before net free quiet _ (pulled_low l) = pulled_low (sure_source false net free quiet l)
    told_before net free quiet _ (rises r) = rises (record {
      not_low = λ l. r.not_low (possible_source false net free quiet l);
      high = sure_high net free quiet r.high;
    })
    told_before net free quiet _ (keeps level k) = keeps level (record {
      not_low = λ l. k.not_low (possible_source false net free quiet l);
      not_high = λ h. k.not_high (possible_high net free quiet h);
      charge = λ m g. k.charge m (possible_group net m free quiet g);
    })

    module _ (seen_old : List Bool) (group : List ℕ) (only : (k : ℕ) → get_or seen k false ≡ true → (get_or seen_old k false ≡ true) ⊎ Waits group k)
        (closed : (k m : ℕ) → Waits group k → Grouped circuit drives (possible (level_at old)) k m → Waits group m)
        (none : (k : ℕ) → Waits group k → level_at new k ≡ Unknown → (level : Bool) → ¬ T old k level) where
      not_due : (net : ℕ) → IsFree circuit drives net → Quiet net → level_at new net ≡ Unknown → (level : Bool) → T old net level
          → IsQuiet circuit drives old seen_old net
      not_due net free quiet unknown level tells other f e g = by (get_or seen other false) refl
        where
          by : (b : Bool) → get_or seen other false ≡ b → ⊥
          by false due = quiet other f due (possible_group net other free quiet g)
          by true now =
              elim (only other now) [
                | inl before ↦ absurd (cc)
                | inr w ↦ none net (closed other net w (turn circuit drives (possible (level_at old)) net other free g)) unknown level tells
              ]

      pub handled_more : ((k : ℕ) → IsFree circuit drives k → level_at new k ≡ Unknown → level_at old k ≡ Unknown)
          → AreHandled circuit drives charges old seen_old → AreHandled circuit drives charges new seen
      handled_more unknown before net free quiet now level tells =
          let early = told_before net free quiet level tells in
          before net free (not_due net free quiet now level early) (unknown net free now) level early

-- a net that is unknown now was so before
pub was_unknown : (circuit : Circuit) (old new : List Level) → IsRefinedBy circuit (level_at old) (level_at new) → (net : ℕ) → net < circuit.nets
    → level_at new net ≡ Unknown → level_at old net ≡ Unknown
was_unknown circuit old new more net lt e = by (level_at old net) refl
  where
    by : (l : Level) → level_at old net ≡ l → l ≡ Unknown
    by Unknown is = refl
    by Low is = absurd (let now = more net false lt is in cc)
    by High is = absurd (let now = more net true lt is in cc)
