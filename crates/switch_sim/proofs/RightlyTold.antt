-- What the nets of a group are told.
use Rattle.std.proofs.Common.{◌≡◌, ◌≢◌, ◌⊎◌, inl, inr, ℕ, suc, ◌+◌, ◌<◌, ◌≤◌, not, Bool, true, false, if◌then◌else◌, List, [], ◌∷◌, Option, Some, None, length, get_or, get_or-set_same, get_or-set_other, refl, sym, ap, ◌∙◌, subst, arith}
use Rattle.std.proofs.lemmas.Bool.{cases_eq}
use Rattle.switch_net.specs.Circuit.{Circuit}
use Rattle.switch_net.specs.LeastLevels.{Tells}
use Rattle.switch_net.specs.LeastLevels.Tells.{pulled_low, rises, keeps}
use Rattle.switch_net.specs.Settling.{Values, Joins, HasLoad, IsFree, Grouped, Source, IsPulledLow, IsPulledHigh}
use Rattle.switch_net.specs.Settling.Grouped.{here, step}
use Rattle.switch_net.specs.Ternary.{sure, possible, KeepsCharge}
use Rattle.switch_net.specs.declared.network.Device.{Device}
use Rattle.switch_net.specs.declared.network.Device.TheVariants.{Pass, Load}
use Rattle.switch_net.specs.declared.network.Level.{Level}
use Rattle.switch_net.specs.declared.network.Level.TheVariants.{Low, High, Unknown}
use Rattle.std.proofs.Math.ListN.{set}
use Rattle.switch_sim.proofs.Grouping.{waits_number, number_waits}
use Rattle.switch_sim.specs.Grouping.{conducts, lit, IsMet, IsFollowed, IsExplored, HasOther, told_by, IsRightlyTold, told_at, AreRight}
use Rattle.switch_sim.specs.Simulation.{level_at}
use Rattle.switch_sim.specs.Waiting.{Waits}
use Rattle.switch_sim.specs.declared.group.Conduct.{Conduct}
use Rattle.switch_sim.specs.declared.group.Conduct.TheVariants as which
use Rattle.switch_sim.specs.declared.group.Findings.{Findings}
use Rattle.switch_sim.specs.declared.group.Sight.{Sight}

-- ---- groups

joins_back : (devices : List Device) (v : Values) (a b : ℕ) → Joins devices v a b → Joins devices v b a
joins_back [] v a b h = h
joins_back (Load net ∷ devices) v a b h = joins_back devices v a b h
joins_back (Pass gate x y ∷ devices) v a b (inl h) = inl (h.0, elim h.1 [ inl e ↦ inr (e.1, e.0) | inr e ↦ inl (e.1, e.0) ])
joins_back (Pass gate x y ∷ devices) v a b (inr h) = inr (joins_back devices v a b h)

module _ (circuit : Circuit) (drives : List Bool) (v : Values) where
  abbrev Group : ℕ → ℕ → Type 0
  Group = Grouped circuit drives v

  pub join : (a b c : ℕ) → Group a b → Group b c → Group a c
  join _ _ c (here a) more = more
  join _ _ c (step a b m j f r) more = step a b c j f (join b m c r more)

  pub turn : (a m : ℕ) → IsFree circuit drives a → Group a m → Group m a
  turn _ _ free (here a) = here a
  turn _ _ free (step a b m j f r) = join m b a (turn b m f r) (step b a a (joins_back circuit.devices v a b j) free (here a))

  pub group_is_free : (a m : ℕ) → IsFree circuit drives a → Group a m → IsFree circuit drives m
  group_is_free _ _ free (here a) = free
  group_is_free _ _ free (step a b m j f r) = group_is_free b m f r

  pub source_from : (level : Bool) (a m : ℕ) → Group m a → Source circuit drives v level a → Source circuit drives v level m
  source_from level a m g s = record { from = s.from; to = s.to; grouped = join m a s.from g s.grouped; joined = s.joined; fixed = s.fixed }

  pub high_from : (a m : ℕ) → Group m a → IsPulledHigh circuit drives v a → IsPulledHigh circuit drives v m
  high_from a m g (inl s) = inl (source_from true a m g s)
  high_from a m g (inr l) = inr (record { at = l.at; grouped = join m a l.at g l.grouped; load = l.load })

-- ---- devices that were all followed

module _ (sight : Sight) (conduct : Conduct) (group : List ℕ) (found : Findings) (net : ℕ) where
  joins_met : (devices : List Device) → ((d : ℕ) (x : Device) → d < length devices → IsFollowed sight conduct net group found (get_or devices d x))
      → (b : ℕ) → Joins devices (lit sight conduct) net b → IsMet sight group found b
  joins_met [] all b h = absurd h
  joins_met (Load at ∷ devices) all b h = joins_met devices (λ d x lt. all (suc d) x (omega arith)) b h
  joins_met (Pass gate x y ∷ devices) all b (inl h) =
      let first = all 0 (Pass gate x y) (omega arith) h.0 in
      elim h.1 [
        | inl e ↦ subst (IsMet sight group found) e.1 (first.0 e.0)
        | inr e ↦ subst (IsMet sight group found) e.1 (first.1 e.0)
      ]
  joins_met (Pass gate x y ∷ devices) all b (inr h) = joins_met devices (λ d z lt. all (suc d) z (omega arith)) b h

  load_met : (devices : List Device) → ((d : ℕ) (x : Device) → d < length devices → IsFollowed sight conduct net group found (get_or devices d x))
      → HasLoad devices net → found.high ≡ true
  load_met [] all h = absurd h
  load_met (Pass gate x y ∷ devices) all h = load_met devices (λ d z lt. all (suc d) z (omega arith)) h
  load_met (Load at ∷ devices) all (inl e) = all 0 (Load at) (omega arith) e
  load_met (Load at ∷ devices) all (inr h) = load_met devices (λ d z lt. all (suc d) z (omega arith)) h

-- ---- a group that was explored

module _ (sight : Sight) (conduct : Conduct) (start : ℕ) (group : List ℕ) (found : Findings) (explored : IsExplored sight conduct start group found) where
  abbrev C : Circuit
  C = sight.network.now

  abbrev V : Values
  V = lit sight conduct

  met : (a b : ℕ) → Waits group a → Joins C.devices V a b → IsMet sight group found b
  met a b w j = joins_met sight conduct group found a C.devices ((explored.whole a w).devices) b j

  pub all_in : (a m : ℕ) → Waits group a → Grouped C sight.drive.now V a m → Waits group m
  all_in _ _ w (here a) = w
  all_in _ _ w (step a b m j f r) = all_in b m ((met a b w j).free f.1) r

  pub low_found : (a : ℕ) → Waits group a → Source C sight.drive.now V false a → found.low ≡ true
  low_found a w s = (met s.from s.to (all_in a s.from w s.grouped) s.joined).low s.fixed

  pub high_found : (a : ℕ) → Waits group a → IsPulledHigh C sight.drive.now V a → found.high ≡ true
  high_found a w (inl s) = (met s.from s.to (all_in a s.from w s.grouped) s.joined).high s.fixed
  high_found a w (inr l) =
      load_met sight conduct group found l.at C.devices ((explored.whole l.at (all_in a l.at w l.grouped)).devices) l.load

  module _ (free : IsFree C sight.drive.now start) (a : ℕ) (w : Waits group a) where
    from_start : Grouped C sight.drive.now V start a
    from_start = explored.sound.grouped a w

    to_start : Grouped C sight.drive.now V a start
    to_start = turn C sight.drive.now V start a free from_start

    pub found_low : found.low ≡ true → Source C sight.drive.now V false a
    found_low e = source_from C sight.drive.now V false start a to_start (explored.sound.low e)

    pub found_high : found.high ≡ true → IsPulledHigh C sight.drive.now V a
    found_high e = high_from C sight.drive.now V start a to_start (explored.sound.high e)

    pub found_other : (level : Level) → HasOther sight conduct start level
        → ((m : ℕ) → Grouped C sight.drive.now V a m → level_at sight.charges.now m ≡ level) → ⊥
    found_other level other all = other.other (all other.at (join C sight.drive.now V a start other.at to_start other.grouped))

-- ---- what a net is told

stable_level : (a b : Level) → ((a ≡ b → ⊥) → ⊥) → a ≡ b
stable_level Low Low s = refl
stable_level High High s = refl
stable_level Unknown Unknown s = refl
stable_level Low High s = absurd (s (λ g. cc))
stable_level Low Unknown s = absurd (s (λ g. cc))
stable_level High Low s = absurd (s (λ g. cc))
stable_level High Unknown s = absurd (s (λ g. cc))
stable_level Unknown Low s = absurd (s (λ g. cc))
stable_level Unknown High s = absurd (s (λ g. cc))

sure_carries : (l : Level) → conducts which.Sure l ≡ true → conducts which.Possible l ≡ true
sure_carries High e = refl
sure_carries Low e = absurd (cc)
sure_carries Unknown e = absurd (cc)

joins_possibly : (sight : Sight) (devices : List Device) (a b : ℕ) → Joins devices (lit sight which.Sure) a b → Joins devices (lit sight which.Possible) a b
joins_possibly sight [] a b h = h
joins_possibly sight (Load net ∷ devices) a b h = joins_possibly sight devices a b h
joins_possibly sight (Pass gate x y ∷ devices) a b (inl h) = inl (sure_carries (level_at sight.levels.now gate.0) h.0, h.1)
joins_possibly sight (Pass gate x y ∷ devices) a b (inr h) = inr (joins_possibly sight devices a b h)

grouped_possibly : (sight : Sight) (a m : ℕ) → Grouped sight.network.now sight.drive.now (lit sight which.Sure) a m
    → Grouped sight.network.now sight.drive.now (lit sight which.Possible) a m
grouped_possibly sight _ _ (here a) = here a
grouped_possibly sight _ _ (step a b m j f r) = step a b m (joins_possibly sight sight.network.now.devices a b j) f (grouped_possibly sight b m r)

module _ (sight : Sight) (start : ℕ) (group : List ℕ) (p : Findings) (explored : IsExplored sight which.Possible start group p)
    (free : IsFree sight.network.now sight.drive.now start) (member : ℕ) (is_member : Waits group member) (part : List ℕ) (s : Findings)
    (explored_part : IsExplored sight which.Sure member part s) (net : ℕ) (is_net : Waits part net) where
  free_member : IsFree sight.network.now sight.drive.now member
  free_member = group_is_free sight.network.now sight.drive.now (lit sight which.Possible) start member free (explored.sound.grouped member is_member)

  pub in_group : Waits group net
  in_group = all_in sight which.Possible start group p explored member net is_member (grouped_possibly sight member net (explored_part.sound.grouped net is_net))

  abbrev T : Bool → Type 0
  T level = Tells sight.network.now sight.drive.now (level_at sight.charges.now) (level_at sight.levels.now) net level

  abbrev K : Bool → Type 0
  K level = KeepsCharge sight.network.now sight.drive.now (level_at sight.charges.now) (level_at sight.levels.now) net level

  not_sure_low : s.low ≡ false → ¬ IsPulledLow sight.network.now sight.drive.now (sure (level_at sight.levels.now)) net
  not_sure_low e h = let found = low_found sight which.Sure member part s explored_part net is_net h in cc

  not_sure_high : s.high ≡ false → ¬ IsPulledHigh sight.network.now sight.drive.now (sure (level_at sight.levels.now)) net
  not_sure_high e h = let found = high_found sight which.Sure member part s explored_part net is_net h in cc

  not_may_low : p.low ≡ false → ¬ IsPulledLow sight.network.now sight.drive.now (possible (level_at sight.levels.now)) net
  not_may_low e h = let found = low_found sight which.Possible start group p explored net in_group h in cc

  not_may_high : p.high ≡ false → ¬ IsPulledHigh sight.network.now sight.drive.now (possible (level_at sight.levels.now)) net
  not_may_high e h = let found = high_found sight which.Possible start group p explored net in_group h in cc

  is_sure_low : s.low ≡ true → IsPulledLow sight.network.now sight.drive.now (sure (level_at sight.levels.now)) net
  is_sure_low e = found_low sight which.Sure member part s explored_part free_member net is_net e

  is_sure_high : s.high ≡ true → IsPulledHigh sight.network.now sight.drive.now (sure (level_at sight.levels.now)) net
  is_sure_high e = found_high sight which.Sure member part s explored_part free_member net is_net e

  may_low : p.low ≡ true → IsPulledLow sight.network.now sight.drive.now (possible (level_at sight.levels.now)) net
  may_low e = found_low sight which.Possible start group p explored free net in_group e

  may_high : p.high ≡ true → IsPulledHigh sight.network.now sight.drive.now (possible (level_at sight.levels.now)) net
  may_high e = found_high sight which.Possible start group p explored free net in_group e

  all_low : p.not_low ≡ false → (m : ℕ) → Grouped sight.network.now sight.drive.now (possible (level_at sight.levels.now)) net m
      → level_at sight.charges.now m ≡ Low
  all_low e m g = stable_level (level_at sight.charges.now m) Low (λ other.
      let found = (explored.whole m (all_in sight which.Possible start group p explored net m in_group g)).not_low other in cc)

  all_high : p.not_high ≡ false → (m : ℕ) → Grouped sight.network.now sight.drive.now (possible (level_at sight.levels.now)) net m
      → level_at sight.charges.now m ≡ High
  all_high e m g = stable_level (level_at sight.charges.now m) High (λ other.
      let found = (explored.whole m (all_in sight which.Possible start group p explored net m in_group g)).not_high other in cc)

  not_kept : (level : Bool) → p.not_low ≡ true → p.not_high ≡ true → ¬ K level
  not_kept false a b k = found_other sight which.Possible start group p explored free net in_group Low (explored.sound.not_low a) k.charge
  not_kept true a b k = found_other sight which.Possible start group p explored free net in_group High (explored.sound.not_high b) k.charge

  none_told : s.low ≡ false → (s.high ≡ false) ⊎ (p.low ≡ true) → ((level : Bool) → ¬ K level) → (level : Bool) → ¬ T level
  none_told low high kept _ (pulled_low l) = not_sure_low low l
  none_told low (inl high) kept _ (rises r) = not_sure_high high r.high
  none_told low (inr may) kept _ (rises r) = r.not_low (may_low may)
  none_told low high kept _ (keeps level k) = kept level k

  pub rightly_told : IsRightlyTold sight net (told_by p s)
  rightly_told = by s.low p.low s.high p.high p.not_low p.not_high refl refl refl refl refl refl
    where
      by : (a b c d e f : Bool) → s.low ≡ a → p.low ≡ b → s.high ≡ c → p.high ≡ d → p.not_low ≡ e → p.not_high ≡ f
          → IsRightlyTold sight net (if a then Some false else if b then None else if c then Some true else if d then None
          else if not e then Some false else if not f then Some true else None)
      by true b c d e f is_a is_b is_c is_d is_e is_f = pulled_low (is_sure_low is_a)
      by false true c d e f is_a is_b is_c is_d is_e is_f = none_told is_a (inr is_b) (λ level k. k.not_low (may_low is_b))
      by false false true d e f is_a is_b is_c is_d is_e is_f = rises (record { not_low = not_may_low is_b; high = is_sure_high is_c })
      by false false false true e f is_a is_b is_c is_d is_e is_f = none_told is_a (inl is_c) (λ level k. k.not_high (may_high is_d))
      by false false false false false f is_a is_b is_c is_d is_e is_f =
          keeps false (record { not_low = not_may_low is_b; not_high = not_may_high is_d; charge = all_low is_e })
      by false false false false true false is_a is_b is_c is_d is_e is_f =
          keeps true (record { not_low = not_may_low is_b; not_high = not_may_high is_d; charge = all_high is_f })
      by false false false false true true is_a is_b is_c is_d is_e is_f = none_told is_a (inl is_c) (λ level. not_kept level is_e is_f)

-- ---- nets that were put down

pub waits_or_not : (xs : List ℕ) (m : ℕ) → Waits xs m ⊎ ¬ Waits xs m
waits_or_not [] m = inr (λ w. w)
waits_or_not (x ∷ xs) m =
    elim (cases_eq x m) [
      | inl e ↦ inl (inl e)
      | inr apart ↦ elim (waits_or_not xs m) [
        | inl w ↦ inl (inr w)
        | inr none ↦ inr (λ h. elim h [ inl e ↦ apart e | inr w ↦ none w ])
      ]
    ]

module _ (sight : Sight) (start : ℕ) (group : List ℕ) (p : Findings) (explored : IsExplored sight which.Possible start group p)
    (free : IsFree sight.network.now sight.drive.now start) (member : ℕ) (is_member : Waits group member) (part : List ℕ) (s : Findings)
    (explored_part : IsExplored sight which.Sure member part s) (level : Option Bool) (is : level ≡ told_by p s)
    (seen seen_new : List Bool) (told told_new : List (Option Bool))
    (put : (k : ℕ) → Waits part k → told_at told_new k ≡ level)
    (seen_rest : (k : ℕ) → ¬ Waits part k → get_or seen_new k false ≡ get_or seen k false)
    (told_rest : (k : ℕ) → ¬ Waits part k → told_at told_new k ≡ told_at told k) where
  pub part_right : AreRight sight group seen told → AreRight sight group seen_new told_new
  part_right right k w e =
      elim (waits_or_not part k) [
        | inl at ↦
            subst (IsRightlyTold sight k) (sym (put k at ∙ is))
            (rightly_told sight start group p explored free member is_member part s explored_part k at)
        | inr none ↦ subst (IsRightlyTold sight k) (sym (told_rest k none)) (right k w (sym (seen_rest k none) ∙ e))
      ]

  pub part_only : (k : ℕ) → get_or seen_new k false ≡ true → (get_or seen k false ≡ true) ⊎ Waits group k
  part_only k e =
      elim (waits_or_not part k) [
        | inl at ↦ inr (in_group sight start group p explored free member is_member part s explored_part k at)
        | inr none ↦ inl (sym (seen_rest k none) ∙ e)
      ]

-- what holds of the nets of these numbers holds of each that waits
pub each_waits : (P : ℕ → Type 0) (xs : List ℕ) (at : ℕ) → length xs ≤ at → ((i : ℕ) → i < at → P (get_or xs i 0)) → (k : ℕ) → Waits xs k → P k
each_waits P xs at past all k w = let n = waits_number xs k w in subst P n.2 (all n.0 (let lt = n.1 in omega arith))

-- one more entry was written
module _ {X : Type 0} (xs : List ℕ) (list : List X) (d x : X) (at : ℕ) (within : get_or xs at 0 < length list) where
  pub one_written : ((i : ℕ) → i < at → get_or list (get_or xs i 0) d ≡ x) → (i : ℕ) → i < at + 1 → get_or (set list (get_or xs at 0) x) (get_or xs i 0) d ≡ x
  one_written before i lt =
      elim (cases_eq (get_or xs i 0) (get_or xs at 0)) [
        | inl same ↦ rw same (get_or-set_same list (get_or xs at 0) x d within)
        | inr apart ↦ get_or-set_other list (get_or xs at 0) (get_or xs i 0) x d apart ∙ before i (earlier apart)
      ]
    where
      earlier : get_or xs i 0 ≢ get_or xs at 0 → i < at
      earlier apart = elim (cases_eq i at) [ inl e ↦ absurd (apart (ap (λ k. get_or xs k 0) e)) | inr other ↦ omega arith ]

  pub rest_written : at < length xs → (k : ℕ) → ¬ Waits xs k → get_or (set list (get_or xs at 0) x) k d ≡ get_or list k d
  rest_written lt k none = get_or-set_other list (get_or xs at 0) k x d (λ e. none (subst (Waits xs) (sym e) (number_waits xs at lt)))

-- one more net was seen
pub next_seen : (xs : List ℕ) (seen seen_new : List Bool) (at : ℕ) → ((k : ℕ) → get_or seen k false ≡ true → get_or seen_new k false ≡ true)
    → get_or seen_new (get_or xs at 0) false ≡ true → ((i : ℕ) → i < at → get_or seen (get_or xs i 0) false ≡ true)
    → (i : ℕ) → i < at + 1 → get_or seen_new (get_or xs i 0) false ≡ true
next_seen xs seen seen_new at kept now before i lt =
    elim (cases_eq i at) [
      | inl same ↦ rw same now
      | inr other ↦ kept (get_or xs i 0) (before i (omega arith))
    ]
