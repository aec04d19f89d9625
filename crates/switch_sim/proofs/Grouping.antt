-- Steps of the search for a group.
use Rattle.std.proofs.Common.{◌≡◌, ◌≢◌, ◌⊎◌, inl, inr, ℕ, zero, suc, ◌+◌, ◌==◌, ◌<◌, ◌≤◌, ◌&&◌, ◌||◌, Bool, true, false, List, [], ◌∷◌, ◌++◌, length, get_or, refl, sym, ap, ◌∙◌, subst, arith, append_assoc, append-nil}
use Rattle.switch_net.specs.Circuit.{Circuit}
use Rattle.switch_net.specs.Settling.{Values, Joins, HasLoad, IsFree, Grouped}
use Rattle.switch_net.specs.Settling.Grouped.{here, step}
use Rattle.switch_net.specs.declared.network.Device.{Device}
use Rattle.switch_net.specs.declared.network.Device.TheVariants.{Pass, Load}
use Rattle.switch_sim.specs.Grouping.{lit, IsMet, IsFollowed, IsVisited, IsSound, IsMore, IsOf, StaysTrue}
use Rattle.std.proofs.Math.ListN.{get_or-append}
use Rattle.std.proofs.lemmas.Bool.{cases_eq, eqb-true, eq-eqb}
use Rattle.switch_net.specs.declared.network.Level.{Level}
use Rattle.switch_net.specs.declared.network.Net.{Net}
use Rattle.switch_net.specs.declared.network.Level.TheVariants.{Low, High}
use Rattle.switch_sim.specs.Incidence.{one_end, other_end, EndsAt, IsLeastAbove}
use Rattle.switch_sim.specs.Simulation.{level_at}
use Rattle.switch_sim.specs.Waiting.{Waits, IsBehind}
use Rattle.switch_sim.specs.declared.group.Conduct.{Conduct}
use Rattle.switch_sim.specs.declared.group.Findings.{Findings}
use Rattle.switch_sim.specs.declared.group.Sight.{Sight}

-- ---- lists of nets

pub waits_front : (xs ys : List ℕ) (m : ℕ) → Waits xs m → Waits (xs ++ ys) m
waits_front [] ys m w = absurd w
waits_front (x ∷ xs) ys m (inl e) = inl e
waits_front (x ∷ xs) ys m (inr w) = inr (waits_front xs ys m w)

waits_end : (xs : List ℕ) (net m : ℕ) → Waits (xs ++ net ∷ []) m → (net ≡ m) ⊎ Waits xs m
waits_end [] net m (inl e) = inl e
waits_end [] net m (inr w) = absurd w
waits_end (x ∷ xs) net m (inl e) = inr (inl e)
waits_end (x ∷ xs) net m (inr w) = elim (waits_end xs net m w) [ inl e ↦ inl e | inr v ↦ inr (inr v) ]

pub behind_waits : (old : List ℕ) (net : ℕ) (new : List ℕ) → IsBehind old net new → (m : ℕ) → Waits new m → (net ≡ m) ⊎ Waits old m
behind_waits old net new (inl e) m w = inr (subst (λ l. Waits l m) e w)
behind_waits old net new (inr e) m w = waits_end old net m (subst (λ l. Waits l m) e w)

-- ---- more

pub none_more : (group : List ℕ) (found : Findings) → IsMore group found group found
none_more group found = record {
  more = [];
  behind = sym (append-nil group);
  low = λ e. e;
  high = λ e. e;
  not_low = λ e. e;
  not_high = λ e. e;
}

pub then_more : (a : List ℕ) (f : Findings) (b : List ℕ) (g : Findings) (c : List ℕ) (h : Findings) → IsMore a f b g → IsMore b g c h → IsMore a f c h
then_more a f b g c h one two = record {
  more = one.more ++ two.more;
  behind = two.behind ∙ ap (λ l. l ++ two.more) one.behind ∙ append_assoc a one.more two.more;
  low = λ e. two.low (one.low e);
  high = λ e. two.high (one.high e);
  not_low = λ e. two.not_low (one.not_low e);
  not_high = λ e. two.not_high (one.not_high e);
}

pub kept_more : (a : List ℕ) (f : Findings) (b : List ℕ) (g : Findings) → IsMore a f b g → (m : ℕ) → Waits a m → Waits b m
kept_more a f b g more m w = subst (λ l. Waits l m) (sym more.behind) (waits_front a more.more m w)

module _ (sight : Sight) where
  pub met_more : (a : List ℕ) (f : Findings) (b : List ℕ) (g : Findings) → IsMore a f b g → (net : ℕ) → IsMet sight a f net → IsMet sight b g net
  met_more a f b g more net met = record {
    free = λ e. kept_more a f b g more net (met.free e);
    low = λ e. more.low (met.low e);
    high = λ e. more.high (met.high e);
  }

  pub followed_more : (conduct : Conduct) (net : ℕ) (a : List ℕ) (f : Findings) (b : List ℕ) (g : Findings) → IsMore a f b g → (device : Device)
      → IsFollowed sight conduct net a f device → IsFollowed sight conduct net b g device
  followed_more conduct net a f b g more (Load at) h = λ e. more.high (h e)
  followed_more conduct net a f b g more (Pass gate x y) h = λ on. (
    λ e. met_more a f b g more y.0 ((h on).0 e),
    λ e. met_more a f b g more x.0 ((h on).1 e),
  )

  -- ---- what stays true

  module _ (conduct : Conduct) where
    abbrev C : Circuit
    C = sight.network.now

    abbrev V : Values
    V = lit sight conduct

    pub then_true : (net : ℕ) (a : List ℕ) (f : Findings) (b : List ℕ) (g : Findings) (c : List ℕ) (h : Findings) → IsMore a f b g
        → StaysTrue sight conduct net a f b g → StaysTrue sight conduct net b g c h → StaysTrue sight conduct net a f c h
    then_true net a f b g c h more one two start w sound = two start (kept_more a f b g more net w) (one start w sound)

    group_on : (start net other : ℕ) → Grouped C sight.drive.now V start net → Joins C.devices V net other → IsFree C sight.drive.now other
        → Grouped C sight.drive.now V start other
    group_on _ _ other (here a) j free = step a other other j free (here other)
    group_on _ _ other (step a b c k f r) j free = step a b other k f (group_on b c other r j free)

    pub true_met : (net other : ℕ) (old : List ℕ) (new : List ℕ) (found : Findings) → IsBehind old other new → IsFree C sight.drive.now other
        → Joins C.devices V net other → StaysTrue sight conduct net old found new found
    true_met net other old new found behind free j start w sound = record {
      grouped = λ m h. elim (behind_waits old other new behind m h) [
        | inl e ↦ subst (Grouped C sight.drive.now V start) e (group_on start net other (sound.grouped net w) j free)
        | inr v ↦ sound.grouped m v
      ];
      low = sound.low;
      high = sound.high;
      not_low = sound.not_low;
      not_high = sound.not_high;
    }

-- ---- devices by number

pub load_at : (devices : List Device) (d : ℕ) (device : Device) → d < length devices → get_or devices d device ≡ device → (net : ℕ)
    → (at : ℕ) × (device ≡ Load (record { 0 = at })) × (at ≡ net) → HasLoad devices net
load_at [] d device lt e net h = absurd (omega arith)
load_at (Load first ∷ devices) zero device lt e net h =
    let same : Load first ≡ Load (record { 0 = h.0 }) = e ∙ h.1 in
    let there : first.0 ≡ h.0 = cc in
    inl (there ∙ h.2)
load_at (Pass gate a b ∷ devices) zero device lt e net h = absurd (let same = e ∙ h.1 in cc)
load_at (Load first ∷ devices) (suc d) device lt e net h = inr (load_at devices d device (omega arith) e net h)
load_at (Pass gate a b ∷ devices) (suc d) device lt e net h = load_at devices d device (omega arith) e net h

pub joins_at : (devices : List Device) (v : Values) (d gate x y : ℕ) → d < length devices
    → get_or devices d (Pass (record { 0 = gate }) (record { 0 = x }) (record { 0 = y })) ≡ Pass (record { 0 = gate }) (record { 0 = x }) (record { 0 = y })
    → v gate ≡ true → (a b : ℕ) → ((x ≡ a) × (y ≡ b)) ⊎ ((y ≡ a) × (x ≡ b)) → Joins devices v a b
joins_at [] v d gate x y lt e on a b h = absurd (omega arith)
joins_at (Load first ∷ devices) v zero gate x y lt e on a b h = absurd (cc)
joins_at (Pass g p q ∷ devices) v zero gate x y lt e on a b h =
    let eg : g.0 ≡ gate = cc in
    let ep : p.0 ≡ x = cc in
    let eq : q.0 ≡ y = cc in
    inl (ap v eg ∙ on, elim h [ inl k ↦ inl (ep ∙ k.0, eq ∙ k.1) | inr k ↦ inr (eq ∙ k.0, ep ∙ k.1) ])
joins_at (Load first ∷ devices) v (suc d) gate x y lt e on a b h = joins_at devices v d gate x y (omega arith) e on a b h
joins_at (Pass g p q ∷ devices) v (suc d) gate x y lt e on a b h = inr (joins_at devices v d gate x y (omega arith) e on a b h)

pub and_both : (a b : Bool) → (a && b) ≡ true → (a ≡ true) × (b ≡ true)
and_both true b e = (refl, e)
and_both false b e = absurd (cc)

and_true : (a b : Bool) → a ≡ true → b ≡ true → (a && b) ≡ true
and_true true b e f = f
and_true false b e f = absurd (cc)

pub or_either : (a b : Bool) → (a || b) ≡ true → (a ≡ true) ⊎ (b ≡ true)
or_either true b e = inl refl
or_either false b e = inr e

or_left : (a b : Bool) → a ≡ true → (a || b) ≡ true
or_left true b e = refl
or_left false b e = absurd (cc)

or_right : (a b : Bool) → b ≡ true → (a || b) ≡ true
or_right true b e = refl
or_right false b e = e

-- ---- lists by number

pub waits_number : (xs : List ℕ) (m : ℕ) → Waits xs m → (i : ℕ) × (i < length xs) × (get_or xs i 0 ≡ m)
waits_number [] m w = absurd w
waits_number (x ∷ xs) m (inl e) = (0, omega arith, e)
waits_number (x ∷ xs) m (inr w) = let k = waits_number xs m w in (suc k.0, let lt = k.1 in omega arith, k.2)

pub number_waits : (xs : List ℕ) (i : ℕ) → i < length xs → Waits xs (get_or xs i 0)
number_waits [] i lt = absurd (omega arith)
number_waits (x ∷ xs) zero lt = inl refl
number_waits (x ∷ xs) (suc i) lt = inr (number_waits xs i (omega arith))

pub same_number : (a : List ℕ) (f : Findings) (b : List ℕ) (g : Findings) → IsMore a f b g → (i : ℕ) → i < length a → get_or b i 0 ≡ get_or a i 0
same_number a f b g more i lt = ap (λ l. get_or l i 0) more.behind ∙ get_or-append a more.more 0 i lt

-- ---- a load, a charge

module _ (sight : Sight) (conduct : Conduct) (net : ℕ) where
  pub load_true : (group : List ℕ) (f g : Findings) (is_load : Bool) → g.low ≡ f.low → g.high ≡ (is_load || f.high) → g.not_low ≡ f.not_low
      → g.not_high ≡ f.not_high → (is_load ≡ true → HasLoad sight.network.now.devices net) → StaysTrue sight conduct net group f group g
  load_true group f g is_load low high not_low not_high load start w sound = record {
    grouped = sound.grouped;
    low = λ e. sound.low (sym low ∙ e);
    high = λ e. elim (or_either is_load f.high (sym high ∙ e)) [
      | inl h ↦ inr (record { at = net; grouped = sound.grouped net w; load = load h })
      | inr h ↦ sound.high h
    ];
    not_low = λ e. sound.not_low (sym not_low ∙ e);
    not_high = λ e. sound.not_high (sym not_high ∙ e);
  }

  pub charge_more : (group : List ℕ) (f g : Findings) (charge : Level) → g.low ≡ f.low → g.high ≡ f.high
      → ((f.not_low ≡ true) ⊎ (charge ≢ Low) → g.not_low ≡ true) → ((f.not_high ≡ true) ⊎ (charge ≢ High) → g.not_high ≡ true) → IsMore group f group g
  charge_more group f g charge low high not_low not_high = record {
    more = [];
    behind = sym (append-nil group);
    low = λ e. low ∙ e;
    high = λ e. high ∙ e;
    not_low = λ e. not_low (inl e);
    not_high = λ e. not_high (inl e);
  }

  pub charge_true : (group : List ℕ) (f g : Findings) → g.low ≡ f.low → g.high ≡ f.high
      → (g.not_low ≡ true → (f.not_low ≡ true) ⊎ (level_at sight.charges.now net ≢ Low))
      → (g.not_high ≡ true → (f.not_high ≡ true) ⊎ (level_at sight.charges.now net ≢ High)) → StaysTrue sight conduct net group f group g
  charge_true group f g low high not_low not_high start w sound = record {
    grouped = sound.grouped;
    low = λ e. sound.low (sym low ∙ e);
    high = λ e. sound.high (sym high ∙ e);
    not_low = λ e. elim (not_low e) [
      | inl h ↦ sound.not_low h
      | inr h ↦ record { at = net; grouped = sound.grouped net w; other = h }
    ];
    not_high = λ e. elim (not_high e) [
      | inl h ↦ sound.not_high h
      | inr h ↦ record { at = net; grouped = sound.grouped net w; other = h }
    ];
  }

  -- ---- the devices at a net, one after another

  ends_or_not : (d : Device) → EndsAt d net ⊎ (EndsAt d net → ⊥)
  ends_or_not d =
      elim (cases_eq (one_end d) net) [
        | inl e ↦ inl (inl e)
        | inr one ↦
            elim (cases_eq (other_end d) net) [
              | inl e ↦ inl (inr e)
              | inr other ↦ inr (λ h. elim h [ inl e ↦ one e | inr e ↦ other e ])
            ]
      ]

  apart_followed : (group : List ℕ) (found : Findings) (d : Device) → (EndsAt d net → ⊥) → IsFollowed sight conduct net group found d
  apart_followed group found (Load at) apart = λ e. absurd (apart (inl e))
  apart_followed group found (Pass gate a b) apart = λ on. (λ e. absurd (apart (inl e)), λ e. absurd (apart (inr e)))

  abbrev D : List Device
  D = sight.network.now.devices

  -- each device was followed, or it is at the net and before this one
  abbrev pub AreFollowed : List ℕ → Findings → ℕ → Type 0
  AreFollowed group found behind = (d : ℕ) (x : Device) → d < length D
      → IsFollowed sight conduct net group found (get_or D d x) ⊎ (EndsAt (get_or D d x) net × (d < behind))

  pub none_followed : (group : List ℕ) (found : Findings) (behind : ℕ) → IsLeastAbove D (length D) net behind → AreFollowed group found behind
  none_followed group found behind chain d x lt =
      elim (ends_or_not (get_or D d x)) [
        | inl ends ↦ inr (ends, chain.above d x lt ends)
        | inr apart ↦ inl (apart_followed group found (get_or D d x) apart)
      ]

  pub one_followed : (a : List ℕ) (f : Findings) (b : List ℕ) (g : Findings) → IsMore a f b g → (at bound behind : ℕ) → behind ≡ at + 1
      → ((d : ℕ) (x : Device) → d ≡ at → IsFollowed sight conduct net b g (get_or D d x)) → IsLeastAbove D at net bound
      → AreFollowed a f behind → AreFollowed b g bound
  one_followed a f b g more at bound behind one now chain before d x lt =
      elim (cases_eq d at) [
        | inl same ↦ inl (now d x same)
        | inr apart ↦ elim (before d x lt) [
          | inl h ↦ inl (followed_more sight conduct net a f b g more (get_or D d x) h)
          | inr h ↦ inr (h.0, chain.above d x (let below = h.1 in omega arith) h.0)
        ]
      ]

  pub all_followed : (group : List ℕ) (found : Findings) → AreFollowed group found 0 → (d : ℕ) (x : Device) → d < length D
      → IsFollowed sight conduct net group found (get_or D d x)
  all_followed group found all d x lt = elim (all d x lt) [ inl h ↦ h | inr h ↦ absurd (let below = h.1 in omega arith) ]

-- ---- all nets of a group

module _ (sight : Sight) (conduct : Conduct) (start : ℕ) where
  pub begin_sound : (group : List ℕ) (found : Findings) → IsBehind [] start group → found.low ≡ false → found.high ≡ false → found.not_low ≡ false
      → found.not_high ≡ false → IsSound sight conduct start group found
  begin_sound group found behind low high not_low not_high = record {
    grouped = λ m w. elim (behind_waits [] start group behind m w) [
      | inl e ↦ subst (Grouped sight.network.now sight.drive.now (lit sight conduct) start) e (here start)
      | inr v ↦ absurd v
    ];
    low = λ e. absurd (cc);
    high = λ e. absurd (cc);
    not_low = λ e. absurd (cc);
    not_high = λ e. absurd (cc);
  }

  pub visited_more : (a : List ℕ) (f : Findings) (b : List ℕ) (g : Findings) → IsMore a f b g → (m : ℕ) → IsVisited sight conduct a f m
      → IsVisited sight conduct b g m
  visited_more a f b g more m h = record {
    devices = λ d x lt. followed_more sight conduct m a f b g more (get_or sight.network.now.devices d x) (h.devices d x lt);
    not_low = λ e. more.not_low (h.not_low e);
    not_high = λ e. more.not_high (h.not_high e);
  }

  -- the nets before this number were visited
  abbrev pub AreVisited : List ℕ → Findings → ℕ → Type 0
  AreVisited group found at = (i : ℕ) → i < at → IsVisited sight conduct group found (get_or group i 0)

  pub one_visited : (a : List ℕ) (f : Findings) (b : List ℕ) (g : Findings) (at : ℕ) → at < length a → IsMore a f b g → AreVisited a f at
      → IsVisited sight conduct b g (get_or a at 0) → AreVisited b g (at + 1)
  one_visited a f b g at lt more before now i below =
      elim (cases_eq i at) [
        | inl same ↦
            subst (IsVisited sight conduct b g) (ap (get_at a) (sym same) ∙ sym (same_number a f b g more i (omega arith))) now
        | inr apart ↦
            subst (IsVisited sight conduct b g) (sym (same_number a f b g more i (omega arith)))
            (visited_more a f b g more (get_or a i 0) (before i (omega arith)))
      ]
    where
      get_at : List ℕ → ℕ → ℕ
      get_at l k = get_or l k 0

  pub whole_visited : (group : List ℕ) (found : Findings) (at : ℕ) → length group ≤ at → AreVisited group found at → (m : ℕ) → Waits group m
      → IsVisited sight conduct group found m
  whole_visited group found at past all m w =
      let k = waits_number group m w in
      subst (IsVisited sight conduct group found) k.2 (all k.0 (let lt = k.1 in omega arith))

-- ---- a pass device at a net

module _ (sight : Sight) (conduct : Conduct) (net : ℕ) (gate a b : Net) where
  pub pass_followed : (one : List ℕ) (f : Findings) (two : List ℕ) (g : Findings) → IsMore one f two g → (at_a at_b : Bool)
      → at_a ≡ (lit sight conduct gate.0 && a.0 == net) → at_b ≡ (lit sight conduct gate.0 && b.0 == net)
      → (at_a ≡ true → IsMet sight one f b.0) → (at_b ≡ true → IsMet sight two g a.0)
      → IsFollowed sight conduct net two g (Pass gate a b)
  pass_followed one f two g more at_a at_b is_a is_b first second on = (
    λ e. met_more sight one f two g more b.0 (first (is_a ∙ and_true (lit sight conduct gate.0) (a.0 == net) on (eq-eqb _ _ e))),
    λ e. second (is_b ∙ and_true (lit sight conduct gate.0) (b.0 == net) on (eq-eqb _ _ e)),
  )

  pub pass_joins : IsOf sight (Pass gate a b) → (at_a : Bool) → at_a ≡ (lit sight conduct gate.0 && a.0 == net) → at_a ≡ true
      → Joins sight.network.now.devices (lit sight conduct) net b.0
  pass_joins of at_a is e =
      let h = and_both (lit sight conduct gate.0) (a.0 == net) (sym is ∙ e) in
      joins_at sight.network.now.devices (lit sight conduct) of.at gate.0 a.0 b.0 of.within of.is h.0 net b.0 (inl (eqb-true _ _ h.1, refl))

  pub pass_joins_back : IsOf sight (Pass gate a b) → (at_b : Bool) → at_b ≡ (lit sight conduct gate.0 && b.0 == net) → at_b ≡ true
      → Joins sight.network.now.devices (lit sight conduct) net a.0
  pass_joins_back of at_b is e =
      let h = and_both (lit sight conduct gate.0) (b.0 == net) (sym is ∙ e) in
      joins_at sight.network.now.devices (lit sight conduct) of.at gate.0 a.0 b.0 of.within of.is h.0 net a.0 (inr (eqb-true _ _ h.1, refl))

pub load_of : (sight : Sight) (device : Device) (at : Net) (net : ℕ) → IsOf sight device → device ≡ Load at → (at.0 == net) ≡ true
    → HasLoad sight.network.now.devices net
load_of sight device at net of e same = load_at sight.network.now.devices of.at device of.within of.is net (at.0, e, eqb-true _ _ same)
