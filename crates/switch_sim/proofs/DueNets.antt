-- Nets that begin to be due, and that are taken from those that wait.
use Rattle.std.proofs.Common.{◌≡◌, ◌⊎◌, inl, inr, ℕ, ◌≢◌, ◌+◌, ◌<◌, ◌≤◌, ◌||◌, Bool, true, false, List, [], ◌∷◌, ◌++◌, length, length-append, ap, get_or, get_or-set_same, get_or-set_other, refl, sym, ◌∙◌, subst, arith}
use Rattle.std.specs.Prelude.{Option, Some, None, IfSome}
use Rattle.std.proofs.Math.ListN.{set}
use Rattle.std.proofs.lemmas.Bool.{cases_eq}
use Rattle.switch_net.specs.Circuit.{Circuit}
use Rattle.switch_net.specs.Ternary.{level_of, may_be_high, possible}
use Rattle.switch_net.specs.declared.network.Device.{Device}
use Rattle.switch_net.specs.declared.network.Level.{Level}
use Rattle.switch_net.specs.declared.network.Level.TheVariants.{Low, High, Unknown}
use Rattle.switch_sim.specs.Grouping.{told_at}
use Rattle.switch_sim.specs.Simulation.{level_at}
use Rattle.switch_sim.specs.ToldLevels.{TellsAt}
use Rattle.switch_sim.specs.Gating.{IsGatedBy, IsLeastGated}
use Rattle.switch_sim.specs.Incidence.{one_end, other_end}
use Rattle.switch_sim.specs.Waiting.{Waits}
use Rattle.switch_sim.specs.DueNets.{IsHeld, IsWoken, AreWoken, AllAreWoken, Wakes, Remain}
use Rattle.switch_sim.proofs.AtGates.{at_gate}
use Rattle.switch_sim.proofs.WaitingNets.{waits_more}

pub none_wakes : (seen : List Bool) (next : List ℕ) → Wakes seen next seen next
none_wakes seen next = record {
  only = λ net e. e;
  listed = λ net e. inl e;
  kept = λ net w. w;
}

pub then_wakes : (a : List Bool) (x : List ℕ) (b : List Bool) (y : List ℕ) (c : List Bool) (z : List ℕ) → Wakes a x b y → Wakes b y c z → Wakes a x c z
then_wakes a x b y c z one two = record {
  only = λ net e. one.only net (two.only net e);
  listed = λ net e. elim (two.listed net e) [
    | inl before ↦ elim (one.listed net before) [ inl first ↦ inl first | inr w ↦ inr (two.kept net w) ]
    | inr w ↦ inr w
  ];
  kept = λ net w. two.kept net (one.kept net w);
}

pub only_unset : (seen : List Bool) (net k : ℕ) → net < length seen → get_or (set seen net false) k false ≡ true → get_or seen k false ≡ true
only_unset seen net k lt e =
    elim (cases_eq k net) [
      | inl same ↦
          let unset : get_or (set seen net false) k false ≡ false =
          subst (λ n. get_or (set seen net false) n false ≡ false) (sym same) (get_or-set_same seen net false false lt) in
          absurd (cc)
      | inr apart ↦ sym (get_or-set_other seen net k false false apart) ∙ e
    ]

pub still_due : (a b : Bool) → (b ≡ true → a ≡ true) → a ≡ false → b ≡ false
still_due a true only e = absurd (let f = only refl in cc)
still_due a false only e = refl

pub due_more : (a : List Bool) (x : List ℕ) (b : List Bool) (y : List ℕ) → Wakes a x b y → (net : ℕ) → get_or a net false ≡ false → get_or b net false ≡ false
due_more a x b y wakes net e = still_due (get_or a net false) (get_or b net false) (wakes.only net) e

-- ---- the devices that a net gates, one after another

module _ (circuit : Circuit) (drives : List Bool) (levels : List Level) where
  pub woken_more : (a : List Bool) (x : List ℕ) (b : List Bool) (y : List ℕ) → Wakes a x b y → (gate end other : ℕ)
      → IsWoken circuit drives levels a gate end other → IsWoken circuit drives levels b gate end other
  woken_more a x b y wakes gate end other (inl due) = inl (due_more a x b y wakes end due)
  woken_more a x b y wakes gate end other (inr held) = inr held

  module _ (net : ℕ) where
    -- both ends of the device are due or held
    abbrev pub BothWoken : List Bool → Device → Type 0
    BothWoken seen device = IsWoken circuit drives levels seen net (one_end device) (other_end device)
        × IsWoken circuit drives levels seen net (other_end device) (one_end device)

    pub both_more : (a : List Bool) (x : List ℕ) (b : List Bool) (y : List ℕ) → Wakes a x b y → (device : Device) → BothWoken a device → BothWoken b device
    both_more a x b y wakes device both = (
      woken_more a x b y wakes net (one_end device) (other_end device) both.0,
      woken_more a x b y wakes net (other_end device) (one_end device) both.1,
    )

    -- so it is with the devices from this one on that the net gates
    abbrev pub AreWokenFrom : ℕ → List Bool → Type 0
    AreWokenFrom behind seen = (d : ℕ) (x : Device) → d < length circuit.devices → IsGatedBy (get_or circuit.devices d x) net
        → BothWoken seen (get_or circuit.devices d x) ⊎ (d < behind)

    pub none_woken : (seen : List Bool) (bound : ℕ) → IsLeastGated circuit.devices (length circuit.devices) net bound → AreWokenFrom bound seen
    none_woken seen bound chain d x lt gated = inr (chain.above d x lt gated)

    pub one_woken : (a : List Bool) (x : List ℕ) (b : List Bool) (y : List ℕ) → Wakes a x b y → (at bound behind : ℕ) → behind ≡ at + 1
        → ((d : ℕ) (x : Device) → d ≡ at → BothWoken b (get_or circuit.devices d x))
        → IsLeastGated circuit.devices at net bound → AreWokenFrom behind a → AreWokenFrom bound b
    one_woken a x b y wakes at bound behind one now chain before d device lt gated =
        elim (cases_eq d at) [
          | inl same ↦ inl (now d device same)
          | inr apart ↦ elim (before d device lt gated) [
            | inl h ↦ inl (both_more a x b y wakes (get_or circuit.devices d device) h)
            | inr below ↦ inr (chain.above d device (omega arith) gated)
          ]
        ]

    pub all_woken : (seen : List Bool) → AreWokenFrom 0 seen → AreWoken circuit drives levels seen net
    all_woken seen all d x lt gated = elim (all d x lt gated) [ inl h ↦ h | inr below ↦ absurd (omega arith) ]

-- ---- a net that is taken

pub turned : (now later rest now_new : List ℕ) (taken : ℕ) → later ≡ rest ++ taken ∷ [] → Waits now_new taken
    → ((net : ℕ) → Waits now net → Waits now_new net) → (net : ℕ) → Waits now net ⊎ Waits later net → Waits now_new net ⊎ Waits rest net
turned now later rest now_new taken e here kept net (inl w) = inl (kept net w)
turned now later rest now_new taken e here kept net (inr w) =
    elim (waits_more rest taken net (subst (λ l. Waits l net) e w)) [ inl same ↦ inl (subst (Waits now_new) same here) | inr left ↦ inr left ]

one_fewer : (xs rest : List ℕ) (net : ℕ) → xs ≡ rest ++ net ∷ [] → length xs ≡ length rest + 1
one_fewer xs rest net e = let total = ap length e in let sum = length-append rest (net ∷ []) in omega (arith, total, sum)

pub turned_most : (now later rest now_new : List ℕ) (taken : ℕ) → later ≡ rest ++ taken ∷ [] → length now_new ≤ length now + 1
    → length now_new + length rest ≤ length now + length later
turned_most now later rest now_new taken e most = let one = one_fewer later rest taken e in omega (arith, one)

pub turned_fewer : (later rest : List ℕ) (taken : ℕ) → later ≡ rest ++ taken ∷ [] → length rest < length later
turned_fewer later rest taken e = let one = one_fewer later rest taken e in omega (arith, one)

pub none_left : (first later now next : List ℕ) → ((net : ℕ) → Waits first net ⊎ Waits later net → Waits now net ⊎ Waits next net)
    → now ≡ [] → next ≡ [] → (net : ℕ) → Waits first net ⊎ Waits later net → ⊥
none_left first later now next kept none none_next net w =
    elim (kept net w) [ inl v ↦ subst (λ l. Waits l net) none v | inr v ↦ subst (λ l. Waits l net) none_next v ]

module _ (first later now next now_new : List ℕ) where
  pub remain : ((net : ℕ) → Waits first net ⊎ Waits later net → Waits now net ⊎ Waits next net) → (taken : ℕ) → now ≡ now_new ++ taken ∷ []
      → Remain first later now_new next taken
  remain kept taken e net w =
      elim (kept net w) [
        | inl v ↦ elim (waits_more now_new taken net (subst (λ l. Waits l net) e v)) [ inl same ↦ inl same | inr left ↦ inr (inl left) ]
        | inr v ↦ inr (inr v)
      ]

  pub fewer_wait : length now + length next ≤ length first + length later → (taken : ℕ) → now ≡ now_new ++ taken ∷ []
      → length now_new + length next < length first + length later
  fewer_wait most taken e = let one = one_fewer now now_new taken e in omega (arith, one)

pub each_some : (P Q : ℕ → Type 0) (result : Option ℕ) → ((net : ℕ) → P net → Q net) → IfSome result P → IfSome result Q
each_some P Q None then h = h
each_some P Q (Some net) then h = then net h

-- ---- nets that are told one after another

known_level : (level : Bool) → level_of level ≡ Unknown → ⊥
known_level true e = cc
known_level false e = cc

pub same_level : (a b : Level) → (a ≡ b) ⊎ (a ≢ b)
same_level Low Low = inl refl
same_level High High = inl refl
same_level Unknown Unknown = inl refl
same_level Low High = inr (λ e. cc)
same_level Low Unknown = inr (λ e. cc)
same_level High Low = inr (λ e. cc)
same_level High Unknown = inr (λ e. cc)
same_level Unknown Low = inr (λ e. cc)
same_level Unknown High = inr (λ e. cc)

-- a step in which a net is told, or none
module _ (old new : List Level) (told : List (Option Bool)) (net : ℕ) (lt : net < length old) (result : Bool)
    (tells : result ≡ true → TellsAt old new told net) (rest : result ≡ false → new ≡ old) where
  rest_same : TellsAt old new told net → (k : ℕ) → k ≢ net → level_at new k ≡ level_at old k
  rest_same at k apart = ap (λ l. level_at l k) at.written ∙ get_or-set_other old net k (level_of at.level) Unknown apart

  is_known : TellsAt old new told net → level_at new net ≡ Unknown → ⊥
  is_known at e =
      known_level at.level (sym (ap (λ l. level_at l net) at.written ∙ get_or-set_same old net (level_of at.level) Unknown lt) ∙ e)

  pub unknown_before : (k : ℕ) → level_at new k ≡ Unknown → level_at old k ≡ Unknown
  unknown_before k e = by result refl
    where
      by : (b : Bool) → result ≡ b → level_at old k ≡ Unknown
      by false same = ap (λ l. level_at l k) (sym (rest same)) ∙ e
      by true tell =
          elim (cases_eq k net) [
            | inl same ↦ absurd (is_known (tells tell) (subst (λ n. level_at new n ≡ Unknown) same e))
            | inr apart ↦ sym (rest_same (tells tell) k apart) ∙ e
          ]

  pub none_here : (result ≡ false → level_at old net ≡ Unknown → told_at told net ≡ None) → level_at new net ≡ Unknown → told_at told net ≡ None
  none_here none e = by result refl
    where
      by : (b : Bool) → result ≡ b → told_at told net ≡ None
      by false same = none same (unknown_before net e)
      by true tell = absurd (is_known (tells tell) e)

  known_apart : TellsAt old new told net → (k : ℕ) (l : Level) → level_at old k ≡ l → l ≢ Unknown → level_at new k ≡ l
  known_apart at k l e known =
      elim (cases_eq k net) [
        | inl same ↦ absurd (known (sym e ∙ ap (level_at old) same ∙ at.unknown))
        | inr apart ↦ rest_same at k apart ∙ e
      ]

  module _ (circuit : Circuit) (drives : List Bool) (first : List Level) (a : List Bool) (x : List ℕ) (b : List Bool) (y : List ℕ) (wakes : Wakes a x b y) where
    -- what was held is so still, or its end is due
    held_next : TellsAt old new told net → AreWoken circuit drives new b net → (gate end other : ℕ) → IsHeld circuit drives old gate end other
        → IsWoken circuit drives new b gate end other
    held_next at woken gate end other held =
        let r = at_gate circuit.devices (possible (level_at old)) end held.still.to held.still.joined in
        let both = woken r.at r.device r.within in
        elim (cases_eq r.gate net) [
          | inr apart ↦ inr (record {
            low = known_apart at gate Low held.low (λ e. cc);
            led = held.led;
            still = record {
              to = held.still.to;
              joined = r.joins (possible (level_at new)) (ap may_be_high (rest_same at r.gate apart) ∙ r.on);
              fixed = held.still.fixed;
            };
          })
          | inl same ↦
              let pair = both (subst (IsGatedBy (get_or circuit.devices r.at r.device)) same r.gated) in
              elim r.ends [
                | inl e ↦ again (subst (λ k. IsWoken circuit drives new b net k (other_end (get_or circuit.devices r.at r.device))) e.0 pair.0)
                | inr e ↦ again (subst (λ k. IsWoken circuit drives new b net k (one_end (get_or circuit.devices r.at r.device))) e.0 pair.1)
              ]
        ]
      where
        again : {far : ℕ} → IsWoken circuit drives new b net end far → IsWoken circuit drives new b gate end other
        again (inl due) = inl due
        again (inr now) = inr (record { low = known_apart at gate Low held.low (λ e. cc); led = held.led; still = now.still })

    woken_still : TellsAt old new told net → AreWoken circuit drives new b net → (gate end other : ℕ) → IsWoken circuit drives old a gate end other
        → IsWoken circuit drives new b gate end other
    woken_still at woken gate end other (inl due) = inl (due_more a x b y wakes end due)
    woken_still at woken gate end other (inr held) = held_next at woken gate end other held

    pub woken_next : (result ≡ true → AreWoken circuit drives new b net) → AllAreWoken circuit drives first old a → AllAreWoken circuit drives first new b
    woken_next woken before k differs = by result refl
      where
        by : (r : Bool) → result ≡ r → AreWoken circuit drives new b k
        by false same =
            let is = rest same in
            let early = before k (λ e. differs (ap (λ l. level_at l k) is ∙ e)) in
            λ d device below gated.
            subst (λ l. BothWoken circuit drives l k b (get_or circuit.devices d device)) (sym is)
            (both_more circuit drives old k a x b y wakes (get_or circuit.devices d device) (early d device below gated))
        by true tell =
            elim (cases_eq k net) [
              | inl same ↦ subst (AreWoken circuit drives new b) (sym same) (woken tell)
              | inr apart ↦ λ d device below gated.
                  let early = before k (λ e. differs (rest_same (tells tell) k apart ∙ e)) d device below gated in
                  (woken_still (tells tell) (woken tell) k _ _ early.0, woken_still (tells tell) (woken tell) k _ _ early.1)
            ]

pub none_told : (old new : List Level) (xs : List ℕ) (told : List (Option Bool)) (at : ℕ)
    → ((k : ℕ) → level_at new k ≡ Unknown → level_at old k ≡ Unknown)
    → (level_at new (get_or xs at 0) ≡ Unknown → told_at told (get_or xs at 0) ≡ None)
    → ((i : ℕ) → i < at → level_at old (get_or xs i 0) ≡ Unknown → told_at told (get_or xs i 0) ≡ None)
    → (i : ℕ) → i < at + 1 → level_at new (get_or xs i 0) ≡ Unknown → told_at told (get_or xs i 0) ≡ None
none_told old new xs told at stays now before i lt unknown =
    elim (cases_eq i at) [
      | inl is ↦
          subst (λ k. told_at told (get_or xs k 0) ≡ None) (sym is) (now (subst (λ k. level_at new (get_or xs k 0) ≡ Unknown) is unknown))
      | inr other ↦ before i (omega arith) (stays (get_or xs i 0) unknown)
    ]

pub quiet_next : (first old new : List ℕ) (changed result : Bool) → (changed ≡ false → old ≡ first) → (result ≡ false → new ≡ old)
    → (changed || result) ≡ false → new ≡ first
quiet_next first old new false false before now e = now refl ∙ before refl
quiet_next first old new false true before now e = absurd (cc)
quiet_next first old new true result before now e = absurd (cc)

pub seen_apart : (seen : List Bool) (net k : ℕ) → get_or seen net false ≡ true → get_or seen k false ≡ false → net ≢ k
seen_apart seen net k lit due same = let there : get_or seen k false ≡ true = subst (λ n. get_or seen n false ≡ true) same lit in cc
