-- Whether a net's group has a net of some kind, by steps that look one device further.
use Rattle.std.proofs.Common.{◌≡◌, ◌⊎◌, inl, inr, ℕ, zero, suc, ◌+◌, ◌<◌, ◌≤◌, ◌==◌, nat_lt, ◌&&◌, ◌||◌, not, Bool, true, false, List, [], ◌∷◌, Option, Some, None, refl, sym, ◌∙◌, subst, arith}
use Rattle.std.proofs.lemmas.Bool.{cases_Bool, ltb-true, ltb-false, eqb-true, eqb-false}
use Rattle.switch_net.specs.Circuit.{Circuit}
use Rattle.switch_net.specs.Settling.{Values, fixed_level, Joins, HasLoad, IsFree, Grouped, Source, Loaded, IsPulledHigh}
use Rattle.switch_net.specs.Settling.Grouped.{here, step}
use Rattle.switch_net.specs.declared.network.Device.{Device}
use Rattle.switch_net.specs.declared.network.Device.TheVariants.{Pass, Load}

-- ---- tests

both_true : (a b : Bool) → (a && b) ≡ true → (a ≡ true) × (b ≡ true)
both_true true b e = (refl, e)
both_true false b e = absurd (cc)

are_true : (a b : Bool) → a ≡ true → b ≡ true → (a && b) ≡ true
are_true true b e f = f
are_true false b e f = absurd (cc)

either_true : (a b : Bool) → (a || b) ≡ true → (a ≡ true) ⊎ (b ≡ true)
either_true true b e = inl refl
either_true false b e = inr e

left_true : (a b : Bool) → a ≡ true → (a || b) ≡ true
left_true true b e = refl
left_true false b e = absurd (cc)

right_true : (a b : Bool) → b ≡ true → (a || b) ≡ true
right_true true b e = refl
right_true false b e = e

-- ---- how many numbers below a bound have a mark

abbrev one_if : Bool → ℕ
one_if true = 1
one_if false = 0

abbrev pub count_below : (ℕ → Bool) → ℕ → ℕ
count_below s zero = 0
count_below s (suc n) = count_below s n + one_if (s n)

pub count_most : (s : ℕ → Bool) (n : ℕ) → count_below s n ≤ n
count_most s zero = omega arith
count_most s (suc n) = by (s n) (count_most s n)
  where
    by : (b : Bool) → count_below s n ≤ n → count_below s n + one_if b ≤ suc n
    by true e = omega arith
    by false e = omega arith

-- where all marks of the first are marks of the second, they are the same, or the second has more
-- the same marks are as many
count_same : (s t : ℕ → Bool) (n : ℕ) → ((k : ℕ) → k < n → s k ≡ true → t k ≡ true) → ((k : ℕ) → k < n → t k ≡ true → s k ≡ true)
    → count_below s n ≡ count_below t n
count_same s t zero one other = refl
count_same s t (suc n) one other =
    let rest = count_same s t n (λ k lt. one k (omega arith)) (λ k lt. other k (omega arith)) in
    let last : s n ≡ t n = alike (s n) (t n) (one n (omega arith)) (other n (omega arith)) in
    rw (rest, last) refl
  where
    alike : (a b : Bool) → (a ≡ true → b ≡ true) → (b ≡ true → a ≡ true) → a ≡ b
    alike true b f g = sym (f refl)
    alike false true f g = g refl
    alike false false f g = refl

pub count_more : (s t : ℕ → Bool) (n : ℕ) → ((k : ℕ) → k < n → s k ≡ true → t k ≡ true)
    → ((k : ℕ) → k < n → t k ≡ true → s k ≡ true) ⊎ (count_below s n < count_below t n)
count_more s t zero more = inl (λ k lt e. absurd (omega arith))
count_more s t (suc n) more = by (s n) (t n) refl refl (count_more s t n (λ k lt e. more k (omega arith) e))
  where
    last : (k : ℕ) → k < suc n → (k < n) ⊎ (k ≡ n)
    last k lt = elim (cases_Bool (nat_lt k n)) [ inl y ↦ inl (ltb-true _ _ y) | inr z ↦ inr (let ge = ltb-false _ _ z in omega arith) ]

    by : (a b : Bool) → s n ≡ a → t n ≡ b → ((k : ℕ) → k < n → t k ≡ true → s k ≡ true) ⊎ (count_below s n < count_below t n)
        → ((k : ℕ) → k < suc n → t k ≡ true → s k ≡ true) ⊎ (count_below s n + one_if a < count_below t n + one_if b)
    by true b e f old =
        let on : t n ≡ true = more n (omega arith) e in
        let h : b ≡ true = sym f ∙ on in
        rw h (elim old [
          | inl same ↦ inl (λ k lt g. elim (last k lt) [ inl below ↦ same k below g | inr top ↦ rw top e ])
          | inr less ↦ inr (omega arith)
        ])
    by false true e f (inl same) = inr (by_same same)
      where
        by_same : ((k : ℕ) → k < n → t k ≡ true → s k ≡ true) → count_below s n + 0 < count_below t n + 1
        by_same same = let h = count_same s t n (λ k lt g. more k (omega arith) g) same in omega arith
    by false true e f (inr less) = inr (omega arith)
    by false false e f (inl same) = inl (λ k lt g. elim (last k lt) [
      | inl below ↦ same k below g
      | inr top ↦ let h : t n ≡ true = subst (λ m. t m ≡ true) top g in absurd (cc)
    ])
    by false false e f (inr less) = inr (omega arith)

-- ---- whether a device leads from a net to one of some kind

module _ (v : Values) where
  abbrev leads : List Device → (ℕ → Bool) → ℕ → Bool
  leads [] s a = false
  leads (Load net ∷ devices) s a = leads devices s a
  leads (Pass gate x y ∷ devices) s a = (v gate.0 && ((x.0 == a && s y.0) || (y.0 == a && s x.0))) || leads devices s a

  -- a device joins the net to one of the kind
  abbrev Leads : List Device → (ℕ → Bool) → ℕ → Type 0
  Leads devices s a = (b : ℕ) × Joins devices v a b × (s b ≡ true)

  leads_is : (devices : List Device) (s : ℕ → Bool) (a : ℕ) → leads devices s a ≡ true → Leads devices s a
  leads_is [] s a e = absurd (cc)
  leads_is (Load net ∷ devices) s a e = leads_is devices s a e
  leads_is (Pass gate x y ∷ devices) s a e =
      elim (either_true (v gate.0 && ((x.0 == a && s y.0) || (y.0 == a && s x.0))) (leads devices s a) e) [
        | inl first ↦
            let h = both_true (v gate.0) ((x.0 == a && s y.0) || (y.0 == a && s x.0)) first in
            elim (either_true (x.0 == a && s y.0) (y.0 == a && s x.0) h.1) [
              | inl at_x ↦ let k = both_true (x.0 == a) (s y.0) at_x in (y.0, inl (h.0, inl (eqb-true _ _ k.0, refl)), k.1)
              | inr at_y ↦ let k = both_true (y.0 == a) (s x.0) at_y in (x.0, inl (h.0, inr (eqb-true _ _ k.0, refl)), k.1)
            ]
        | inr later ↦ let h = leads_is devices s a later in (h.0, inr h.1, h.2)
      ]

  is_eq : (a b : ℕ) → a ≡ b → (a == b) ≡ true
  is_eq a b e = elim (cases_Bool (a == b)) [ inl y ↦ y | inr n ↦ absurd (eqb-false _ _ n e) ]

  is_leads : (devices : List Device) (s : ℕ → Bool) (a b : ℕ) → Joins devices v a b → s b ≡ true → leads devices s a ≡ true
  is_leads [] s a b j e = absurd j
  is_leads (Load net ∷ devices) s a b j e = is_leads devices s a b j e
  is_leads (Pass gate x y ∷ devices) s a b (inl j) e =
      left_true (v gate.0 && ((x.0 == a && s y.0) || (y.0 == a && s x.0))) (leads devices s a)
      (are_true (v gate.0) ((x.0 == a && s y.0) || (y.0 == a && s x.0)) j.0 (by j.1))
    where
      by : ((x.0 ≡ a) × (y.0 ≡ b)) ⊎ ((y.0 ≡ a) × (x.0 ≡ b)) → ((x.0 == a && s y.0) || (y.0 == a && s x.0)) ≡ true
      by (inl h) = left_true (x.0 == a && s y.0) (y.0 == a && s x.0) (are_true (x.0 == a) (s y.0) (is_eq _ _ h.0) (rw (h.1) e))
      by (inr h) = right_true (x.0 == a && s y.0) (y.0 == a && s x.0) (are_true (y.0 == a) (s x.0) (is_eq _ _ h.0) (rw (h.1) e))
  is_leads (Pass gate x y ∷ devices) s a b (inr j) e =
      right_true (v gate.0 && ((x.0 == a && s y.0) || (y.0 == a && s x.0))) (leads devices s a) (is_leads devices s a b j e)

-- ---- whether a group has a net of some kind

module _ (circuit : Circuit) (drives : List Bool) (v : Values) where
  abbrev is_none : Option Bool → Bool
  is_none None = true
  is_none (Some level) = false

  abbrev is_free : ℕ → Bool
  is_free net = nat_lt net circuit.nets && is_none (fixed_level circuit.pads drives net)

  none_is : (f : Option Bool) → is_none f ≡ true → f ≡ None
  none_is None e = refl
  none_is (Some level) e = absurd (cc)

  free_is : (net : ℕ) → is_free net ≡ true → IsFree circuit drives net
  free_is net e =
      let h = both_true (nat_lt net circuit.nets) (is_none (fixed_level circuit.pads drives net)) e in
      (ltb-true _ _ h.0, none_is (fixed_level circuit.pads drives net) h.1)

  is_free_true : (net : ℕ) → IsFree circuit drives net → is_free net ≡ true
  is_free_true net free =
      let fixed = free.1 in
      let below = free.0 in
      are_true (nat_lt net circuit.nets) (is_none (fixed_level circuit.pads drives net))
      (elim (cases_Bool (nat_lt net circuit.nets)) [ inl y ↦ y | inr z ↦ let ge = ltb-false _ _ z in absurd (omega arith) ])
      (rw fixed refl)

  module _ (kind : ℕ → Bool) where
    -- the group of the net has a net of the kind
    abbrev pub Has : ℕ → Type 0
    Has net = (m : ℕ) × Grouped circuit drives v net m × (kind m ≡ true)

    -- found by so many steps
    abbrev found : ℕ → ℕ → Bool
    found zero a = kind a
    found (suc n) a = found n a || leads v circuit.devices (λ b. is_free b && found n b) a

    found_is : (n a : ℕ) → found n a ≡ true → Has a
    found_is zero a e = (a, here a, e)
    found_is (suc n) a e =
        elim (either_true (found n a) (leads v circuit.devices (λ b. is_free b && found n b) a) e) [
          | inl before ↦ found_is n a before
          | inr now ↦
              let h = leads_is v circuit.devices (λ b. is_free b && found n b) a now in
              let k = both_true (is_free h.0) (found n h.0) h.2 in
              let rest = found_is n h.0 k.1 in
              (rest.0, step a h.0 rest.0 h.1 (free_is h.0 k.0) rest.1, rest.2)
        ]

    -- one step more finds no other net of the circuit
    abbrev Closed : ℕ → Type 0
    Closed n = (a : ℕ) → a < circuit.nets → found (suc n) a ≡ true → found n a ≡ true

    kept : (n a : ℕ) → found n a ≡ true → found (suc n) a ≡ true
    kept n a e = left_true (found n a) (leads v circuit.devices (λ b. is_free b && found n b) a) e

    closed_more : (n : ℕ) → Closed n → Closed (suc n)
    closed_more n closed a lt e =
        elim (either_true (found (suc n) a) (leads v circuit.devices (λ b. is_free b && found (suc n) b) a) e) [
          | inl before ↦ before
          | inr now ↦
              let h = leads_is v circuit.devices (λ b. is_free b && found (suc n) b) a now in
              let k = both_true (is_free h.0) (found (suc n) h.0) h.2 in
              right_true (found n a) (leads v circuit.devices (λ b. is_free b && found n b) a)
              (is_leads v circuit.devices (λ b. is_free b && found n b) a h.0 h.1
              (are_true (is_free h.0) (found n h.0) k.0 (closed h.0 (free_is h.0 k.0).0 k.1)))
        ]

    closed_or : (n : ℕ) → Closed n ⊎ (n ≤ count_below (found n) circuit.nets)
    closed_or zero = inr (omega arith)
    closed_or (suc n) = by (closed_or n) (count_more (found n) (found (suc n)) circuit.nets (λ k lt e. kept n k e))
      where
        by : Closed n ⊎ (n ≤ count_below (found n) circuit.nets) → Closed n ⊎ (count_below (found n) circuit.nets < count_below (found (suc n)) circuit.nets)
            → Closed (suc n) ⊎ (suc n ≤ count_below (found (suc n)) circuit.nets)
        by (inl closed) next = inl (closed_more n closed)
        by (inr many) (inl closed) = inl (closed_more n closed)
        by (inr many) (inr more) = inr (omega arith)

    all_closed : Closed circuit.nets
    all_closed = by (closed_or circuit.nets) (count_more (found circuit.nets) (found (suc circuit.nets)) circuit.nets (λ k lt e. kept circuit.nets k e))
      where
        by : Closed circuit.nets ⊎ (circuit.nets ≤ count_below (found circuit.nets) circuit.nets)
            → Closed circuit.nets ⊎ (count_below (found circuit.nets) circuit.nets < count_below (found (suc circuit.nets)) circuit.nets)
            → Closed circuit.nets
        by (inl closed) next = closed
        by (inr many) (inl closed) = closed
        by (inr many) (inr more) = let most = count_most (found (suc circuit.nets)) circuit.nets in absurd (omega arith)

    kind_found : (n a : ℕ) → kind a ≡ true → found n a ≡ true
    kind_found zero a e = e
    kind_found (suc n) a e = kept n a (kind_found n a e)

    is_found : (a m : ℕ) → a < circuit.nets → Grouped circuit drives v a m → kind m ≡ true → found circuit.nets a ≡ true
    is_found _ _ lt (here a) e = kind_found circuit.nets a e
    is_found _ _ lt (step a b m j f r) e =
        all_closed a lt (right_true (found circuit.nets a) (leads v circuit.devices (λ b. is_free b && found circuit.nets b) a)
        (is_leads v circuit.devices (λ b. is_free b && found circuit.nets b) a b j
        (are_true (is_free b) (found circuit.nets b) (is_free_true b f) (is_found b m f.0 r e))))

    -- the group has such a net, or none
    pub has_or_not : (net : ℕ) → net < circuit.nets → Has net ⊎ ¬ Has net
    has_or_not net lt = elim (cases_Bool (found circuit.nets net)) [
      | inl t ↦ inl (found_is circuit.nets net t)
      | inr n ↦ inr (λ h. let e = is_found net h.0 lt h.1 h.2 in absurd (cc))
    ]

  -- ---- what pulls a net

  abbrev is_at : Bool → Option Bool → Bool
  is_at level None = false
  is_at true (Some fixed) = fixed
  is_at false (Some fixed) = not fixed

  at_is : (level : Bool) (f : Option Bool) → is_at level f ≡ true → f ≡ Some level
  at_is level None e = absurd (cc)
  at_is true (Some true) e = refl
  at_is true (Some false) e = absurd (cc)
  at_is false (Some true) e = absurd (cc)
  at_is false (Some false) e = refl

  is_at_true : (level : Bool) (f : Option Bool) → f ≡ Some level → is_at level f ≡ true
  is_at_true true f e = rw e refl
  is_at_true false f e = rw e refl

  abbrev is_beside : Bool → ℕ → Bool
  is_beside level a = leads v circuit.devices (λ b. is_at level (fixed_level circuit.pads drives b)) a

  pub source_or_not : (level : Bool) (net : ℕ) → net < circuit.nets → Source circuit drives v level net ⊎ ¬ Source circuit drives v level net
  source_or_not level net lt =
      elim (has_or_not (is_beside level) net lt) [
        | inl h ↦
            let k = leads_is v circuit.devices (λ b. is_at level (fixed_level circuit.pads drives b)) h.0 h.2 in
            inl (record { from = h.0; to = k.0; grouped = h.1; joined = k.1; fixed = at_is level (fixed_level circuit.pads drives k.0) k.2 })
        | inr none ↦ inr (λ s. none (
          s.from,
          s.grouped,
          is_leads v circuit.devices (λ b. is_at level (fixed_level circuit.pads drives b)) s.from s.to s.joined
              (is_at_true level (fixed_level circuit.pads drives s.to) s.fixed),
        ))
      ]

  abbrev has_load : List Device → ℕ → Bool
  has_load [] a = false
  has_load (Pass gate x y ∷ devices) a = has_load devices a
  has_load (Load net ∷ devices) a = net.0 == a || has_load devices a

  load_is : (devices : List Device) (a : ℕ) → has_load devices a ≡ true → HasLoad devices a
  load_is [] a e = absurd (cc)
  load_is (Pass gate x y ∷ devices) a e = load_is devices a e
  load_is (Load net ∷ devices) a e =
      elim (either_true (net.0 == a) (has_load devices a) e) [ inl first ↦ inl (eqb-true _ _ first) | inr later ↦ inr (load_is devices a later) ]

  is_load : (devices : List Device) (a : ℕ) → HasLoad devices a → has_load devices a ≡ true
  is_load [] a h = absurd h
  is_load (Pass gate x y ∷ devices) a h = is_load devices a h
  is_load (Load net ∷ devices) a (inl e) = left_true (net.0 == a) (has_load devices a) (is_eq v _ _ e)
  is_load (Load net ∷ devices) a (inr h) = right_true (net.0 == a) (has_load devices a) (is_load devices a h)

  loaded_or_not : (net : ℕ) → net < circuit.nets → Loaded circuit drives v net ⊎ ¬ Loaded circuit drives v net
  loaded_or_not net lt =
      elim (has_or_not (has_load circuit.devices) net lt) [
        | inl h ↦ inl (record { at = h.0; grouped = h.1; load = load_is circuit.devices h.0 h.2 })
        | inr none ↦ inr (λ l. none (l.at, l.grouped, is_load circuit.devices l.at l.load))
      ]

  pub high_or_not : (net : ℕ) → net < circuit.nets → IsPulledHigh circuit drives v net ⊎ ¬ IsPulledHigh circuit drives v net
  high_or_not net lt =
      elim (source_or_not true net lt) [
        | inl s ↦ inl (inl s)
        | inr none ↦ elim (loaded_or_not net lt) [
          | inl l ↦ inl (inr l)
          | inr bare ↦ inr (λ h. elim h [ inl s ↦ none s | inr l ↦ bare l ])
        ]
      ]
