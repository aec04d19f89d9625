-- How many edges of a part cross a place, by the size of the part.
use Rattle.std.proofs.Common.{◌≡◌, ◌⊎◌, ℕ, ◌+◌, ◌<◌, ◌≤◌, ◌^◌, Bool, true, false, not, nat_lt, nat_le, cond, refl, inl, inr, arith}
use Rattle.std.proofs.Math.Pow.{pow_mono}
use Rattle.std.proofs.lemmas.Bool.{cases_lt, and_parts, ltb-true, ltb-false, leb-true, not-true}
use Rattle.light_order.specs.Crossings.{is_across}
use Rattle.light_order.proofs.Powers.{twice}

-- x tells whether an edge from number i to number k may cross
pub record Across (from to place i k x : ℕ) : Type 0 where
  pub one : x ≤ 1
  pub begins : 1 ≤ x → from ≤ i
  pub ends : 1 ≤ x → k < to
  pub behind : 1 ≤ x → i < place
  pub before : 1 ≤ x → place ≤ k

-- it does not cross where both numbers are behind the place, or both before it
none_by : (x : ℕ) → x ≤ 1 → (x < 1) ⊎ (1 ≤ x) → (1 ≤ x → ⊥) → x ≡ 0
none_by x one (inl h) n = omega arith
none_by x one (inr h) n = absurd (n h)

pub all_behind : (from to place i k x : ℕ) → Across from to place i k x → place ≤ i → x ≡ 0
all_behind from to place i k x a h = none_by x a.one (cases_lt x 1) (λ some. let b : i < place = a.behind some in omega arith)

pub all_before : (from to place i k x : ℕ) → Across from to place i k x → k < place → x ≡ 0
all_before from to place i k x a h = none_by x a.one (cases_lt x 1) (λ some. let b : place ≤ k = a.before some in omega arith)

parts_it : (place i k : ℕ) (b : Bool) → nat_lt i place ≡ b → i < k → cond b (not (nat_lt k place)) (nat_lt k place) ≡ true → (i < place) × (place ≤ k)
parts_it place i k true e lt h = (ltb-true i place e, ltb-false k place (not-true _ h))
parts_it place i k false e lt h = let a : k < place = ltb-true k place h in let b : place ≤ i = ltb-false i place e in absurd (omega arith)

record Passed (from to place i k : ℕ) : Type 0 where
  begins : from ≤ i
  ends : k < to
  behind : i < place
  before : place ≤ k

passed : (from to place i k : ℕ) → i < k → is_across from to place i k ≡ true → Passed from to place i k
passed from to place i k lt h =
    let a = and_parts (nat_le from i) _ h in
    let b = and_parts (nat_lt i to) _ a.1 in
    let c = and_parts (nat_le from k) _ b.1 in
    let d = and_parts (nat_lt k to) _ c.1 in
    let e = parts_it place i k (nat_lt i place) refl lt d.1 in
    record { begins = leb-true from i a.0; ends = ltb-true k to d.0; behind = e.0; before = e.1 }

across_by : (from to place i k : ℕ) (b : Bool) → is_across from to place i k ≡ b → i < k → Across from to place i k (cond b 1 0)
across_by from to place i k true e lt = let p = passed from to place i k lt e in
    record { one = omega arith; begins = λ h. p.begins; ends = λ h. p.ends; behind = λ h. p.behind; before = λ h. p.before }
across_by from to place i k false e lt =
    record { one = omega arith; begins = λ h. absurd (omega arith); ends = λ h. absurd (omega arith); behind = λ h. absurd (omega arith); before = λ h. absurd (omega arith) }

pub across : (from to place i k : ℕ) → i < k → Across from to place i k (cond (is_across from to place i k) 1 0)
across from to place i k lt = across_by from to place i k (is_across from to place i k) refl lt

-- Of a part with `len` nodes from number `base` on s heavy edges cross the place, and r light ones.
pub record Held (from to place base len s r : ℕ) : Type 0 where
  pub outside : (place ≤ base) ⊎ (base + len ≤ place) → (s ≡ 0) × (r ≡ 0)
  pub size : 2 ^ (s + 1) ≤ len + 1
  pub room : 1 ≤ s → from + 2 ^ s + 1 ≤ to
  pub light : r ≤ 1

pub held_leaf : (from to place base s r : ℕ) → s ≡ 0 → r ≡ 0 → Held from to place base 1 s r
held_leaf from to place base s r a b = record { outside = λ h. (a, b); size = rw a (omega arith); room = λ h. absurd (omega arith); light = omega arith }

module _ (from to place base low high sl rl sh rh x y s r : ℕ) (fewer : low ≤ high) (some : 1 ≤ low)
    (hl : Held from to place (base + 1) low sl rl) (hh : Held from to place (base + 1 + low) high sh rh) (ax : Across from to place base (base + 1 + low) x)
    (ay : Across from to place base (base + 1) y) (es : s ≡ x + (sl + sh)) (er : r ≡ y + (rl + rh)) where
  x_behind : place ≤ base → x ≡ 0
  x_behind = all_behind from to place base (base + 1 + low) x ax

  x_before : base + 1 + low < place → x ≡ 0
  x_before = all_before from to place base (base + 1 + low) x ax

  y_behind : place ≤ base → y ≡ 0
  y_behind = all_behind from to place base (base + 1) y ay

  y_before : base + 1 < place → y ≡ 0
  y_before = all_before from to place base (base + 1) y ay

  outside : (place ≤ base) ⊎ (base + (1 + (low + high)) ≤ place) → (s ≡ 0) × (r ≡ 0)
  outside (inl p) =
      let a = hl.outside (inl (omega arith)) in
      let b = hh.outside (inl (omega arith)) in
      (omega (arith, a.0, b.0, x_behind (omega arith)), omega (arith, a.1, b.1, y_behind (omega arith)))
  outside (inr p) =
      let a = hl.outside (inr (omega arith)) in
      let b = hh.outside (inr (omega arith)) in
      (omega (arith, a.0, b.0, x_before (omega arith)), omega (arith, a.1, b.1, y_before (omega arith)))

  size_by : (place < base + 1 + low + 1) ⊎ (base + 1 + low + 1 ≤ place) → 2 ^ (s + 1) ≤ 1 + (low + high) + 1
  size_by (inl p) =
      let b = hh.outside (inl (omega arith)) in
      let le : s + 1 ≤ sl + 1 + 1 = omega (arith, b.0, ax.one) in
      omega (arith, pow_mono le, twice (sl + 1), hl.size)
  size_by (inr p) =
      let a = hl.outside (inr (omega arith)) in
      let e : s ≡ sh = omega (arith, a.0, x_before (omega arith)) in
      rw e (omega (arith, hh.size))

  room_two : (x < 1) ⊎ (1 ≤ x) → sh ≡ 0 → 1 ≤ s → from + 2 ^ s + 1 ≤ to
  room_two (inl none) z h = let e : s ≡ sl = omega arith in rw e (hl.room (omega arith))
  room_two (inr one) z h = let e : s ≡ sl + 1 = omega (arith, ax.one) in rw e (omega (arith, hl.size, ax.begins one, ax.ends one))

  room_by : (place < base + 1 + low + 1) ⊎ (base + 1 + low + 1 ≤ place) → 1 ≤ s → from + 2 ^ s + 1 ≤ to
  room_by (inl p) h = room_two (cases_lt x 1) (hh.outside (inl (omega arith))).0 h
  room_by (inr p) h =
      let a = hl.outside (inr (omega arith)) in
      let e : s ≡ sh = omega (arith, a.0, x_before (omega arith)) in
      rw e (hh.room (omega arith))

  light_by : (place < base + 1 + 1) ⊎ (base + 1 + 1 ≤ place) → (place < base + 1 + low + 1) ⊎ (base + 1 + low + 1 ≤ place) → r ≤ 1
  light_by (inl p) q = omega (arith, (hl.outside (inl (omega arith))).1, (hh.outside (inl (omega arith))).1, ay.one)
  light_by (inr p) (inl q) = omega (arith, (hh.outside (inl (omega arith))).1, y_before (omega arith), hl.light)
  light_by (inr p) (inr q) = omega (arith, (hl.outside (inr (omega arith))).1, y_before (omega arith), hh.light)

  pub held_fork : Held from to place base (1 + (low + high)) s r
  held_fork = record {
    outside = outside;
    size = size_by (cases_lt place (base + 1 + low + 1));
    room = room_by (cases_lt place (base + 1 + low + 1));
    light = light_by (cases_lt place (base + 1 + 1)) (cases_lt place (base + 1 + low + 1));
  }

pub held_same : (from to place base len s r len' s' r' : ℕ) → len' ≡ len → s' ≡ s → r' ≡ r → Held from to place base len s r → Held from to place base len' s' r'
held_same from to place base len s r len' s' r' a b c h = rw (a, b, c) h
