-- Where a column lies along a run, and which of its sides the run crosses.
use Rattle.std.proofs.Common.{◌≡◌, ℕ, ◌+◌, ◌<◌, ◌≤◌, ◌⊎◌, inl, inr, Bool, true, false, ◌&&◌, ◌||◌, Option, Some, None, refl, sym, ap, ap₂, subst, arith}
use Rattle.std.proofs.lemmas.Bool.{cases_order, and_from, and_parts, or_left, or_right, lt-ltb, le-ltb, ltb-true, le-leb, lt-leb, leb-true, eq-eqb, ne_eqb}
use Rattle.wiring.specs.Wirings.{begins_before, ends_behind, is_end}
use Rattle.wiring.specs.WiringNets.{AreEnds, IsEastOf, IsWestOf}

-- Whether a run has begun at the west and at the east side of a column, and whether it begins there.
record Begins (from : Option ℕ) (col : ℕ) (west east end : Bool) : Type 0 where
  is_west : begins_before from col ≡ west
  is_east : begins_before from (col + 1) ≡ east
  is_there : is_end col from ≡ end

-- Whether it goes on at these sides, and whether it ends there.
record Ends (to : Option ℕ) (col : ℕ) (west east end : Bool) : Type 0 where
  is_west : ends_behind to col ≡ west
  is_east : ends_behind to (col + 1) ≡ east
  is_there : is_end col to ≡ end

begun : (from : Option ℕ) (col : ℕ) → IsEastOf from col → Begins from col true true false
begun None col h = record { is_west = refl; is_east = refl; is_there = refl }
begun (Some a) col h = record { is_west = lt-ltb a col h; is_east = lt-ltb a (col + 1) (omega arith); is_there = ne_eqb a col (λ e. omega arith) }

begins : (a col : ℕ) → col ≡ a → Begins (Some a) col false true true
begins a col e = record { is_west = le-ltb a col (omega arith); is_east = lt-ltb a (col + 1) (omega arith); is_there = eq-eqb a col (sym e) }

to_begin : (a col : ℕ) → col < a → Begins (Some a) col false false false
to_begin a col h =
    record { is_west = le-ltb a col (omega arith); is_east = le-ltb a (col + 1) (omega arith); is_there = ne_eqb a col (λ e. omega arith) }

goes_on : (to : Option ℕ) (col : ℕ) → IsWestOf to col → Ends to col true true false
goes_on None col h = record { is_west = refl; is_east = refl; is_there = refl }
goes_on (Some b) col h =
    record { is_west = le-leb col b (omega arith); is_east = le-leb (col + 1) b (omega arith); is_there = ne_eqb b col (λ e. omega arith) }

ends : (b col : ℕ) → col ≡ b → Ends (Some b) col true false true
ends b col e = record { is_west = le-leb col b (omega arith); is_east = lt-leb (col + 1) b (omega arith); is_there = eq-eqb b col (sym e) }

ended : (b col : ℕ) → b < col → Ends (Some b) col false false false
ended b col h = record { is_west = lt-leb col b h; is_east = lt-leb (col + 1) b (omega arith); is_there = ne_eqb b col (λ e. omega arith) }

-- The run crosses the west side of the column, and the east side, and ends there.
pub record Sides (from to : Option ℕ) (col : ℕ) (west east end : Bool) : Type 0 where
  pub is_west : (begins_before from col && ends_behind to col) ≡ west
  pub is_east : (begins_before from (col + 1) && ends_behind to (col + 1)) ≡ east
  pub is_there : (is_end col from || is_end col to) ≡ end

sides : (from to : Option ℕ) (col : ℕ) (p q k r s l : Bool) → Begins from col p q k → Ends to col r s l → Sides from to col (p && r) (q && s) (k || l)
sides from to col p q k r s l h g = record {
  is_west = ap₂ ◌&&◌ h.is_west g.is_west;
  is_east = ap₂ ◌&&◌ h.is_east g.is_east;
  is_there = ap₂ ◌||◌ h.is_there g.is_there;
}

pub data Place (from to : Option ℕ) (col : ℕ) : Type 0 where
  first : from ≡ Some col → Sides from to col false true true → Place from to col
  last : to ≡ Some col → Sides from to col true false true → Place from to col
  within : IsEastOf from col → IsWestOf to col → Sides from to col true true false → Place from to col
  outside : Sides from to col false false false → Place from to col

pub place : (from to : Option ℕ) (cols col : ℕ) → AreEnds cols from to → Place from to col
place None None cols col h = within tt tt (sides None None col true true false true true false (begun None col tt) (goes_on None col tt))
place (Some a) None cols col h = elim (cases_order col a) [
  | inl e ↦ first (ap (λ (x : ℕ). Some x) (sym e)) (sides (Some a) None col false true true true true false (begins a col e) (goes_on None col tt))
  | inr (inl l) ↦ outside (sides (Some a) None col false false false true true false (to_begin a col l) (goes_on None col tt))
  | inr (inr l) ↦ within l tt (sides (Some a) None col true true false true true false (begun (Some a) col l) (goes_on None col tt))
]
place None (Some b) cols col h = elim (cases_order col b) [
  | inl e ↦ last (ap (λ (x : ℕ). Some x) (sym e)) (sides None (Some b) col true true false true false true (begun None col tt) (ends b col e))
  | inr (inl l) ↦ within tt l (sides None (Some b) col true true false true true false (begun None col tt) (goes_on (Some b) col l))
  | inr (inr l) ↦ outside (sides None (Some b) col true true false false false false (begun None col tt) (ended b col l))
]
place (Some a) (Some b) cols col h = elim (cases_order col a) [
  | inl e ↦
      first (ap (λ (x : ℕ). Some x) (sym e))
      (sides (Some a) (Some b) col false true true true true false (begins a col e) (goes_on (Some b) col (let o = h.0 in omega arith)))
  | inr (inl l) ↦
      outside (sides (Some a) (Some b) col false false false true true false (to_begin a col l)
      (goes_on (Some b) col (let o = h.0 in omega arith)))
  | inr (inr l) ↦ elim (cases_order col b) [
    | inl e ↦
        last (ap (λ (x : ℕ). Some x) (sym e))
        (sides (Some a) (Some b) col true true false true false true (begun (Some a) col l) (ends b col e))
    | inr (inl u) ↦ within l u (sides (Some a) (Some b) col true true false true true false (begun (Some a) col l) (goes_on (Some b) col u))
    | inr (inr u) ↦ outside (sides (Some a) (Some b) col true true false false false false (begun (Some a) col l) (ended b col u))
  ]
]

-- ---- columns on a run

-- The run crosses a side of the column.
pub record OnRun (from to : Option ℕ) (col : ℕ) : Type 0 where
  pub begun : begins_before from (col + 1) ≡ true
  pub not_over : ends_behind to col ≡ true

begins_later : (from : Option ℕ) (col : ℕ) → begins_before from col ≡ true → begins_before from (col + 1) ≡ true
begins_later None col h = refl
begins_later (Some a) col h = let l = ltb-true a col h in lt-ltb a (col + 1) (omega arith)

ends_earlier : (to : Option ℕ) (col : ℕ) → ends_behind to (col + 1) ≡ true → ends_behind to col ≡ true
ends_earlier None col h = refl
ends_earlier (Some b) col h = let l = leb-true (col + 1) b h in le-leb col b (omega arith)

pub from_west : (from to : Option ℕ) (col : ℕ) → (begins_before from col && ends_behind to col) ≡ true → OnRun from to col
from_west from to col h =
    let p = and_parts (begins_before from col) (ends_behind to col) h in
    record { begun = begins_later from col p.0; not_over = p.1 }

pub from_east : (from to : Option ℕ) (col : ℕ) → (begins_before from (col + 1) && ends_behind to (col + 1)) ≡ true → OnRun from to col
from_east from to col h =
    let p = and_parts (begins_before from (col + 1)) (ends_behind to (col + 1)) h in
    record { begun = p.0; not_over = ends_earlier to col p.1 }

-- the first column of a run
abbrev pub start_of : Option ℕ → ℕ
start_of None = 0
start_of (Some col) = col

pub from_start : (from : Option ℕ) (col : ℕ) → begins_before from (col + 1) ≡ true → start_of from ≤ col
from_start None col h = omega arith
from_start (Some a) col h = let l = ltb-true a (col + 1) h in omega arith

begun_between : (from : Option ℕ) (border : ℕ) → start_of from < border → begins_before from border ≡ true
begun_between None border l = refl
begun_between (Some a) border l = lt-ltb a border l

goes_on_between : (to : Option ℕ) (col border : ℕ) → ends_behind to col ≡ true → border ≤ col → ends_behind to border ≡ true
goes_on_between None col border h l = refl
goes_on_between (Some b) col border h l = let u = leb-true col b h in le-leb border b (omega arith)

-- All borders from the first column to one on the run are crossed.
pub between : (from to : Option ℕ) (col border : ℕ) → OnRun from to col → start_of from < border → border ≤ col
    → (begins_before from border && ends_behind to border) ≡ true
between from to col border on l u =
    and_from (begins_before from border) (ends_behind to border) (begun_between from border l) (goes_on_between to col border on.not_over u)

-- The run crosses the west or the east side of its first column, which the plan has.
pub record Starts (from to : Option ℕ) (cols : ℕ) : Type 0 where
  pub inside : start_of from < cols
  pub crossed : ((begins_before from (start_of from) && ends_behind to (start_of from)) ≡ true)
      ⊎ ((begins_before from (start_of from + 1) && ends_behind to (start_of from + 1)) ≡ true)

pub starts : (from to : Option ℕ) (cols : ℕ) → 1 ≤ cols → AreEnds cols from to → Starts from to cols
starts None None cols some h = record { inside = omega arith; crossed = inl refl }
starts None (Some b) cols some h = record { inside = omega arith; crossed = inl (le-leb 0 b (omega arith)) }
starts (Some a) None cols some h =
    record { inside = h; crossed = inr (and_from (begins_before (Some a) (a + 1)) true (lt-ltb a (a + 1) (omega arith)) refl) }
starts (Some a) (Some b) cols some h =
    let l = h.0 in
    let u = h.1 in
    record {
      inside = omega arith;
      crossed =
          inr (and_from (begins_before (Some a) (a + 1)) (ends_behind (Some b) (a + 1)) (lt-ltb a (a + 1) (omega arith))
          (le-leb (a + 1) b (omega arith)));
    }

-- ---- where a run ends

begins_on : (from to : Option ℕ) (cols col : ℕ) → AreEnds cols from to → from ≡ Some col → OnRun from to col
begins_on None to cols col h e = absurd (cc)
begins_on (Some a) None cols col h e = let same : a ≡ col = cc in record { begun = lt-ltb a (col + 1) (omega arith); not_over = refl }
begins_on (Some a) (Some b) cols col h e =
    let same : a ≡ col = cc in
    let l = h.0 in
    record { begun = lt-ltb a (col + 1) (omega arith); not_over = le-leb col b (omega arith) }

ends_on : (from to : Option ℕ) (cols col : ℕ) → AreEnds cols from to → to ≡ Some col → OnRun from to col
ends_on from None cols col h e = absurd (cc)
ends_on None (Some b) cols col h e = let same : b ≡ col = cc in record { begun = refl; not_over = le-leb col b (omega arith) }
ends_on (Some a) (Some b) cols col h e =
    let same : b ≡ col = cc in
    let l = h.0 in
    record { begun = lt-ltb a (col + 1) (omega arith); not_over = le-leb col b (omega arith) }

pub end_on : (from to : Option ℕ) (cols col : ℕ) → AreEnds cols from to → (from ≡ Some col) ⊎ (to ≡ Some col) → OnRun from to col
end_on from to cols col h (inl e) = begins_on from to cols col h e
end_on from to cols col h (inr e) = ends_on from to cols col h e

pub end_there : (from to : Option ℕ) (col : ℕ) → (from ≡ Some col) ⊎ (to ≡ Some col) → (is_end col from || is_end col to) ≡ true
end_there from to col (inl e) =
    or_left (is_end col from) (is_end col to) (subst (λ (o : Option ℕ). is_end col o ≡ true) (sym e) (eq-eqb col col refl))
end_there from to col (inr e) =
    or_right (is_end col from) (is_end col to) (subst (λ (o : Option ℕ). is_end col o ≡ true) (sym e) (eq-eqb col col refl))
