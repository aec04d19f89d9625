-- Columns that are filled net by net.
use Rattle.std.proofs.Common.{◌≡◌, ◌≢◌, ℕ, zero, suc, ◌+◌, ◌*◌, ◌<◌, ◌≤◌, ◌==◌, cond, List, [], ◌∷◌, length, get_or, take, map, replicate, sym, ap, ◌∙◌, subst, inl, inr, arith}
use Rattle.std.specs.Prelude.{slice_set}
use Rattle.std.specs.List.{range_with_len}
use Rattle.std.proofs.lemmas.Bool.{cases_eq}
use Rattle.std.proofs.lemmas.List.{get_or-set_same, get_or-set_other, length-set, take_all, length-replicate, get_or-replicate}
use Rattle.std.proofs.lemmas.List.FromFn.{fill_by_all}
use Rattle.gate_matrix.specs.declared.column.Column.{Column}
use Rattle.gate_matrix.specs.declared.column.Column.TheVariants.{Load, Gate, Wire, Device, Free}
use Rattle.gate_matrix.specs.Columns.{wire_column, column_of, AreWiresFrom, AreWires}
use Rattle.gate_matrix.proofs.ColumnFacts.{wire_here, device_here, beyond}

pub room : (at : List ℕ) (cols first : ℕ) → AreWiresFrom first at cols → first ≤ cols
room [] cols first w = w
room (a ∷ at) cols first w = let rest = room at cols (a + 2) w.1 in let from = w.0 in omega arith

-- Each net takes two columns.
pub few_nets : (at : List ℕ) (cols first : ℕ) → AreWiresFrom first at cols → first + 2 * length at ≤ cols
few_nets [] cols first w = let h : first ≤ cols = w in omega arith
few_nets (a ∷ at) cols first w = let rest = few_nets at cols (a + 2) w.1 in let from = w.0 in omega arith

-- Each net has its column within the matrix, behind the first.
pub within : (at : List ℕ) (cols first i : ℕ) → AreWiresFrom first at cols → i < length at → (first ≤ get_or at i 0) × (get_or at i 0 + 2 ≤ cols)
within [] cols first i w few = absurd (omega arith)
within (a ∷ at) cols first zero w few = (w.0, room at cols (a + 2) w.1)
within (a ∷ at) cols first (suc i) w few =
    let rest = within at cols (a + 2) i w.1 (omega arith) in
    let from = w.0 in
    let low = rest.0 in
    (omega arith, rest.1)

-- One net more changes its own two columns alone.
pub next_wire : (at : List ℕ) (cols first net i col : ℕ) → AreWiresFrom first at cols → i < length at → get_or at i 0 ≡ col
    → wire_column (take (suc i) at) net col ≡ Wire (net + i)
next_wire [] cols first net i col w few e = absurd (omega arith)
next_wire (a ∷ at) cols first net zero col w few e = let n : net ≡ net + 0 = omega arith in wire_here a [] net col e ∙ ap (λ (k : ℕ). Wire k) n
next_wire (a ∷ at) cols first net (suc i) col w few e =
    let behind = within at cols (a + 2) i w.1 (omega arith) in
    let low = behind.0 in
    let n : suc net + i ≡ net + suc i = omega arith in
    beyond a (take (suc i) at) net col (λ h. omega arith) (λ h. omega arith)
    ∙ next_wire at cols (a + 2) (suc net) i col w.1 (omega arith) e ∙ ap (λ (k : ℕ). Wire k) n

pub next_device : (at : List ℕ) (cols first net i col : ℕ) → AreWiresFrom first at cols → i < length at → get_or at i 0 + 1 ≡ col
    → wire_column (take (suc i) at) net col ≡ Device (net + i)
next_device [] cols first net i col w few e = absurd (omega arith)
next_device (a ∷ at) cols first net zero col w few e = let n : net ≡ net + 0 = omega arith in device_here a [] net col e ∙ ap (λ (k : ℕ). Device k) n
next_device (a ∷ at) cols first net (suc i) col w few e =
    let behind = within at cols (a + 2) i w.1 (omega arith) in
    let low = behind.0 in
    let n : suc net + i ≡ net + suc i = omega arith in
    beyond a (take (suc i) at) net col (λ h. omega arith) (λ h. omega arith)
    ∙ next_device at cols (a + 2) (suc net) i col w.1 (omega arith) e ∙ ap (λ (k : ℕ). Device k) n

pub next_other : (at : List ℕ) (net i col : ℕ) → i < length at → (get_or at i 0 ≡ col → ⊥) → (get_or at i 0 + 1 ≡ col → ⊥)
    → wire_column (take (suc i) at) net col ≡ wire_column (take i at) net col
next_other [] net i col few h k = absurd (omega arith)
next_other (a ∷ at) net zero col few h k = beyond a [] net col h k
next_other (a ∷ at) net (suc i) col few h k =
    ap (λ rest. cond (a == col) (Wire net) (cond (a + 1 == col) (Device net) rest)) (next_other at (suc net) i col (omega arith) h k)

written : (xs : List Column) (j col : ℕ) (v : Column) → j ≡ col → j < length xs → get_or (slice_set xs j v) col Free ≡ v
written xs j col v e few = subst (λ (k : ℕ). get_or (slice_set xs j v) k Free ≡ v) e (get_or-set_same xs j v Free few)

-- the columns of the first so many nets
abbrev pub AreFilled : List ℕ → ℕ → ℕ → List Column → Type 0
AreFilled at cols n columns = (length columns ≡ cols) × ((col : ℕ) → col < cols → get_or columns col Free ≡ column_of (take n at) col)

pub filled_none : (at : List ℕ) (cols : ℕ) → 2 ≤ cols → AreFilled at cols 0 (slice_set (slice_set (replicate cols Free) 0 Load) 1 Gate)
filled_none at cols some = (
  length-set (slice_set (replicate cols Free) 0 Load) 1 Gate ∙ length-set (replicate cols Free) 0 Load ∙ length-replicate cols Free,
  each,
)
  where
    long : length (replicate cols Free) ≡ cols
    long = length-replicate cols Free

    each : (col : ℕ) → col < cols → get_or (slice_set (slice_set (replicate cols Free) 0 Load) 1 Gate) col Free ≡ column_of [] col
    each zero below =
        get_or-set_other (slice_set (replicate cols Free) 0 Load) 1 0 Gate Free (λ e. omega arith)
        ∙ get_or-set_same (replicate cols Free) 0 Load Free (omega (arith, long))
    each (suc zero) below =
        get_or-set_same (slice_set (replicate cols Free) 0 Load) 1 Gate Free (omega (arith, long, length-set (replicate cols Free) 0 Load))
    each (suc (suc col)) below =
        get_or-set_other (slice_set (replicate cols Free) 0 Load) 1 (suc (suc col)) Gate Free (λ e. omega arith)
        ∙ get_or-set_other (replicate cols Free) 0 (suc (suc col)) Load Free (λ e. omega arith)
        ∙ get_or-replicate cols (suc (suc col)) Free Free below

pub filled_more : (at : List ℕ) (cols i n a : ℕ) (columns : List Column) → AreWires at cols → i < length at → n ≡ suc i → a ≡ get_or at i 0
    → AreFilled at cols i columns → AreFilled at cols n (slice_set (slice_set columns a (Wire i)) (a + 1) (Device i))
filled_more at cols i n a columns w few is_next is_at old = (
  length-set (slice_set columns a (Wire i)) (a + 1) (Device i) ∙ length-set columns a (Wire i) ∙ old.0,
  λ col below. subst (λ (k : ℕ). get_or (slice_set (slice_set columns a (Wire i)) (a + 1) (Device i)) col Free ≡ column_of (take k at) col) (sym is_next) (each col below),
)
  where
    inside : (2 ≤ a) × (a + 2 ≤ cols)
    inside = let h = within at cols 2 i w few in let low = h.0 in let high = h.1 in (omega arith, omega arith)

    long : length columns ≡ cols
    long = old.0

    longer : length (slice_set columns a (Wire i)) ≡ cols
    longer = length-set columns a (Wire i) ∙ old.0

    untouched : (col : ℕ) → col ≢ a → col ≢ a + 1 → get_or (slice_set (slice_set columns a (Wire i)) (a + 1) (Device i)) col Free ≡ get_or columns col Free
    untouched col h k = get_or-set_other (slice_set columns a (Wire i)) (a + 1) col (Device i) Free k ∙ get_or-set_other columns a col (Wire i) Free h

    each : (col : ℕ) → col < cols → get_or (slice_set (slice_set columns a (Wire i)) (a + 1) (Device i)) col Free ≡ column_of (take (suc i) at) col
    each zero below = let low = inside.0 in untouched 0 (λ e. omega arith) (λ e. omega arith) ∙ old.1 0 below
    each (suc zero) below = let low = inside.0 in untouched 1 (λ e. omega arith) (λ e. omega arith) ∙ old.1 1 below
    each (suc (suc c)) below =
        let col = suc (suc c) in
        let high = inside.1 in
        let n : 0 + i ≡ i = omega arith in
        elim (cases_eq a col) [
          | inl e ↦
              get_or-set_other (slice_set columns a (Wire i)) (a + 1) col (Device i) Free (λ h. omega arith)
              ∙ written columns a col (Wire i) e (omega (arith, long))
              ∙ ap (λ (k : ℕ). Wire k) (sym n) ∙ sym (next_wire at cols 2 0 i col w few (sym is_at ∙ e))
          | inr h ↦ elim (cases_eq (a + 1) col) [
            | inl e ↦
                written (slice_set columns a (Wire i)) (a + 1) col (Device i) e (omega (arith, longer))
                ∙ ap (λ (k : ℕ). Device k) (sym n) ∙ sym (next_device at cols 2 0 i col w few (ap (λ (k : ℕ). k + 1) (sym is_at) ∙ e))
            | inr k ↦
                untouched col (λ e. h (sym e)) (λ e. k (sym e)) ∙ old.1 col below
                ∙ sym (next_other at 0 i col few (λ e. h (is_at ∙ e)) (λ e. k (ap (λ (m : ℕ). m + 1) is_at ∙ e)))
          ]
        ]

pub filled_all : (at : List ℕ) (cols n : ℕ) (columns : List Column) → length at ≤ n → AreFilled at cols n columns
    → columns ≡ map (column_of at) (range_with_len 0 cols)
filled_all at cols n columns all h =
    fill_by_all (column_of at) columns cols Free h.0 (λ k below. h.1 k below ∙ ap (λ (l : List ℕ). column_of l k) (take_all n at all))
