-- Each net has one column of poly and one of devices.
use Rattle.std.proofs.Common.{◌≡◌, ℕ, zero, suc, ◌+◌, ◌<◌, ◌≤◌, List, [], ◌∷◌, length, get_or, refl, sym, ap, ◌∙◌, subst, inl, inr, arith}
use Rattle.std.proofs.lemmas.Bool.{cases_eq}
use Rattle.gate_matrix.specs.declared.column.Column.TheVariants.{Load, Gate, Wire, Device}
use Rattle.gate_matrix.specs.Columns.{wire_column, column_of, AreWiresFrom, AreWires}
use Rattle.gate_matrix.proofs.ColumnFacts.{wire_here, device_here, beyond}
use Rattle.gate_matrix.proofs.FilledColumns.{within}

-- where the net of this number has its poly
abbrev pub column_for : List ℕ → ℕ → ℕ
column_for at i = get_or at i 0

-- ---- the column of a net

wire_from : (at : List ℕ) (cols first net i : ℕ) → AreWiresFrom first at cols → i < length at → wire_column at net (column_for at i) ≡ Wire (net + i)
wire_from [] cols first net i w few = absurd (omega arith)
wire_from (a ∷ at) cols first net zero w few = wire_here a at net a refl ∙ ap (λ (n : ℕ). Wire n) (omega arith)
wire_from (a ∷ at) cols first net (suc i) w few =
    let far = within at cols (a + 2) i w.1 (omega arith) in
    let low = far.0 in
    beyond a at net (column_for at i) (λ e. omega arith) (λ e. omega arith)
    ∙ wire_from at cols (a + 2) (suc net) i w.1 (omega arith) ∙ ap (λ (n : ℕ). Wire n) (omega arith)

device_from : (at : List ℕ) (cols first net i : ℕ) → AreWiresFrom first at cols → i < length at
    → wire_column at net (column_for at i + 1) ≡ Device (net + i)
device_from [] cols first net i w few = absurd (omega arith)
device_from (a ∷ at) cols first net zero w few = device_here a at net (a + 1) refl ∙ ap (λ (n : ℕ). Device n) (omega arith)
device_from (a ∷ at) cols first net (suc i) w few =
    let far = within at cols (a + 2) i w.1 (omega arith) in
    let low = far.0 in
    beyond a at net (column_for at i + 1) (λ e. omega arith) (λ e. omega arith)
    ∙ device_from at cols (a + 2) (suc net) i w.1 (omega arith) ∙ ap (λ (n : ℕ). Device n) (omega arith)

behind_loads : (at : List ℕ) (col : ℕ) → 2 ≤ col → column_of at col ≡ wire_column at 0 col
behind_loads at zero far = absurd (omega arith)
behind_loads at (suc zero) far = absurd (omega arith)
behind_loads at (suc (suc col)) far = refl

module _ (at : List ℕ) (cols i : ℕ) (w : AreWires at cols) (few : i < length at) where
  low : 2 ≤ column_for at i
  low = (within at cols 2 i w few).0

  pub wire_of : column_of at (column_for at i) ≡ Wire i
  wire_of = behind_loads at (column_for at i) low ∙ wire_from at cols 2 0 i w few ∙ ap (λ (n : ℕ). Wire n) (omega arith)

  pub device_of : column_of at (column_for at i + 1) ≡ Device i
  device_of =
      let l = low in
      behind_loads at (column_for at i + 1) (omega arith) ∙ device_from at cols 2 0 i w few ∙ ap (λ (n : ℕ). Device n) (omega arith)

-- ---- the net of a column

-- The net has this column, counted from the first of the list.
record HasColumn (at : List ℕ) (net i col : ℕ) : Type 0 where
  place : ℕ
  is : i ≡ net + place
  below : place < length at
  column : column_for at place ≡ col

next : (a : ℕ) (at : List ℕ) (net i col : ℕ) → HasColumn at (suc net) i col → HasColumn (a ∷ at) net i col
next a at net i col h = record {
  place = suc h.place;
  is = let e = h.is in omega arith;
  below = let l = h.below in omega arith;
  column = h.column;
}

wire_at : (at : List ℕ) (net i col : ℕ) → wire_column at net col ≡ Wire i → HasColumn at net i col
wire_at [] net i col e = absurd (cc)
wire_at (a ∷ at) net i col e = elim (cases_eq a col) [
  | inl h ↦
      let same = sym (wire_here a at net col h) ∙ e in
      let j : net ≡ i = cc in
      record { place = 0; is = omega arith; below = omega arith; column = h }
  | inr h ↦ elim (cases_eq (a + 1) col) [
    | inl k ↦ let other = sym (device_here a at net col k) ∙ e in absurd (cc)
    | inr k ↦ next a at net i col (wire_at at (suc net) i col (sym (beyond a at net col h k) ∙ e))
  ]
]

device_at : (at : List ℕ) (net i col c : ℕ) → c + 1 ≡ col → wire_column at net col ≡ Device i → HasColumn at net i c
device_at [] net i col c n e = absurd (cc)
device_at (a ∷ at) net i col c n e = elim (cases_eq a col) [
  | inl h ↦ let other = sym (wire_here a at net col h) ∙ e in absurd (cc)
  | inr h ↦ elim (cases_eq (a + 1) col) [
    | inl k ↦
        let same = sym (device_here a at net col k) ∙ e in
        let j : net ≡ i = cc in
        record { place = 0; is = omega arith; below = omega arith; column = omega arith }
    | inr k ↦ next a at net i c (device_at at (suc net) i col c n (sym (beyond a at net col h k) ∙ e))
  ]
]

first : (at : List ℕ) (i col : ℕ) → HasColumn at 0 i col → (i < length at) × (column_for at i ≡ col)
first at i col h =
    let e : h.place ≡ i = (let is = h.is in omega arith) in
    (subst (λ (n : ℕ). n < length at) e h.below, ap (column_for at) (sym e) ∙ h.column)

-- The column with a net's poly is the net's.
pub of_wire : (at : List ℕ) (i col : ℕ) → column_of at col ≡ Wire i → (i < length at) × (column_for at i ≡ col)
of_wire at i zero e = absurd (cc)
of_wire at i (suc zero) e = absurd (cc)
of_wire at i (suc (suc col)) e = first at i (suc (suc col)) (wire_at at 0 i (suc (suc col)) e)

-- The column with a net's devices is the one behind its poly.
pub of_device : (at : List ℕ) (i col : ℕ) → column_of at col ≡ Device i → (i < length at) × (column_for at i + 1 ≡ col)
of_device at i zero e = absurd (cc)
of_device at i (suc zero) e = absurd (cc)
of_device at i (suc (suc col)) e =
    let h = first at i (suc col) (device_at at 0 i (suc (suc col)) (suc col) (omega arith) e) in
    let c = h.1 in
    (h.0, omega arith)

-- The columns of loads are the first two.
pub of_load : (at : List ℕ) (col : ℕ) → column_of at col ≡ Load → col ≡ 0
of_load at zero e = refl
of_load at (suc zero) e = absurd (cc)
of_load at (suc (suc col)) e = absurd (no_load at 0 (suc (suc col)) e)
  where
    no_load : (l : List ℕ) (net c : ℕ) → wire_column l net c ≡ Load → ⊥
    no_load [] net c h = cc
    no_load (a ∷ l) net c h = elim (cases_eq a c) [
      | inl k ↦ let other = sym (wire_here a l net c k) ∙ h in cc
      | inr k ↦ elim (cases_eq (a + 1) c) [
        | inl m ↦ let other = sym (device_here a l net c m) ∙ h in cc
        | inr m ↦ no_load l (suc net) c (sym (beyond a l net c k m) ∙ h)
      ]
    ]

pub of_gate : (at : List ℕ) (col : ℕ) → column_of at col ≡ Gate → col ≡ 1
of_gate at zero e = absurd (cc)
of_gate at (suc zero) e = refl
of_gate at (suc (suc col)) e = absurd (no_gate at 0 (suc (suc col)) e)
  where
    no_gate : (l : List ℕ) (net c : ℕ) → wire_column l net c ≡ Gate → ⊥
    no_gate [] net c h = cc
    no_gate (a ∷ l) net c h = elim (cases_eq a c) [
      | inl k ↦ let other = sym (wire_here a l net c k) ∙ h in cc
      | inr k ↦ elim (cases_eq (a + 1) c) [
        | inl m ↦ let other = sym (device_here a l net c m) ∙ h in cc
        | inr m ↦ no_gate l (suc net) c (sym (beyond a l net c k m) ∙ h)
      ]
    ]
