-- How the columns of a gate matrix stand side by side.
use Rattle.std.proofs.Common.{◌≡◌, ℕ, zero, suc, ◌+◌, ◌<◌, ◌≤◌, List, [], ◌∷◌, refl, sym, ◌∙◌, subst, inl, inr, arith}
use Rattle.std.proofs.lemmas.Bool.{cases_eq, cases_lt, eq-eqb, ne_eqb}
use Rattle.gate_matrix.specs.declared.column.Column.{Column}
use Rattle.gate_matrix.specs.declared.column.Column.TheVariants.{Load, Gate, Wire, Device, Free}
use Rattle.gate_matrix.specs.Columns.{wire_column, column_of, AreWiresFrom, AreWires}

-- What stands beside what, from the west.
pub data Beside : Column → Column → Type 0 where
  loads : Beside Load Gate
  gate_wire : (i : ℕ) → Beside Gate (Wire i)
  gate_free : Beside Gate Free
  wire_device : (i : ℕ) → Beside (Wire i) (Device i)
  device_wire : (i j : ℕ) → Beside (Device i) (Wire j)
  device_free : (i : ℕ) → Beside (Device i) Free
  free_wire : (i : ℕ) → Beside Free (Wire i)
  free_free : Beside Free Free

-- The column is a net's, or free.
pub data IsFresh : Column → Type 0 where
  some_wire : (i : ℕ) → IsFresh (Wire i)
  none : IsFresh Free

module _ (a : ℕ) (at : List ℕ) (net col : ℕ) where
  pub wire_here : a ≡ col → wire_column (a ∷ at) net col ≡ Wire net
  wire_here e = rw (eq-eqb a col e) refl

  pub device_here : a + 1 ≡ col → wire_column (a ∷ at) net col ≡ Device net
  device_here e = rw (ne_eqb a col (λ h. omega arith), eq-eqb (a + 1) col e) refl

  pub beyond : (a ≡ col → ⊥) → (a + 1 ≡ col → ⊥) → wire_column (a ∷ at) net col ≡ wire_column at (suc net) col
  beyond h k = rw (ne_eqb a col h, ne_eqb (a + 1) col k) refl

-- Before the first column of a net all are free.
pub free_before : (at : List ℕ) (cols first net col : ℕ) → AreWiresFrom first at cols → col < first → wire_column at net col ≡ Free
free_before [] cols first net col w before = refl
free_before (a ∷ at) cols first net col w before =
    let from = w.0 in
    beyond a at net col (λ e. omega arith) (λ e. omega arith) ∙ free_before at cols (a + 2) (suc net) col w.1 (omega arith)

-- At the first column there is a net or none.
fresh_at : (at : List ℕ) (cols first net : ℕ) → AreWiresFrom first at cols → IsFresh (wire_column at net first)
fresh_at [] cols first net w = none
fresh_at (a ∷ at) cols first net w =
    let from = w.0 in
    elim (cases_eq a first) [
      | inl e ↦ subst IsFresh (sym (wire_here a at net first e)) (some_wire net)
      | inr h ↦
          let free = free_before at cols (a + 2) (suc net) first w.1 (omega arith) in
          subst IsFresh (sym (beyond a at net first h (λ e. omega arith) ∙ free)) none
    ]

after_device : (i : ℕ) (k : Column) → IsFresh k → Beside (Device i) k
after_device i _ (some_wire j) = device_wire i j
after_device i _ none = device_free i

after_gate : (k : Column) → IsFresh k → Beside Gate k
after_gate _ (some_wire j) = gate_wire j
after_gate _ none = gate_free

both : (j k l m : Column) → j ≡ l → k ≡ m → Beside l m → Beside j k
both j k l m e f h = subst (λ x. Beside x k) (sym e) (subst (Beside l) (sym f) h)

wires_beside : (at : List ℕ) (cols first net col : ℕ) → AreWiresFrom first at cols → first ≤ col → Beside (wire_column at net col) (wire_column at net (col + 1))
wires_beside [] cols first net col w from = free_free
wires_beside (a ∷ at) cols first net col w from =
    let here = wire_column (a ∷ at) net col in
    let next = wire_column (a ∷ at) net (col + 1) in
    elim (cases_eq a col) [
      | inl e ↦ both here next (Wire net) (Device net) (wire_here a at net col e) (device_here a at net (col + 1) (omega arith)) (wire_device net)
      | inr h ↦ elim (cases_eq (a + 1) col) [
        | inl e ↦
            let f : a + 2 ≡ col + 1 = omega arith in
            both here next (Device net) (wire_column at (suc net) (col + 1)) (device_here a at net col e)
            (beyond a at net (col + 1) (λ k. omega arith) (λ k. omega arith))
            (after_device net (wire_column at (suc net) (col + 1)) (subst (λ c. IsFresh (wire_column at (suc net) c)) f (fresh_at at cols (a + 2) (suc net) w.1)))
        | inr k ↦ elim (cases_eq a (col + 1)) [
          | inl e ↦ both here next Free (Wire net)
              (beyond a at net col h k ∙ free_before at cols (a + 2) (suc net) col w.1 (omega arith)) (wire_here a at net (col + 1) e) (free_wire net)
          | inr l ↦ both here next (wire_column at (suc net) col) (wire_column at (suc net) (col + 1)) (beyond a at net col h k)
              (beyond a at net (col + 1) l (λ e. h (omega arith)))
              (elim (cases_lt col a) [
                | inl low ↦ both (wire_column at (suc net) col) (wire_column at (suc net) (col + 1)) Free Free
                    (free_before at cols (a + 2) (suc net) col w.1 (omega arith)) (free_before at cols (a + 2) (suc net) (col + 1) w.1 (omega arith)) free_free
                | inr high ↦ wires_beside at cols (a + 2) (suc net) col w.1 (omega (arith, h, k))
              ])
        ]
      ]
    ]

pub beside : (at : List ℕ) (cols col : ℕ) → AreWires at cols → Beside (column_of at col) (column_of at (col + 1))
beside at cols zero w = loads
beside at cols (suc zero) w = after_gate (wire_column at 0 2) (fresh_at at cols 2 0 w)
beside at cols (suc (suc col)) w =
    let e : suc (suc (suc col)) ≡ suc (suc col) + 1 = omega arith in
    subst (λ n. Beside (column_of at (suc (suc col))) (column_of at n)) e
    (subst (λ n. Beside (wire_column at 0 (suc (suc col))) (wire_column at 0 n)) (sym e) (wires_beside at cols 2 0 (suc (suc col)) w (omega arith)))
