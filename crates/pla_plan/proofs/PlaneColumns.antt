-- The columns of the planes and of the row below them.
use Rattle.std.proofs.Common.{◌≡◌, ℕ, zero, suc, ◌+◌, ◌-◌, ◌*◌, ◌%◌, ◌<◌, ◌≤◌, ◌==◌, ◌&&◌, ◌||◌, nat_lt, Bool, true, false, inl, inr, List, [], ◌∷◌, length, get_or, refl, sym, ap, ◌∙◌, arith}
use Rattle.std.proofs.lemmas.Bool.{cases_lt, lt-ltb, le-ltb, eq-eqb, ne_eqb}
use Rattle.std.proofs.lemmas.List.Elements.{All-get_or}
use Rattle.std.proofs.lemmas.List.FromFn.{length-map-range_with_len, get_or-map-range_with_len}
use Rattle.gate_matrix.specs.declared.column.Column.{Column}
use Rattle.gate_matrix.specs.declared.column.Column.TheVariants.{Load, Gate, Wire, Device, Free}
use Rattle.gate_matrix.specs.Columns.{wire_column, column_of, AreWiresFrom, AreWires, AreOfNets, ColumnsAreOfNets}
use Rattle.pla_plan.specs.Planes.{PlaneTables, left_places, right_from, right_end, is_sum_column}
use Rattle.pla_plan.specs.Fits.{IsArray, no_gate}
use Rattle.pla_plan.proofs.PlaneTiles.{first_of, second_of}
use Rattle.pla_plan.proofs.Wires.{left_wires}

-- ---- a column by the first net

pub beyond : (a : ℕ) (at : List ℕ) (net col : ℕ) → (a ≡ col → ⊥) → (a + 1 ≡ col → ⊥) → wire_column (a ∷ at) net col ≡ wire_column at (suc net) col
beyond a at net col h k = second_of (a == col) _ _ (ne_eqb a col h) ∙ second_of (a + 1 == col) _ _ (ne_eqb (a + 1) col k)

pub wire_here : (a : ℕ) (at : List ℕ) (net col : ℕ) → a ≡ col → wire_column (a ∷ at) net col ≡ Wire net
wire_here a at net col e = first_of (a == col) _ _ (eq-eqb a col e)

pub device_here : (a : ℕ) (at : List ℕ) (net col : ℕ) → a + 1 ≡ col → wire_column (a ∷ at) net col ≡ Device net
device_here a at net col e = second_of (a == col) _ _ (ne_eqb a col (λ h. omega arith)) ∙ first_of (a + 1 == col) _ _ (eq-eqb (a + 1) col e)

-- ---- columns before all nets, and behind them

room : (at : List ℕ) (first cols : ℕ) → AreWiresFrom first at cols → first ≤ cols
room [] first cols w = w
room (a ∷ at) first cols w = let low = w.0 in let rest = room at (a + 2) cols w.1 in omega arith

pub free_before : (at : List ℕ) (first cols net col : ℕ) → AreWiresFrom first at cols → col < first → wire_column at net col ≡ Free
free_before [] first cols net col w below = refl
free_before (a ∷ at) first cols net col w below =
    let low = w.0 in
    beyond a at net col (λ e. omega arith) (λ e. omega arith) ∙ free_before at (a + 2) cols (suc net) col w.1 (omega arith)

free_behind : (at : List ℕ) (first net col : ℕ) → AreWiresFrom first at col → wire_column at net col ≡ Free
free_behind [] first net col w = refl
free_behind (a ∷ at) first net col w =
    let high = room at (a + 2) col w.1 in
    beyond a at net col (λ e. omega arith) (λ e. omega arith) ∙ free_behind at (a + 2) (suc net) col w.1

-- The column behind those that the nets need is free.
pub column_behind : (at : List ℕ) (col : ℕ) → AreWires at col → column_of at col ≡ Free
column_behind at zero w = let low = room at 2 zero w in absurd (omega arith)
column_behind at (suc zero) w = let low = room at 2 1 w in absurd (omega arith)
column_behind at (suc (suc col)) w = free_behind at 2 0 (suc (suc col)) w

-- ---- whose poly a column has

abbrev pub is_wire : Column → Bool
is_wire (Wire net) = true
is_wire _ = false

-- The column has the poly of this net.
pub record IsWireOf (k : Column) : Type 0 where
  pub net : ℕ
  pub is : k ≡ Wire net

pub wire_of : (k : Column) → is_wire k ≡ true → IsWireOf k
wire_of (Wire net) e = record { net = net; is = refl }
wire_of Load e = absurd (cc)
wire_of Gate e = absurd (cc)
wire_of (Device net) e = absurd (cc)
wire_of Free e = absurd (cc)

pub same_tests : (a b : Bool) → (a ≡ true → b ≡ true) → (b ≡ true → a ≡ true) → a ≡ b
same_tests true b f g = sym (f refl)
same_tests false true f g = g refl
same_tests false false f g = refl

module _ (planes : PlaneTables) (array : IsArray planes) (law : ColumnsAreOfNets) where
  abbrev pub left_at : List ℕ
  left_at = left_places (planes.left + 2)

  pub of_left : AreOfNets left_at (right_from planes)
  of_left = law left_at (right_from planes) (left_wires (planes.left + 2) (right_from planes) (omega arith))

  pub of_part : AreOfNets planes.at planes.cols
  of_part = law planes.at planes.cols array.part_fits.columns

  pub left_long : length left_at ≡ planes.left + 2
  left_long = length-map-range_with_len (λ (net : ℕ). 2 + 2 * net) 0 (planes.left + 2)

  pub left_place : (net : ℕ) → net < planes.left + 2 → get_or left_at net 0 ≡ 2 + 2 * net
  left_place net below = get_or-map-range_with_len (λ (n : ℕ). 2 + 2 * n) 0 (planes.left + 2) net net 0 below (omega arith)

  -- a net of the part in a column of the left plane is one of the plane
  pub is_left : (net col : ℕ) → col < right_from planes → column_of planes.at col ≡ Wire net → (net < planes.left + 2) × (2 + 2 * net ≡ col)
  is_left net col below e =
      let of = of_part.net_of net col e in
      let place = of.1 in
      let long = array.part_fits.wires in
      let is_net = of.0 in
      elim (cases_lt net (planes.left + 2)) [
        | inl h ↦ let at = array.left_columns net h in (h, omega arith)
        | inr h ↦ let far = array.other_columns net h (omega arith) in absurd (omega arith)
      ]

  pub left_wire_below : (net : ℕ) → net < planes.left + 2 → column_of planes.at (2 + 2 * net) ≡ Wire net
  left_wire_below net h =
      let few = array.left_nets in
      let long = array.part_fits.wires in
      ap (column_of planes.at) (sym (array.left_columns net h)) ∙ of_part.wire net (omega arith)

  pub left_wire : (net : ℕ) → net < planes.left + 2 → column_of left_at (2 + 2 * net) ≡ Wire net
  left_wire net h =
      let long = left_long in
      ap (column_of left_at) (sym (left_place net h)) ∙ of_left.wire net (omega arith)

  -- a column of the left plane has poly exactly where the part has it below
  pub same_wires : (col : ℕ) → col < right_from planes → is_wire (column_of left_at col) ≡ is_wire (column_of planes.at col)
  same_wires col below = same_tests _ _
      (λ h.
      let w = wire_of (column_of left_at col) h in
      let of = of_left.net_of w.net col w.is in
      let is_net = of.0 in
      let long = left_long in
      let few : w.net < planes.left + 2 = omega arith in
      let place : 2 + 2 * w.net ≡ col = sym (left_place w.net few) ∙ of.1 in
      ap is_wire (ap (column_of planes.at) (sym place) ∙ left_wire_below w.net few))
      (λ h.
      let w = wire_of (column_of planes.at col) h in
      let of = is_left w.net col below w.is in
      ap is_wire (ap (column_of left_at) (sym of.1) ∙ left_wire w.net of.0))

  -- the net of the part that comes from a sum
  abbrev pub sum_net : ℕ → ℕ
  sum_net s = (get_or planes.sums s no_gate).out

  pub sum_below : (s : ℕ) → s < length planes.sums → sum_net s < planes.part.nets
  sum_below s h = All-get_or (λ sum. sum.out < planes.part.nets) planes.sums s no_gate h array.sum_nets

  pub sum_wire : (s : ℕ) → s < length planes.sums → column_of planes.at (right_from planes + 8 * s + 2) ≡ Wire (sum_net s)
  sum_wire s h =
      let below = sum_below s h in
      let long = array.part_fits.wires in
      ap (column_of planes.at) (sym (array.sum_columns s h)) ∙ of_part.wire (sum_net s) (omega arith)

-- ---- which columns are fed from above

module _ (planes : PlaneTables) (col : ℕ) where
  pub fed_left : col < right_from planes → (nat_lt col (right_from planes) || is_sum_column planes col) ≡ true
  fed_left h = ap (λ t. t || is_sum_column planes col) (lt-ltb col (right_from planes) h)

  pub fed_right : right_from planes ≤ col → col < right_end planes
      → (nat_lt col (right_from planes) || is_sum_column planes col) ≡ ((col - right_from planes) % 8 == 2)
  fed_right low high =
      ap (λ t. t || is_sum_column planes col) (le-ltb col (right_from planes) low)
      ∙ ap (λ t. t && (col - right_from planes) % 8 == 2) (lt-ltb col (right_end planes) high)

  pub fed_rest : right_end planes ≤ col → (nat_lt col (right_from planes) || is_sum_column planes col) ≡ false
  fed_rest h =
      ap (λ t. t || is_sum_column planes col) (le-ltb col (right_from planes) (omega arith))
      ∙ ap (λ t. t && (col - right_from planes) % 8 == 2) (le-ltb col (right_end planes) h)
