-- The devices of a gate matrix, cell by cell.
use Rattle.std.proofs.Common.{◌≡◌, ℕ, zero, suc, ◌+◌, ◌<◌, ◌==◌, Bool, true, false, List, [], ◌∷◌, ◌++◌, Some, refl, sym, ◌∙◌, ap, arith}
use Rattle.std.specs.Prelude.{flat_map}
use Rattle.std.specs.List.{range_with_len}
use Rattle.std.proofs.lemmas.Bool.{eqb-true, eq-eqb}
use Rattle.micro_tiles.specs.Basics.{number_named}
use Rattle.micro_tiles.specs.Table.{design_of, transistor_at}
use Rattle.switch_net.specs.declared.network.Device.{Device}
use Rattle.switch_net.specs.declared.network.Device.TheVariants as devices
use Rattle.nmos_model.specs.Lists.{Matched}
use Rattle.nmos_model.specs.Devices.{device_on}
use Rattle.nor_net.specs.SwitchForm.{at}
use Rattle.stick_grid.specs.Pieces.{Piece}
use Rattle.stick_grid.specs.Transistors.{piece}
use Rattle.stick_grid.specs.Devices.{placed, IsNamedDevice}
use Rattle.gate_matrix.specs.declared.column.Column.{Column}
use Rattle.gate_matrix.specs.declared.column.Column.TheVariants as columns
use Rattle.gate_matrix.specs.declared.row.RowKind.{RowKind}
use Rattle.gate_matrix.specs.declared.row.RowKind.TheVariants.{Start, Through, Stop, Vdd, Load, Out, Top, Middle, Bottom}
use Rattle.gate_matrix.specs.Rows.{MatrixRow}
use Rattle.gate_matrix.specs.Cells.{cell, is_gated, load_cell, gate_cell, wire_cell, device_cell}
use Rattle.gate_matrix.specs.MatrixNets.{net_among}

-- ---- lists, entry by entry

pub matched_append : {X Y : Type 0} (R : X → Y → Type 0) (xs us : List X) (ys vs : List Y) → Matched R xs ys → Matched R us vs
    → Matched R (xs ++ us) (ys ++ vs)
matched_append R [] us [] vs h k = k
matched_append R [] us (y ∷ ys) vs h k = absurd h
matched_append R (x ∷ xs) us [] vs h k = absurd h
matched_append R (x ∷ xs) us (y ∷ ys) vs h k = (h.0, matched_append R xs us ys vs h.1 k)

pub matched_flat : {X Y : Type 0} (R : X → Y → Type 0) (f : ℕ → List X) (g : ℕ → List Y) (a n : ℕ) → ((k : ℕ) → k < a + n → Matched R (f k) (g k))
    → Matched R (flat_map f (range_with_len a n)) (flat_map g (range_with_len a n))
matched_flat R f g a zero each = tt
matched_flat R f g a (suc n) each =
    matched_append R (f a) _ (g a) _ (each a (omega arith)) (matched_flat R f g (a + 1) n (λ k below. each k (omega arith)))

-- ---- the device of a cell

abbrev pub load_device : RowKind → ℕ → List Device
load_device Load net = devices.Load (at net) ∷ []
load_device _ net = []

abbrev pub pass_device : RowKind → Bool → ℕ → ℕ → ℕ → List Device
pass_device Middle true gate above below = devices.Pass (at gate) (at above) (at below) ∷ []
pass_device _ _ gate above below = []

-- the device of the cell, between the metal above and below
abbrev pub cell_device : RowKind → List ℕ → ℕ → ℕ → Column → List Device
cell_device kind gated above below columns.Load = load_device kind below
cell_device kind gated above below (columns.Device i) = pass_device kind (is_gated gated i) i above below
cell_device kind gated above below _ = []

-- A depletion device whose gate is one of its ends is a load of it, where the other is the supply.
is_pulled_up : (vdd net : ℕ) → device_on true vdd net vdd net ≡ Some (devices.Load (at net))
is_pulled_up vdd net = by_test (net == vdd) refl
  where
    by_test : (t : Bool) → (net == vdd) ≡ t → device_on true vdd net vdd net ≡ Some (devices.Load (at net))
    by_test true e =
        let same = eqb-true net vdd e in
        rw (e) (ap (λ (n : ℕ). Some (devices.Load (at n))) (sym same))
    by_test false e =
        let one = eq-eqb net net refl in
        let two = eq-eqb vdd vdd refl in
        rw (e, one, two) refl

module _ (name : Piece → ℕ) (vdd r c : ℕ) where
  abbrev has : ℕ → List Device → Type 0
  has tile list = Matched (IsNamedDevice name vdd) (placed r c (transistor_at tile)) list

  module _ (above here below : ℕ) where
    load_has : (kind : RowKind) → (kind ≡ Load → above ≡ vdd) → ((n : ℕ) → name (piece r c n) ≡ net_among columns.Load above here below n)
        → has (number_named (load_cell kind)) (load_device kind below)
    unfolding design_of
    load_has Load supply names = (
      ap (λ (n : ℕ). device_on true vdd n (name (piece r c 2)) (name (piece r c 3))) (names 1)
          ∙ ap (λ (n : ℕ). device_on true vdd below n (name (piece r c 3))) (names 2 ∙ supply refl)
          ∙ ap (λ (n : ℕ). device_on true vdd below vdd n) (names 3) ∙ is_pulled_up vdd below,
      tt,
    )
    load_has Start supply names = tt
    load_has Through supply names = tt
    load_has Stop supply names = tt
    load_has Vdd supply names = tt
    load_has Out supply names = tt
    load_has Top supply names = tt
    load_has Middle supply names = tt
    load_has Bottom supply names = tt

    gate_has : (kind : RowKind) → has (number_named (gate_cell kind)) []
    unfolding design_of
    gate_has Start = tt
    gate_has Through = tt
    gate_has Stop = tt
    gate_has Vdd = tt
    gate_has Load = tt
    gate_has Out = tt
    gate_has Top = tt
    gate_has Middle = tt
    gate_has Bottom = tt

    wire_has : (kind : RowKind) (meets gated : Bool) → has (number_named (wire_cell kind meets gated)) []
    unfolding design_of
    wire_has Start meets gated = tt
    wire_has Through meets gated = tt
    wire_has Stop meets gated = tt
    wire_has Vdd true gated = tt
    wire_has Vdd false gated = tt
    wire_has Load meets gated = tt
    wire_has Out true gated = tt
    wire_has Out false gated = tt
    wire_has Top true gated = tt
    wire_has Top false gated = tt
    wire_has Middle meets true = tt
    wire_has Middle meets false = tt
    wire_has Bottom true gated = tt
    wire_has Bottom false gated = tt

    device_has : (i : ℕ) (kind : RowKind) (gated last onward : Bool)
        → ((n : ℕ) → name (piece r c n) ≡ net_among (columns.Device i) above here below n)
        → has (number_named (device_cell kind gated last onward)) (pass_device kind gated i above below)
    unfolding design_of
    device_has i Middle true last onward names = (
      ap (λ (n : ℕ). device_on false vdd n (name (piece r c 2)) (name (piece r c 3))) (names 1)
          ∙ ap (λ (n : ℕ). device_on false vdd i n (name (piece r c 3))) (names 2)
          ∙ ap (λ (n : ℕ). device_on false vdd i above n) (names 3),
      tt,
    )
    device_has i Middle false last onward names = tt
    device_has i Start gated last onward names = tt
    device_has i Through gated last onward names = tt
    device_has i Stop gated last onward names = tt
    device_has i Vdd gated false onward names = tt
    device_has i Vdd gated true false names = tt
    device_has i Vdd gated true true names = tt
    device_has i Load gated last onward names = tt
    device_has i Out true true onward names = tt
    device_has i Out true false onward names = tt
    device_has i Out false false onward names = tt
    device_has i Out false true false names = tt
    device_has i Out false true true names = tt
    device_has i Top true true onward names = tt
    device_has i Top true false onward names = tt
    device_has i Top false false onward names = tt
    device_has i Top false true false names = tt
    device_has i Top false true true names = tt
    device_has i Bottom true true onward names = tt
    device_has i Bottom true false onward names = tt
    device_has i Bottom false false onward names = tt
    device_has i Bottom false true false names = tt
    device_has i Bottom false true true names = tt

    free_has : (kind : RowKind) (last onward : Bool) → has (number_named (device_cell kind false last onward)) []
    unfolding design_of
    free_has Middle last onward = tt
    free_has Start last onward = tt
    free_has Through last onward = tt
    free_has Stop last onward = tt
    free_has Vdd false onward = tt
    free_has Vdd true false = tt
    free_has Vdd true true = tt
    free_has Load last onward = tt
    free_has Out false onward = tt
    free_has Out true false = tt
    free_has Out true true = tt
    free_has Top false onward = tt
    free_has Top true false = tt
    free_has Top true true = tt
    free_has Bottom false onward = tt
    free_has Bottom true false = tt
    free_has Bottom true true = tt

    pub cell_has : (row : MatrixRow) (k : Column) (last : Bool) → (row.kind ≡ Load → above ≡ vdd)
        → ((n : ℕ) → name (piece r c n) ≡ net_among k above here below n)
        → has (number_named (cell row k last)) (cell_device row.kind row.gated above below k)
    cell_has row columns.Load last supply names = load_has row.kind supply names
    cell_has row columns.Gate last supply names = gate_has row.kind
    cell_has row (columns.Wire i) last supply names = wire_has row.kind (row.metal == i) (is_gated row.gated i)
    cell_has row (columns.Device i) last supply names = device_has i row.kind (is_gated row.gated i) last row.onward names
    cell_has row columns.Free last supply names = free_has row.kind last row.onward
