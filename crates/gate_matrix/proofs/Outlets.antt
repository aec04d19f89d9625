-- What leads out of a gate matrix.
use Rattle.std.proofs.Common.{◌≡◌, ℕ, ◌+◌, ◌-◌, ◌<◌, ◌==◌, Bool, true, false, not, ◌&&◌, if◌then◌else◌, List, length, Option, Some, None, inl, inr, cond, refl, sym, ◌∙◌, ap, arith}
use Rattle.std.specs.Prelude.{option_map}
use Rattle.std.proofs.lemmas.Bool.{cases_Bool, eq-eqb}
use Rattle.std.proofs.lemmas.List.{get_or_past}
use Rattle.geom.specs.declared.layer.Layer.{Layer}
use Rattle.geom.specs.declared.layer.Layer.TheVariants.{Diffusion, Poly, Metal, Cut, Implant}
use Rattle.micro_tiles.specs.declared.side.Port.{Port}
use Rattle.micro_tiles.specs.declared.side.Side.{Side}
use Rattle.micro_tiles.specs.declared.side.Side.TheVariants.{North, East, South, West}
use Rattle.micro_tiles.specs.Sides.{carries}
use Rattle.micro_tiles.specs.Table.{design_of}
use Rattle.stick_grid.specs.Transistors.{piece}
use Rattle.stick_grid.specs.Modules.{places_along, net_along}
use Rattle.gate_matrix.specs.declared.column.Column.{Column}
use Rattle.gate_matrix.specs.declared.column.Column.TheVariants as columns
use Rattle.gate_matrix.specs.declared.row.RowKind.{RowKind}
use Rattle.gate_matrix.specs.declared.row.RowKind.TheVariants.{Start, Through, Stop, Vdd, Load, Out, Top, Middle, Bottom}
use Rattle.gate_matrix.specs.Rows.{MatrixRow, blank_row, has_metal}
use Rattle.gate_matrix.specs.Columns.{column_of}
use Rattle.gate_matrix.specs.Cells.{Matrix, matrix_plan, cell, is_gated, load_cell, device_cell}
use Rattle.gate_matrix.specs.Matrices.{is_vdd, is_load, is_out, is_start, is_stop, gated_south, gated_north}
use Rattle.gate_matrix.specs.MatrixNets.{row_at, matrix_name, matrix_border, net_among, wire_in, IsAbove, AreMatrixNets}
use Rattle.gate_matrix.proofs.Ports as ports
use Rattle.gate_matrix.proofs.Ports.{port, goes_north, goes_south}
use Rattle.gate_matrix.proofs.MatrixPlans.{south_gated, north_gated}
use Rattle.gate_matrix.proofs.FilledColumns.{few_nets, within}
use Rattle.gate_matrix.proofs.ColumnsOfNets.{of_wire, of_load, of_gate}
use Rattle.gate_matrix.proofs.TileNets.{net}
use Rattle.gate_matrix.proofs.Meetings.{both_true, wire_number, wire_name}
use Rattle.gate_matrix.proofs.Homes.{meets_named}

-- the poly of a net, if it leads out, or nothing
abbrev outer : Bool → Column → Port
outer t (columns.Wire i) = record { metal = false; other = cond t (Some Poly) None }
outer t _ = record { metal = false; other = None }

and_false : (t : Bool) → (t && false) ≡ false
and_false true = refl
and_false false = refl

and_true : (t : Bool) → (t && true) ≡ t
and_true true = refl
and_true false = refl

turned : (t : Bool) (o : Option ℕ) → (if not t then o else None) ≡ (if t then None else o)
turned true o = refl
turned false o = refl

-- ---- to the north and to the south

module _ (upper lower : MatrixRow) (is : IsAbove upper lower) (last : Bool) where
  above_blank : upper ≡ blank_row → (k : Column) → port (cell lower k last) North ≡ outer (not (is_start lower.kind)) k
  above_blank e columns.Load =
      let one : is_load lower.kind ≡ false = sym is.follows.load ∙ ap (λ (row : MatrixRow). is_vdd row.kind) e in
      let two = sym is.follows.out ∙ ap (λ (row : MatrixRow). is_load row.kind) e in
      ports.load_north lower.kind ∙ rw (one, two) refl
  above_blank e columns.Gate =
      let two = sym is.follows.out ∙ ap (λ (row : MatrixRow). is_load row.kind) e in
      ports.gate_north lower.kind ∙ rw two refl
  above_blank e (columns.Wire i) = ports.wire_north lower.kind (lower.metal == i) (is_gated lower.gated i)
  above_blank e (columns.Device i) =
      let none : is_gated (gated_north lower.kind lower.gated) i ≡ false =
      ap (λ (l : List ℕ). is_gated l i) (sym is.follows.devices) ∙ ap (λ (row : MatrixRow). is_gated (gated_south row.kind row.gated) i) e in
      ports.device_north lower.kind (is_gated lower.gated i) last lower.onward
      ∙ ap (ports.narrow Diffusion) (north_gated lower.kind lower.gated i ∙ none)
  above_blank e columns.Free = ports.device_north lower.kind false last lower.onward ∙ ap (ports.narrow Diffusion) (and_false (goes_north lower.kind))

  below_blank : lower ≡ blank_row → (k : Column) → port (cell upper k last) South ≡ outer (not (is_stop upper.kind)) k
  below_blank e columns.Load =
      let one = is.follows.load ∙ ap (λ (row : MatrixRow). is_load row.kind) e in
      let two = is.follows.out ∙ ap (λ (row : MatrixRow). is_out row.kind) e in
      ports.load_south upper.kind ∙ rw (one, two) refl
  below_blank e columns.Gate =
      let two = is.follows.out ∙ ap (λ (row : MatrixRow). is_out row.kind) e in
      ports.gate_south upper.kind ∙ rw two refl
  below_blank e (columns.Wire i) = ports.wire_south upper.kind (upper.metal == i) (is_gated upper.gated i)
  below_blank e (columns.Device i) =
      let none : is_gated (gated_south upper.kind upper.gated) i ≡ false =
      ap (λ (l : List ℕ). is_gated l i) is.follows.devices ∙ ap (λ (row : MatrixRow). is_gated (gated_north row.kind row.gated) i) e in
      ports.device_south upper.kind (is_gated upper.gated i) last upper.onward
      ∙ ap (ports.narrow Diffusion) (south_gated upper.kind upper.gated i ∙ none)
  below_blank e columns.Free = ports.device_south upper.kind false last upper.onward ∙ ap (ports.narrow Diffusion) (and_false (goes_south upper.kind))

-- ---- to the east and to the west

pub load_west : (kind : RowKind) → port (load_cell kind) West ≡ record { metal = false; other = None }
unfolding design_of
load_west Start = refl
load_west Through = refl
load_west Stop = refl
load_west Vdd = refl
load_west Load = refl
load_west Out = refl
load_west Top = refl
load_west Middle = refl
load_west Bottom = refl

-- nothing but the poly of a row that goes on
abbrev onward_port : Bool → Port
onward_port t = record { metal = false; other = cond t (Some Poly) None }

pub device_end : (kind : RowKind) (gated : Bool) → port (device_cell kind gated true false) East ≡ onward_port false
unfolding design_of
device_end Start gated = refl
device_end Through gated = refl
device_end Stop gated = refl
device_end Vdd gated = refl
device_end Load gated = refl
device_end Out true = refl
device_end Out false = refl
device_end Top true = refl
device_end Top false = refl
device_end Middle true = refl
device_end Middle false = refl
device_end Bottom true = refl
device_end Bottom false = refl

-- a row without metal has nothing to go on with
no_metal_end : (kind : RowKind) (gated onward : Bool) → has_metal kind ≡ false → port (device_cell kind gated true onward) East ≡ onward_port false
unfolding design_of
no_metal_end Start gated onward h = refl
no_metal_end Through gated onward h = refl
no_metal_end Stop gated onward h = refl
no_metal_end Vdd gated onward h = absurd (cc)
no_metal_end Load gated onward h = refl
no_metal_end Out gated onward h = absurd (cc)
no_metal_end Top gated onward h = absurd (cc)
no_metal_end Middle true onward h = refl
no_metal_end Middle false onward h = refl
no_metal_end Bottom gated onward h = absurd (cc)

free_end : (kind : RowKind) → port (device_cell kind false true true) East ≡ onward_port (has_metal kind)
unfolding design_of
free_end Start = refl
free_end Through = refl
free_end Stop = refl
free_end Vdd = refl
free_end Load = refl
free_end Out = refl
free_end Top = refl
free_end Middle = refl
free_end Bottom = refl

-- its net is that of the metal
free_number : (kind : RowKind) → has_metal kind ≡ true → net (device_cell kind false true true) East Poly ≡ 0
unfolding design_of
free_number Start h = absurd (cc)
free_number Through h = absurd (cc)
free_number Stop h = absurd (cc)
free_number Vdd h = refl
free_number Load h = absurd (cc)
free_number Out h = refl
free_number Top h = refl
free_number Middle h = absurd (cc)
free_number Bottom h = refl

-- ---- the border

-- the name of what the side carries in the layer
abbrev led_out : (ℕ → ℕ) → Port → (Side → Layer → ℕ) → Side → Layer → Option ℕ
led_out name p number side layer = option_map name (if carries p layer then Some (number side layer) else None)

-- poly alone, where it is led out, of this name
abbrev in_poly : Bool → ℕ → Layer → Option ℕ
in_poly t net Poly = if t then Some net else None
in_poly t net _ = None

poly_out : (t : Bool) (name : ℕ → ℕ) (number : Side → Layer → ℕ) (side : Side) (net : ℕ) → (t ≡ true → name (number side Poly) ≡ net)
    → (layer : Layer)
    → led_out name (onward_port t) number side layer ≡ in_poly t net layer
poly_out t name number side net h Metal = refl
poly_out true name number side net h Diffusion = refl
poly_out false name number side net h Diffusion = refl
poly_out true name number side net h Poly = ap (λ (n : ℕ). Some n) (h refl)
poly_out false name number side net h Poly = refl
poly_out true name number side net h Cut = refl
poly_out false name number side net h Cut = refl
poly_out true name number side net h Implant = refl
poly_out false name number side net h Implant = refl

-- the poly of a net, at the north or at the south
abbrev vertical : Bool → Column → Layer → Option ℕ
vertical t k Poly = if t then wire_in k else None
vertical t k _ = None

nothing : (t : Bool) → ◌≡◌ {A = Option ℕ} (if t then None else None) None
nothing true = refl
nothing false = refl

nowhere : (t : Bool) (name : ℕ → ℕ) (number : Side → Layer → ℕ) (side : Side) (layer : Layer)
    → led_out name (onward_port false) number side layer ≡ vertical t columns.Free layer
nowhere t name number side layer = poly_out false name number side 0 (λ e. absurd (cc)) layer ∙ none layer
  where
    none : (l : Layer) → in_poly false 0 l ≡ vertical t columns.Free l
    none Metal = refl
    none Diffusion = refl
    none Poly = sym (nothing t)
    none Cut = refl
    none Implant = refl

leads_out : (t : Bool) (k : Column) (name : ℕ → ℕ) (number : Side → Layer → ℕ) (side : Side)
    → ((i : ℕ) → k ≡ columns.Wire i → name (number side Poly) ≡ i)
    → (layer : Layer) → led_out name (outer t k) number side layer ≡ vertical t k layer
leads_out t (columns.Wire i) name number side h layer = poly_out t name number side i (λ e. h i refl) layer ∙ same layer
  where
    same : (l : Layer) → in_poly t i l ≡ vertical t (columns.Wire i) l
    same Metal = refl
    same Diffusion = refl
    same Poly = refl
    same Cut = refl
    same Implant = refl
leads_out t columns.Load name number side h layer = nowhere t name number side layer
leads_out t columns.Gate name number side h layer = nowhere t name number side layer
leads_out t (columns.Device i) name number side h layer = nowhere t name number side layer
leads_out t columns.Free name number side h layer = nowhere t name number side layer

module _ (matrix : Matrix) (nets : ℕ → ℕ) (count vdd : ℕ) (is : AreMatrixNets matrix nets count vdd) where
  abbrev height : ℕ
  height = length matrix.rows

  abbrev port_in : ℕ → ℕ → Side → Port
  port_in r c = port (cell (row_at matrix r) (column_of matrix.at c) (c + 1 == matrix.cols))

  abbrev number_in : ℕ → ℕ → Side → Layer → ℕ
  number_in r c = net (cell (row_at matrix r) (column_of matrix.at c) (c + 1 == matrix.cols))

  abbrev name_in : ℕ → ℕ → ℕ → ℕ
  name_in r c n = matrix_name nets matrix.at (piece r c n)

  -- the poly of a net's column has its name, at either side
  poly_name : (r c : ℕ) → r < height → (side : Side) (i : ℕ) → column_of matrix.at c ≡ columns.Wire i → name_in r c (number_in r c side Poly) ≡ i
  poly_name r c below side i k =
      let row = row_at matrix r in
      let few = (of_wire matrix.at i c k).0 in
      let named = λ (j : Column) (n : ℕ). net_among j (nets (r - 1)) (nets r) (nets (r + 1)) n in
      ap (λ (j : Column). named j (net (cell row j (c + 1 == matrix.cols)) side Poly)) k
      ∙ ap (named (columns.Wire i)) (wire_number row.kind (row.metal == i) (is_gated row.gated i) side)
      ∙ wire_name row.kind i (row.metal == i) (nets (r - 1)) (nets r) (nets (r + 1)) (meets_named matrix nets count vdd is i few r below)

  vertical_border : (r c : ℕ) → r < height → (t : Bool) (side : Side) → port_in r c side ≡ outer t (column_of matrix.at c) → (layer : Layer)
      → led_out (name_in r c) (port_in r c side) (number_in r c) side layer ≡ vertical t (column_of matrix.at c) layer
  vertical_border r c below t side e layer =
      ap (λ (p : Port). led_out (name_in r c) p (number_in r c) side layer) e
      ∙ leads_out t (column_of matrix.at c) (name_in r c) (number_in r c) side (poly_name r c below side) layer

  -- ---- side by side

  at_north : (c : ℕ) → port_in 0 c North ≡ outer (not (is_start (row_at matrix 0).kind)) (column_of matrix.at c)
  at_north c = above_blank blank_row (row_at matrix 0) is.north (c + 1 == matrix.cols) refl (column_of matrix.at c)

  at_south : (c : ℕ) → port_in (height - 1) c South ≡ outer (not (is_stop (row_at matrix (height - 1)).kind)) (column_of matrix.at c)
  at_south c =
      let some = is.some_row in
      let r = height - 1 in
      below_blank (row_at matrix r) (row_at matrix (r + 1)) (is.south r (omega arith)) (c + 1 == matrix.cols)
      (get_or_past matrix.rows (r + 1) blank_row (omega arith)) (column_of matrix.at c)

  -- the last column is of devices, or free; where metal goes on it is free
  end_port : (row : MatrixRow) (k : Column) (last : Bool) → last ≡ true → (k ≡ columns.Load → ⊥) → (k ≡ columns.Gate → ⊥)
      → ((i : ℕ) → k ≡ columns.Wire i → ⊥) → (has_metal row.kind ≡ true → row.onward ≡ true → k ≡ columns.Free)
      → port (cell row k last) East ≡ onward_port (has_metal row.kind && row.onward)
  end_port row columns.Load last e l g w f = absurd (l refl)
  end_port row columns.Gate last e l g w f = absurd (g refl)
  end_port row (columns.Wire i) last e l g w f = absurd (w i refl)
  end_port row (columns.Device i) last e l g w f =
      ap (λ (t : Bool). port (device_cell row.kind (is_gated row.gated i) t row.onward) East) e
      ∙ of_device row.kind (is_gated row.gated i) row.onward (λ m o. let free = f m o in cc)
    where
      of_device : (kind : RowKind) (gated onward : Bool) → (has_metal kind ≡ true → onward ≡ true → ⊥)
          → port (device_cell kind gated true onward) East ≡ onward_port (has_metal kind && onward)
      of_device kind gated false none = device_end kind gated ∙ ap onward_port (sym (and_false (has_metal kind)))
      of_device kind gated true none = elim (cases_Bool (has_metal kind)) [
        | inl m ↦ absurd (none m refl)
        | inr m ↦ no_metal_end kind gated true m ∙ ap (λ (t : Bool). onward_port (t && true)) (sym m)
      ]
  end_port row columns.Free last e l g w f =
      ap (λ (t : Bool). port (device_cell row.kind false t row.onward) East) e ∙ of_free row.kind row.onward
    where
      of_free : (kind : RowKind) (onward : Bool) → port (device_cell kind false true onward) East ≡ onward_port (has_metal kind && onward)
      of_free kind false = device_end kind false ∙ ap onward_port (sym (and_false (has_metal kind)))
      of_free kind true = free_end kind ∙ ap onward_port (sym (and_true (has_metal kind)))

  -- the poly of a row that goes on has the net of the metal
  end_number : (row : MatrixRow) (k : Column) (last : Bool) → last ≡ true → k ≡ columns.Free → has_metal row.kind ≡ true → row.onward ≡ true
      → net (cell row k last) East Poly ≡ 0
  end_number row k last e f m o =
      ap (λ (j : Column). net (cell row j last) East Poly) f
      ∙ ap (λ (t : Bool). net (device_cell row.kind false t row.onward) East Poly) e
      ∙ ap (λ (t : Bool). net (device_cell row.kind false true t) East Poly) o ∙ free_number row.kind m

  east_border : (r : ℕ) → r < height → (layer : Layer)
      → led_out (name_in r (matrix.cols - 1)) (port_in r (matrix.cols - 1) East) (number_in r (matrix.cols - 1)) East layer
      ≡ in_poly (has_metal (row_at matrix r).kind && (row_at matrix r).onward) (nets r) layer
  east_border r below layer =
      let c = matrix.cols - 1 in
      let row = row_at matrix r in
      let wide = few_nets matrix.at matrix.cols 2 is.columns in
      let some = is.some_wire in
      let last : c + 1 ≡ matrix.cols = omega arith in
      let test = eq-eqb (c + 1) matrix.cols last in
      let e = end_port row (column_of matrix.at c) (c + 1 == matrix.cols) test
      (λ k. let first = of_load matrix.at c k in omega arith)
      (λ k. let second = of_gate matrix.at c k in omega arith)
      (λ i k.
      let of = of_wire matrix.at i c k in
      let inside = (within matrix.at matrix.cols 2 i is.columns of.0).1 in
      let at_end = of.1 in
      omega arith) (is.east r below) in
      ap (λ (p : Port). led_out (name_in r c) p (number_in r c) East layer) e
      ∙ poly_out (has_metal row.kind && row.onward) (name_in r c) (number_in r c) East (nets r)
      (λ t.
      let both = both_true (has_metal row.kind) row.onward t in
      ap (name_in r c) (end_number row (column_of matrix.at c) (c + 1 == matrix.cols) test (is.east r below both.0 both.1) both.0 both.1)) layer

  pub border_is : (side : Side) (place : ℕ) (layer : Layer) → place < places_along (matrix_plan matrix) side
      → net_along (matrix_plan matrix) (matrix_name nets matrix.at) side place layer ≡ matrix_border matrix nets side place layer
  border_is North place layer below =
      vertical_border 0 place (let some = is.some_row in omega arith) (not (is_start (row_at matrix 0).kind)) North (at_north place) layer
      ∙ as_north layer
    where
      as_north : (l : Layer) → vertical (not (is_start (row_at matrix 0).kind))
          (column_of matrix.at place) l ≡ matrix_border matrix nets North place l
      as_north Metal = refl
      as_north Diffusion = refl
      as_north Poly = turned (is_start (row_at matrix 0).kind) (wire_in (column_of matrix.at place))
      as_north Cut = refl
      as_north Implant = refl
  border_is South place layer below =
      vertical_border (height - 1) place (let some = is.some_row in omega arith) (not (is_stop (row_at matrix (height - 1)).kind)) South
      (at_south place) layer
      ∙ as_south layer
    where
      as_south : (l : Layer) → vertical (not (is_stop (row_at matrix (height - 1)).kind))
          (column_of matrix.at place) l ≡ matrix_border matrix nets South place l
      as_south Metal = refl
      as_south Diffusion = refl
      as_south Poly = turned (is_stop (row_at matrix (height - 1)).kind) (wire_in (column_of matrix.at place))
      as_south Cut = refl
      as_south Implant = refl
  border_is East place layer below = east_border place below layer ∙ as_east layer
    where
      as_east : (l : Layer) → in_poly (has_metal (row_at matrix place).kind && (row_at matrix place).onward)
          (nets place) l ≡ matrix_border matrix nets East place l
      as_east Metal = refl
      as_east Diffusion = refl
      as_east Poly = refl
      as_east Cut = refl
      as_east Implant = refl
  border_is West place layer below =
      ap (λ (p : Port). led_out (name_in place 0) p (number_in place 0) West layer) (load_west (row_at matrix place).kind)
      ∙ poly_out false (name_in place 0) (number_in place 0) West 0 (λ e. absurd (cc)) layer ∙ as_west layer
    where
      as_west : (l : Layer) → in_poly false 0 l ≡ matrix_border matrix nets West place l
      as_west Metal = refl
      as_west Diffusion = refl
      as_west Poly = refl
      as_west Cut = refl
      as_west Implant = refl
