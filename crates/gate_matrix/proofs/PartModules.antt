-- A part that is drawn is its module.
use Rattle.std.proofs.Common.{◌≡◌, ℕ, ◌+◌, ◌-◌, ◌<◌, ◌&&◌, Bool, true, false, if◌then◌else◌, List, map, length, Option, Some, None, IsPermutation, refl, sym, ◌∙◌, ap, subst, arith}
use Rattle.std.proofs.lemmas.List.Sorted.{IsPermutation-trans, IsPermutation-map}
use Rattle.geom.specs.declared.layer.Layer.{Layer}
use Rattle.geom.specs.declared.layer.Layer.TheVariants.{Diffusion, Poly, Metal, Cut, Implant}
use Rattle.micro_tiles.specs.declared.side.Side.{Side}
use Rattle.micro_tiles.specs.declared.side.Side.TheVariants.{North, East, South, West}
use Rattle.switch_net.specs.Circuit.{ascending}
use Rattle.stick_grid.specs.Modules.{places_along}
use Rattle.nor_net.specs.Part.{PartTables, IsPart, part_devices}
use Rattle.gate_matrix.specs.Rows.{has_metal}
use Rattle.gate_matrix.specs.Cells.{Matrix, matrix_plan}
use Rattle.gate_matrix.specs.Columns.{column_of}
use Rattle.gate_matrix.specs.Matrices.{is_start, is_stop}
use Rattle.gate_matrix.specs.MatrixNets.{row_at, wire_in, matrix_devices, matrix_border, MatricesAreModules}
use Rattle.gate_matrix.specs.PartRows.{height_of_part}
use Rattle.gate_matrix.specs.Drawn.{FitsPart, part_matrix}
use Rattle.gate_matrix.specs.Modules.{metal_in, part_border, PartsAreModules}
use Rattle.gate_matrix.proofs.Chains.{long_rows, rows_stacked, first_stacked}
use Rattle.gate_matrix.proofs.PartRowsFine.{row_fine, part_nets}
use Rattle.gate_matrix.proofs.PartDevices.{all_drawn, as_rows, rows_draw}
use Rattle.gate_matrix.proofs.PartLoads.{part_permuted}

module _ (part : PartTables) (at : List ℕ) (rows cols : ℕ) (is : IsPart part) (fits : FitsPart part at rows cols) where
  abbrev matrix : Matrix
  matrix = part_matrix part at rows cols

  abbrev spare : ℕ
  spare = rows - height_of_part part

  devices_are : matrix_devices matrix (metal_in matrix) ≡ all_drawn part
  devices_are =
      as_rows matrix 0 (metal_in matrix 0) matrix.rows (λ k. ap (row_at matrix) (let e : 0 + k ≡ k = omega arith in e)) refl
      ∙ rows_draw part spare (metal_in matrix 0)

  -- ---- the border

  open_above : (t : Bool) (o : Option ℕ) → t ≡ false → (if t then None else o) ≡ o
  open_above true o e = absurd (cc)
  open_above false o e = refl

  closed_east : (m o : Bool) (net : ℕ) → o ≡ false → ◌≡◌ {A = Option ℕ} (if m && o then Some net else None) None
  closed_east true true net e = absurd (cc)
  closed_east true false net e = refl
  closed_east false o net e = refl

  border_is : (side : Side) (place : ℕ) (layer : Layer) → place < places_along (matrix_plan matrix) side
      → matrix_border matrix (metal_in matrix) side place layer ≡ part_border at side place layer
  border_is North place Poly below = open_above (is_start (row_at matrix 0).kind) (wire_in (column_of at place))
      (first_stacked part spare).leads.begun
  border_is North place Metal below = refl
  border_is North place Diffusion below = refl
  border_is North place Cut below = refl
  border_is North place Implant below = refl
  border_is South place Poly below =
      let last = length matrix.rows - 1 in
      let long = long_rows part rows fits.rows_fit in
      let some = fits.some_row in
      open_above (is_stop (row_at matrix last).kind) (wire_in (column_of at place)) (rows_stacked part spare last (omega arith)).leads.ended
  border_is South place Metal below = refl
  border_is South place Diffusion below = refl
  border_is South place Cut below = refl
  border_is South place Implant below = refl
  border_is East place Poly below =
      closed_east (has_metal (row_at matrix place).kind) (row_at matrix place).onward (metal_in matrix place)
      (row_fine part is at rows cols fits place below).closed
  border_is East place Metal below = refl
  border_is East place Diffusion below = refl
  border_is East place Cut below = refl
  border_is East place Implant below = refl
  border_is West place Poly below = refl
  border_is West place Metal below = refl
  border_is West place Diffusion below = refl
  border_is West place Cut below = refl
  border_is West place Implant below = refl

pub parts_are_modules : MatricesAreModules → PartsAreModules
parts_are_modules modules part at rows cols is fits =
    let matrix = part_matrix part at rows cols in
    let m = modules matrix (metal_in matrix) part.nets part.vdd (part_nets part is at rows cols fits) in
    let listed = subst (λ l. IsPermutation l (part_devices part)) (sym (devices_are part at rows cols is fits)) (part_permuted part is) in
    record {
      is_plan = m.is_plan;
      names = m.names;
      drawn = m.drawn;
      transistors = m.transistors;
      as_drawn =
          IsPermutation-trans (map ascending m.drawn) (map ascending (matrix_devices matrix (metal_in matrix)))
          (map ascending (part_devices part)) m.as_drawn
          (IsPermutation-map ascending (matrix_devices matrix (metal_in matrix)) (part_devices part) listed);
      border_is = λ side place layer below. m.border_is side place layer below ∙ border_is part at rows cols is fits side place layer below;
    }
