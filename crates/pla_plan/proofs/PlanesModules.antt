-- An array is a module of its terms, its sums and its part.
use Rattle.std.proofs.Common.{◌≡◌, ℕ, zero, suc, ◌+◌, ◌-◌, ◌<◌, ◌≤◌, inl, inr, List, [], ◌∷◌, ◌++◌, length, get_or, map, All, Option, Some, None, refl, sym, ap, subst, ◌∙◌, append_assoc, arith}
use Rattle.std.specs.Prelude.{option_map, flat_map}
use Rattle.std.proofs.lemmas.Bool.{cases_lt}
use Rattle.std.proofs.lemmas.List.{append-nil}
use Rattle.geom.specs.declared.layer.Layer.{Layer}
use Rattle.geom.specs.declared.layer.Layer.TheVariants.{Diffusion, Poly, Metal, Cut, Implant}
use Rattle.micro_tiles.specs.declared.side.Side.{Side}
use Rattle.micro_tiles.specs.declared.side.Side.TheVariants.{North, East, South, West}
use Rattle.switch_net.specs.Circuit.{renamed_device}
use Rattle.switch_net.specs.declared.network.Device.{Device}
use Rattle.switch_net.specs.declared.network.Device.TheVariants as devices
use Rattle.stick_grid.specs.Modules.{IsModule}
use Rattle.stick_grid.specs.Mirrors.{MirrorsAreModules}
use Rattle.stick_grid.specs.PlacedModules.{AreCovering, whole_devices, whole_border, border_in, whole_name, CoveringsAreModules}
use Rattle.stick_grid.specs.PlainModules.{EmptyPlansAreModules, PolyRowsAreModules}
use Rattle.nor_net.specs.Part.{part_devices}
use Rattle.gate_matrix.specs.Columns.{column_of, ColumnsAreOfNets}
use Rattle.gate_matrix.specs.MatrixNets.{wire_in, MatricesAreModules}
use Rattle.gate_matrix.specs.Drawn.{PartsFillRows}
use Rattle.gate_matrix.specs.Modules.{PartsAreModules}
use Rattle.pla_plan.specs.Planes.{PlaneTables, plane_rows, right_from, right_end, planes_plan}
use Rattle.pla_plan.specs.Fits.{IsArray, no_gate}
use Rattle.pla_plan.specs.PlaneModules.{loaded_gate, planes_devices, planes_border, IsArrayModule, PlanesAreModules}
use Rattle.pla_plan.proofs.PlaneDevices.{left_devices, right_devices}
use Rattle.pla_plan.proofs.PlaneParts.{left_net, left_low, left_term, right_net, right_term, right_ground, right_sum, modules, which, which_left, which_right, which_rest, which_caps, which_low, placed, known, holds, once}
use Rattle.pla_plan.proofs.PlaneSeams.{eastward, southward}
use Rattle.pla_plan.proofs.PlaneHomes.{home, part_home, term_home, leads}

same_device : (device : Device) → renamed_device (λ (n : ℕ). n) device ≡ device
same_device (devices.Pass gate a b) = refl
same_device (devices.Load net) = refl

same_devices : (list : List Device) → map (renamed_device (λ (n : ℕ). n)) list ≡ list
same_devices [] = refl
same_devices (device ∷ list) =
    ap (λ (d : Device). d ∷ map (renamed_device (λ (n : ℕ). n)) list) (same_device device) ∙ ap (λ l. device ∷ l) (same_devices list)

same_entry : (o : Option ℕ) → option_map (λ (n : ℕ). n) o ≡ o
same_entry None = refl
same_entry (Some n) = refl

module _ (planes : PlaneTables) (array : IsArray planes) (columns : ColumnsAreOfNets) (parts : PartsFillRows) (matrix_modules : MatricesAreModules)
    (mirror : MirrorsAreModules) (empties : EmptyPlansAreModules) (polys : PolyRowsAreModules) (part_modules : PartsAreModules) where
  abbrev count : ℕ
  count = planes.part.nets + length planes.terms

  home_known : (net : ℕ) → net < count → (home planes net).which < 5
  home_known net h = elim (cases_lt net planes.part.nets) [
    | inl k ↦ let e = ap (λ a. a.which) (part_home planes net k) in omega arith
    | inr k ↦ let e = ap (λ a. a.which) (term_home planes net k) in omega arith
  ]

  home_below : (net : ℕ) → net < count → (home planes net).net < (modules planes (home planes net).which).count
  home_below net h = elim (cases_lt net planes.part.nets) [
    | inl k ↦ subst (λ a. a.net < (modules planes a.which).count) (sym (part_home planes net k)) k
    | inr k ↦ subst (λ a. a.net < (modules planes a.which).count) (sym (term_home planes net k)) (omega arith)
  ]

  bears : (net : ℕ) → net < count → (modules planes (home planes net).which).rename (home planes net).net ≡ net
  bears net h = elim (cases_lt net planes.part.nets) [
    | inl k ↦ ap (λ a. (modules planes a.which).rename a.net) (part_home planes net k)
    | inr k ↦
        ap (λ a. (modules planes a.which).rename a.net) (term_home planes net k)
        ∙ left_term planes (planes.left + 2 + (net - planes.part.nets)) (net - planes.part.nets) refl
        ∙ (let e : planes.part.nets + (net - planes.part.nets) ≡ net = omega arith in e)
  ]

  covering : AreCovering (planes_plan planes) count planes.part.vdd (modules planes) 5
  covering = record {
    some_row = (let room = array.rows_fit in omega arith);
    some_col = (let room = array.cols_fit in omega arith);
    placed = placed planes array columns parts matrix_modules mirror empties polys part_modules;
    at = which planes;
    known = known planes array parts;
    holds = holds planes array parts;
    once = once planes array parts;
    eastward = eastward planes array columns parts;
    southward = southward planes array columns parts;
    home = home planes;
    home_known = home_known;
    home_below = home_below;
    bears = bears;
    leads = λ a few below. leads planes array columns parts a.which a.net few below;
  }

  -- ---- the devices

  terms_named : (k : ℕ) → k < length planes.terms → left_net planes (planes.left + 2 + k) ≡ (get_or planes.terms k no_gate).out
  terms_named k h = left_term planes (planes.left + 2 + k) k refl ∙ sym (array.term_nets k h)

  terms_fixed : All (λ term. All (λ i. left_net planes i ≡ i) term.inputs) planes.terms
  terms_fixed k d below j e less =
      let high = ((array.terms k d below).inputs j e less).1 in
      left_low planes (get_or (get_or planes.terms k d).inputs j e) (omega arith)

  sums_fixed : All (λ sum. All (λ i. right_net planes (i - planes.part.nets + 1) ≡ i) sum.inputs) planes.sums
  sums_fixed k d below j e less =
      let between = (array.sums k d below).inputs j e less in
      let low = between.0 in
      let high = between.1 in
      let i = get_or (get_or planes.sums k d).inputs j e in
      right_term planes (i - planes.part.nets + 1) (i - planes.part.nets) refl (omega arith)
      ∙ (let back : planes.part.nets + (i - planes.part.nets) ≡ i = omega arith in back)

  all_devices : whole_devices (modules planes) 5 ≡ planes_devices planes
  all_devices =
      let low = part_devices planes.part in
      let one = flat_map (loaded_gate planes.part.gnd) planes.terms in
      let two = flat_map (loaded_gate planes.part.gnd) planes.sums in
      let same = λ (l : List Device). map (renamed_device (λ (n : ℕ). n)) l in
      let terms = left_devices (left_net planes) planes (left_low planes (planes.left + 1) (omega arith) ∙ sym array.ground) terms_named terms_fixed in
      let sums = right_devices (right_net planes) planes (right_ground planes (length planes.terms + 1) refl ∙ sym array.ground)
      (λ k h. right_sum planes (length planes.terms + 2 + k) k refl) sums_fixed in
      ap (λ l. l ++ (map (renamed_device (right_net planes)) (modules planes 1).devices ++ (same low ++ []))) terms
      ∙ ap (λ l. one ++ (l ++ (same low ++ []))) sums ∙ ap (λ l. one ++ (two ++ l)) (append-nil (same low) ∙ same_devices low)
      ∙ sym (append_assoc one two low)

  -- ---- the border

  north_none : (k place : ℕ) (layer : Layer) → k < 3 → border_in (modules planes k) North place layer ≡ None
  north_none zero place Poly h = refl
  north_none zero place Metal h = refl
  north_none zero place Diffusion h = refl
  north_none zero place Cut h = refl
  north_none zero place Implant h = refl
  north_none (suc zero) place Poly h = refl
  north_none (suc zero) place Metal h = refl
  north_none (suc zero) place Diffusion h = refl
  north_none (suc zero) place Cut h = refl
  north_none (suc zero) place Implant h = refl
  north_none (suc (suc zero)) place layer h = refl
  north_none (suc (suc (suc k))) place layer h = absurd (omega arith)

  east_none : (k place : ℕ) (layer : Layer) → 2 ≤ k → k < 5 → border_in (modules planes k) East place layer ≡ None
  east_none zero place layer low h = absurd (omega arith)
  east_none (suc zero) place layer low h = absurd (omega arith)
  east_none (suc (suc zero)) place layer low h = refl
  east_none (suc (suc (suc zero))) place Poly low h = refl
  east_none (suc (suc (suc zero))) place Metal low h = refl
  east_none (suc (suc (suc zero))) place Diffusion low h = refl
  east_none (suc (suc (suc zero))) place Cut low h = refl
  east_none (suc (suc (suc zero))) place Implant low h = refl
  east_none (suc (suc (suc (suc zero)))) place Poly low h = refl
  east_none (suc (suc (suc (suc zero)))) place Metal low h = refl
  east_none (suc (suc (suc (suc zero)))) place Diffusion low h = refl
  east_none (suc (suc (suc (suc zero)))) place Cut low h = refl
  east_none (suc (suc (suc (suc zero)))) place Implant low h = refl
  east_none (suc (suc (suc (suc (suc k))))) place layer low h = absurd (omega arith)

  west_none : (k place : ℕ) (layer : Layer) → (k ≡ 1 → ⊥) → k < 5 → border_in (modules planes k) West place layer ≡ None
  west_none zero place Poly other h = refl
  west_none zero place Metal other h = refl
  west_none zero place Diffusion other h = refl
  west_none zero place Cut other h = refl
  west_none zero place Implant other h = refl
  west_none (suc zero) place layer other h = absurd (other refl)
  west_none (suc (suc zero)) place layer other h = refl
  west_none (suc (suc (suc zero))) place Poly other h = refl
  west_none (suc (suc (suc zero))) place Metal other h = refl
  west_none (suc (suc (suc zero))) place Diffusion other h = refl
  west_none (suc (suc (suc zero))) place Cut other h = refl
  west_none (suc (suc (suc zero))) place Implant other h = refl
  west_none (suc (suc (suc (suc zero)))) place Poly other h = refl
  west_none (suc (suc (suc (suc zero)))) place Metal other h = refl
  west_none (suc (suc (suc (suc zero)))) place Diffusion other h = refl
  west_none (suc (suc (suc (suc zero)))) place Cut other h = refl
  west_none (suc (suc (suc (suc zero)))) place Implant other h = refl
  west_none (suc (suc (suc (suc (suc k))))) place layer other h = absurd (omega arith)

  low_south : (place : ℕ) (layer : Layer) → border_in (modules planes 4) South place layer ≡ planes_border planes.at South place layer
  low_south place Poly =
      let here : place - 0 ≡ place = omega arith in
      same_entry (wire_in (column_of planes.at (place - 0))) ∙ ap (λ (c : ℕ). wire_in (column_of planes.at c)) here
  low_south place Metal = refl
  low_south place Diffusion = refl
  low_south place Cut = refl
  low_south place Implant = refl

  none_else : (side : Side) (place : ℕ) (layer : Layer) → (side ≡ South → ⊥) → planes_border planes.at side place layer ≡ None
  none_else North place layer h = refl
  none_else East place layer h = refl
  none_else West place layer h = refl
  none_else South place layer h = absurd (h refl)

  first_row : (col : ℕ) → which planes 0 col < 3
  first_row col = elim (cases_lt col (right_from planes)) [
    | inl k ↦ let e = which_left planes 0 col (omega arith) k in omega arith
    | inr k ↦ elim (cases_lt col (right_end planes)) [
      | inl m ↦ let e = which_right planes 0 col (omega arith) k m in omega arith
      | inr m ↦ let e = which_rest planes 0 col (omega arith) m in omega arith
    ]
  ]

  -- the first and the last column
  last_col : (row : ℕ) → (2 ≤ which planes row (planes.cols - 1)) × (which planes row (planes.cols - 1) < 5)
  last_col row =
      let room = array.cols_fit in
      elim (cases_lt row (plane_rows planes)) [
        | inl h ↦ let e = which_rest planes row (planes.cols - 1) h (omega arith) in (omega arith, omega arith)
        | inr h ↦ elim (cases_lt (plane_rows planes) row) [
          | inl m ↦ let e = which_low planes row (planes.cols - 1) m in (omega arith, omega arith)
          | inr m ↦ let e = which_caps planes row (planes.cols - 1) (omega arith) in (omega arith, omega arith)
        ]
      ]

  first_col : (row : ℕ) → (which planes row 0 ≡ 1 → ⊥) × (which planes row 0 < 5)
  first_col row = elim (cases_lt row (plane_rows planes)) [
    | inl h ↦ let e = which_left planes row 0 h (omega arith) in (λ f. omega arith, omega arith)
    | inr h ↦ elim (cases_lt (plane_rows planes) row) [
      | inl m ↦ let e = which_low planes row 0 m in (λ f. omega arith, omega arith)
      | inr m ↦ let e = which_caps planes row 0 (omega arith) in (λ f. omega arith, omega arith)
    ]
  ]

  border_is : (side : Side) (place : ℕ) (layer : Layer)
      → whole_border (planes_plan planes) (modules planes) (which planes) side place layer ≡ planes_border planes.at side place layer
  border_is North place layer = north_none (which planes 0 place) place layer (first_row place) ∙ sym (none_else North place layer (λ e. cc))
  border_is East place layer =
      let h = last_col place in
      east_none (which planes place (planes.cols - 1)) place layer h.0 h.1 ∙ sym (none_else East place layer (λ e. cc))
  border_is South place layer =
      let room = array.rows_fit in
      let some = array.part_fits.some_row in
      ap (λ (k : ℕ). border_in (modules planes k) South place layer) (which_low planes (planes.rows - 1) place (omega arith)) ∙ low_south place layer
  border_is West place layer =
      let h = first_col place in
      west_none (which planes place 0) place layer h.0 h.1 ∙ sym (none_else West place layer (λ e. cc))

  -- ---- the whole

  pub is_array_module : CoveringsAreModules → IsArrayModule planes
  unfolding covering
  is_array_module coverings =
      let whole = coverings (planes_plan planes) count planes.part.vdd (modules planes) 5 covering in
      let made = subst (λ l. IsModule (planes_plan planes) count (whole_name (modules planes) (which planes)) planes.part.vdd l
      (whole_border (planes_plan planes) (modules planes) (which planes))) all_devices whole in
      record {
        name = whole_name (modules planes) (which planes);
        is_module = record {
          is_plan = made.is_plan;
          names = made.names;
          drawn = made.drawn;
          transistors = made.transistors;
          as_drawn = made.as_drawn;
          border_is = λ side place layer along. made.border_is side place layer along ∙ border_is side place layer;
        };
      }

pub planes_are_modules : ColumnsAreOfNets → PartsFillRows → MatricesAreModules → MirrorsAreModules → EmptyPlansAreModules → PolyRowsAreModules
    → PartsAreModules → CoveringsAreModules → PlanesAreModules
planes_are_modules columns parts matrix_modules mirror empties polys part_modules coverings planes array =
    is_array_module planes array columns parts matrix_modules mirror empties polys part_modules coverings
