-- Each net of a part of an array leads to its home: that of the part below the planes, or the metal of its term.
use Rattle.std.proofs.Common.{◌≡◌, ℕ, zero, suc, ◌+◌, ◌-◌, ◌*◌, ◌<◌, ◌≤◌, nat_lt, Bool, inl, inr, if◌then◌else◌, length, get_or, Option, Some, None, refl, sym, ap, subst, ◌∙◌, arith}
use Rattle.std.specs.Prelude.{option_map}
use Rattle.std.proofs.lemmas.Bool.{cases_lt, lt-ltb, le-ltb}
use Rattle.geom.specs.declared.layer.Layer.TheVariants.{Poly}
use Rattle.micro_tiles.specs.declared.side.Side.TheVariants.{North, East, South, West}
use Rattle.stick_grid.specs.PlacedModules.{StandBeside, StandAbove, place_in, ModuleNet, ModulesJoin}
use Rattle.stick_grid.specs.PlacedModules.ModulesJoin.{same, west, south}
use Rattle.gate_matrix.specs.declared.column.Column.{Column}
use Rattle.gate_matrix.specs.Columns.{column_of, AreOfNets, ColumnsAreOfNets}
use Rattle.gate_matrix.specs.MatrixNets.{wire_in}
use Rattle.gate_matrix.specs.Drawn.{PartsFillRows}
use Rattle.pla_plan.specs.Planes.{PlaneTables, right_from, plane_rows, left_places, right_places}
use Rattle.pla_plan.specs.Fits.{IsArray}
use Rattle.pla_plan.proofs.Heights.{long_left}
use Rattle.pla_plan.proofs.Wires.{right_wires}
use Rattle.pla_plan.proofs.PlaneTiles.{first_of, second_of}
use Rattle.pla_plan.proofs.PlaneColumns.{is_wire, of_part, left_wire, sum_below}
use Rattle.pla_plan.proofs.PlaneMatrices.{right_long, right_height}
use Rattle.pla_plan.proofs.PlaneParts.{net_in, left_net, left_low, left_term, right_net, right_sum, modules, low_height}
use Rattle.pla_plan.proofs.PlaneSeams.{eastward, southward, left_goes_on, first_begins, sum_row}

-- An entry is renamed to this one.
record IsRenamed (f : ℕ → ℕ) (o : Option ℕ) (y : ℕ) : Type 0 where
  net : ℕ
  is : o ≡ Some net
  renamed : f net ≡ y

renamed_to : (f : ℕ → ℕ) (o : Option ℕ) (y : ℕ) → option_map f o ≡ Some y → IsRenamed f o y
renamed_to f None y e = absurd (cc)
renamed_to f (Some net) y e = record { net = net; is = refl; renamed = cc }

abbrev pub one_net : ℕ → ℕ → ModuleNet
one_net which net = record { which = which; net = net }

module _ (planes : PlaneTables) where
  -- the net of the part, or the metal of the term
  abbrev pub home : ℕ → ModuleNet
  home net = if nat_lt net planes.part.nets then one_net 4 net else one_net 0 (planes.left + 2 + (net - planes.part.nets))

  pub part_home : (net : ℕ) → net < planes.part.nets → home net ≡ one_net 4 net
  part_home net h = first_of (nat_lt net planes.part.nets) _ _ (lt-ltb net planes.part.nets h)

  pub term_home : (net : ℕ) → planes.part.nets ≤ net → home net ≡ one_net 0 (planes.left + 2 + (net - planes.part.nets))
  term_home net h = second_of (nat_lt net planes.part.nets) _ _ (le-ltb net planes.part.nets h)

module _ (planes : PlaneTables) (array : IsArray planes) (columns : ColumnsAreOfNets) (parts : PartsFillRows) where
  abbrev height : ℕ
  height = plane_rows planes

  abbrev Join : ModuleNet → ModuleNet → Type 0
  Join = ModulesJoin (modules planes) 5

  -- a net whose home is reached by a step to the south, or to the west
  by_south : (k l row col net y : ℕ) (target : ModuleNet) → StandAbove (modules planes) 5 k l row col
      → (modules planes k).border South (place_in (modules planes k) South col) Poly ≡ Some net → (modules planes k).rename net ≡ y
      → ((n : ℕ) → (modules planes l).rename n ≡ y → Join (one_net l n) target) → Join (one_net k net) target
  by_south k l row col net y target stand leads named rest =
      let m = modules planes k in
      let o = (modules planes l).border North (place_in (modules planes l) North col) Poly in
      let e : option_map (modules planes l).rename o ≡ Some y =
      sym (southward planes array columns parts k l row col Poly stand) ∙ ap (option_map m.rename) leads ∙ ap (λ (n : ℕ). Some n) named in
      let found = renamed_to (modules planes l).rename o y e in
      south (one_net k net) (one_net l found.net) target
      (record { row = row; col = col; layer = Poly; above = stand; first = leads; second = found.is }) (rest found.net found.renamed)

  by_west : (k l row col net y : ℕ) (target : ModuleNet) → StandBeside (modules planes) 5 k l row col
      → (modules planes l).border West (place_in (modules planes l) West row) Poly ≡ Some net → (modules planes l).rename net ≡ y
      → ((n : ℕ) → (modules planes k).rename n ≡ y → Join (one_net k n) target) → Join (one_net l net) target
  by_west k l row col net y target stand leads named rest =
      let m = modules planes l in
      let o = (modules planes k).border East (place_in (modules planes k) East row) Poly in
      let e : option_map (modules planes k).rename o ≡ Some y =
      eastward planes array columns parts k l row col Poly stand ∙ ap (option_map m.rename) leads ∙ ap (λ (n : ℕ). Some n) named in
      let found = renamed_to (modules planes k).rename o y e in
      west (one_net l net) (one_net k found.net) target
      (record { row = row; col = col; layer = Poly; beside = stand; first = found.is; second = leads }) (rest found.net found.renamed)

  -- ---- from the part up

  from_part : (n y : ℕ) → n ≡ y → y < planes.part.nets → Join (one_net 4 n) (home planes y)
  from_part n y e few =
      let there : home planes y ≡ one_net 4 n = part_home planes y few ∙ ap (one_net 4) (sym e) in
      subst (Join (one_net 4 n)) (sym there) (same (one_net 4 n))

  from_caps : (n y : ℕ) → n ≡ y → y < planes.part.nets → Join (one_net 3 n) (home planes y)
  from_caps n y e few =
      let long = array.part_fits.wires in
      let col = get_or planes.at n 0 in
      let wire = (of_part planes array columns).wire n (omega arith) in
      let inside = (of_part planes array columns).inside n (omega arith) in
      let right = inside.1 in
      let low = low_height planes array parts in
      let some = array.part_fits.some_row in
      let here : col - 0 ≡ col = omega arith in
      by_south 3 4 height col n y (home planes y)
      (record {
        first_known = omega arith;
        second_known = omega arith;
        first_holds = record { from_row = omega arith; to_row = omega arith; from_col = omega arith; to_col = omega arith };
        second_holds = record { from_row = omega arith; to_row = omega arith; from_col = omega arith; to_col = omega arith };
        first_ends = refl;
        second_begins = refl;
      })
      (ap (λ (x : ℕ). if is_wire (column_of planes.at x) then Some (net_in (column_of planes.at x)) else None) here
      ∙ ap (λ (k : Column). if is_wire k then Some (net_in k) else None) wire)
      e (λ b f. from_part b y f few)

  from_left_wire : (n y : ℕ) → n < planes.left + 2 → n ≡ y → Join (one_net 0 n) (home planes y)
  from_left_wire n y few e =
      let long = long_left planes in
      let nets = array.left_nets in
      let room = array.cols_fit in
      let col = 2 + 2 * n in
      let here : col - 0 ≡ col = omega arith in
      by_south 0 3 (height - 1) col n y (home planes y)
      (record {
        first_known = omega arith;
        second_known = omega arith;
        first_holds = record { from_row = omega arith; to_row = omega arith; from_col = omega arith; to_col = omega arith };
        second_holds = record { from_row = omega arith; to_row = omega arith; from_col = omega arith; to_col = omega arith };
        first_ends = omega arith;
        second_begins = omega arith;
      })
      (ap (λ (t : Bool). if t then None else wire_in (column_of (left_places (planes.left + 2)) (col - 0))) (left_goes_on planes array columns parts)
      ∙ ap (λ (x : ℕ). wire_in (column_of (left_places (planes.left + 2)) x)) here ∙ ap wire_in (left_wire planes array columns n few))
      (left_low planes n few ∙ e) (λ b f. from_caps b y f (omega arith))

  from_left : (n y : ℕ) → left_net planes n ≡ y → Join (one_net 0 n) (home planes y)
  from_left n y e = elim (cases_lt n (planes.left + 2)) [
    | inl h ↦ from_left_wire n y h (sym (left_low planes n h) ∙ e)
    | inr h ↦
        let k = n - (planes.left + 2) in
        let f = left_term planes n k (omega arith) in
        let back : planes.left + 2 + (y - planes.part.nets) ≡ n = omega arith in
        let there : home planes y ≡ one_net 0 n = term_home planes y (omega arith) ∙ ap (one_net 0) back in
        subst (Join (one_net 0 n)) (sym there) (same (one_net 0 n))
  ]

  -- ---- from the right plane

  of_right : AreOfNets (right_places (length planes.terms)) height
  of_right = columns (right_places (length planes.terms)) height (right_wires (length planes.terms) height (omega arith))

  from_right_wire : (n y : ℕ) → n < length planes.terms + 2 → right_net planes n ≡ y → Join (one_net 1 n) (home planes y)
  from_right_wire n y few e =
      let at = right_places (length planes.terms) in
      let wires = right_long planes array in
      let long = long_left planes in
      let across = right_height planes array in
      let some = array.some_sum in
      let row = get_or at n 0 in
      let wire = of_right.wire n (omega arith) in
      let inside = (of_right.inside n (omega arith)).1 in
      let here : row - 0 ≡ row = omega arith in
      by_west 0 1 row (right_from planes - 1) n y (home planes y)
      (record {
        first_known = omega arith;
        second_known = omega arith;
        first_holds = record { from_row = omega arith; to_row = omega arith; from_col = omega arith; to_col = omega arith };
        second_holds = record { from_row = omega arith; to_row = omega arith; from_col = omega arith; to_col = omega arith };
        first_ends = omega arith;
        second_begins = omega arith;
      })
      (ap (λ (t : Bool). if t then None else wire_in (column_of at (row - 0))) (first_begins planes array columns parts)
      ∙ ap (λ (x : ℕ). wire_in (column_of at x)) here ∙ ap wire_in wire)
      e (λ b f. from_left b y f)

  from_right : (n y : ℕ) → n < length planes.terms + 2 + length planes.sums → right_net planes n ≡ y → Join (one_net 1 n) (home planes y)
  from_right n y below e = elim (cases_lt n (length planes.terms + 2)) [
    | inl h ↦ from_right_wire n y h e
    | inr h ↦
        let s = n - (length planes.terms + 2) in
        let few : s < length planes.sums = omega arith in
        let named = right_sum planes n s (omega arith) in
        let target = sum_below planes array columns s few in
        let long = right_height planes array in
        let room = array.cols_fit in
        let col = right_from planes + 8 * s + 2 in
        let same_net : length planes.terms + 2 + s ≡ n = omega arith in
        by_south 1 3 (height - 1) col n y (home planes y)
        (record {
          first_known = omega arith;
          second_known = omega arith;
          first_holds = record { from_row = omega arith; to_row = omega arith; from_col = omega arith; to_col = omega arith };
          second_holds = record { from_row = omega arith; to_row = omega arith; from_col = omega arith; to_col = omega arith };
          first_ends = omega arith;
          second_begins = omega arith;
        })
        (sum_row planes array columns parts s (col - right_from planes) few (omega arith) ∙ ap (λ (x : ℕ). Some x) same_net)
        e (λ b f. from_caps b y f (omega arith))
  ]

  -- ---- all parts

  pub leads : (k n : ℕ) → k < 5 → n < (modules planes k).count → Join (one_net k n) (home planes ((modules planes k).rename n))
  leads zero n h below = from_left n (left_net planes n) refl
  leads (suc zero) n h below = from_right n (right_net planes n) below refl
  leads (suc (suc zero)) n h below = absurd (omega arith)
  leads (suc (suc (suc zero))) n h below = from_caps n n refl below
  leads (suc (suc (suc (suc zero)))) n h below = from_part n n refl below
  leads (suc (suc (suc (suc (suc k))))) n h below = absurd (omega arith)
