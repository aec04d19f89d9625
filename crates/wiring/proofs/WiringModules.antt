-- A plan of wires is a module without devices.
use Rattle.std.proofs.Common.{◌≡◌, ℕ, zero, suc, ◌+◌, ◌-◌, ◌<◌, ◌≤◌, Bool, if◌then◌else◌, Option, Some, None, option_map, List, [], ◌++◌, find, flat_map, refl, sym, ap, ap₂, ◌∙◌, subst, arith}
use Rattle.std.specs.List.{range_with_len}
use Rattle.std.proofs.lemmas.List.Sorted.{IsPermutation-refl}
use Rattle.geom.specs.declared.layer.Layer.{Layer}
use Rattle.geom.specs.declared.layer.Layer.TheVariants.{Diffusion, Poly, Metal, Cut, Implant}
use Rattle.micro_tiles.specs.declared.side.Side.{Side}
use Rattle.micro_tiles.specs.declared.side.Side.TheVariants.{North, East, South, West}
use Rattle.micro_tiles.specs.Designs.{side_net}
use Rattle.micro_tiles.specs.Table.{design_of, transistor_at}
use Rattle.nmos_model.specs.Lists.{Matched}
use Rattle.stick_grid.specs.Plans.{Plan, IsPlan}
use Rattle.stick_grid.specs.Transistors.{piece}
use Rattle.stick_grid.specs.Names.{PlansHavePaths}
use Rattle.stick_grid.specs.Devices.{placed, transistor_in, transistors_in_row, transistors_of, IsNamedDevice}
use Rattle.stick_grid.specs.Modules.{places_along, net_along}
use Rattle.wiring.specs.Wirings.{Span, Run, Wiring, crosses, has_poly, has_metal, poly_net, metal_net, wiring_plan, wiring_tile, wiring_border}
use Rattle.wiring.specs.WiringNets.{IsWiring, WiringsAreModules, wire_name}
use Rattle.wiring.proofs.Spans.{any_found, none_found, found}
use Rattle.wiring.proofs.Tiles.{LeadsOut, in_poly, in_metal, poly_out, metal_out}
use Rattle.wiring.proofs.WireTiles.{crossing_span, has, metal_named, run_named, poly_named}
use Rattle.wiring.proofs.WireNames.{run_at, are_names}

-- ---- no transistors

flat_none : {X : Type 0} (f : ℕ → List X) (from n : ℕ) → ((k : ℕ) → k < from + n → f k ≡ []) → flat_map f (range_with_len from n) ≡ []
flat_none f from zero each = refl
flat_none f from (suc n) each = ap₂ ◌++◌ (each from (omega arith)) (flat_none f (from + 1) n (λ k l. each k (omega arith)))

no_transistors : (plan : Plan) → ((row col : ℕ) → row < plan.rows → col < plan.cols → transistor_at (plan.tile row col) ≡ None)
    → transistors_of plan ≡ []
no_transistors plan each =
    flat_none (transistors_in_row plan) 0 plan.rows (λ row is_row. flat_none (transistor_in plan row) 0 plan.cols
    (λ col is_col. ap (placed row col) (each row col (omega arith) (omega arith))))

module _ (w : Wiring) (count : ℕ) (is : IsWiring w count) where
  are_plan : IsPlan (wiring_plan w)
  are_plan = record {
    known = λ row col is_row is_col. (has w count is row col is_row is_col).known;
    eastward = λ row col is_row is_col.
        (has w count is row col is_row (omega arith)).east ∙ sym (has w count is row (col + 1) is_row is_col).west;
    southward = λ row col is_row is_col.
        (has w count is row col (omega arith) is_col).south ∙ sym (has w count is (row + 1) col is_row is_col).north;
  }

  -- ---- the border

  poly_leads : (row col border : ℕ) (side : Side) → row < w.rows → col < w.cols → border ≤ row + 1 → row ≤ border
      → LeadsOut (has_poly w border col) (poly_net w border col)
      (wire_name w (piece row col (side_net (design_of (wiring_tile w row col)) side Poly)))
  poly_leads row col border side is_row is_col l u = record {
    some = λ h.
        let f = crossing_span w count is border col h in
        let c = found border (w.spans col) f.0 f.1 in
        let a = c.begun in
        let b = c.not_over in
        let named = poly_named w count is (piece row col (side_net (design_of (wiring_tile w row col)) side Poly)) f.0 is_row is_col c.among
        (record { to_row = omega arith; from_row = omega arith }) ((has w count is row col is_row is_col).of_poly side) in
        ap (λ (n : ℕ). Some n) named ∙ sym (ap (λ (o : Option Span). option_map (λ (s : Span). s.net) o) f.1);
    no_net = λ h.
        let none = none_found (find (crosses border) (w.spans col)) (sym (any_found border (w.spans col)) ∙ h) in
        sym (ap (λ (o : Option Span). option_map (λ (s : Span). s.net) o) none);
  }

  metal_leads : (row col border : ℕ) (side : Side) → row < w.rows → col < w.cols
      → LeadsOut (has_metal w row border) (metal_net w row border)
      (wire_name w (piece row col (side_net (design_of (wiring_tile w row col)) side Metal)))
  metal_leads row col border side is_row is_col = record {
    some = λ h.
        let r = run_at w count is row border h in
        let named = metal_named w count is (piece row col (side_net (design_of (wiring_tile w row col)) side Metal))
        ((has w count is row col is_row is_col).of_metal side) ∙ run_named w count is row r.run r.here in
        ap (λ (n : ℕ). Some n) named
        ∙ sym (ap (λ (o : Option Run). option_map (λ (x : Run). x.net) o) r.here)
        ∙ sym (ap (λ (t : Bool). if t then option_map (λ (x : Run). x.net) (w.run row) else None) h);
    no_net = λ h. sym (ap (λ (t : Bool). if t then option_map (λ (x : Run). x.net) (w.run row) else None) h);
  }

  border_is : (side : Side) (place : ℕ) (layer : Layer) → place < places_along (wiring_plan w) side
      → net_along (wiring_plan w) (wire_name w) side place layer ≡ wiring_border w side place layer
  border_is North place layer below =
      let top : 0 < w.rows = (let some = is.some_row in omega arith) in
      poly_out (has_poly w 0 place) (poly_net w 0 place) (wiring_tile w 0 place) North (λ net. wire_name w (piece 0 place net))
      (has w count is 0 place top below).north (poly_leads 0 place 0 North top below (omega arith) (omega arith)) layer
      ∙ same_border layer
    where
      same_border : (l : Layer) → in_poly (poly_net w 0 place) l ≡ wiring_border w North place l
      same_border Metal = refl
      same_border Diffusion = refl
      same_border Poly = refl
      same_border Cut = refl
      same_border Implant = refl
  border_is South place layer below =
      let some = is.some_row in
      let row = w.rows - 1 in
      let bottom : w.rows - 1 < w.rows = omega arith in
      let e : w.rows - 1 + 1 ≡ w.rows = omega arith in
      poly_out (has_poly w (row + 1) place) (poly_net w (row + 1) place) (wiring_tile w row place) South (λ net. wire_name w (piece row place net))
      (has w count is row place bottom below).south (poly_leads row place (row + 1) South bottom below (omega arith) (omega arith)) layer
      ∙ ap (λ (b : ℕ). in_poly (poly_net w b place) layer) e ∙ same_border layer
    where
      same_border : (l : Layer) → in_poly (poly_net w w.rows place) l ≡ wiring_border w South place l
      same_border Metal = refl
      same_border Diffusion = refl
      same_border Poly = refl
      same_border Cut = refl
      same_border Implant = refl
  border_is West place layer below =
      let left : 0 < w.cols = (let some = is.some_col in omega arith) in
      metal_out (has_metal w place 0) (metal_net w place 0) (wiring_tile w place 0) West (λ net. wire_name w (piece place 0 net))
      (has w count is place 0 below left).west (metal_leads place 0 0 West below left) layer
      ∙ same_border layer
    where
      same_border : (l : Layer) → in_metal (metal_net w place 0) l ≡ wiring_border w West place l
      same_border Metal = refl
      same_border Diffusion = refl
      same_border Poly = refl
      same_border Cut = refl
      same_border Implant = refl
  border_is East place layer below =
      let some = is.some_col in
      let col = w.cols - 1 in
      let right : w.cols - 1 < w.cols = omega arith in
      let e : w.cols - 1 + 1 ≡ w.cols = omega arith in
      metal_out (has_metal w place (col + 1)) (metal_net w place (col + 1)) (wiring_tile w place col) East (λ net. wire_name w (piece place col net))
      (has w count is place col below right).east (metal_leads place col (col + 1) East below right) layer
      ∙ ap (λ (b : ℕ). in_metal (metal_net w place b) layer) e ∙ same_border layer
    where
      same_border : (l : Layer) → in_metal (metal_net w place w.cols) l ≡ wiring_border w East place l
      same_border Metal = refl
      same_border Diffusion = refl
      same_border Poly = refl
      same_border Cut = refl
      same_border Implant = refl

pub wirings_are_modules : PlansHavePaths → WiringsAreModules
wirings_are_modules paths w count vdd is = record {
  is_plan = are_plan w count is;
  names = are_names w count is (paths (wiring_plan w));
  drawn = [];
  transistors =
      subst (λ l. Matched (IsNamedDevice (wire_name w) vdd) l [])
      (sym (no_transistors (wiring_plan w) (λ row col is_row is_col. (has w count is row col is_row is_col).none))) tt;
  as_drawn = IsPermutation-refl [];
  border_is = border_is w count is;
}
