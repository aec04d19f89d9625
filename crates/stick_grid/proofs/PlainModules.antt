-- Empty plans and rows of poly are modules.
use Rattle.std.proofs.Common.{◌≡◌, ℕ, ◌+◌, ◌-◌, ◌<◌, ◌≤◌, Bool, true, false, ◌||◌, if◌then◌else◌, inl, inr, [], Option, Some, None, refl, sym, ap, ◌∙◌, subst, arith}
use Rattle.std.specs.Prelude.{option_map}
use Rattle.std.proofs.lemmas.Bool.{cases_Bool}
use Rattle.std.proofs.lemmas.List.Sorted.{IsPermutation-refl}
use Rattle.geom.specs.declared.layer.Layer.{Layer}
use Rattle.geom.specs.declared.layer.Layer.TheVariants.{Diffusion, Poly, Metal, Cut, Implant}
use Rattle.micro_tiles.specs.declared.basic.Basic.TheVariants as tiles
use Rattle.micro_tiles.specs.declared.side.Port.{Port}
use Rattle.micro_tiles.specs.declared.side.Side.{Side}
use Rattle.micro_tiles.specs.declared.side.Side.TheVariants.{North, East, South, West}
use Rattle.micro_tiles.specs.Sides.{Carries, carries}
use Rattle.micro_tiles.specs.Basics.{number_named}
use Rattle.micro_tiles.specs.Designs.{side_net}
use Rattle.micro_tiles.specs.Nets.{named_net}
use Rattle.micro_tiles.specs.Table.{tile_count, design_of, port_at, transistor_at}
use Rattle.nmos_model.specs.Lists.{Matched}
use Rattle.stick_grid.specs.Plans.{Plan, IsPlan}
use Rattle.stick_grid.specs.Pieces.{Piece, Connected}
use Rattle.stick_grid.specs.Pieces.Connected.{same}
use Rattle.stick_grid.specs.Transistors.{piece}
use Rattle.stick_grid.specs.Names.{IsPiece, AreNames}
use Rattle.stick_grid.specs.Devices.{placed, transistor_in, transistors_in_row, transistors_of, IsNamedDevice}
use Rattle.stick_grid.specs.Modules.{places_along, net_along}
use Rattle.stick_grid.specs.PlainModules.{EmptyPlansAreModules, PolyRowsAreModules, IsPolyRow, poly_tile, poly_border}
use Rattle.stick_grid.proofs.Ranges.{flat_none}

-- ---- no transistors

no_transistors : (plan : Plan) → ((row col : ℕ) → row < plan.rows → col < plan.cols → transistor_at (plan.tile row col) ≡ None)
    → transistors_of plan ≡ []
no_transistors plan each =
    flat_none (transistors_in_row plan) 0 plan.rows
    (λ row from is_row. flat_none (transistor_in plan row) 0 plan.cols
    (λ col first is_col. ap (placed row col) (each row col (omega arith) (omega arith))))

-- ---- sides that carry nothing

abbrev bare : Port
bare = record { metal = false; other = None }

nothing : {X : Type 0} (p : Port) (layer : Layer) → p ≡ bare → Carries p layer → X
nothing p Metal e h = let none = ap (λ (q : Port). q.metal) e in let some : p.metal ≡ true = h in absurd (cc)
nothing p Diffusion e h = let none = ap (λ (q : Port). q.other) e in let some : p.other ≡ Some Diffusion = h in absurd (cc)
nothing p Poly e h = let none = ap (λ (q : Port). q.other) e in let some : p.other ≡ Some Poly = h in absurd (cc)
nothing p Cut e h = let none = ap (λ (q : Port). q.other) e in let some : p.other ≡ Some Cut = h in absurd (cc)
nothing p Implant e h = let none = ap (λ (q : Port). q.other) e in let some : p.other ≡ Some Implant = h in absurd (cc)

-- ---- empty plans

empty_port : (side : Side) → port_at (number_named tiles.Empty) side ≡ bare
unfolding design_of
empty_port North = refl
empty_port East = refl
empty_port South = refl
empty_port West = refl

empty_net : (side : Side) (layer : Layer) → named_net (number_named tiles.Empty) side layer ≡ None
unfolding design_of
empty_net side Metal = refl
empty_net side Diffusion = refl
empty_net side Poly = refl
empty_net side Cut = refl
empty_net side Implant = refl

empty_transistor : transistor_at (number_named tiles.Empty) ≡ None
unfolding design_of
empty_transistor = refl

module _ (plan : Plan) (name : Piece → ℕ) (some_row : 1 ≤ plan.rows) (some_col : 1 ≤ plan.cols)
    (empty : (row col : ℕ) → row < plan.rows → col < plan.cols → plan.tile row col ≡ number_named tiles.Empty) where
  port_is : (row col : ℕ) (side : Side) → row < plan.rows → col < plan.cols → port_at (plan.tile row col) side ≡ bare
  port_is row col side is_row is_col = ap (λ t. port_at t side) (empty row col is_row is_col) ∙ empty_port side

  no_piece : {X : Type 0} (p : Piece) → IsPiece plan p → X
  no_piece p h = nothing (port_at (plan.tile p.row p.col) h.side) h.layer (port_is p.row p.col h.side h.is_row h.is_col) h.carried

  empty_plan : IsPlan plan
  empty_plan = record {
    known = λ row col is_row is_col. subst (λ t. t < tile_count) (sym (empty row col is_row is_col)) (omega arith);
    eastward = λ row col is_row is_col. port_is row col East is_row (omega arith) ∙ sym (port_is row (col + 1) West is_row is_col);
    southward = λ row col is_row is_col. port_is row col South (omega arith) is_col ∙ sym (port_is (row + 1) col North is_row is_col);
  }

  empty_names : AreNames plan 0 name
  empty_names = record {
    below = λ p h. no_piece p h;
    eastward = λ a b h.
        nothing (port_at (plan.tile a.row a.col) East) h.layer (let col = h.col in let below = h.is_col in
        port_is a.row a.col East h.is_row (omega arith)) h.carried;
    southward = λ a b h.
        nothing (port_at (plan.tile a.row a.col) South) h.layer (let row = h.row in let below = h.is_row in
        port_is a.row a.col South (omega arith) h.is_col) h.carried;
    home = λ n. piece 0 0 0;
    exists = λ n few. absurd (omega arith);
    bears = λ n few. absurd (omega arith);
    leads = λ p h. no_piece p h;
  }

  empty_border : (side : Side) (place : ℕ) (layer : Layer) → place < places_along plan side → net_along plan name side place layer ≡ None
  empty_border North place layer below =
      ap (λ t. option_map (λ net. name (piece 0 place net)) (named_net t North layer)) (empty 0 place (omega arith) below)
      ∙ ap (option_map (λ net. name (piece 0 place net))) (empty_net North layer)
  empty_border East place layer below =
      ap (λ t. option_map (λ net. name (piece place (plan.cols - 1) net)) (named_net t East layer)) (empty place (plan.cols - 1) below (omega arith))
      ∙ ap (option_map (λ net. name (piece place (plan.cols - 1) net))) (empty_net East layer)
  empty_border South place layer below =
      ap (λ t. option_map (λ net. name (piece (plan.rows - 1) place net)) (named_net t South layer)) (empty (plan.rows - 1) place (omega arith) below)
      ∙ ap (option_map (λ net. name (piece (plan.rows - 1) place net))) (empty_net South layer)
  empty_border West place layer below =
      ap (λ t. option_map (λ net. name (piece place 0 net)) (named_net t West layer)) (empty place 0 below (omega arith))
      ∙ ap (option_map (λ net. name (piece place 0 net))) (empty_net West layer)

pub empty_plans : EmptyPlansAreModules
empty_plans plan name vdd some_row some_col empty = record {
  is_plan = empty_plan plan name some_row some_col empty;
  names = empty_names plan name some_row some_col empty;
  drawn = [];
  transistors =
      subst (λ l. Matched (IsNamedDevice name vdd) l [])
      (sym (no_transistors plan (λ row col is_row is_col. ap transistor_at (empty row col is_row is_col) ∙ empty_transistor))) tt;
  as_drawn = IsPermutation-refl [];
  border_is = empty_border plan name some_row some_col empty;
}

-- ---- rows of poly

-- poly alone, where it leads there
abbrev poly_port : Bool → Port
poly_port t = record { metal = false; other = if t then Some Poly else None }

tile_north : (n s : Bool) → port_at (number_named (poly_tile n s)) North ≡ poly_port n
unfolding design_of
tile_north true true = refl
tile_north true false = refl
tile_north false true = refl
tile_north false false = refl

tile_south : (n s : Bool) → port_at (number_named (poly_tile n s)) South ≡ poly_port s
unfolding design_of
tile_south true true = refl
tile_south true false = refl
tile_south false true = refl
tile_south false false = refl

tile_east : (n s : Bool) → port_at (number_named (poly_tile n s)) East ≡ bare
unfolding design_of
tile_east true true = refl
tile_east true false = refl
tile_east false true = refl
tile_east false false = refl

tile_west : (n s : Bool) → port_at (number_named (poly_tile n s)) West ≡ bare
unfolding design_of
tile_west true true = refl
tile_west true false = refl
tile_west false true = refl
tile_west false false = refl

tile_net : (n s : Bool) (side : Side) → (n || s) ≡ true → side_net (design_of (number_named (poly_tile n s))) side Poly ≡ 1
unfolding design_of
tile_net true true side h = refl
tile_net true false side h = refl
tile_net false true side h = refl
tile_net false false side h = absurd (cc)

tile_known : (n s : Bool) → number_named (poly_tile n s) < tile_count
tile_known true true = omega arith
tile_known true false = omega arith
tile_known false true = omega arith
tile_known false false = omega arith

tile_transistor : (n s : Bool) → transistor_at (number_named (poly_tile n s)) ≡ None
unfolding design_of
tile_transistor true true = refl
tile_transistor true false = refl
tile_transistor false true = refl
tile_transistor false false = refl

-- what such a tile carries is poly
only_poly : (t : Bool) (p : Port) (layer : Layer) → p ≡ poly_port t → Carries p layer → (t ≡ true) × (layer ≡ Poly)
only_poly true p Metal e h = let none = ap (λ (q : Port). q.metal) e in let some : p.metal ≡ true = h in absurd (cc)
only_poly true p Poly e h = (refl, refl)
only_poly true p Diffusion e h = let poly = ap (λ (q : Port). q.other) e in let some : p.other ≡ Some Diffusion = h in absurd (cc)
only_poly true p Cut e h = let poly = ap (λ (q : Port). q.other) e in let some : p.other ≡ Some Cut = h in absurd (cc)
only_poly true p Implant e h = let poly = ap (λ (q : Port). q.other) e in let some : p.other ≡ Some Implant = h in absurd (cc)
only_poly false p layer e h = nothing p layer e h

tile_poly : (n s : Bool) (side : Side) (layer : Layer) → Carries (port_at (number_named (poly_tile n s)) side) layer
    → ((n || s) ≡ true) × (layer ≡ Poly)
tile_poly n s North layer h = let o = only_poly n _ layer (tile_north n s) h in (ap (λ t. t || s) o.0, o.1)
tile_poly n s South layer h = let o = only_poly s _ layer (tile_south n s) h in (ap (λ t. n || t) o.0 ∙ or_yes n, o.1)
  where
    or_yes : (t : Bool) → (t || true) ≡ true
    or_yes true = refl
    or_yes false = refl
tile_poly n s East layer h = nothing _ layer (tile_east n s) h
tile_poly n s West layer h = nothing _ layer (tile_west n s) h

-- the net, in poly alone, where it is led out
abbrev in_poly : Bool → ℕ → Layer → Option ℕ
in_poly t net Poly = if t then Some net else None
in_poly t net _ = None

led : (t : Bool) (tile : ℕ) (side : Side) (net : ℕ) → port_at tile side ≡ poly_port t → (layer : Layer)
    → option_map (λ (k : ℕ). net) (named_net tile side layer) ≡ in_poly t net layer
led t tile side net e layer =
    ap (λ (p : Port). option_map (λ (k : ℕ). net) (if carries p layer then Some (side_net (design_of tile) side layer) else None)) e
    ∙ by_layer t layer
  where
    by_layer : (u : Bool) (l : Layer)
        → option_map (λ (k : ℕ). net) (if carries (poly_port u) l then Some (side_net (design_of tile) side l) else None) ≡ in_poly u net l
    by_layer true Metal = refl
    by_layer true Diffusion = refl
    by_layer true Poly = refl
    by_layer true Cut = refl
    by_layer true Implant = refl
    by_layer false Metal = refl
    by_layer false Diffusion = refl
    by_layer false Poly = refl
    by_layer false Cut = refl
    by_layer false Implant = refl

module _ (plan : Plan) (count : ℕ) (north south : ℕ → Bool) (net : ℕ → ℕ) (is : IsPolyRow plan count north south net) where
  abbrev name : Piece → ℕ
  name p = net p.col

  abbrev tile_in : ℕ → ℕ
  tile_in col = number_named (poly_tile (north col) (south col))

  top : (row : ℕ) → row < plan.rows → row ≡ 0
  top row is_row = let one = is.one_row in omega arith

  tile_is : (row col : ℕ) → row < plan.rows → col < plan.cols → plan.tile row col ≡ tile_in col
  tile_is row col is_row is_col = ap (λ (r : ℕ). plan.tile r col) (top row is_row) ∙ is.tile col is_col

  port_at_side : (row col : ℕ) (side : Side) (p : Port) → row < plan.rows → col < plan.cols → port_at (tile_in col) side ≡ p
      → port_at (plan.tile row col) side ≡ p
  port_at_side row col side p is_row is_col e = ap (λ t. port_at t side) (tile_is row col is_row is_col) ∙ e

  poly_plan : IsPlan plan
  poly_plan = record {
    known = λ row col is_row is_col. subst (λ t. t < tile_count) (sym (tile_is row col is_row is_col)) (tile_known (north col) (south col));
    eastward = λ row col is_row is_col.
        port_at_side row col East bare is_row (omega arith) (tile_east (north col) (south col))
        ∙ sym (port_at_side row (col + 1) West bare is_row is_col (tile_west (north (col + 1)) (south (col + 1))));
    southward = λ row col is_row is_col. (let one = is.one_row in absurd (omega arith));
  }

  -- a net of a tile is its poly
  is_poly : (p : Piece) → IsPiece plan p → ((north p.col || south p.col) ≡ true) × (p.net ≡ 1)
  is_poly p h =
      let e = tile_is p.row p.col h.is_row h.is_col in
      let carried : Carries (port_at (tile_in p.col) h.side) h.layer = subst (λ t. Carries (port_at t h.side) h.layer) e h.carried in
      let o = tile_poly (north p.col) (south p.col) h.side h.layer carried in (
        o.0,
        h.number ∙ ap (λ t. side_net (design_of t) h.side h.layer) e ∙ ap (λ l. side_net (design_of (tile_in p.col)) h.side l) o.1
            ∙ tile_net (north p.col) (south p.col) h.side o.0,
      )

  home_at : (col : ℕ) → col < plan.cols → (north col || south col) ≡ true → IsPiece plan (piece 0 col 1)
  home_at col is_col some = elim (cases_Bool (north col)) [
    | inl up ↦ leads North (tile_north (north col) (south col) ∙ ap poly_port up)
    | inr closed ↦
        let down : south col ≡ true = ap (λ t. t || south col) (sym closed) ∙ some in
        leads South (tile_south (north col) (south col) ∙ ap poly_port down)
  ]
    where
      leads : (side : Side) → port_at (tile_in col) side ≡ poly_port true → IsPiece plan (piece 0 col 1)
      leads side e =
          let first : 0 < plan.rows = (let one = is.one_row in omega arith) in
          record {
            is_row = first;
            is_col = is_col;
            side = side;
            layer = Poly;
            carried = ap (λ (p : Port). p.other) (port_at_side 0 col side (poly_port true) first is_col e);
            number = sym (ap (λ t. side_net (design_of t) side Poly) (tile_is 0 col first is_col) ∙ tile_net (north col) (south col) side some);
          }

  poly_names : AreNames plan count name
  poly_names = record {
    below = λ p h. is.below p.col h.is_col (is_poly p h).0;
    eastward = λ a b h.
        nothing (port_at (plan.tile a.row a.col) East) h.layer
        (let col = h.col in let below = h.is_col in
        port_at_side a.row a.col East bare h.is_row (omega arith) (tile_east (north a.col) (south a.col))) h.carried;
    southward = λ a b h. (let row = h.row in let below = h.is_row in let one = is.one_row in absurd (omega arith));
    home = λ n. piece 0 (is.column n) 1;
    exists = λ n few. home_at (is.column n) (is.inside n few) (is.has_poly n few);
    bears = is.bears;
    leads = λ p h.
        let poly = is_poly p h in
        let row = sym (top p.row h.is_row) in
        let col = is.alone p.col h.is_col poly.0 in
        let number = sym poly.1 in
        let there : piece 0 (is.column (net p.col)) 1 ≡ p = λ i. record { row = row i; col = col i; net = number i } in
        subst (Connected plan p) (sym there) (same p);
  }

  border_at : (side : Side) (place : ℕ) (layer : Layer) → place < places_along plan side
      → net_along plan name side place layer ≡ poly_border north south net side place layer
  border_at North place layer below =
      led (north place) (plan.tile 0 place) North (net place)
      (port_at_side 0 place North (poly_port (north place)) (let one = is.one_row in omega arith) below (tile_north (north place) (south place)))
      layer ∙ same_border layer
    where
      same_border : (l : Layer) → in_poly (north place) (net place) l ≡ poly_border north south net North place l
      same_border Metal = refl
      same_border Diffusion = refl
      same_border Poly = refl
      same_border Cut = refl
      same_border Implant = refl
  border_at South place layer below =
      led (south place) (plan.tile (plan.rows - 1) place) South (net place)
      (port_at_side (plan.rows - 1) place South (poly_port (south place)) (let one = is.one_row in omega arith) below
      (tile_south (north place) (south place))) layer
      ∙ same_border layer
    where
      same_border : (l : Layer) → in_poly (south place) (net place) l ≡ poly_border north south net South place l
      same_border Metal = refl
      same_border Diffusion = refl
      same_border Poly = refl
      same_border Cut = refl
      same_border Implant = refl
  border_at East place layer below =
      let c = plan.cols - 1 in
      led false (plan.tile place c) East (net c)
      (port_at_side place c East bare below (let some = is.some_col in omega arith) (tile_east (north c) (south c))) layer ∙ same_border layer
    where
      same_border : (l : Layer) → in_poly false (net (plan.cols - 1)) l ≡ poly_border north south net East place l
      same_border Metal = refl
      same_border Diffusion = refl
      same_border Poly = refl
      same_border Cut = refl
      same_border Implant = refl
  border_at West place layer below =
      led false (plan.tile place 0) West (net 0)
      (port_at_side place 0 West bare below (let some = is.some_col in omega arith) (tile_west (north 0) (south 0))) layer ∙ same_border layer
    where
      same_border : (l : Layer) → in_poly false (net 0) l ≡ poly_border north south net West place l
      same_border Metal = refl
      same_border Diffusion = refl
      same_border Poly = refl
      same_border Cut = refl
      same_border Implant = refl

pub poly_rows : PolyRowsAreModules
poly_rows plan count vdd north south net is = record {
  is_plan = poly_plan plan count north south net is;
  names = poly_names plan count north south net is;
  drawn = [];
  transistors =
      subst (λ l. Matched (IsNamedDevice (λ p. net p.col) vdd) l [])
      (sym (no_transistors plan (λ row col is_row is_col.
      ap transistor_at (tile_is plan count north south net is row col is_row is_col) ∙ tile_transistor (north col) (south col)))) tt;
  as_drawn = IsPermutation-refl [];
  border_is = border_at plan count north south net is;
}
