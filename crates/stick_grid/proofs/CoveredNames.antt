-- The names of a plan's nets, by the modules that cover it.
use Rattle.std.proofs.Common.{◌≡◌, ℕ, ◌+◌, ◌-◌, ◌<◌, ◌≤◌, ◌⊎◌, inl, inr, Option, Some, refl, sym, ap, ◌∙◌, subst, arith}
use Rattle.std.specs.Prelude.{option_map}
use Rattle.std.proofs.Props.{props}
use Rattle.std.proofs.lemmas.Bool.{cases_eq, cases_lt}
use Rattle.geom.specs.declared.layer.Layer.{Layer}
use Rattle.micro_tiles.specs.declared.side.Side.{Side}
use Rattle.micro_tiles.specs.declared.side.Side.TheVariants.{North, East, South, West}
use Rattle.micro_tiles.specs.Sides.{Carries}
use Rattle.micro_tiles.specs.Designs.{side_net}
use Rattle.micro_tiles.specs.Table.{design_of, port_at}
use Rattle.stick_grid.specs.Plans.{Plan, IsPlan}
use Rattle.stick_grid.specs.Pieces.{Piece, MeetsAtEast, MeetsAtSouth, Connected}
use Rattle.stick_grid.specs.Pieces.Connected.{east as step_east, south as step_south}
use Rattle.stick_grid.specs.Pieces.Connected.{same as no_step}
use Rattle.stick_grid.specs.Transistors.{piece}
use Rattle.stick_grid.specs.Names.{IsPiece, AreNames}
use Rattle.stick_grid.specs.Modules.{places_along, row_along, col_along}
use Rattle.stick_grid.specs.PlacedModules.{PlacedModule, IsPlaced, Holds, StandBeside, StandAbove, ModuleNet, whole_net, ModulesMeetEast, ModulesMeetSouth, ModulesJoin, AreCovering, name_in, whole_name}
use Rattle.stick_grid.specs.PlacedModules.ModulesJoin.{same, east, west, south, north}
use Rattle.stick_grid.proofs.Named.{goes_on, leads_back}
use Rattle.stick_grid.proofs.CoveredPlans as plans
use Rattle.stick_grid.proofs.CoveredPlans.{beside_at, above_at}
use Rattle.stick_grid.proofs.CoveredNets as nets
use Rattle.stick_grid.proofs.CoveredNets.{local_piece}

module _ (whole : Plan) (count vdd : ℕ) (modules : ℕ → PlacedModule) (n : ℕ) (c : AreCovering whole count vdd modules n) where
  is_plan : IsPlan whole
  is_plan = plans.is_plan whole count vdd modules n c

  abbrev name : Piece → ℕ
  name = whole_name modules c.at

  abbrev at_piece : Piece → ℕ
  at_piece p = c.at p.row p.col

  -- ---- the net of its module that a net of a tile is

  module _ (p : Piece) (is_row : p.row < whole.rows) (is_col : p.col < whole.cols) where
    known : at_piece p < n
    known = c.known p.row p.col is_row is_col

    here : Holds (modules (at_piece p)) p.row p.col
    here = c.holds p.row p.col is_row is_col

    placed : IsPlaced whole count vdd (modules (at_piece p))
    placed = c.placed (at_piece p) known

  abbrev local_name : Piece → ℕ
  local_name p = (modules (at_piece p)).name (local_piece (modules (at_piece p)) p)

  abbrev net_of : Piece → ModuleNet
  net_of p = record { which = at_piece p; net = local_name p }

  below : (p : Piece) → IsPiece whole p → local_name p < (modules (at_piece p)).count
  below p of =
      let m = modules (at_piece p) in
      let pl = placed p of.is_row of.is_col in
      pl.is_module.names.below (local_piece m p) (nets.piece_here whole count vdd is_plan m pl p (here p of.is_row of.is_col) of)

  -- ---- nets that meet

  -- in one module
  one_module_east : (k : ℕ) (k_known : k < n) (a b : Piece) → Holds (modules k) a.row a.col → Holds (modules k) b.row b.col → MeetsAtEast whole a b
      → name_in (modules k) a ≡ name_in (modules k) b
  one_module_east k k_known a b h j meets =
      let m = modules k in
      let pl = c.placed k k_known in
      ap m.rename (pl.is_module.names.eastward (local_piece m a) (local_piece m b) (nets.meet_east_here whole count vdd m pl a b h j meets))

  one_module_south : (k : ℕ) (k_known : k < n) (a b : Piece) → Holds (modules k) a.row a.col → Holds (modules k) b.row b.col → MeetsAtSouth whole a b
      → name_in (modules k) a ≡ name_in (modules k) b
  one_module_south k k_known a b h j meets =
      let m = modules k in
      let pl = c.placed k k_known in
      ap m.rename (pl.is_module.names.southward (local_piece m a) (local_piece m b)
      (nets.meet_south_here whole count vdd m pl a b h j meets))

  -- what a module has in its last column leads out to the east, and so on
  module _ (k : ℕ) (k_known : k < n) (p : Piece) (h : Holds (modules k) p.row p.col) (layer : Layer) where
    abbrev m : PlacedModule
    m = modules k

    pl : IsPlaced whole count vdd (modules k)
    pl = c.placed k k_known

    tile : m.plan.tile (p.row - m.row) (p.col - m.col) ≡ whole.tile p.row p.col
    tile = nets.tile_is whole count vdd m pl p.row p.col h

    is_row : p.row - m.row < m.plan.rows
    is_row = nets.local_row whole count vdd m pl p.row p.col h

    is_col : p.col - m.col < m.plan.cols
    is_col = nets.local_col whole count vdd m pl p.row p.col h

    -- the side of the module at this tile, which stands there along the side
    out : (side : Side) (q r s : ℕ) → q < places_along m.plan side → row_along m.plan side q ≡ r → col_along m.plan side q ≡ s → r ≡ p.row - m.row
        → s ≡ p.col - m.col
        → Carries (port_at (whole.tile p.row p.col) side) layer → p.net ≡ side_net (design_of (whole.tile p.row p.col)) side layer
        → m.border side q layer ≡ Some (m.name (local_piece m p))
    out side q r s below_side row_is col_is r_is s_is carried number =
        let rows = row_is ∙ r_is in
        let cols = col_is ∙ s_is in
        let same_tile : m.plan.tile (row_along m.plan side q) (col_along m.plan side q) ≡ whole.tile p.row p.col =
        ap (λ (x : ℕ). m.plan.tile x (col_along m.plan side q)) rows ∙ ap (m.plan.tile (p.row - m.row)) cols ∙ tile in
        nets.carried_out whole count vdd m pl side q layer below_side (subst (λ t. Carries (port_at t side) layer) (sym same_tile) carried)
        ∙ ap (λ (x : Piece). Some (m.name x))
        (ap (λ (x : ℕ). piece x (col_along m.plan side q)
        (side_net (design_of (m.plan.tile (row_along m.plan side q) (col_along m.plan side q))) side layer)) rows
        ∙ ap (λ (x : ℕ). piece (p.row - m.row) x (side_net
        (design_of (m.plan.tile (row_along m.plan side q) (col_along m.plan side q))) side layer)) cols
        ∙ ap (λ (x : ℕ). piece (p.row - m.row) (p.col - m.col) x) (ap (λ t. side_net (design_of t) side layer) same_tile ∙ sym number))

    out_east : m.col + m.plan.cols ≡ p.col + 1 → Carries (port_at (whole.tile p.row p.col) East) layer
        → p.net ≡ side_net (design_of (whole.tile p.row p.col)) East layer
        → m.border East (p.row - m.row) layer ≡ Some (m.name (local_piece m p))
    out_east ends = out East (p.row - m.row) _ _ is_row refl refl refl (let low = h.from_col in omega arith)

    out_west : m.col ≡ p.col → Carries (port_at (whole.tile p.row p.col) West) layer
        → p.net ≡ side_net (design_of (whole.tile p.row p.col)) West layer
        → m.border West (p.row - m.row) layer ≡ Some (m.name (local_piece m p))
    out_west begins = out West (p.row - m.row) _ _ is_row refl refl refl (omega arith)

    out_south : m.row + m.plan.rows ≡ p.row + 1 → Carries (port_at (whole.tile p.row p.col) South) layer
        → p.net ≡ side_net (design_of (whole.tile p.row p.col)) South layer
        → m.border South (p.col - m.col) layer ≡ Some (m.name (local_piece m p))
    out_south ends = out South (p.col - m.col) _ _ is_col refl refl (let low = h.from_row in omega arith) refl

    out_north : m.row ≡ p.row → Carries (port_at (whole.tile p.row p.col) North) layer
        → p.net ≡ side_net (design_of (whole.tile p.row p.col)) North layer
        → m.border North (p.col - m.col) layer ≡ Some (m.name (local_piece m p))
    out_north begins = out North (p.col - m.col) _ _ is_col refl refl (omega arith) refl

  -- two modules
  one_net : (f g : ℕ → ℕ) (o u : Option ℕ) (x y : ℕ) → o ≡ Some x → u ≡ Some y → option_map f o ≡ option_map g u → f x ≡ g y
  one_net f g o u x y e h same_nets =
      let whole_nets : Some (f x) ≡ Some (g y) = ap (option_map f) (sym e) ∙ same_nets ∙ ap (option_map g) h in cc

  joined_east : (a b : ModuleNet) → ModulesMeetEast modules n a b → whole_net modules a ≡ whole_net modules b
  joined_east a b h =
      one_net (modules a.which).rename (modules b.which).rename _ _ a.net b.net h.first h.second
      (c.eastward a.which b.which h.row h.col h.layer h.beside)

  joined_south : (a b : ModuleNet) → ModulesMeetSouth modules n a b → whole_net modules a ≡ whole_net modules b
  joined_south a b h =
      one_net (modules a.which).rename (modules b.which).rename _ _ a.net b.net h.first h.second
      (c.southward a.which b.which h.row h.col h.layer h.above)

  module _ (a b : Piece) (meets : MeetsAtEast whole a b) where
    east_row : b.row < whole.rows
    east_row = let e = meets.row in let h = meets.is_row in omega arith

    east_col : a.col < whole.cols
    east_col = let e = meets.col in let h = meets.is_col in omega arith

    carried_west : Carries (port_at (whole.tile b.row b.col) West) meets.layer
    carried_west =
        let col = meets.col in
        let high = meets.is_col in
        subst (λ (x : ℕ). Carries (port_at (whole.tile x b.col) West) meets.layer) (sym meets.row)
        (subst (λ (x : ℕ). Carries (port_at (whole.tile a.row x) West) meets.layer) (sym meets.col)
        (subst (λ p. Carries p meets.layer) (is_plan.eastward a.row a.col meets.is_row (omega arith)) meets.carried))

    next_at : c.at a.row (a.col + 1) ≡ at_piece b
    next_at = ap (c.at a.row) (sym meets.col) ∙ ap (λ (x : ℕ). c.at x b.col) (sym meets.row)

    two_modules_east : (at_piece a ≡ at_piece b → ⊥) → ModulesMeetEast modules n (net_of a) (net_of b)
    two_modules_east differ =
        let k = at_piece a in
        let l = at_piece b in
        let col = meets.col in
        let high = meets.is_col in
        let beside : StandBeside modules n k l a.row a.col =
        subst (λ (x : ℕ). StandBeside modules n k x a.row a.col) next_at
        (beside_at whole count vdd modules n c a.row a.col meets.is_row (omega arith) (λ e. differ (e ∙ next_at))) in
        record {
          row = a.row;
          col = a.col;
          layer = meets.layer;
          beside = beside;
          first = out_east k beside.first_known a beside.first_holds meets.layer beside.first_ends meets.carried meets.first;
          second =
              ap (λ (x : ℕ). (modules l).border West (x - (modules l).row) meets.layer) (sym meets.row)
              ∙ out_west l beside.second_known b (here b east_row meets.is_col) meets.layer (beside.second_begins
              ∙ sym col) carried_west meets.second;
        }

    pub east_names : name a ≡ name b
    east_names = elim (cases_eq (at_piece a) (at_piece b)) [
      | inl e ↦
          let j = subst (λ (k : ℕ). Holds (modules k) b.row b.col) (sym e) (here b east_row meets.is_col) in
          one_module_east (at_piece a) (known a meets.is_row east_col) a b (here a meets.is_row east_col) j meets
          ∙ ap (λ (k : ℕ). name_in (modules k) b) e
      | inr differ ↦ joined_east (net_of a) (net_of b) (two_modules_east differ)
    ]

  module _ (a b : Piece) (meets : MeetsAtSouth whole a b) where
    south_row : a.row < whole.rows
    south_row = let e = meets.row in let h = meets.is_row in omega arith

    south_col : b.col < whole.cols
    south_col = let e = meets.col in let h = meets.is_col in omega arith

    carried_north : Carries (port_at (whole.tile b.row b.col) North) meets.layer
    carried_north =
        let row = meets.row in
        let high = meets.is_row in
        subst (λ (x : ℕ). Carries (port_at (whole.tile x b.col) North) meets.layer) (sym meets.row)
        (subst (λ (x : ℕ). Carries (port_at (whole.tile (a.row + 1) x) North) meets.layer) (sym meets.col)
        (subst (λ p. Carries p meets.layer) (is_plan.southward a.row a.col (omega arith) meets.is_col) meets.carried))

    under_at : c.at (a.row + 1) a.col ≡ at_piece b
    under_at = ap (λ (x : ℕ). c.at x a.col) (sym meets.row) ∙ ap (c.at b.row) (sym meets.col)

    two_modules_south : (at_piece a ≡ at_piece b → ⊥) → ModulesMeetSouth modules n (net_of a) (net_of b)
    two_modules_south differ =
        let k = at_piece a in
        let l = at_piece b in
        let row = meets.row in
        let high = meets.is_row in
        let above : StandAbove modules n k l a.row a.col =
        subst (λ (x : ℕ). StandAbove modules n k x a.row a.col) under_at
        (above_at whole count vdd modules n c a.row a.col (omega arith) meets.is_col (λ e. differ (e ∙ under_at))) in
        record {
          row = a.row;
          col = a.col;
          layer = meets.layer;
          above = above;
          first = out_south k above.first_known a above.first_holds meets.layer above.first_ends meets.carried meets.first;
          second =
              ap (λ (x : ℕ). (modules l).border North (x - (modules l).col) meets.layer) (sym meets.col)
              ∙ out_north l above.second_known b (here b meets.is_row south_col) meets.layer (above.second_begins
              ∙ sym row) carried_north meets.second;
        }

    pub south_names : name a ≡ name b
    south_names = elim (cases_eq (at_piece a) (at_piece b)) [
      | inl e ↦
          let j = subst (λ (k : ℕ). Holds (modules k) b.row b.col) (sym e) (here b meets.is_row south_col) in
          one_module_south (at_piece a) (known a south_row meets.is_col) a b (here a south_row meets.is_col) j meets
          ∙ ap (λ (k : ℕ). name_in (modules k) b) e
      | inr differ ↦ joined_south (net_of a) (net_of b) (two_modules_south differ)
    ]

  -- ---- homes

  -- the home of a net of a module
  abbrev home_of : (a : ModuleNet) → a.which < n → Piece
  home_of a k = nets.home_piece whole count vdd is_plan (modules a.which) (c.placed a.which k) a.net

  module _ (a b : ModuleNet) (meets : ModulesMeetEast modules n a b) where
    joins_east : Connected whole (home_of a meets.beside.first_known) (home_of b meets.beside.second_known)
    joins_east =
        let k = modules a.which in
        let l = modules b.which in
        let pk = c.placed a.which meets.beside.first_known in
        let pl = c.placed b.which meets.beside.second_known in
        let h = meets.beside.first_holds in
        let j = meets.beside.second_holds in
        let k_row = h.from_row in
        let k_high = h.to_row in
        let k_col = h.from_col in
        let k_end = h.to_col in
        let l_row = j.from_row in
        let l_high = j.to_row in
        let l_end = j.to_col in
        let ends = meets.beside.first_ends in
        let begins = meets.beside.second_begins in
        let kr : meets.row - k.row < k.plan.rows = omega arith in
        let kc : k.plan.cols - 1 < k.plan.cols = omega arith in
        let lr : meets.row - l.row < l.plan.rows = omega arith in
        let lc : 0 < l.plan.cols = omega arith in
        let one = nets.whole_piece whole count vdd is_plan k pk East (meets.row - k.row) meets.layer a.net kr kr kc meets.first in
        let two = nets.whole_piece whole count vdd is_plan l pl West (meets.row - l.row) meets.layer b.net lr lr lc meets.second in
        let step : MeetsAtEast whole one two = record {
          layer = meets.layer;
          row = omega arith;
          col = omega arith;
          is_row = nets.whole_row whole count vdd is_plan k pk East (meets.row - k.row) meets.layer a.net kr kr kc meets.first;
          is_col = nets.whole_col whole count vdd is_plan l pl West (meets.row - l.row) meets.layer b.net lr lr lc meets.second;
          carried = nets.whole_carries whole count vdd is_plan k pk East (meets.row - k.row) meets.layer a.net kr kr kc meets.first;
          first = nets.whole_number whole count vdd is_plan k pk East (meets.row - k.row) meets.layer a.net kr kr kc meets.first;
          second = nets.whole_number whole count vdd is_plan l pl West (meets.row - l.row) meets.layer b.net lr lr lc meets.second;
        } in
        let from = leads_back whole one (home_of a meets.beside.first_known)
        (nets.side_leads whole count vdd is_plan k pk East (meets.row - k.row) meets.layer a.net kr kr kc meets.first) in
        let to = nets.side_leads whole count vdd is_plan l pl West (meets.row - l.row) meets.layer b.net lr lr lc meets.second in
        goes_on whole (home_of a meets.beside.first_known) one (home_of b meets.beside.second_known) from
        (step_east one two (home_of b meets.beside.second_known) step to)

  module _ (a b : ModuleNet) (meets : ModulesMeetSouth modules n a b) where
    joins_south : Connected whole (home_of a meets.above.first_known) (home_of b meets.above.second_known)
    joins_south =
        let k = modules a.which in
        let l = modules b.which in
        let pk = c.placed a.which meets.above.first_known in
        let pl = c.placed b.which meets.above.second_known in
        let h = meets.above.first_holds in
        let j = meets.above.second_holds in
        let k_row = h.from_row in
        let k_high = h.to_row in
        let k_col = h.from_col in
        let k_end = h.to_col in
        let l_high = j.to_row in
        let l_col = j.from_col in
        let l_end = j.to_col in
        let ends = meets.above.first_ends in
        let begins = meets.above.second_begins in
        let kc : meets.col - k.col < k.plan.cols = omega arith in
        let kr : k.plan.rows - 1 < k.plan.rows = omega arith in
        let lc : meets.col - l.col < l.plan.cols = omega arith in
        let lr : 0 < l.plan.rows = omega arith in
        let one = nets.whole_piece whole count vdd is_plan k pk South (meets.col - k.col) meets.layer a.net kc kr kc meets.first in
        let two = nets.whole_piece whole count vdd is_plan l pl North (meets.col - l.col) meets.layer b.net lc lr lc meets.second in
        let step : MeetsAtSouth whole one two = record {
          layer = meets.layer;
          row = omega arith;
          col = omega arith;
          is_row = nets.whole_row whole count vdd is_plan l pl North (meets.col - l.col) meets.layer b.net lc lr lc meets.second;
          is_col = nets.whole_col whole count vdd is_plan k pk South (meets.col - k.col) meets.layer a.net kc kr kc meets.first;
          carried = nets.whole_carries whole count vdd is_plan k pk South (meets.col - k.col) meets.layer a.net kc kr kc meets.first;
          first = nets.whole_number whole count vdd is_plan k pk South (meets.col - k.col) meets.layer a.net kc kr kc meets.first;
          second = nets.whole_number whole count vdd is_plan l pl North (meets.col - l.col) meets.layer b.net lc lr lc meets.second;
        } in
        let from = leads_back whole one (home_of a meets.above.first_known)
        (nets.side_leads whole count vdd is_plan k pk South (meets.col - k.col) meets.layer a.net kc kr kc meets.first) in
        let to = nets.side_leads whole count vdd is_plan l pl North (meets.col - l.col) meets.layer b.net lc lr lc meets.second in
        goes_on whole (home_of a meets.above.first_known) one (home_of b meets.above.second_known) from
        (step_south one two (home_of b meets.above.second_known) step to)

  one_proof : (k : ℕ) (x y : k < n) → x ≡ y
  one_proof k x y = let prop : IsProp (k < n) = hlevel props in prop x y

  between : (a : ModuleNet) (x y : a.which < n) (p : Piece) → Connected whole (home_of a x) p → Connected whole (home_of a y) p
  between a x y p h = subst (λ (z : a.which < n). Connected whole (home_of a z) p) (one_proof a.which x y) h

  joined_homes : (a b : ModuleNet) → ModulesJoin modules n a b → (x : a.which < n) (y : b.which < n) → Connected whole (home_of a x) (home_of b y)
  joined_homes _ _ (same a) x y = between a y x (home_of a y) (no_step (home_of a y))
  joined_homes _ _ (east a b d h rest) x y =
      between a h.beside.first_known x (home_of d y)
      (goes_on whole (home_of a h.beside.first_known) (home_of b h.beside.second_known) (home_of d y) (joins_east a b h)
      (joined_homes b d rest h.beside.second_known y))
  joined_homes _ _ (west a b d h rest) x y =
      between a h.beside.second_known x (home_of d y)
      (goes_on whole (home_of a h.beside.second_known) (home_of b h.beside.first_known) (home_of d y)
      (leads_back whole (home_of b h.beside.first_known) (home_of a h.beside.second_known) (joins_east b a h))
      (joined_homes b d rest h.beside.first_known y))
  joined_homes _ _ (south a b d h rest) x y =
      between a h.above.first_known x (home_of d y)
      (goes_on whole (home_of a h.above.first_known) (home_of b h.above.second_known) (home_of d y) (joins_south a b h)
      (joined_homes b d rest h.above.second_known y))
  joined_homes _ _ (north a b d h rest) x y =
      between a h.above.second_known x (home_of d y)
      (goes_on whole (home_of a h.above.second_known) (home_of b h.above.first_known) (home_of d y)
      (leads_back whole (home_of b h.above.first_known) (home_of a h.above.second_known) (joins_south b a h))
      (joined_homes b d rest h.above.first_known y))

  -- ---- the names

  abbrev home_if : (x : ℕ) → (x < count) ⊎ (count ≤ x) → Piece
  home_if x (inl few) = home_of (c.home x) (c.home_known x few)
  home_if x (inr many) = piece 0 0 0

  abbrev whole_home : ℕ → Piece
  whole_home x = home_if x (cases_lt x count)

  home_is : (x : ℕ) (few : x < count) → whole_home x ≡ home_of (c.home x) (c.home_known x few)
  home_is x few = by_cases (cases_lt x count)
    where
      by_cases : (s : (x < count) ⊎ (count ≤ x)) → home_if x s ≡ home_of (c.home x) (c.home_known x few)
      by_cases (inl h) = ap (home_of (c.home x)) (one_proof (c.home x).which (c.home_known x h) (c.home_known x few))
      by_cases (inr many) = absurd (omega arith)

  module _ (a : ModuleNet) (k : a.which < n) (few : a.net < (modules a.which).count) where
    abbrev its : PlacedModule
    its = modules a.which

    home_exists : IsPiece whole (home_of a k)
    home_exists = nets.home_exists whole count vdd is_plan its (c.placed a.which k) a.net few

    home_named : name (home_of a k) ≡ whole_net modules a
    home_named =
        let p = home_of a k in
        let there : at_piece p ≡ a.which = c.once a.which p.row p.col k
        (nets.home_holds whole count vdd is_plan its (c.placed a.which k) a.net few) in
        ap (λ (l : ℕ). name_in (modules l) p) there ∙ ap its.rename (nets.home_named whole count vdd is_plan its (c.placed a.which k) a.net few)

  pub are_names : AreNames whole count name
  are_names = record {
    below = λ p of. (placed p of.is_row of.is_col).below (local_name p) (below p of);
    eastward = east_names;
    southward = south_names;
    home = whole_home;
    exists = λ x few. subst (IsPiece whole) (sym (home_is x few)) (home_exists (c.home x) (c.home_known x few) (c.home_below x few));
    bears = λ x few. ap name (home_is x few) ∙ home_named (c.home x) (c.home_known x few) (c.home_below x few) ∙ c.bears x few;
    leads = λ p of.
        let k = known p of.is_row of.is_col in
        let m = modules (at_piece p) in
        let x = name p in
        let few : x < count = (placed p of.is_row of.is_col).below (local_name p) (below p of) in
        let local = nets.leads_local whole count vdd is_plan m (c.placed (at_piece p) k) p (here p of.is_row of.is_col) of in
        let far = joined_homes (net_of p) (c.home x) (c.leads (net_of p) k (below p of)) k (c.home_known x few) in
        subst (Connected whole p) (sym (home_is x few)) (goes_on whole p (home_of (net_of p) k) (home_of (c.home x) (c.home_known x few)) local far);
  }
