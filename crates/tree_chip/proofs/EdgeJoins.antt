-- Along a drawn edge each wire of its bundle is one net, from block to block, down to the child's.
use Rattle.std.proofs.Common.{◌≡◌, ℕ, ◌+◌, ◌-◌, ◌*◌, ◌<◌, ◌==◌, inl, inr, Some, refl, sym, ap, subst, ◌∙◌, arith}
use Rattle.std.specs.Prelude.{find}
use Rattle.std.specs.List.{range_with_len}
use Rattle.std.specs.Option.{option_and_then}
use Rattle.std.proofs.lemmas.Bool.{eq-eqb, eqb-true}
use Rattle.std.proofs.lemmas.Option.{same_Some}
use Rattle.geom.specs.declared.layer.Layer.TheVariants.{Poly, Metal}
use Rattle.rx_lang.specs.Tables.{Tables}
use Rattle.star_normal.specs.Tables.{TreeTable}
use Rattle.micro_tiles.specs.declared.side.Side.{Side}
use Rattle.micro_tiles.specs.declared.side.Side.TheVariants.{North, East, South, West}
use Rattle.stick_grid.specs.Pieces.{Piece}
use Rattle.stick_grid.specs.PlacedModules.{PlacedModule, Holds, ModuleNet, ModulesMeetEast, ModulesMeetSouth, ModulesJoin, place_in}
use Rattle.stick_grid.specs.PlacedModules.ModulesJoin.{same as same_net, east as join_east, west as join_west, south as join_south, north as join_north}
use Rattle.block_grid.specs.Lines.{row_of, col_of}
use Rattle.block_grid.specs.Sheets.{DrawnEdge, Sheet, IsSheet, block_at}
use Rattle.block_grid.specs.Bundles.{Leads, ComesTo, EdgesLead}
use Rattle.block_grid.specs.Bundles.Leads.{there, south, north, east, west}
use Rattle.cell_network.specs.Parts.{counts_of, bundle}
use Rattle.node_cell.specs.Blocks.{block_side, block_sides, net_in_col, wire_in_row, wire_col, wire_row}
use Rattle.tree_chip.proofs.Members.{among_range, some_found, found_among}
use Rattle.tree_chip.proofs.SideNets.{edge_at, Carries}
use Rattle.tree_chip.proofs.Places.{module_at, modules, place, places, module_is, place_known}

-- ---- joins go on, and lead back

module _ (ms : ℕ → PlacedModule) (n : ℕ) where
  pub join_on : (a b c : ModuleNet) → ModulesJoin ms n a b → ModulesJoin ms n b c → ModulesJoin ms n a c
  join_on _ _ c (same_net a) k = k
  join_on _ b c (join_east a d _ h rest) k = join_east a d c h (join_on d b c rest k)
  join_on _ b c (join_west a d _ h rest) k = join_west a d c h (join_on d b c rest k)
  join_on _ b c (join_south a d _ h rest) k = join_south a d c h (join_on d b c rest k)
  join_on _ b c (join_north a d _ h rest) k = join_north a d c h (join_on d b c rest k)

  pub join_back : (a b : ModuleNet) → ModulesJoin ms n a b → ModulesJoin ms n b a
  join_back _ _ (same_net a) = same_net a
  join_back _ b (join_east a d _ h rest) = join_on b d a (join_back d b rest) (join_west d a a h (same_net a))
  join_back _ b (join_west a d _ h rest) = join_on b d a (join_back d b rest) (join_east d a a h (same_net a))
  join_back _ b (join_south a d _ h rest) = join_on b d a (join_back d b rest) (join_north d a a h (same_net a))
  join_back _ b (join_north a d _ h rest) = join_on b d a (join_back d b rest) (join_south d a a h (same_net a))

-- ---- the row and the column of a wire

-- the only number that a place tells is found
found_number : (f : ℕ → ℕ) (n i : ℕ) → i < n → ((j : ℕ) → f j ≡ f i → j ≡ i) → find (λ j. f j == f i) (range_with_len 0 n) ≡ Some i
found_number f n i lt only =
    let some = some_found (λ j. f j == f i) (range_with_len 0 n) i (among_range 0 n i (omega arith) (omega arith)) (eq-eqb (f i) (f i) refl) in
    let own = found_among (λ j. f j == f i) (range_with_len 0 n) some.0 some.1 in
    some.1 ∙ ap (λ x. Some x) (only some.0 (eqb-true (f some.0) (f i) own.1))

module _ (sheet : Sheet) (tree : TreeTable) (tables : Tables) (name : ℕ → ℕ → Piece → ℕ) (rename : ℕ → ℕ → ℕ → ℕ) where
  abbrev ms : ℕ → PlacedModule
  ms = modules sheet tree tables name rename

  abbrev n : ℕ
  n = places sheet tree tables name rename

  abbrev at : ℕ → ℕ → PlacedModule
  at = module_at sheet tree tables name rename

  abbrev number_of : ℕ → ℕ → ℕ
  number_of = place sheet tree tables name rename

  abbrev wires : ℕ
  wires = bundle (counts_of tree tables)

  abbrev long : ℕ
  long = block_side (counts_of tree tables)

  -- a net of the block at a place
  abbrev pub net_at : ℕ → ℕ → ℕ → ModuleNet
  net_at r c x = record { which = number_of r c; net = x }

  col_found : (i : ℕ) → i < wires → net_in_col wires (wire_col i) ≡ Some i
  col_found i lt = found_number wire_col wires i lt (λ j e. omega arith)

  row_found : (i : ℕ) → i < wires → wire_in_row (counts_of tree tables) (wire_row (counts_of tree tables) i) ≡ Some i
  row_found i lt = found_number (wire_row (counts_of tree tables)) wires i lt (λ j e. omega arith)

  holds_in : (r c row col : ℕ) → c < sheet.cols → Holds (at r c) row col → Holds (ms (number_of r c)) row col
  holds_in r c row col lt h = subst (λ m. Holds m row col) (sym (module_is sheet tree tables name rename r c lt)) h

  meet_south : (r c i x y : ℕ) → r + 1 < sheet.rows → c < sheet.cols → i < wires → block_sides tree tables (block_at sheet r c) South i ≡ Some x
      → block_sides tree tables (block_at sheet (r + 1) c) North i ≡ Some y → ModulesMeetSouth ms n (net_at r c x) (net_at (r + 1) c y)
  meet_south r c i x y lr lc low first second =
      let row = r * long + (long - 1) in
      let col = c * long + wire_col i in
      let one = module_is sheet tree tables name rename r c lc in
      let other = module_is sheet tree tables name rename (r + 1) c lc in
      let along : col - c * long ≡ wire_col i = omega arith in
      let leads_south : (at r c).border South (place_in (at r c) South col) Poly ≡ Some x =
      ap (λ p. option_and_then (block_sides tree tables (block_at sheet r c) South) (net_in_col wires p)) along
      ∙ ap (option_and_then (block_sides tree tables (block_at sheet r c) South)) (col_found i low) ∙ first in
      let leads_north : (at (r + 1) c).border North (place_in (at (r + 1) c) North col) Poly ≡ Some y =
      ap (λ p. option_and_then (block_sides tree tables (block_at sheet (r + 1) c) North) (net_in_col wires p)) along
      ∙ ap (option_and_then (block_sides tree tables (block_at sheet (r + 1) c) North)) (col_found i low) ∙ second in
      record {
        row = row;
        col = col;
        layer = Poly;
        above = record {
          first_known = place_known sheet tree tables name rename r c (omega arith) lc;
          second_known = place_known sheet tree tables name rename (r + 1) c lr lc;
          first_holds = holds_in r c row col lc
              (record { from_row = omega arith; to_row = omega arith; from_col = omega arith; to_col = omega arith });
          second_holds = holds_in (r + 1) c (row + 1) col lc
              (record { from_row = omega arith; to_row = omega arith; from_col = omega arith; to_col = omega arith });
          first_ends = subst (λ m. m.row + m.plan.rows ≡ row + 1) (sym one) (omega arith);
          second_begins = subst (λ m. m.row ≡ row + 1) (sym other) (omega arith);
        };
        first = subst (λ m. m.border South (place_in m South col) Poly ≡ Some x) (sym one) leads_south;
        second = subst (λ m. m.border North (place_in m North col) Poly ≡ Some y) (sym other) leads_north;
      }

  meet_east : (r c i x y : ℕ) → r < sheet.rows → c + 1 < sheet.cols → i < wires → block_sides tree tables (block_at sheet r c) East i ≡ Some x
      → block_sides tree tables (block_at sheet r (c + 1)) West i ≡ Some y → ModulesMeetEast ms n (net_at r c x) (net_at r (c + 1) y)
  meet_east r c i x y lr lc low first second =
      let line = wire_row (counts_of tree tables) i in
      let row = r * long + line in
      let col = c * long + (long - 1) in
      let one = module_is sheet tree tables name rename r c (omega arith) in
      let other = module_is sheet tree tables name rename r (c + 1) lc in
      let along : row - r * long ≡ line = omega arith in
      let leads_east : (at r c).border East (place_in (at r c) East row) Metal ≡ Some x =
      ap (λ p. option_and_then (block_sides tree tables (block_at sheet r c) East) (wire_in_row (counts_of tree tables) p)) along
      ∙ ap (option_and_then (block_sides tree tables (block_at sheet r c) East)) (row_found i low) ∙ first in
      let leads_west : (at r (c + 1)).border West (place_in (at r (c + 1)) West row) Metal ≡ Some y =
      ap (λ p. option_and_then (block_sides tree tables (block_at sheet r (c + 1)) West) (wire_in_row (counts_of tree tables) p)) along
      ∙ ap (option_and_then (block_sides tree tables (block_at sheet r (c + 1)) West)) (row_found i low) ∙ second in
      record {
        row = row;
        col = col;
        layer = Metal;
        beside = record {
          first_known = place_known sheet tree tables name rename r c lr (omega arith);
          second_known = place_known sheet tree tables name rename r (c + 1) lr lc;
          first_holds = holds_in r c row col (omega arith)
              (record { from_row = omega arith; to_row = omega arith; from_col = omega arith; to_col = omega arith });
          second_holds = holds_in r (c + 1) row (col + 1) lc
              (record { from_row = omega arith; to_row = omega arith; from_col = omega arith; to_col = omega arith });
          first_ends = subst (λ m. m.col + m.plan.cols ≡ col + 1) (sym one) (omega arith);
          second_begins = subst (λ m. m.col ≡ col + 1) (sym other) (omega arith);
        };
        first = subst (λ m. m.border East (place_in m East row) Metal ≡ Some x) (sym one) leads_east;
        second = subst (λ m. m.border West (place_in m West row) Metal ≡ Some y) (sym other) leads_west;
      }

  -- ---- along an edge

  module _ (carried : (e : DrawnEdge) (i r c : ℕ) (side : Side) → edge_at sheet r c side ≡ Some e
      → (x : ℕ) × Carries sheet tree tables e i r c x) (e : DrawnEdge) (i : ℕ) (low : i < wires) where
    abbrev On : ℕ → ℕ → ℕ → Type 0
    On r c x = Carries sheet tree tables e i r c x

    -- From the place a net leads on to the one that carries the wire at the last place.
    pub record LedTo (t d : ℕ) (a : ModuleNet) : Type 0 where
      pub net : ℕ
      pub carries : On t d net
      pub join : ModulesJoin ms n a (net_at t d net)

    walk : (t d r c : ℕ) → Leads sheet e t d r c → (x : ℕ) → On r c x → LedTo t d (net_at r c x)
    walk t d _ _ there x on = record { net = x; carries = on; join = same_net (net_at t d x) }
    walk t d _ _ (south r c h rest) x on =
        let next = carried e i (r + 1) c North h.crosses in
        let led = walk t d (r + 1) c rest next.0 next.1 in
        let meets = meet_south r c i x next.0 h.row h.col low (on South h.crosses) (next.1 North h.crosses) in
        record { net = led.net; carries = led.carries; join = join_south (net_at r c x) (net_at (r + 1) c next.0) _ meets led.join }
    walk t d _ _ (north r c h rest) x on =
        let next = carried e i r c South h.crosses in
        let led = walk t d r c rest next.0 next.1 in
        let meets = meet_south r c i next.0 x h.row h.col low (next.1 South h.crosses) (on North h.crosses) in
        record { net = led.net; carries = led.carries; join = join_north (net_at (r + 1) c x) (net_at r c next.0) _ meets led.join }
    walk t d _ _ (east r c h rest) x on =
        let next = carried e i r (c + 1) West h.crosses in
        let led = walk t d r (c + 1) rest next.0 next.1 in
        let meets = meet_east r c i x next.0 h.row h.col low (on East h.crosses) (next.1 West h.crosses) in
        record { net = led.net; carries = led.carries; join = join_east (net_at r c x) (net_at r (c + 1) next.0) _ meets led.join }
    walk t d _ _ (west r c h rest) x on =
        let next = carried e i r c East h.crosses in
        let led = walk t d r c rest next.0 next.1 in
        let meets = meet_east r c i next.0 x h.row h.col low (next.1 East h.crosses) (on West h.crosses) in
        record { net = led.net; carries = led.carries; join = join_west (net_at r (c + 1) x) (net_at r c next.0) _ meets led.join }

    -- the edge crosses the border at a side
    comes_by : (r c : ℕ) (side : Side) → edge_at sheet r c side ≡ Some e → ComesTo sheet e r c
    comes_by r c North is = inl is
    comes_by r c South is = inr (inl is)
    comes_by r c West is = inr (inr (inl is))
    comes_by r c East is = inr (inr (inr is))

    -- The net that carries the wire at a place leads to the one that does so at the child's place.
    pub wire_leads : EdgesLead → IsSheet sheet → (r c x y : ℕ) (side : Side) → edge_at sheet r c side ≡ Some e → On r c x
        → edge_at sheet (row_of e.finish) (col_of e.finish) North ≡ Some e → On (row_of e.finish) (col_of e.finish) y
        → ModulesJoin ms n (net_at r c x) (net_at (row_of e.finish) (col_of e.finish) y)
    wire_leads lead sheet_ok r c x y side is on enters last =
        let led = walk (row_of e.finish) (col_of e.finish) r c (lead sheet e r c sheet_ok (comes_by r c side is)) x on in
        let same : led.net ≡ y = same_Some led.net y (sym (led.carries North enters) ∙ last North enters) in
        subst (λ z. ModulesJoin ms n (net_at r c x) (net_at (row_of e.finish) (col_of e.finish) z)) same led.join
