-- The layout of a tree with its labels stands for the network of its cells.
use Rattle.std.proofs.Common.{◌≡◌, ◌≢◌, ◌⊎◌, inl, inr, ◌↔◌, ℕ, suc, ◌+◌, ◌-◌, ◌*◌, ◌/◌, ◌<◌, ◌≤◌, List, [], ◌∷◌, ◌++◌, map, length, get_or, AllPairs, IsPermutation, nat_abs, refl, sym, ap, subst, ◌∙◌, arith}
use Rattle.std.specs.Prelude.{All}
use Rattle.std.specs.List.{range_with_len}
use Rattle.std.proofs.lemmas.Bool.{cases_lt}
use Rattle.std.proofs.lemmas.List.{get_or-map, length-map}
use Rattle.std.proofs.lemmas.List.Sorted.{IsPermutation-map}
use Rattle.rx_text.specs.declared.pad_name.Role.{Role}
use Rattle.rx_text.specs.declared.pad_name.Role.TheVariants.{Vdd, Gnd, Phi1, Phi2, Reset, Input, Output}
use Rattle.geom.specs.declared.chip.Label.{Label}
use Rattle.geom.specs.Rows.{Among}
use Rattle.rx_lang.specs.Tables.{Tables, IsSpecification}
use Rattle.star_normal.specs.Tables.{TreeTable, IsTree, whole}
use Rattle.star_normal.specs.Trees.{leaves}
use Rattle.switch_net.specs.Circuit.{Circuit, IsSameNetwork, renamed_pad, renamed_device, ascending}
use Rattle.switch_net.specs.SameNetworks.{SameIsTransitive}
use Rattle.switch_net.specs.Validity.{AreDistinct}
use Rattle.switch_net.specs.declared.network.Pad.{Pad}
use Rattle.switch_net.specs.declared.network.Device.{Device}
use Rattle.switch_net.specs.declared.network.Device.TheVariants.{Pass, Load}
use Rattle.nmos_model.specs.Lists.{Matched}
use Rattle.nmos_model.specs.Pads.{first_labels, IsNeeded, HasLabel}
use Rattle.nmos_model.specs.Networks.{StandsFor}
use Rattle.nmos_model.specs.Refusals.{spot_of}
use Rattle.stick_grid.specs.Plans.{Plan, IsPlan, Covers}
use Rattle.stick_grid.specs.Pieces.{Piece, IsIn}
use Rattle.stick_grid.specs.Transistors.{piece}
use Rattle.stick_grid.specs.Depicted.{IsNamedPad, Depicts, PlansStandForNetworks}
use Rattle.stick_grid.specs.Modules.{IsModule}
use Rattle.stick_grid.specs.LabelledModules.{StandsForSame}
use Rattle.stick_grid.specs.PlacedModules.{PlacedModule, whole_name, whole_devices, whole_border, CoveringsAreModules}
use Rattle.nor_net.specs.SwitchForm.{at, switch_form}
use Rattle.nor_net.specs.Assembly.{PartNet, IsPartNet, NetsMeet, PartPad, pad_by, IsAssembly, AssembliesAreSame}
use Rattle.block_grid.specs.Lines.{col_of}
use Rattle.block_grid.specs.Sheets.{Sheet}
use Rattle.light_order.specs.Order.{frame}
use Rattle.channel_route.specs.Drawing.{place_in as place_of}
use Rattle.cell_network.specs.declared.numbering.Counts.{Counts}
use Rattle.cell_network.specs.Parts.{counts_of, part_of, frame_numbers, inn_wire}
use Rattle.cell_network.specs.Whole.{cells_of, pads_of}
use Rattle.cell_network.specs.Assembled.{part_count, part_home, ports_meet, AreDriven, frame_pad, frame_pad_at, frame_pads as part_pads}
use Rattle.cell_network.specs.TreeParts.{AreParts}
use Rattle.cell_network.specs.WireMeetings.{IsWireBelow}
use Rattle.node_cell.specs.Blocks.{block_side}
use Rattle.node_cell.specs.BlockModules.{BlocksAreModules}
use Rattle.tree_chip.specs.TreePlans.{IsSheetOf, tree_plan, frame_pads, pad_spot, pad_label, tree_labels}
use Rattle.tree_chip.proofs.Members.{all_among, among_map, among_mapped, among_append}
use Rattle.tree_chip.proofs.TreeEdges.{top, IsOrder}
use Rattle.tree_chip.proofs.Numbers.{number, number_of, number_below, same_home, number_joins, joined_number}
use Rattle.tree_chip.proofs.Places.{which}
use Rattle.tree_chip.proofs.Covered.{SheetLaws, name, rename, ms, n, total, vdd, covering}
use Rattle.tree_chip.proofs.WholeDevices.{devices_gathered}
use Rattle.tree_chip.proofs.FirstLabels.{all_first}
use Rattle.tree_chip.proofs.PadSpots.{pad_spots}

-- the pad on the frame's own net
abbrev own_pad : PartPad → Pad
own_pad p = record { name = p.name; net = at p.net.net }

map_map : {X Y Z : Type 0} (f : Y → Z) (g : X → Y) (xs : List X) → map f (map g xs) ≡ map (λ x. f (g x)) xs
map_map f g [] = refl
map_map f g (x ∷ xs) = ap (λ l. f (g x) ∷ l) (map_map f g xs)

map_append : {X Y : Type 0} (f : X → Y) (xs ys : List X) → map f (xs ++ ys) ≡ map f xs ++ map f ys
map_append f [] ys = refl
map_append f (x ∷ xs) ys = ap (λ l. f x ∷ l) (map_append f xs ys)

-- two of these are one, or differ where they are sent to
pair_cases : (f : PartPad → Pad) (xs : List PartPad) → AllPairs AreDistinct (map f xs) → (p q : PartPad) → Among xs p → Among xs q
    → (p ≡ q) ⊎ AreDistinct (f p) (f q)
pair_cases f [] h p q m k = absurd m
pair_cases f (x ∷ xs) h p q (inl e) (inl g) = inl (sym e ∙ g)
pair_cases f (x ∷ xs) h p q (inl e) (inr k) =
    inr (subst (λ y. AreDistinct (f y) (f q)) e
    (all_among (AreDistinct (f x)) (map f xs) (f q) (λ j d lt. h 0 (suc j) d (omega arith) (omega arith)) (among_map f xs q k)))
pair_cases f (x ∷ xs) h p q (inr m) (inl g) =
    let d = subst (λ y. AreDistinct (f y) (f p)) g
    (all_among (AreDistinct (f x)) (map f xs) (f p) (λ j d lt. h 0 (suc j) d (omega arith) (omega arith)) (among_map f xs p m)) in
    inr (λ e. d.0 (sym e), λ e. d.1 (sym e))
pair_cases f (x ∷ xs) h p q (inr m) (inr k) = pair_cases f xs (λ i j d less lt. h (suc i) (suc j) d (omega arith) (omega arith)) p q m k

-- names that differ where elements are sent to, differ where they are sent to another way
names_apart : (f : PartPad → Pad) (l : PartPad → Label) → ((p : PartPad) → (l p).pad ≡ (f p).name) → (xs : List PartPad)
    → AllPairs AreDistinct (map f xs) → AllPairs (λ (a b : Label). a.pad ≢ b.pad) (map l xs)
names_apart f l same xs h i j d less lt e =
    let long = length-map xs l in
    let shown = length-map xs f in
    let x : PartPad = get_or xs i (some xs i (omega arith)) in
    let y : PartPad = get_or xs j (some xs i (omega arith)) in
    let li = get_or-map l xs i (some xs i (omega arith)) d (omega arith) in
    let lj = get_or-map l xs j (some xs i (omega arith)) d (omega arith) in
    let fi = get_or-map f xs i (some xs i (omega arith)) (f x) (omega arith) in
    let fj = get_or-map f xs j (some xs i (omega arith)) (f x) (omega arith) in
    let apart = h i j (f x) less (omega arith) in
    apart.0 (ap (λ (p : Pad). p.name) fi ∙ sym (same x) ∙ ap (λ (a : Label). a.pad) (sym li) ∙ e ∙ ap (λ (a : Label). a.pad) lj ∙ same y
    ∙ ap (λ (p : Pad). p.name) (sym fj))
  where
    some : (xs : List PartPad) (i : ℕ) → i < length xs → PartPad
    some [] i lt = absurd (omega arith)
    some (x ∷ xs) i lt = x

-- ---- networks that differ in the order of their devices

same_pads : (pads : List Pad) → map (renamed_pad (λ net. net)) pads ≡ pads
same_pads [] = refl
same_pads (pad ∷ pads) = ap (λ l. pad ∷ l) (same_pads pads)

same_devices : (ds : List Device) → map ascending ds ≡ map (λ d. ascending (renamed_device (λ net. net) d)) ds
same_devices [] = refl
same_devices (Pass gate a b ∷ ds) = ap (λ l. ascending (Pass gate a b) ∷ l) (same_devices ds)
same_devices (Load net ∷ ds) = ap (λ l. Load net ∷ l) (same_devices ds)

in_order : (nets : ℕ) (pads : List Pad) (ones others : List Device) → IsPermutation (map ascending ones) (map ascending others)
    → IsSameNetwork (record { nets = nets; pads = pads; devices = ones }) (record { nets = nets; pads = pads; devices = others })
in_order nets pads ones others h = record {
  rename = λ net. net;
  apart = λ a b touched_a touched_b e. e;
  pads = same_pads pads;
  devices = subst (λ l. IsPermutation l (map ascending others)) (same_devices ones) h;
}

module _ (sheet : Sheet) (tree : TreeTable) (tables : Tables) (is_tree : IsTree tree) (known_tables : IsSpecification tables)
    (symbols : All (λ s. s < length tables.symbols) (leaves (whole tree))) (of : IsSheetOf tree sheet) (order : IsOrder tree) (laws : SheetLaws)
    (blocks : BlocksAreModules) (driven : AreDriven tree tables) (parts : AreParts tree tables)
    (meet : (a b : PartNet) → NetsMeet (part_of tree tables) (part_count tree) (ports_meet tree tables) a b ↔ IsWireBelow tree tables a b)
    (coverings : CoveringsAreModules) (networks : PlansStandForNetworks) (apart : AllPairs AreDistinct (pads_of (counts_of tree tables) tables)) where
  abbrev c : Counts
  c = counts_of tree tables

  abbrev plan : Plan
  plan = tree_plan sheet tree tables

  abbrev mods : ℕ → PlacedModule
  mods = ms sheet tree tables is_tree known_tables symbols of order laws blocks driven parts meet

  abbrev many : ℕ
  many = n sheet tree tables is_tree known_tables symbols of order laws blocks driven parts meet

  abbrev nets : ℕ
  nets = total sheet tree tables is_tree known_tables symbols of order laws blocks driven parts meet

  abbrev supply : ℕ
  supply = vdd sheet tree tables is_tree known_tables symbols of order laws blocks driven parts meet

  abbrev in_place : ℕ → ℕ → ℕ
  in_place = which sheet tree tables (name sheet tree tables is_tree known_tables symbols of order laws blocks driven parts meet)
      (rename sheet tree tables is_tree known_tables symbols of order laws blocks driven parts meet)

  made : IsModule plan nets (whole_name mods in_place) supply (whole_devices mods many) (whole_border plan mods in_place)
  unfolding covering
  made = coverings plan nets supply mods many (covering sheet tree tables is_tree known_tables symbols of order laws blocks driven parts meet)

  pub is_plan : IsPlan plan
  is_plan = made.is_plan

  -- ---- pads

  abbrev pads : List PartPad
  pads = part_pads tree tables

  abbrev drawn_pads : List Pad
  drawn_pads = map (pad_by (number_of tree tables)) pads

  own_pads : map own_pad pads ≡ frame_pads c tables
  own_pads =
      let lines = map (frame_pad_at c Input (frame_numbers c).lines tables.lines) (range_with_len 0 (length tables.lines)) in
      let outputs = map (frame_pad_at c Output (frame_numbers c).outputs tables.outputs) (range_with_len 0 (length tables.outputs)) in
      let front = λ (l : List Pad). own_pad (frame_pad c Vdd (inn_wire c + 5)) ∷ own_pad (frame_pad c Gnd (inn_wire c + 6))
      ∷ own_pad (frame_pad c Phi1 (inn_wire c + 3)) ∷ own_pad (frame_pad c Phi2 (inn_wire c + 4)) ∷ own_pad (frame_pad c Reset
      (inn_wire c + 2)) ∷ l in
      ap front (map_append own_pad lines outputs
      ∙ ap (λ l. l ++ map own_pad outputs) (map_map own_pad (frame_pad_at c Input (frame_numbers c).lines tables.lines) (range_with_len 0
      (length tables.lines)))
      ∙ ap (λ l. map (λ i. own_pad (frame_pad_at c Input (frame_numbers c).lines tables.lines i)) (range_with_len 0 (length tables.lines)) ++ l)
      (map_map own_pad (frame_pad_at c Output (frame_numbers c).outputs tables.outputs) (range_with_len 0 (length tables.outputs))))

  abbrev label_of : PartPad → Label
  label_of p = pad_label sheet tree tables (own_pad p)

  labels_are : tree_labels sheet tree tables ≡ map label_of pads
  labels_are = ap (map (pad_label sheet tree tables)) (sym own_pads) ∙ map_map (pad_label sheet tree tables) own_pad pads

  on_frame : (p : PartPad) → Among pads p → p.net.which ≡ top tree
  on_frame p (inl e) = ap (λ (x : PartPad). x.net.which) (sym e)
  on_frame p (inr (inl e)) = ap (λ (x : PartPad). x.net.which) (sym e)
  on_frame p (inr (inr (inl e))) = ap (λ (x : PartPad). x.net.which) (sym e)
  on_frame p (inr (inr (inr (inl e)))) = ap (λ (x : PartPad). x.net.which) (sym e)
  on_frame p (inr (inr (inr (inr (inl e))))) = ap (λ (x : PartPad). x.net.which) (sym e)
  on_frame p (inr (inr (inr (inr (inr m))))) =
      let lines = map (frame_pad_at c Input (frame_numbers c).lines tables.lines) (range_with_len 0 (length tables.lines)) in
      let outputs = map (frame_pad_at c Output (frame_numbers c).outputs tables.outputs) (range_with_len 0 (length tables.outputs)) in
      elim (among_append lines outputs p m) as (λ _. p.net.which ≡ top tree) [
        | inl k ↦ let i = among_mapped _ _ p k in ap (λ (x : PartPad). x.net.which) (sym i.2)
        | inr k ↦ let i = among_mapped _ _ p k in ap (λ (x : PartPad). x.net.which) (sym i.2)
      ]

  pad_known : (p : PartPad) → Among pads p → IsPartNet (part_of tree tables) (part_count tree) p.net
  pad_known p m = all_among (λ pad. IsPartNet (part_of tree tables) (part_count tree) pad.net) pads p driven.pads_known m

  pad_number : (p : PartPad) → Among pads p → number tree tables (top tree) p.net.net ≡ number_of tree tables p.net
  pad_number p m = ap (λ v. number tree tables v p.net.net) (sym (on_frame p m))

  -- ---- the nets under labels

  -- the column of the layout in which the frame's block begins
  abbrev first_col : ℕ
  first_col = block_side c * col_of (place_of sheet (frame tree))

  abbrev net_of : Label → ℕ
  net_of label = ((nat_abs label.x - 6) / 14 - first_col - 2) / 2

  net_is : (p : PartPad) → net_of (label_of p) ≡ p.net.net
  net_is p = by first_col p.net.net
    where
      by : (f k : ℕ) → ((14 * (f + (2 + 2 * k)) + 6 - 6) / 14 - f - 2) / 2 ≡ k
      by f k = omega arith

  abbrev under_by : (k : ℕ) → (k < (part_of tree tables (top tree)).nets) ⊎ ((part_of tree tables (top tree)).nets ≤ k) → Piece
  under_by k (inl lt) = (pad_spots sheet tree tables is_tree known_tables symbols of order laws blocks driven parts meet k lt).under
  under_by k (inr ge) = piece 0 0 0

  abbrev under : Label → Piece
  under label = under_by (net_of label) (cases_lt (net_of label) (part_of tree tables (top tree)).nets)

  -- the net of a tile that the label of a pad stands on
  pub record IsUnder (p : PartPad) (q : Piece) : Type 0 where
    pub inside : IsIn plan (spot_of (label_of p)) q
    pub bears : whole_name mods in_place q ≡ number_of tree tables p.net

  is_under : (p : PartPad) → Among pads p → IsUnder p (under (label_of p))
  is_under p m =
      let known = pad_known p m in
      let lt : p.net.net < (part_of tree tables (top tree)).nets = subst (λ v. p.net.net < (part_of tree tables v).nets) (on_frame p m) known.below in
      by (net_of (label_of p)) (net_is p) lt (cases_lt (net_of (label_of p)) (part_of tree tables (top tree)).nets)
    where
      by : (k : ℕ) → k ≡ p.net.net → p.net.net < (part_of tree tables (top tree)).nets
          → (o : (k < (part_of tree tables (top tree)).nets) ⊎ ((part_of tree tables (top tree)).nets ≤ k)) → IsUnder p (under_by k o)
      by k e lt (inl low) =
          let spot = pad_spots sheet tree tables is_tree known_tables symbols of order laws blocks driven parts meet k low in
          record {
            inside = subst (λ j. IsIn plan (pad_spot sheet tree tables j) spot.under) e spot.inside;
            bears = spot.bears ∙ ap (number tree tables (top tree)) e ∙ pad_number p m;
          }
      by k e lt (inr high) = absurd (omega arith)

  -- ---- the network that is drawn

  abbrev drawn : Circuit
  drawn = record { nets = nets; pads = drawn_pads; devices = whole_devices mods many }

  homes_apart : AllPairs AreDistinct (map (pad_by (part_home tree tables)) pads)
  homes_apart = subst (AllPairs AreDistinct) (sym driven.pads) apart

  labels_first : first_labels [] (map label_of pads) ≡ map label_of pads
  labels_first = all_first (map label_of pads) (names_apart (pad_by (part_home tree tables)) label_of (λ p. refl) pads homes_apart)

  matched : (ps : List PartPad) → ((p : PartPad) → Among ps p → Among pads p)
      → Matched (IsNamedPad (λ label. whole_name mods in_place (under label))) (map label_of ps) (map (pad_by (number_of tree tables)) ps)
  matched [] h = tt
  matched (p ∷ ps) h = (
    record { name = refl; number = sym (is_under p (h p (inl refl))).bears },
    matched ps (λ q m. h q (inr m)),
  )

  -- a label is that of a pad
  abbrev IsLabel : Label → Type 0
  IsLabel label = (p : PartPad) × Among pads p × (label_of p ≡ label)

  label_known : (label : Label) → Among (map label_of pads) label → IsLabel label
  label_known label m = among_mapped label_of pads label m

  agrees : (p q : PartPad) → Among pads p → Among pads q
      → (p.name ≡ q.name) ↔ (whole_name mods in_place (under (label_of p)) ≡ whole_name mods in_place (under (label_of q)))
  agrees p q m k =
      let one = (is_under p m).bears in
      let other = (is_under q k).bears in
      elim (pair_cases (pad_by (part_home tree tables)) pads homes_apart p q m k)
      as (λ _. (p.name ≡ q.name) ↔ (whole_name mods in_place (under (label_of p)) ≡ whole_name mods in_place (under (label_of q)))) [
        | inl same ↦ (
          λ e. ap (λ (x : PartPad). whole_name mods in_place (under (label_of x))) same,
          λ e. ap (λ (x : PartPad). x.name) same,
        )
        | inr differ ↦ (
          λ e. absurd (differ.0 e),
          λ e. absurd (differ.1 (ap (λ (h : ℕ). at h) (same_home tree tables driven p.net q.net (pad_known p m) (pad_known q k) (sym one ∙ e
              ∙ other)))),
        )
      ]

  needed : (role : Role) → IsNeeded role → HasLabel (map label_of pads) role
  needed Vdd h = (_, inl refl, refl)
  needed Gnd h = (_, inr (inl refl), refl)
  needed Phi1 h = (_, inr (inr (inl refl)), refl)
  needed Phi2 h = (_, inr (inr (inr (inl refl))), refl)
  needed Reset h = (_, inr (inr (inr (inr (inl refl)))), refl)
  needed Input h = absurd h
  needed Output h = absurd h

  abbrev in_rows : Circuit
  in_rows = record { nets = nets; pads = drawn_pads; devices = made.drawn }

  depicts : Depicts plan (map label_of pads) in_rows
  depicts = record {
    name = whole_name mods in_place;
    names = made.names;
    under = under;
    on_squares = λ label m.
        let p = label_known label m in
        subst (λ (l : Label). IsIn plan (spot_of l) (under l)) p.2 (is_under p.0 p.1).inside;
    agree = λ a b m k.
        let p = label_known a m in
        let q = label_known b k in
        let both = agrees p.0 q.0 p.1 q.1 in (
          λ e. ap (λ l. whole_name mods in_place (under l)) (sym p.2)
              ∙ both.0 (ap (λ (l : Label). l.pad) p.2 ∙ e ∙ ap (λ (l : Label). l.pad) (sym q.2)) ∙ ap (λ l. whole_name mods in_place (under l)) q.2,
          λ e. ap (λ (l : Label). l.pad) (sym p.2)
              ∙ both.1 (ap (λ l. whole_name mods in_place (under l)) p.2 ∙ e ∙ ap (λ l. whole_name mods in_place (under l)) (sym q.2))
              ∙ ap (λ (l : Label). l.pad) q.2,
        );
    needed = needed;
    pads = subst (λ ls. Matched (IsNamedPad (λ label. whole_name mods in_place (under label))) ls drawn_pads) (sym labels_first) (matched pads
        (λ p m. m));
    vdd = supply;
    supply = (_, inl refl, refl, refl);
    devices = made.transistors;
  }

  -- ---- the parts' network

  assembled : IsAssembly (part_of tree tables) (part_count tree) (ports_meet tree tables) pads drawn
  assembled = record {
    home = number_of tree tables;
    below = number_below tree tables driven;
    joined = λ a b ka kb. (number_joins tree tables driven a b ka kb, joined_number tree tables driven a b);
    pads_stand = refl;
    devices = IsPermutation-map ascending _ _
        (devices_gathered sheet tree tables is_tree known_tables symbols of order laws blocks driven parts meet);
  }

  pub trees_drawn : AssembliesAreSame → SameIsTransitive
      → IsAssembly (part_of tree tables) (part_count tree) (ports_meet tree tables) pads (switch_form (cells_of tree tables))
      → StandsForSame (Covers plan) (tree_labels sheet tree tables) (switch_form (cells_of tree tables))
  trees_drawn same transitive cells =
      let circuit = switch_form (cells_of tree tables) in
      let is_cells = same (part_of tree tables) (part_count tree) (ports_meet tree tables) pads drawn circuit
      (λ k lt. (parts.wired k (omega arith)).is_part) driven.pads_known assembled cells in
      record {
        drawn = in_rows;
        stands = subst (λ ls. StandsFor (Covers plan) ls in_rows) (sym labels_are) (networks plan (map label_of pads) in_rows made.is_plan depicts);
        same = transitive in_rows drawn circuit (in_order nets drawn_pads made.drawn (whole_devices mods many) made.as_drawn) is_cells;
      }
