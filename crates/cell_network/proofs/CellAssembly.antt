-- The network of cells is the assembly of its parts.
use Rattle.std.proofs.Common.{◌≡◌, ◌↔◌, inl, inr, ℕ, zero, suc, ◌+◌, ◌*◌, ◌<◌, ◌≤◌, List, [], ◌∷◌, map, length, All, IsPermutation, refl, ap, sym, subst, ◌∙◌, arith, lt-ltb, le-ltb}
use Rattle.std.specs.List.{range_with_len}
use Rattle.std.proofs.lemmas.Bool.{cases_lt}
use Rattle.std.proofs.lemmas.List.{map-append}
use Rattle.std.proofs.lemmas.List.Elements.{All-from_recursion}
use Rattle.std.proofs.lemmas.List.Sorted.{IsPermutation-map}
use Rattle.rx_text.specs.declared.pad_name.Role.TheVariants.{Input, Output}
use Rattle.rx_lang.specs.Tables.{Tables}
use Rattle.star_normal.specs.Tables.{TreeTable, IsTree}
use Rattle.switch_net.specs.Circuit.{ascending}
use Rattle.nor_net.specs.SwitchForm.{switch_form}
use Rattle.nor_net.specs.Assembly.{PartNet, part_net, IsPartNet, PartsJoin, PartPad, pad_by, assembled_devices, IsAssembly}
use Rattle.nor_net.specs.Assembly.PartsJoin.{same, on, back}
use Rattle.cell_network.specs.declared.numbering.Counts.{Counts}
use Rattle.cell_network.specs.Parts.{counts_of, node_at, inn_wire, bundle, frame_numbers, part_of}
use Rattle.cell_network.specs.Home.{line_net, output_net}
use Rattle.cell_network.specs.Whole.{pad_at, pads_from, pads_of, cells_of}
use Rattle.cell_network.specs.Assembled.{ports_meet, part_home, driver_of, part_count, frame_pad_at, frame_pads, AreDriven}
use Rattle.cell_network.proofs.Meetings.{wires_of}
use Rattle.cell_network.proofs.Ranges.{each_append, each_range}
use Rattle.cell_network.proofs.Drivers as drivers
use Rattle.cell_network.proofs.NodeDrivers as nodes
use Rattle.cell_network.proofs.Driven as driven
use Rattle.cell_network.proofs.TreeMeets as meets

range_alike : {X : Type 0} (f g : ℕ → X) (a m : ℕ) → ((k : ℕ) → a ≤ k → k < a + m → f k ≡ g k) → map f (range_with_len a m) ≡ map g (range_with_len a m)
range_alike f g a zero h = refl
range_alike {X} f g a (suc m) h =
    ap (λ (x : X). x ∷ map f (range_with_len (a + 1) m)) (h a (omega arith) (omega arith))
    ∙ ap (λ (xs : List X). g a ∷ xs) (range_alike f g (a + 1) m (λ k l lt. h k (omega (arith, l)) (omega (arith, lt))))

map_twice : {X Y Z : Type 0} (f : Y → Z) (g : X → Y) (xs : List X) → map f (map g xs) ≡ map (λ x. f (g x)) xs
map_twice f g [] = refl
map_twice f g (x ∷ xs) = rw (map_twice f g xs) refl

module _ (tree : TreeTable) (tables : Tables) (t : IsTree tree) where
  abbrev c : Counts
  c = counts_of tree tables

  abbrev n : ℕ
  n = length tree.nodes

  abbrev h : PartNet → ℕ
  h = part_home tree tables

  abbrev IsNet : PartNet → Type 0
  IsNet = IsPartNet (part_of tree tables) (part_count tree)

  abbrev Join : PartNet → PartNet → Type 0
  Join = PartsJoin (part_of tree tables) (part_count tree) (ports_meet tree tables)

  -- ---- supplies and clocks

  -- a wire that has one home in nodes and in the frame
  everywhere : (k x v : ℕ) → v ≤ n → (v < n → h (part_net v (inn_wire c + k)) ≡ x) → h (part_net n (inn_wire c + k)) ≡ x → h (part_net v (inn_wire c + k)) ≡ x
  everywhere k x v le node frame = elim (cases_lt v n) [
    | inl lt ↦ node lt
    | inr ge ↦ let e : v ≡ n = omega (arith, ge, le) in rw e frame
  ]

  -- what holds of the supplies of nodes' parts and of the frame's holds of all
  of_supply : (P : ℕ → ℕ → Type 0) (f : ℕ → ℕ) (net v : ℕ) → v ≤ n → (v < n → f v ≡ net) → (v ≡ n → f v ≡ net) → P v net → P v (f v)
  of_supply P f net v le node frame p = elim (cases_lt v n) [
    | inl lt ↦ rw (node lt) p
    | inr ge ↦ rw (frame (omega (arith, ge, le))) p
  ]

  vdd_is : (v : ℕ) → v ≤ n → h (part_net v (part_of tree tables v).vdd) ≡ 0
  vdd_is v le =
      of_supply (λ w net. h (part_net w net) ≡ 0) (λ w. (part_of tree tables w).vdd) (inn_wire c + 5) v le (λ lt. rw (lt-ltb v n lt) refl)
      (λ e. rw (le-ltb v n (omega (arith, e))) refl)
      (everywhere 5 0 v le (λ lt. nodes.fixed_home tree tables v 5 0 lt (wires_of c v _ (node_at tree.nodes v).kind).vdd) (drivers.frame_vdd tree tables).home)

  gnd_is : (v : ℕ) → v ≤ n → h (part_net v (part_of tree tables v).gnd) ≡ 1
  gnd_is v le =
      of_supply (λ w net. h (part_net w net) ≡ 1) (λ w. (part_of tree tables w).gnd) (inn_wire c + 6) v le (λ lt. rw (lt-ltb v n lt) refl)
      (λ e. rw (le-ltb v n (omega (arith, e))) refl)
      (everywhere 6 1 v le (λ lt. nodes.fixed_home tree tables v 6 1 lt refl) (drivers.frame_gnd tree tables).home)

  phi1_is : (v : ℕ) → v ≤ n → h (part_net v (part_of tree tables v).phi1) ≡ 2
  phi1_is v le =
      of_supply (λ w net. h (part_net w net) ≡ 2) (λ w. (part_of tree tables w).phi1) (inn_wire c + 3) v le (λ lt. rw (lt-ltb v n lt) refl)
      (λ e. rw (le-ltb v n (omega (arith, e))) refl)
      (everywhere 3 2 v le (λ lt. nodes.fixed_home tree tables v 3 2 lt refl) (drivers.frame_phi1 tree tables).home)

  phi2_is : (v : ℕ) → v ≤ n → h (part_net v (part_of tree tables v).phi2) ≡ 3
  phi2_is v le =
      of_supply (λ w net. h (part_net w net) ≡ 3) (λ w. (part_of tree tables w).phi2) (inn_wire c + 4) v le (λ lt. rw (lt-ltb v n lt) refl)
      (λ e. rw (le-ltb v n (omega (arith, e))) refl)
      (everywhere 4 3 v le (λ lt. nodes.fixed_home tree tables v 4 3 lt refl) (drivers.frame_phi2 tree tables).home)

  -- ---- pads

  output_driver : (y : ℕ) → y < c.outputs → drivers.IsDriver tree tables (part_net n ((frame_numbers c).outputs + y)) (output_net c + y)
  output_driver y lt = let e : bundle c + (2 * c.lines + y) ≡ bundle c + 2 * c.lines + y = omega arith in rw e at (drivers.frame_output tree tables y lt)

  each_pad : (P : PartPad → Type 0) → ((pad : PartPad) (x : ℕ) → drivers.IsDriver tree tables pad.net x → P pad) → All P (frame_pads tree tables)
  each_pad P f =
      All-from_recursion P (frame_pads tree tables) (
        f _ _ (drivers.frame_vdd tree tables),
        (
          f _ _ (drivers.frame_gnd tree tables),
          (
            f _ _ (drivers.frame_phi1 tree tables),
            (
              f _ _ (drivers.frame_phi2 tree tables),
              (
                f _ _ (drivers.frame_reset tree tables),
                each_append P (map (frame_pad_at c Input (frame_numbers c).lines tables.lines) (range_with_len 0 (length tables.lines)))
                    (map (frame_pad_at c Output (frame_numbers c).outputs tables.outputs) (range_with_len 0 (length tables.outputs)))
                    (each_range P (frame_pad_at c Input (frame_numbers c).lines tables.lines) 0 (length tables.lines)
                    (λ i l lt. f _ _ (drivers.frame_line tree tables i (omega (arith, lt)))))
                    (each_range P (frame_pad_at c Output (frame_numbers c).outputs tables.outputs) 0 (length tables.outputs)
                    (λ y l lt. f _ _ (output_driver y (omega (arith, lt))))),
              ),
            ),
          ),
        ),
      )

  lines_stand : map (pad_by h) (map (frame_pad_at c Input (frame_numbers c).lines tables.lines) (range_with_len 0 (length tables.lines)))
      ≡ pads_from Input (line_net c) tables.lines
  lines_stand =
      map_twice (pad_by h) (frame_pad_at c Input (frame_numbers c).lines tables.lines) (range_with_len 0 (length tables.lines))
      ∙ range_alike (λ i. pad_by h (frame_pad_at c Input (frame_numbers c).lines tables.lines i)) (pad_at Input (line_net c) tables.lines) 0 (length tables.lines)
      (λ i l lt. rw (drivers.frame_line tree tables i (omega (arith, lt))).home refl)

  outputs_stand : map (pad_by h) (map (frame_pad_at c Output (frame_numbers c).outputs tables.outputs) (range_with_len 0 (length tables.outputs)))
      ≡ pads_from Output (output_net c) tables.outputs
  outputs_stand =
      map_twice (pad_by h) (frame_pad_at c Output (frame_numbers c).outputs tables.outputs) (range_with_len 0 (length tables.outputs))
      ∙ range_alike (λ y. pad_by h (frame_pad_at c Output (frame_numbers c).outputs tables.outputs y)) (pad_at Output (output_net c) tables.outputs) 0 (length tables.outputs)
      (λ y l lt. rw (output_driver y (omega (arith, lt))).home refl)

  pads_stand : map (pad_by h) (frame_pads tree tables) ≡ pads_of c tables
  pads_stand =
      rw (
        (drivers.frame_vdd tree tables).home,
        (drivers.frame_gnd tree tables).home,
        (drivers.frame_phi1 tree tables).home,
        (drivers.frame_phi2 tree tables).home,
        (drivers.frame_reset tree tables).home,
        map-append (pad_by h) (map (frame_pad_at c Input (frame_numbers c).lines tables.lines) (range_with_len 0 (length tables.lines)))
            (map (frame_pad_at c Output (frame_numbers c).outputs tables.outputs) (range_with_len 0 (length tables.outputs))),
        lines_stand,
        outputs_stand,
      ) refl

  -- ---- drivers

  apart : (a b : PartNet) → IsNet a → IsNet b → h a ≡ h b → driver_of tree tables a ≡ driver_of tree tables b
  apart a b k l e =
      drivers.classes_agree tree tables (driver_of tree tables a) (driver_of tree tables b) (h a) (driven.stands tree tables t a k).class
      (rw (← e) at (driven.stands tree tables t b l).class)

  pub are_driven : AreDriven tree tables
  are_driven = record {
    known = λ a k. (driven.stands tree tables t a k).known;
    fixed = λ a k. (driven.stands tree tables t a k).fixed;
    home = λ a k. (driven.stands tree tables t a k).home;
    apart = apart;
    below = λ a k. drivers.class_below tree tables _ _ (driven.stands tree tables t a k).class;
    leads = driven.leads tree tables t;
    meets = meets.meets_alike tree tables t;
    vdd = vdd_is;
    gnd = gnd_is;
    phi1 = phi1_is;
    phi2 = phi2_is;
    pads = pads_stand;
    pads_known = each_pad (λ (pad : PartPad). IsNet pad.net) (λ pad x d. d.known);
    pads_driven = each_pad (λ (pad : PartPad). driver_of tree tables pad.net ≡ pad.net) (λ pad x d. d.fixed);
  }

  -- ---- joined nets

  join_on : (a b d : PartNet) → Join a b → Join b d → Join a d
  join_on _ _ d (same a) k = k
  join_on _ _ d (on a b e m rest) k = on a b d m (join_on b e d rest k)
  join_on _ _ d (back a b e m rest) k = back a b d m (join_on b e d rest k)

  join_back : (a b : PartNet) → Join a b → Join b a
  join_back _ _ (same a) = same a
  join_back _ _ (on a b d m rest) = join_on d b a (join_back b d rest) (back b a a m (same a))
  join_back _ _ (back a b d m rest) = join_on d b a (join_back b d rest) (on b a a m (same a))

  joined_alike : (a b : PartNet) → Join a b → driver_of tree tables a ≡ driver_of tree tables b
  joined_alike _ _ (same a) = refl
  joined_alike _ _ (on a b d m rest) = meets.meets_alike tree tables t a b m ∙ joined_alike b d rest
  joined_alike _ _ (back a b d m rest) = sym (meets.meets_alike tree tables t b a m) ∙ joined_alike b d rest

  joined : (a b : PartNet) → IsNet a → IsNet b → (h a ≡ h b) ↔ Join a b
  joined a b k l = (
    λ e.
        let same_driver : driver_of tree tables a ≡ driver_of tree tables b = apart a b k l e in
        join_on a (driver_of tree tables b) b (subst (Join a) same_driver (driven.leads tree tables t a k)) (join_back _ _ (driven.leads tree tables t b l)),
    λ j. sym ((driven.stands tree tables t a k).home) ∙ ap h (joined_alike a b j) ∙ (driven.stands tree tables t b l).home,
  )

  pub is_assembly : IsPermutation (assembled_devices (part_of tree tables) (part_count tree) h) (switch_form (cells_of tree tables)).devices
      → IsAssembly (part_of tree tables) (part_count tree) (ports_meet tree tables) (frame_pads tree tables) (switch_form (cells_of tree tables))
  is_assembly devices = record {
    home = h;
    below = are_driven.below;
    joined = joined;
    pads_stand = pads_stand;
    devices = IsPermutation-map ascending _ _ devices;
  }
