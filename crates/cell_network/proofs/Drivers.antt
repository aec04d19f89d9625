-- The nets of parts that stand for nets of the whole: the number of each in the whole, from which it is known again.
use Rattle.std.proofs.Common.{◌≡◌, ◌⊎◌, inl, inr, ℕ, ◌+◌, ◌-◌, ◌*◌, ◌<◌, ◌≤◌, nat_lt, if◌then◌else◌, List, [], ◌∷◌, ◌++◌, length, slice_index_or, refl, sym, ◌∙◌, arith, lt-ltb, le-ltb}
use Rattle.std.specs.List.{range_with_len}
use Rattle.std.proofs.lemmas.Bool.{ne_eqb}
use Rattle.rx_lang.specs.Tables.{Tables}
use Rattle.star_normal.specs.declared.node.NodeKind.{NodeKind}
use Rattle.star_normal.specs.declared.node.NodeKind.TheVariants.{Leaf, Seq, Alt}
use Rattle.star_normal.specs.Tables.{TreeTable}
use Rattle.nor_net.specs.Assembly.{PartNet, part_net, IsPartNet}
use Rattle.cell_network.specs.declared.numbering.Counts.{Counts}
use Rattle.cell_network.specs.declared.numbering.Numbering.{Numbering}
use Rattle.cell_network.specs.Parts.{counts_of, node_at, inn_wire, bundle, part_of}
use Rattle.cell_network.specs.Home.{start_net, end_net, begin_net, shared_net, output_net, master_net, whole_nets, frame_home}
use Rattle.cell_network.specs.Assembled.{with_wires, node_homes, frame_homes, part_home, node_driver, frame_driver, driver_of, part_count}
use Rattle.cell_network.proofs.HomeReads.{in_range, behind_range, read_symbol, read_shared, read_fixed, read_inn, read_own}

module _ (c : Counts) where
  -- ---- nodes

  -- the net with this number is the node's, at one of eight places
  abbrev pub IsSlot : ℕ → ℕ → ℕ → Type 0
  IsSlot v h k =
      ((k < 2) × (h ≡ end_net c v + k))
      ⊎ (((2 ≤ k) × (k < 6) × (h + 2 ≡ begin_net c v + k)) ⊎ ((6 ≤ k) × (k < 8) × (h + 4 ≡ master_net c + 2 * v + k)))

  pub slots_apart : (v w h j k : ℕ) → v < c.nodes → w < c.nodes → IsSlot v h j → IsSlot w h k → (v ≡ w) × (j ≡ k)
  slots_apart v w h j k vl wl (inl a) (inl b) = (omega (arith, a.0, a.1, b.0, b.1), omega (arith, a.0, a.1, b.0, b.1))
  slots_apart v w h j k vl wl (inl a) (inr (inl b)) = absurd (omega (arith, a.0, a.1, b.0, b.1, b.2, vl))
  slots_apart v w h j k vl wl (inl a) (inr (inr b)) = absurd (omega (arith, a.0, a.1, b.0, b.1, b.2, vl))
  slots_apart v w h j k vl wl (inr (inl a)) (inl b) = absurd (omega (arith, a.0, a.1, a.2, b.0, b.1, wl))
  slots_apart v w h j k vl wl (inr (inl a)) (inr (inl b)) = (
    omega (arith, a.0, a.1, a.2, b.0, b.1, b.2, vl, wl),
    omega (arith, a.0, a.1, a.2, b.0, b.1, b.2, vl, wl),
  )
  slots_apart v w h j k vl wl (inr (inl a)) (inr (inr b)) = absurd (omega (arith, a.0, a.1, a.2, b.0, b.1, b.2, vl, wl))
  slots_apart v w h j k vl wl (inr (inr a)) (inl b) = absurd (omega (arith, a.0, a.1, a.2, b.0, b.1, wl))
  slots_apart v w h j k vl wl (inr (inr a)) (inr (inl b)) = absurd (omega (arith, a.0, a.1, a.2, b.0, b.1, b.2, vl, wl))
  slots_apart v w h j k vl wl (inr (inr a)) (inr (inr b)) = (omega (arith, a.0, a.1, a.2, b.0, b.1, b.2), omega (arith, a.0, a.1, a.2, b.0, b.1, b.2))

  abbrev pair_slots : List ℕ
  pair_slots = (bundle c + 6) ∷ (inn_wire c + 1) ∷ (bundle c + 4) ∷ (bundle c + 0) ∷ (bundle c + 5) ∷ (bundle c + 2) ∷ []

  -- the nets of a node's part at the eight places
  abbrev pub slots : NodeKind → List ℕ
  slots (Leaf s) =
      (bundle c + 6) ∷ (inn_wire c + 1) ∷ (bundle c + 0) ∷ (bundle c + 1) ∷ (bundle c + 2) ∷ (bundle c + 3) ∷ (bundle c + 4) ∷ (bundle c + 5) ∷ []
  slots (Seq l r) = pair_slots
  slots (Alt l r) = pair_slots

  -- ---- the frame

  -- the frame's net that is this one in the whole
  abbrev pub frame_at : ℕ → ℕ
  frame_at h =
      if nat_lt h 5 then slice_index_or ((inn_wire c + 5) ∷ (inn_wire c + 6) ∷ (inn_wire c + 3) ∷ (inn_wire c + 4) ∷ (inn_wire c + 2) ∷ []) h 0
      else if nat_lt h (5 + 2 * c.lines) then bundle c + (h - 5)
      else if nat_lt h (start_net c) then h - (5 + 2 * c.lines)
      else if nat_lt h (start_net c + 1) then bundle c + 2 * c.lines + c.outputs + 2
      else if nat_lt h (start_net c + 2) then inn_wire c
      else if nat_lt h (output_net c) then c.symbols + (h - shared_net c) else bundle c + 2 * c.lines + (h - output_net c)

  abbrev pub InFrame : ℕ → Type 0
  InFrame h = (h < start_net c + 2) ⊎ ((shared_net c ≤ h) × (h < master_net c + 2))

  pub line_at : (k : ℕ) → k < 2 * c.lines → frame_at (5 + k) ≡ bundle c + k
  line_at k lt = let e : bundle c + (5 + k - 5) ≡ bundle c + k = omega arith in rw (le-ltb (5 + k) 5 (omega arith), lt-ltb (5 + k) (5 + 2 * c.lines) (omega (arith, lt))) e

  pub symbol_at : (s : ℕ) → s < c.symbols → frame_at (5 + 2 * c.lines + s) ≡ s
  symbol_at s lt =
      let e : 5 + 2 * c.lines + s - (5 + 2 * c.lines) ≡ s = omega arith in
      rw (
        le-ltb (5 + 2 * c.lines + s) 5 (omega arith),
        le-ltb (5 + 2 * c.lines + s) (5 + 2 * c.lines) (omega arith),
        lt-ltb (5 + 2 * c.lines + s) (start_net c) (omega (arith, lt)),
      ) e

  pub stored_at : frame_at (start_net c) ≡ bundle c + 2 * c.lines + c.outputs + 2
  stored_at =
      rw (
        le-ltb (start_net c) 5 (omega arith),
        le-ltb (start_net c) (5 + 2 * c.lines) (omega arith),
        le-ltb (start_net c) (start_net c) (omega arith),
        lt-ltb (start_net c) (start_net c + 1) (omega arith),
      ) refl

  pub inn_at : frame_at (start_net c + 1) ≡ inn_wire c
  inn_at =
      rw (
        le-ltb (start_net c + 1) 5 (omega arith),
        le-ltb (start_net c + 1) (5 + 2 * c.lines) (omega arith),
        le-ltb (start_net c + 1) (start_net c) (omega arith),
        le-ltb (start_net c + 1) (start_net c + 1) (omega arith),
        lt-ltb (start_net c + 1) (start_net c + 2) (omega arith),
      ) refl

  pub shared_at : (y : ℕ) → y < c.outputs → frame_at (shared_net c + y) ≡ c.symbols + y
  shared_at y lt =
      let e : c.symbols + (shared_net c + y - shared_net c) ≡ c.symbols + y = omega arith in
      rw (
        le-ltb (shared_net c + y) 5 (omega arith),
        le-ltb (shared_net c + y) (5 + 2 * c.lines) (omega arith),
        le-ltb (shared_net c + y) (start_net c) (omega arith),
        le-ltb (shared_net c + y) (start_net c + 1) (omega arith),
        le-ltb (shared_net c + y) (start_net c + 2) (omega arith),
        lt-ltb (shared_net c + y) (output_net c) (omega (arith, lt)),
      ) e

  pub output_at : (k : ℕ) → frame_at (output_net c + k) ≡ bundle c + 2 * c.lines + k
  output_at k =
      let e : bundle c + 2 * c.lines + (output_net c + k - output_net c) ≡ bundle c + 2 * c.lines + k = omega arith in
      rw (
        le-ltb (output_net c + k) 5 (omega arith),
        le-ltb (output_net c + k) (5 + 2 * c.lines) (omega arith),
        le-ltb (output_net c + k) (start_net c) (omega arith),
        le-ltb (output_net c + k) (start_net c + 1) (omega arith),
        le-ltb (output_net c + k) (start_net c + 2) (omega arith),
        le-ltb (output_net c + k) (output_net c) (omega arith),
      ) e

  slot_off_frame : (v h k : ℕ) → v < c.nodes → IsSlot v h k → InFrame h → ⊥
  slot_off_frame v h k lt (inl a) (inl f) = omega (arith, a.0, a.1, f, lt)
  slot_off_frame v h k lt (inl a) (inr f) = omega (arith, a.0, a.1, f.0, f.1, lt)
  slot_off_frame v h k lt (inr (inl a)) (inl f) = omega (arith, a.0, a.1, a.2, f, lt)
  slot_off_frame v h k lt (inr (inl a)) (inr f) = omega (arith, a.0, a.1, a.2, f.0, f.1, lt)
  slot_off_frame v h k lt (inr (inr a)) (inl f) = omega (arith, a.0, a.1, a.2, f, lt)
  slot_off_frame v h k lt (inr (inr a)) (inr f) = omega (arith, a.0, a.1, a.2, f.0, f.1, lt)

-- ---- known again

module _ (tree : TreeTable) (tables : Tables) where
  abbrev c : Counts
  c = counts_of tree tables

  -- the net of a part that is this one in the whole
  pub data Classified (d : PartNet) (h : ℕ) : Type 0 where
    in_frame : d ≡ part_net (length tree.nodes) (frame_at c h) → InFrame c h → Classified d h
    in_node : (v k : ℕ) → v < length tree.nodes → IsSlot c v h k → d ≡ part_net v (slice_index_or (slots c (node_at tree.nodes v).kind) k 0) → Classified d h

  pub classes_agree : (a b : PartNet) (h : ℕ) → Classified a h → Classified b h → a ≡ b
  classes_agree a b h (in_frame e f) (in_frame g k) = e ∙ sym g
  classes_agree a b h (in_frame e f) (in_node v k lt s g) = absurd (slot_off_frame c v h k lt s f)
  classes_agree a b h (in_node v k lt s g) (in_frame e f) = absurd (slot_off_frame c v h k lt s f)
  classes_agree a b h (in_node v j lt s g) (in_node w k wl u f) =
      let both = slots_apart c v w h j k lt wl s u in
      g ∙ rw (both.0, both.1) refl ∙ sym f

  pub class_below : (d : PartNet) (h : ℕ) → Classified d h → h < whole_nets c
  class_below d h (in_frame e (inl f)) = omega (arith, f)
  class_below d h (in_frame e (inr f)) = let g = f.1 in omega (arith, g)
  class_below d h (in_node v k lt (inl s) e) = omega (arith, s.0, s.1, lt)
  class_below d h (in_node v k lt (inr (inl s)) e) = omega (arith, s.0, s.1, s.2, lt)
  class_below d h (in_node v k lt (inr (inr s)) e) = omega (arith, s.0, s.1, s.2, lt)

  -- the net of a part stands for this net of the whole
  pub record IsDriver (d : PartNet) (h : ℕ) : Type 0 where
    pub known : IsPartNet (part_of tree tables) (part_count tree) d
    pub home : part_home tree tables d ≡ h
    pub fixed : driver_of tree tables d ≡ d
    pub class : Classified d h

  -- ---- parts by number

  pub frame_nets : (part_of tree tables (length tree.nodes)).nets ≡ bundle c + (2 * c.lines + c.outputs + 3)
  frame_nets = rw (le-ltb (length tree.nodes) (length tree.nodes) (omega arith)) refl

  pub node_nets : (v : ℕ) → v < length tree.nodes → (part_of tree tables v).nets ≡ bundle c + 7
  node_nets v lt = rw (lt-ltb v (length tree.nodes) lt) refl

  pub frame_reads : (net : ℕ) → part_home tree tables (part_net (length tree.nodes) net)
      ≡ slice_index_or (with_wires c (frame_home c tree.root) (frame_homes c (frame_home c tree.root))) net 0
  frame_reads net = rw (le-ltb (length tree.nodes) (length tree.nodes) (omega arith)) refl

  pub node_reads : (v net : ℕ) → v < length tree.nodes → part_home tree tables (part_net v net) ≡ slice_index_or (node_homes c tree.nodes v) net 0
  node_reads v net lt = rw (lt-ltb v (length tree.nodes) lt) refl

  pub frame_drives : (net : ℕ) → driver_of tree tables (part_net (length tree.nodes) net) ≡ frame_driver c tree net
  frame_drives net = rw (le-ltb (length tree.nodes) (length tree.nodes) (omega arith)) refl

  pub node_drives : (v net : ℕ) → v < length tree.nodes → driver_of tree tables (part_net v net) ≡ node_driver c tree v net
  node_drives v net lt = rw (lt-ltb v (length tree.nodes) lt) refl

  -- ---- the frame's

  frame_net : (net h : ℕ) → net < bundle c + (2 * c.lines + c.outputs + 3) → (net ≡ inn_wire c + 1 → ⊥)
      → slice_index_or (with_wires c (frame_home c tree.root) (frame_homes c (frame_home c tree.root))) net 0 ≡ h
      → frame_at c h ≡ net → InFrame c h → IsDriver (part_net (length tree.nodes) net) h
  frame_net net h lt off reads at within = record {
    known = record { known = omega arith; below = rw frame_nets lt };
    home = frame_reads net ∙ reads;
    fixed = frame_drives net ∙ rw (ne_eqb net (inn_wire c + 1) off) refl;
    class = in_frame (rw at refl) within;
  }

  abbrev fh : Numbering
  fh = frame_home c tree.root

  abbrev own : List ℕ
  own = frame_homes c fh

  pub frame_symbol : (s : ℕ) → s < c.symbols → IsDriver (part_net (length tree.nodes) s) (5 + 2 * c.lines + s)
  frame_symbol s lt =
      frame_net s _ (omega (arith, lt)) (λ e. omega (arith, e, lt)) (read_symbol c fh own s lt) (symbol_at c s lt) (inl (omega (arith, lt)))

  pub frame_shared : (y : ℕ) → y < c.outputs → IsDriver (part_net (length tree.nodes) (c.symbols + y)) (shared_net c + y)
  frame_shared y lt =
      frame_net (c.symbols + y) _ (omega (arith, lt)) (λ e. omega (arith, e, lt)) (read_shared c fh own y lt) (shared_at c y lt)
      (inr (omega arith, omega (arith, lt)))

  pub frame_inn : IsDriver (part_net (length tree.nodes) (inn_wire c)) (start_net c + 1)
  frame_inn = frame_net (inn_wire c) _ (omega arith) (λ e. omega (arith, e)) (read_inn c fh own) (inn_at c) (inl (omega arith))

  pub frame_reset : IsDriver (part_net (length tree.nodes) (inn_wire c + 2)) 4
  frame_reset = frame_net (inn_wire c + 2) 4 (omega arith) (λ e. omega (arith, e)) (read_fixed c fh own 2) refl (inl (omega arith))

  pub frame_phi1 : IsDriver (part_net (length tree.nodes) (inn_wire c + 3)) 2
  frame_phi1 = frame_net (inn_wire c + 3) 2 (omega arith) (λ e. omega (arith, e)) (read_fixed c fh own 3) refl (inl (omega arith))

  pub frame_phi2 : IsDriver (part_net (length tree.nodes) (inn_wire c + 4)) 3
  frame_phi2 = frame_net (inn_wire c + 4) 3 (omega arith) (λ e. omega (arith, e)) (read_fixed c fh own 4) refl (inl (omega arith))

  pub frame_vdd : IsDriver (part_net (length tree.nodes) (inn_wire c + 5)) 0
  frame_vdd = frame_net (inn_wire c + 5) 0 (omega arith) (λ e. omega (arith, e)) (read_fixed c fh own 5) refl (inl (omega arith))

  pub frame_gnd : IsDriver (part_net (length tree.nodes) (inn_wire c + 6)) 1
  frame_gnd = frame_net (inn_wire c + 6) 1 (omega arith) (λ e. omega (arith, e)) (read_fixed c fh own 6) refl (inl (omega arith))

  -- behind the lines' and the complements' homes
  read_behind : (k : ℕ) → slice_index_or (with_wires c fh own) (bundle c + (2 * c.lines + k)) 0
      ≡ slice_index_or (range_with_len fh.outputs c.outputs ++ fh.master ∷ fh.inverse ∷ fh.stored ∷ []) k 0
  read_behind k =
      let e : 2 * c.lines + k ≡ c.lines + (c.lines + k) = omega arith in
      read_own c fh own (2 * c.lines + k)
      ∙ rw e (behind_range fh.lines c.lines _ (c.lines + k) ∙ behind_range fh.complements c.lines _ k)

  pub frame_line : (i : ℕ) → i < c.lines → IsDriver (part_net (length tree.nodes) (bundle c + i)) (5 + i)
  frame_line i lt =
      frame_net (bundle c + i) (5 + i) (omega (arith, lt)) (λ e. omega (arith, e)) (read_own c fh own i ∙ in_range fh.lines c.lines _ i lt)
      (line_at c i (omega (arith, lt))) (inl (omega (arith, lt)))

  pub frame_complement : (i : ℕ) → i < c.lines → IsDriver (part_net (length tree.nodes) (bundle c + (c.lines + i))) (5 + (c.lines + i))
  frame_complement i lt =
      let e : fh.complements + i ≡ 5 + (c.lines + i) = omega arith in
      frame_net (bundle c + (c.lines + i)) (5 + (c.lines + i)) (omega (arith, lt)) (λ e. omega (arith, e))
      (read_own c fh own (c.lines + i) ∙ behind_range fh.lines c.lines _ i ∙ in_range fh.complements c.lines _ i lt ∙ e)
      (line_at c (c.lines + i) (omega (arith, lt))) (inl (omega (arith, lt)))

  -- the net of the frame with this number behind lines and complements
  behind : (k h : ℕ) → k < c.outputs + 3
      → slice_index_or (range_with_len fh.outputs c.outputs ++ fh.master ∷ fh.inverse ∷ fh.stored ∷ []) k 0 ≡ h
      → frame_at c h ≡ bundle c + (2 * c.lines + k) → InFrame c h → IsDriver (part_net (length tree.nodes) (bundle c + (2 * c.lines + k))) h
  behind k h lt reads at within =
      frame_net (bundle c + (2 * c.lines + k)) h (omega (arith, lt)) (λ e. omega (arith, e)) (read_behind k ∙ reads) at within

  pub frame_output : (y : ℕ) → y < c.outputs → IsDriver (part_net (length tree.nodes) (bundle c + (2 * c.lines + y))) (output_net c + y)
  frame_output y lt =
      let e : bundle c + 2 * c.lines + y ≡ bundle c + (2 * c.lines + y) = omega arith in
      behind y (output_net c + y) (omega (arith, lt)) (in_range fh.outputs c.outputs _ y lt) (output_at c y ∙ e) (inr (omega arith, omega (arith, lt)))

  -- of the start register
  pub frame_register : (k h : ℕ) → k < 2 → output_net c + (c.outputs + k) ≡ h → slice_index_or (fh.master ∷ fh.inverse ∷ fh.stored ∷ []) k 0 ≡ h
      → IsDriver (part_net (length tree.nodes) (bundle c + (2 * c.lines + (c.outputs + k)))) h
  frame_register k h lt is reads =
      let e : bundle c + 2 * c.lines + (c.outputs + k) ≡ bundle c + (2 * c.lines + (c.outputs + k)) = omega arith in
      behind (c.outputs + k) h (omega (arith, lt)) (behind_range fh.outputs c.outputs _ k ∙ reads) (rw (← is) (output_at c (c.outputs + k) ∙ e))
      (inr (omega (arith, is), omega (arith, is, lt)))

  pub frame_stored : IsDriver (part_net (length tree.nodes) (bundle c + (2 * c.lines + (c.outputs + 2)))) (start_net c)
  frame_stored =
      let e : bundle c + 2 * c.lines + c.outputs + 2 ≡ bundle c + (2 * c.lines + (c.outputs + 2)) = omega arith in
      behind (c.outputs + 2) (start_net c) (omega arith) (behind_range fh.outputs c.outputs _ 2) (stored_at c ∙ e) (inl (omega arith))
