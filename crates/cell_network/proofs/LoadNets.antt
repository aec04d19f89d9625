-- The loads of all parts: different nets of the whole, which are the outputs of its gates.
use Rattle.std.specs.Prelude.{flat_map}
use Rattle.std.proofs.Common.{◌≡◌, ◌≢◌, ◌⊎◌, inl, inr, ℕ, zero, suc, ◌+◌, ◌*◌, ◌<◌, ◌≤◌, ◌==◌, ◌||◌, Bool, true, false, List, [], ◌∷◌, ◌++◌, map, length, filter, IsPermutation, refl, ap, sym, ◌∙◌, arith, eq-eqb}
use Rattle.std.specs.List.{AllByRecursion, list_any, range_with_len}
use Rattle.std.proofs.lemmas.Bool.{ne_eqb, cases_eq, or_left, or_right}
use Rattle.std.proofs.lemmas.List.{map-append}
use Rattle.std.proofs.lemmas.List.Folds.{list_any-append}
use Rattle.rx_lang.specs.Tables.{Tables, IsSpecification}
use Rattle.star_normal.specs.declared.node.NodeKind.{NodeKind}
use Rattle.star_normal.specs.declared.node.NodeKind.TheVariants.{Leaf, Seq, Alt}
use Rattle.star_normal.specs.Tables.{TreeTable, IsTree, flags_of}
use Rattle.nor_net.specs.Netlist.{NorGate}
use Rattle.nor_net.specs.Evaluation.{is_output}
use Rattle.nor_net.specs.Assembly.{PartNet as NetOfPart, part_net}
use Rattle.cell_network.specs.declared.numbering.Counts.{Counts}
use Rattle.cell_network.specs.declared.numbering.Numbering.{Numbering}
use Rattle.cell_network.specs.declared.part_net.PartNet.{PartNet}
use Rattle.cell_network.specs.declared.part_net.PartNet.TheVariants.{Shared, Begins, LeftOut, RightOut}
use Rattle.cell_network.specs.Cells.{eps_at}
use Rattle.cell_network.specs.Shapes.{NamedGate, number, numbered, right_inputs, end_inputs, pair_gates, kind_gates, mark_of, mark_gate, mark_gates, frame_gates}
use Rattle.cell_network.specs.Parts.{counts_of, node_at, bundle, frame_numbers}
use Rattle.cell_network.specs.Home.{shared_net, whole_nets, in_net, home_of_kind, home, frame_home}
use Rattle.cell_network.specs.Whole.{load_gate, cell_gates, whole_gates}
use Rattle.cell_network.proofs.Ranges.{Pairs, each_append, each_map, each_range, each_piece, each_weaker, each_across, pairs_append, pairs_map, pairs_pieces}
use Rattle.cell_network.proofs.FrameParts.{each_gate, loads_differ}
use Rattle.cell_network.proofs.Outs.{kind_apart}
use Rattle.cell_network.proofs.Permuted.{picked_out}
use Rattle.cell_network.proofs.RenamedParts.{GateAgrees}
use Rattle.cell_network.proofs.GateHomes.{at_part, frame_agrees, frame_shared_agrees}
use Rattle.cell_network.proofs.Drivers as drivers
use Rattle.cell_network.proofs.NodeDrivers as nodes

-- ---- lists

-- the number stands in the list
abbrev IsIn : List ℕ → ℕ → Type 0
IsIn xs z = list_any (λ x. x == z) xs ≡ true

in_left : (xs ys : List ℕ) (z : ℕ) → IsIn xs z → IsIn (xs ++ ys) z
in_left xs ys z h = list_any-append (λ x. x == z) xs ys ∙ or_left _ _ h

in_right : (xs ys : List ℕ) (z : ℕ) → IsIn ys z → IsIn (xs ++ ys) z
in_right xs ys z h = list_any-append (λ x. x == z) xs ys ∙ or_right _ _ h

each_itself : (xs : List ℕ) → AllByRecursion (IsIn xs) xs
each_itself [] = tt
each_itself (x ∷ xs) = (
  or_left (x == x) (list_any (λ y. y == x) xs) (eq-eqb x x refl),
  each_weaker (IsIn xs) (IsIn (x ∷ xs)) (λ z h. or_right (x == z) (list_any (λ y. y == z) xs) h) xs (each_itself xs),
)

in_piece : (f : ℕ → List ℕ) (a m v z : ℕ) → a ≤ v → v < a + m → IsIn (f v) z → IsIn (flat_map f (range_with_len a m)) z
in_piece f a zero v z l lt h = absurd (omega (arith, l, lt))
in_piece f a (suc m) v z l lt h = elim (cases_eq a v) [
  | inl e ↦ in_left (f a) (flat_map f (range_with_len (a + 1) m)) z (rw e h)
  | inr ne ↦ in_right (f a) (flat_map f (range_with_len (a + 1) m)) z (in_piece f (a + 1) m v z (omega (arith, l, ne)) (omega (arith, lt)) h)
]

in_range : (f : ℕ → ℕ) (a m v : ℕ) → a ≤ v → v < a + m → IsIn (map f (range_with_len a m)) (f v)
in_range f a zero v l lt = absurd (omega (arith, l, lt))
in_range f a (suc m) v l lt = elim (cases_eq a v) [
  | inl e ↦ or_left (f a == f v) (list_any (λ x. x == f v) (map f (range_with_len (a + 1) m))) (eq-eqb (f a) (f v) (ap f e))
  | inr ne ↦ or_right (f a == f v) (list_any (λ x. x == f v) (map f (range_with_len (a + 1) m))) (in_range f (a + 1) m v (omega (arith, l, ne)) (omega (arith, lt)))
]

-- where each element has the property, an element that is found has it
holds_found : (Q : ℕ → Type 0) (xs : List ℕ) (z : ℕ) → AllByRecursion Q xs → IsIn xs z → Q z
holds_found Q [] z h e = absurd (cc)
holds_found Q (x ∷ xs) z h e = elim (cases_eq x z) [
  | inl f ↦ rw (← f) h.0
  | inr ne ↦ holds_found Q xs z h.1 (rw (ne_eqb x z ne) at e)
]

outs_as_list : (gates : List NorGate) (z : ℕ) → is_output gates z ≡ list_any (λ x. x == z) (map (λ (g : NorGate). g.out) gates)
outs_as_list [] z = refl
outs_as_list (g ∷ gates) z = ap (λ (b : Bool). (g.out == z) || b) (outs_as_list gates z)

both_ways : (p q : Bool) → (p ≡ true → q ≡ true) → (q ≡ true → p ≡ true) → p ≡ q
both_ways true q f g = sym (f refl)
both_ways false true f g = g refl
both_ways false false f g = refl

-- pairs that hold of the elements by a property of each
pairs_by : {X : Type 0} (R S : X → X → Type 0) (D : X → Type 0) → ((a b : X) → D a → D b → R a b → S a b) → (xs : List X) → AllByRecursion D xs → Pairs R xs
    → Pairs S xs
pairs_by R S D f [] h k = tt
pairs_by R S D f (x ∷ xs) h k = (each_both xs h.1 k.0, pairs_by R S D f xs h.1 k.1)
  where
    each_both : (ys : List _) → AllByRecursion D ys → AllByRecursion (R x) ys → AllByRecursion (S x) ys
    each_both [] p q = tt
    each_both (y ∷ ys) p q = (f x y h.0 p.0 q.0, each_both ys p.1 q.1)

pub output_in : (xs ys : List NorGate) (z : ℕ) → (is_output xs z ≡ true) ⊎ (is_output ys z ≡ true) → is_output (xs ++ ys) z ≡ true
output_in xs ys z (inl h) = list_any-append (λ (g : NorGate). g.out == z) xs ys ∙ or_left _ _ h
output_in xs ys z (inr h) = list_any-append (λ (g : NorGate). g.out == z) xs ys ∙ or_right _ _ h

pub outs_driven : (m : Numbering) (gates : List NamedGate) → AllByRecursion (λ z. is_output (map (numbered m) gates) z ≡ true) (map (λ g. number m g.out) gates)
outs_driven m [] = tt
outs_driven m (g ∷ gates) = (
  or_left (number m g.out == number m g.out) (is_output (map (numbered m) gates) (number m g.out)) (eq-eqb (number m g.out) (number m g.out) refl),
  each_weaker (λ z. is_output (map (numbered m) gates) z ≡ true) (λ z. is_output (map (numbered m) (g ∷ gates)) z ≡ true)
      (λ z h. or_right (number m g.out == z) (is_output (map (numbered m) gates) z) h) (map (λ x. number m x.out) gates) (outs_driven m gates),
)

module _ (tree : TreeTable) (tables : Tables) (spec : IsSpecification tables) where
  abbrev c : Counts
  c = counts_of tree tables

  abbrev n : ℕ
  n = length tree.nodes

  abbrev fh : Numbering
  fh = frame_home c tree.root

  abbrev of_node : ℕ → Numbering
  of_node v = home c tree.nodes v (node_at tree.nodes v)

  abbrev kinds : ℕ → List NamedGate
  kinds v = kind_gates tree.nodes (node_at tree.nodes v) (node_at tree.nodes v).kind

  abbrev marks : ℕ → List NamedGate
  marks v = mark_gates c.outputs (node_at tree.nodes v)

  -- the loads of a node's part and of the frame's, in the whole
  abbrev pub cell_loads : ℕ → List ℕ
  cell_loads v = map (λ g. number (of_node v) g.out) (kinds v)

  abbrev frame_outs : List ℕ
  frame_outs = map (λ g. number fh g.out) (frame_gates tables)

  abbrev shared_outs : List ℕ
  shared_outs = map (λ y. number fh (Shared y)) (range_with_len 0 c.outputs)

  abbrev pub frame_loads : List ℕ
  frame_loads = frame_outs ++ shared_outs

  abbrev pub all_loads : List ℕ
  all_loads = flat_map cell_loads (range_with_len 0 n) ++ frame_loads

  abbrev all_gates : List NorGate
  all_gates = whole_gates c tree tables

  -- ---- the outputs are the loads

  abbrev Loaded : ℕ → Type 0
  Loaded z = IsIn all_loads z

  frame_loaded : AllByRecursion (λ (g : NorGate). Loaded g.out) (map (numbered fh) (frame_gates tables))
  frame_loaded =
      each_map (λ (g : NorGate). Loaded g.out) (numbered fh) (frame_gates tables)
      (spread (frame_gates tables)
      (each_weaker (IsIn frame_outs) Loaded
      (λ z h. in_right (flat_map cell_loads (range_with_len 0 n)) frame_loads z (in_left frame_outs shared_outs z h)) frame_outs (each_itself frame_outs)))
    where
      spread : (gates : List NamedGate) → AllByRecursion Loaded (map (λ g. number fh g.out) gates) → AllByRecursion (λ (g : NamedGate). Loaded (number fh g.out)) gates
      spread [] h = tt
      spread (g ∷ gates) h = (h.0, spread gates h.1)

  shared_loaded : (y : ℕ) → y < c.outputs → Loaded (shared_net c + y)
  shared_loaded y lt =
      in_right (flat_map cell_loads (range_with_len 0 n)) frame_loads (shared_net c + y)
      (in_right frame_outs shared_outs (shared_net c + y) (in_range (λ k. number fh (Shared k)) 0 c.outputs y (omega arith) (omega (arith, lt))))

  cell_loaded : (v : ℕ) → v < n → AllByRecursion (λ (g : NorGate). Loaded g.out) (cell_gates c tree.nodes v)
  cell_loaded v lt =
      each_map (λ (g : NorGate). Loaded g.out) (numbered (of_node v)) (kinds v ++ marks v)
      (each_append (λ (g : NamedGate). Loaded (number (of_node v) g.out)) (kinds v) (marks v)
      (spread (kinds v)
      (each_weaker (IsIn (cell_loads v)) Loaded
      (λ z h. in_left (flat_map cell_loads (range_with_len 0 n)) frame_loads z (in_piece cell_loads 0 n v z (omega arith) (omega (arith, lt)) h)) (cell_loads v)
      (each_itself (cell_loads v))))
      (each_piece (λ (g : NamedGate). Loaded (number (of_node v) g.out)) (mark_gate (node_at tree.nodes v)) 0 c.outputs
      (λ y l yl. one y (omega (arith, yl)) ((flags_of (node_at tree.nodes v)).marks y) ((flags_of (node_at tree.nodes v)).eps_marks y))))
    where
      spread : (gates : List NamedGate) → AllByRecursion Loaded (map (λ g. number (of_node v) g.out) gates)
          → AllByRecursion (λ (g : NamedGate). Loaded (number (of_node v) g.out)) gates
      spread [] h = tt
      spread (g ∷ gates) h = (h.0, spread gates h.1)

      shared : (y : ℕ) → y < c.outputs → Loaded ((of_node v).shared + y)
      shared y yl = rw ((nodes.wires tree tables v).shared) (shared_loaded y yl)

      one : (y : ℕ) → y < c.outputs → (p q : Bool) → AllByRecursion (λ (g : NamedGate). Loaded (number (of_node v) g.out)) (mark_of y p q)
      one y yl true true = (shared y yl, tt)
      one y yl true false = (shared y yl, tt)
      one y yl false true = (shared y yl, tt)
      one y yl false false = tt

  gates_loaded : AllByRecursion (λ (g : NorGate). Loaded g.out) all_gates
  gates_loaded =
      each_append (λ (g : NorGate). Loaded g.out) _ (flat_map (cell_gates c tree.nodes) (range_with_len 0 n))
      (each_append (λ (g : NorGate). Loaded g.out) (map (numbered fh) (frame_gates tables)) (map (load_gate c) (range_with_len 0 c.outputs)) frame_loaded
      (each_range (λ (g : NorGate). Loaded g.out) (load_gate c) 0 c.outputs (λ y l lt. shared_loaded y (omega (arith, lt)))))
      (each_piece (λ (g : NorGate). Loaded g.out) (cell_gates c tree.nodes) 0 n (λ v l lt. cell_loaded v (omega (arith, lt))))

  -- a gate of the whole drives the net
  abbrev Driven : ℕ → Type 0
  Driven z = is_output all_gates z ≡ true

  loads_driven : (a k : ℕ) → AllByRecursion (λ z. is_output (map (load_gate c) (range_with_len a k)) z ≡ true) (map (λ y. number fh (Shared y)) (range_with_len a k))
  loads_driven a zero = tt
  loads_driven a (suc k) = (
    or_left (shared_net c + a == shared_net c + a) (is_output (map (load_gate c) (range_with_len (a + 1) k)) (shared_net c + a)) (eq-eqb (shared_net c + a) (shared_net c + a) refl),
    each_weaker (λ z. is_output (map (load_gate c) (range_with_len (a + 1) k)) z ≡ true) (λ z. is_output (map (load_gate c) (range_with_len a (suc k))) z ≡ true)
        (λ z h. or_right (shared_net c + a == z) (is_output (map (load_gate c) (range_with_len (a + 1) k)) z) h) _ (loads_driven (a + 1) k),
  )

  piece_driven : (a m v z : ℕ) → a ≤ v → v < a + m → is_output (cell_gates c tree.nodes v) z ≡ true
      → is_output (flat_map (cell_gates c tree.nodes) (range_with_len a m)) z ≡ true
  piece_driven a zero v z l lt h = absurd (omega (arith, l, lt))
  piece_driven a (suc m) v z l lt h = elim (cases_eq a v) [
    | inl e ↦ output_in (cell_gates c tree.nodes a) (flat_map (cell_gates c tree.nodes) (range_with_len (a + 1) m)) z (inl (rw e h))
    | inr ne ↦
        output_in (cell_gates c tree.nodes a) (flat_map (cell_gates c tree.nodes) (range_with_len (a + 1) m)) z
        (inr (piece_driven (a + 1) m v z (omega (arith, l, ne)) (omega (arith, lt)) h))
  ]

  all_driven : AllByRecursion Driven all_loads
  all_driven =
      each_append Driven (flat_map cell_loads (range_with_len 0 n)) frame_loads
      (each_piece Driven cell_loads 0 n
      (λ v l lt.
      each_weaker (λ z. is_output (map (numbered (of_node v)) (kinds v)) z ≡ true) Driven
      (λ z h.
      output_in _ (flat_map (cell_gates c tree.nodes) (range_with_len 0 n)) z
      (inr (piece_driven 0 n v z (omega arith) (omega (arith, lt))
      (rw (map-append (numbered (of_node v)) (kinds v) (marks v)) (output_in (map (numbered (of_node v)) (kinds v)) (map (numbered (of_node v)) (marks v)) z (inl h))))))
      (cell_loads v) (outs_driven (of_node v) (kinds v))))
      (each_append Driven frame_outs shared_outs
      (each_weaker (λ z. is_output (map (numbered fh) (frame_gates tables)) z ≡ true) Driven
      (λ z h.
      output_in _ (flat_map (cell_gates c tree.nodes) (range_with_len 0 n)) z
      (inl (output_in (map (numbered fh) (frame_gates tables)) (map (load_gate c) (range_with_len 0 c.outputs)) z (inl h)))) frame_outs (outs_driven fh (frame_gates tables)))
      (each_weaker (λ z. is_output (map (load_gate c) (range_with_len 0 c.outputs)) z ≡ true) Driven
      (λ z h.
      output_in _ (flat_map (cell_gates c tree.nodes) (range_with_len 0 n)) z
      (inl (output_in (map (numbered fh) (frame_gates tables)) (map (load_gate c) (range_with_len 0 c.outputs)) z (inr h)))) shared_outs (loads_driven 0 c.outputs)))

  found_out : (gates : List NorGate) (z : ℕ) → AllByRecursion (λ (g : NorGate). Loaded g.out) gates → is_output gates z ≡ true → Loaded z
  found_out [] z h e = absurd (cc)
  found_out (g ∷ gates) z h e = elim (cases_eq g.out z) [
    | inl f ↦ rw f at h.0
    | inr ne ↦ found_out gates z h.1 (rw (ne_eqb g.out z ne) at e)
  ]

  tells : (z : ℕ) → is_output all_gates z ≡ list_any (λ x. x == z) all_loads
  tells z = both_ways (is_output all_gates z) (list_any (λ x. x == z) all_loads) (found_out all_gates z gates_loaded) (holds_found Driven all_loads z all_driven)

  -- ---- they differ

  -- a net of this part stands for this net of the whole
  pub record OwnedBy (v z : ℕ) : Type 0 where
    pub net : ℕ
    pub is : drivers.IsDriver tree tables (part_net v net) z

  owners_differ : (v w x y : ℕ) → (v ≡ w → ⊥) → OwnedBy v x → OwnedBy w y → x ≢ y
  owners_differ v w x y ne a b e =
      let same : part_net v a.net ≡ part_net w b.net =
      drivers.classes_agree tree tables (part_net v a.net) (part_net w b.net) x a.is.class (rw (← e) at b.is.class) in
      ne (ap (λ (p : NetOfPart). p.which) same)

  kinds_owned : (t : IsTree tree) (v : ℕ) → v < n → AllByRecursion (OwnedBy v) (cell_loads v)
  kinds_owned t v lt = by (node_at tree.nodes v).kind refl
    where
      pair : (l r : ℕ) (right ends : List PartNet) → ((node_at tree.nodes v).kind ≡ Seq l r) ⊎ ((node_at tree.nodes v).kind ≡ Alt l r)
          → AllByRecursion (OwnedBy v) (map (λ (g : NamedGate). number (home_of_kind c v (in_net c tree.nodes v) (Seq l r)) g.out) (pair_gates (node_at tree.nodes v) right ends))
      pair l r right ends kind = (
        record { net = _; is = nodes.pair_not_out tree tables v l r lt kind },
        (
          record { net = _; is = nodes.node_out tree tables v lt },
          (
            record { net = _; is = nodes.pair_not_begins tree tables v l r lt kind },
            (
              record { net = _; is = nodes.pair_begins tree tables v l r lt kind },
              (record { net = _; is = nodes.pair_not_right tree tables v l r lt kind }, (record { net = _; is = nodes.pair_right_in tree tables v l r lt kind }, tt)),
            ),
          ),
        ),
      )

      by : (kind : NodeKind) → (node_at tree.nodes v).kind ≡ kind
          → AllByRecursion (OwnedBy v) (map (λ (g : NamedGate). number (of_node v) g.out) (kind_gates tree.nodes (node_at tree.nodes v) (node_at tree.nodes v).kind))
      by (Leaf s) e =
          rw e (
            record { net = _; is = nodes.node_out tree tables v lt },
            (
              record { net = _; is = nodes.leaf_not_begins tree tables v s lt e },
              (
                record { net = _; is = nodes.leaf_begins tree tables v s lt e },
                (
                  record { net = _; is = nodes.leaf_not_symbol tree tables v s lt e },
                  (record { net = _; is = nodes.leaf_source tree tables v s lt e }, (record { net = _; is = nodes.leaf_inverse tree tables v s lt e }, tt)),
                ),
              ),
            ),
          )
      by (Seq l r) e = rw e (pair l r (right_inputs (eps_at tree.nodes l)) (end_inputs (eps_at tree.nodes r)) (inl e))
      by (Alt l r) e = rw e (pair l r (Begins ∷ []) (RightOut ∷ LeftOut ∷ []) (inr e))

  -- a net of the frame's part stands for its net of the whole
  abbrev OwnsIt : ℕ → Type 0
  OwnsIt net = drivers.IsDriver tree tables (part_net n net) (at_part tree tables n net)

  owns_it : (net x : ℕ) → drivers.IsDriver tree tables (part_net n net) x → OwnsIt net
  owns_it net x d = rw (d.home) d

  abbrev part_outs : List ℕ
  part_outs = map (λ g. number (frame_numbers c) g.out) (frame_gates tables)

  abbrev part_shared : List ℕ
  part_shared = map (λ y. number (frame_numbers c) (Shared y)) (range_with_len 0 c.outputs)

  frame_owns : AllByRecursion OwnsIt (part_outs ++ part_shared)
  frame_owns =
      each_append OwnsIt part_outs part_shared
      (each_map OwnsIt (λ g. number (frame_numbers c) g.out) (frame_gates tables)
      (each_gate c tables refl refl refl spec.place_per_line (λ (g : NamedGate). OwnsIt (number (frame_numbers c) g.out))
      (λ i lt. let e : bundle c + (c.lines + i) ≡ bundle c + c.lines + i = omega arith in owns_it _ _ (rw e at (drivers.frame_complement tree tables i lt)))
      (λ s lt. let e : s ≡ 0 + s = omega arith in owns_it _ _ (rw e at (drivers.frame_symbol tree tables s lt)))
      (owns_it _ _ (drivers.frame_inn tree tables))
      (λ y lt. let e : bundle c + (2 * c.lines + y) ≡ bundle c + 2 * c.lines + y = omega arith in owns_it _ _ (rw e at (drivers.frame_output tree tables y lt)))
      (let e : bundle c + (2 * c.lines + (c.outputs + 1)) ≡ bundle c + 2 * c.lines + c.outputs + 1 = omega arith in
      owns_it _ _ (rw e at (drivers.frame_register tree tables 1 fh.inverse (omega arith) (omega arith) refl)))))
      (each_range OwnsIt (λ y. number (frame_numbers c) (Shared y)) 0 c.outputs (λ y l lt. owns_it _ _ (drivers.frame_shared tree tables y (omega (arith, lt)))))

  -- the frame's loads are the nets of the whole that its part's loads are
  frame_loads_are : map (at_part tree tables n) (part_outs ++ part_shared) ≡ frame_loads
  frame_loads_are = map-append (at_part tree tables n) part_outs part_shared ∙ rw (outs (frame_gates tables) (frame_agrees tree tables spec), shared 0 c.outputs (omega arith)) refl
    where
      outs : (gates : List NamedGate) → AllByRecursion (GateAgrees (at_part tree tables n) (frame_numbers c) fh) gates
          → map (at_part tree tables n) (map (λ g. number (frame_numbers c) g.out) gates) ≡ map (λ g. number fh g.out) gates
      outs [] h = refl
      outs (g ∷ gates) h = rw (h.0.out, outs gates h.1) refl

      shared : (a k : ℕ) → a + k ≤ c.outputs
          → map (at_part tree tables n) (map (λ y. number (frame_numbers c) (Shared y)) (range_with_len a k)) ≡ map (λ y. number fh (Shared y)) (range_with_len a k)
      shared a zero le = refl
      shared a (suc k) le = rw (frame_shared_agrees tree tables a (omega (arith, le)), shared (a + 1) k (omega (arith, le))) refl

  frame_owned : AllByRecursion (OwnedBy n) frame_loads
  frame_owned =
      rw (← frame_loads_are)
      (each_map (OwnedBy n) (at_part tree tables n) (part_outs ++ part_shared)
      (each_weaker OwnsIt (λ net. OwnedBy n (at_part tree tables n net)) (λ net d. record { net = net; is = d }) (part_outs ++ part_shared) frame_owns))

  abbrev Differ : ℕ → ℕ → Type 0
  Differ a b = a ≢ b

  frame_differ : Pairs Differ frame_loads
  frame_differ =
      rw (← frame_loads_are)
      (pairs_map Differ (at_part tree tables n) (part_outs ++ part_shared)
      (pairs_by Differ (λ a b. at_part tree tables n a ≢ at_part tree tables n b) OwnsIt apart (part_outs ++ part_shared) frame_owns
      (loads_differ c tables refl refl refl spec.place_per_line)))
    where
      apart : (a b : ℕ) → OwnsIt a → OwnsIt b → a ≢ b → at_part tree tables n a ≢ at_part tree tables n b
      apart a b p q ne e =
          let same : part_net n a ≡ part_net n b =
          drivers.classes_agree tree tables (part_net n a) (part_net n b) (at_part tree tables n a) p.class (rw (← e) at q.class) in
          ne (ap (λ (d : NetOfPart). d.net) same)

  -- a node's part has the net of the whole
  record OfNode (z : ℕ) : Type 0 where
    v : ℕ
    within : v < n
    owned : OwnedBy v z

  module _ (t : IsTree tree) where
    cells_owned : AllByRecursion OfNode (flat_map cell_loads (range_with_len 0 n))
    cells_owned =
        each_piece OfNode cell_loads 0 n
        (λ v l lt. each_weaker (OwnedBy v) OfNode (λ z h. record { v = v; within = omega (arith, lt); owned = h }) (cell_loads v) (kinds_owned t v (omega (arith, lt))))

    differ : Pairs Differ all_loads
    differ =
        pairs_append Differ (flat_map cell_loads (range_with_len 0 n)) frame_loads
        (pairs_pieces Differ cell_loads 0 n
        (λ v l lt.
        pairs_map Differ (λ g. number (of_node v) g.out) (kinds v)
        (kind_apart c tree.nodes (node_at tree.nodes v) v (in_net c tree.nodes v) (node_at tree.nodes v).kind (omega (arith, lt))))
        (λ i j l lt jl.
        each_across (OwnedBy i) (OwnedBy j) Differ (λ a b p q. owners_differ i j a b (λ e. omega (arith, e, lt)) p q) (cell_loads i) (cell_loads j)
        (kinds_owned t i (omega (arith, lt, jl))) (kinds_owned t j (omega (arith, jl)))))
        frame_differ
        (each_across OfNode (OwnedBy n) Differ (λ a b p q. let within = p.within in owners_differ p.v n a b (λ e. omega (arith, e, within)) p.owned q)
        (flat_map cell_loads (range_with_len 0 n)) frame_loads cells_owned frame_owned)

    below : AllByRecursion (λ x. x < whole_nets c) all_loads
    below =
        each_append (λ x. x < whole_nets c) (flat_map cell_loads (range_with_len 0 n)) frame_loads
        (each_weaker OfNode (λ x. x < whole_nets c) (λ z h. drivers.class_below tree tables _ z h.owned.is.class) _ cells_owned)
        (each_weaker (OwnedBy n) (λ x. x < whole_nets c) (λ z h. drivers.class_below tree tables _ z h.is.class) _ frame_owned)

    -- the outputs of the whole are the loads of all parts
    pub outputs_are_loads : IsPermutation (filter (is_output all_gates) (range_with_len 0 (whole_nets c))) all_loads
    outputs_are_loads = picked_out (is_output all_gates) (whole_nets c) all_loads tells below differ
