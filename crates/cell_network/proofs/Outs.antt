-- Which nets the gates of each part drive.
use Rattle.std.proofs.Common.{◌≡◌, ◌≢◌, ◌⊎◌, inl, inr, ℕ, ◌+◌, ◌*◌, ◌<◌, ◌≤◌, Bool, true, false, List, [], ◌∷◌, map, length, arith}
use Rattle.std.specs.List.{AllByRecursion, range_with_len}
use Rattle.rx_lang.specs.Tables.{Tables}
use Rattle.star_normal.specs.declared.node.Node.{Node}
use Rattle.star_normal.specs.declared.node.NodeKind.{NodeKind}
use Rattle.star_normal.specs.declared.node.NodeKind.TheVariants.{Leaf, Seq, Alt}
use Rattle.star_normal.specs.Tables.{flags_of}
use Rattle.nor_net.specs.Netlist.{NorGate}
use Rattle.cell_network.specs.declared.numbering.Counts.{Counts}
use Rattle.cell_network.specs.declared.numbering.Numbering.{Numbering}
use Rattle.cell_network.specs.declared.part_net.PartNet.{PartNet}
use Rattle.cell_network.specs.declared.part_net.PartNet.TheVariants.{In, Begins, Inverse, Master, Stored, LeftOut, RightOut}
use Rattle.cell_network.specs.Cells.{eps_at}
use Rattle.cell_network.specs.Shapes.{NamedGate, number, gate, right_inputs, end_inputs, pair_gates, kind_gates, mark_of, mark_gate, mark_gates, complement_gate, symbol_gate, output_gate, frame_gates}
use Rattle.cell_network.specs.Home.{complement_net, start_net, end_net, begin_net, shared_net, output_net, master_net, home_numbers, home_of_kind, frame_home}
use Rattle.cell_network.specs.Whole.{load_gate}
use Rattle.cell_network.proofs.Ranges.{Pairs, each_append, each_range, each_piece}

module _ (c : Counts) where
  -- a net of this node's own, which a gate of its part drives
  abbrev pub IsOwn : ℕ → ℕ → Type 0
  IsOwn v k =
      ((end_net c v ≤ k) × (k < end_net c v + 2))
      ⊎ (((begin_net c v ≤ k) × (k < begin_net c v + 4)) ⊎ (k ≡ master_net c + 3 + 2 * v))

  -- the shared wire of an output
  abbrev pub IsShared : ℕ → Type 0
  IsShared k = (shared_net c ≤ k) × (k < output_net c)

  -- a net that a gate of the frame's part drives
  abbrev pub IsFrame : ℕ → Type 0
  IsFrame k =
      ((complement_net c ≤ k) × (k < start_net c))
      ⊎ ((k ≡ start_net c + 1) ⊎ (((output_net c ≤ k) × (k < output_net c + c.outputs)) ⊎ (k ≡ master_net c + 1)))

  -- ---- what they drive

  module _ (v inn l r : ℕ) where
    pair_outs : (node : Node) (right ends : List PartNet) → AllByRecursion (λ g. IsOwn v (number (home_numbers c v inn l r) g.out)) (pair_gates node right ends)
    pair_outs node right ends = (
      inl (omega arith, omega arith),
      (
        inl (omega arith, omega arith),
        (
          inr (inl (omega arith, omega arith)),
          (inr (inl (omega arith, omega arith)), (inr (inl (omega arith, omega arith)), (inr (inl (omega arith, omega arith)), tt))),
        ),
      ),
    )

    pair_apart : (node : Node) (right ends : List PartNet) → v < c.nodes
        → Pairs (λ (a b : NamedGate). number (home_numbers c v inn l r) a.out ≢ number (home_numbers c v inn l r) b.out) (pair_gates node right ends)
    pair_apart node right ends lt = (
      (λ e. omega (arith, e), (λ e. omega (arith, e), (λ e. omega (arith, e), (λ e. omega (arith, e), (λ e. omega (arith, e), tt))))),
      (
        (λ e. omega (arith, e), (λ e. omega (arith, e), (λ e. omega (arith, e), (λ e. omega (arith, e), tt)))),
        (
          (λ e. omega (arith, e), (λ e. omega (arith, e), (λ e. omega (arith, e), tt))),
          ((λ e. omega (arith, e), (λ e. omega (arith, e), tt)), ((λ e. omega (arith, e), tt), (tt, tt))),
        ),
      ),
    )

  pub kind_outs : (nodes : List Node) (node : Node) (v inn : ℕ) (kind : NodeKind)
      → AllByRecursion (λ g. IsOwn v (number (home_of_kind c v inn kind) g.out)) (kind_gates nodes node kind)
  kind_outs nodes node v inn (Leaf s) = (
    inl (omega arith, omega arith),
    (
      inr (inl (omega arith, omega arith)),
      (
        inr (inl (omega arith, omega arith)),
        (inr (inl (omega arith, omega arith)), (inr (inl (omega arith, omega arith)), (inr (inr (omega arith)), tt))),
      ),
    ),
  )
  kind_outs nodes node v inn (Seq l r) = pair_outs v inn l r node (right_inputs (eps_at nodes l)) (end_inputs (eps_at nodes r))
  kind_outs nodes node v inn (Alt l r) = pair_outs v inn l r node (Begins ∷ []) (RightOut ∷ LeftOut ∷ [])

  -- no two of them drive one net
  pub kind_apart : (nodes : List Node) (node : Node) (v inn : ℕ) (kind : NodeKind) → v < c.nodes
      → Pairs (λ (a b : NamedGate). number (home_of_kind c v inn kind) a.out ≢ number (home_of_kind c v inn kind) b.out) (kind_gates nodes node kind)
  kind_apart nodes node v inn (Leaf s) lt = (
    (λ e. omega (arith, e), (λ e. omega (arith, e), (λ e. omega (arith, e), (λ e. omega (arith, e), (λ e. omega (arith, e), tt))))),
    (
      (λ e. omega (arith, e), (λ e. omega (arith, e), (λ e. omega (arith, e), (λ e. omega (arith, e), tt)))),
      (
        (λ e. omega (arith, e), (λ e. omega (arith, e), (λ e. omega (arith, e), tt))),
        ((λ e. omega (arith, e), (λ e. omega (arith, e), tt)), ((λ e. omega (arith, e), tt), (tt, tt))),
      ),
    ),
  )
  kind_apart nodes node v inn (Seq l r) lt = pair_apart v inn l r node (right_inputs (eps_at nodes l)) (end_inputs (eps_at nodes r)) lt
  kind_apart nodes node v inn (Alt l r) lt = pair_apart v inn l r node (Begins ∷ []) (RightOut ∷ LeftOut ∷ []) lt

  pub mark_outs : (n : Numbering) → n.shared ≡ shared_net c → (node : Node) → AllByRecursion (λ g. IsShared (number n g.out)) (mark_gates c.outputs node)
  mark_outs n e node =
      each_piece (λ g. IsShared (number n g.out)) (mark_gate node) 0 c.outputs
      (λ y l lt. one y (omega (arith, lt)) ((flags_of node).marks y) ((flags_of node).eps_marks y))
    where
      one : (y : ℕ) → y < c.outputs → (a b : Bool) → AllByRecursion (λ g. IsShared (number n g.out)) (mark_of y a b)
      one y lt true true = ((omega (arith, e), omega (arith, e)), tt)
      one y lt true false = ((omega (arith, e), omega (arith, e)), tt)
      one y lt false true = ((omega (arith, e), omega (arith, e)), tt)
      one y lt false false = tt

  pub frame_outs : (root : ℕ) (tables : Tables) → length tables.lines ≡ c.lines → length tables.symbols ≡ c.symbols → length tables.outputs ≡ c.outputs
      → AllByRecursion (λ g. IsFrame (number (frame_home c root) g.out)) (frame_gates tables)
  frame_outs root tables lines symbols outputs =
      let P : NamedGate → Type 0 = λ g. IsFrame (number (frame_home c root) g.out) in
      each_append P _ (gate Inverse (Master ∷ []) ∷ [])
      (each_append P _ (map output_gate (range_with_len 0 (length tables.outputs)))
      (each_append P _ (gate In (Stored ∷ []) ∷ [])
      (each_append P (map complement_gate (range_with_len 0 (length tables.lines))) (map (symbol_gate tables.symbols) (range_with_len 0 (length tables.symbols)))
      (each_range P complement_gate 0 (length tables.lines) (λ i l lt. inl (omega (arith, lt, lines), omega (arith, lt, lines))))
      (each_range P (symbol_gate tables.symbols) 0 (length tables.symbols) (λ s l lt. inl (omega (arith, lt, symbols), omega (arith, lt, symbols)))))
      (inr (inl (omega arith)), tt))
      (each_range P output_gate 0 (length tables.outputs) (λ y l lt. inr (inr (inl (omega (arith, lt, outputs), omega (arith, lt, outputs)))))))
      (inr (inr (inr (omega arith))), tt)

  pub load_outs : AllByRecursion (λ (g : NorGate). IsShared g.out) (map (load_gate c) (range_with_len 0 c.outputs))
  load_outs = each_range (λ (g : NorGate). IsShared g.out) (load_gate c) 0 c.outputs (λ y l lt. (omega arith, omega (arith, lt)))

  -- ---- none of them is another's

  pub own_frame : (v a b : ℕ) → v < c.nodes → IsOwn v a → IsFrame b → b ≢ a
  own_frame v a b lt (inl h) (inl k) e = omega (arith, e, h.0, h.1, k.0, k.1, lt)
  own_frame v a b lt (inl h) (inr (inl k)) e = omega (arith, e, h.0, h.1, k, lt)
  own_frame v a b lt (inl h) (inr (inr (inl k))) e = omega (arith, e, h.0, h.1, k.0, k.1, lt)
  own_frame v a b lt (inl h) (inr (inr (inr k))) e = omega (arith, e, h.0, h.1, k, lt)
  own_frame v a b lt (inr (inl h)) (inl k) e = omega (arith, e, h.0, h.1, k.0, k.1, lt)
  own_frame v a b lt (inr (inl h)) (inr (inl k)) e = omega (arith, e, h.0, h.1, k, lt)
  own_frame v a b lt (inr (inl h)) (inr (inr (inl k))) e = omega (arith, e, h.0, h.1, k.0, k.1, lt)
  own_frame v a b lt (inr (inl h)) (inr (inr (inr k))) e = omega (arith, e, h.0, h.1, k, lt)
  own_frame v a b lt (inr (inr h)) (inl k) e = omega (arith, e, h, k.0, k.1, lt)
  own_frame v a b lt (inr (inr h)) (inr (inl k)) e = omega (arith, e, h, k, lt)
  own_frame v a b lt (inr (inr h)) (inr (inr (inl k))) e = omega (arith, e, h, k.0, k.1, lt)
  own_frame v a b lt (inr (inr h)) (inr (inr (inr k))) e = omega (arith, e, h, k, lt)

  pub own_shared : (v a b : ℕ) → v < c.nodes → IsOwn v a → IsShared b → b ≢ a
  own_shared v a b lt (inl h) k e = omega (arith, e, h.0, h.1, k.0, k.1, lt)
  own_shared v a b lt (inr (inl h)) k e = omega (arith, e, h.0, h.1, k.0, k.1, lt)
  own_shared v a b lt (inr (inr h)) k e = omega (arith, e, h, k.0, k.1, lt)

  pub frame_shared : (a b : ℕ) → IsFrame a → IsShared b → b ≢ a
  frame_shared a b (inl h) k e = omega (arith, e, h.0, h.1, k.0, k.1)
  frame_shared a b (inr (inl h)) k e = omega (arith, e, h, k.0, k.1)
  frame_shared a b (inr (inr (inl h))) k e = omega (arith, e, h.0, h.1, k.0, k.1)
  frame_shared a b (inr (inr (inr h))) k e = omega (arith, e, h, k.0, k.1)

  pub own_own : (u v a b : ℕ) → u < c.nodes → v < c.nodes → (u ≡ v → ⊥) → IsOwn u a → IsOwn v b → a ≢ b
  own_own u v a b ul vl ne (inl h) (inl k) e = omega (arith, e, ne, h.0, h.1, k.0, k.1)
  own_own u v a b ul vl ne (inl h) (inr (inl k)) e = omega (arith, e, h.0, h.1, k.0, k.1, ul)
  own_own u v a b ul vl ne (inl h) (inr (inr k)) e = omega (arith, e, h.0, h.1, k, ul)
  own_own u v a b ul vl ne (inr (inl h)) (inl k) e = omega (arith, e, h.0, h.1, k.0, k.1, vl)
  own_own u v a b ul vl ne (inr (inl h)) (inr (inl k)) e = omega (arith, e, ne, h.0, h.1, k.0, k.1, ul, vl)
  own_own u v a b ul vl ne (inr (inl h)) (inr (inr k)) e = omega (arith, e, h.0, h.1, k, ul)
  own_own u v a b ul vl ne (inr (inr h)) (inl k) e = omega (arith, e, h, k.0, k.1, vl)
  own_own u v a b ul vl ne (inr (inr h)) (inr (inl k)) e = omega (arith, e, h, k.0, k.1, vl)
  own_own u v a b ul vl ne (inr (inr h)) (inr (inr k)) e = omega (arith, e, ne, h, k)
