-- The parts of nodes are parts: their gates, loads, transfers and ports fit.
use Rattle.std.specs.Prelude.{flat_map}
use Rattle.std.proofs.Common.{◌≡◌, ◌≢◌, ℕ, zero, suc, ◌+◌, ◌<◌, ◌≤◌, Bool, true, false, List, [], ◌∷◌, ◌++◌, length, refl, arith, length-append}
use Rattle.std.specs.List.{AllByRecursion, range_with_len}
use Rattle.std.proofs.lemmas.List.Elements.{All-from_recursion}
use Rattle.star_normal.specs.declared.node.Node.{Node}
use Rattle.star_normal.specs.declared.node.NodeKind.{NodeKind}
use Rattle.star_normal.specs.declared.node.NodeKind.TheVariants.{Leaf, Seq, Alt}
use Rattle.star_normal.specs.Tables.{flags_of}
use Rattle.nor_net.specs.Netlist.{NorGate}
use Rattle.nor_net.specs.Part.{IsPartGate}
use Rattle.cell_network.specs.declared.numbering.Counts.{Counts}
use Rattle.cell_network.specs.declared.numbering.Numbering.{Numbering}
use Rattle.cell_network.specs.declared.part_net.PartNet.{PartNet}
use Rattle.cell_network.specs.declared.part_net.PartNet.TheVariants.{NotBegins, Begins, LeftOut, RightOut, NotRight, NotOut}
use Rattle.cell_network.specs.Cells.{eps_at}
use Rattle.cell_network.specs.Shapes.{NamedGate, number, numbered, gate, leaf_gates, pair_gates, complement_inputs, begin_inputs, right_inputs, end_inputs, kind_gates, mark_of, mark_gate, mark_gates}
use Rattle.cell_network.specs.Parts.{NamesSymbol, inn_wire, bundle, leaf_numbers, pair_numbers, kind_numbers}
use Rattle.cell_network.proofs.Ranges.{Pairs, all_pairs, each_append, each_map, each_piece, pairs_map}

-- a gate fits among so many nets
pub record Fits (nets : ℕ) (g : NorGate) : Type 0 where
  pub out : g.out < nets
  pub inputs : AllByRecursion (λ i. i < nets) g.inputs
  pub distinct : Pairs (λ (a b : ℕ). a ≢ b) g.inputs

pub fits_part : (nets : ℕ) (g : NorGate) → Fits nets g → IsPartGate nets g
fits_part nets g h = record {
  out_below = h.out;
  inputs_below = All-from_recursion (λ i. i < nets) g.inputs h.inputs;
  distinct = all_pairs (λ (a b : ℕ). a ≢ b) g.inputs h.distinct;
}

pub fits_one : (nets out a : ℕ) → out < nets → a < nets → Fits nets (record { out = out; inputs = a ∷ [] })
fits_one nets out a ol al = record { out = ol; inputs = (al, tt); distinct = (tt, tt) }

fits_two : (nets out a b : ℕ) → out < nets → a < nets → b < nets → (a ≡ b → ⊥) → Fits nets (record { out = out; inputs = a ∷ b ∷ [] })
fits_two nets out a b ol al bl ne = record { out = ol; inputs = (al, (bl, tt)); distinct = ((ne, tt), (tt, tt)) }

module _ (c : Counts) where
  -- ---- marks

  pub marks_fit : (n : Numbering) (node : Node) → n.shared ≡ c.symbols → n.out < bundle c + 7 → n.begins < bundle c + 7 → (n.out ≡ n.begins → ⊥)
      → AllByRecursion (λ g. Fits (bundle c + 7) (numbered n g)) (mark_gates c.outputs node)
  marks_fit n node shared out begins ne =
      each_piece (λ g. Fits (bundle c + 7) (numbered n g)) (mark_gate node) 0 c.outputs
      (λ y l lt. one y (omega (arith, lt, shared)) ((flags_of node).marks y) ((flags_of node).eps_marks y))
    where
      one : (y : ℕ) → n.shared + y < bundle c + 7 → (a b : Bool) → AllByRecursion (λ g. Fits (bundle c + 7) (numbered n g)) (mark_of y a b)
      one y lt true true = (fits_two (bundle c + 7) (n.shared + y) n.out n.begins lt out begins ne, tt)
      one y lt true false = (fits_one (bundle c + 7) (n.shared + y) n.out lt out, tt)
      one y lt false true = (fits_one (bundle c + 7) (n.shared + y) n.begins lt begins, tt)
      one y lt false false = tt

  few_pieces : (f : ℕ → List NamedGate) → ((k : ℕ) → length (f k) ≤ 1) → (a n : ℕ) → length (flat_map f (range_with_len a n)) ≤ n
  few_pieces f one a zero = omega arith
  few_pieces f one a (suc n) = omega (arith, one a, few_pieces f one (a + 1) n, length-append (f a) (flat_map f (range_with_len (a + 1) n)))

  pub few_marks : (node : Node) → length (mark_gates c.outputs node) ≤ c.outputs
  few_marks node = few_pieces (mark_gate node) (λ y. one y ((flags_of node).marks y) ((flags_of node).eps_marks y)) 0 c.outputs
    where
      one : (y : ℕ) (a b : Bool) → length (mark_of y a b) ≤ 1
      one y true true = omega arith
      one y true false = omega arith
      one y false true = omega arith
      one y false false = omega arith

  -- ---- nodes

  leaf_fits : (node : Node) (s : ℕ) → s < c.symbols → AllByRecursion (λ g. Fits (bundle c + 7) (numbered (leaf_numbers c) g)) (leaf_gates node s)
  leaf_fits node s sl = (
    fits_one _ (inn_wire c + 1) (bundle c + 6) (omega arith) (omega arith),
    (
      complement node.scan node.loops,
      (
        begin node.scan,
        (
          fits_one _ (bundle c + 2) (0 + s) (omega arith) (omega arith),
          (
            record {
              out = omega arith;
              inputs = (omega arith, (omega arith, (omega arith, tt)));
              distinct = ((λ e. omega (arith, e), (λ e. omega (arith, e), tt)), ((λ e. omega (arith, e), tt), (tt, tt)));
            },
            (fits_one _ (bundle c + 5) (bundle c + 4) (omega arith) (omega arith), tt),
          ),
        ),
      ),
    ),
  )
    where
      complement : (scan loops : Bool) → Fits (bundle c + 7) (numbered (leaf_numbers c) (gate NotBegins (complement_inputs scan loops)))
      complement true loops = fits_one _ (bundle c) (inn_wire c + 5) (omega arith) (omega arith)
      complement false true = fits_two _ (bundle c) (inn_wire c) (inn_wire c + 1) (omega arith) (omega arith) (omega arith) (λ e. omega (arith, e))
      complement false false = fits_one _ (bundle c) (inn_wire c) (omega arith) (omega arith)

      begin : (scan : Bool) → Fits (bundle c + 7) (numbered (leaf_numbers c) (gate Begins (begin_inputs scan)))
      begin true = record { out = omega arith; inputs = tt; distinct = tt }
      begin false = fits_one _ (bundle c + 1) (bundle c) (omega arith) (omega arith)

  -- nets of the part of a node with two parts that may be the inputs of one gate
  abbrev MayJoin : List PartNet → Type 0
  MayJoin nets = AllByRecursion (λ net. number (pair_numbers c) net < bundle c + 7) nets
      × Pairs (λ (a b : PartNet). number (pair_numbers c) a ≢ number (pair_numbers c) b) nets

  joined : (out : PartNet) (nets : List PartNet) → number (pair_numbers c) out < bundle c + 7 → MayJoin nets
      → Fits (bundle c + 7) (numbered (pair_numbers c) (gate out nets))
  joined out nets lt h = record {
    out = lt;
    inputs = each_map (λ i. i < bundle c + 7) (number (pair_numbers c)) nets h.0;
    distinct = pairs_map (λ (a b : ℕ). a ≢ b) (number (pair_numbers c)) nets h.1;
  }

  pair_fits : (node : Node) (right ends : List PartNet) → MayJoin right → MayJoin ends
      → AllByRecursion (λ g. Fits (bundle c + 7) (numbered (pair_numbers c) g)) (pair_gates node right ends)
  pair_fits node right ends r e = (
    joined NotOut ends (omega arith) e,
    (
      fits_one _ (inn_wire c + 1) (bundle c + 6) (omega arith) (omega arith),
      (
        complement node.scan node.loops,
        (
          begin node.scan,
          (joined NotRight right (omega arith) r, (fits_one _ (bundle c + 2) (bundle c + 5) (omega arith) (omega arith), tt)),
        ),
      ),
    ),
  )
    where
      complement : (scan loops : Bool) → Fits (bundle c + 7) (numbered (pair_numbers c) (gate NotBegins (complement_inputs scan loops)))
      complement true loops = fits_one _ (bundle c + 4) (inn_wire c + 5) (omega arith) (omega arith)
      complement false true = fits_two _ (bundle c + 4) (inn_wire c) (inn_wire c + 1) (omega arith) (omega arith) (omega arith) (λ e. omega (arith, e))
      complement false false = fits_one _ (bundle c + 4) (inn_wire c) (omega arith) (omega arith)

      begin : (scan : Bool) → Fits (bundle c + 7) (numbered (pair_numbers c) (gate Begins (begin_inputs scan)))
      begin true = record { out = omega arith; inputs = tt; distinct = tt }
      begin false = fits_one _ (bundle c) (bundle c + 4) (omega arith) (omega arith)

  right_joins : (eps : Bool) → MayJoin (right_inputs eps)
  right_joins true = ((omega arith, (omega arith, tt)), ((λ e. omega (arith, e), tt), (tt, tt)))
  right_joins false = ((omega arith, tt), (tt, tt))

  both_join : MayJoin (RightOut ∷ LeftOut ∷ [])
  both_join = ((omega arith, (omega arith, tt)), ((λ e. omega (arith, e), tt), (tt, tt)))

  ends_join : (eps : Bool) → MayJoin (end_inputs eps)
  ends_join true = both_join
  ends_join false = ((omega arith, tt), (tt, tt))

  pub kind_fits : (nodes : List Node) (node : Node) (kind : NodeKind) → NamesSymbol c.symbols kind
      → AllByRecursion (λ g. Fits (bundle c + 7) (numbered (kind_numbers c kind) g)) (kind_gates nodes node kind ++ mark_gates c.outputs node)
  kind_fits nodes node (Leaf s) sl =
      each_append (λ g. Fits (bundle c + 7) (numbered (leaf_numbers c) g)) (leaf_gates node s) (mark_gates c.outputs node) (leaf_fits node s sl)
      (marks_fit (leaf_numbers c) node refl (omega arith) (omega arith) (λ e. omega (arith, e)))
  kind_fits nodes node (Seq l r) named =
      each_append (λ g. Fits (bundle c + 7) (numbered (pair_numbers c) g)) (kind_gates nodes node (Seq l r)) (mark_gates c.outputs node)
      (pair_fits node (right_inputs (eps_at nodes l)) (end_inputs (eps_at nodes r)) (right_joins (eps_at nodes l)) (ends_join (eps_at nodes r)))
      (marks_fit (pair_numbers c) node refl (omega arith) (omega arith) (λ e. omega (arith, e)))
  kind_fits nodes node (Alt l r) named =
      each_append (λ g. Fits (bundle c + 7) (numbered (pair_numbers c) g)) (kind_gates nodes node (Alt l r)) (mark_gates c.outputs node)
      (pair_fits node (Begins ∷ []) (RightOut ∷ LeftOut ∷ []) ((omega arith, tt), (tt, tt)) both_join)
      (marks_fit (pair_numbers c) node refl (omega arith) (omega arith) (λ e. omega (arith, e)))

  -- ---- loads

  pair_loads : (node : Node) (right ends : List PartNet) → AllByRecursion (λ g. number (pair_numbers c) g.out < bundle c + 7) (pair_gates node right ends)
      × Pairs (λ (a b : NamedGate). number (pair_numbers c) a.out ≢ number (pair_numbers c) b.out) (pair_gates node right ends)
  pair_loads node right ends = (
    (omega arith, (omega arith, (omega arith, (omega arith, (omega arith, (omega arith, tt)))))),
    (
      (λ e. omega (arith, e), (λ e. omega (arith, e), (λ e. omega (arith, e), (λ e. omega (arith, e), (λ e. omega (arith, e), tt))))),
      (
        (λ e. omega (arith, e), (λ e. omega (arith, e), (λ e. omega (arith, e), (λ e. omega (arith, e), tt)))),
        (
          (λ e. omega (arith, e), (λ e. omega (arith, e), (λ e. omega (arith, e), tt))),
          ((λ e. omega (arith, e), (λ e. omega (arith, e), tt)), ((λ e. omega (arith, e), tt), (tt, tt))),
        ),
      ),
    ),
  )

  pub kind_loads : (nodes : List Node) (node : Node) (kind : NodeKind)
      → AllByRecursion (λ g. number (kind_numbers c kind) g.out < bundle c + 7) (kind_gates nodes node kind)
      × Pairs (λ (a b : NamedGate). number (kind_numbers c kind) a.out ≢ number (kind_numbers c kind) b.out) (kind_gates nodes node kind)
  kind_loads nodes node (Leaf s) = (
    (omega arith, (omega arith, (omega arith, (omega arith, (omega arith, (omega arith, tt)))))),
    (
      (λ e. omega (arith, e), (λ e. omega (arith, e), (λ e. omega (arith, e), (λ e. omega (arith, e), (λ e. omega (arith, e), tt))))),
      (
        (λ e. omega (arith, e), (λ e. omega (arith, e), (λ e. omega (arith, e), (λ e. omega (arith, e), tt)))),
        (
          (λ e. omega (arith, e), (λ e. omega (arith, e), (λ e. omega (arith, e), tt))),
          ((λ e. omega (arith, e), (λ e. omega (arith, e), tt)), ((λ e. omega (arith, e), tt), (tt, tt))),
        ),
      ),
    ),
  )
  kind_loads nodes node (Seq l r) = pair_loads node (right_inputs (eps_at nodes l)) (end_inputs (eps_at nodes r))
  kind_loads nodes node (Alt l r) = pair_loads node (Begins ∷ []) (RightOut ∷ LeftOut ∷ [])
