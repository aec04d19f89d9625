-- The reset clears the registers of the network of cells, and everything that it uses is driven.
use Rattle.std.specs.Prelude.{flat_map}
use Rattle.std.proofs.Common.{◌≡◌, ◌⊎◌, inl, inr, ℕ, ◌+◌, ◌*◌, ◌<◌, ◌==◌, ◌&&◌, ◌||◌, not, Bool, true, false, List, [], ◌∷◌, ◌++◌, map, length, slice_get, Some, All, Contains, refl, sym, subst, ◌∙◌, arith, eq-eqb}
use Rattle.std.specs.List.{AllByRecursion, list_any, list_all, range_with_len}
use Rattle.std.proofs.lemmas.Bool.{or_left, or_right}
use Rattle.std.proofs.lemmas.Option.{slice_get_within, get_or_from_slice_get}
use Rattle.std.proofs.lemmas.List.Elements.{All-from_recursion}
use Rattle.std.proofs.lemmas.List.Folds.{list_any_at}
use Rattle.std.proofs.lemmas.List.FromFn.{get_or-map-range_with_len}
use Rattle.rx_text.specs.declared.pad_name.Role.{Role}
use Rattle.rx_text.specs.declared.pad_name.Role.TheVariants.{Phi1, Phi2, Output}
use Rattle.rx_lang.specs.Tables.{Tables, IsSpecification}
use Rattle.star_normal.specs.declared.node.Node.{Node}
use Rattle.star_normal.specs.declared.node.NodeKind.{NodeKind}
use Rattle.star_normal.specs.declared.node.NodeKind.TheVariants.{Leaf, Seq, Alt}
use Rattle.star_normal.specs.Tables.{TreeTable, IsTree, flags_of, plain_node}
use Rattle.switch_net.specs.ClockedLogic.{is_fixed}
use Rattle.switch_net.specs.Validity.{is_same_role}
use Rattle.switch_net.specs.declared.network.Pad.{Pad}
use Rattle.nor_net.specs.Netlist.{NorGate, Netlist}
use Rattle.nor_net.specs.Evaluation.{value_at, is_output, is_pulled}
use Rattle.nor_net.specs.Clearing.{is_cleared, is_target, follows_store, is_driven, ClearsByReset}
use Rattle.nor_net.specs.declared.gate.Transfer.{Transfer}
use Rattle.cell_network.specs.declared.numbering.Counts.{Counts}
use Rattle.cell_network.specs.declared.numbering.Numbering.{Numbering}
use Rattle.cell_network.specs.declared.part_net.PartNet.TheVariants.{Begins, Data, In, Inverse, LeftOut, Master, NotBegins, NotOut, NotRight, NotSymbol, Out, Reset, RightIn, RightOut, Stored, Symbol}
use Rattle.cell_network.specs.Cells.{eps_at}
use Rattle.cell_network.specs.Shapes.{NamedGate, number, numbered, gate, complement_inputs, begin_inputs, right_inputs, end_inputs, kind_gates, mark_of, mark_gate, mark_gates, pattern_at, complement_gate, symbol_gate, output_gate, frame_gates}
use Rattle.cell_network.specs.Home.{complement_net, symbol_net, start_net, end_net, begin_net, shared_net, output_net, master_net, whole_nets, in_net, home_numbers, home_of_kind, frame_home}
use Rattle.cell_network.specs.Parts.{NamesSymbol, counts_of, node_at}
use Rattle.cell_network.specs.Whole.{cell_gates, load_gate, whole_gates, whole_transfers, cells_of}
use Rattle.cell_network.proofs.Named.{NamesSymbols}
use Rattle.cell_network.proofs.Feeding.{fed_cases, left_before, right_before}
use Rattle.cell_network.proofs.Ranges.{each_append, each_map, each_range, each_piece, each_weaker}
use Rattle.cell_network.proofs.Mismatches.{mismatches_each}
use Rattle.cell_network.proofs.Nors.{IsNor}
use Rattle.cell_network.proofs.Standing.{Before, Stands}
use Rattle.cell_network.proofs.Wired as wired
use Rattle.cell_network.proofs.Solved.{kind_nor}
use Rattle.cell_network.proofs.PadNets as pads
use Rattle.cell_network.proofs.Netlists.{each_transfer, first_in, second_in}

-- ---- a test of the inputs of a net's gates

-- one of the inputs of a gate with this output passes
abbrev some_input : (ℕ → Bool) → List NorGate → ℕ → Bool
some_input test gates net = list_any (λ (g : NorGate). g.out == net && list_any test g.inputs) gates

module _ (test : ℕ → Bool) (nets : ℕ) where
  abbrev told : List Bool
  told = map test (range_with_len 0 nets)

  told_at : (i : ℕ) → i < nets → value_at told i ≡ test i
  told_at i lt = get_or-map-range_with_len test 0 nets i i false lt (omega arith)

  any_told : (inputs : List ℕ) → AllByRecursion (λ i. i < nets) inputs → list_any (value_at told) inputs ≡ list_any test inputs
  any_told [] h = refl
  any_told (i ∷ inputs) h = rw (told_at i h.0, any_told inputs h.1) refl

  some_told : (gates : List NorGate) (net : ℕ) → AllByRecursion (λ (g : NorGate). AllByRecursion (λ i. i < nets) g.inputs) gates
      → is_pulled gates told net ≡ some_input test gates net
  some_told [] net h = refl
  some_told (g ∷ gates) net h = rw (any_told g.inputs h.0, some_told gates net h.1) refl

  -- where one gate drives the net its inputs alone are tested
  lone_gate : (gates : List NorGate) (net : ℕ) (inputs : List ℕ) → AllByRecursion (λ (g : NorGate). AllByRecursion (λ i. i < nets) g.inputs) gates
      → AllByRecursion (λ i. i < nets) inputs → IsNor gates net inputs → some_input test gates net ≡ list_any test inputs
  lone_gate gates net inputs all own nor = sym (some_told gates net all) ∙ nor.pulled told ∙ any_told inputs own

-- all inputs pass where none does not
none_fails : (test : ℕ → Bool) (inputs : List ℕ) → list_all test inputs ≡ not (list_any (λ i. not (test i)) inputs)
none_fails test [] = refl
none_fails test (i ∷ inputs) = rw (none_fails test inputs) (by_cases (test i) (list_any (λ i. not (test i)) inputs))
  where
    by_cases : (a b : Bool) → (a && not b) ≡ not (not a || b)
    by_cases true b = refl
    by_cases false b = refl

all_pass : (test : ℕ → Bool) (gates : List NorGate) (net : ℕ)
    → list_all (λ (g : NorGate). not (g.out == net) || list_all test g.inputs) gates ≡ not (some_input (λ i. not (test i)) gates net)
all_pass test [] net = refl
all_pass test (g ∷ gates) net =
    rw (none_fails test g.inputs, all_pass test gates net)
    (by_cases (g.out == net) (list_any (λ i. not (test i)) g.inputs) (some_input (λ i. not (test i)) gates net))
  where
    by_cases : (a b d : Bool) → ((not a || not b) && not d) ≡ not ((a && b) || d)
    by_cases true b d = both b d
      where
        both : (b d : Bool) → (not b && not d) ≡ not (b || d)
        both true d = refl
        both false d = refl
    by_cases false b d = refl

passes_alone : (b : Bool) → b ≡ true → not (not b || false) ≡ true
passes_alone b e = rw e refl

module _ (tree : TreeTable) (tables : Tables) (t : IsTree tree) (spec : IsSpecification tables) (named : NamesSymbols (length tables.symbols) tree.nodes) where
  abbrev c : Counts
  c = counts_of tree tables

  abbrev nodes : List Node
  nodes = tree.nodes

  abbrev net : Netlist
  net = cells_of tree tables

  abbrev gates : List NorGate
  gates = whole_gates c tree tables

  inputs_below : AllByRecursion (λ (g : NorGate). AllByRecursion (λ i. i < whole_nets c) g.inputs) gates
  inputs_below =
      each_weaker (Stands c) (λ (g : NorGate). AllByRecursion (λ i. i < whole_nets c) g.inputs)
      (λ g h. each_weaker (λ i. Before c i g.out) (λ i. i < whole_nets c) (λ i b. let l = b.0 in let m = h.below in omega (arith, l, m)) g.inputs h.inputs)
      gates (wired.whole_stands tree tables t spec named)

  target_at : (clock : Role) (transfer : Transfer) → Contains (whole_transfers c tree) transfer → is_same_role transfer.clock clock ≡ true
      → is_target net clock transfer.to ≡ true
  target_at clock transfer at same =
      list_any_at (λ (x : Transfer). is_same_role x.clock clock && x.to == transfer.to) (whole_transfers c tree) at.0 transfer at.1
      (rw (at.2, same, eq-eqb transfer.to transfer.to refl) refl)

  -- ---- what is stored

  follows : (master inverse : ℕ) → IsNor gates inverse (master ∷ []) → master < whole_nets c → is_target net Phi1 master ≡ true
      → follows_store net inverse ≡ true
  follows master inverse nor lt target =
      rw (
        nor.output,
        all_pass (is_target net Phi1) gates inverse,
        lone_gate (λ i. not (is_target net Phi1 i)) (whole_nets c) gates inverse (master ∷ []) inputs_below (lt, tt) nor,
      )
      (passes_alone (is_target net Phi1 master) target)

  cleared : (v s : ℕ) → v < length nodes → (node_at nodes v).kind ≡ Leaf s → is_cleared net (begin_net c v + 3) ≡ true
  cleared v s lt kind =
      lone_gate (λ input. input == 4) (whole_nets c) gates (begin_net c v + 3) (begin_net c v ∷ (begin_net c v + 2) ∷ 4 ∷ []) inputs_below
      (omega (arith, lt), (omega (arith, lt), (omega arith, tt)))
      (kind_nor tree tables t spec named v (Leaf s) 4 (gate Data (NotBegins ∷ NotSymbol ∷ Reset ∷ [])) lt kind refl)
      ∙ or_right (begin_net c v == 4) _ (or_right (begin_net c v + 2 == 4) _ refl)

  start_first : Contains (whole_transfers c tree) (record { clock = Phi1; from = 4; to = master_net c })
  start_first = (0, omega arith, refl)

  start_second : Contains (whole_transfers c tree) (record { clock = Phi2; from = master_net c + 1; to = start_net c })
  start_second = (1, omega arith, refl)

  first_clears : All (λ transfer. transfer.clock ≡ Phi1 → (transfer.from ≡ 4) ⊎ (is_cleared net transfer.from ≡ true)) (whole_transfers c tree)
  first_clears =
      All-from_recursion (λ (x : Transfer). x.clock ≡ Phi1 → (x.from ≡ 4) ⊎ (is_cleared net x.from ≡ true)) (whole_transfers c tree)
      (each_transfer tree tables t spec named (λ (x : Transfer). x.clock ≡ Phi1 → (x.from ≡ 4) ⊎ (is_cleared net x.from ≡ true)) (λ e. inl refl) (λ e. absurd (cc))
      (λ v s lt kind. (λ e. inr (cleared v s lt kind), λ e. absurd (cc))))

  second_follows : All (λ transfer. transfer.clock ≡ Phi2 → follows_store net transfer.from ≡ true) (whole_transfers c tree)
  second_follows =
      All-from_recursion (λ (x : Transfer). x.clock ≡ Phi2 → follows_store net x.from ≡ true) (whole_transfers c tree)
      (each_transfer tree tables t spec named (λ (x : Transfer). x.clock ≡ Phi2 → follows_store net x.from ≡ true) (λ e. absurd (cc))
      (λ e. follows (master_net c) (master_net c + 1) (wired.inverse_nor tree tables t spec named) (omega arith) (target_at Phi1 _ start_first refl))
      (λ v s lt kind. (
        λ e. absurd (cc),
        λ e.
            follows (master_net c + 2 + 2 * v) (master_net c + 3 + 2 * v)
            (kind_nor tree tables t spec named v (Leaf s) 5 (gate Inverse (Master ∷ [])) lt kind refl) (omega (arith, lt))
            (target_at Phi1 _ (first_in tree tables t spec named v s lt kind) refl),
      )))

  -- ---- everything is driven

  abbrev Driven : ℕ → Type 0
  Driven k = is_driven net k ≡ true

  by_pad : (k : ℕ) → is_fixed net.pads k ≡ true → Driven k
  by_pad k e = or_left (is_fixed net.pads k) _ e

  by_gate : (k : ℕ) → is_output gates k ≡ true → Driven k
  by_gate k e = or_right (is_fixed net.pads k) _ (or_left (is_output gates k) _ e)

  by_first : (k : ℕ) → is_target net Phi1 k ≡ true → Driven k
  by_first k e = or_right (is_fixed net.pads k) _ (or_right (is_output gates k) _ (or_left (is_target net Phi1 k) _ e))

  by_second : (k : ℕ) → is_target net Phi2 k ≡ true → Driven k
  by_second k e = or_right (is_fixed net.pads k) _ (or_right (is_output gates k) _ (or_right (is_target net Phi1 k) _ e))

  abbrev gate_of : (v : ℕ) (kind : NodeKind) (k : ℕ) (g : NamedGate) → v < length nodes → (node_at nodes v).kind ≡ kind
      → slice_get (kind_gates nodes (node_at nodes v) kind) k ≡ Some g → Driven (number (home_of_kind c v (in_net c nodes v) kind) g.out)
  gate_of v kind k g lt e at = by_gate _ (kind_nor tree tables t spec named v kind k g lt e at).output

  end_driven : (v : ℕ) → v < length nodes → (kind : NodeKind) → (node_at nodes v).kind ≡ kind → Driven (end_net c v + 1)
  end_driven v lt (Leaf s) e = gate_of v (Leaf s) 0 (gate Out (Stored ∷ [])) lt e refl
  end_driven v lt (Seq l r) e = gate_of v (Seq l r) 1 (gate Out (NotOut ∷ [])) lt e refl
  end_driven v lt (Alt l r) e = gate_of v (Alt l r) 1 (gate Out (NotOut ∷ [])) lt e refl

  begin_driven : (v : ℕ) → v < length nodes → (kind : NodeKind) → (node_at nodes v).kind ≡ kind → Driven (begin_net c v + 1)
  begin_driven v lt (Leaf s) e = gate_of v (Leaf s) 2 (gate Begins (begin_inputs (node_at nodes v).scan)) lt e refl
  begin_driven v lt (Seq l r) e = gate_of v (Seq l r) 3 (gate Begins (begin_inputs (node_at nodes v).scan)) lt e refl
  begin_driven v lt (Alt l r) e = gate_of v (Alt l r) 3 (gate Begins (begin_inputs (node_at nodes v).scan)) lt e refl

  in_driven : (v : ℕ) → Driven (in_net c nodes v)
  in_driven v =
      fed_cases c Driven 0 nodes v (start_net c + 1) (by_gate (start_net c + 1) (wired.start_nor tree tables t spec named).output)
      (λ j l r node e kind.
      let within : j < length nodes = slice_get_within nodes j node e in
      let same : node_at nodes j ≡ node = get_or_from_slice_get nodes j node (plain_node (Leaf 0) false) e in
      let zero_on : 0 + j ≡ j = omega arith in (
        λ f. subst (λ (k : ℕ). Driven (begin_net c k + 1)) (sym zero_on) (begin_driven j within (node_at nodes j).kind refl),
        λ f. subst (λ (k : ℕ). Driven (begin_net c k + 3)) (sym zero_on) (elim kind [
          | inl g ↦ gate_of j (Seq l r) 5 (gate RightIn (NotRight ∷ [])) within (rw same g) refl
          | inr g ↦ gate_of j (Alt l r) 5 (gate RightIn (NotRight ∷ [])) within (rw same g) refl
        ]),
      ))

  -- all inputs of these gates are driven
  abbrev Fed : Numbering → List NamedGate → Type 0
  Fed n gs = AllByRecursion (λ g. AllByRecursion (λ i. Driven (number n i)) g.inputs) gs

  complement_fed : (v l r : ℕ) → v < length nodes → (scan loops : Bool)
      → AllByRecursion (λ i. Driven (number (home_numbers c v (in_net c nodes v) l r) i)) (complement_inputs scan loops)
  complement_fed v l r lt true loops = (by_pad 0 refl, tt)
  complement_fed v l r lt false true = (in_driven v, (end_driven v lt (node_at nodes v).kind refl, tt))
  complement_fed v l r lt false false = (in_driven v, tt)

  begins_fed : (v l r : ℕ) (scan : Bool) → Driven (begin_net c v) → AllByRecursion (λ i. Driven (number (home_numbers c v (in_net c nodes v) l r) i)) (begin_inputs scan)
  begins_fed v l r true driven = tt
  begins_fed v l r false driven = (driven, tt)

  marks_fed : (v : ℕ) (n : Numbering) → v < length nodes → n.out ≡ end_net c v + 1 → n.begins ≡ begin_net c v + 1 → Fed n (mark_gates c.outputs (node_at nodes v))
  marks_fed v n lt out begin =
      each_piece (λ g. AllByRecursion (λ i. Driven (number n i)) g.inputs) (mark_gate (node_at nodes v)) 0 c.outputs
      (λ y l yl. one y ((flags_of (node_at nodes v)).marks y) ((flags_of (node_at nodes v)).eps_marks y))
    where
      ends : Driven n.out
      ends = subst Driven (sym out) (end_driven v lt (node_at nodes v).kind refl)

      begins : Driven n.begins
      begins = subst Driven (sym begin) (begin_driven v lt (node_at nodes v).kind refl)

      one : (y : ℕ) (a b : Bool) → Fed n (mark_of y a b)
      one y true true = ((ends, (begins, tt)), tt)
      one y true false = ((ends, tt), tt)
      one y false true = ((begins, tt), tt)
      one y false false = tt

  right_fed : (v l r : ℕ) → v < length nodes → l < length nodes → (eps : Bool)
      → AllByRecursion (λ i. Driven (number (home_numbers c v (in_net c nodes v) l r) i)) (right_inputs eps)
  right_fed v l r lt ll true = (end_driven l ll (node_at nodes l).kind refl, (begin_driven v lt (node_at nodes v).kind refl, tt))
  right_fed v l r lt ll false = (end_driven l ll (node_at nodes l).kind refl, tt)

  ends_fed : (v l r : ℕ) → l < length nodes → r < length nodes → (eps : Bool)
      → AllByRecursion (λ i. Driven (number (home_numbers c v (in_net c nodes v) l r) i)) (end_inputs eps)
  ends_fed v l r ll rl true = (end_driven r rl (node_at nodes r).kind refl, (end_driven l ll (node_at nodes l).kind refl, tt))
  ends_fed v l r ll rl false = (end_driven r rl (node_at nodes r).kind refl, tt)

  kind_fed : (v : ℕ) → v < length nodes → (kind : NodeKind) → (node_at nodes v).kind ≡ kind
      → Fed (home_of_kind c v (in_net c nodes v) kind) (kind_gates nodes (node_at nodes v) kind ++ mark_gates c.outputs (node_at nodes v))
  kind_fed v lt (Leaf s) e =
      let known : NamesSymbol (length tables.symbols) (Leaf s) = rw e at (wired.kind_facts tree tables t spec named v lt) in
      each_append (λ g. AllByRecursion (λ i. Driven (number (home_numbers c v (in_net c nodes v) 0 0) i)) g.inputs) (kind_gates nodes (node_at nodes v) (Leaf s))
      (mark_gates c.outputs (node_at nodes v)) (
        (by_second (end_net c v) (target_at Phi2 _ (second_in tree tables t spec named v s lt e) refl), tt),
        (
          complement_fed v 0 0 lt (node_at nodes v).scan (node_at nodes v).loops,
          (
            begins_fed v 0 0 (node_at nodes v).scan (gate_of v (Leaf s) 1 (gate NotBegins (complement_inputs (node_at nodes v).scan (node_at nodes v).loops)) lt e refl),
            (
              (by_gate (symbol_net c + s) (wired.symbol_nor tree tables t spec named s known).output, tt),
              (
                (
                  gate_of v (Leaf s) 1 (gate NotBegins (complement_inputs (node_at nodes v).scan (node_at nodes v).loops)) lt e refl,
                  (gate_of v (Leaf s) 3 (gate NotSymbol (Symbol s ∷ [])) lt e refl, (by_pad 4 refl, tt)),
                ),
                ((by_first (master_net c + 2 + 2 * v) (target_at Phi1 _ (first_in tree tables t spec named v s lt e) refl), tt), tt),
              ),
            ),
          ),
        ),
      )
      (marks_fed v (home_numbers c v (in_net c nodes v) 0 0) lt refl refl)
  kind_fed v lt (Seq l r) e =
      let place = wired.here tree tables t spec named v lt in
      let ll : l < length nodes = (let b = left_before c tree t v l r (node_at nodes v) place (inl e) in omega (arith, b, lt)) in
      let rl : r < length nodes = (let b = right_before c tree t v l r (node_at nodes v) place (inl e) in omega (arith, b, lt)) in
      each_append (λ g. AllByRecursion (λ i. Driven (number (home_numbers c v (in_net c nodes v) l r) i)) g.inputs) (kind_gates nodes (node_at nodes v) (Seq l r))
      (mark_gates c.outputs (node_at nodes v)) (
        ends_fed v l r ll rl (eps_at nodes r),
        (
          (gate_of v (Seq l r) 0 (gate NotOut (end_inputs (eps_at nodes r))) lt e refl, tt),
          (
            complement_fed v l r lt (node_at nodes v).scan (node_at nodes v).loops,
            (
              begins_fed v l r (node_at nodes v).scan (gate_of v (Seq l r) 2 (gate NotBegins (complement_inputs (node_at nodes v).scan (node_at nodes v).loops)) lt e refl),
              (
                right_fed v l r lt ll (eps_at nodes l),
                ((gate_of v (Seq l r) 4 (gate NotRight (right_inputs (eps_at nodes l))) lt e refl, tt), tt),
              ),
            ),
          ),
        ),
      )
      (marks_fed v (home_numbers c v (in_net c nodes v) l r) lt refl refl)
  kind_fed v lt (Alt l r) e =
      let place = wired.here tree tables t spec named v lt in
      let ll : l < length nodes = (let b = left_before c tree t v l r (node_at nodes v) place (inr e) in omega (arith, b, lt)) in
      let rl : r < length nodes = (let b = right_before c tree t v l r (node_at nodes v) place (inr e) in omega (arith, b, lt)) in
      each_append (λ g. AllByRecursion (λ i. Driven (number (home_numbers c v (in_net c nodes v) l r) i)) g.inputs) (kind_gates nodes (node_at nodes v) (Alt l r))
      (mark_gates c.outputs (node_at nodes v)) (
        (end_driven r rl (node_at nodes r).kind refl, (end_driven l ll (node_at nodes l).kind refl, tt)),
        (
          (gate_of v (Alt l r) 0 (gate NotOut (RightOut ∷ LeftOut ∷ [])) lt e refl, tt),
          (
            complement_fed v l r lt (node_at nodes v).scan (node_at nodes v).loops,
            (
              begins_fed v l r (node_at nodes v).scan (gate_of v (Alt l r) 2 (gate NotBegins (complement_inputs (node_at nodes v).scan (node_at nodes v).loops)) lt e refl),
              (
                (begin_driven v lt (Alt l r) e, tt),
                ((gate_of v (Alt l r) 4 (gate NotRight (Begins ∷ [])) lt e refl, tt), tt),
              ),
            ),
          ),
        ),
      )
      (marks_fed v (home_numbers c v (in_net c nodes v) l r) lt refl refl)

  abbrev fh : Numbering
  fh = frame_home c tree.root

  line_driven : (i : ℕ) → i < length tables.lines → Driven (5 + i)
  line_driven i lt = by_pad (5 + i) (pads.line_is_fixed c tables refl refl i lt)

  frame_fed : Fed fh (frame_gates tables)
  frame_fed =
      let P : NamedGate → Type 0 = λ g. AllByRecursion (λ i. Driven (number fh i)) g.inputs in
      each_append P _ (gate Inverse (Master ∷ []) ∷ [])
      (each_append P _ (map output_gate (range_with_len 0 (length tables.outputs)))
      (each_append P _ (gate In (Stored ∷ []) ∷ [])
      (each_append P (map complement_gate (range_with_len 0 (length tables.lines))) (map (symbol_gate tables.symbols) (range_with_len 0 (length tables.symbols)))
      (each_range P complement_gate 0 (length tables.lines) (λ i l lt. (line_driven i (omega arith), tt)))
      (each_range P (symbol_gate tables.symbols) 0 (length tables.symbols)
      (λ s l lt.
      let size : length (pattern_at tables.symbols s) ≡ length tables.lines = spec.place_per_line s (record { name = []; pattern = [] }) (omega arith) in
      mismatches_each (λ i. Driven (number fh i)) (pattern_at tables.symbols s)
      (λ i il. (
        line_driven i (omega (arith, il, size)),
        by_gate (complement_net c + i) (wired.complement_nor tree tables t spec named i (omega (arith, il, size))).output,
      )))))
      ((by_second (start_net c) (target_at Phi2 _ start_second refl), tt), tt))
      (each_range P output_gate 0 (length tables.outputs) (λ y l lt. (by_gate (shared_net c + y) (wired.shared_output tree tables t spec named y (omega arith)), tt))))
      ((by_first (master_net c) (target_at Phi1 _ start_first refl), tt), tt)

  abbrev GateFed : NorGate → Type 0
  GateFed g = AllByRecursion Driven g.inputs

  numbered_fed : (n : Numbering) (gs : List NamedGate) → Fed n gs → AllByRecursion GateFed (map (numbered n) gs)
  numbered_fed n gs h =
      each_map GateFed (numbered n) gs
      (each_weaker (λ g. AllByRecursion (λ i. Driven (number n i)) g.inputs) (λ g. GateFed (numbered n g)) (λ g k. each_map Driven (number n) g.inputs k) gs h)

  whole_fed : AllByRecursion GateFed gates
  whole_fed =
      each_append GateFed _ (flat_map (cell_gates c nodes) (range_with_len 0 c.nodes))
      (each_append GateFed (map (numbered fh) (frame_gates tables)) (map (load_gate c) (range_with_len 0 c.outputs)) (numbered_fed fh (frame_gates tables) frame_fed)
      (each_range GateFed (load_gate c) 0 c.outputs (λ y l lt. tt)))
      (each_piece GateFed (cell_gates c nodes) 0 c.nodes
      (λ v l lt.
      numbered_fed (home_of_kind c v (in_net c nodes v) (node_at nodes v).kind)
      (kind_gates nodes (node_at nodes v) (node_at nodes v).kind ++ mark_gates c.outputs (node_at nodes v)) (kind_fed v (omega (arith, lt)) (node_at nodes v).kind refl)))

  pub clears : ClearsByReset net
  clears = record {
    first = first_clears;
    second = second_follows;
    inputs =
        All-from_recursion (λ (g : NorGate). All Driven g.inputs) gates
        (each_weaker GateFed (λ (g : NorGate). All Driven g.inputs) (λ g h. All-from_recursion Driven g.inputs h) gates whole_fed);
    outputs =
        All-from_recursion (λ (pad : Pad). pad.name.role ≡ Output → Driven pad.net.0) net.pads
        (pads.each_pad c tables refl refl (λ (pad : Pad). pad.name.role ≡ Output → Driven pad.net.0) (λ e. absurd (cc)) (λ e. absurd (cc)) (λ e. absurd (cc))
        (λ e. absurd (cc)) (λ e. absurd (cc)) (λ i lt e. absurd (cc))
        (λ y lt e. by_gate (output_net c + y) (wired.output_nor tree tables t spec named y lt).output));
  }
