-- The rows of a part stand on its nets.
use Rattle.std.proofs.Common.{◌≡◌, ℕ, ◌+◌, ◌-◌, ◌<◌, ◌⊎◌, inl, inr, Bool, true, false, if◌then◌else◌, List, [], ◌∷◌, ◌++◌, length, replicate, All, refl, sym, subst, arith}
use Rattle.std.specs.Prelude.{flat_map}
use Rattle.std.proofs.lemmas.List.Elements.{All-nil, All-cons, All-head, All-tail, All-append, All-replicate, All-get_or}
use Rattle.rx_text.specs.declared.pad_name.Role.{Role}
use Rattle.rx_text.specs.declared.pad_name.Role.TheVariants.{Phi1, Phi2}
use Rattle.nor_net.specs.Netlist.{NorGate}
use Rattle.nor_net.specs.Evaluation.{is_output}
use Rattle.nor_net.specs.Part.{PartTables, IsPart, IsPartGate, IsPartTransfer, clock_net}
use Rattle.nor_net.specs.declared.gate.Transfer.{Transfer}
use Rattle.gate_matrix.specs.declared.row.RowKind.{RowKind}
use Rattle.gate_matrix.specs.declared.row.RowKind.TheVariants.{Vdd, Load, Out, Top, Middle, Bottom}
use Rattle.gate_matrix.specs.Rows.{MatrixRow, has_metal, blank_row, closed_row, load_rows, device_rows, gate_rows}
use Rattle.gate_matrix.specs.PartRows.{has_load, rows_of_gate, rows_of_gates, rows_of_load, rows_of_transfer, rows_of_part, height_of_part}
use Rattle.gate_matrix.specs.Drawn.{FitsPart, part_matrix}
use Rattle.gate_matrix.proofs.Stacks.{Stacked}
use Rattle.gate_matrix.specs.MatrixNets.{row_at, IsAbove, AreGates, AreMatrixNets}
use Rattle.gate_matrix.specs.Modules.{metal_in}
use Rattle.gate_matrix.proofs.Chains.{long_rows, rows_stacked, first_stacked}

-- The metal is a net's, and the supply's above a load; the nets that gate devices differ; nothing goes on to the east.
pub record IsFine (nets vdd : ℕ) (row : MatrixRow) : Type 0 where
  pub metal : has_metal row.kind ≡ true → row.metal < nets
  pub supply : row.kind ≡ Vdd → row.metal ≡ vdd
  pub gates : AreGates nets row.gated
  pub closed : row.onward ≡ false

module _ (nets vdd : ℕ) where
  abbrev AllFine : List MatrixRow → Type 0
  AllFine rows = All (IsFine nets vdd) rows

  no_gates : AreGates nets []
  no_gates = record { below = λ k d below. absurd (omega arith); distinct = λ i j d less below. absurd (omega arith) }

  one : (row : MatrixRow) (rows : List MatrixRow) → IsFine nets vdd row → AllFine rows → AllFine (row ∷ rows)
  one row rows h k = All-cons (IsFine nets vdd) row rows h k

  plain : (kind : RowKind) (net : ℕ) (gated : List ℕ) → (has_metal kind ≡ true → net < nets) → (kind ≡ Vdd → net ≡ vdd) → AreGates nets gated
      → IsFine nets vdd (closed_row kind net gated)
  plain kind net gated m s g = record { metal = m; supply = s; gates = g; closed = refl }

  fine_blank : (n : ℕ) → AllFine (replicate n blank_row)
  fine_blank n = All-replicate (IsFine nets vdd) n blank_row
      (record { metal = λ e. absurd (cc); supply = λ e. absurd (cc); gates = no_gates; closed = refl })

  fine_load : (net : ℕ) (gated : List ℕ) → vdd < nets → net < nets → AreGates nets gated → AllFine (load_rows vdd net gated)
  fine_load net gated v below gates =
      one (closed_row Vdd vdd []) (closed_row Load 0 [] ∷ closed_row Out net gated ∷ []) (plain Vdd vdd [] (λ e. v) (λ e. refl) no_gates)
      (one (closed_row Load 0 []) (closed_row Out net gated ∷ []) (plain Load 0 [] (λ e. absurd (cc)) (λ e. absurd (cc)) no_gates)
      (one (closed_row Out net gated) [] (plain Out net gated (λ e. below) (λ e. absurd (cc)) gates) (All-nil (IsFine nets vdd))))

  fine_ends : (gated : List ℕ) (net : ℕ) → net < nets → AreGates nets gated → AllFine (closed_row Middle 0 gated ∷ closed_row Bottom net gated ∷ [])
  fine_ends gated net below gates =
      one (closed_row Middle 0 gated) (closed_row Bottom net gated ∷ []) (plain Middle 0 gated (λ e. absurd (cc)) (λ e. absurd (cc)) gates)
      (one (closed_row Bottom net gated) [] (plain Bottom net gated (λ e. below) (λ e. absurd (cc)) gates) (All-nil (IsFine nets vdd)))

  fine_devices : (top : ℕ) (gated : List ℕ) (bottom : ℕ) → top < nets → AreGates nets gated → bottom < nets → AllFine (device_rows top gated bottom)
  fine_devices top gated bottom t gates b =
      one (closed_row Top top gated) (closed_row Middle 0 gated ∷ closed_row Bottom bottom gated ∷ [])
      (plain Top top gated (λ e. t) (λ e. absurd (cc)) gates) (fine_ends gated bottom b gates)

  fine_flat : {X : Type 0} (f : X → List MatrixRow) (P : X → Type 0) → ((x : X) → P x → AllFine (f x)) → (xs : List X) → All P xs
      → AllFine (flat_map f xs)
  fine_flat f P each [] all = All-nil (IsFine nets vdd)
  fine_flat f P each (x ∷ xs) all =
      All-append (IsFine nets vdd) (f x) (flat_map f xs) (each x (All-head P x xs all)) (fine_flat f P each xs (All-tail P x xs all))

module _ (part : PartTables) (is : IsPart part) where
  abbrev Fine : List MatrixRow → Type 0
  Fine rows = All (IsFine part.nets part.vdd) rows

  vdd_below : part.vdd < part.nets
  vdd_below = is.supplies_below 0 0 (omega arith)

  gnd_below : part.gnd < part.nets
  gnd_below = is.supplies_below 1 0 (omega arith)

  phi1_below : part.phi1 < part.nets
  phi1_below = is.supplies_below 2 0 (omega arith)

  phi2_below : part.phi2 < part.nets
  phi2_below = is.supplies_below 3 0 (omega arith)

  inputs : (gate : NorGate) → IsPartGate part.nets gate → AreGates part.nets gate.inputs
  inputs gate g = record { below = g.inputs_below; distinct = g.distinct }

  fine_gate : (earlier : List NorGate) (gate : NorGate) → IsPartGate part.nets gate → Fine (rows_of_gate part earlier gate)
  fine_gate earlier gate g = by_test (has_load part earlier gate)
    where
      by_test : (t : Bool) → Fine (if t then gate_rows part.vdd part.gnd gate.out gate.inputs else device_rows gate.out gate.inputs part.gnd)
      by_test true =
          All-append (IsFine part.nets part.vdd) (load_rows part.vdd gate.out gate.inputs)
          (closed_row Middle 0 gate.inputs ∷ closed_row Bottom part.gnd gate.inputs ∷ [])
          (fine_load part.nets part.vdd gate.out gate.inputs vdd_below g.out_below (inputs gate g))
          (fine_ends part.nets part.vdd gate.inputs part.gnd gnd_below (inputs gate g))
      by_test false = fine_devices part.nets part.vdd gate.out gate.inputs part.gnd g.out_below (inputs gate g) gnd_below

  fine_gates : (earlier gates : List NorGate) → All (IsPartGate part.nets) gates → Fine (rows_of_gates part earlier gates)
  fine_gates earlier [] all = All-nil (IsFine part.nets part.vdd)
  fine_gates earlier (gate ∷ gates) all =
      All-append (IsFine part.nets part.vdd) (rows_of_gate part earlier gate) (rows_of_gates part (earlier ++ gate ∷ []) gates)
      (fine_gate earlier gate (All-head (IsPartGate part.nets) gate gates all))
      (fine_gates (earlier ++ gate ∷ []) gates (All-tail (IsPartGate part.nets) gate gates all))

  fine_one_load : (net : ℕ) → net < part.nets → Fine (rows_of_load part net)
  fine_one_load net below = by_test (is_output part.gates net)
    where
      by_test : (t : Bool) → Fine (if t then [] else load_rows part.vdd net [])
      by_test true = All-nil (IsFine part.nets part.vdd)
      by_test false = fine_load part.nets part.vdd net [] vdd_below below (no_gates part.nets part.vdd)

  clock_below : (clock : Role) → (clock ≡ Phi1) ⊎ (clock ≡ Phi2) → clock_net part clock < part.nets
  clock_below clock (inl e) = subst (λ (r : Role). clock_net part r < part.nets) (sym e) phi1_below
  clock_below clock (inr e) = subst (λ (r : Role). clock_net part r < part.nets) (sym e) phi2_below

  one_gate : (net : ℕ) → net < part.nets → AreGates part.nets (net ∷ [])
  one_gate net below = record {
    below = All-cons (λ i. i < part.nets) net [] below (All-nil (λ i. i < part.nets));
    distinct = λ i j d less high. absurd (omega arith);
  }

  fine_transfer : (transfer : Transfer) → IsPartTransfer part.nets transfer → Fine (rows_of_transfer part transfer)
  fine_transfer transfer t =
      fine_devices part.nets part.vdd transfer.from (clock_net part transfer.clock ∷ []) transfer.to t.from_below
      (one_gate (clock_net part transfer.clock) (clock_below transfer.clock t.clocked)) t.to_below

  fine_part : (n : ℕ) → Fine (replicate n blank_row ++ rows_of_part part)
  fine_part n =
      All-append (IsFine part.nets part.vdd) (replicate n blank_row) (rows_of_part part) (fine_blank part.nets part.vdd n)
      (All-append (IsFine part.nets part.vdd) (rows_of_gates part [] part.gates ++ flat_map (rows_of_load part) part.loads)
      (flat_map (rows_of_transfer part) part.transfers)
      (All-append (IsFine part.nets part.vdd) (rows_of_gates part [] part.gates) (flat_map (rows_of_load part) part.loads)
      (fine_gates [] part.gates is.gates)
      (fine_flat part.nets part.vdd (rows_of_load part) (λ net. net < part.nets) fine_one_load part.loads is.loads_below))
      (fine_flat part.nets part.vdd (rows_of_transfer part) (IsPartTransfer part.nets) fine_transfer part.transfers is.transfers))

  -- ---- the matrix of the part

  module _ (at : List ℕ) (rows cols : ℕ) (fits : FitsPart part at rows cols) where
    pub row_fine : (r : ℕ) → r < length (part_matrix part at rows cols).rows → IsFine part.nets part.vdd (row_at (part_matrix part at rows cols) r)
    row_fine r below = All-get_or (IsFine part.nets part.vdd) (part_matrix part at rows cols).rows r blank_row below
        (fine_part (rows - height_of_part part))

    above : (upper lower : MatrixRow) → Stacked upper lower → IsAbove upper lower
    above upper lower h = record { follows = h.leads.follows; bottom = h.middle }

    abbrev spare : ℕ
    spare = rows - height_of_part part

    -- The metal of each row is a net's of the part, in its column.
    pub part_nets : AreMatrixNets (part_matrix part at rows cols) (metal_in (part_matrix part at rows cols)) part.nets part.vdd
    part_nets =
        let wires = fits.wires in
        let some_net = vdd_below in
        let few : (i : ℕ) → i < part.nets → i < length at = λ i below. omega arith in
        record {
          columns = fits.columns;
          some_row = (let long = long_rows part rows fits.rows_fit in let some = fits.some_row in omega arith);
          some_wire = omega arith;
          wires_fit = omega arith;
          north = above blank_row (row_at (part_matrix part at rows cols) 0) (first_stacked part spare);
          south = λ r below.
              above (row_at (part_matrix part at rows cols) r) (row_at (part_matrix part at rows cols) (r + 1)) (rows_stacked part spare r below);
          begun = λ r below. (rows_stacked part spare r (omega arith)).leads.begun;
          ended = λ r below. (rows_stacked part spare r (omega arith)).leads.ended;
          metal = λ r below m. inl (record {
            is = refl;
            below =
                few ((row_at (part_matrix part at rows cols) r).metal) ((row_fine r below).metal m);
          });
          opener = λ net. 0;
          opened = λ net from below. absurd (omega arith);
          opens = λ r below m from. (let inside = few ((row_at (part_matrix part at rows cols) r).metal) ((row_fine r below).metal m) in
              absurd (omega arith));
          supply = λ r below kind. (row_fine r below).supply kind;
          gates = λ r below kind. subst (λ (n : ℕ). AreGates n (row_at (part_matrix part at rows cols) r).gated) (sym fits.wires)
              (row_fine r below).gates;
          east = λ r below m onward. (let closed = (row_fine r below).closed in absurd (cc));
        }
