-- The nets of the metal of the planes' rows.
use Rattle.std.proofs.Common.{◌≡◌, ℕ, zero, suc, ◌+◌, ◌-◌, ◌*◌, ◌<◌, ◌≤◌, ◌==◌, ◌⊎◌, inl, inr, Bool, true, false, if◌then◌else◌, List, [], ◌∷◌, ◌++◌, length, get_or, map, All, refl, ap, subst, ◌∙◌, arith}
use Rattle.std.proofs.lemmas.List.{get_or_default, length-map}
use Rattle.std.proofs.lemmas.List.Elements.{All-nil, All-head, All-tail}
use Rattle.std.proofs.Math.ListN.{get_or-map}
use Rattle.nor_net.specs.Netlist.{NorGate}
use Rattle.gate_matrix.specs.declared.row.RowKind.{RowKind}
use Rattle.gate_matrix.specs.declared.row.RowKind.TheVariants.{Start, Through, Stop, Vdd, Load, Out, Top, Middle, Bottom}
use Rattle.gate_matrix.specs.Rows.{MatrixRow, blank_row, closed_row, has_metal}
use Rattle.gate_matrix.specs.MatrixNets.{IsWireMetal, IsOpenMetal, AreGates}
use Rattle.pla_plan.specs.Planes.{PlaneTables, onward_row, open_gate_rows, rows_of_terms, left_rows, rows_of_sums}
use Rattle.pla_plan.specs.Fits.{IsArray, IsPlaneGate, no_gate}
use Rattle.pla_plan.proofs.OnwardRows.{ground_rows}

-- The metal is of a net below `wires`, or of one of its own, which comes each so many rows.
pub record IsRowNet (wires count first width r : ℕ) (row : MatrixRow) : Type 0 where
  pub metal : has_metal row.kind ≡ true → IsWireMetal wires row row.metal ⊎ IsOpenMetal wires count row row.metal
  pub opens : has_metal row.kind ≡ true → wires ≤ row.metal → first + width * (row.metal - wires) ≡ r
  pub supply : row.kind ≡ Vdd → row.metal ≡ 0
  pub gates : row.kind ≡ Middle → AreGates wires row.gated

abbrev pub AllFrom : ℕ → ℕ → ℕ → ℕ → ℕ → List MatrixRow → Type 0
AllFrom wires count first width r [] = Unit {0}
AllFrom wires count first width r (row ∷ rows) = IsRowNet wires count first width r row × AllFrom wires count first width (r + 1) rows

pub all_at : (wires count first width r : ℕ) (rows : List MatrixRow) → AllFrom wires count first width r rows → (i j : ℕ) → j ≡ r + i → i < length rows
    → IsRowNet wires count first width j (get_or rows i blank_row)
all_at wires count first width r [] h i j e below = absurd (omega arith)
all_at wires count first width r (row ∷ rows) h zero j e below =
    subst (λ (k : ℕ). IsRowNet wires count first width k row) (let same : r ≡ j = omega arith in same) h.0
all_at wires count first width r (row ∷ rows) h (suc i) j e below = all_at wires count first width (r + 1) rows h.1 i j (omega arith) (omega arith)

module _ (wires count first width : ℕ) (some : 0 < wires) where
  -- a row whose metal, where it has some, is of a net that has a column
  wire_row : (r : ℕ) (row : MatrixRow) → row.metal < wires → (row.kind ≡ Vdd → row.metal ≡ 0) → (row.kind ≡ Middle → AreGates wires row.gated)
      → IsRowNet wires count first width r row
  wire_row r row below supply gates = record {
    metal = λ e. inl (record { is = refl; below = below });
    opens = λ e low. absurd (omega arith);
    supply = supply;
    gates = gates;
  }

  no_gates : AreGates wires []
  no_gates = record { below = All-nil (λ i. i < wires); distinct = λ i j d less below. absurd (omega arith) }

  pub plain : (r : ℕ) (kind : RowKind) (onward : Bool) → IsRowNet wires count first width r (record { kind = kind; metal = 0; gated = []; onward = onward })
  plain r kind onward = wire_row r (record { kind = kind; metal = 0; gated = []; onward = onward }) some (λ e. refl) (λ e. no_gates)

  pub top_row : (r metal : ℕ) → metal < wires → IsRowNet wires count first width r (onward_row Top metal [])
  top_row r metal below = wire_row r (onward_row Top metal []) below (λ e. absurd (cc)) (λ e. no_gates)

  pub gate_nets : (gnd out r : ℕ) (gated : List ℕ) (rows : List MatrixRow) → gnd < wires → wires ≤ out → out < count
      → first + width * (out - wires) ≡ r + 2 → AreGates wires gated
      → AllFrom wires count first width (r + 1 + 1 + 1 + 1 + 1) rows → AllFrom wires count first width r (open_gate_rows gnd out gated ++ rows)
  gate_nets gnd out r gated rows g low high place gates rest = (
    plain r Vdd false,
    (
      plain (r + 1) Load false,
      (
        record {
          metal = λ e. inr (record { onward = refl; no_wire = low; from = low; below = high });
          opens = λ e less. omega arith;
          supply = λ e. absurd (cc);
          gates = λ e. absurd (cc);
        },
        (
          wire_row (r + 1 + 1 + 1) (closed_row Middle 0 gated) some (λ e. refl) (λ e. gates),
          (wire_row (r + 1 + 1 + 1 + 1) (closed_row Bottom gnd gated) g (λ e. absurd (cc)) (λ e. absurd (cc)), rest),
        ),
      ),
    ),
  )

-- ---- the left plane

module _ (left count : ℕ) where
  abbrev Nets : ℕ → List MatrixRow → Type 0
  Nets r rows = AllFrom (left + 2) count 6 5 r rows

  term_gates : (term : NorGate) → IsPlaneGate 1 (left + 1) term → AreGates (left + 2) term.inputs
  term_gates term is = record { below = λ k d below. (let h = is.inputs k d below in let less = h.1 in omega arith); distinct = is.distinct }

  terms_nets : (out r : ℕ) (terms : List NorGate) (rows : List MatrixRow) → All (IsPlaneGate 1 (left + 1)) terms → left + 2 ≤ out → out + length terms ≤ count
      → 6 + 5 * (out - (left + 2)) ≡ r + 2 → ((s : ℕ) → Nets s rows) → Nets r (rows_of_terms (left + 1) out terms ++ rows)
  terms_nets out r [] rows all low high place rest = rest r
  terms_nets out r (term ∷ terms) rows all low high place rest =
      gate_nets (left + 2) count 6 5 (omega arith) (left + 1) out r term.inputs (rows_of_terms (left + 1) (out + 1) terms ++ rows) (omega arith) low (omega arith)
      place (term_gates term (All-head (IsPlaneGate 1 (left + 1)) term terms all))
      (terms_nets (out + 1) (r + 1 + 1 + 1 + 1 + 1) terms rows (All-tail (IsPlaneGate 1 (left + 1)) term terms all) (omega arith) (omega arith) (omega arith) rest)

  ground_nets : (s : ℕ) → Nets s (ground_rows (left + 1))
  ground_nets s = (
    top_row (left + 2) count 6 5 (omega arith) s (left + 1) (omega arith),
    (
      plain (left + 2) count 6 5 (omega arith) (s + 1) Through false,
      (plain (left + 2) count 6 5 (omega arith) (s + 1 + 1) Through false, tt),
    ),
  )

pub left_nets : (planes : PlaneTables) → IsArray planes
    → AllFrom (planes.left + 2) (planes.left + 2 + length planes.terms) 6 5 0 (left_rows planes)
left_nets planes array =
    let wires = planes.left + 2 in
    let count = wires + length planes.terms in
    let some : 0 < wires = omega arith in (
      plain wires count 6 5 some 0 Start false,
      (
        plain wires count 6 5 some 1 Through false,
        (
          plain wires count 6 5 some 2 Top true,
          (
            plain wires count 6 5 some 3 Through false,
            terms_nets planes.left count wires 4 planes.terms (ground_rows (planes.left + 1)) array.terms (omega arith) (omega arith) (omega arith)
                (ground_nets planes.left count),
          ),
        ),
      ),
    )

-- the row of a term's net
terms_open : (gnd out : ℕ) (terms : List NorGate) (rows : List MatrixRow) (k i : ℕ) → k < length terms → i ≡ 5 * k + 2
    → get_or (rows_of_terms gnd out terms ++ rows) i blank_row ≡ onward_row Out (out + k) (get_or terms k no_gate).inputs
terms_open gnd out [] rows k i below e = absurd (omega arith)
terms_open gnd out (term ∷ terms) rows zero (suc (suc zero)) below e =
    ap (λ (n : ℕ). onward_row Out n term.inputs) (let same : out ≡ out + 0 = omega arith in same)
terms_open gnd out (term ∷ terms) rows (suc k) (suc (suc (suc (suc (suc i))))) below e =
    terms_open gnd (out + 1) terms rows k i (omega arith) (omega arith)
    ∙ ap (λ (n : ℕ). onward_row Out n (get_or terms k no_gate).inputs) (let same : out + 1 + k ≡ out + suc k = omega arith in same)
terms_open gnd out (term ∷ terms) rows k i below e = absurd (omega arith)

pub left_open : (planes : PlaneTables) (k i : ℕ) → k < length planes.terms → i ≡ 6 + 5 * k
    → get_or (left_rows planes) i blank_row ≡ onward_row Out (planes.left + 2 + k) (get_or planes.terms k no_gate).inputs
left_open planes k (suc (suc (suc (suc i)))) below e =
    terms_open (planes.left + 1) (planes.left + 2) planes.terms (ground_rows (planes.left + 1)) k i below (omega arith)
left_open planes k i below e = absurd (omega arith)

-- ---- the right plane

module _ (planes : PlaneTables) (count : ℕ) where
  abbrev wires : ℕ
  wires = length planes.terms + 2

  abbrev moved : ℕ → ℕ
  moved net = net - planes.part.nets + 1

  abbrev IsSum : NorGate → Type 0
  IsSum = IsPlaneGate planes.part.nets (planes.part.nets + length planes.terms)

  sum_gates : (sum : NorGate) → IsSum sum → AreGates wires (map moved sum.inputs)
  sum_gates sum is = record {
    below = λ k d below.
        let long = length-map sum.inputs moved in
        let less : k < length sum.inputs = omega arith in
        let h = is.inputs k 0 less in
        let low = h.0 in
        let high = h.1 in
        let e = get_or_default (map moved sum.inputs) k d (moved 0) below ∙ get_or-map moved sum.inputs k 0 in
        omega arith;
    distinct = λ i j d less below same.
        let long = length-map sum.inputs moved in
        let first : i < length sum.inputs = omega arith in
        let second : j < length sum.inputs = omega arith in
        let one = (is.inputs i 0 first).0 in
        let two = (is.inputs j 0 second).0 in
        let e = get_or_default (map moved sum.inputs) i d (moved 0) (omega arith) ∙ get_or-map moved sum.inputs i 0 in
        let f = get_or_default (map moved sum.inputs) j d (moved 0) below ∙ get_or-map moved sum.inputs j 0 in
        let both : get_or sum.inputs i 0 ≡ get_or sum.inputs j 0 = omega arith in
        is.distinct i j 0 less second both;
  }

  pub sums_nets : (out r : ℕ) (sums : List NorGate) → All IsSum sums → wires ≤ out → out + length sums ≤ count → 2 + 8 * (out - wires) ≡ r + 2
      → AllFrom wires count 2 8 r (rows_of_sums planes out sums)
  sums_nets out r [] all low high place = tt
  sums_nets out r (sum ∷ sums) all low high place =
      let some : 0 < wires = omega arith in
      let last = closed_row (if length sums == 0 then Stop else Through) 0 [] in
      gate_nets wires count 2 8 some (length planes.terms + 1) out r (map moved sum.inputs)
      (blank_row ∷ blank_row ∷ last ∷ rows_of_sums planes (out + 1) sums) (omega arith) low (omega arith) place
      (sum_gates sum (All-head IsSum sum sums all)) (
        plain wires count 2 8 some (r + 1 + 1 + 1 + 1 + 1) Through false,
        (
          plain wires count 2 8 some (r + 1 + 1 + 1 + 1 + 1 + 1) Through false,
          (
            plain wires count 2 8 some (r + 1 + 1 + 1 + 1 + 1 + 1 + 1) (if length sums == 0 then Stop else Through) false,
            sums_nets (out + 1) (r + 1 + 1 + 1 + 1 + 1 + 1 + 1 + 1) sums (All-tail IsSum sum sums all) (omega arith) (omega arith) (omega arith),
          ),
        ),
      )

-- the row of a sum's net
pub right_open : (planes : PlaneTables) (out : ℕ) (sums : List NorGate) (k i : ℕ) → k < length sums → i ≡ 8 * k + 2
    → (get_or (rows_of_sums planes out sums) i blank_row).kind ≡ Out × ((get_or (rows_of_sums planes out sums) i blank_row).metal ≡ out + k)
right_open planes out [] k i below e = absurd (omega arith)
right_open planes out (sum ∷ sums) zero (suc (suc zero)) below e = (refl, omega arith)
right_open planes out (sum ∷ sums) (suc k) (suc (suc (suc (suc (suc (suc (suc (suc i)))))))) below e =
    let rest = right_open planes (out + 1) sums k i (omega arith) (omega arith) in
    let metal = rest.1 in
    (rest.0, omega arith)
right_open planes out (sum ∷ sums) k i below e = absurd (omega arith)
