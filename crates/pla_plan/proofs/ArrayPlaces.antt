-- The columns of the nets of an automaton's array.
use Rattle.std.specs.Prelude.{flat_map}
use Rattle.std.proofs.Common.{◌≡◌, ℕ, zero, suc, ◌+◌, ◌-◌, ◌*◌, ◌<◌, ◌≤◌, List, [], ◌∷◌, ◌++◌, map, length, get_or, sym, ap, ◌∙◌, arith, length-append}
use Rattle.std.specs.List.{range_with_len}
use Rattle.std.proofs.lemmas.List.{get_or_append_left, get_or-append-add}
use Rattle.std.proofs.lemmas.List.FromFn.{length-map-range_with_len, get_or-map-range_with_len}
use Rattle.gate_matrix.specs.Columns.{AreWiresFrom, AreWires}
use Rattle.position_nfa.specs.declared.array_nets.ArrayCounts.{ArrayCounts}
use Rattle.position_nfa.specs.Registers.{reset_net, part_nets}
use Rattle.pla_plan.specs.ArrayOf.{every_second, sums_from, output_columns, array_places}

-- ---- columns ascend

earlier : (first later : ℕ) (at : List ℕ) (cols : ℕ) → first ≤ later → AreWiresFrom later at cols → AreWiresFrom first at cols
earlier first later [] cols l w = omega arith
earlier first later (a ∷ at) cols l w = (let low = w.0 in omega arith, w.1)

second_wires : (base a n first later : ℕ) (rest : List ℕ) (cols : ℕ) → first ≤ base + 2 * a → base + 2 * (a + n) ≤ later
    → AreWiresFrom later rest cols → AreWiresFrom first (map (λ k. base + 2 * k) (range_with_len a n) ++ rest) cols
second_wires base a zero first later rest cols l m w = earlier first later rest cols (omega arith) w
second_wires base a (suc n) first later rest cols l m w =
    (l, second_wires base (a + 1) n (base + 2 * a + 2) later rest cols (omega arith) (omega arith) w)

output_wires : (base a n first later : ℕ) (rest : List ℕ) (cols : ℕ) → first ≤ base + 8 * a → base + 8 * (a + n) ≤ later
    → AreWiresFrom later rest cols → AreWiresFrom first (flat_map (output_columns base) (range_with_len a n) ++ rest) cols
output_wires base a zero first later rest cols l m w = earlier first later rest cols (omega arith) w
output_wires base a (suc n) first later rest cols l m w = (
  omega arith,
  (omega arith, output_wires base (a + 1) n (base + 8 * a + 4 + 2) later rest cols (omega arith) (omega arith) w),
)

pub at_least : (at : List ℕ) (first cols k : ℕ) → AreWiresFrom first at cols → k < length at → first ≤ get_or at k 0
at_least [] first cols k w lt = absurd (omega arith)
at_least (a ∷ at) first cols zero w lt = w.0
at_least (a ∷ at) first cols (suc k) w lt =
    let low = w.0 in
    let rest = at_least at (a + 2) cols k w.1 (omega arith) in
    omega arith

-- ---- what is read

seconds_long : (base n : ℕ) → length (every_second base n) ≡ n
seconds_long base n = length-map-range_with_len (λ k. base + 2 * k) 0 n

second_at : (base n : ℕ) (rest : List ℕ) (k : ℕ) → k < n → get_or (every_second base n ++ rest) k 0 ≡ base + 2 * k
second_at base n rest k lt =
    let long = seconds_long base n in
    let here : 0 + k ≡ k = omega arith in
    get_or_append_left (every_second base n) rest 0 k (omega arith) ∙ get_or-map-range_with_len (λ k. base + 2 * k) 0 n k k 0 lt here

second_behind : (base n : ℕ) (rest : List ℕ) (k : ℕ) → get_or (every_second base n ++ rest) (n + k) 0 ≡ get_or rest k 0
second_behind base n rest k =
    ap (λ m. get_or (every_second base n ++ rest) (m + k) 0) (sym (seconds_long base n)) ∙ get_or-append-add (every_second base n) rest k 0

output_at : (base a n : ℕ) (rest : List ℕ) (y : ℕ) → y < n → get_or (flat_map (output_columns base) (range_with_len a n) ++ rest) (2 * y) 0 ≡ base + 8 * (a + y) + 2
output_at base a zero rest y lt = absurd (omega arith)
output_at base a (suc n) rest zero lt = omega arith
output_at base a (suc n) rest (suc y) lt =
    let two : 2 * suc y ≡ suc (suc (2 * y)) = omega arith in
    let same : base + 8 * (a + 1 + y) + 2 ≡ base + 8 * (a + suc y) + 2 = omega arith in
    ap (λ k. get_or (flat_map (output_columns base) (range_with_len a (suc n)) ++ rest) k 0) two
    ∙ output_at base (a + 1) n rest y (omega arith) ∙ same

outputs_long : (base a n : ℕ) → length (flat_map (output_columns base) (range_with_len a n)) ≡ 2 * n
outputs_long base a zero = omega arith
outputs_long base a (suc n) = let rest = outputs_long base (a + 1) n in omega arith

-- ---- all of them

module _ (c : ArrayCounts) where
  abbrev sums : ℕ
  sums = sums_from c

  abbrev clocks : List ℕ
  clocks = every_second (sums + 8 * (c.positions + c.outputs)) 4

  abbrev outputs : List ℕ
  outputs = flat_map (output_columns (sums + 8 * c.positions)) (range_with_len 0 c.outputs) ++ clocks

  abbrev behind_ground : List ℕ
  behind_ground = every_second sums (4 * c.positions) ++ outputs

  pub places_long : length (array_places c) ≡ part_nets c
  places_long =
      let a = seconds_long 2 (reset_net c + 2) in
      let b = seconds_long sums (4 * c.positions) in
      let d = outputs_long (sums + 8 * c.positions) 0 c.outputs in
      let e = seconds_long (sums + 8 * (c.positions + c.outputs)) 4 in
      let f = length-append (flat_map (output_columns (sums + 8 * c.positions)) (range_with_len 0 c.outputs)) clocks in
      let g = length-append (every_second sums (4 * c.positions)) outputs in
      let h = length-append (every_second 2 (reset_net c + 2)) behind_ground in
      omega arith

  module _ (cols : ℕ) (wide : sums + 8 * (c.positions + c.outputs) + 8 ≤ cols) where
    clock_wires : AreWiresFrom (sums + 8 * (c.positions + c.outputs)) clocks cols
    clock_wires = (omega arith, (omega arith, (omega arith, (omega arith, omega arith))))

    sum_wires : AreWiresFrom sums behind_ground cols
    sum_wires =
        second_wires sums 0 (4 * c.positions) sums (sums + 8 * c.positions) outputs cols (omega arith) (omega arith)
        (output_wires (sums + 8 * c.positions) 0 c.outputs (sums + 8 * c.positions) (sums + 8 * (c.positions + c.outputs)) clocks cols (omega arith)
        (omega arith) clock_wires)

    pub places_are_wires : AreWires (array_places c) cols
    places_are_wires = second_wires 2 0 (reset_net c + 2) 2 sums behind_ground cols (omega arith) (omega arith) sum_wires

    pub places_behind : (net : ℕ) → reset_net c + 2 ≤ net → net < part_nets c → sums ≤ get_or (array_places c) net 0
    places_behind net l lt =
        let long = places_long in
        let a = seconds_long 2 (reset_net c + 2) in
        let h = length-append (every_second 2 (reset_net c + 2)) behind_ground in
        let k = net - (reset_net c + 2) in
        let e : net ≡ reset_net c + 2 + k = omega arith in
        let low = at_least behind_ground sums cols k sum_wires (omega arith) in
        let read = ap (λ m. get_or (array_places c) m 0) e ∙ second_behind 2 (reset_net c + 2) behind_ground k in
        omega arith

  pub left_place : (net : ℕ) → net < reset_net c + 2 → get_or (array_places c) net 0 ≡ 2 + 2 * net
  left_place net lt = second_at 2 (reset_net c + 2) behind_ground net lt

  -- the column of a position's net
  pub position_place : (k : ℕ) → k < 4 * c.positions → get_or (array_places c) (reset_net c + 2 + k) 0 ≡ sums + 2 * k
  position_place k lt = second_behind 2 (reset_net c + 2) behind_ground k ∙ second_at sums (4 * c.positions) outputs k lt

  -- the column of an output's complement
  pub output_place : (y : ℕ) → y < c.outputs → get_or (array_places c) (reset_net c + 2 + (4 * c.positions + 2 * y)) 0 ≡ sums + 8 * (c.positions + y) + 2
  output_place y lt =
      let same : sums + 8 * c.positions + 8 * (0 + y) + 2 ≡ sums + 8 * (c.positions + y) + 2 = omega arith in
      second_behind 2 (reset_net c + 2) behind_ground (4 * c.positions + 2 * y)
      ∙ second_behind sums (4 * c.positions) outputs (2 * y)
      ∙ output_at (sums + 8 * c.positions) 0 c.outputs clocks y lt
      ∙ same

-- the columns by the numbers of left nets, positions and outputs
abbrev pub columns_by : ℕ → ℕ → ℕ → List ℕ
columns_by left n q =
    every_second 2 (left + 2) ++ (every_second (2 * left + 7) (4 * n)
    ++ (flat_map (output_columns (2 * left + 7 + 8 * n)) (range_with_len 0 q) ++ every_second (2 * left + 7 + 8 * (n + q)) 4))

pub same_columns : (j k m l n q : ℕ) → j ≡ l → k ≡ n → m ≡ q → columns_by (2 + 2 * j + k) k m ≡ columns_by (2 + 2 * l + n) n q
same_columns j k m l n q a b d = λ i. columns_by (2 + 2 * a i + b i) (b i) (d i)

-- how many columns there are, by the numbers of left nets, positions and outputs
pub columns_long : (left n q : ℕ) → length (every_second 2 (left + 2) ++ (every_second (2 * left + 7) (4 * n)
    ++ (flat_map (output_columns (2 * left + 7 + 8 * n)) (range_with_len 0 q) ++ every_second (2 * left + 7 + 8 * (n + q)) 4)))
    ≡ left + 4 * n + 2 * q + 6
columns_long left n q =
    let a = seconds_long 2 (left + 2) in
    let b = seconds_long (2 * left + 7) (4 * n) in
    let d = outputs_long (2 * left + 7 + 8 * n) 0 q in
    let last = every_second (2 * left + 7 + 8 * (n + q)) 4 in
    let e = seconds_long (2 * left + 7 + 8 * (n + q)) 4 in
    let pairs = flat_map (output_columns (2 * left + 7 + 8 * n)) (range_with_len 0 q) in
    let f = length-append pairs last in
    let g = length-append (every_second (2 * left + 7) (4 * n)) (pairs ++ last) in
    let h = length-append (every_second 2 (left + 2)) (every_second (2 * left + 7) (4 * n) ++ (pairs ++ last)) in
    omega arith
