-- The devices of a row, in the order of columns, and up to that order.
use Rattle.std.proofs.Common.{◌≡◌, ℕ, zero, suc, ◌+◌, ◌-◌, ◌<◌, ◌≤◌, ◌==◌, Bool, true, false, inl, inr, List, [], ◌∷◌, ◌++◌, length, All, IsPermutation, refl, sym, ◌∙◌, ap, subst, arith}
use Rattle.std.specs.Prelude.{flat_map, AllPairs, ◌≢◌}
use Rattle.std.specs.List.{range_with_len}
use Rattle.std.proofs.lemmas.Bool.{cases_eq, eq-eqb, ne_eqb}
use Rattle.std.proofs.lemmas.List.Elements.{All-head, All-tail}
use Rattle.std.proofs.lemmas.List.Sorted.{IsPermutation-refl, IsPermutation-trans, IsPermutation-cons, IsPermutation-middle, IsPermutation-append}
use Rattle.switch_net.specs.declared.network.Device.{Device}
use Rattle.switch_net.specs.declared.network.Device.TheVariants as devices
use Rattle.nor_net.specs.SwitchForm.{at}
use Rattle.gate_matrix.specs.declared.column.Column.{Column}
use Rattle.gate_matrix.specs.declared.column.Column.TheVariants as columns
use Rattle.gate_matrix.specs.declared.row.RowKind.{RowKind}
use Rattle.gate_matrix.specs.declared.row.RowKind.TheVariants.{Start, Through, Stop, Vdd, Load, Out, Top, Middle, Bottom}
use Rattle.gate_matrix.specs.Columns.{column_of, AreWires}
use Rattle.gate_matrix.specs.Cells.{is_gated}
use Rattle.gate_matrix.specs.MatrixNets.{passes_of, row_devices, AreGates}
use Rattle.gate_matrix.proofs.ColumnsOfNets.{column_for, of_device, of_load, device_of}
use Rattle.gate_matrix.proofs.CellDevices.{load_device, pass_device, cell_device}
use Rattle.gate_matrix.proofs.FilledColumns.{within, room}

-- ---- lists made over a range

pub flat_same : {X : Type 0} (f g : ℕ → List X) (a n : ℕ) → ((k : ℕ) → a ≤ k → k < a + n → f k ≡ g k)
    → flat_map f (range_with_len a n) ≡ flat_map g (range_with_len a n)
flat_same f g a zero each = refl
flat_same f g a (suc n) each =
    ap (λ l. l ++ flat_map f (range_with_len (a + 1) n)) (each a (omega arith) (omega arith))
    ∙ ap (λ l. g a ++ l) (flat_same f g (a + 1) n (λ k from below. each k (omega arith) (omega arith)))

pub flat_none : {X : Type 0} (f : ℕ → List X) (a n : ℕ) → ((k : ℕ) → a ≤ k → k < a + n → f k ≡ []) → flat_map f (range_with_len a n) ≡ []
flat_none f a zero each = refl
flat_none f a (suc n) each =
    ap (λ l. l ++ flat_map f (range_with_len (a + 1) n)) (each a (omega arith) (omega arith))
    ∙ flat_none f (a + 1) n (λ k from below. each k (omega arith) (omega arith))

-- one place of a range that has an entry more
pub flat_one_more : {X : Type 0} (f g : ℕ → List X) (x : X) (a n place : ℕ) → a ≤ place → place < a + n → f place ≡ x ∷ g place
    → ((k : ℕ) → (k ≡ place → ⊥) → f k ≡ g k) → IsPermutation (flat_map f (range_with_len a n)) (x ∷ flat_map g (range_with_len a n))
flat_one_more f g x a zero place from below here each = absurd (omega arith)
flat_one_more f g x a (suc n) place from below here each = elim (cases_eq a place) [
  | inl e ↦
      let first : f a ≡ x ∷ g a = ap f e ∙ here ∙ ap (λ (k : ℕ). x ∷ g k) (sym e) in
      let rest = flat_same f g (a + 1) n (λ k low high. each k (λ h. omega arith)) in
      let whole : flat_map f (range_with_len a (suc n)) ≡ x ∷ flat_map g (range_with_len a (suc n)) =
      ap (λ l. l ++ flat_map f (range_with_len (a + 1) n)) first ∙ ap (λ l. x ∷ (g a ++ l)) rest in
      subst (IsPermutation (flat_map f (range_with_len a (suc n)))) whole (IsPermutation-refl (flat_map f (range_with_len a (suc n))))
  | inr h ↦
      let first = each a h in
      let low : a + 1 ≤ place = omega (arith, h) in
      let rest = flat_one_more f g x (a + 1) n place low (omega arith) here each in
      let fs = flat_map f (range_with_len (a + 1) n) in
      let gs = flat_map g (range_with_len (a + 1) n) in
      subst (λ l. IsPermutation (l ++ fs) (x ∷ (g a ++ gs))) (sym first)
      (IsPermutation-trans (g a ++ fs) (g a ++ x ∷ gs) (x ∷ (g a ++ gs))
      (IsPermutation-append (g a) (g a) fs (x ∷ gs) (IsPermutation-refl (g a)) rest)
      (IsPermutation-middle (g a) x gs))
]

pub flat_permuted : {X : Type 0} (f g : ℕ → List X) (a n : ℕ) → ((k : ℕ) → k < a + n → IsPermutation (f k) (g k))
    → IsPermutation (flat_map f (range_with_len a n)) (flat_map g (range_with_len a n))
flat_permuted f g a zero each = IsPermutation-refl []
flat_permuted f g a (suc n) each =
    IsPermutation-append (f a) (g a) _ _ (each a (omega arith)) (flat_permuted f g (a + 1) n (λ k below. each k (omega arith)))

-- ---- a row of devices

not_among : (gated : List ℕ) (i : ℕ) → All (λ j. i ≢ j) gated → is_gated gated i ≡ false
not_among [] i h = refl
not_among (j ∷ gated) i h =
    let apart = All-head (λ k. i ≢ k) j gated h in
    let rest = not_among gated i (All-tail (λ k. i ≢ k) j gated h) in
    let test : (j == i) ≡ false = ne_eqb j i (λ e. apart (sym e)) in
    rw (test, rest) refl

pub apart_from : (x : ℕ) (xs : List ℕ) → AllPairs (λ i j. i ≢ j) (x ∷ xs) → All (λ j. x ≢ j) xs
apart_from x xs h k d below = h 0 (suc k) d (omega arith) (omega arith)

pub apart_tail : (x : ℕ) (xs : List ℕ) → AllPairs (λ i j. i ≢ j) (x ∷ xs) → AllPairs (λ i j. i ≢ j) xs
apart_tail x xs h i j d less below = h (suc i) (suc j) d (omega arith) (omega arith)

module _ (wires : List ℕ) (cols : ℕ) (w : AreWires wires cols) (above below : ℕ) where
  pass_none : (k : Column) → cell_device Middle [] above below k ≡ []
  pass_none columns.Load = refl
  pass_none columns.Gate = refl
  pass_none (columns.Wire i) = refl
  pass_none (columns.Device i) = refl
  pass_none columns.Free = refl

  pass_here : (i : ℕ) (gated : List ℕ) → is_gated gated i ≡ false
      → cell_device Middle (i ∷ gated) above below (columns.Device i) ≡ devices.Pass (at i) (at above)
      (at below) ∷ cell_device Middle gated above below (columns.Device i)
  pass_here i gated none = let test : (i == i) ≡ true = eq-eqb i i refl in rw (test, none) refl

  pass_other : (i : ℕ) (gated : List ℕ) (k : Column) → ((j : ℕ) → k ≡ columns.Device j → i ≡ j → ⊥)
      → cell_device Middle (i ∷ gated) above below k ≡ cell_device Middle gated above below k
  pass_other i gated columns.Load h = refl
  pass_other i gated columns.Gate h = refl
  pass_other i gated (columns.Wire j) h = refl
  pass_other i gated (columns.Device j) h = let test : (i == j) ≡ false = ne_eqb i j (h j refl) in rw test refl
  pass_other i gated columns.Free h = refl

  passes_permuted : (gated : List ℕ) → AreGates (length wires) gated
      → IsPermutation (flat_map (λ c. cell_device Middle gated above below (column_of wires c)) (range_with_len 0 cols)) (passes_of gated above below)
  passes_permuted [] gates =
      subst (λ l. IsPermutation l []) (sym (flat_none (λ c. cell_device Middle [] above below (column_of wires c)) 0 cols
      (λ c from high. pass_none (column_of wires c))))
      (IsPermutation-refl [])
  passes_permuted (i ∷ gated) gates =
      let few : i < length wires = All-head (λ j. j < length wires) i gated gates.below in
      let rest : AreGates (length wires) gated =
      record { below = All-tail (λ j. j < length wires) i gated gates.below; distinct = apart_tail i gated gates.distinct } in
      let place = column_for wires i + 1 in
      let inside = (within wires cols 2 i w few).1 in
      let column = device_of wires cols i w few in
      let none = not_among gated i (apart_from i gated gates.distinct) in
      let pass = devices.Pass (at i) (at above) (at below) in
      let more = λ (c : ℕ). cell_device Middle (i ∷ gated) above below (column_of wires c) in
      let fewer = λ (c : ℕ). cell_device Middle gated above below (column_of wires c) in
      let here : more place ≡ pass ∷ fewer place =
      ap (cell_device Middle (i ∷ gated) above below) column ∙ pass_here i gated none
      ∙ ap (λ k. pass ∷ cell_device Middle gated above below k) (sym column) in
      let others : (c : ℕ) → (c ≡ place → ⊥) → more c ≡ fewer c =
      λ c other. pass_other i gated (column_of wires c) (λ j k e.
      let column_is = (of_device wires j c k).1 in
      let place_is : column_for wires i + 1 ≡ column_for wires j + 1 = ap (λ (n : ℕ). column_for wires n + 1) e in
      other (sym column_is ∙ sym place_is)) in
      IsPermutation-trans (flat_map more (range_with_len 0 cols)) (pass ∷ flat_map fewer (range_with_len 0 cols)) (pass ∷ passes_of gated above below)
      (flat_one_more more fewer pass 0 cols place (omega arith) (omega arith) here others)
      (IsPermutation-cons pass (flat_map fewer (range_with_len 0 cols)) (passes_of gated above below) (passes_permuted gated rest))

  -- rows of other kinds have none, but for loads in the first column
  load_other : (gated : List ℕ) (k : Column) → (k ≡ columns.Load → ⊥) → cell_device Load gated above below k ≡ []
  load_other gated columns.Load h = absurd (h refl)
  load_other gated columns.Gate h = refl
  load_other gated (columns.Wire i) h = refl
  load_other gated (columns.Device i) h = refl
  load_other gated columns.Free h = refl

  load_alone : (gated : List ℕ) (n : ℕ) → cols ≡ suc n
      → flat_map (λ c. cell_device Load gated above below (column_of wires c)) (range_with_len 0 (suc n)) ≡ devices.Load (at below) ∷ []
  load_alone gated n e =
      ap (λ l. devices.Load (at below) ∷ l)
      (flat_none (λ c. cell_device Load gated above below (column_of wires c)) 1 n
      (λ c from high. load_other gated (column_of wires c) (λ k. let first = of_load wires c k in omega arith)))

  abbrev row_of : RowKind → List ℕ → List Device
  row_of kind gated = flat_map (λ c. cell_device kind gated above below (column_of wires c)) (range_with_len 0 cols)

  equal : (xs ys : List Device) → xs ≡ ys → IsPermutation xs ys
  equal xs ys e = subst (IsPermutation xs) e (IsPermutation-refl xs)

  nothing : (kind : RowKind) (gated : List ℕ) → ((k : Column) → cell_device kind gated above below k ≡ []) → IsPermutation (row_of kind gated) []
  nothing kind gated each =
      equal (row_of kind gated) [] (flat_none (λ c. cell_device kind gated above below (column_of wires c)) 0 cols
      (λ c from high. each (column_of wires c)))

  no_device : (kind : RowKind) (gated : List ℕ) → ((net : ℕ) → load_device kind net ≡ [])
      → ((g : Bool) (i : ℕ) → pass_device kind g i above below ≡ [])
      → (k : Column) → cell_device kind gated above below k ≡ []
  no_device kind gated loads passes columns.Load = loads below
  no_device kind gated loads passes columns.Gate = refl
  no_device kind gated loads passes (columns.Wire i) = refl
  no_device kind gated loads passes (columns.Device i) = passes (is_gated gated i) i
  no_device kind gated loads passes columns.Free = refl

  pub row_permuted : (kind : RowKind) (gated : List ℕ) → (kind ≡ Middle → AreGates (length wires) gated)
      → IsPermutation (row_of kind gated) (row_devices kind gated above below)
  row_permuted Middle gated gates = passes_permuted gated (gates refl)
  row_permuted Load gated gates =
      let wide = room wires cols 2 w in
      let some : cols ≡ suc (cols - 1) = omega arith in
      equal (row_of Load gated) (devices.Load (at below) ∷ [])
      (ap (λ (n : ℕ). flat_map (λ c. cell_device Load gated above below (column_of wires c)) (range_with_len 0 n)) some
      ∙ load_alone gated (cols - 1) some)
  row_permuted Start gated gates = nothing Start gated (no_device Start gated (λ net. refl) (λ g i. refl))
  row_permuted Through gated gates = nothing Through gated (no_device Through gated (λ net. refl) (λ g i. refl))
  row_permuted Stop gated gates = nothing Stop gated (no_device Stop gated (λ net. refl) (λ g i. refl))
  row_permuted Vdd gated gates = nothing Vdd gated (no_device Vdd gated (λ net. refl) (λ g i. refl))
  row_permuted Out gated gates = nothing Out gated (no_device Out gated (λ net. refl) (λ g i. refl))
  row_permuted Top gated gates = nothing Top gated (no_device Top gated (λ net. refl) (λ g i. refl))
  row_permuted Bottom gated gates = nothing Bottom gated (no_device Bottom gated (λ net. refl) (λ g i. refl))
