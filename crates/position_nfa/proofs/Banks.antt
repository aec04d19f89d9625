-- Nets that are numbered bank by bank, and in a bank row by row: orders of them by slots, a slot being a column of a bank.
use Rattle.std.specs.Prelude.{flat_map}
use Rattle.std.proofs.Common.{◌≡◌, ◌≢◌, ◌⊎◌, inl, inr, ℕ, zero, suc, ◌+◌, ◌-◌, ◌*◌, ◌<◌, ◌≤◌, ◌==◌, ◌&&◌, ◌||◌, not, if◌then◌else◌, Bool, true, false, List, [], ◌∷◌, ◌++◌, length, map, slice_get, Some, Contains, refl, ap, sym, ◌∙◌, arith, eq-eqb, eqb-true, length-append}
use Rattle.std.specs.List.{AllByRecursion, range_with_len, list_any}
use Rattle.std.proofs.Math.Nat.{mul-suc}
use Rattle.std.proofs.lemmas.Bool.{ne_eqb, cases_eq, cases_lt, cases_Bool, and_parts, and_from}
use Rattle.std.proofs.lemmas.List.Elements.{Contains-append_left, Contains-append_right}
use Rattle.nor_net.specs.Netlist.{place}
use Rattle.position_nfa.proofs.Ranges.{Pairs, each_append, each_range, each_weaker, pairs_append, pairs_range}

-- so many rows of so many nets
pub record Bank : Type 0 where
  pub width : ℕ
  pub rows : ℕ

pub record Slot : Type 0 where
  pub bank : ℕ
  pub column : ℕ

abbrev pub slot : ℕ → ℕ → Slot
slot b o = record { bank = b; column = o }

-- the number of a net: bank, column and row
abbrev pub number : List Bank → ℕ → ℕ → ℕ → ℕ
number [] b o i = zero
number (k ∷ ks) zero o i = k.width * i + o
number (k ∷ ks) (suc b) o i = k.width * k.rows + number ks b o i

abbrev pub total : List Bank → ℕ
total [] = zero
total (k ∷ ks) = k.width * k.rows + total ks

abbrev pub width_of : List Bank → ℕ → ℕ
width_of [] b = zero
width_of (k ∷ ks) zero = k.width
width_of (k ∷ ks) (suc b) = width_of ks b

abbrev pub rows_of : List Bank → ℕ → ℕ
rows_of [] b = zero
rows_of (k ∷ ks) zero = k.rows
rows_of (k ∷ ks) (suc b) = rows_of ks b

-- ---- numbers

row_below : (w o i n : ℕ) → o < w → i < n → w * i + o < w * n
row_below w o i zero l lt = absurd (omega (arith, lt))
row_below w o i (suc n) l lt =
    elim (cases_lt i n) [
      | inl below ↦ let h = row_below w o i n l below in omega (arith, h, mul-suc w n)
      | inr last ↦
          let same : i ≡ n = omega (arith, lt, last) in
          rw same (omega (arith, mul-suc w n, l))
    ]

pub below_total : (ks : List Bank) (b o i : ℕ) → o < width_of ks b → i < rows_of ks b → number ks b o i < total ks
below_total [] b o i l lt = absurd (omega (arith, lt))
below_total (k ∷ ks) zero o i l lt = let h = row_below k.width o i k.rows l lt in omega (arith, h)
below_total (k ∷ ks) (suc b) o i l lt = let h = below_total ks b o i l lt in omega (arith, h)

same_row : (w o i p j : ℕ) → o < w → p < w → w * i + o ≡ w * j + p → (o ≡ p) × (i ≡ j)
same_row w o i p j l m e =
    elim (cases_lt i j) [
      | inl lt ↦ let h = row_below w o i j l lt in absurd (omega (arith, h, e))
      | inr ge ↦
          elim (cases_lt j i) [
            | inl lt ↦ let h = row_below w p j i m lt in absurd (omega (arith, h, e))
            | inr le ↦
                let same : i ≡ j = omega (arith, ge, le) in
                let f : w * j + o ≡ w * j + p = rw (← same) (e ∙ rw same refl) in
                (omega (arith, f), same)
          ]
    ]

-- two nets of one number are one
pub record Same (b o i c p j : ℕ) : Type 0 where
  pub bank : b ≡ c
  pub column : o ≡ p
  pub row : i ≡ j

pub one_net : (ks : List Bank) (b o i c p j : ℕ) → o < width_of ks b → i < rows_of ks b → p < width_of ks c → j < rows_of ks c
    → number ks b o i ≡ number ks c p j → Same b o i c p j
one_net [] b o i c p j l lt m mt e = absurd (omega (arith, lt))
one_net (k ∷ ks) zero o i zero p j l lt m mt e =
    let h = same_row k.width o i p j l m e in
    record { bank = refl; column = h.0; row = h.1 }
one_net (k ∷ ks) zero o i (suc c) p j l lt m mt e =
    let h = row_below k.width o i k.rows l lt in
    absurd (omega (arith, h, e))
one_net (k ∷ ks) (suc b) o i zero p j l lt m mt e =
    let h = row_below k.width p j k.rows m mt in
    absurd (omega (arith, h, e))
one_net (k ∷ ks) (suc b) o i (suc c) p j l lt m mt e =
    let h = one_net ks b o i c p j l lt m mt (omega (arith, e)) in
    record { bank = ap suc h.bank; column = h.column; row = h.row }

-- and every number below is that of a net
pub record Named (ks : List Bank) (net : ℕ) : Type 0 where
  pub bank : ℕ
  pub column : ℕ
  pub row : ℕ
  pub in_width : column < width_of ks bank
  pub in_rows : row < rows_of ks bank
  pub is : number ks bank column row ≡ net

record Cell (w n net : ℕ) : Type 0 where
  column : ℕ
  row : ℕ
  in_width : column < w
  in_rows : row < n
  is : w * row + column ≡ net

in_cell : (w n net : ℕ) → net < w * n → Cell w n net
in_cell w zero net lt = absurd (let z : w * 0 ≡ 0 = omega arith in omega (arith, lt, z))
in_cell w (suc n) net lt =
    elim (cases_lt net (w * n)) [
      | inl low ↦
          let h = in_cell w n net low in
          record { column = h.column; row = h.row; in_width = h.in_width; in_rows = (let l = h.in_rows in omega (arith, l)); is = h.is }
      | inr high ↦
          record { column = net - w * n; row = n; in_width = omega (arith, lt, high, mul-suc w n); in_rows = omega arith; is = omega (arith, high) }
    ]

pub name_of : (ks : List Bank) (net : ℕ) → net < total ks → Named ks net
name_of [] net lt = absurd (omega (arith, lt))
name_of (k ∷ ks) net lt =
    elim (cases_lt net (k.width * k.rows)) [
      | inl low ↦
          let h = in_cell k.width k.rows net low in
          record { bank = zero; column = h.column; row = h.row; in_width = h.in_width; in_rows = h.in_rows; is = h.is }
      | inr high ↦
          let h = name_of ks (net - k.width * k.rows) (omega (arith, lt, high)) in
          let e = h.is in
          record { bank = suc h.bank; column = h.column; row = h.row; in_width = h.in_width; in_rows = h.in_rows; is = omega (arith, e, high) }
    ]

-- ---- slots

abbrev pub is_slot : Slot → Slot → Bool
is_slot s t = s.bank == t.bank && s.column == t.column

-- the nets of a slot in the order of rows
abbrev pub nets_of : List Bank → Slot → List ℕ
nets_of ks s = map (number ks s.bank s.column) (range_with_len 0 (rows_of ks s.bank))

abbrev pub ordered : List Bank → List Slot → List ℕ
ordered ks slots = flat_map (nets_of ks) slots

-- the net is one of the slot
pub record IsOf (ks : List Bank) (s : Slot) (net : ℕ) : Type 0 where
  pub row : ℕ
  pub in_width : s.column < width_of ks s.bank
  pub in_rows : row < rows_of ks s.bank
  pub is : net ≡ number ks s.bank s.column row

pub slots_differ : (ks : List Bank) (s t : Slot) (a b : ℕ) → is_slot s t ≡ false → IsOf ks s a → IsOf ks t b → a ≢ b
slots_differ ks s t a b other h k e =
    let same = one_net ks s.bank s.column h.row t.bank t.column k.row h.in_width h.in_rows k.in_width k.in_rows (sym h.is ∙ e ∙ k.is) in
    let here : is_slot s t ≡ true = and_from (s.bank == t.bank) (s.column == t.column) (eq-eqb s.bank t.bank same.bank) (eq-eqb s.column t.column same.column) in
    let clash : false ≡ true = sym other ∙ here in
    cc

-- the slot s stands in the list, and t not before it
abbrev pub precedes : List Slot → Slot → Slot → Bool
precedes [] s t = false
precedes (x ∷ slots) s t = not (is_slot x t) && (is_slot x s || precedes slots s t)

module _ (ks : List Bank) where
  each_of : (s : Slot) → s.column < width_of ks s.bank → AllByRecursion (IsOf ks s) (nets_of ks s)
  each_of s l =
      each_range (IsOf ks s) (number ks s.bank s.column) 0 (rows_of ks s.bank)
      (λ i a lt. record { row = i; in_width = l; in_rows = omega (arith, lt); is = refl })

  -- ---- an order is below the total

  pub order_below : (slots : List Slot) → AllByRecursion (λ (s : Slot). s.column < width_of ks s.bank) slots
      → AllByRecursion (λ net. net < total ks) (ordered ks slots)
  order_below [] h = tt
  order_below (s ∷ slots) h =
      each_append (λ net. net < total ks) (nets_of ks s) (ordered ks slots)
      (each_weaker (IsOf ks s) (λ net. net < total ks) (λ net k. rw (k.is) (below_total ks s.bank s.column k.row k.in_width k.in_rows)) (nets_of ks s) (each_of s h.0))
      (order_below slots h.1)

  -- ---- and repeats nothing

  -- the slot is not among these
  abbrev pub Off : Slot → List Slot → Type 0
  Off s slots = AllByRecursion (λ t. is_slot s t ≡ false) slots

  off_order : (s : Slot) (slots : List Slot) (a : ℕ) → AllByRecursion (λ (t : Slot). t.column < width_of ks t.bank) slots → Off s slots → IsOf ks s a
      → AllByRecursion (λ b. a ≢ b) (ordered ks slots)
  off_order s [] a w h k = tt
  off_order s (t ∷ slots) a w h k =
      each_append (λ b. a ≢ b) (nets_of ks t) (ordered ks slots)
      (each_weaker (IsOf ks t) (λ b. a ≢ b) (λ b m. slots_differ ks s t a b h.0 k m) (nets_of ks t) (each_of t w.0))
      (off_order s slots a w.1 h.1 k)

  pub order_distinct : (slots : List Slot) → AllByRecursion (λ (s : Slot). s.column < width_of ks s.bank) slots
      → Pairs (λ s t. is_slot s t ≡ false) slots → Pairs (λ (a b : ℕ). a ≢ b) (ordered ks slots)
  order_distinct [] w h = tt
  order_distinct (s ∷ slots) w h =
      pairs_append (λ (a b : ℕ). a ≢ b) (nets_of ks s) (ordered ks slots)
      (pairs_range (λ (a b : ℕ). a ≢ b) (number ks s.bank s.column) 0 (rows_of ks s.bank)
      (λ i j a l lt e.
      let same = one_net ks s.bank s.column i s.bank s.column j w.0 (omega (arith, l, lt)) w.0 (omega (arith, lt)) e in
      let row = same.row in
      omega (arith, row, l)))
      (order_distinct slots w.1 h.1)
      (each_weaker (IsOf ks s) (λ a. AllByRecursion (λ b. a ≢ b) (ordered ks slots)) (λ a k. off_order s slots a w.1 h.0 k) (nets_of ks s) (each_of s w.0))

  -- ---- and has every net of its slots

  range_has : (f : ℕ → ℕ) (a n i : ℕ) → a ≤ i → i < a + n → Contains (map f (range_with_len a n)) (f i)
  range_has f a zero i l lt = absurd (omega arith)
  range_has f a (suc n) i l lt =
      elim (cases_eq a i) [
        | inl e ↦ (0, omega arith, ap f e)
        | inr ne ↦ let h = range_has f (a + 1) n i (omega (arith, ne)) (omega arith) in Contains-append_right (f a ∷ []) (map f (range_with_len (a + 1) n)) (f i) h
      ]

  pub slot_has : (s t : Slot) (net : ℕ) → is_slot s t ≡ true → IsOf ks t net → Contains (nets_of ks s) net
  slot_has s t net same h =
      let both = and_parts (s.bank == t.bank) (s.column == t.column) same in
      let bank : s.bank ≡ t.bank = eqb-true s.bank t.bank both.0 in
      let column : s.column ≡ t.column = eqb-true s.column t.column both.1 in
      let lt = h.in_rows in
      rw (h.is, bank, column) (range_has (number ks t.bank t.column) 0 (rows_of ks t.bank) h.row (omega arith) (omega (arith, lt)))

  pub order_has : (slots : List Slot) (t : Slot) (net : ℕ) → list_any (λ s. is_slot s t) slots ≡ true → IsOf ks t net → Contains (ordered ks slots) net
  order_has [] t net some h = absurd (cc)
  order_has (s ∷ slots) t net some h =
      elim (cases_Bool (is_slot s t)) [
        | inl here ↦ Contains-append_left (nets_of ks s) (ordered ks slots) net (slot_has s t net here h)
        | inr other ↦
            let later : list_any (λ s. is_slot s t) slots ≡ true = (let f : (false || list_any (λ s. is_slot s t) slots) ≡ true = rw other at some in f) in
            Contains-append_right (nets_of ks s) (ordered ks slots) net (order_has slots t net later h)
      ]

  -- ---- the places of an order

  place_in : (xs ys : List ℕ) (a : ℕ) → Contains xs a → place (xs ++ ys) a < length xs
  place_in [] ys a h = absurd (let l = h.1 in omega (arith, l))
  place_in (x ∷ xs) ys a h =
      elim (cases_eq x a) [
        | inl e ↦ rw (eq-eqb x a e) (omega arith)
        | inr ne ↦ rw (ne_eqb x a ne) (let l = place_in xs ys a (later xs x a h ne) in omega (arith, l))
      ]
    where
      later : (xs : List ℕ) (x a : ℕ) → Contains (x ∷ xs) a → x ≢ a → Contains xs a
      later xs x a (zero, lt, e) ne = absurd (ne e)
      later xs x a (suc i, lt, e) ne = (i, omega (arith, lt), e)

  place_off : (xs ys : List ℕ) (a : ℕ) → AllByRecursion (λ x. x ≢ a) xs → place (xs ++ ys) a ≡ length xs + place ys a
  place_off [] ys a h = omega arith
  place_off (x ∷ xs) ys a h = rw (ne_eqb x a h.0) (let e = place_off xs ys a h.1 in omega (arith, e))

  off_slot : (x t : Slot) (b : ℕ) → x.column < width_of ks x.bank → is_slot x t ≡ false → IsOf ks t b → AllByRecursion (λ a. a ≢ b) (nets_of ks x)
  off_slot x t b l other h = each_weaker (IsOf ks x) (λ a. a ≢ b) (λ a k. slots_differ ks x t a b other k h) (nets_of ks x) (each_of x l)

  not_true : (b : Bool) → not b ≡ true → b ≡ false
  not_true true e = absurd (cc)
  not_true false e = refl

  pub places_rise : (slots : List Slot) (s t : Slot) (a b : ℕ) → AllByRecursion (λ (x : Slot). x.column < width_of ks x.bank) slots
      → precedes slots s t ≡ true → IsOf ks s a → IsOf ks t b → place (ordered ks slots) a < place (ordered ks slots) b
  places_rise [] s t a b w p h k = absurd (cc)
  places_rise (x ∷ slots) s t a b w p h k =
      let both = and_parts (not (is_slot x t)) (is_slot x s || precedes slots s t) p in
      let off = place_off (nets_of ks x) (ordered ks slots) b (off_slot x t b w.0 (not_true (is_slot x t) both.0) k) in
      elim (cases_Bool (is_slot x s)) [
        | inl here ↦ let l = place_in (nets_of ks x) (ordered ks slots) a (slot_has x s a here h) in omega (arith, off, l)
        | inr other ↦
            let later : precedes slots s t ≡ true = (let f : (false || precedes slots s t) ≡ true = rw other at both.1 in f) in
            let skip = place_off (nets_of ks x) (ordered ks slots) a (off_slot x s a w.0 other h) in
            let rise = places_rise slots s t a b w.1 later h k in
            omega (arith, off, skip, rise)
      ]
