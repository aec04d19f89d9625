-- Which net of the whole a net of a part is: what stands at each place of the list.
use Rattle.std.proofs.Common.{◌≡◌, inl, inr, ℕ, zero, suc, ◌+◌, ◌-◌, ◌<◌, List, ◌∷◌, ◌++◌, slice_index_or, refl, ◌∙◌, arith}
use Rattle.std.specs.List.{range_with_len}
use Rattle.std.proofs.lemmas.Bool.{cases_lt}
use Rattle.cell_network.specs.declared.numbering.Counts.{Counts}
use Rattle.cell_network.specs.declared.numbering.Numbering.{Numbering}
use Rattle.cell_network.specs.Parts.{inn_wire, bundle}
use Rattle.cell_network.specs.Assembled.{with_wires}

-- ---- ranges

pub in_range : (a n : ℕ) (ys : List ℕ) (i : ℕ) → i < n → slice_index_or (range_with_len a n ++ ys) i 0 ≡ a + i
in_range a zero ys i lt = absurd (omega (arith, lt))
in_range a (suc n) ys zero lt = omega arith
in_range a (suc n) ys (suc i) lt =
    let e : a + 1 + i ≡ a + suc i = omega arith in
    in_range (a + 1) n ys i (omega (arith, lt)) ∙ e

pub behind_range : (a n : ℕ) (ys : List ℕ) (i : ℕ) → slice_index_or (range_with_len a n ++ ys) (n + i) 0 ≡ slice_index_or ys i 0
behind_range a zero ys i = let e : 0 + i ≡ i = omega arith in rw e refl
behind_range a (suc n) ys i = let e : suc n + i ≡ suc (n + i) = omega arith in rw e (behind_range (a + 1) n ys i)

-- ---- wires and own nets

module _ (c : Counts) (n : Numbering) (own : List ℕ) where
  abbrev fixed : List ℕ
  fixed = n.inn ∷ n.out ∷ n.reset ∷ 2 ∷ 3 ∷ n.vdd ∷ 1 ∷ own

  pub read_symbol : (s : ℕ) → s < c.symbols → slice_index_or (with_wires c n own) s 0 ≡ n.symbols + s
  read_symbol s lt = in_range n.symbols c.symbols (range_with_len n.shared c.outputs ++ fixed) s lt

  pub read_shared : (y : ℕ) → y < c.outputs → slice_index_or (with_wires c n own) (c.symbols + y) 0 ≡ n.shared + y
  read_shared y lt = behind_range n.symbols c.symbols (range_with_len n.shared c.outputs ++ fixed) y ∙ in_range n.shared c.outputs fixed y lt

  -- from IN on
  pub read_fixed : (k : ℕ) → slice_index_or (with_wires c n own) (inn_wire c + k) 0 ≡ slice_index_or fixed k 0
  read_fixed k =
      let e : inn_wire c + k ≡ c.symbols + (c.outputs + k) = omega arith in
      rw e (behind_range n.symbols c.symbols (range_with_len n.shared c.outputs ++ fixed) (c.outputs + k) ∙ behind_range n.shared c.outputs fixed k)

  pub read_inn : slice_index_or (with_wires c n own) (inn_wire c) 0 ≡ n.inn
  read_inn = let e : inn_wire c + 0 ≡ inn_wire c = omega arith in rw e at (read_fixed 0)

  pub read_own : (k : ℕ) → slice_index_or (with_wires c n own) (bundle c + k) 0 ≡ slice_index_or own k 0
  read_own k = let e : bundle c + k ≡ inn_wire c + suc (suc (suc (suc (suc (suc (suc k)))))) = omega arith in rw e (read_fixed (suc (suc (suc (suc (suc (suc (suc k))))))))

  pub read_first : slice_index_or (with_wires c n own) (bundle c) 0 ≡ slice_index_or own 0 0
  read_first = let e : bundle c + 0 ≡ bundle c = omega arith in rw e at (read_own 0)

-- where a wire stands in a bundle
pub data WireCase (c : Counts) (net : ℕ) : Type 0 where
  symbol_wire : net < c.symbols → WireCase c net
  shared_wire : (y : ℕ) → y < c.outputs → net ≡ c.symbols + y → WireCase c net
  fixed_wire : (k : ℕ) → k < 7 → net ≡ inn_wire c + k → WireCase c net

pub wire_case : (c : Counts) (net : ℕ) → net < bundle c → WireCase c net
wire_case c net lt = elim (cases_lt net c.symbols) [
  | inl l ↦ symbol_wire l
  | inr m ↦
      elim (cases_lt net (inn_wire c)) [
        | inl l ↦ shared_wire (net - c.symbols) (omega (arith, l, m)) (omega (arith, l, m))
        | inr k ↦ fixed_wire (net - inn_wire c) (omega (arith, k, lt)) (omega (arith, k, lt))
      ]
]

pub below_seven : (P : ℕ → Type 0) → P 0 → P 1 → P 2 → P 3 → P 4 → P 5 → P 6 → (k : ℕ) → k < 7 → P k
below_seven P a b c d e f g zero lt = a
below_seven P a b c d e f g (suc zero) lt = b
below_seven P a b c d e f g (suc (suc zero)) lt = c
below_seven P a b c d e f g (suc (suc (suc zero))) lt = d
below_seven P a b c d e f g (suc (suc (suc (suc zero)))) lt = e
below_seven P a b c d e f g (suc (suc (suc (suc (suc zero))))) lt = f
below_seven P a b c d e f g (suc (suc (suc (suc (suc (suc zero)))))) lt = g
below_seven P a b c d e f g (suc (suc (suc (suc (suc (suc (suc k))))))) lt = absurd (omega (arith, lt))
