-- Borders that no edge crosses: the rim of a sheet, and the open ports of its nodes.
use Rattle.std.proofs.Common.{◌≡◌, ℕ, ◌+◌, ◌<◌, Bool, true, false, not, nat_lt, nat_eq, cond, ◌&&◌, Some, None, length, get_or, refl, ◌∙◌, arith}
use Rattle.std.proofs.lemmas.Bool.{eqb-true}
use Rattle.std.proofs.lemmas.List.Folds.{list_any_none}
use Rattle.block_grid.specs.Lines.{BlockPlace, row_of, col_of}
use Rattle.block_grid.specs.Sheets.{
  DrawnEdge,
  Sheet,
  line_of,
  north_of,
  south_of,
  west_of,
  east_of,
  sides_of,
  node_on,
  stands_at,
  is_crossed_north,
  is_crossed_west,
  IsOutOpen,
  IsInOpen,
  EndsOn,
  IsSheet,
}
use Rattle.block_grid.proofs.Away.{away_south, away_east, crossings_rim}
use Rattle.block_grid.proofs.Nodes.{on_own_place, on_place}

zero_is_not : (n : ℕ) → n ≡ 0 → nat_lt 0 n ≡ false
zero_is_not n e = rw e refl

module _ (s : Sheet) (sheet : IsSheet s) where
  pub north_rim : (c : ℕ) → is_crossed_north s 0 c ≡ false
  north_rim c = list_any_none (λ e. nat_lt 0 (north_of e 0 c)) s.edges (λ k d lt. zero_is_not _ (crossings_rim row_of col_of c
      (get_or s.edges k d).start (line_of (get_or s.edges k d))))

  pub south_rim : (c : ℕ) → is_crossed_north s s.rows c ≡ false
  south_rim c = list_any_none (λ e. nat_lt 0 (north_of e s.rows c)) s.edges
      (λ k d lt. let none : sides_of (get_or s.edges k d) s.rows c ≡ 0 = (away_south s sheet s.rows c (omega arith)).edges k d lt in
      zero_is_not _ (omega arith))

  pub west_rim : (r : ℕ) → is_crossed_west s r 0 ≡ false
  west_rim r = list_any_none (λ e. nat_lt 0 (west_of e r 0)) s.edges (λ k d lt. zero_is_not _ (crossings_rim col_of row_of r
      (get_or s.edges k d).start (line_of (get_or s.edges k d))))

  pub east_rim : (r : ℕ) → is_crossed_west s r s.cols ≡ false
  east_rim r = list_any_none (λ e. nat_lt 0 (west_of e r s.cols)) s.edges
      (λ k d lt. let none : sides_of (get_or s.edges k d) r s.cols ≡ 0 = (away_east s sheet r s.cols (omega arith)).edges k d lt in
      zero_is_not _ (omega arith))

  module _ (v : ℕ) (p : BlockPlace) (stands : stands_at s.nodes v ≡ Some p) where
    -- each edge ends on the place as at its node
    ends_there : (k : ℕ) (d : DrawnEdge) → k < length s.edges → EndsOn v (get_or s.edges k d) (row_of p) (col_of p)
    ends_there k d lt =
        elim (node_on s.nodes (row_of p) (col_of p)) as (λ o. node_on s.nodes (row_of p) (col_of p) ≡ o →
        EndsOn v (get_or s.edges k d) (row_of p) (col_of p)) [
          | None ↦ λ none. absurd (on_place s.nodes v p stands none)
          | Some n ↦ λ is. rw (← on_own_place s sheet v p n stands is) ((sheet.drawn k d lt).ends (row_of p) (col_of p) n is)
        ] refl

    same_or_not : (a b : ℕ) (x : Bool) → (a ≡ b → x ≡ true → ⊥) → ◌≡◌ {A = ℕ} (cond (nat_eq a b && x) 1 0) 0
    same_or_not a b x never = test (nat_eq a b) refl x refl
      where
        test : (y : Bool) → nat_eq a b ≡ y → (z : Bool) → x ≡ z → ◌≡◌ {A = ℕ} (cond (y && z) 1 0) 0
        test true e true f = absurd (never (eqb-true a b e) f)
        test true e false f = refl
        test false e z f = refl

    pub east_open : IsOutOpen s v true → is_crossed_west s (row_of p) (col_of p + 1) ≡ false
    east_open free = list_any_none (λ e. nat_lt 0 (east_of e (row_of p) (col_of p))) s.edges
        (λ k d lt. zero_is_not _ ((ends_there k d lt).east ∙ same_or_not (get_or s.edges k d).parent v (get_or s.edges k d).heavy
        (λ same heavy. free k d lt same heavy)))

    pub south_open : IsOutOpen s v false → is_crossed_north s (row_of p + 1) (col_of p) ≡ false
    south_open free = list_any_none (λ e. nat_lt 0 (south_of e (row_of p) (col_of p))) s.edges
        (λ k d lt. zero_is_not _ ((ends_there k d lt).south ∙ same_or_not (get_or s.edges k d).parent v (not
        (get_or s.edges k d).heavy) (λ same light. free k d lt same (not_true (get_or s.edges k d).heavy light))))
      where
        not_true : (b : Bool) → not b ≡ true → b ≡ false
        not_true true e = cc
        not_true false e = refl

    pub north_open : IsInOpen s v → is_crossed_north s (row_of p) (col_of p) ≡ false
    north_open free = list_any_none (λ e. nat_lt 0 (north_of e (row_of p) (col_of p))) s.edges
        (λ k d lt. zero_is_not _ ((ends_there k d lt).north ∙ other (nat_eq (get_or s.edges k d).child v) (λ same. free k d lt (eqb-true _ v same))))
      where
        other : (b : Bool) → (b ≡ true → ⊥) → ◌≡◌ {A = ℕ} (cond b 1 0) 0
        other true never = absurd (never refl)
        other false never = refl
