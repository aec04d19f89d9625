-- One tile is a tiling: no two tiles of it lie side by side.
use Rattle.std.proofs.Common.{◌∙◌, ℕ, zero, suc, ◌+◌, ◌*◌, ◌<◌, [], ◌∷◌, ◌++◌, get_or, ap, sym, subst, arith}
use Rattle.micro_tiles.specs.Table.{tile_count}
use Rattle.stick_grid.specs.Tilings.{IsTiling}
use Rattle.tile_tests.proofs.laid.single.Goals as goal

no_second : (n : ℕ) → n + 1 < 1 → ⊥
no_second n h = omega (arith, h)

only : (t row col : ℕ) → t < tile_count → row < 1 → col < 1 → get_or (t ∷ []) (row * 1 + col) 0 < tile_count
only t zero zero h r s = h
only t zero (suc col) h r s = absurd (no_second col (omega (arith, s)))
only t (suc row) col h r s = absurd (no_second row (omega (arith, r)))

one_tile : (t : ℕ) → t < tile_count → IsTiling (record { rows = 1; cols = 1; tiles = t ∷ [] })
one_tile t h = record {
  some_row = omega arith;
  few_rows = omega arith;
  some_col = omega arith;
  few_cols = omega arith;
  size = λ i. 1;
  known = λ row col r s. only t row col h r s;
  eastward = λ row col r s. absurd (no_second col s);
  southward = λ row col r s. absurd (no_second row r);
}

pub new-requires : goal.new-requires
new-requires c =
    subst (λ tiles. IsTiling (record { rows = 1; cols = 1; tiles = tiles }))
    (sym (c.in_ok-push.ensures.items ∙ ap (λ before. before ++ c.args.tile ∷ []) c.new-tiles.ensures.items))
    (one_tile c.args.tile (subst (λ n. n < tile_count) c.number.ensures.number c.number.ensures.known))
