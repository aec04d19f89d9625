-- One tile more.
use Rattle.std.proofs.Common.{◌≡◌, ℕ, ◌+◌, ◌++◌, List, [], ◌∷◌, map, append_assoc, sym, ap, ◌∙◌, arith}
use Rattle.std.specs.List.{range_with_len}
use Rattle.std.proofs.lemmas.List.FromFn.{map-range_with_len_more}
use Rattle.pla_plan.specs.Planes.{planes_tile}
use Rattle.pla_plan.proofs.pla.Pla.add_row.Goals as goal

-- a list with one more of the tiles
tiles_more : (f : ℕ → ℕ) (old tiles : List ℕ) (n t : ℕ) → tiles ≡ old ++ map f (range_with_len 0 n) → t ≡ f n
    → tiles ++ t ∷ [] ≡ old ++ map f (range_with_len 0 (n + 1))
tiles_more f old tiles n t e h =
    let here : 0 + n ≡ n = omega arith in
    ap (λ l. l ++ t ∷ []) e ∙ append_assoc old (map f (range_with_len 0 n)) (t ∷ [])
    ∙ ap (λ (x : ℕ). old ++ (map f (range_with_len 0 n) ++ x ∷ [])) h ∙ ap (λ l. old ++ l) (sym (map-range_with_len_more f 0 n n here))

pub loop-col-preserved : goal.loop-col-preserved
loop-col-preserved c =
    c.in_ok-push.ensures.items
    ∙ tiles_more (planes_tile c.args.self.now c.args.row) c.args.tiles.now.items c.loop-col.tiles.items c.loop-col.col c.tile_at.result
    c.loop-col.invariant c.tile_at.ensures
