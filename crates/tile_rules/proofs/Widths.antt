-- No layer is too narrow: each square of diffusion, poly or metal lies in a box of its tile, and so in a block as wide as the rule asks.
use Rattle.std.proofs.Common.{◌≡◌, ℕ, ◌≤◌, ℤ, pos, ◌+ℤ◌, ◌-ℤ◌, ◌≤ℤ◌, ◌<ℤ◌, List, [], ◌∷◌, inl, inr, refl, sym, ap, ◌∙◌, subst, arith}
use Rattle.std.proofs.lemmas.Int.{ints, by_lt_z}
use Rattle.geom.specs.declared.layer.Layer.{Layer}
use Rattle.geom.specs.declared.layer.Layer.TheVariants.{Diffusion, Poly, Metal}
use Rattle.geom.specs.Squares.{BoxShape, Inside, Covered}
use Rattle.geom.specs.Rows.{Among}
use Rattle.geom.specs.Conduction.{Drawing}
use Rattle.micro_tiles.specs.Shapes.{least_side, IsWide}
use Rattle.stick_grid.specs.Plans.{local_x, local_y}
use Rattle.lambda_rules.specs.Rules.{IsThin, block_at}
use Rattle.tile_rules.proofs.Moved.{block_moved}
use Rattle.tile_rules.proofs.Tiled.{Tiled, boxes_at, west_of, south_of, in_table, place_of, covers_here}

-- ---- a box over a square

record Over (layer : Layer) (bs : List BoxShape) (x y : ℤ) : Type 0 where
  box : BoxShape
  among : Among bs box
  is : box.layer ≡ layer
  inside : Inside box x y

over : (layer : Layer) (bs : List BoxShape) (x y : ℤ) → Covered bs layer x y → Over layer bs x y
over layer [] x y h = absurd h
over layer (b ∷ bs) x y (inl first) = record { box = b; among = inl refl; is = first.0; inside = first.1 }
over layer (b ∷ bs) x y (inr rest) = let o = over layer bs x y rest in record { box = o.box; among = inr o.among; is = o.is; inside = o.inside }

covered_by : (layer : Layer) (bs : List BoxShape) (b : BoxShape) (x y : ℤ) → Among bs b → b.layer ≡ layer → Inside b x y → Covered bs layer x y
covered_by layer [] b x y among is inside = absurd among
covered_by layer (c ∷ cs) b x y (inl e) is inside = inl (ap (λ (d : BoxShape). d.layer) e ∙ is, subst (λ (d : BoxShape). Inside d x y) (sym e) inside)
covered_by layer (c ∷ cs) b x y (inr among) is inside = inr (covered_by layer cs b x y among is inside)

-- ---- a block in a box

-- so many numbers between two edges, this one among them, begin here
record Stretch (from to x : ℤ) (k : ℕ) : Type 0 where
  at : ℤ
  low : from ≤ℤ at
  high : (at +ℤ pos k) ≤ℤ to
  left : at ≤ℤ x
  right : x <ℤ (at +ℤ pos k)

stretch : (from to x : ℤ) (k : ℕ) → 1 ≤ k → from ≤ℤ x → x <ℤ to → pos k ≤ℤ (to -ℤ from) → Stretch from to x k
stretch from to x k some low high wide = by_lt_z to (x +ℤ pos k)
    (λ late. record {
      at = to -ℤ pos k;
      low = omega (arith, ints);
      high = omega (arith, ints);
      left = omega (arith, ints);
      right = omega (arith, ints);
    })
    (λ early. record { at = x; low = low; high = early; left = omega (arith, ints); right = omega (arith, ints) })

-- a block of the box that holds the square
record BlockIn (k : ℕ) (b : BoxShape) (x y : ℤ) : Type 0 where
  u : ℤ
  v : ℤ
  holds : Inside (block_at k u v) x y
  within : (s t : ℤ) → Inside (block_at k u v) s t → Inside b s t

block_in : (k : ℕ) (b : BoxShape) (x y : ℤ) → 1 ≤ k → pos k ≤ℤ (b.x2 -ℤ b.x1) → pos k ≤ℤ (b.y2 -ℤ b.y1) → Inside b x y → BlockIn k b x y
block_in k b x y some wide high i =
    let m = stretch b.x1 b.x2 x k some i.left i.right wide in
    let n = stretch b.y1 b.y2 y k some i.bottom i.top high in
    record {
      u = m.at;
      v = n.at;
      holds = record { left = m.left; right = m.right; bottom = n.left; top = n.right };
      within = λ s t j. record {
        left = omega (arith, ints, m.low, j.left);
        right = omega (arith, ints, m.high, j.right);
        bottom = omega (arith, ints, n.low, j.bottom);
        top = omega (arith, ints, n.high, j.top);
      };
    }

module _ (Drawn : Drawing) (t : Tiled Drawn) where
  not_thin : (layer : Layer) (k : ℕ) → 1 ≤ k → pos k ≤ℤ least_side layer → (x y : ℤ) → IsThin k (Drawn layer) x y → ⊥
  not_thin layer k some least x y thin =
      let p = place_of Drawn t layer x y thin.inside in
      let h = p.lies in
      let here = (covers_here Drawn t p.row p.col x y h layer).0 thin.inside in
      let o = over layer (boxes_at t.plan p.row p.col) (local_x p.col x) (local_y t.plan p.row y) here in
      let w : IsWide o.box = t.facts.wide (t.plan.tile p.row p.col) o.box (in_table Drawn t p.row p.col h.is_row h.is_col) o.among in
      let wide : least_side layer ≤ℤ (o.box.x2 -ℤ o.box.x1) = rw o.is at w.width in
      let high : least_side layer ≤ℤ (o.box.y2 -ℤ o.box.y1) = rw o.is at w.height in
      let b = block_in k o.box (local_x p.col x) (local_y t.plan p.row y) some (omega (arith, ints)) (omega (arith, ints)) o.inside in
      let moved = block_moved (west_of p.col) (south_of t.plan p.row) k b.u b.v in
      thin.no_block (b.u +ℤ west_of p.col) (b.v +ℤ south_of t.plan p.row) ((moved x y).1 b.holds)
      (λ s w i. (t.alike layer s w).1 (record {
        row = p.row;
        col = p.col;
        is_row = h.is_row;
        is_col = h.is_col;
        covered = covered_by layer (boxes_at t.plan p.row p.col) o.box (local_x p.col s) (local_y t.plan p.row w) o.among o.is
            (b.within (local_x p.col s) (local_y t.plan p.row w) ((moved s w).0 i));
      }))

  pub diffusion_wide : (x y : ℤ) → IsThin 2 (Drawn Diffusion) x y → ⊥
  diffusion_wide = not_thin Diffusion 2 (omega arith) (omega (arith, ints))

  pub poly_wide : (x y : ℤ) → IsThin 2 (Drawn Poly) x y → ⊥
  poly_wide = not_thin Poly 2 (omega arith) (omega (arith, ints))

  pub metal_wide : (x y : ℤ) → IsThin 3 (Drawn Metal) x y → ⊥
  metal_wide = not_thin Metal 3 (omega arith) (omega (arith, ints))
