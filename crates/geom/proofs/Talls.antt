-- Boxes that are runs in each of their rows, joined upward and sorted by row, are all the tall runs.
use Rattle.std.proofs.Common.{◌≡◌, ℤ, pos, ◌-ℤ◌, ◌≤ℤ◌, ◌<ℤ◌, List, [], ◌∷◌, ◌⊎◌, inl, inr, refl, sym, ◌∙◌, arith, subst, Bool, true, false}
use Rattle.std.specs.List.Sorted.{ties}
use Rattle.std.specs.Ordering.{int_cmp, is_lt}
use Rattle.std.proofs.lemmas.Int.{ints, by_lt_z}
use Rattle.geom.specs.declared.layer.Layer.{Layer}
use Rattle.geom.specs.Squares.{BoxShape, Covered}
use Rattle.geom.specs.Merged.{InRow, Precedes}
use Rattle.geom.specs.Rows.{Squares, IsRun, IsPart, AreParts, Among, Over, Pairwise}
use Rattle.geom.specs.Columns.{IsBefore, IsBelow, AreColumns, InColumn, AreStacks}
use Rattle.geom.specs.Wholes.{IsChosen, IsWhole, IsLower, SortsRows}
use Rattle.geom.proofs.Lists.{pairwise_ties, pairwise_filter, pairwise_map}
use Rattle.geom.proofs.Overs.{OverBy, over_by, over_of}
use Rattle.geom.proofs.TallRuns.{run_sides, same_from, same_to}
use Rattle.geom.proofs.Canonical.{Cover, cover_of, covered_by}

-- the squares of the columns are those of the layer
module _ (drawn chosen columns : List BoxShape) (layer : Layer) (c : IsChosen drawn layer chosen) (s : AreStacks chosen columns) where
  pub to_covered : (x y : ℤ) → Over columns x y → Covered drawn layer x y
  to_covered x y h =
      let o : OverBy columns x y = over_by columns x y h in
      let k : InColumn chosen o.box y = s.back o.box y o.among (record { bottom = o.inside.bottom; top = o.inside.top }) in
      covered_by drawn k.box layer x y (c.back k.box k.among) (c.layers k.box k.among)
      (record { left = rw k.left o.inside.left; right = rw k.right o.inside.right; bottom = k.row.bottom; top = k.row.top })

  pub from_covered : (x y : ℤ) → Covered drawn layer x y → Over columns x y
  from_covered x y h =
      let o : Cover drawn layer x y = cover_of drawn layer x y h in
      let k : InColumn columns o.box y = s.forth o.box y (c.forth o.box o.among o.layer_is) (record { bottom = o.inside.bottom; top = o.inside.top }) in
      over_of columns k.box x y k.among (record { left = rw k.left o.inside.left; right = rw k.right o.inside.right; bottom = k.row.bottom; top = k.row.top })

run_along : (S T : Squares) (y f t : ℤ) → ((x r : ℤ) → S x r → T x r) → ((x r : ℤ) → T x r → S x r) → IsRun S y f t → IsRun T y f t
run_along S T y f t to back h = record {
  covered = λ x a b. to x y (h.covered x a b);
  left = λ c. h.left (back (f -ℤ pos 1) y c);
  right = λ c. h.right (back t y c);
}

-- the parts are runs of any set of the same squares
pub parts_along : (S T : Squares) (layer : Layer) (m : List BoxShape) → ((x r : ℤ) → S x r → T x r) → ((x r : ℤ) → T x r → S x r) → AreParts S layer m → AreParts T layer m
parts_along S T layer m to back p = record {
  parts = λ d i.
      let q : IsPart S layer d = p.parts d i in
      record { layer_is = q.layer_is; box = q.box; rows = λ y r. run_along S T y d.x1 d.x2 to back (q.rows y r) };
  covers = λ x y h. p.covers x y (back x y h);
}

-- two boxes of a list are one, or the first stands before the second, or behind it
which : (m : List BoxShape) (b c : BoxShape) → AreColumns m → Among m b → Among m c → (b ≡ c) ⊎ (IsBelow b c ⊎ IsBelow c b)
which [] b c h i j = absurd i
which (d ∷ ds) b c h (inl i) (inl j) = inl (sym i ∙ j)
which (d ∷ ds) b c h (inl i) (inr j) = let P : BoxShape → Type 0 = λ v. IsBelow v c in inr (inl (subst P i (h.0 c j)))
which (d ∷ ds) b c h (inr i) (inl j) = let P : BoxShape → Type 0 = λ v. IsBelow v b in inr (inr (subst P j (h.0 b i)))
which (d ∷ ds) b c h (inr i) (inr j) = which ds b c h.1 i j

not_less : (a b : ℤ) → a ≡ b → is_lt (int_cmp a b) ≡ false
not_less a b e = grind (arith, ints)

abbrev row_test : BoxShape → BoxShape → Bool
row_test = ties (λ x y. is_lt (int_cmp x.y1 y.y1))

ties_at : (b c : BoxShape) → b.y1 ≡ c.y1 → row_test b c ≡ true
ties_at b c e = rw (not_less b.y1 c.y1 e, not_less c.y1 b.y1 (sym e)) refl

module _ (S : Squares) (layer : Layer) (parts tall : List BoxShape) (p : AreParts S layer parts) (s : AreStacks parts tall) where
  tall_layer : (d : BoxShape) → Among tall d → d.layer ≡ layer
  tall_layer = s.layers layer (λ b i. (p.parts b i).layer_is)

  tall_rows : (d : BoxShape) → Among tall d → (y : ℤ) → InRow d y → IsRun S y d.x1 d.x2
  tall_rows d i y r =
      let k : InColumn parts d y = s.back d y i r in
      run_sides S y k.box.x1 k.box.x2 d.x1 d.x2 k.left k.right ((p.parts k.box k.among).rows y k.row)

  tall_covers : (x y : ℤ) → S x y → Over tall x y
  tall_covers x y h =
      let o : OverBy parts x y = over_by parts x y (p.covers x y h) in
      let k : InColumn tall o.box y = s.forth o.box y o.among (record { bottom = o.inside.bottom; top = o.inside.top }) in
      over_of tall k.box x y k.among (record { left = rw k.left o.inside.left; right = rw k.right o.inside.right; bottom = k.row.bottom; top = k.row.top })

  -- the run of a box in another row is the run of a box of the list in that row
  other_row : (d : BoxShape) → Among tall d → (y : ℤ) → IsRun S y d.x1 d.x2 → InColumn tall d y
  other_row d i y run =
      let wide : d.x1 <ℤ d.x2 = (s.boxes d i).across.order in
      let o : OverBy tall d.x1 y = over_by tall d.x1 y (tall_covers d.x1 y (run.covered d.x1 (omega (arith, ints)) wide)) in
      let row : InRow o.box y = record { bottom = o.inside.bottom; top = o.inside.top } in
      let there : IsRun S y o.box.x1 o.box.x2 = tall_rows o.box o.among y row in
      record {
        box = o.box;
        among = o.among;
        left = same_from S y o.box.x1 o.box.x2 d.x1 d.x2 d.x1 there run o.inside.left o.inside.right (omega (arith, ints)) wide;
        right = same_to S y o.box.x1 o.box.x2 d.x1 d.x2 d.x1 there run o.inside.left o.inside.right (omega (arith, ints)) wide;
        row = row;
      }

  edge_ends : (d : BoxShape) → Among tall d → (y : ℤ) → (y ≡ d.y1 -ℤ pos 1) ⊎ (y ≡ d.y2) → IsRun S y d.x1 d.x2 → ⊥
  edge_ends d i y at run =
      let k : InColumn tall d y = other_row d i y run in
      let high : d.y1 <ℤ d.y2 = (s.boxes d i).upward.order in
      let a : k.box.y1 ≤ℤ y = k.row.bottom in
      let b : y <ℤ k.box.y2 = k.row.top in
      elim (which tall k.box d s.columns k.among i) [
        | inl e ↦
            let P : BoxShape → Type 0 = λ v. InRow v y in
            let r : InRow d y = subst P e k.row in
            let u : d.y1 ≤ℤ y = r.bottom in
            let v : y <ℤ d.y2 = r.top in
            elim at [ inl q ↦ omega (arith, ints) | inr q ↦ omega (arith, ints) ]
        | inr w ↦ elim w [
          | inl below ↦ let z : k.box.y2 <ℤ d.y1 = below.apart k.left k.right in elim at [ inl q ↦ omega (arith, ints) | inr q ↦ omega (arith, ints) ]
          | inr below ↦ let z : d.y2 <ℤ k.box.y1 = below.apart (sym k.left) (sym k.right) in elim at [ inl q ↦ omega (arith, ints) | inr q ↦ omega (arith, ints) ]
        ]
      ]

  -- in one row the first of two boxes begins further left
  stands_left : (b c : BoxShape) → Among tall b → Among tall c → b.y1 ≡ c.y1 → IsBelow b c → b.x1 <ℤ c.x1
  stands_left b c i j e below =
      by_lt_z b.x1 c.x1 (λ l. l) (λ l.
      let x1 : b.x1 ≡ c.x1 = left_is b c below.before l in
      let bx : b.x1 <ℤ b.x2 = (s.boxes b i).across.order in
      let cx : c.x1 <ℤ c.x2 = (s.boxes c j).across.order in
      let by : b.y1 <ℤ b.y2 = (s.boxes b i).upward.order in
      let cy : c.y1 <ℤ c.y2 = (s.boxes c j).upward.order in
      let rb : IsRun S c.y1 b.x1 b.x2 = tall_rows b i c.y1 (record { bottom = omega (arith, ints); top = omega (arith, ints) }) in
      let rc : IsRun S c.y1 c.x1 c.x2 = tall_rows c j c.y1 (record { bottom = omega (arith, ints); top = cy }) in
      let x2 : b.x2 ≡ c.x2 = same_to S c.y1 b.x1 b.x2 c.x1 c.x2 b.x1 rb rc (omega (arith, ints)) bx (omega (arith, ints)) (omega (arith, ints)) in
      let z : b.y2 <ℤ c.y1 = below.apart x1 x2 in
      absurd (omega (arith, ints)))
    where
      left_is : (b c : BoxShape) → IsBefore b c → c.x1 ≤ℤ b.x1 → b.x1 ≡ c.x1
      left_is b c (inl h) l = absurd (omega (arith, ints))
      left_is b c (inr h) l = h.0

  pub whole : (rows : List BoxShape) → SortsRows tall rows → IsWhole S layer rows
  whole rows sorts =
      let pairs : Pairwise (λ b c. IsLower b c × (row_test b c ≡ true → IsBelow b c)) rows =
      pairwise_ties IsBelow IsLower row_test (λ x. ties_at x x refl) rows
      (λ x. let P : List BoxShape → Type 0 = λ l. Pairwise IsBelow l in subst P (sym (sorts.stable x)) (pairwise_filter IsBelow (row_test x) tall s.columns))
      sorts.rising in
      record {
        layers = λ d i. tall_layer d ((sorts.same d).0 i);
        boxes = λ d i. s.boxes d ((sorts.same d).0 i);
        tall = λ d i.
            let j : Among tall d = (sorts.same d).0 i in
            record { rows = tall_rows d j; bottom = edge_ends d j (d.y1 -ℤ pos 1) (inl refl); top = edge_ends d j d.y2 (inr refl) };
        covers = λ x y h. let o : OverBy tall x y = over_by tall x y (tall_covers x y h) in over_of rows o.box x y ((sorts.same o.box).1 o.among) o.inside;
        order = pairwise_map (λ b c. IsLower b c × (row_test b c ≡ true → IsBelow b c)) Precedes rows
            (λ b c i j h.
            let bi : Among tall b = (sorts.same b).0 i in
            let cj : Among tall c = (sorts.same c).0 j in
            inr (
              tall_layer b bi ∙ sym (tall_layer c cj),
              by_lt_z b.y1 c.y1 (λ l. inl l) (λ l.
                  let low : b.y1 ≤ℤ c.y1 = h.0 in
                  let e : b.y1 ≡ c.y1 = omega (arith, ints) in
                  inr (e, stands_left b c bi cj e (h.1 (ties_at b c e)))),
            ))
            pairs;
      }
