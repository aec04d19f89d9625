-- A sweep over all boxes of a layer, and then over a fence behind them.
use Rattle.std.proofs.Common.{◌≡◌, ◌^◌, ℕ, ◌<◌, ◌≤◌, ◌+◌, ℤ, pos, neg_ℤ, ◌-ℤ◌, ◌≤ℤ◌, ◌<ℤ◌, List, [], ◌∷◌, ◌++◌, inl, inr, length, take, drop, get_or, refl, sym, ◌∙◌, arith, subst}
use Rattle.std.proofs.lemmas.Grind.{common_steps}
use Rattle.std.proofs.lemmas.Int.{ints}
use Rattle.geom.specs.declared.layer.Layer.{Layer}
use Rattle.geom.specs.declared.sweep.Strip.{Strip}
use Rattle.geom.specs.declared.sweep.Sweep.{Sweep}
use Rattle.geom.specs.Squares.{BoxShape, IsBox}
use Rattle.geom.specs.Rows.{Squares, IsRun, IsPart, AreParts, Among, Over}
use Rattle.geom.specs.Columns.{IsBefore, AreColumns}
use Rattle.geom.specs.RowTrees.{column_at}
use Rattle.geom.specs.Sweeps.{IsStrip, IsLast, IsSwept, Passes, Passed, IsNext}
use Rattle.geom.proofs.Lists.{among_right, append_nil, append_step, parted_at, taken_at, left_at}
use Rattle.geom.proofs.Overs.{over_left, over_right, over_cases, OverBy, over_by}

-- the strip of a box
abbrev pub strip_shape : BoxShape → Strip
strip_shape b = record { left = b.x1; right = b.x2; bottom = b.y1; top = b.y2 }

-- all rows, behind every box
abbrev pub fence : Strip
fence = record { left = pos (2 ^ 40 + 1); right = pos (2 ^ 40 + 2); bottom = neg_ℤ (pos (2 ^ 40)); top = pos (2 ^ 40) }

abbrev fence_box : Layer → BoxShape
fence_box layer = record { layer = layer; x1 = pos (2 ^ 40 + 1); y1 = neg_ℤ (pos (2 ^ 40)); x2 = pos (2 ^ 40 + 2); y2 = pos (2 ^ 40) }

abbrev pub fenced : List BoxShape → Layer → List BoxShape
fenced boxes layer = boxes ++ fence_box layer ∷ []

pub before_left : (b c : BoxShape) → IsBefore b c → b.x1 ≤ℤ c.x1
before_left b c (inl h) = omega (arith, ints)
before_left b c (inr h) = let e : b.x1 ≡ c.x1 = h.0 in omega (arith, ints)

-- the boxes after one of the list do not begin to its left
begins_at : (front : List BoxShape) (b : BoxShape) (back : List BoxShape) → AreColumns (front ++ b ∷ back) → (c : BoxShape) → Among back c → b.x1 ≤ℤ c.x1
begins_at [] b back h c i = before_left b c (h.0 c i).before
begins_at (d ∷ ds) b back h c i = begins_at ds b back h.1 c i

pub swept_less : (S D D' : Squares) (column column' : ℤ) (s : Sweep) → ((x y : ℤ) → D' x y → D x y) → column ≤ℤ column' → IsSwept S D column s → IsSwept S D' column' s
swept_less S D D' column column' s less le h = record {
  rows = λ y.
      let l : IsLast S D column s.begins s.ends s.runs.items y = h.rows y in
      let near : l.from ≤ℤ column = l.near in
      record {
        from = l.from;
        to = l.to;
        begins_is = l.begins_is;
        ends_is = l.ends_is;
        order = l.order;
        near = omega (arith, ints);
        covered = l.covered;
        left = l.left;
        reach = λ x d. l.reach x (less x y d);
        before = λ x d. l.before x (less x y d);
      };
  parts = h.parts;
}

-- All boxes of the front were swept over, and no box of the back begins to the left of the column.
pub record SweptTo (layer : Layer) (front back : List BoxShape) (s : Sweep) : Type 0 where
  pub layer_is : s.layer ≡ layer
  pub column : ℤ
  pub behind : (c : BoxShape) → Among back c → column ≤ℤ c.x1
  pub near : column ≤ℤ pos (2 ^ 40 + 1)
  pub swept : IsSwept (Over (fenced (front ++ back) layer)) (Over front) column s

module _ (layer : Layer) (boxes : List BoxShape) (are_boxes : (b : BoxShape) → Among boxes b → IsBox b) where
  low_over : (x y : ℤ) → Over (fenced boxes layer) x y → neg_ℤ (pos (2 ^ 40)) ≤ℤ x
  low_over x y h = elim (over_cases boxes (fence_box layer ∷ []) x y h) [
    | inl k ↦
        let o : OverBy boxes x y = over_by boxes x y k in
        let a : neg_ℤ (pos (2 ^ 40)) ≤ℤ o.box.x1 = (are_boxes o.box o.among).across.first in
        let l : o.box.x1 ≤ℤ x = o.inside.left in
        omega (arith, ints)
    | inr k ↦ elim k [ inl i ↦ (let l : pos (2 ^ 40 + 1) ≤ℤ x = i.left in omega (arith, ints)) | inr i ↦ absurd i ]
  ]

  -- a square up to the farthest edge is one of the boxes'
  within_fence : (x y : ℤ) → Over (fenced boxes layer) x y → x ≤ℤ pos (2 ^ 40) → Over boxes x y
  within_fence x y h k = elim (over_cases boxes (fence_box layer ∷ []) x y h) [
    | inl o ↦ o
    | inr o ↦ elim o [ inl i ↦ (let l : pos (2 ^ 40 + 1) ≤ℤ x = i.left in absurd (omega (arith, ints))) | inr i ↦ absurd i ]
  ]

  short_of_fence : (x y : ℤ) → Over boxes x y → x <ℤ pos (2 ^ 40)
  short_of_fence x y h =
      let o : OverBy boxes x y = over_by boxes x y h in
      let a : o.box.x2 ≤ℤ pos (2 ^ 40) = (are_boxes o.box o.among).across.last in
      let l : x <ℤ o.box.x2 = o.inside.right in
      omega (arith, ints)

  pub sweep_start : (s : Sweep) → s.layer ≡ layer → ((y : ℤ) → column_at s.begins y ≡ neg_ℤ (pos (2 ^ 40))) → ((y : ℤ) → column_at s.ends y ≡ neg_ℤ (pos (2 ^ 40))) → s.runs.items ≡ [] → SweptTo layer [] boxes s
  sweep_start s e b t r = record {
    layer_is = e;
    column = neg_ℤ (pos (2 ^ 40));
    behind = λ c i. (are_boxes c i).across.first;
    near = omega (arith, ints);
    swept = record {
      rows = λ y. record {
        from = neg_ℤ (pos (2 ^ 40));
        to = neg_ℤ (pos (2 ^ 40));
        begins_is = b y;
        ends_is = t y;
        order = omega (arith, ints);
        near = omega (arith, ints);
        covered = λ x h k. absurd (omega (arith, ints));
        left = λ o. let l : neg_ℤ (pos (2 ^ 40)) ≤ℤ (neg_ℤ (pos (2 ^ 40)) -ℤ pos 1) = low_over (neg_ℤ (pos (2 ^ 40)) -ℤ pos 1) y o in omega (arith, ints);
        reach = λ x o. absurd o;
        before = λ x o. absurd o;
      };
      parts = λ d i. let P : List BoxShape → Type 0 = λ l. Among l d in absurd (subst P r i);
    };
  }

  fence_next : IsNext (fenced boxes layer) boxes fence
  fence_next = record {
    low = low_over;
    inside = λ x y i. over_right boxes (fence_box layer ∷ []) x y (inl (record { left = i.left; right = i.right; bottom = i.bottom; top = i.top }));
    left = λ x y o k. within_fence x y o (omega (arith, ints));
  }

  pub fence_strip : IsStrip fence
  fence_strip = record { rows = record { first = omega (arith, ints); order = omega (arith, ints); last = omega (arith, ints) }; order = omega (arith, ints); near = omega (arith, ints) }

  -- behind the fence all runs are put aside
  pub sweep_end : (s n : Sweep) → SweptTo layer boxes [] s → n.layer ≡ s.layer → Passes s fence fence.bottom fence.top n → AreParts (Over boxes) layer n.runs.items
  sweep_end s n h e passes =
      let P : List BoxShape → Type 0 = λ l. IsSwept (Over (fenced l layer)) (Over boxes) h.column s in
      let start : IsSwept (Over (fenced boxes layer)) (Passed boxes fence fence.bottom) fence.left s =
      swept_less (Over (fenced boxes layer)) (Over boxes) (Passed boxes fence fence.bottom) h.column fence.left s
      (λ x y d. elim d [ inl o ↦ o | inr o ↦ (let a : fence.bottom ≤ℤ y = o.0.bottom in let b : y <ℤ fence.bottom = o.1 in absurd (omega (arith, ints))) ])
      h.near (subst P (append_nil boxes) h.swept) in
      let end : IsSwept (Over (fenced boxes layer)) (Passed boxes fence fence.top) fence.left n = passes (fenced boxes layer) boxes fence_next start in
      record {
        parts = λ d i.
            let p : IsPart (Over (fenced boxes layer)) n.layer d = end.parts d i in
            let far : d.x2 ≤ℤ pos (2 ^ 40) = p.box.across.last in
            record {
              layer_is = p.layer_is ∙ e ∙ h.layer_is;
              box = p.box;
              rows = λ y r.
                  let run : IsRun (Over (fenced boxes layer)) y d.x1 d.x2 = p.rows y r in
                  record {
                    covered = λ x a b. within_fence x y (run.covered x a b) (omega (arith, ints));
                    left = λ o. run.left (over_left boxes (fence_box layer ∷ []) (d.x1 -ℤ pos 1) y o);
                    right = λ o. run.right (over_left boxes (fence_box layer ∷ []) d.x2 y o);
                  };
            };
        covers = λ x y o.
            let l : IsLast (Over (fenced boxes layer)) (Passed boxes fence fence.top) fence.left n.begins n.ends n.runs.items y = end.rows y in
            let c : OverBy boxes x y = over_by boxes x y o in
            let b : IsBox c.box = are_boxes c.box c.among in
            let b1 : neg_ℤ (pos (2 ^ 40)) ≤ℤ c.box.y1 = b.upward.first in
            let b2 : c.box.y2 ≤ℤ pos (2 ^ 40) = b.upward.last in
            let i1 : c.box.y1 ≤ℤ y = c.inside.bottom in
            let i2 : y <ℤ c.box.y2 = c.inside.top in
            let short : x <ℤ pos (2 ^ 40) = short_of_fence x y o in
            let far : pos (2 ^ 40 + 1) <ℤ l.to = l.reach (pos (2 ^ 40 + 1)) (inr (record { left = omega (arith, ints); right = omega (arith, ints); bottom = omega (arith, ints); top = omega (arith, ints) }, omega (arith, ints))) in
            elim (l.before x (inl o)) [
              | inr k ↦ k
              | inl k ↦
                  let s : Over boxes (pos (2 ^ 40)) y = within_fence (pos (2 ^ 40)) y (l.covered (pos (2 ^ 40)) (omega (arith, ints)) (omega (arith, ints))) (omega (arith, ints)) in
                  let z : pos (2 ^ 40) <ℤ pos (2 ^ 40) = short_of_fence (pos (2 ^ 40)) y s in
                  absurd (omega (arith, ints))
            ];
      }

-- The next box is swept over.
module _ (layer : Layer) (front : List BoxShape) (b : BoxShape) (back : List BoxShape)
    (are_boxes : (c : BoxShape) → Among (front ++ b ∷ back) c → IsBox c) (columns : AreColumns (front ++ b ∷ back))
  where
    is_box : IsBox b
    is_box = are_boxes b (among_right front (b ∷ back) b (inl refl))

    pub box_strip : IsStrip (strip_shape b)
    box_strip =
        let order : b.x1 <ℤ b.x2 = is_box.across.order in
        let last : b.x2 ≤ℤ pos (2 ^ 40) = is_box.across.last in
        record { rows = is_box.upward; order = omega (arith, ints); near = omega (arith, ints) }

    box_next : IsNext (fenced (front ++ b ∷ back) layer) front (strip_shape b)
    box_next = record {
      low = low_over layer (front ++ b ∷ back) are_boxes;
      inside = λ x y i. over_left (front ++ b ∷ back) (fence_box layer ∷ []) x y
          (over_right front (b ∷ back) x y (inl (record { left = i.left; right = i.right; bottom = i.bottom; top = i.top })));
      left = λ x y o k.
          let order : b.x1 <ℤ b.x2 = is_box.across.order in
          let last : b.x2 ≤ℤ pos (2 ^ 40) = is_box.across.last in
          elim (over_cases front (b ∷ back) x y (within_fence layer (front ++ b ∷ back) are_boxes x y o (omega (arith, ints)))) [
            | inl f ↦ f
            | inr f ↦ elim f [
              | inl i ↦ let l : b.x1 ≤ℤ x = i.left in absurd (omega (arith, ints))
              | inr i ↦
                  let c : OverBy back x y = over_by back x y i in
                  let l : c.box.x1 ≤ℤ x = c.inside.left in
                  let z : b.x1 ≤ℤ c.box.x1 = begins_at front b back columns c.box c.among in
                  absurd (omega (arith, ints))
            ]
          ];
    }

    pub sweep_more : (s n : Sweep) → SweptTo layer front (b ∷ back) s → n.layer ≡ s.layer → Passes s (strip_shape b) b.y1 b.y2 n → SweptTo layer (front ++ b ∷ []) back n
    sweep_more s n h e passes =
        let start : IsSwept (Over (fenced (front ++ b ∷ back) layer)) (Passed front (strip_shape b) b.y1) b.x1 s =
        swept_less (Over (fenced (front ++ b ∷ back) layer)) (Over front) (Passed front (strip_shape b) b.y1) h.column b.x1 s
        (λ x y d. elim d [ inl o ↦ o | inr o ↦ (let p : b.y1 ≤ℤ y = o.0.bottom in let q : y <ℤ b.y1 = o.1 in absurd (omega (arith, ints))) ])
        (h.behind b (inl refl)) h.swept in
        let end : IsSwept (Over (fenced (front ++ b ∷ back) layer)) (Passed front (strip_shape b) b.y2) b.x1 n = passes (fenced (front ++ b ∷ back) layer) front box_next start in
        let order : b.x1 <ℤ b.x2 = is_box.across.order in
        let last : b.x2 ≤ℤ pos (2 ^ 40) = is_box.across.last in
        let P : List BoxShape → Type 0 = λ l. IsSwept (Over (fenced l layer)) (Over (front ++ b ∷ [])) b.x1 n in
        record {
          layer_is = e ∙ h.layer_is;
          column = b.x1;
          behind = λ c i. begins_at front b back columns c i;
          near = omega (arith, ints);
          swept = subst P (append_step front b back)
              (swept_less (Over (fenced (front ++ b ∷ back) layer)) (Passed front (strip_shape b) b.y2) (Over (front ++ b ∷ [])) b.x1 b.x1 n
              (λ x y o. elim (over_cases front (b ∷ []) x y o) [
                | inl f ↦ inl f
                | inr f ↦ elim f [ inl i ↦ inr (record { left = i.left; right = i.right; bottom = i.bottom; top = i.top }, i.top) | inr i ↦ absurd i ]
              ])
              (omega (arith, ints)) end);
        }

module _ (layer : Layer) (boxes : List BoxShape) (i : ℕ) (b : BoxShape) (h : i < length boxes) (e : b ≡ get_or boxes i b)
    (are_boxes : (c : BoxShape) → Among boxes c → IsBox c) (columns : AreColumns boxes)
  where
    boxes_at : (c : BoxShape) → Among (take i boxes ++ b ∷ drop (i + 1) boxes) c → IsBox c
    boxes_at = let P : List BoxShape → Type 0 = λ l. (c : BoxShape) → Among l c → IsBox c in subst P (sym (parted_at boxes i b h e)) are_boxes

    columns_at : AreColumns (take i boxes ++ b ∷ drop (i + 1) boxes)
    columns_at = let P : List BoxShape → Type 0 = λ l. AreColumns l in subst P (sym (parted_at boxes i b h e)) columns

    pub strip_at : IsStrip (strip_shape b)
    strip_at = box_strip layer (take i boxes) b (drop (i + 1) boxes) boxes_at columns_at

    pub sweep_at : (s n : Sweep) → SweptTo layer (take i boxes) (drop i boxes) s → n.layer ≡ s.layer → Passes s (strip_shape b) b.y1 b.y2 n
        → SweptTo layer (take (i + 1) boxes) (drop (i + 1) boxes) n
    sweep_at s n swept same passes =
        let P : List BoxShape → Type 0 = λ l. SweptTo layer (take i boxes) l s in
        let Q : List BoxShape → Type 0 = λ l. SweptTo layer l (drop (i + 1) boxes) n in
        subst Q (sym (taken_at boxes i b h e))
        (sweep_more layer (take i boxes) b (drop (i + 1) boxes) boxes_at columns_at s n (subst P (left_at boxes i b h e) swept) same passes)

pub sweep_all : (layer : Layer) (boxes : List BoxShape) (i : ℕ) (s : Sweep) → length boxes ≤ i → SweptTo layer (take i boxes) (drop i boxes) s → SweptTo layer boxes [] s
sweep_all layer boxes i s h swept =
    let t : take i boxes ≡ boxes = grind (arith, common_steps) in
    let d : drop i boxes ≡ [] = grind (arith, common_steps) in
    let P : List BoxShape → Type 0 = λ l. SweptTo layer l (drop i boxes) s in
    let Q : List BoxShape → Type 0 = λ l. SweptTo layer boxes l s in
    subst Q d (subst P t swept)
