-- The text of a chip draws it.
use Rattle.std.proofs.Common.{◌≡◌, ◌⊎◌, inl, inr, ℕ, zero, suc, ◌+◌, ◌<◌, ◌^◌, ℤ, pos, ◌*ℤ◌, List, [], ◌∷◌, ◌++◌, map, flat_map, length, Some, slice_get, codes, refl, sym, ◌∙◌, subst, append_assoc, arith}
use Rattle.std.specs.Fmt.{decimal, signed_decimal}
use Rattle.std.proofs.lemmas.Int.{ints}
use Rattle.geom.specs.declared.chip.Call.{Call}
use Rattle.geom.specs.declared.chip.Label.{Label}
use Rattle.geom.specs.Squares.{BoxShape, IsBox}
use Rattle.geom.specs.Rows.{Among}
use Rattle.geom.specs.Chips.{ChipShape}
use Rattle.geom.specs.CifDrawings.{CifSymbol, CifDrawing}
use Rattle.geom.specs.CifRefusals.{DrawsCif}
use Rattle.cif_write.specs.ChipText.{kinds_lines, call_line, label_line, chip_text}
use Rattle.cif_write.specs.WrittenChips.{IsWritableEdge, IsWritableBox, IsWritableCall, IsWritableLabel, IsWritable, shifted, kind_at, chip_boxes}
use Rattle.cif_write.proofs.CifSteps.{GoesBehind, step, step_end}
use Rattle.cif_write.proofs.CifKinds.{outside}
use Rattle.cif_write.proofs.CifBoxes.{AreWritable}
use Rattle.cif_write.proofs.CifCalls.{symbols_behind, kinds_go, kind_found, call_read, called_drawing}
use Rattle.cif_write.proofs.CifLabelLines.{label_goes}

-- ---- labels

labels_go : (symbols : List CifSymbol) (drawing : CifDrawing) (labels : List Label) → ((label : Label) → Among labels label → IsWritableLabel label)
    → GoesBehind (outside symbols drawing) (flat_map label_line labels ++ codes "E\n") [] labels
labels_go symbols drawing [] good = step_end (outside symbols drawing) refl
labels_go symbols drawing (label ∷ labels) good =
    let later =
    labels_go symbols (record { strokes = drawing.strokes; labels = drawing.labels ++ label ∷ [] }) labels (λ l among. good l (inr among)) in
    rw (append_assoc (label_line label) (flat_map label_line labels) (codes "E\n"))
    (label_goes symbols drawing label (good label (inl refl)) (flat_map label_line labels ++ codes "E\n") [] labels later)

-- ---- calls

line_written : (head number s t x y end more : List ℕ)
    → (head ++ number ++ s ++ (t ++ x ++ s ++ y ++ end)) ++ more ≡ head ++ (number ++ (s ++ (t ++ (x ++ (s ++ (y ++ (end ++ more)))))))
line_written head number s t x y end more = simp append_assoc refl

line_nested : (head number s t x y n z : List ℕ)
    → (head ++ (number ++ (s ++ (t ++ (x ++ (s ++ (y ++ n))))))) ++ z ≡ head ++ (number ++ (s ++ (t ++ (x ++ (s ++ (y ++ (n ++ z)))))))
line_nested head number s t x y n z = simp append_assoc refl

module _ (kinds : List (List BoxShape)) (few : length kinds < 2 ^ 32) (good : (boxes : List BoxShape) → Among kinds boxes → AreWritable boxes) where
  among_get : (kinds : List (List BoxShape)) (i : ℕ) (boxes : List BoxShape) → slice_get kinds i ≡ Some boxes → Among kinds boxes × (i < length kinds)
  among_get [] i boxes e = cc
  among_get (kind ∷ kinds) zero boxes e = let same : kind ≡ boxes = cc in (inl same, omega arith)
  among_get (kind ∷ kinds) (suc i) boxes e = let rest = among_get kinds i boxes e in (inr rest.0, omega (arith, rest.1))

  calls_go : (drawing : CifDrawing) (cs : List Call) (more : List ℕ) (ls : List Label) → ((call : Call) → Among cs call → IsWritableCall kinds call)
      → ((drawing : CifDrawing) → GoesBehind (outside (symbols_behind 0 kinds []) drawing) more [] ls)
      → GoesBehind (outside (symbols_behind 0 kinds []) drawing) (flat_map call_line cs ++ more) (flat_map (λ call. kind_at call (slice_get kinds call.kind)) cs) ls
  calls_go drawing [] more ls writable behind = behind drawing
  calls_go drawing (call ∷ cs) more ls writable behind =
      let here = writable call (inl refl) in
      let (among, within) = among_get kinds call.kind here.boxes here.kind in
      let number : 0 + call.kind + 1 ≡ call.kind + 1 = omega arith in
      let found = rw number at (kind_found 0 call.kind kinds [] here.boxes here.kind) in
      let reads = call_read (symbols_behind 0 kinds []) drawing call here.boxes found (omega (arith, within, few)) here.x here.y (good here.boxes among) in
      let lines : call_line call ++ (flat_map call_line cs ++ more)
      ≡ (codes "C " ++ (decimal (call.kind + 1) ++ (codes " " ++ (codes "T " ++ (signed_decimal (pos 200 *ℤ call.x) ++ (codes " " ++ (signed_decimal
      (pos 200 *ℤ call.y) ++ [])))))))
      ++ (59 ∷ 10 ∷ (flat_map call_line cs ++ more)) =
      line_written (codes "C ") (decimal (call.kind + 1)) (codes " ") (codes "T ") (signed_decimal (pos 200 *ℤ call.x)) (signed_decimal
      (pos 200 *ℤ call.y)) (codes ";\n")
      (flat_map call_line cs ++ more)
      ∙ sym (line_nested (codes "C ") (decimal (call.kind + 1)) (codes " ") (codes "T ") (signed_decimal (pos 200 *ℤ call.x)) (signed_decimal (pos 200 *ℤ call.y)) []
      (59 ∷ 10 ∷ (flat_map call_line cs ++ more))) in
      rw (append_assoc (call_line call) (flat_map call_line cs) more, lines, here.kind)
      (step (flat_map call_line cs ++ more) (flat_map (λ c. kind_at c (slice_get kinds c.kind)) cs) ls reads
      (λ place. calls_go (called_drawing (symbols_behind 0 kinds []) drawing call here.boxes found (omega (arith, within, few)) here.x here.y
      (good here.boxes among) place) cs more ls (λ c in_cs. writable c (inr in_cs)) behind))

-- ---- boxes within reach

among_append : {X : Type 0} (xs ys : List X) (x : X) → Among (xs ++ ys) x → Among xs x ⊎ Among ys x
among_append [] ys x among = inr among
among_append (z ∷ xs) ys x (inl here) = inl (inl here)
among_append (z ∷ xs) ys x (inr later) = elim (among_append xs ys x later) [ inl first ↦ inl (inr first) | inr second ↦ inr second ]

shifted_box : (dx dy : ℤ) (b : BoxShape) → IsWritableEdge dx → IsWritableEdge dy → IsWritableBox b → IsBox (shifted dx dy b)
shifted_box dx dy b near_x near_y good = record {
  across = record {
    first = omega (arith, ints, near_x.from, good.left.from);
    order = omega (arith, ints, good.box.across.order);
    last = omega (arith, ints, near_x.to, good.right.to);
  };
  upward = record {
    first = omega (arith, ints, near_y.from, good.bottom.from);
    order = omega (arith, ints, good.box.upward.order);
    last = omega (arith, ints, near_y.to, good.top.to);
  };
}

shifted_boxes : (dx dy : ℤ) (boxes : List BoxShape) → IsWritableEdge dx → IsWritableEdge dy → AreWritable boxes → (b : BoxShape)
    → Among (map (shifted dx dy) boxes) b → IsBox b
shifted_boxes dx dy [] near_x near_y good b among = absurd among
shifted_boxes dx dy (c ∷ boxes) near_x near_y good b (inl here) = subst IsBox here (shifted_box dx dy c near_x near_y (good c (inl refl)))
shifted_boxes dx dy (c ∷ boxes) near_x near_y good b (inr later) = shifted_boxes dx dy boxes near_x near_y (λ d among. good d (inr among)) b later

module _ (kinds : List (List BoxShape)) (few : length kinds < 2 ^ 32) (good : (boxes : List BoxShape) → Among kinds boxes → AreWritable boxes) where
  within_reach : (cs : List Call) → ((call : Call) → Among cs call → IsWritableCall kinds call)
      → (b : BoxShape) → Among (flat_map (λ call. kind_at call (slice_get kinds call.kind)) cs) b → IsBox b
  within_reach [] writable b among = absurd among
  within_reach (call ∷ cs) writable b among =
      let here = writable call (inl refl) in
      let in_kinds = among_get kinds few good kinds call.kind here.boxes here.kind in
      let two : Among (map (shifted call.x call.y) here.boxes ++ flat_map (λ c. kind_at c (slice_get kinds c.kind)) cs) b = rw here.kind at among in
      elim (among_append (map (shifted call.x call.y) here.boxes) (flat_map (λ c. kind_at c (slice_get kinds c.kind)) cs) b two) [
        | inl first ↦ shifted_boxes call.x call.y here.boxes here.x here.y (good here.boxes in_kinds.0) b first
        | inr second ↦ within_reach cs (λ c in_cs. writable c (inr in_cs)) b second
      ]

-- ---- the chip

pub chip_is_drawn : (chip : ChipShape) → IsWritable chip → DrawsCif (chip_text chip) (chip_boxes chip) chip.labels
chip_is_drawn chip writable =
    let good : (boxes : List BoxShape) → Among chip.kinds boxes → AreWritable boxes = λ boxes among b in_boxes. writable.kinds boxes b among in_boxes in
    let blank : CifDrawing = record { strokes = []; labels = [] } in
    let goes =
    kinds_go blank 0 chip.kinds [] (flat_map call_line chip.calls ++ (flat_map label_line chip.labels ++ codes "E\n")) (chip_boxes chip) chip.labels good
    (omega (arith, writable.few)) (λ m lt. refl)
    (calls_go chip.kinds writable.few good blank chip.calls (flat_map label_line chip.labels ++ codes "E\n") chip.labels writable.calls
    (λ drawing. labels_go (symbols_behind 0 chip.kinds []) drawing chip.labels writable.labels)) [] [] refl in
    let text : kinds_lines 0 chip.kinds ++ (flat_map call_line chip.calls ++ (flat_map label_line chip.labels ++ codes "E\n")) ≡ chip_text chip =
    sym (append_assoc (kinds_lines 0 chip.kinds ++ flat_map call_line chip.calls) (flat_map label_line chip.labels) (codes "E\n")
    ∙ append_assoc (kinds_lines 0 chip.kinds) (flat_map call_line chip.calls) (flat_map label_line chip.labels ++ codes "E\n")) in
    record {
      drawing = goes.last.drawing;
      is_text = record { last = goes.last; draws = rw text at goes.draws; drawing_is = refl };
      boxes_are = sym goes.boxes_are;
      within = within_reach chip.kinds writable.few good chip.calls writable.calls;
      labels_are = sym goes.labels_are;
    }
