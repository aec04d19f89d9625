-- One stroke after another is listed.
use Rattle.std.proofs.Common.{◌≡◌, ◌≤◌, ◌++◌, true, map, sym, ◌∙◌, ap, subst, arith}
use Rattle.std.specs.List.{list_all}
use Rattle.cif_drawing.specs.Measures.{is_box}
use Rattle.cif_drawing.specs.Shapes.{InkShape}
use Rattle.cif_drawing.specs.Placements.{placed}
use Rattle.cif_drawing.specs.Inks.{closed_symbols, ink_boxes, ink_chain, IsInk}
use Rattle.cif_drawing.proofs.Lists.{among_item}
use Rattle.cif_drawing.proofs.Counting.{ink_within, still_same, listed_next, listed_within}
use Rattle.cif_drawing.proofs.flattening.list_boxes.Goals as goal

pub expand-requires-clause-ink : goal.expand-requires-clause-ink
expand-requires-clause-ink c =
    let P : InkShape → Type 0 = λ i. IsInk (closed_symbols c.args.symbols.now) i in
    subst P (sym c.kept.ensures.ink) (c.requires.strokes c.stroke-item.result (among_item c.args.strokes.now c.loop-stroke.stroke-index c.stroke-item.result c.loop-stroke-test.true c.stroke-item.is)).ink

pub expand-requires-clause-short : goal.expand-requires-clause-short
expand-requires-clause-short c =
    let P : InkShape → Type 0 = λ i. ink_chain (closed_symbols c.args.symbols.now) i ≤ 64 in
    subst P (sym c.kept.ensures.ink) (c.requires.strokes c.stroke-item.result (among_item c.args.strokes.now c.loop-stroke.stroke-index c.stroke-item.result c.loop-stroke-test.true c.stroke-item.is)).short

pub expand-requires-clause-within : goal.expand-requires-clause-within
expand-requires-clause-within c =
    let a = among_item c.args.strokes.now c.loop-stroke.stroke-index c.stroke-item.result c.loop-stroke-test.true c.stroke-item.is in
    let w = ink_within c.args.symbols.now c.args.strokes.now c.stroke-item.result c.requires.within a in
    let P : InkShape → Type 0 = λ i. list_all is_box (map (placed c.still.result) (ink_boxes (closed_symbols c.args.symbols.now) i)) ≡ true in
    subst P (sym c.kept.ensures.ink)
    (ap (list_all is_box) (still_same c.still.result (ink_boxes (closed_symbols c.args.symbols.now) c.stroke-item.result.ink) c.still.ensures.placed w) ∙ w)

pub loop-stroke-preserved : goal.loop-stroke-preserved
loop-stroke-preserved c =
    let a = among_item c.args.strokes.now c.loop-stroke.stroke-index c.stroke-item.result c.loop-stroke-test.true c.stroke-item.is in
    let w = ink_within c.args.symbols.now c.args.strokes.now c.stroke-item.result c.requires.within a in
    listed_next c.args.symbols.now c.args.strokes.now c.loop-stroke.stroke-index c.stroke-item.result c.still.result c.loop-stroke.boxes.items _ c.loop-stroke-test.true
    c.stroke-item.is c.still.ensures.placed w c.loop-stroke.invariant
    (c.in_ok-expand.ensures
    ∙ ap (λ (i : InkShape). c.loop-stroke.boxes.items ++ map (placed c.still.result) (ink_boxes (closed_symbols c.args.symbols.now) i)) c.kept.ensures.ink)

pub returns-clause-within : goal.returns-clause-within
returns-clause-within c =
    listed_within c.args.symbols.now c.args.strokes.now c.loop-stroke.stroke-index c.loop-stroke.boxes.items (omega arith) c.loop-stroke.invariant c.requires.within
