-- The measure of a call is that of the symbol, placed.
use Rattle.std.proofs.Common.{List, subst, sym}
use Rattle.geom.specs.Squares.{BoxShape}
use Rattle.cif_drawing.specs.Shapes.{InkShape, kept_ink}
use Rattle.cif_drawing.specs.Measures.{IsMeasure}
use Rattle.cif_drawing.specs.Inks.{closed_symbols, ink_boxes, ink_chain, inks_boxes}
use Rattle.cif_drawing.proofs.Standing.{StandsAt}
use Rattle.cif_drawing.proofs.Expanded.{is_called, is_drawn, is_call, call_within, call_stands, measure_near, measure_called}
use Rattle.cif_drawing.proofs.expanding.measure_kept.Goals as goal

pub symbol_of-requires : goal.symbol_of-requires
symbol_of-requires c =
    let e = is_called (kept_ink c.args.kept.now) c.in-Some.call c.in-Some.ensures in
    call_within c.args.symbols.now c.in-Some.call (is_call (closed_symbols c.args.symbols.now) (kept_ink c.args.kept.now) c.in-Some.call e c.requires.ink)

pub called-requires-clause-extent_near : goal.called-requires-clause-extent_near
called-requires-clause-extent_near c =
    let e = is_called (kept_ink c.args.kept.now) c.in-Some.call c.in-Some.ensures in
    let h : StandsAt (closed_symbols c.args.symbols.now) c.in-Some.call.symbol c.symbol_of.result.now =
    call_stands c.args.symbols.now c.in-Some.call c.symbol_of.result.now
    (is_call (closed_symbols c.args.symbols.now) (kept_ink c.args.kept.now) c.in-Some.call e c.requires.ink) c.symbol_of.ensures c.requires.symbols in
    measure_near c.symbol_of.result.now.chain c.symbol_of.result.now.measure (inks_boxes (closed_symbols c.args.symbols.now) c.symbol_of.result.now.inks.items) h.symbol.short h.symbol.measure

pub returns-in-Some : goal.returns-in-Some
returns-in-Some c =
    let e = is_called (kept_ink c.args.kept.now) c.in-Some.call c.in-Some.ensures in
    let h : StandsAt (closed_symbols c.args.symbols.now) c.in-Some.call.symbol c.symbol_of.result.now =
    call_stands c.args.symbols.now c.in-Some.call c.symbol_of.result.now
    (is_call (closed_symbols c.args.symbols.now) (kept_ink c.args.kept.now) c.in-Some.call e c.requires.ink) c.symbol_of.ensures c.requires.symbols in
    measure_called (closed_symbols c.args.symbols.now) (kept_ink c.args.kept.now) c.in-Some.call c.symbol_of.result.now c.called.result e h c.called.ensures

pub returns-in-None : goal.returns-in-None
returns-in-None c =
    let P : InkShape → Type 0 =
    λ i. IsMeasure (ink_chain (closed_symbols c.args.symbols.now) i) c.measure_boxes.result (ink_boxes (closed_symbols c.args.symbols.now) i) in
    let Q : List BoxShape → Type 0 = λ l. IsMeasure 0 c.measure_boxes.result l in
    subst P (sym (is_drawn (kept_ink c.args.kept.now) c.in-None.ensures)) (subst Q c.boxes.ensures c.measure_boxes.ensures)
