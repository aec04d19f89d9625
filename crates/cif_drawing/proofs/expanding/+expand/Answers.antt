-- What stands in the symbol that is called, one thing after another.
use Rattle.std.proofs.Common.{◌≡◌, ◌+◌, ◌-◌, ◌*◌, ◌^◌, ◌<◌, ◌++◌, List, map, sym, ◌∙◌, ap, subst, true, OnOk, arith}
use Rattle.std.specs.List.{list_all}
use Rattle.geom.specs.Squares.{BoxShape}
use Rattle.geom.specs.Rows.{Among}
use Rattle.cif_drawing.specs.Shapes.{InkShape, kept_ink}
use Rattle.cif_drawing.specs.Placements.{placed}
use Rattle.cif_drawing.specs.Measures.{is_box}
use Rattle.cif_drawing.specs.Inks.{closed_symbols, ink_boxes, ink_chain}
use Rattle.cif_drawing.proofs.Lists.{among_item}
use Rattle.cif_drawing.proofs.Near.{near_more}
use Rattle.cif_drawing.proofs.Standing.{ink_rank}
use Rattle.cif_drawing.proofs.Expanded.{is_called, is_drawn, is_call, call_within, Follows, follows, Goes, goes, all_followed}
use Rattle.cif_drawing.proofs.expanding.+expand.Goals as goal

pub symbol_of-requires : goal.symbol_of-requires
symbol_of-requires t c =
    call_within c.args.symbols.now c.in-Some.call (is_call (closed_symbols c.args.symbols.now) (kept_ink c.args.kept.now) c.in-Some.call (is_called (kept_ink c.args.kept.now) c.in-Some.call c.in-Some.ensures) c.requires.ink)

pub then-inner-requires-clause-next_near : goal.then-inner-requires-clause-next_near
then-inner-requires-clause-next_near t c =
    near_more ((66 - ink_chain (closed_symbols c.args.symbols.now) (kept_ink c.args.kept.now)) * 2 ^ 103) (2 ^ 120) c.args.placement.by (omega arith) c.requires.near

pub expand-requires : goal.expand-requires
expand-requires t c =
    let f : Follows (closed_symbols c.args.symbols.now) c.in-Some.call c.symbol_of.result.now c.args.placement c.then-inner.result =
    follows c.args.symbols.now (kept_ink c.args.kept.now) c.in-Some.call c.symbol_of.result.now c.args.placement c.then-inner.result (is_called (kept_ink c.args.kept.now) c.in-Some.call c.in-Some.ensures) c.requires.symbols c.requires.ink
    c.requires.short c.requires.near c.requires.within c.symbol_of.ensures c.then-inner.ensures.near c.then-inner.ensures.placed in
    let P : List InkShape → Type 0 = λ l. Among l c.ink-item.result in
    let a = among_item c.deref-ink-items.result.now c.loop-ink.ink-index c.ink-item.result c.loop-ink-test.true c.ink-item.is in
    let g : Goes (closed_symbols c.args.symbols.now) c.in-Some.call.symbol c.then-inner.result c.ink-item.result =
    goes (closed_symbols c.args.symbols.now) c.in-Some.call c.symbol_of.result.now c.args.placement c.then-inner.result c.ink-item.result f (subst P c.deref-ink-items.ensures.value a) in
    let e : ink_rank (kept_ink c.args.kept.now) ≡ c.in-Some.call.symbol + 1 = ap ink_rank (is_called (kept_ink c.args.kept.now) c.in-Some.call c.in-Some.ensures) in
    let Q : InkShape → Type 0 = λ i. Goes (closed_symbols c.args.symbols.now) c.in-Some.call.symbol c.then-inner.result i in
    let k : Goes (closed_symbols c.args.symbols.now) c.in-Some.call.symbol c.then-inner.result (kept_ink c.kept.result.now) = subst Q (sym c.kept.ensures) g in
    let low : ink_rank (kept_ink c.kept.result.now) < t = omega (arith, c.decreases, e, k.rank) in
    (low, (c.requires.symbols, (k.ink, (k.short, (k.near, k.within)))))

pub returns-after-loop-ink : goal.returns-after-loop-ink
returns-after-loop-ink t c =
    let f : Follows (closed_symbols c.args.symbols.now) c.in-Some.call c.symbol_of.result.now c.args.placement c.then-inner.result =
    follows c.args.symbols.now (kept_ink c.args.kept.now) c.in-Some.call c.symbol_of.result.now c.args.placement c.then-inner.result (is_called (kept_ink c.args.kept.now) c.in-Some.call c.in-Some.ensures) c.requires.symbols c.requires.ink
    c.requires.short c.requires.near c.requires.within c.symbol_of.ensures c.then-inner.ensures.near c.then-inner.ensures.placed in
    all_followed c.args.symbols.now (kept_ink c.args.kept.now) c.in-Some.call c.symbol_of.result.now c.args.placement c.then-inner.result c.deref-ink-items.result.now c.loop-ink.ink-index
    c.args.boxes.now.items c.loop-ink.boxes.items (is_called (kept_ink c.args.kept.now) c.in-Some.call c.in-Some.ensures) f c.deref-ink-items.ensures.value (omega arith) c.loop-ink.invariant

pub add_placed-requires-clause-within : goal.add_placed-requires-clause-within
add_placed-requires-clause-within t c =
    let P : InkShape → Type 0 = λ i. list_all is_box (map (placed c.args.placement) (ink_boxes (closed_symbols c.args.symbols.now) i)) ≡ true in
    let Q : List BoxShape → Type 0 = λ l. list_all is_box (map (placed c.args.placement) l) ≡ true in
    subst Q (sym c.boxes.ensures) (subst P (is_drawn (kept_ink c.args.kept.now) c.in-None.ensures) c.requires.within)

pub returns-in-None : goal.returns-in-None
returns-in-None t c =
    let P : List BoxShape → Type 0 =
    λ l. OnOk c.add_placed.result (c.add_placed.new.boxes.items ≡ c.args.boxes.now.items ++ map (placed c.args.placement) l) in
    subst P (c.boxes.ensures ∙ sym (ap (ink_boxes (closed_symbols c.args.symbols.now)) (is_drawn (kept_ink c.args.kept.now) c.in-None.ensures))) c.add_placed.ensures
