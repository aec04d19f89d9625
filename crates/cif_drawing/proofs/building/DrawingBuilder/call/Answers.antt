-- A call is added to what is open, or outside.
use Rattle.std.proofs.Common.{◌≡◌, ◌≤◌, List, get_or, Option, None, IsSome, sym, subst}
use Rattle.rx_text.specs.declared.place.Place.{Place}
use Rattle.geom.specs.CifDrawings.{CifSymbol}
use Rattle.cif_drawing.specs.Shapes.{InkShape, Called, kept_ink, kept_place}
use Rattle.cif_drawing.specs.declared.ink.Symbol.{Symbol}
use Rattle.cif_drawing.specs.Placements.{stepped_boxes}
use Rattle.cif_drawing.specs.Measures.{IsMeasure}
use Rattle.cif_drawing.specs.Inks.{closed_symbols, ink_boxes, ink_chain, IsCall, IsInk}
use Rattle.cif_drawing.specs.Parts.{DrawingParts, part_of, part_boxes, chain_or_none, drawn_parts}
use Rattle.cif_drawing.specs.Building.{parts_of, IsAdded}
use Rattle.cif_drawing.proofs.Numbers.{none_found}
use Rattle.cif_drawing.proofs.Calling.{IsFound, found_short, called_ink, called_nothing, called_draws}
use Rattle.cif_drawing.proofs.building.DrawingBuilder.call.Goals as goal

pub chain_of_call-chain-requires : goal.chain_of_call-chain-requires
chain_of_call-chain-requires c =
    let L : List Symbol → Type 0 = λ l. c.index-symbols-index.result ≡ get_or l c.in-Some.index c.index-symbols-index.result in
    found_short c.self.inside.symbols c.in-Some.index c.index-symbols-index.result c.in-Some.ensures.within (subst L c.list-symbols.ensures c.index-symbols-index.is) c.self.invariant.drawing.symbols

pub returns-then-chain-eq0 : goal.returns-then-chain-eq0
returns-then-chain-eq0 c =
    let L : List Symbol → Type 0 = λ l. c.index-symbols-index.result ≡ get_or l c.in-Some.index c.index-symbols-index.result in
    let found : IsFound c.self.inside.symbols c.args.number c.in-Some.index c.index-symbols-index.result c.chain_of_call-chain.result =
    record { all = c.self.invariant.drawing.symbols; index = c.in-Some.ensures; is = subst L c.list-symbols.ensures c.index-symbols-index.is; chain_of = c.chain_of_call-chain.ensures } in
    let P : DrawingParts → Type 0 =
    λ v. v ≡ drawn_parts v c.args.place (stepped_boxes c.args.steps.now (part_boxes (part_of v c.args.number))) (chain_or_none (part_of v c.args.number)) v.opening in
    subst P c.self.view_is
    (called_nothing (parts_of c.self.inside.symbols c.self.inside.opening c.self.inside.strokes.items c.self.inside.labels.items) c.args.place c.args.steps.now
    c.self.inside.symbols c.args.number c.in-Some.index c.index-symbols-index.result c.chain_of_call-chain.result found c.if-chain-eq0.true)

pub measure_kept-measure-requires-clause-ink : goal.measure_kept-measure-requires-clause-ink
measure_kept-measure-requires-clause-ink c =
    let L : List Symbol → Type 0 = λ l. c.index-symbols-index.result ≡ get_or l c.in-Some.index c.index-symbols-index.result in
    let found : IsFound c.self.inside.symbols c.args.number c.in-Some.index c.index-symbols-index.result c.chain_of_call-chain.result =
    record { all = c.self.invariant.drawing.symbols; index = c.in-Some.ensures; is = subst L c.list-symbols.ensures c.index-symbols-index.is; chain_of = c.chain_of_call-chain.ensures } in
    let C : List Symbol → Type 0 = λ l. IsCall (closed_symbols l) (record { symbol = c.in-Some.index; placement = c.of.result }) in
    let I : InkShape → Type 0 = λ i. IsInk (closed_symbols c.list-symbols.result.now) i in
    subst I (sym c.in_ok-kept-in-Some.ensures.ink)
    (subst C (sym c.list-symbols.ensures)
    (called_ink c.self.inside.symbols c.args.number c.in-Some.index c.index-symbols-index.result c.of.result c.chain_of_call-chain.result found c.if-chain-eq0.false
    c.of.ensures.near))

pub invariant_of-self-in-Some : goal.invariant_of-self-in-Some
invariant_of-self-in-Some c =
    let L : List Symbol → Type 0 = λ l. c.index-symbols-index.result ≡ get_or l c.in-Some.index c.index-symbols-index.result in
    let found : IsFound c.self.inside.symbols c.args.number c.in-Some.index c.index-symbols-index.result c.chain_of_call-chain.result =
    record { all = c.self.invariant.drawing.symbols; index = c.in-Some.ensures; is = subst L c.list-symbols.ensures c.index-symbols-index.is; chain_of = c.chain_of_call-chain.ensures } in
    let S : DrawingParts → Type 0 = λ v. chain_or_none (part_of v c.args.number) ≤ 64 in
    let M : List Symbol → Type 0 =
    λ l. IsMeasure (ink_chain (closed_symbols l) (Called (record { symbol = c.in-Some.index; placement = c.of.result }))) c.measure_kept-measure.result
    (ink_boxes (closed_symbols l) (Called (record { symbol = c.in-Some.index; placement = c.of.result }))) in
    let A : Option Symbol → Type 0 =
    λ o. IsAdded o c.self.inside.strokes.items (kept_place c.in_ok-kept-in-Some.kept) (kept_ink c.in_ok-kept-in-Some.kept) c.measure_kept-measure.result
    c.chain_of_call-chain.result c.in_ok-self-inside-in-Some.field-0 c.added.new.strokes.items in
    let B : InkShape → Type 0 =
    λ i. IsAdded c.self.inside.opening c.self.inside.strokes.items c.args.place i c.measure_kept-measure.result
    c.chain_of_call-chain.result c.in_ok-self-inside-in-Some.field-0 c.added.new.strokes.items in
    let W : Place → Type 0 =
    λ p. IsAdded c.self.inside.opening c.self.inside.strokes.items p (kept_ink c.in_ok-kept-in-Some.kept) c.measure_kept-measure.result
    c.chain_of_call-chain.result c.in_ok-self-inside-in-Some.field-0 c.added.new.strokes.items in
    let K : InkShape → Type 0 =
    λ i. IsMeasure (ink_chain (closed_symbols c.list-symbols.result.now) i) c.measure_kept-measure.result (ink_boxes (closed_symbols c.list-symbols.result.now) i) in
    let d = called_draws c.self.inside.symbols c.self.inside.opening c.in_ok-self-inside-in-Some.field-0 c.self.inside.strokes.items c.added.new.strokes.items c.self.inside.labels.items
    c.args.place c.args.number c.in-Some.index c.index-symbols-index.result c.of.result c.args.steps.now c.measure_kept-measure.result c.chain_of_call-chain.result c.self.invariant found
    c.if-chain-eq0.false (subst S (sym c.self.view_is) c.requires.short) c.of.ensures.near c.of.ensures.placed
    (subst M c.list-symbols.ensures (subst K c.in_ok-kept-in-Some.ensures.ink c.measure_kept-measure.ensures))
    (subst B c.in_ok-kept-in-Some.ensures.ink (subst W c.in_ok-kept-in-Some.ensures.place (subst A c.take-opening.ensures.value c.in_ok-self-inside-in-Some.ensures.added))) in
    d.holds

pub returns-in_ok-self-inside-in-Some : goal.returns-in_ok-self-inside-in-Some
returns-in_ok-self-inside-in-Some c =
    let L : List Symbol → Type 0 = λ l. c.index-symbols-index.result ≡ get_or l c.in-Some.index c.index-symbols-index.result in
    let found : IsFound c.self.inside.symbols c.args.number c.in-Some.index c.index-symbols-index.result c.chain_of_call-chain.result =
    record { all = c.self.invariant.drawing.symbols; index = c.in-Some.ensures; is = subst L c.list-symbols.ensures c.index-symbols-index.is; chain_of = c.chain_of_call-chain.ensures } in
    let S : DrawingParts → Type 0 = λ v. chain_or_none (part_of v c.args.number) ≤ 64 in
    let M : List Symbol → Type 0 =
    λ l. IsMeasure (ink_chain (closed_symbols l) (Called (record { symbol = c.in-Some.index; placement = c.of.result }))) c.measure_kept-measure.result
    (ink_boxes (closed_symbols l) (Called (record { symbol = c.in-Some.index; placement = c.of.result }))) in
    let A : Option Symbol → Type 0 =
    λ o. IsAdded o c.self.inside.strokes.items (kept_place c.in_ok-kept-in-Some.kept) (kept_ink c.in_ok-kept-in-Some.kept) c.measure_kept-measure.result
    c.chain_of_call-chain.result c.in_ok-self-inside-in-Some.field-0 c.added.new.strokes.items in
    let B : InkShape → Type 0 =
    λ i. IsAdded c.self.inside.opening c.self.inside.strokes.items c.args.place i c.measure_kept-measure.result
    c.chain_of_call-chain.result c.in_ok-self-inside-in-Some.field-0 c.added.new.strokes.items in
    let W : Place → Type 0 =
    λ p. IsAdded c.self.inside.opening c.self.inside.strokes.items p (kept_ink c.in_ok-kept-in-Some.kept) c.measure_kept-measure.result
    c.chain_of_call-chain.result c.in_ok-self-inside-in-Some.field-0 c.added.new.strokes.items in
    let K : InkShape → Type 0 =
    λ i. IsMeasure (ink_chain (closed_symbols c.list-symbols.result.now) i) c.measure_kept-measure.result (ink_boxes (closed_symbols c.list-symbols.result.now) i) in
    let d = called_draws c.self.inside.symbols c.self.inside.opening c.in_ok-self-inside-in-Some.field-0 c.self.inside.strokes.items c.added.new.strokes.items c.self.inside.labels.items
    c.args.place c.args.number c.in-Some.index c.index-symbols-index.result c.of.result c.args.steps.now c.measure_kept-measure.result c.chain_of_call-chain.result c.self.invariant found
    c.if-chain-eq0.false (subst S (sym c.self.view_is) c.requires.short) c.of.ensures.near c.of.ensures.placed
    (subst M c.list-symbols.ensures (subst K c.in_ok-kept-in-Some.ensures.ink c.measure_kept-measure.ensures))
    (subst B c.in_ok-kept-in-Some.ensures.ink (subst W c.in_ok-kept-in-Some.ensures.place (subst A c.take-opening.ensures.value c.in_ok-self-inside-in-Some.ensures.added))) in
    let P : DrawingParts → Type 0 =
    λ v. parts_of c.self.inside.symbols c.in_ok-self-inside-in-Some.field-0 c.added.new.strokes.items c.self.inside.labels.items
    ≡ drawn_parts v c.args.place (stepped_boxes c.args.steps.now (part_boxes (part_of v c.args.number))) (chain_or_none (part_of v c.args.number)) v.opening in
    subst P c.self.view_is d.parts

pub returns-in-None : goal.returns-in-None
returns-in-None c =
    let P : DrawingParts → Type 0 = λ v. part_of v c.args.number ≡ None in
    let Q : Option CifSymbol → Type 0 = λ o. IsSome o in
    let e : part_of c.args.self.now c.args.number ≡ None =
    subst P c.self.view_is (none_found c.self.inside.symbols c.args.number c.self.invariant.drawing.symbols c.in-None.ensures) in
    let z : IsSome {T = CifSymbol} None = subst Q e c.requires.defined in
    absurd cc
