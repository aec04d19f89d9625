-- A box settles it, or none so far covers the square.
use Rattle.std.proofs.Common.{◌≡◌, refl, sym, ◌∙◌, rules, w64, to_z, of_z}
use Rattle.std.proofs.lemmas.Int.{ints, to_z-of_z}
use Rattle.micro_tiles.specs.Table.{boxes}
use Rattle.micro_tiles.proofs.CoverTests.{found, more}
use Rattle.micro_tiles.proofs.conducting.is_covered.Goals as goal

pub returns-then-covers : goal.returns-then-covers
returns-then-covers c =
    let x : to_z w64 (of_z w64 c.args.x) ≡ c.args.x = search (rules, ints, to_z-of_z) in
    let y : to_z w64 (of_z w64 c.args.y) ≡ c.args.y = search (rules, ints, to_z-of_z) in
    found c.args.layer c.args.x c.args.y (boxes c.args.tile) c.loop-index.index c.box_at.result c.box_at.ensures.drawn
    (sym c.if-covers.true ∙ c.covers.ensures ∙ rw (x, y) refl)

pub loop-index-preserved : goal.loop-index-preserved
loop-index-preserved c =
    more c.args.layer _ _ (boxes c.args.tile) c.loop-index.index c.box_at.result c.box_at.ensures.drawn (sym c.if-covers.false ∙ c.covers.ensures) c.loop-index.invariant
