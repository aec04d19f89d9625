-- The squares of narrow boxes that lie in no block of what is around them.
use Rattle.std.proofs.Common.{◌≡◌, ◌↔◌, ℤ, pos, ◌-◌, ◌-ℤ◌, List, subst, arith}
use Rattle.std.proofs.lemmas.Int.{ints}
use Rattle.geom.specs.Squares.{BoxShape}
use Rattle.geom.specs.Rows.{Over}
use Rattle.box_distances.specs.Narrow.{AreBlocks, AreNarrow, AreReached}
use Rattle.box_distances.proofs.Blocks.{canonical_plane, thin_is}
use Rattle.box_distances.proofs.narrow.thin.Goals as goal

pub returns : goal.returns
returns c =
    let m : List BoxShape = c.args.set.now in
    let side : ℤ = pos c.args.side in
    let e : pos (c.args.side - 1) ≡ side -ℤ pos 1 = omega (arith, ints) in
    let P : List BoxShape → Type 0 = λ l. AreNarrow side l c.in_ok-narrow.narrow.items in
    let Q : List BoxShape → Type 0 = λ l. (x y : ℤ) → Over c.in_ok-narrow-2.narrow x y ↔ Over l x y in
    let R : ℤ → Type 0 = λ z. AreReached z z c.in_ok-narrow-2.narrow c.in_ok-around.around in
    let S : ℤ → Type 0 = λ z. AreBlocks z c.in_ok-part.part c.in_ok-blocks.blocks in
    thin_is side (omega (arith, ints)) m c.in_ok-narrow.narrow.items c.in_ok-narrow-2.narrow c.in_ok-around.around c.in_ok-part.part c.in_ok-blocks.blocks
    c.in_ok-thin.thin (subst P c.boxes.ensures.list c.in_ok-narrow.ensures) (subst Q c.deref.ensures.value c.in_ok-narrow-2.ensures)
    (subst R e c.in_ok-around.ensures) c.in_ok-part.ensures (canonical_plane m c.boxes.ensures.canonical) (subst S e c.in_ok-blocks.ensures) c.in_ok-thin.ensures
