-- One more block of bundles alone.
use Rattle.std.proofs.Common.{◌≡◌, ℕ, ◌+◌, Some, get_or, sym, subst}
use Rattle.geom.specs.Rows.{Among}
use Rattle.block_grid.specs.declared.kind.BlockKind.{BlockKind}
use Rattle.block_grid.specs.declared.kind.BlockKind.TheVariants.{Empty}
use Rattle.node_cell.specs.BlockTiles.{block_plan}
use Rattle.tree_chip.specs.KindNumbers.{AreWireNumbers, wire_kinds}
use Rattle.tree_chip.specs.TreeChips.{IsNumbered}
use Rattle.tree_chip.proofs.Numbering.{wire_more}
use Rattle.tree_chip.proofs.kind_numbers.wire_numbers.Goals as goal

pub loop-at-preserved : goal.loop-at-preserved
loop-at-preserved c =
    let tree = c.args.tree.now in
    let tables = c.args.spec.now in
    let places = c.args.places.now in
    let first = c.args.kinds.now.items in
    let old = c.loop-at.kinds.items in
    let new = c.number_among.new.kinds.items in
    let n = c.loop-at.at in
    let number = c.in_ok-number.number in
    let is : c.wire_kind.result ≡ get_or wire_kinds n Empty = c.wire_kind.ensures in
    subst (λ l. AreWireNumbers tree tables places first new l (n + 1)) (sym c.in_ok-push.ensures.items)
    (wire_more tree tables places first old new c.loop-at.numbers.items n number c.loop-at.invariant c.in_ok-number.ensures.gains
    (subst (λ (kind : BlockKind). Among places kind → IsNumbered new (block_plan tree tables kind) number) is c.in_ok-number.ensures.numbered)
    (subst (λ (kind : BlockKind). (k : ℕ) → number ≡ Some k → Among places kind) is c.in_ok-number.ensures.stands))
