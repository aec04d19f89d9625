use Rattle.std.proofs.Common.{◌≡◌, take}
use Rattle.star_normal.specs.Unions.{AreFronts, some_null}
use Rattle.star_normal.proofs.statements.fronts_nullable.Given as goal

abbrev pub invariant-loop-root : goal.invariant-loop-root
invariant-loop-root l = AreFronts l.outlines l.roots l.root-index l.fronts.items × (l.nullable ≡ some_null l.outlines (take l.root-index l.roots))
