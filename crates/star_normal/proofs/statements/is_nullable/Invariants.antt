use Rattle.std.proofs.Common.{◌≡◌, drop}
use Rattle.star_normal.specs.Unions.{some_null}
use Rattle.star_normal.proofs.statements.is_nullable.Given as goal

abbrev pub invariant-loop-root : goal.invariant-loop-root
invariant-loop-root l = some_null l.outlines (drop l.root-index l.roots) ≡ some_null l.outlines l.roots
