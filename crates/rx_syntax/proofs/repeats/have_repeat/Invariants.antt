use Rattle.std.proofs.Common.{◌≡◌, List, false, map, take}
use Rattle.rx_lang.specs.Expression.{Expr}
use Rattle.rx_lang.specs.Tables.{tree_at}
use Rattle.rx_syntax.specs.Printed.{has_repeat, have_repeat}
use Rattle.rx_syntax.proofs.repeats.have_repeat.Given as goal

-- none of the expressions before has one
abbrev pub invariant-loop-root : goal.invariant-loop-root
invariant-loop-root l = (made : List Expr) → l.tests ≡ map has_repeat made → have_repeat (map (tree_at made) (take l.root-index l.roots)) ≡ false
