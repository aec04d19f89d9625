use Rattle.std.proofs.Common.{◌∙◌, ◌*◌, ◌<◌, arith}
use Rattle.std.proofs.lemmas.Nat.{one_shl}
use Rattle.tree_layout.proofs.FourPowers.{four_pow}
use Rattle.tree_layout.proofs.squares.four_to.Goals as goal

pub returns : goal.returns
returns c = let small : 2 * c.args.level < 32 = let h = c.requires in omega arith in one_shl (2 * c.args.level) 32 small ∙ four_pow c.args.level
