-- The test means that the square conducts.
use Rattle.std.proofs.Common.{rules}
use Rattle.micro_tiles.proofs.CoverTests.{meaning}
use Rattle.micro_tiles.proofs.conducting.conducts.Goals as goal

pub returns-in-Metal-clause-meaning : goal.returns-in-Metal-clause-meaning
returns-in-Metal-clause-meaning c = meaning c.args.tile c.args.layer c.args.x c.args.y c.is_covered.result (search rules)

pub returns-then-is_covered-clause-meaning : goal.returns-then-is_covered-clause-meaning
returns-then-is_covered-clause-meaning c = meaning c.args.tile c.args.layer c.args.x c.args.y _ (search rules)

pub returns-else-is_covered-clause-meaning : goal.returns-else-is_covered-clause-meaning
returns-else-is_covered-clause-meaning c = meaning c.args.tile c.args.layer c.args.x c.args.y _ (search rules)
