-- The mirror takes each side to the side of the transpose that carries the same.
use Rattle.std.proofs.Common.{rules}
use Rattle.micro_tiles.proofs.Mirrors.{port_led}
use Rattle.micro_tiles.proofs.tile.transposed.Goals as goal

pub returns-clause-ports : goal.returns-clause-ports
returns-clause-ports c = λ side. port_led c.args.tile c.transposed_number.result side (rw (← c.tile.view_is) c.tile.invariant) (search rules)
