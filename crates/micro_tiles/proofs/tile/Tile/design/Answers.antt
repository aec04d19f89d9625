-- The row of the table.
use Rattle.std.proofs.Common.{rules}
use Rattle.micro_tiles.proofs.TableRows.{row_of}
use Rattle.micro_tiles.proofs.tile.Tile.design.Goals as goal

pub returns : goal.returns
returns c = row_of c.args.self c.from.result (search rules)
