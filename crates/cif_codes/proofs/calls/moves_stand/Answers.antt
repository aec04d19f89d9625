-- Transformations begin with letters.
use Rattle.std.proofs.Common.{flat_map}
use Rattle.geom.specs.CifCommands.{move_parts}
use Rattle.cif_codes.proofs.MoveCodes.{some_move, no_move_end, no_move_number}
use Rattle.cif_codes.proofs.calls.moves_stand.Goals as goal

pub returns-in-Letter-clause-yes : goal.returns-in-Letter-clause-yes
returns-in-Letter-clause-yes c = λ t stop moves p. some_move moves _ (c.in-Letter.ensures.next stop (flat_map move_parts moves) p)

pub returns-in-End-clause-no : goal.returns-in-End-clause-no
returns-in-End-clause-no c = λ t stop moves p. no_move_end moves (c.in-End.ensures.next stop (flat_map move_parts moves) p)

pub returns-in-Number-clause-no : goal.returns-in-Number-clause-no
returns-in-Number-clause-no c = λ t stop moves p. no_move_number moves (c.in-Number.ensures.next stop (flat_map move_parts moves) p)
