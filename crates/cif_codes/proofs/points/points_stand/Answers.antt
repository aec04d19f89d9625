-- Points begin with numbers.
use Rattle.std.proofs.Common.{flat_map}
use Rattle.geom.specs.CifCommands.{point_parts}
use Rattle.cif_codes.proofs.PointCodes.{some_point, no_point_end, no_point_letter}
use Rattle.cif_codes.proofs.points.points_stand.Goals as goal

pub returns-in-Number-clause-yes : goal.returns-in-Number-clause-yes
returns-in-Number-clause-yes c = λ t stop points p. some_point points (c.in-Number.ensures.next stop (flat_map point_parts points) p)

pub returns-in-End-clause-no : goal.returns-in-End-clause-no
returns-in-End-clause-no c = λ t stop points p. no_point_end points (c.in-End.ensures.next stop (flat_map point_parts points) p)

pub returns-in-Letter-clause-no : goal.returns-in-Letter-clause-no
returns-in-Letter-clause-no c = λ t stop points p. no_point_letter points _ (c.in-Letter.ensures.next stop (flat_map point_parts points) p)
