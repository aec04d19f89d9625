-- The corners of the box that is asked for are those of the moved box.
use Rattle.std.proofs.Common.{rules, ◌≡◌, refl, w64, to_z, of_z, ◌+ℤ◌}
use Rattle.std.specs.Int.{int_min, int_max}
use Rattle.std.proofs.lemmas.Int.{ints, to_z-of_z}
use Rattle.geom.specs.Squares.{BoxShape, IsBox}
use Rattle.geom.specs.Turns.{moved, turned_x, turned_y}
use Rattle.geom.proofs.Turns.{images_of_equal}
use Rattle.geom.proofs.placing.place.Goals as goal

abbrev asked : goal.After-new → BoxShape
asked c = record {
  layer = c.b.inside.layer;
  x1 = to_z w64 (of_z w64 c.lower.result);
  y1 = to_z w64 (of_z w64 c.lower-2.result);
  x2 = to_z w64 (of_z w64 c.upper.result);
  y2 = to_z w64 (of_z w64 c.upper-2.result);
}

asked_is_moved : (c : goal.After-new) → asked c ≡ moved c.args.b c.args.o c.args.dx c.args.dy
asked_is_moved c =
    let x1 : to_z w64 (of_z w64 c.lower.result) ≡ int_min (turned_x c.args.o c.b.inside.x1 c.b.inside.y1) (turned_x c.args.o c.b.inside.x2 c.b.inside.y2) +ℤ c.args.dx = search (rules, ints, to_z-of_z) in
    let y1 : to_z w64 (of_z w64 c.lower-2.result) ≡ int_min (turned_y c.args.o c.b.inside.x1 c.b.inside.y1) (turned_y c.args.o c.b.inside.x2 c.b.inside.y2) +ℤ c.args.dy = search (rules, ints, to_z-of_z) in
    let x2 : to_z w64 (of_z w64 c.upper.result) ≡ int_max (turned_x c.args.o c.b.inside.x1 c.b.inside.y1) (turned_x c.args.o c.b.inside.x2 c.b.inside.y2) +ℤ c.args.dx = search (rules, ints, to_z-of_z) in
    let y2 : to_z w64 (of_z w64 c.upper-2.result) ≡ int_max (turned_y c.args.o c.b.inside.x1 c.b.inside.y1) (turned_y c.args.o c.b.inside.x2 c.b.inside.y2) +ℤ c.args.dy = search (rules, ints, to_z-of_z) in
    rw (← c.b.view_is, x1, y1, x2, y2) refl

pub returns-clause-placed : goal.returns-clause-placed
returns-clause-placed c = rw (← asked_is_moved c) c.new.ensures.made

pub returns-clause-edges : goal.returns-clause-edges
returns-clause-edges c = rw (← asked_is_moved c) c.new.ensures.edges

pub returns-clause-squares : goal.returns-clause-squares
returns-clause-squares c =
    let box : IsBox c.args.b = rw (← c.b.view_is) c.b.invariant in
    images_of_equal c.args.b c.args.o c.args.dx c.args.dy box c.new.result (rw (← asked_is_moved c) c.new.ensures.edges)
