-- The box of the design, or its mirror image.
use Rattle.std.proofs.Common.{◌<◌, ◌∙◌, sym, length, arith, rules}
use Rattle.micro_tiles.specs.Boxes.{boxes_of}
use Rattle.micro_tiles.specs.Table.{design_of}
use Rattle.micro_tiles.proofs.TableRows.{length_boxes, basic_box, transposed_box, design_in_tile, mirrored_in_tile, some_within}
use Rattle.micro_tiles.proofs.boxes.box_at.Goals as goal

pub unwrap-requires : goal.unwrap-requires
unwrap-requires c =
    let size = length_boxes c.args.tile in
    let within : c.args.index < length (boxes_of (design_of c.args.tile)) = omega arith in
    rw (c.box_of-drawn.ensures, c.design.ensures) (some_within (boxes_of (design_of c.args.tile)) c.args.index within)

pub mirrored-requires : goal.mirrored-requires
mirrored-requires c = design_in_tile c.args.tile c.args.index c.unwrap.result (search rules) (rw (← c.design.ensures) (sym c.box_of-drawn.ensures ∙ c.unwrap.ensures))

pub unwrap-requires-else-is_transpose : goal.unwrap-requires-else-is_transpose
unwrap-requires-else-is_transpose c =
    let size = length_boxes c.args.tile in
    let within : c.args.index < length (boxes_of (design_of c.args.tile)) = omega arith in
    rw (c.box_of-drawn.ensures, c.design.ensures) (some_within (boxes_of (design_of c.args.tile)) c.args.index within)

pub returns-then-is_transpose-clause-drawn : goal.returns-then-is_transpose-clause-drawn
returns-then-is_transpose-clause-drawn c = rw c.mirrored.ensures (transposed_box c.args.tile c.args.index c.unwrap.result (sym c.is_transpose.ensures ∙ c.if-is_transpose.true) (rw (← c.design.ensures) (sym c.box_of-drawn.ensures ∙ c.unwrap.ensures)))

pub returns-else-is_transpose-clause-drawn : goal.returns-else-is_transpose-clause-drawn
returns-else-is_transpose-clause-drawn c = basic_box c.args.tile c.args.index c.unwrap-else-is_transpose.result (sym c.is_transpose.ensures ∙ c.if-is_transpose.false) (rw (← c.design.ensures) (sym c.box_of-drawn.ensures ∙ c.unwrap-else-is_transpose.ensures))

pub returns-then-is_transpose-clause-within : goal.returns-then-is_transpose-clause-within
returns-then-is_transpose-clause-within c = rw c.mirrored.ensures (mirrored_in_tile c.unwrap.result (design_in_tile c.args.tile c.args.index c.unwrap.result (search rules) (rw (← c.design.ensures) (sym c.box_of-drawn.ensures ∙ c.unwrap.ensures))))

pub returns-else-is_transpose-clause-within : goal.returns-else-is_transpose-clause-within
returns-else-is_transpose-clause-within c =
    design_in_tile c.args.tile c.args.index c.unwrap-else-is_transpose.result (search rules) (rw (← c.design.ensures) (sym c.box_of-drawn.ensures ∙ c.unwrap-else-is_transpose.ensures))
