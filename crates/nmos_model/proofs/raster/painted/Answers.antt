use Rattle.std.proofs.Common.{◌≡◌, length, drop, ap, arith, ◌∙◌}
use Rattle.std.proofs.lemmas.List.{take-append-le, take_all}
use Rattle.nmos_model.proofs.Boxes.{stands_inside}
use Rattle.nmos_model.proofs.raster.painted.Goals as goal

pub returns : goal.returns
returns c =
    let new = c.paint_boxes.new.squares in
    let same = c.paint_boxes.ensures.size ∙ ap length c.deref_mut.ensures.value in
    let size : length new ≡ c.in_ok-squares.squares.len = omega (arith, c.paint_boxes.ensures.size, c.deref_mut.ensures.len) in
    let back = take-append-le c.in_ok-squares.squares.len new (drop (length new) c.in_ok-squares.squares.items) (omega (arith, size))
    ∙ take_all c.in_ok-squares.squares.len new (omega (arith, size)) in
    rw back (record {
      size = same ∙ c.in_ok-squares.ensures.size;
      is = c.paint_boxes.ensures.painted;
      inner = λ layer x y h. stands_inside c.args.frame c.args.boxes.now c.requires layer x y h;
    })
