-- Nothing stands in a definition that was just opened.
use Rattle.std.proofs.Common.{◌≡◌, List, None, sym, ap, subst, arith}
use Rattle.geom.specs.Rows.{Among}
use Rattle.cif_drawing.specs.Shapes.{InkShape}
use Rattle.cif_drawing.specs.Parts.{DrawingParts, part_of}
use Rattle.cif_drawing.specs.Inks.{closed_symbols, inks_boxes}
use Rattle.cif_drawing.proofs.Numbers.{not_found}
use Rattle.cif_drawing.proofs.building.DrawingBuilder.open.Goals as goal

pub invariant_of-self : goal.invariant_of-self
invariant_of-self c =
    let P : DrawingParts → Type 0 = λ v. part_of v c.args.number ≡ None in
    record {
      drawing = c.self.invariant.drawing;
      opening = (
        record {
          inks = λ i a. (let Q : List InkShape → Type 0 = λ l. Among l i in absurd (subst Q c.new.ensures.items a));
          short = omega arith;
          measure = ap (inks_boxes (closed_symbols c.self.inside.symbols)) c.new.ensures.items;
        },
        not_found c.self.inside.symbols c.args.number (subst P (sym c.self.view_is) c.requires.undefined),
      );
    }
