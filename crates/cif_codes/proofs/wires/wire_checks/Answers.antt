-- The width, the points, and the edges between them.
use Rattle.std.proofs.Common.{◌≡◌, ℕ, Bool, pos, ◌∷◌, flat_map, codes, refl, sym, subst}
use Rattle.std.specs.Bool.{Decides}
use Rattle.geom.specs.CifCommands.{Unsigned, point_parts}
use Rattle.cif_values.specs.Numbers.{StandsFor}
use Rattle.cif_codes.specs.Scales.{grid_of}
use Rattle.cif_codes.specs.Wires.{IsOddWire}
use Rattle.cif_codes.proofs.Checking.{stands_word}
use Rattle.cif_codes.proofs.Bending.{wire_odd}
use Rattle.cif_codes.proofs.wires.wire_checks.Goals as goal

pub returns : goal.returns
returns c = λ stop w points p.
    let a = c.behind_letters.ensures.parts stop (codes "W") (Unsigned w ∷ flat_map point_parts points) refl p in
    let n = c.number_here-width.ensures.parts stop (Unsigned w) (flat_map point_parts points) refl a in
    let S : ℕ → Type 0 = λ m. StandsFor m (pos w) c.number_here-width.result.0 in
    let st = stands_word (grid_of c.args.scale) (pos w) c.number_here-width.result.0 (subst S c.grid.ensures n.0) in
    let b = c.bends_here-bends.ensures.checked stop w points n.1 st in
    let P : Bool → Type 0 = λ t. Decides t (IsOddWire w points) in
    record {
      checked = c.closed.ensures w points st b;
      count = b.count;
      odd = λ none. subst P (sym c.either.ensures)
          (wire_odd w points c.is_zero.result c.bends_here-bends.result.oblique (c.is_zero.ensures (grid_of c.args.scale) w st) (b.oblique none));
    }
