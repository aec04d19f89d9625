-- Some transformations are read, and the others stand from here on.
use Rattle.std.proofs.Common.{ℕ, ◌≤◌, ◌-◌, List, length, flat_map}
use Rattle.geom.specs.CifCommands.{CifMove, move_parts}
use Rattle.cif_values.specs.Parts.{PartsAt}
use Rattle.cif_codes.specs.Scales.{ratio}
use Rattle.cif_codes.proofs.MoveCodes.{MovesUpTo}
use Rattle.cif_codes.proofs.calls.moves_checks.Given as goal

abbrev pub invariant-loop-scale : goal.invariant-loop-scale
invariant-loop-scale l = record {
  place : l.from ≤ length l.text;
  up_to : (stop : ℕ) (moves : List CifMove) → PartsAt l.text l.fn.at stop (flat_map move_parts moves) → MovesUpTo (ratio l.fn.scale) l.text stop moves l.from l.found;
}

abbrev pub decreases-loop-scale : goal.decreases-loop-scale
decreases-loop-scale l = length l.text - l.from
