-- Some transformations are steps, and the others stand from here on.
use Rattle.std.proofs.Common.{◌≤◌, ◌-◌, List, length}
use Rattle.geom.specs.CifCommands.{CifMove}
use Rattle.geom.specs.Rows.{Among}
use Rattle.cif_codes.specs.Scales.{ratio}
use Rattle.cif_drawing.specs.declared.placement.Step.{Step}
use Rattle.cif_drawing.specs.Placements.{IsStep}
use Rattle.cif_figures.specs.Steps.{AreClearMoves}
use Rattle.cif_figures.proofs.Stepping.{MovesLeft}
use Rattle.cif_figures.proofs.calls.steps.Given as goal

abbrev pub invariant-loop-scale : goal.invariant-loop-scale
invariant-loop-scale l = record {
  place : l.from ≤ length l.text;
  left : (moves : List CifMove) (h : AreClearMoves l.text l.fn.at (ratio l.fn.scale) moves)
      → MovesLeft l.text l.fn.scale h.stop moves l.from l.steps.items;
  near : (step : Step) → Among l.steps.items step → IsStep step;
}

abbrev pub decreases-loop-scale : goal.decreases-loop-scale
decreases-loop-scale l = length l.text - l.from
