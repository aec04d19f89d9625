-- Transformations that meet no code.
use Rattle.std.specs.Prelude.{⊤, ◌≡◌, ℕ, pos, ◌*ℤ◌, List, [], ◌∷◌, flat_map}
use Rattle.geom.specs.Squares.{BoxShape}
use Rattle.geom.specs.CifCommands.{CifScale, CifMove, move_parts}
use Rattle.geom.specs.CifDrawings.{moved_by}
use Rattle.geom.specs.CifCodes.{SomeIs, IsTooGreat, IsOffGrid, IsFarOff, part_numbers, move_distances}
use Rattle.cif_values.specs.Parts.{PartsAt}
use Rattle.cif_values.specs.declared.moves.Move.{Move}
use Rattle.cif_values.specs.declared.moves.Move.TheVariants as written
use Rattle.cif_figures.specs.Rectangles.{IsDrawnEdge}
use Rattle.cif_drawing.specs.declared.placement.Step.{Step}
use Rattle.cif_drawing.specs.Placements.{step_box}

-- The step moves boxes as the transformation does.
abbrev pub IsStepOf : CifScale → CifMove → Step → Type 0
IsStepOf scale move step = (b : BoxShape) → step_box b step ≡ moved_by scale b move

-- The steps are those of the transformations, one by one.
abbrev pub AreStepsOf : CifScale → List CifMove → List Step → Type 0
AreStepsOf scale [] [] = ⊤
AreStepsOf scale (move ∷ moves) (step ∷ steps) = IsStepOf scale move step × AreStepsOf scale moves steps
AreStepsOf scale moves steps = ⊥

-- These transformations stand here up to a semicolon, and after scaling all translations are on the grid and within 2^40 λ of 0.
pub record AreClearMoves (text : List ℕ) (at : ℕ) (scale : CifScale) (moves : List CifMove) : Type 0 where
  pub stop : ℕ
  pub parts : PartsAt text at stop (flat_map move_parts moves)
  pub few : SomeIs IsTooGreat (flat_map part_numbers (flat_map move_parts moves)) → ⊥
  pub on_grid : SomeIs (IsOffGrid scale) (flat_map move_distances moves) → ⊥
  pub not_far : SomeIs (IsFarOff scale) (flat_map move_distances moves) → ⊥

-- After scaling its translation is on the grid and within 2^40 λ of 0.
abbrev pub IsDrawnMove : CifScale → Move → Type 0
IsDrawnMove scale (written.Translates x y) = IsDrawnEdge scale (pos 2 *ℤ x) × IsDrawnEdge scale (pos 2 *ℤ y)
IsDrawnMove scale other = ⊤
