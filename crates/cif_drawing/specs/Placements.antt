-- Where calls put the boxes of their symbols.
use Rattle.std.specs.Prelude.{ℕ, pos, neg_ℤ, ◌≤ℤ◌, ◌<ℤ◌, List, map, fold}
use Rattle.geom.specs.Squares.{BoxShape}
use Rattle.geom.specs.Turns.{moved, IsReachable}
use Rattle.cif_drawing.specs.declared.placement.Step.{Step}
use Rattle.cif_drawing.specs.declared.placement.Placement.{Placement}
use Rattle.cif_drawing.specs.declared.wide_point.WidePoint.{WidePoint}

-- the box, transformed
abbrev pub step_box : BoxShape → Step → BoxShape
step_box b step = moved b step.turn step.x step.y

-- the boxes of a symbol at a call, whose transformations act from left to right
abbrev pub stepped_boxes : List Step → List BoxShape → List BoxShape
stepped_boxes steps boxes = map (λ b. fold step_box b steps) boxes

-- It moves by at most 2^40 each way.
pub record IsStep (step : Step) : Type 0 where
  pub across : IsReachable step.x
  pub upward : IsReachable step.y

-- The edges are in order.
pub record IsOrdered (b : BoxShape) : Type 0 where
  pub across : b.x1 <ℤ b.x2
  pub upward : b.y1 <ℤ b.y2

-- the box, placed
abbrev pub placed : Placement → BoxShape → BoxShape
placed p b = moved b p.turn p.by.x p.by.y

-- No coordinate is farther from 0 than so much.
pub record IsNear (n : ℕ) (p : WidePoint) : Type 0 where
  pub left : neg_ℤ (pos n) ≤ℤ p.x
  pub right : p.x ≤ℤ pos n
  pub bottom : neg_ℤ (pos n) ≤ℤ p.y
  pub top : p.y ≤ℤ pos n
