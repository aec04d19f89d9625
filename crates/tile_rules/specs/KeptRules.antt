-- Drawings of tiles keep the lambda rules.
use Rattle.std.specs.Prelude.{◌≡◌, ◌↔◌, ℕ, ℤ, List, []}
use Rattle.geom.specs.declared.chip.Label.{Label}
use Rattle.geom.specs.Conduction.{Drawing}
use Rattle.nmos_model.specs.Alike.{CoverAlike}
use Rattle.lambda_rules.specs.Rules.{Breaks}
use Rattle.lambda_rules.specs.Findings.{FindingShape, AreFindings}
use Rattle.stick_grid.specs.Plans.{Plan, IsPlan, Covers}

-- Nothing in the drawing with these labels breaks a rule, so its list of findings is the empty one.
pub record KeepsRules (Drawn : Drawing) (labels : List Label) : Type 0 where
  pub unbroken : (rule : ℕ) (a b c d x y : ℤ) → Breaks Drawn labels rule a b c d x y → ⊥
  pub empty : (findings : List FindingShape) → AreFindings Drawn labels findings ↔ (findings ≡ [])

-- A drawing keeps the rules under any labels, if it covers the squares of a plan of tiles of the table, of any size, in which neighbours
-- carry the same on their common side.
abbrev pub TilesKeepRules : Drawing → Type 0
TilesKeepRules Drawn = (plan : Plan) (labels : List Label) → IsPlan plan → CoverAlike Drawn (Covers plan) → KeepsRules Drawn labels
