-- States with definitions that open.
use Rattle.std.specs.Prelude.{ℕ, [], Option, Some, None}
use Rattle.std.specs.Int.RustNames.{unsigned_abs}
use Rattle.geom.specs.declared.point.Point.{Point}
use Rattle.geom.specs.CifCommands.{CifScale}
use Rattle.geom.specs.CifDrawings.{CifState}

-- the state with the definition of this number and scale open
abbrev pub opened_state : CifState → ℕ → CifScale → CifState
opened_state s n scale = record s {
  opening = Some (record { symbol = record { number = n; boxes = []; chain = 0 }; scale = scale; outer = s.layer });
  layer = None;
}

-- ---- for private contracts

-- the scale of these numbers, or 1
abbrev pub scale_by : Option Point → CifScale
scale_by None = record { times = 1; per = 1 }
scale_by (Some q) = record { times = unsigned_abs q.x; per = unsigned_abs q.y }
