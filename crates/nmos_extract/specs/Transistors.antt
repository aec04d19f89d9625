-- The transistors of a drawing, box by box of its channel squares.
use Rattle.std.specs.Prelude.{◌≡◌, ◌&&◌, ◌||◌, ℕ, Bool, if◌then◌else◌, List, length, Option, Some, None, slice_index_or}
use Rattle.geom.specs.Squares.{BoxShape}
use Rattle.geom.specs.Conduction.{Drawing}
use Rattle.canonical_boxes.specs.Canonical.{IsAt}
use Rattle.nmos_model.specs.declared.channel.Channel.{Channel}
use Rattle.nmos_model.specs.Channels.{IsTransistor}
use Rattle.nmos_extract.specs.declared.sides.Sides.{Sides}
use Rattle.nmos_extract.specs.Regions.{channel_of}

-- The channel begins with the box's first square.
pub record BeginsAt (b : BoxShape) (c : Channel) : Type 0 where
  pub across : c.x1 ≡ b.x1
  pub upward : c.y1 ≡ b.y1

-- It is the one transistor whose channel begins with the box's first square, or there is none.
abbrev pub IsTransistorAt : Drawing → BoxShape → Option Channel → Type 0
IsTransistorAt Drawn b (Some c) = BeginsAt b c × IsTransistor Drawn c × ((d : Channel) → BeginsAt b d → IsTransistor Drawn d → d ≡ c)
IsTransistorAt Drawn b None = (d : Channel) → BeginsAt b d → IsTransistor Drawn d → ⊥

-- For each box there is the transistor that begins with its first square.
pub record AreTransistors (Drawn : Drawing) (m : List BoxShape) (found : List (Option Channel)) : Type 0 where
  pub size : length found ≡ length m
  pub each : (k : ℕ) (b : BoxShape) → IsAt m k b → IsTransistorAt Drawn b (slice_index_or found k None)

-- the channel of a box with no others above and below it, wholly under implant or beside it, that has terminals
abbrev pub transistor_of : Sides → Bool → Bool → Option Bool → BoxShape → Option Channel
transistor_of lone under beside (Some upright) b = if (lone.above && lone.below) && (under || beside) then Some (channel_of upright under b) else None
transistor_of lone under beside None b = None
