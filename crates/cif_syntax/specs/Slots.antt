-- The numbers of commands, and what may follow each.
use Rattle.std.specs.Prelude.{Bool, true, false, Option, Some, None}
use Rattle.cif_syntax.specs.declared.slot.Slot.{Slot}
use Rattle.cif_syntax.specs.declared.slot.Slot.TheVariants.{Symbol, Times, Per, Called, FirstMove, SecondMove, Length, Width, CentreX, CentreY, DirectionX, DirectionY, Wire, PointX, PointY}

-- the number that may follow
abbrev pub next_slot : Slot → Option Slot
next_slot Symbol = Some Times
next_slot Times = Some Per
next_slot Per = None
next_slot Called = None
next_slot FirstMove = Some SecondMove
next_slot SecondMove = None
next_slot Length = Some Width
next_slot Width = Some CentreX
next_slot CentreX = Some CentreY
next_slot CentreY = Some DirectionX
next_slot DirectionX = Some DirectionY
next_slot DirectionY = None
next_slot Wire = Some PointX
next_slot PointX = Some PointY
next_slot PointY = Some PointX

-- A sign may stand before it.
abbrev pub is_signed : Slot → Bool
is_signed Symbol = false
is_signed Times = false
is_signed Per = false
is_signed Called = false
is_signed Length = false
is_signed Width = false
is_signed Wire = false
is_signed slot = true

-- The command may end behind it.
abbrev pub may_end : Slot → Bool
may_end Symbol = true
may_end Per = true
may_end Called = true
may_end SecondMove = true
may_end CentreY = true
may_end DirectionY = true
may_end PointY = true
may_end slot = false

-- A transformation may follow.
abbrev pub may_move : Slot → Bool
may_move Called = true
may_move SecondMove = true
may_move slot = false

-- It may not be 0.
abbrev pub is_scale : Slot → Bool
is_scale Times = true
is_scale Per = true
is_scale slot = false
