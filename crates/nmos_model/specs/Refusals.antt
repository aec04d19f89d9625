-- Why the squares of a drawing and its labels stand for no network: codes and places, in order.
use Rattle.std.specs.Prelude.{◌≡◌, ◌≢◌, ◌⊎◌, ℤ, Bool, true, List}
use Rattle.rx_text.specs.declared.place.Place.{Place}
use Rattle.rx_text.specs.declared.place.Place.TheVariants.{Square, Whole}
use Rattle.rx_text.specs.declared.pad_name.Role.TheVariants.{Vdd}
use Rattle.geom.specs.declared.chip.Label.{Label}
use Rattle.geom.specs.Squares.{BoxShape}
use Rattle.geom.specs.Rows.{Among}
use Rattle.geom.specs.Conduction.{Drawing, Spot, Conducts, Joined}
use Rattle.switch_net.specs.Circuit.{Circuit, IsSameNetwork}
use Rattle.nmos_model.specs.declared.channel.Channel.{Channel}
use Rattle.nmos_model.specs.declared.refusal.ExtractCode.{ExtractCode}
use Rattle.nmos_model.specs.declared.refusal.ExtractCode.TheVariants.{X1, X2, X3, X4, X5, X6}
use Rattle.nmos_model.specs.declared.refusal.ReadChipFault.{ReadChipFault}
use Rattle.nmos_model.specs.declared.refusal.ReadChipFault.TheVariants.{Fault, NoMemory}
use Rattle.nmos_model.specs.declared.plain.PlainFault.{PlainFault}
use Rattle.nmos_model.specs.declared.plain.PlainFault.TheVariants as plain
use Rattle.nmos_model.specs.Channels.{Begins, IsByRow, IsFull, IsImplanted, HasTerminals, IsTransistor, gate_of, first_of, second_of}
use Rattle.nmos_model.specs.Pads.{AreNamed, IsFirstLabel, NoLabel, LacksRole}
use Rattle.nmos_model.specs.Networks.{StandsFor}

-- The region at (x, y) is no full rectangle, or lies partly under implant.
abbrev pub IsOdd : Drawing → ℤ → ℤ → Type 0
IsOdd Drawn x y = (r : BoxShape) (depletion : Bool) → IsFull Drawn x y r → IsImplanted Drawn depletion r → ⊥

-- Diffusion does not lie along two opposite sides of the region at (x, y), and nowhere along the other two.
abbrev pub HasOddTerminals : Drawing → ℤ → ℤ → Type 0
HasOddTerminals Drawn x y = (r : BoxShape) (upright : Bool) → IsFull Drawn x y r → HasTerminals Drawn upright r → ⊥

-- a square of a label
abbrev pub spot_of : Label → Spot
spot_of label = record { layer = label.layer; x = label.x; y = label.y }

-- A label of the supply stands on the net of the spot.
abbrev pub OnSupply : Drawing → List Label → Spot → Type 0
OnSupply Drawn labels spot = (label : Label) × Among labels label × (label.pad.role ≡ Vdd) × Joined Drawn (spot_of label) spot

-- One net has the channel's gate and one of its terminals; the other terminal is on the supply.
abbrev pub IsLoad : Drawing → List Label → Channel → Type 0
IsLoad Drawn labels c = (Joined Drawn (gate_of c) (first_of c) × OnSupply Drawn labels (second_of c))
    ⊎ (Joined Drawn (gate_of c) (second_of c) × OnSupply Drawn labels (first_of c))

-- The region at (x, y) is a depletion device and no load.
pub record IsOddLoad (Drawn : Drawing) (labels : List Label) (x y : ℤ) : Type 0 where
  pub channel : Channel
  pub across : channel.x1 ≡ x
  pub upward : channel.y1 ≡ y
  pub region : IsTransistor Drawn channel
  pub depletion : channel.depletion ≡ true
  pub odd : IsLoad Drawn labels channel → ⊥

-- (x, y) is the first square of the first region of which P holds.
pub record IsFirstRegion (Drawn : Drawing) (P : ℤ → ℤ → Type 0) (x y : ℤ) : Type 0 where
  pub begins : Begins Drawn x y
  pub holds : P x y
  pub first : (u v : ℤ) → Begins Drawn u v → P u v → IsByRow x y u v

-- P holds of no region.
abbrev pub NoRegion : Drawing → (ℤ → ℤ → Type 0) → Type 0
NoRegion Drawn P = (x y : ℤ) → Begins Drawn x y → P x y → ⊥

-- The label's square does not conduct in its layer.
abbrev pub StandsOnNothing : Drawing → List Label → Label → Type 0
StandsOnNothing Drawn earlier label = Conducts Drawn label.layer label.x label.y → ⊥

-- An earlier label has this one's name on another net, or another name on this one's net.
abbrev pub Disagrees : Drawing → List Label → Label → Type 0
Disagrees Drawn earlier label = (one : Label) × Among earlier one
    × (((one.pad ≡ label.pad) × (Joined Drawn (spot_of one) (spot_of label) → ⊥)) ⊎ ((one.pad ≢ label.pad) × Joined Drawn (spot_of one) (spot_of label)))

-- All regions are full rectangles with one kind of implant, and diffusion along two opposite sides alone.
pub record HasChannels (Drawn : Drawing) : Type 0 where
  pub even : NoRegion Drawn (IsOdd Drawn)
  pub ends : NoRegion Drawn (HasOddTerminals Drawn)

-- All labels stand on nets, one name on one net and one net under one name.
pub record HasNames (Drawn : Drawing) (labels : List Label) : Type 0 where
  pub stand : NoLabel (StandsOnNothing Drawn) labels
  pub agree : NoLabel (Disagrees Drawn) labels

-- The drawing with these labels is refused: odd channels come first, then odd terminals, labels on nothing, labels that
-- disagree, pads that are missing, and depletion devices that are no loads.
pub data IsRefused (Drawn : Drawing) (labels : List Label) : ExtractCode → Place → Type 0 where
  odd_channel : (x y : ℤ) → IsFirstRegion Drawn (IsOdd Drawn) x y → IsRefused Drawn labels X1 (Square x y)
  odd_terminals : (x y : ℤ) → NoRegion Drawn (IsOdd Drawn) → IsFirstRegion Drawn (HasOddTerminals Drawn) x y → IsRefused Drawn labels X2 (Square x y)
  label_on_nothing : (x y : ℤ) → HasChannels Drawn → IsFirstLabel (StandsOnNothing Drawn) labels x y → IsRefused Drawn labels X4 (Square x y)
  labels_disagree : (x y : ℤ) → HasChannels Drawn → NoLabel (StandsOnNothing Drawn) labels → IsFirstLabel (Disagrees Drawn) labels x y
      → IsRefused Drawn labels X5 (Square x y)
  missing_pad : HasChannels Drawn → HasNames Drawn labels → LacksRole labels → IsRefused Drawn labels X6 Whole
  odd_load : (x y : ℤ) → HasChannels Drawn → HasNames Drawn labels → (LacksRole labels → ⊥) → IsFirstRegion Drawn (IsOddLoad Drawn labels) x y
      → IsRefused Drawn labels X3 (Square x y)

-- A fault is that a channel region is odd, or its terminals are.
abbrev pub IsOddBy : Drawing → ReadChipFault → Type 0
IsOddBy Drawn (Fault fault) = (labels : List Label) → IsRefused Drawn labels fault.code fault.place
IsOddBy Drawn NoMemory = Unit {0}

-- A fault is such a refusal.
abbrev pub IsRefusedBy : Drawing → List Label → ReadChipFault → Type 0
IsRefusedBy Drawn labels (Fault fault) = IsRefused Drawn labels fault.code fault.place
IsRefusedBy Drawn labels NoMemory = Unit {0}

-- the same answer of the plain extractor
abbrev pub plain_fault : ReadChipFault → PlainFault
plain_fault (Fault fault) = plain.Fault fault
plain_fault NoMemory = plain.NoMemory

-- No labels let the drawing stand for a network and be refused too.
abbrev pub NeverBoth : Drawing → Type 0
NeverBoth Drawn = (labels : List Label) (circuit : Circuit) (code : ExtractCode) (place : Place) → AreNamed labels
    → StandsFor Drawn labels circuit → IsRefused Drawn labels code place → ⊥

-- The drawing with labels is refused in one way.
abbrev pub RefusedOnce : Drawing → Type 0
RefusedOnce Drawn = (labels : List Label) (code other : ExtractCode) (place there : Place)
    → IsRefused Drawn labels code place → IsRefused Drawn labels other there → (code ≡ other) × (place ≡ there)

-- It stands for one network, up to the numbers of its nets and the order of its devices.
abbrev pub StandForOne : Drawing → Type 0
StandForOne Drawn = (labels : List Label) (one other : Circuit) → AreNamed labels
    → StandsFor Drawn labels one → StandsFor Drawn labels other → IsSameNetwork one other
