-- Why labels and channels on known nets make no network: codes and places, in order.
use Rattle.std.specs.Prelude.{◌≡◌, ◌<◌, ℕ, ℤ, List, ◌∷◌, ◌++◌, Some}
use Rattle.rx_text.specs.declared.place.Place.{Place}
use Rattle.rx_text.specs.declared.place.Place.TheVariants.{Square, Whole}
use Rattle.rx_text.specs.declared.pad_name.Role.TheVariants.{Vdd}
use Rattle.geom.specs.declared.layer.Layer.{Layer}
use Rattle.geom.specs.declared.chip.Label.{Label}
use Rattle.geom.specs.Rows.{Among}
use Rattle.nmos_model.specs.declared.channel.Channel.{Channel}
use Rattle.nmos_model.specs.declared.refusal.ExtractCode.{ExtractCode}
use Rattle.nmos_model.specs.declared.refusal.ExtractCode.TheVariants.{X3, X4, X5, X6}
use Rattle.nmos_model.specs.declared.refusal.ReadChipFault.{ReadChipFault}
use Rattle.nmos_model.specs.declared.refusal.ReadChipFault.TheVariants.{Fault, NoMemory}
use Rattle.nmos_model.specs.Pads.{NetAt, AreNamed, AreSound, StandsOnNothing, Disagrees, IsFirstLabel, NoLabel, LacksRole, label_net}
use Rattle.nmos_model.specs.Devices.{IsNoLoad}

-- All nets have numbers below this one.
abbrev pub AreBelow : ℕ → NetAt → Type 0
AreBelow count net = (layer : Layer) (x y : ℤ) (n : ℕ) → net layer x y ≡ Some n → n < count

-- A label of the supply stands on the net.
abbrev pub IsSupplyNet : NetAt → List Label → ℕ → Type 0
IsSupplyNet net labels vdd = (label : Label) × Among labels label × (label.pad.role ≡ Vdd) × (label_net net label ≡ Some vdd)

-- (x, y) is the lower left square of the first of the channels that is a depletion device and no load.
pub record IsFirstOddLoad (net : NetAt) (vdd : ℕ) (channels : List Channel) (x y : ℤ) : Type 0 where
  pub earlier : List Channel
  pub channel : Channel
  pub later : List Channel
  pub whole : channels ≡ earlier ++ channel ∷ later
  pub odd : IsNoLoad net vdd channel
  pub first : (one : Channel) → Among earlier one → IsNoLoad net vdd one → ⊥
  pub across : channel.x1 ≡ x
  pub upward : channel.y1 ≡ y

-- Labels on nothing come first, then labels that disagree, then pads that are missing, then depletion devices that are no loads.
pub data IsUnsound (net : NetAt) (channels : List Channel) (labels : List Label) : ExtractCode → Place → Type 0 where
  label_on_nothing : (x y : ℤ) → IsFirstLabel (StandsOnNothing net) labels x y → IsUnsound net channels labels X4 (Square x y)
  labels_disagree : (x y : ℤ) → NoLabel (StandsOnNothing net) labels → IsFirstLabel (Disagrees net) labels x y
      → IsUnsound net channels labels X5 (Square x y)
  missing_pad : NoLabel (StandsOnNothing net) labels → NoLabel (Disagrees net) labels → LacksRole labels → IsUnsound net channels labels X6 Whole
  odd_load : (x y : ℤ) (vdd : ℕ) → AreNamed labels → AreSound net labels → IsSupplyNet net labels vdd → IsFirstOddLoad net vdd channels x y → IsUnsound net channels labels X3 (Square x y)

-- A fault is such a refusal.
abbrev pub IsUnsoundBy : NetAt → List Channel → List Label → ReadChipFault → Type 0
IsUnsoundBy net channels labels (Fault fault) = IsUnsound net channels labels fault.code fault.place
IsUnsoundBy net channels labels NoMemory = Unit {0}

-- A fault is that a channel is a depletion device and no load.
abbrev pub IsOddLoadBy : NetAt → ℕ → List Channel → ReadChipFault → Type 0
IsOddLoadBy net vdd channels (Fault fault) = (x : ℤ) × (y : ℤ) × (fault ≡ record { code = X3; place = Square x y }) × IsFirstOddLoad net vdd channels x y
IsOddLoadBy net vdd channels NoMemory = Unit {0}
