-- What is known of boxes whose nets and channels are known.
use Rattle.std.specs.Prelude.{◌≡◌, ℕ, List}
use Rattle.geom.specs.Squares.{BoxShape, Covered}
use Rattle.geom.specs.Rows.{Pairwise}
use Rattle.geom.specs.declared.chip.Label.{Label}
use Rattle.switch_net.specs.Circuit.{Circuit}
use Rattle.nmos_model.specs.declared.channel.Channel.{Channel}
use Rattle.nmos_model.specs.declared.refusal.ReadChipFault.{ReadChipFault}
use Rattle.nmos_model.specs.Nets.{AreNets}
use Rattle.nmos_model.specs.Channels.{AreChannels, IsTransistor, IsEarlier}
use Rattle.nmos_model.specs.Pads.{NetAt, AreSound}
use Rattle.nmos_model.specs.Devices.{OnNets}
use Rattle.nmos_model.specs.Networks.{Connects, StandsFor}
use Rattle.nmos_model.specs.Refusals.{HasChannels, IsOddBy, IsRefusedBy}
use Rattle.nmos_model.specs.Unsound.{AreBelow, IsUnsoundBy}

-- Boxes with these nets and channels: nets have numbers below their count, channels are on nets, what connects them is a network that
-- the boxes stand for, and what is unsound is a refusal.
pub record AreJudged (boxes : List BoxShape) : Type 0 where
  pub below : (count : ℕ) (net : NetAt) → AreNets (Covered boxes) count net → AreBelow count net
  pub on_nets : (count : ℕ) (net : NetAt) → AreNets (Covered boxes) count net → (c : Channel) → IsTransistor (Covered boxes) c → OnNets net c
  pub network : (count : ℕ) (net : NetAt) → AreNets (Covered boxes) count net → (channels : List Channel) → AreChannels (Covered boxes) channels
      → (labels : List Label) (circuit : Circuit) → AreSound net labels → Connects count net channels labels circuit
      → StandsFor (Covered boxes) labels circuit
  pub refusal : (count : ℕ) (net : NetAt) → AreNets (Covered boxes) count net → (channels : List Channel) → AreChannels (Covered boxes) channels
      → HasChannels (Covered boxes) → Pairwise IsEarlier channels → (labels : List Label) (fault : ReadChipFault)
      → IsUnsoundBy net channels labels fault → IsRefusedBy (Covered boxes) labels fault
  pub odd : (labels : List Label) (fault : ReadChipFault) → IsOddBy (Covered boxes) fault → IsRefusedBy (Covered boxes) labels fault
