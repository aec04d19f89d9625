-- The network that the squares of a drawing and its labels stand for.
use Rattle.std.specs.Prelude.{◌≡◌, ℕ, List}
use Rattle.geom.specs.declared.chip.Label.{Label}
use Rattle.geom.specs.Conduction.{Drawing}
use Rattle.switch_net.specs.Circuit.{Circuit}
use Rattle.nmos_model.specs.declared.channel.Channel.{Channel}
use Rattle.nmos_model.specs.Nets.{AreNets}
use Rattle.nmos_model.specs.Channels.{AreChannels}
use Rattle.nmos_model.specs.Pads.{NetAt, ArePads, AreSound}
use Rattle.nmos_model.specs.Devices.{AreDevices, IsSupply}

-- Pads of the labels and devices of the channels on these nets, of which there are so many.
pub record Connects (count : ℕ) (net : NetAt) (channels : List Channel) (labels : List Label) (circuit : Circuit) : Type 0 where
  pub nets : circuit.nets ≡ count
  pub pads : ArePads net labels circuit.pads
  pub vdd : ℕ
  pub supply : IsSupply circuit.pads vdd
  pub devices : AreDevices net vdd channels circuit.devices

-- The squares of the drawing and the labels stand for the network: its nets are the classes of conducting squares, its devices
-- are the channel regions, and its pads the names of the labels. The numbers of nets and the order of devices are free.
pub record StandsFor (Drawn : Drawing) (labels : List Label) (circuit : Circuit) : Type 0 where
  pub net : NetAt
  pub nets : AreNets Drawn circuit.nets net
  pub channels : List Channel
  pub regions : AreChannels Drawn channels
  pub sound : AreSound net labels
  pub connects : Connects circuit.nets net channels labels circuit
