-- Squares in layers whose nets are asked, and the nets of channels' gates and terminals.
use Rattle.std.specs.Prelude.{◌≡◌, ℕ, Option, Some}
use Rattle.geom.specs.Conduction.{Spot}
use Rattle.geom.specs.declared.chip.Label.{Label}
use Rattle.nmos_model.specs.declared.channel.Channel.{Channel}
use Rattle.nmos_model.specs.declared.sites.Site.{Site}
use Rattle.nmos_model.specs.declared.ends.Ends.{Ends}
use Rattle.nmos_model.specs.Channels.{gate_of, first_of, second_of}
use Rattle.nmos_model.specs.Devices.{spot_net}
use Rattle.nmos_model.specs.Pads.{NetAt}

-- the net of a site
abbrev pub site_net : NetAt → Site → Option ℕ
site_net net site = net site.layer site.x site.y

-- the site of a label
abbrev pub label_site : Label → Site
label_site label = record { layer = label.layer; x = label.x; y = label.y }

-- the site of a spot
abbrev pub spot_site : Spot → Site
spot_site spot = record { layer = spot.layer; x = spot.x; y = spot.y }

-- the sites of a channel's gate and of its terminals
abbrev pub gate_site : Channel → Site
gate_site c = spot_site (gate_of c)

abbrev pub first_site : Channel → Site
first_site c = spot_site (first_of c)

abbrev pub second_site : Channel → Site
second_site c = spot_site (second_of c)

-- The gate and the terminals of the channel are on these nets.
pub record HasEnds (net : NetAt) (c : Channel) (ends : Ends) : Type 0 where
  pub gate : spot_net net (gate_of c) ≡ Some ends.gate
  pub first : spot_net net (first_of c) ≡ Some ends.first
  pub second : spot_net net (second_of c) ≡ Some ends.second
