-- Each set has the squares of its layer.
use Rattle.nmos_extract.proofs.layers.sets_of.Goals as goal

pub returns : goal.returns
returns c = record {
  diffusion = c.in_ok-diffusion.ensures;
  poly = c.in_ok-poly.ensures;
  metal = c.in_ok-metal.ensures;
  cut = c.in_ok-cut.ensures;
  implant = c.in_ok-implant.ensures;
}
