-- The lemmas of the plain extractor, of boxes.
use Rattle.geom.specs.Squares.{Covered}
use Rattle.nmos_model.proofs.Labels.{below}
use Rattle.nmos_model.proofs.Loads.{on_nets}
use Rattle.nmos_model.proofs.Standing.{standing, unsound_refused, odd_refused}
use Rattle.nmos_model.proofs.laws.known_boxes_are_judged.Goals as goal

pub returns : goal.returns
returns c = λ boxes. record {
  below = λ count net nets. below (Covered boxes) count net nets;
  on_nets = λ count net nets c region. on_nets (Covered boxes) count net nets c region;
  network = λ count net nets channels regions labels circuit sound there.
      standing (Covered boxes) count net nets labels channels regions circuit sound there;
  refusal = λ count net nets channels regions even order labels fault unsound.
      unsound_refused (Covered boxes) count net nets labels channels regions even order fault unsound;
  odd = λ labels fault odd. odd_refused (Covered boxes) labels fault odd;
}
