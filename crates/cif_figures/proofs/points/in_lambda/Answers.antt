-- The coordinate, from machine words.
use Rattle.std.proofs.Common.{ℤ, sym, subst}
use Rattle.cif_figures.specs.Scaling.{IsScaled}
use Rattle.cif_figures.proofs.Scaling.{twice_word, scaled_by}
use Rattle.cif_figures.proofs.Words.{reachable_word}
use Rattle.cif_figures.proofs.points.in_lambda.Goals as goal

pub returns : goal.returns
returns c =
    let v : ℤ = c.scaled.result in
    let P : ℤ → Type 0 = λ z. IsScaled c.args.scale c.args.units z in
    subst P (sym (reachable_word v c.scaled.ensures.reachable))
    (scaled_by c.args.scale c.args.units _ v (twice_word c.args.units c.ranges.units c.requires.drawn.near) c.scaled.ensures.scaled
    c.scaled.ensures.exact
    c.scaled.ensures.reachable)
