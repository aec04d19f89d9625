-- Below the lower limit.
use Rattle.std.proofs.Common.{◌≡◌, ◌*◌, ◌^◌, pos, arith}
use Rattle.std.proofs.lemmas.Int.{ints}
use Rattle.cif_codes.specs.Scales.{ratio}
use Rattle.cif_codes.proofs.Scaling.{far_below, false_lt}
use Rattle.cif_codes.proofs.scale.Scale.is_far_off.Goals as goal

pub returns-else-limit-scaled : goal.returns-else-limit-scaled
returns-else-limit-scaled c =
    let a : c.from.result ≡ c.args.twice = omega (arith, ints) in
    let b : c.from-2.result ≡ pos c.args.self.times = omega (arith, ints) in
    let p : c.from-3.result ≡ pos (400 * c.args.self.per) = omega (arith, ints) in
    let q : c.from-4.result ≡ pos (2 ^ 40) = omega (arith, ints) in
    far_below (ratio c.args.self) c.args.twice c.from.result c.from-2.result c.from-3.result c.from-4.result a b p q c.requires.near
    c.requires.scale.few_times c.requires.scale.few_per (false_lt _ _ c.if-limit-scaled.false)
