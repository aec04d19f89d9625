-- The quotient of an exact division.
use Rattle.std.proofs.Common.{◌≡◌, ◌*◌, ◌^◌, ◌≤◌, ℤ, pos, ◌*ℤ◌, sym, ◌∙◌, ap, subst, arith}
use mir.Syntax.{w64}
use mir.Val.{to_z, of_z}
use Rattle.std.proofs.lemmas.Int.{ints, fits_signed_from_abs}
use Rattle.geom.specs.Turns.{IsReachable}
use Rattle.cif_codes.proofs.Multiples.{in_lambda, lambda_exact, lambda_near, lambda_word, lambda_short, lambda_fits}
use Rattle.cif_codes.proofs.scale.Scale.scaled.Goals as goal

pub overflow_cast-result : goal.overflow_cast-result
overflow_cast-result c =
    let a : c.from.result ≡ c.args.twice = omega (arith, ints) in
    let b : c.from-2.result ≡ pos c.args.self.times = omega (arith, ints) in
    let p : c.from-3.result ≡ pos (400 * c.args.self.per) = omega (arith, ints) in
    let r = lambda_near c.args.self c.args.twice c.requires.scale c.requires.on_grid c.requires.not_far in
    lambda_fits c.args.self c.args.twice _ (lambda_word c.args.self c.args.twice c.from.result c.from-2.result c.from-3.result a b p c.requires.near c.requires.scale r) r

pub returns-clause-scaled : goal.returns-clause-scaled
returns-clause-scaled c =
    let a : c.from.result ≡ c.args.twice = omega (arith, ints) in
    let b : c.from-2.result ≡ pos c.args.self.times = omega (arith, ints) in
    let p : c.from-3.result ≡ pos (400 * c.args.self.per) = omega (arith, ints) in
    let r = lambda_near c.args.self c.args.twice c.requires.scale c.requires.on_grid c.requires.not_far in
    ap (λ (z : ℤ). to_z w64 (of_z w64 z)) (lambda_word c.args.self c.args.twice c.from.result c.from-2.result c.from-3.result a b p c.requires.near c.requires.scale r)
    ∙ lambda_short c.args.self c.args.twice r

pub returns-clause-exact : goal.returns-clause-exact
returns-clause-exact c =
    let a : c.from.result ≡ c.args.twice = omega (arith, ints) in
    let b : c.from-2.result ≡ pos c.args.self.times = omega (arith, ints) in
    let p : c.from-3.result ≡ pos (400 * c.args.self.per) = omega (arith, ints) in
    let r = lambda_near c.args.self c.args.twice c.requires.scale c.requires.on_grid c.requires.not_far in
    let e = ap (λ (z : ℤ). to_z w64 (of_z w64 z)) (lambda_word c.args.self c.args.twice c.from.result c.from-2.result c.from-3.result a b p c.requires.near c.requires.scale r)
    ∙ lambda_short c.args.self c.args.twice r in
    ap (λ (z : ℤ). z *ℤ pos (400 * c.args.self.per)) e ∙ lambda_exact c.args.self c.args.twice c.requires.on_grid

pub returns-clause-reachable : goal.returns-clause-reachable
returns-clause-reachable c =
    let a : c.from.result ≡ c.args.twice = omega (arith, ints) in
    let b : c.from-2.result ≡ pos c.args.self.times = omega (arith, ints) in
    let p : c.from-3.result ≡ pos (400 * c.args.self.per) = omega (arith, ints) in
    let r = lambda_near c.args.self c.args.twice c.requires.scale c.requires.on_grid c.requires.not_far in
    let e = ap (λ (z : ℤ). to_z w64 (of_z w64 z)) (lambda_word c.args.self c.args.twice c.from.result c.from-2.result c.from-3.result a b p c.requires.near c.requires.scale r)
    ∙ lambda_short c.args.self c.args.twice r in
    subst IsReachable (sym e) r
