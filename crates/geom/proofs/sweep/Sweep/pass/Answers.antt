-- Each step passes over further rows.
use Rattle.std.proofs.Common.{rules, ◌≡◌, ℤ, ◌≤ℤ◌, arith, subst, w64, to_z, of_z}
use Rattle.std.proofs.lemmas.Int.{ints}
use Rattle.geom.specs.Sweeps.{Passes}
use Rattle.geom.proofs.Sweeps.{passed_start, passed_more}
use Rattle.geom.proofs.sweep.Sweep.pass.Goals as goal

pub loop-row-init : goal.loop-row-init
loop-row-init c =
    let b : to_z w64 (of_z w64 c.args.strip.bottom) ≡ c.args.strip.bottom = search rules in
    rw b (passed_start c.args.self.now c.args.strip c.requires)

pub loop-row-preserved : goal.loop-row-preserved
loop-row-preserved c =
    let n : to_z w64 (of_z w64 c.in_ok-row.row) ≡ c.in_ok-row.row = search rules in
    let p : _ = c.loop-row.invariant in
    let q : _ = c.in_ok-row.ensures.passed in
    let w : _ = c.in_ok-row.ensures.within in
    rw n (passed_more c.args.self.now c.loop-row.self c.step.new.self c.args.strip (to_z w64 c.loop-row.row-bits) c.in_ok-row.row c.loop-row.invariant c.in_ok-row.ensures.layer c.in_ok-row.ensures.within.0 c.in_ok-row.ensures.within.1 c.in_ok-row.ensures.passed)

pub returns-clause-passed : goal.returns-clause-passed
returns-clause-passed c =
    let b : c.args.strip.top ≤ℤ to_z w64 c.loop-row.row-bits = search rules in
    let a : to_z w64 c.loop-row.row-bits ≤ℤ c.args.strip.top = c.loop-row.invariant.below in
    let e : to_z w64 c.loop-row.row-bits ≡ c.args.strip.top = omega (arith, ints) in
    let P : ℤ → Type 0 = λ y. Passes c.args.self.now c.args.strip c.args.strip.bottom y c.loop-row.self in
    subst P e c.loop-row.invariant.passed
