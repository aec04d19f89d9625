use Rattle.std.proofs.Common.{◌≡◌, ◌<◌, ◌≤◌, inl, inr, arith, length, subst}
use Rattle.nmos_model.specs.Rasters.{Paints}
use Rattle.nmos_model.proofs.Common.{below_or_above}
use Rattle.nmos_model.proofs.Painting.{paints_none, paints_one, paints_both}
use Rattle.nmos_model.proofs.raster.paint_run.Goals as goal

pub loop-at-init : goal.loop-at-init
loop-at-init c = paints_none _ _ _ (λ k h. let from = h.0 in let to = h.1 in absurd (omega arith))

pub loop-at-preserved : goal.loop-at-preserved
loop-at-preserved c =
    let within : c.loop-at.at < length c.loop-at.squares = omega (arith, c.loop-at-test.true, c.requires.within, c.loop-at.auto.squares) in
    let from = c.loop-at.auto.at in
    paints_both _ (λ k. k ≡ c.loop-at.at) _ c.args.layer _ _ _ c.loop-at.invariant
    (paints_one c.args.layer c.loop-at.squares c.loop-at.at c.with.result within c.with.ensures)
    (λ k h. let lower = h.0 in let upper = h.1 in
    elim (below_or_above c.loop-at.at k) [ inl ge ↦ inr (omega arith) | inr lt ↦ inl (lower, lt) ])
    (λ k h. elim h [ inl p ↦ (let lower = p.0 in lower, let upper = p.1 in omega arith) | inr same ↦ (omega arith, omega arith) ])

pub returns-clause-painted : goal.returns-clause-painted
returns-clause-painted c =
    let end : c.loop-at.at ≡ c.args.to = omega (arith, c.loop-at-test.false, c.loop-at.auto.at-end c.requires.order) in
    subst (λ m. Paints (λ k. (c.args.from ≤ k) × (k < m)) c.args.layer c.args.squares.now c.loop-at.squares) end c.loop-at.invariant
