use Rattle.std.proofs.Common.{◌≡◌, ◌-◌, sym, ap, ◌∙◌, arith, take, drop, get_or}
use Rattle.switch_sim.specs.TraceReading.{start_from}
use Rattle.switch_sim.proofs.Cuts.{within, cut_at}
use Rattle.switch_sim.proofs.trace.slice_between.Goals as goal

pub slice_bounds-result-count : goal.slice_bounds-result-count
slice_bounds-result-count c =
    let place = within 0 c.args.ends.now c.args.bits.now c.args.at c.requires.ends c.requires.within in omega (arith, c.start_of-start.ensures)

pub slice_bounds-result-start : goal.slice_bounds-result-start
slice_bounds-result-start c =
    let place = within 0 c.args.ends.now c.args.bits.now c.args.at c.requires.ends c.requires.within in omega (arith, c.start_of-start.ensures)

pub slice_bounds-result-end : goal.slice_bounds-result-end
slice_bounds-result-end c =
    let place = within 0 c.args.ends.now c.args.bits.now c.args.at c.requires.ends c.requires.within in omega (arith, c.start_of-start.ensures)

pub returns : goal.returns
returns c =
    let cut = cut_at 0 c.args.ends.now c.args.bits.now c.args.at c.requires.ends c.requires.within in
    let none : start_from 0 c.args.ends.now c.args.at - 0 ≡ start_from 0 c.args.ends.now c.args.at = omega arith in
    rw c.start_of-start.ensures
    (ap (λ n. take (get_or c.args.ends.now c.args.at 0 - start_from 0 c.args.ends.now c.args.at) (drop n c.args.bits.now)) (sym none) ∙ sym cut)
