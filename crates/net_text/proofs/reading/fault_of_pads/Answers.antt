use Rattle.std.proofs.Common.{[], ◌∙◌, sym, arith}
use Rattle.net_text.proofs.CircuitFaults.{repeat_within}
use Rattle.net_text.proofs.reading.fault_of_pads.Goals as goal

pub overflow_add-at : goal.overflow_add-at
overflow_add-at c =
    let below = repeat_within [] c.args.pads.now c.in-Some.at (sym c.in_ok-at.ensures ∙ c.in-Some.is) in
    omega (arith, below, c.requires.pads_fit)
