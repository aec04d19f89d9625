use Rattle.std.proofs.Common.{sym, ◌∙◌, arith, ◌≤◌, ◌^◌}
use Rattle.net_text.specs.declared.net_fault.NetCode.TheVariants.{N2}
use Rattle.net_text.proofs.Steps.{Reads-number}
use Rattle.net_text.proofs.reading.read_net_before.Goals as goal

pub returns-clause-reads : goal.returns-clause-reads
returns-clause-reads c =
    let small : c.args.nets ≤ 2 ^ 64 = omega (arith, c.ranges.nets.fits) in
    (Reads-number c.args.nets N2 c.args.word.now c.args.text.now c.args.at c.in_ok-number.number c.in_ok-number.next c.requires small
    (sym c.number_before.ensures ∙ c.in_ok-number.was)).0
