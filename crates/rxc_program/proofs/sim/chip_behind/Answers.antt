use Rattle.std.proofs.Common.{subst, arith}
use Rattle.rxc_program.specs.Chips.{IsNoChip}
use Rattle.rxc_program.specs.Serving.{StopsBy}
use Rattle.rxc_program.proofs.Chips.{no_chip_within}
use Rattle.rxc_program.proofs.sim.chip_behind.Goals as goal

-- src/sim.rt
pub lower-requires : goal.lower-requires
lower-requires c = λ line column is.
    let chip = c.args.chip.now in
    let code = c.in-Err-Refused.code in
    let refused : IsNoChip chip code c.in-Err-Refused.place = subst (λ s. StopsBy (IsNoChip chip) s) c.in-Err-Refused.field-0-is c.in-Err-Refused.ensures.status in
    let broken = subst (λ at. IsNoChip chip code at) is refused in
    let low = no_chip_within c.refusals_stand_in_the_text.ensures c.layout_refusals_stand_in_the_text.ensures chip code line column broken in
    let within = c.requires.within in
    let few = c.requires.few in
    omega (arith, low, within, few)
