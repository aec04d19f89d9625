-- The copies are of a part.
use Rattle.std.proofs.Common.{sym, ap, subst, ◌∙◌}
use Rattle.nor_net.specs.Part.{IsPart}
use Rattle.nor_net.specs.declared.part.Supplies.{Supplies}
use Rattle.pla_plan.proofs.array_plan.copied_part.Goals as goal

pub new-requires : goal.new-requires
new-requires c =
    let supplies = c.supplies.ensures.supplies in
    let vdd = sym (ap (λ (s : Supplies). s.vdd) supplies) in
    let gnd = sym (ap (λ (s : Supplies). s.gnd) supplies) in
    let phi1 = sym (ap (λ (s : Supplies). s.phi1) supplies) in
    let phi2 = sym (ap (λ (s : Supplies). s.phi2) supplies) in
    let nets = sym c.nets.ensures.nets in
    let gates = sym (c.in_ok-gates.ensures ∙ c.gates.ensures.gates) in
    let loads = sym (c.in_ok-loads.ensures.items ∙ c.loads.ensures.loads) in
    let transfers = sym (c.in_ok-transfers.ensures.items ∙ c.transfers.ensures.transfers) in
    let ports = sym (c.in_ok-ports.ensures.items ∙ c.ports.ensures.ports) in
    subst IsPart
    (λ i. record {
      nets = nets i;
      vdd = vdd i;
      gnd = gnd i;
      phi1 = phi1 i;
      phi2 = phi2 i;
      gates = gates i;
      loads = loads i;
      transfers = transfers i;
      ports = ports i;
    })
    c.nets.ensures.part
