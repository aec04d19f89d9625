use Rattle.std.proofs.Common.{◌≡◌, ◌+◌, None, ◌∙◌, inr, ap, sym, arith, rules}
use Rattle.net_text.specs.Steps.{fault_of_pads}
use Rattle.net_text.proofs.CircuitFaults.{text_of, circuit_fault, faultless}
use Rattle.net_text.proofs.reading.read_net.Goals as goal

pub returns-in-Some-clause-fault : goal.returns-in-Some-clause-fault
returns-in-Some-clause-fault c =
    let last = c.len.result + c.len-2.result + 3 in
    let fault = sym c.in-Some.is ∙ c.in_ok-fault.ensures ∙ ap (λ pads. fault_of_pads pads last) c.deref.ensures.value in
    inr (record {
      clear = c.in-Ok.ensures.read.clear;
      circuit = _;
      text_of = text_of c.args.text.now _ _ _ c.in-Ok.ensures.read;
      fault =
          circuit_fault c.args.text.now _ _ _ c.in-Ok.ensures.read last c.in-Some.fault fault
          (omega (arith, c.len.ensures, c.len-2.ensures, c.in-Ok.parts.pads.ok.0, c.in-Ok.parts.devices.ok.0));
    })

pub from_parts-requires : goal.from_parts-requires
from_parts-requires c =
    let last = c.len.result + c.len-2.result + 3 in
    let none : c.in_ok-fault.field-0 ≡ None = search rules in
    let fault = sym none ∙ c.in_ok-fault.ensures ∙ ap (λ pads. fault_of_pads pads last) c.deref.ensures.value in
    (c.faultless_is_network.ensures _).1 (faultless c.args.text.now _ _ _ c.in-Ok.ensures.read last fault)
