use Rattle.std.proofs.Common.{append_assoc, refl}
use Rattle.net_text.proofs.Gathering.{on_ok, Gathers-nil, Gathers-trans, PutsBehind-failed, PutsBehind-last}
use Rattle.net_text.proofs.writing.put_net.Goals as goal

pub returns-in_err-put_head-clause-bytes : goal.returns-in_err-put_head-clause-bytes
returns-in_err-put_head-clause-bytes g c =
    let head = rw c.nets.ensures at c.in_err-put_head.ensures.bytes in
    rw (append_assoc, append_assoc) (PutsBehind-failed _ _ _ _ _ c.from_residual.ensures.0 (Gathers-nil _ _) head)

pub returns-in_err-put_pads-clause-bytes : goal.returns-in_err-put_pads-clause-bytes
returns-in_err-put_pads-clause-bytes g c =
    let head = rw c.nets.ensures at c.in_ok-put_head.ensures.bytes in
    let pads = rw c.pads.ensures.pads at c.in_err-put_pads.ensures.bytes in
    rw append_assoc (PutsBehind-failed _ _ _ _ _ c.from_residual-in_err-put_pads.ensures.0 head pads)

pub returns-in_err-put_devices-clause-bytes : goal.returns-in_err-put_devices-clause-bytes
returns-in_err-put_devices-clause-bytes g c =
    let head = rw c.nets.ensures at c.in_ok-put_head.ensures.bytes in
    let pads = rw c.pads.ensures.pads at c.in_ok-put_pads.ensures.bytes in
    let devices = rw c.devices.ensures at c.in_err-put_devices.ensures.bytes in
    PutsBehind-failed _ _ _ _ _ c.from_residual-in_err-put_devices.ensures.0 (Gathers-trans head pads) devices

pub returns-clause-bytes : goal.returns-clause-bytes
returns-clause-bytes g c =
    let head = rw c.nets.ensures at c.in_ok-put_head.ensures.bytes in
    let pads = rw c.pads.ensures.pads at c.in_ok-put_pads.ensures.bytes in
    let devices = rw c.devices.ensures at c.in_ok-put_devices.ensures.bytes in
    PutsBehind-last _ _ _ _ (Gathers-trans (Gathers-trans head pads) devices) c.put.ensures.bytes

pub returns-clause-reads_back : goal.returns-clause-reads_back
returns-clause-reads_back g c = on_ok c.put.result (λ few. record {
  text_of = record { text = refl; named = rw c.pads.ensures.pads at c.in_ok-put_pads.ensures.named; few_nets = few };
  network = c.pads.ensures.valid;
})
