use Rattle.std.proofs.Common.{append_assoc}
use Rattle.net_text.proofs.Gathering.{Gathers-nil, Gathers-trans, PutsBehind-failed, PutsBehind-last}
use Rattle.net_text.proofs.writing.put_device.Goals as goal

pub returns-in_err-put-in-Pass-clause-bytes : goal.returns-in_err-put-in-Pass-clause-bytes
returns-in_err-put-in-Pass-clause-bytes g c =
    rw c.in-Pass.is (PutsBehind-failed _ _ _ _ _ c.from_residual.ensures.0 (Gathers-nil _ _) c.in_err-put-in-Pass.ensures.bytes)

pub returns-in_err-put_number-in-Pass-clause-bytes : goal.returns-in_err-put_number-in-Pass-clause-bytes
returns-in_err-put_number-in-Pass-clause-bytes g c =
    rw (c.in-Pass.is, append_assoc, append_assoc)
    (PutsBehind-failed _ _ _ _ _ c.from_residual-in_err-put_number-in-Pass.ensures.0 c.in_ok-put-in-Pass.ensures.bytes c.in_err-put_number-in-Pass.ensures.bytes)

pub returns-in_err-put_number-in-Pass-2-clause-bytes : goal.returns-in_err-put_number-in-Pass-2-clause-bytes
returns-in_err-put_number-in-Pass-2-clause-bytes g c =
    let gate = Gathers-trans c.in_ok-put-in-Pass.ensures.bytes c.in_ok-put_number-in-Pass.ensures.bytes in
    rw (c.in-Pass.is, append_assoc)
    (PutsBehind-failed _ _ _ _ _ c.from_residual-in_err-put_number-in-Pass-2.ensures.0 gate c.in_err-put_number-in-Pass-2.ensures.bytes)

pub returns-in_err-put_number-in-Pass-3-clause-bytes : goal.returns-in_err-put_number-in-Pass-3-clause-bytes
returns-in_err-put_number-in-Pass-3-clause-bytes g c =
    let gate = Gathers-trans c.in_ok-put-in-Pass.ensures.bytes c.in_ok-put_number-in-Pass.ensures.bytes in
    let a = Gathers-trans gate c.in_ok-put_number-in-Pass-2.ensures.bytes in
    rw c.in-Pass.is (PutsBehind-failed _ _ _ _ _ c.from_residual-in_err-put_number-in-Pass-3.ensures.0 a c.in_err-put_number-in-Pass-3.ensures.bytes)

pub returns-in_err-put-in-Load-clause-bytes : goal.returns-in_err-put-in-Load-clause-bytes
returns-in_err-put-in-Load-clause-bytes g c =
    rw c.in-Load.is (PutsBehind-failed _ _ _ _ _ c.from_residual-in_err-put-in-Load.ensures.0 (Gathers-nil _ _) c.in_err-put-in-Load.ensures.bytes)

pub returns-in_err-put_number-in-Load-clause-bytes : goal.returns-in_err-put_number-in-Load-clause-bytes
returns-in_err-put_number-in-Load-clause-bytes g c =
    rw c.in-Load.is
    (PutsBehind-failed _ _ _ _ _ c.from_residual-in_err-put_number-in-Load.ensures.0 c.in_ok-put-in-Load.ensures.bytes c.in_err-put_number-in-Load.ensures.bytes)

pub returns-in_ok-put_number-in-Pass-3-clause-bytes : goal.returns-in_ok-put_number-in-Pass-3-clause-bytes
returns-in_ok-put_number-in-Pass-3-clause-bytes g c =
    let gate = Gathers-trans c.in_ok-put-in-Pass.ensures.bytes c.in_ok-put_number-in-Pass.ensures.bytes in
    let a = Gathers-trans gate c.in_ok-put_number-in-Pass-2.ensures.bytes in
    let b = Gathers-trans a c.in_ok-put_number-in-Pass-3.ensures.bytes in
    rw c.in-Pass.is (PutsBehind-last _ _ _ _ b c.put-in-Pass.ensures.bytes)

pub returns-in_ok-put_number-in-Load-clause-bytes : goal.returns-in_ok-put_number-in-Load-clause-bytes
returns-in_ok-put_number-in-Load-clause-bytes g c =
    let net = Gathers-trans c.in_ok-put-in-Load.ensures.bytes c.in_ok-put_number-in-Load.ensures.bytes in
    rw c.in-Load.is (PutsBehind-last _ _ _ _ net c.put-in-Load-2.ensures.bytes)
