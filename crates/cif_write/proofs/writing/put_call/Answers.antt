use Rattle.std.proofs.Common.{rules, ◌≡◌, w64, to_z, of_z}
use Rattle.cif_write.proofs.Gathering.{Gathers-nil, Puts-failed, Puts-last}
use Rattle.cif_write.proofs.writing.put_call.Goals as goal

pub returns-in_err-put_word-clause-bytes : goal.returns-in_err-put_word-clause-bytes
returns-in_err-put_word-clause-bytes g c =
    let kind = rw (c.as_bytes.ensures, c.called_number.ensures) at c.in_err-put_word.ensures.bytes in
    Puts-failed _ _ _ _ _ c.from_residual.ensures.0 (Gathers-nil _ _) kind

pub returns-clause-bytes : goal.returns-clause-bytes
returns-clause-bytes g c =
    let x : to_z w64 (of_z w64 c.args.call.x) ≡ c.args.call.x = search rules in
    let y : to_z w64 (of_z w64 c.args.call.y) ≡ c.args.call.y = search rules in
    let kind = rw (c.as_bytes.ensures, c.called_number.ensures) at c.in_ok-put_word.ensures.bytes in
    let place = rw (c.units.ensures, c.units-2.ensures, x, y) at c.put_pair.ensures.bytes in
    Puts-last _ _ _ _ kind place
