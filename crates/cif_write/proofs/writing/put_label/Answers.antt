use Rattle.std.proofs.Common.{rules, ◌≡◌, append_assoc, w64, to_z, of_z}
use Rattle.cif_write.proofs.Gathering.{Gathers-nil, Gathers-trans, Puts-failed, Puts-last}
use Rattle.cif_write.proofs.writing.put_label.Goals as goal

pub returns-in_err-put_pad_name-clause-bytes : goal.returns-in_err-put_pad_name-clause-bytes
returns-in_err-put_pad_name-clause-bytes g c =
    rw (append_assoc, append_assoc) (Puts-failed _ _ _ _ _ c.from_residual.ensures.0 (Gathers-nil _ _) c.in_err-put_pad_name.ensures.bytes)

pub returns-in_err-put_pair-clause-bytes : goal.returns-in_err-put_pair-clause-bytes
returns-in_err-put_pair-clause-bytes g c =
    let x : to_z w64 (of_z w64 c.args.label.x) ≡ c.args.label.x = search rules in
    let y : to_z w64 (of_z w64 c.args.label.y) ≡ c.args.label.y = search rules in
    let place = rw (c.units.ensures, c.units-2.ensures, x, y) at c.in_err-put_pair.ensures.bytes in
    rw append_assoc (Puts-failed _ _ _ _ _ c.from_residual-in_err-put_pair.ensures.0 c.in_ok-put_pad_name.ensures.bytes place)

pub returns-clause-bytes : goal.returns-clause-bytes
returns-clause-bytes g c =
    let x : to_z w64 (of_z w64 c.args.label.x) ≡ c.args.label.x = search rules in
    let y : to_z w64 (of_z w64 c.args.label.y) ≡ c.args.label.y = search rules in
    let place = rw (c.units.ensures, c.units-2.ensures, x, y) at c.in_ok-put_pair.ensures.bytes in
    let word = rw c.layer_word.ensures at c.put_word.ensures.bytes in
    rw append_assoc (Puts-last _ _ _ _ (Gathers-trans c.in_ok-put_pad_name.ensures.bytes place) word)
