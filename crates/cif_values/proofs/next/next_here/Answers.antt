-- What comes next, by its byte.
use Rattle.std.proofs.Common.{sym, ◌∙◌, slice_index_or}
use Rattle.cif_values.proofs.NextParts.{begins_with, comes_end, comes_letter}
use Rattle.cif_values.proofs.next.next_here.Goals as goal

pub returns-then-byte-eq59-clause-next : goal.returns-then-byte-eq59-clause-next
returns-then-byte-eq59-clause-next c = λ stop parts h.
    comes_end parts (slice_index_or c.args.text.now c.args.at 0) (begins_with c.args.text.now c.args.at stop parts h).1 c.if-byte-eq59.true

pub returns-clause-next : goal.returns-clause-next
returns-clause-next c = λ stop parts h.
    comes_letter parts (slice_index_or c.args.text.now c.args.at 0) (begins_with c.args.text.now c.args.at stop parts h).1 c.if-byte-eq59.false
    (sym c.is_digit.ensures ∙ c.if-is_digit.false) c.if-byte-eq45.false
