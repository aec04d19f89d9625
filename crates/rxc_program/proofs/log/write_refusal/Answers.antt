use Rattle.std.proofs.Common.{◌≡◌, ◌∙◌, rules}
use Rattle.std.specs.Fmt.{signed_decimal}
use Rattle.rxc_program.proofs.Pieces.{TakesText-same, square_pieces}
use Rattle.rxc_program.proofs.log.write_refusal.Goals as goal

pub returns-in-Square-clause-bytes : goal.returns-in-Square-clause-bytes
returns-in-Square-clause-bytes g c =
    let x : c.signed_text-x.result ≡ signed_decimal c.in-Square.x = search rules in
    let y : c.signed_text-y.result ≡ signed_decimal c.in-Square.y = search rules in
    TakesText-same _ _ _ _ _
    (rw c.in-Square.is (square_pieces _ _ _ _ _ _ c.code_text-code.ensures (c.as_bytes-in-Square.ensures ∙ x) (c.as_bytes-in-Square-2.ensures ∙ y)))
    c.put_pieces-in-Square.ensures.bytes
