-- The lower and the upper coordinate.
use Rattle.std.proofs.Common.{◌≡◌, true, false, pos, sym, ◌∙◌}
use Rattle.cif_codes.proofs.Bending.{lower_pair, upper_pair, span_word, span_swapped, span_ordered}
use Rattle.cif_codes.proofs.bends.span.Goals as goal

pub returns-then-is_below-clause-stand : goal.returns-then-is_below-clause-stand
returns-then-is_below-clause-stand c = λ m w a b st h k.
    span_word m w a b c.lower.result c.upper.result c.lower.ensures.near c.upper.ensures.near
    (span_swapped m w a b c.lower.result c.upper.result ((c.is_below.ensures m b a k h).0 c.if-is_below.true)
    (lower_pair m b (pos w) c.args.other.value c.args.width c.lower.result c.lower.ensures.edge c.requires.other.0 c.requires.width k.stands st)
    (upper_pair m a (pos w) c.args.one.value c.args.width c.upper.result c.upper.ensures.edge c.requires.one.0 c.requires.width h.stands st))

pub returns-else-is_below-clause-stand : goal.returns-else-is_below-clause-stand
returns-else-is_below-clause-stand c = λ m w a b st h k.
    span_word m w a b c.lower-else-is_below.result c.upper-else-is_below.result c.lower-else-is_below.ensures.near c.upper-else-is_below.ensures.near
    (span_ordered m w a b c.lower-else-is_below.result c.upper-else-is_below.result
    (λ l. (let z : true ≡ false = sym ((c.is_below.ensures m b a k h).1 l) ∙ c.if-is_below.false in cc))
    (lower_pair m a (pos w) c.args.one.value c.args.width c.lower-else-is_below.result c.lower-else-is_below.ensures.edge c.requires.one.0 c.requires.width h.stands st)
    (upper_pair m b (pos w) c.args.other.value c.args.width c.upper-else-is_below.result c.upper-else-is_below.ensures.edge c.requires.other.0 c.requires.width k.stands st))
