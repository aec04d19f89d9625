-- By the signs.
use Rattle.cif_values.specs.Parts.{number_in}
use Rattle.cif_values.proofs.Ordering.{plain_order, minus_order, mixed_first, mixed_second, mixed_never}
use Rattle.cif_values.proofs.less.is_less.Goals as goal

pub returns-in-false-false : goal.returns-in-false-false
returns-in-false-false c = λ stop stop' p q ps qs k l h g.
    let a = c.signed_digits-left.ensures.number stop p ps k h in
    let b = c.signed_digits-right.ensures.number stop' q qs l g in
    plain_order c.args.text.now _ _ _ _ _ (number_in p) (number_in q) _ a b c.in-false-false.is-0 c.in-false-false.is-1 c.is_lt-in-false-false.ensures
    (c.order_of-in-false-false.ensures a.n b.n a.are b.are)

pub returns-in-true-true : goal.returns-in-true-true
returns-in-true-true c = λ stop stop' p q ps qs k l h g.
    let a = c.signed_digits-left.ensures.number stop p ps k h in
    let b = c.signed_digits-right.ensures.number stop' q qs l g in
    minus_order c.args.text.now _ _ _ _ _ (number_in p) (number_in q) _ a b c.in-true-true.is-0 c.in-true-true.is-1 c.is_lt.ensures
    (c.order_of.ensures b.n a.n b.are a.are)

pub returns-then-is_some : goal.returns-then-is_some
returns-then-is_some c = λ stop stop' p q ps qs k l h g.
    let a = c.signed_digits-left.ensures.number stop p ps k h in
    let b = c.signed_digits-right.ensures.number stop' q qs l g in
    mixed_first c.args.text.now _ _ _ _ _ (number_in p) (number_in q) a b c.in-true-false.is-0 c.in-true-false.is-1 c.if-is_some.true (c.is_some.ensures a.n a.are)

pub returns-else-is_some : goal.returns-else-is_some
returns-else-is_some c = λ stop stop' p q ps qs k l h g.
    let a = c.signed_digits-left.ensures.number stop p ps k h in
    let b = c.signed_digits-right.ensures.number stop' q qs l g in
    mixed_second c.args.text.now _ _ _ _ _ _ (number_in p) (number_in q) a b c.in-true-false.is-0 c.in-true-false.is-1 c.if-is_some.false (c.is_some.ensures a.n a.are)
    (c.is_some-else-is_some.ensures b.n b.are)

pub returns-in-false-true : goal.returns-in-false-true
returns-in-false-true c = λ stop stop' p q ps qs k l h g.
    let a = c.signed_digits-left.ensures.number stop p ps k h in
    let b = c.signed_digits-right.ensures.number stop' q qs l g in
    mixed_never c.args.text.now _ _ _ _ (number_in p) (number_in q) a b c.in-false-true.is-0 c.in-false-true.is-1
