-- One digit more.
use Rattle.std.proofs.Common.{ℕ, ◌+◌, ◌*◌, subst, arith}
use Rattle.cif_values.specs.Orders.{IsOrder, digit_of}
use Rattle.cif_values.proofs.Ordering.{value_to, order_more}
use Rattle.cif_values.proofs.less.order_of.Goals as goal

pub loop-i-preserved : goal.loop-i-preserved
loop-i-preserved c =
    let text = c.args.text.now in
    let left = c.args.left in
    let right = c.args.right in
    let i = c.loop-i.i in
    let n = c.max-count.result in
    let v = value_to text left i n in
    let w = value_to text right i n in
    let o = c.order_with-order.ensures v w c.loop-i.invariant in
    let P : ℕ → Type 0 = λ d. IsOrder c.order_with-order.result (v * 10 + d) (w * 10 + c.digit-in-loop-i.result) in
    let Q : ℕ → Type 0 = λ d. IsOrder c.order_with-order.result (v * 10 + digit_of text left i n) (w * 10 + d) in
    order_more text left right i n c.order_with-order.result c.requires.left c.requires.right
    (omega (arith, c.count.ensures, c.max-count.ensures)) (omega (arith, c.count-2.ensures, c.max-count.ensures)) c.loop-i-test.true
    (subst Q c.digit-in-loop-i.ensures.digit (subst P c.digit.ensures.digit o))
