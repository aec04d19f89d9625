use Rattle.std.proofs.Common.{◌≡◌, ◌∙◌, ◌+◌, ◌==◌, cond, length, ap, arith}
use Rattle.light_order.specs.Order.{light_first}
use Rattle.light_order.proofs.Uses.{upto, upto_hit, upto_ones}
use Rattle.light_order.proofs.Counted.{range_sum}
use Rattle.light_order.proofs.Parts.{all_nodes, length_sum}
use Rattle.light_order.proofs.Positions.{within, number_is}
use Rattle.light_order.proofs.laws.each_node_stands_once.Goals as goal

pub returns-clause-once : goal.returns-clause-once
returns-clause-once c = λ table t v h. all_nodes table t (λ x. cond (x == v) 1 0) ∙ upto_hit v _ h

pub returns-clause-number : goal.returns-clause-number
returns-clause-number c = λ table t. length_sum (light_first table) ∙ all_nodes table t (λ x. 1) ∙ upto_ones _

pub returns-clause-sums : goal.returns-clause-sums
returns-clause-sums c = λ table t value.
    let e : 0 + (length table.nodes + 1) ≡ length table.nodes + 1 = omega arith in
    all_nodes table t value ∙ omega (arith, range_sum value 0 (length table.nodes + 1), ap (upto value) e)

pub returns-clause-inside : goal.returns-clause-inside
returns-clause-inside c = within

pub returns-clause-numbers : goal.returns-clause-numbers
returns-clause-numbers c = number_is
