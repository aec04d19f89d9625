use Rattle.std.proofs.Common.{[], ◌∷◌, refl, sym, ◌∙◌, arith}
use Rattle.std.proofs.lemmas.List.{append-nil}
use Rattle.position_nfa.specs.Registers.{stored_net, start_net, complement_net, state_net, term_net, sum_net, shared_net, output_net}
use Rattle.position_nfa.proofs.Adding.{extends}
use Rattle.position_nfa.proofs.OrderRuns.{run_more}
use Rattle.position_nfa.proofs.array_orders.add_second.Goals as goal

pub returns : goal.returns
returns c =
    let n = c.args.counts in
    let o = c.args.order.now.items in
    let a = run_more (stored_net n) 4 (λ i. omega arith) _ _ o o c.add_run.new.order.items [] c.stored_net.ensures (sym (append-nil o)) c.in_ok-add_run.ensures in
    let b = extends o c.add_run.new.order.items c.push.new.self.items _ (start_net n ∷ []) _ a (c.in_ok-push.ensures.items ∙ rw c.start_net.ensures refl) refl in
    let d = run_more (complement_net n) 1 (λ i. omega arith) _ _ o c.push.new.self.items c.add_run-2.new.order.items _ c.complement_net.ensures b c.in_ok-add_run-2.ensures in
    let e = run_more (state_net n) 1 (λ i. omega arith) _ _ o c.add_run-2.new.order.items c.add_run-3.new.order.items _ c.state_net.ensures d c.in_ok-add_run-3.ensures in
    let f = run_more (term_net n) 1 (λ i. omega arith) _ _ o c.add_run-3.new.order.items c.add_run-4.new.order.items _ c.term_net.ensures e c.in_ok-add_run-4.ensures in
    let g = run_more (sum_net n) 4 (λ i. omega arith) _ _ o c.add_run-4.new.order.items c.add_run-5.new.order.items _ c.sum_net.ensures f c.in_ok-add_run-5.ensures in
    let h = run_more (shared_net n) 2 (λ i. omega arith) _ _ o c.add_run-5.new.order.items c.add_run-6.new.order.items _ c.shared_net.ensures g c.in_ok-add_run-6.ensures in
    run_more (output_net n) 2 (λ i. omega arith) _ _ o c.add_run-6.new.order.items c.add_run-7.new.order.items _ c.output_net.ensures h c.in_ok-add_run-7.ensures
