use Rattle.std.proofs.Common.{◌∙◌, ◌++◌, map, sym, ap, subst}
use Rattle.position_nfa.specs.Automaton.{has_output}
use Rattle.position_nfa.specs.Waiting.{duty_duties, waiting_rows, waiting_symbols}
use Rattle.position_nfa.proofs.RowSteps.{AreDuties, follow_sets, shown, duties_pop, duties_append, row_step, row_less, put_symbols, put_follow, put_marked}
use Rattle.position_nfa.proofs.leaf_rows.add_rows.Goals as goal

pub put_task-requires-clause-subtree : goal.put_task-requires-clause-subtree
put_task-requires-clause-subtree c =
    (duties_pop c.args.nodes.now c.pop.new.self.items c.in-Some.task (subst (AreDuties c.args.nodes.now) c.in-Some.ensures.items c.loop-task.invariant.duties)).1

pub loop-task-smaller : goal.loop-task-smaller
loop-task-smaller c =
    let popped = duties_pop c.args.nodes.now c.pop.new.self.items c.in-Some.task (subst (AreDuties c.args.nodes.now) c.in-Some.ensures.items c.loop-task.invariant.duties) in
    rw (c.in_ok-put_task.ensures.tasks, c.in-Some.ensures.items)
    (row_less c.args.nodes.now c.args.summaries.now c.requires.order c.requires.summaries c.in-Some.task popped.1 c.pop.new.self.items)

pub loop-task-preserved : goal.loop-task-preserved
loop-task-preserved c =
    let popped = duties_pop c.args.nodes.now c.pop.new.self.items c.in-Some.task (subst (AreDuties c.args.nodes.now) c.in-Some.ensures.items c.loop-task.invariant.duties) in
    let step = row_step c.args.nodes.now c.args.summaries.now c.requires.order c.requires.summaries c.in-Some.task popped.1 in
    rw (c.in_ok-put_task.ensures.tasks, c.in_ok-put_task.ensures.rows) (record {
      duties = duties_append c.args.nodes.now c.pop.new.self.items (duty_duties c.args.nodes.now c.args.summaries.now c.in-Some.task) popped.0 step.duties;
      symbols =
          put_symbols c.args.nodes.now c.args.summaries.now c.requires.order c.requires.summaries c.in-Some.task popped.1 c.loop-task.rows.symbols c.pop.new.self.items
          ∙ ap (λ ds. c.loop-task.rows.symbols ++ waiting_symbols c.args.nodes.now ds) (sym c.in-Some.ensures.items)
          ∙ c.loop-task.invariant.symbols;
      follow =
          put_follow c.args.nodes.now c.args.summaries.now c.requires.order c.requires.summaries c.in-Some.task popped.1 c.loop-task.rows.follow c.pop.new.self.items
          ∙ ap (λ ds. c.loop-task.rows.follow ++ follow_sets (waiting_rows c.args.nodes.now ds)) (sym c.in-Some.ensures.items)
          ∙ c.loop-task.invariant.follow;
      marked =
          put_marked c.args.nodes.now c.args.summaries.now c.requires.order c.requires.summaries c.in-Some.task popped.1 c.loop-task.rows.marked c.pop.new.self.items
          ∙ ap (λ ds. map has_output c.loop-task.rows.marked ++ shown (waiting_rows c.args.nodes.now ds)) (sym c.in-Some.ensures.items)
          ∙ c.loop-task.invariant.marked;
    })
