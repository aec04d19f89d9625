use Rattle.std.proofs.Common.{◌∙◌, ◌++◌, false, length, map, sym, ap, subst}
use Rattle.star_normal.specs.Labels.{label_of}
use Rattle.star_normal.specs.Outlines.{copied_trees}
use Rattle.star_normal.specs.Tasks.{AreTasks, waiting_labels, task_tasks}
use Rattle.star_normal.proofs.Labelled.{single_labels, tasks_pop, tasks_append, task_steps, put_less, put_same}
use Rattle.star_normal.proofs.Outlined.{are_closed}
use Rattle.star_normal.proofs.labelling.put_normal.Goals as goal

pub put_task-requires-clause-closed : goal.put_task-requires-clause-closed
put_task-requires-clause-closed c = are_closed (copied_trees c.args.nodes.now) c.args.outlines.now c.requires.outlines

pub put_task-requires-clause-node : goal.put_task-requires-clause-node
put_task-requires-clause-node c =
    (tasks_pop (length c.args.outlines.now) c.pop.new.self.items c.in-Some.task (subst (AreTasks (length c.args.outlines.now)) c.in-Some.ensures.items c.loop-task.invariant.0)).1

pub loop-task-smaller : goal.loop-task-smaller
loop-task-smaller c =
    let popped = tasks_pop (length c.args.outlines.now) c.pop.new.self.items c.in-Some.task (subst (AreTasks (length c.args.outlines.now)) c.in-Some.ensures.items c.loop-task.invariant.0) in
    rw (c.in_ok-put_task.ensures.tasks, c.in-Some.ensures.items)
    (put_less (copied_trees c.args.nodes.now) (length c.args.outlines.now) c.args.outlines.now c.requires.outlines c.pop.new.self.items c.in-Some.task popped.1)

pub loop-task-preserved : goal.loop-task-preserved
loop-task-preserved c =
    let popped = tasks_pop (length c.args.outlines.now) c.pop.new.self.items c.in-Some.task (subst (AreTasks (length c.args.outlines.now)) c.in-Some.ensures.items c.loop-task.invariant.0) in
    let steps = task_steps (copied_trees c.args.nodes.now) (length c.args.outlines.now) c.args.outlines.now c.requires.outlines c.in-Some.task popped.1 in
    rw (c.in_ok-put_task.ensures.tasks, c.in_ok-put_task.ensures.labels) (
      tasks_append (length c.args.outlines.now) c.pop.new.self.items (task_tasks c.args.outlines.now c.in-Some.task) popped.0 steps.tasks,
      put_same (copied_trees c.args.nodes.now) (length c.args.outlines.now) c.args.outlines.now c.requires.outlines c.loop-task.labels.items c.pop.new.self.items c.in-Some.task popped.1
          ∙ ap (λ ts. map label_of c.loop-task.labels.items ++ waiting_labels (copied_trees c.args.nodes.now) ts) (sym c.in-Some.ensures.items)
          ∙ c.loop-task.invariant.1,
    )

pub loop-task-init : goal.loop-task-init
loop-task-init c = rw (c.in_ok-tasks.ensures.items, c.single.ensures)
    ((c.requires.node, tt), ap (λ l. map label_of c.args.labels.now.items ++ l) (single_labels (copied_trees c.args.nodes.now) c.args.node false))
