use Rattle.std.proofs.Common.{◌≡◌, ◌%◌, ◌^◌, ap, refl, ◌∙◌}
use Rattle.demo_spec.specs.Generator.{Making, marked_entry}
use Rattle.demo_spec.specs.Tables.{demo_tables}
use Rattle.demo_spec.proofs.Makings.{all_made, one_made}
use Rattle.demo_spec.proofs.PrintedDemos.{accepted_text}
use Rattle.demo_spec.proofs.Whole.{is_specification}
use Rattle.demo_spec.proofs.demo.demo_spec.Goals as goal

-- src/demo.rt
pub into_marked-requires : goal.into_marked-requires
into_marked-requires c =
    let made = all_made (c.args.start % 2 ^ 31) c.args.leaves c.new.result c.in_ok-with_leaves.field-0 c.in_ok-maker.maker
    c.new.ensures c.in_ok-with_leaves.ensures c.in_ok-maker.ensures in
    one_made (c.args.start % 2 ^ 31) c.args.leaves c.in_ok-maker.maker c.requires.some made

-- src/demo.rt
pub new-requires-3 : goal.new-requires-3
new-requires-3 c =
    let start = c.args.start % 2 ^ 31 in
    let made = all_made start c.args.leaves c.new.result c.in_ok-with_leaves.field-0 c.in_ok-maker.maker
    c.new.ensures c.in_ok-with_leaves.ensures c.in_ok-maker.ensures in
    let stack = c.in_ok-nodes.ensures.stack ∙ ap (λ (m : Making). marked_entry m.stack) made in
    rw (c.in_ok-lines.ensures, c.in_ok-symbols.ensures, c.in_ok-outputs.ensures, c.new-2.ensures.items)
    (is_specification start c.args.leaves c.in_ok-nodes.nodes.items c.in_ok-nodes.exprs.items c.requires.some c.requires.few
    c.in_ok-nodes.ensures.pile stack c.in_ok-nodes.ensures.nodes)

-- src/demo.rt
pub returns-clause-printed : goal.returns-clause-printed
returns-clause-printed c =
    let start = c.args.start % 2 ^ 31 in
    let nodes = c.in_ok-nodes.nodes.items in
    let exprs = c.in_ok-nodes.exprs.items in
    let made = all_made start c.args.leaves c.new.result c.in_ok-with_leaves.field-0 c.in_ok-maker.maker
    c.new.ensures c.in_ok-with_leaves.ensures c.in_ok-maker.ensures in
    let stack = c.in_ok-nodes.ensures.stack ∙ ap (λ (m : Making). marked_entry m.stack) made in
    let keeps = is_specification start c.args.leaves nodes exprs c.requires.some c.requires.few c.in_ok-nodes.ensures.pile stack
    c.in_ok-nodes.ensures.nodes in
    let is : c.new-3.result ≡ demo_tables nodes exprs =
    rw (c.new-3.ensures, c.in_ok-lines.ensures, c.in_ok-symbols.ensures, c.in_ok-outputs.ensures, c.new-2.ensures.items) refl in
    accepted_text c.printed_specifications_are_accepted.ensures nodes exprs c.new-3.result is keeps
