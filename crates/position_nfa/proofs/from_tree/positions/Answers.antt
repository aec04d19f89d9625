use Rattle.std.proofs.Common.{◌≡◌, ◌∙◌, [], ◌∷◌, refl, sym, ap, subst}
use Rattle.star_normal.specs.Tables.{whole}
use Rattle.position_nfa.specs.declared.from_tree.Parts.{Parts}
use Rattle.position_nfa.specs.TreeParts.{rest_of, scan_of, IsPart, part_tree, part_firsts, part_mask, automaton_with}
use Rattle.position_nfa.proofs.Built.{top, order_of, rest_is_part, scan_is_part, finish}
use Rattle.position_nfa.proofs.Finished.{IsFinished, finished, automaton_of}
use Rattle.position_nfa.proofs.from_tree.positions.Goals as goal

pub parts_of-parts-requires-clause-order : goal.parts_of-parts-requires-clause-order
parts_of-parts-requires-clause-order c =
    order_of c.args.tree.now c.nodes-nodes.ensures.tree c.tables_have_the_leaves_of_their_trees.ensures.leaves c.nodes-nodes.result.now c.nodes-nodes.ensures.nodes c.root.result c.root.ensures.root

pub firsts_of-requires-clause-order : goal.firsts_of-requires-clause-order
firsts_of-requires-clause-order c =
    order_of c.args.tree.now c.nodes-nodes.ensures.tree c.tables_have_the_leaves_of_their_trees.ensures.leaves c.nodes-nodes.result.now c.nodes-nodes.ensures.nodes c.root.result c.root.ensures.root

pub firsts_of-requires-2-clause-order : goal.firsts_of-requires-2-clause-order
firsts_of-requires-2-clause-order c =
    order_of c.args.tree.now c.nodes-nodes.ensures.tree c.tables_have_the_leaves_of_their_trees.ensures.leaves c.nodes-nodes.result.now c.nodes-nodes.ensures.nodes c.root.result c.root.ensures.root

pub rows_of-requires-clause-order : goal.rows_of-requires-clause-order
rows_of-requires-clause-order c =
    order_of c.args.tree.now c.nodes-nodes.ensures.tree c.tables_have_the_leaves_of_their_trees.ensures.leaves c.nodes-nodes.result.now c.nodes-nodes.ensures.nodes c.root.result c.root.ensures.root

pub firsts_of-requires-clause-part : goal.firsts_of-requires-clause-part
firsts_of-requires-clause-part c =
    let rest : c.parts_of-parts.result.rest ≡ rest_of c.nodes-nodes.result.now (record { node = c.root.result; base = 0 }) = ap (λ (p : Parts). p.rest) c.parts_of-parts.ensures in
    subst (IsPart c.nodes-nodes.result.now) (sym rest) (rest_is_part c.args.tree.now c.nodes-nodes.ensures.tree c.tables_have_the_leaves_of_their_trees.ensures.leaves c.nodes-nodes.result.now c.nodes-nodes.ensures.nodes c.root.result c.root.ensures.root c.in_ok-summaries.summaries.items c.in_ok-summaries.ensures)

pub empties_of-start-requires-clause-part : goal.empties_of-start-requires-clause-part
empties_of-start-requires-clause-part c =
    let rest : c.parts_of-parts.result.rest ≡ rest_of c.nodes-nodes.result.now (record { node = c.root.result; base = 0 }) = ap (λ (p : Parts). p.rest) c.parts_of-parts.ensures in
    subst (IsPart c.nodes-nodes.result.now) (sym rest) (rest_is_part c.args.tree.now c.nodes-nodes.ensures.tree c.tables_have_the_leaves_of_their_trees.ensures.leaves c.nodes-nodes.result.now c.nodes-nodes.ensures.nodes c.root.result c.root.ensures.root c.in_ok-summaries.summaries.items c.in_ok-summaries.ensures)

pub firsts_of-requires-2-clause-part : goal.firsts_of-requires-2-clause-part
firsts_of-requires-2-clause-part c =
    let scan : c.parts_of-parts.result.scan ≡ scan_of c.nodes-nodes.result.now c.in_ok-summaries.summaries.items (record { node = c.root.result; base = 0 }) =
    ap (λ (p : Parts). p.scan) c.parts_of-parts.ensures ∙ ap (λ ss. scan_of c.nodes-nodes.result.now ss (record { node = c.root.result; base = 0 })) c.deref.ensures.value in
    subst (IsPart c.nodes-nodes.result.now) (sym scan) (scan_is_part c.args.tree.now c.nodes-nodes.ensures.tree c.tables_have_the_leaves_of_their_trees.ensures.leaves c.nodes-nodes.result.now c.nodes-nodes.ensures.nodes c.root.result c.root.ensures.root c.in_ok-summaries.summaries.items c.in_ok-summaries.ensures)

pub empties_of-scan_marked-requires-clause-part : goal.empties_of-scan_marked-requires-clause-part
empties_of-scan_marked-requires-clause-part c =
    let scan : c.parts_of-parts.result.scan ≡ scan_of c.nodes-nodes.result.now c.in_ok-summaries.summaries.items (record { node = c.root.result; base = 0 }) =
    ap (λ (p : Parts). p.scan) c.parts_of-parts.ensures ∙ ap (λ ss. scan_of c.nodes-nodes.result.now ss (record { node = c.root.result; base = 0 })) c.deref.ensures.value in
    subst (IsPart c.nodes-nodes.result.now) (sym scan) (scan_is_part c.args.tree.now c.nodes-nodes.ensures.tree c.tables_have_the_leaves_of_their_trees.ensures.leaves c.nodes-nodes.result.now c.nodes-nodes.ensures.nodes c.root.result c.root.ensures.root c.in_ok-summaries.summaries.items c.in_ok-summaries.ensures)

pub into_automaton-requires : goal.into_automaton-requires
into_automaton-requires c =
    let rest : c.parts_of-parts.result.rest ≡ rest_of c.nodes-nodes.result.now (record { node = c.root.result; base = 0 }) = ap (λ (p : Parts). p.rest) c.parts_of-parts.ensures in
    let scan : c.parts_of-parts.result.scan ≡ scan_of c.nodes-nodes.result.now c.in_ok-summaries.summaries.items (record { node = c.root.result; base = 0 }) =
    ap (λ (p : Parts). p.scan) c.parts_of-parts.ensures ∙ ap (λ ss. scan_of c.nodes-nodes.result.now ss (record { node = c.root.result; base = 0 })) c.deref.ensures.value in
    let done =
    finish c.args.tree.now c.nodes-nodes.ensures.tree c.tables_have_the_leaves_of_their_trees.ensures.leaves c.nodes-nodes.result.now c.nodes-nodes.ensures.nodes c.root.result c.root.ensures.root c.in_ok-summaries.summaries.items c.in_ok-summaries.ensures
    (record { symbols = []; follow = []; marked = c.empties_of-start.result ∷ [] }) c.in_ok-rows.rows c.empties_of-start.result c.empties_of-scan_marked.result c.in_ok-first.first.items c.in_ok-scan_first.scan_first.items
    c.in_ok-rows.ensures refl refl refl
    (c.empties_of-start.ensures ∙ ap (λ ss. part_mask ss c.parts_of-parts.result.rest) c.deref-4.ensures.value ∙ ap (part_mask c.in_ok-summaries.summaries.items) rest)
    (c.empties_of-scan_marked.ensures ∙ ap (λ ss. part_mask ss c.parts_of-parts.result.scan) c.deref-5.ensures.value ∙ ap (part_mask c.in_ok-summaries.summaries.items) scan)
    (c.in_ok-first.ensures ∙ ap (λ part. part_firsts (part_tree c.nodes-nodes.result.now part)) rest)
    (c.in_ok-scan_first.ensures ∙ ap (λ part. part_firsts (part_tree c.nodes-nodes.result.now part)) scan) in
    finished (whole c.args.tree.now) (part_mask c.in_ok-summaries.summaries.items (rest_of c.nodes-nodes.result.now (record { node = c.root.result; base = 0 }))) (part_mask c.in_ok-summaries.summaries.items (scan_of c.nodes-nodes.result.now c.in_ok-summaries.summaries.items (record { node = c.root.result; base = 0 })))
    (automaton_with c.in_ok-rows.rows c.in_ok-first.first.items c.in_ok-scan_first.scan_first.items c.empties_of-scan_marked.result) done

pub returns-clause-automaton : goal.returns-clause-automaton
returns-clause-automaton c =
    let rest : c.parts_of-parts.result.rest ≡ rest_of c.nodes-nodes.result.now (record { node = c.root.result; base = 0 }) = ap (λ (p : Parts). p.rest) c.parts_of-parts.ensures in
    let scan : c.parts_of-parts.result.scan ≡ scan_of c.nodes-nodes.result.now c.in_ok-summaries.summaries.items (record { node = c.root.result; base = 0 }) =
    ap (λ (p : Parts). p.scan) c.parts_of-parts.ensures ∙ ap (λ ss. scan_of c.nodes-nodes.result.now ss (record { node = c.root.result; base = 0 })) c.deref.ensures.value in
    let done =
    finish c.args.tree.now c.nodes-nodes.ensures.tree c.tables_have_the_leaves_of_their_trees.ensures.leaves c.nodes-nodes.result.now c.nodes-nodes.ensures.nodes c.root.result c.root.ensures.root c.in_ok-summaries.summaries.items c.in_ok-summaries.ensures
    (record { symbols = []; follow = []; marked = c.empties_of-start.result ∷ [] }) c.in_ok-rows.rows c.empties_of-start.result c.empties_of-scan_marked.result c.in_ok-first.first.items c.in_ok-scan_first.scan_first.items
    c.in_ok-rows.ensures refl refl refl
    (c.empties_of-start.ensures ∙ ap (λ ss. part_mask ss c.parts_of-parts.result.rest) c.deref-4.ensures.value ∙ ap (part_mask c.in_ok-summaries.summaries.items) rest)
    (c.empties_of-scan_marked.ensures ∙ ap (λ ss. part_mask ss c.parts_of-parts.result.scan) c.deref-5.ensures.value ∙ ap (part_mask c.in_ok-summaries.summaries.items) scan)
    (c.in_ok-first.ensures ∙ ap (λ part. part_firsts (part_tree c.nodes-nodes.result.now part)) rest)
    (c.in_ok-scan_first.ensures ∙ ap (λ part. part_firsts (part_tree c.nodes-nodes.result.now part)) scan) in
    λ spec of. rw c.into_automaton.ensures (automaton_of (whole c.args.tree.now) (part_mask c.in_ok-summaries.summaries.items (rest_of c.nodes-nodes.result.now (record { node = c.root.result; base = 0 }))) (part_mask c.in_ok-summaries.summaries.items (scan_of c.nodes-nodes.result.now c.in_ok-summaries.summaries.items (record { node = c.root.result; base = 0 })))
    (automaton_with c.in_ok-rows.rows c.in_ok-first.first.items c.in_ok-scan_first.scan_first.items c.empties_of-scan_marked.result) done spec of)
