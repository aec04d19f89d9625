use Rattle.std.proofs.Common.{◌≤◌, length, subst, sym, ◌∙◌, arith}
use Rattle.rx_syntax.specs.declared.machine.Due.TheVariants.{FirstLine}
use Rattle.rx_syntax.proofs.NodeReading.{NodesAt, nodes_begin, known_piece, nodes_over, no_fault_here}
use Rattle.rx_syntax.proofs.AllNodes.{all_parts, are_nodes, statements_said, scans_said}
use Rattle.rx_syntax.proofs.nodes.read_nodes.Goals as goal

pub loop-at-init : goal.loop-at-init
loop-at-init c =
    let version = c.version_of-version.result.0 in
    let start = c.version_of-version.result.1 in
    subst (NodesAt version c.args.text.now c.args.declarations.now start (record { due = FirstLine; depth = 0 })) (sym c.new-builder.ensures)
    (nodes_begin version c.args.text.now c.args.declarations.now start c.version_of-version.ensures.is_of c.version_of-version.ensures.within)

pub read_piece-requires : goal.read_piece-requires
read_piece-requires c =
    let r = c.requires in
    known_piece c.version_of-version.result.0 c.args.text.now r.0 c.args.declarations.now r.2 c.loop-at.at c.piece_at-kind.result.1 c.loop-at.state
    c.piece_at-kind.result.0 c.loop-at.builder c.loop-at-test.true c.piece_at-kind.ensures.kind c.piece_at-kind.ensures.behind c.loop-at.invariant

pub unreachable-requires : goal.unreachable-requires
unreachable-requires c =
    let r = c.requires in
    no_fault_here c.version_of-version.result.0 c.args.text.now r.0 c.args.declarations.now r.2 c.loop-at.at c.loop-at.state c.piece_at-kind.result.0
    c.in-Err.field-0 c.loop-at-test.true c.piece_at-kind.ensures.kind (sym c.over.ensures ∙ c.in-Err.is) c.loop-at.invariant.followed

pub loop-at-preserved : goal.loop-at-preserved
loop-at-preserved c =
    let r = c.requires in
    nodes_over c.version_of-version.result.0 c.args.text.now r.0 c.args.declarations.now r.2 c.loop-at.at c.piece_at-kind.result.1 c.loop-at.state
    c.in-Ok.next c.loop-at.builder c.read_piece.new.self
    c.piece_at-kind.result.0 c.loop-at-test.true c.piece_at-kind.ensures.kind c.piece_at-kind.ensures.behind (sym c.over.ensures ∙ c.in-Ok.is)
    c.in_ok-read_piece.ensures c.loop-at.invariant

pub returns-clause-nodes : goal.returns-clause-nodes
returns-clause-nodes c =
    let r = c.requires in
    let past : length c.args.text.now ≤ c.loop-at.at = grind (arith, c.loop-at-test.false) in
    let nodes = c.into_parts.result.0.items in
    let exprs = c.into_parts.result.1.items in
    let scans = c.into_parts.result.2.items in
    let all = all_parts c.version_of-version.result.0 c.args.text.now r.0 c.args.declarations.now r.2 c.loop-at.at c.loop-at.state c.loop-at.builder
    nodes exprs scans past c.loop-at.invariant c.into_parts.ensures.nodes c.into_parts.ensures.exprs c.into_parts.ensures.scans in
    are_nodes c.version_of-version.result.0 c.args.text.now r.0 c.args.declarations.now r.2 nodes exprs scans all r.1 c.into_parts.ensures.few

pub returns-clause-statements : goal.returns-clause-statements
returns-clause-statements c =
    let r = c.requires in
    let past : length c.args.text.now ≤ c.loop-at.at = grind (arith, c.loop-at-test.false) in
    let nodes = c.into_parts.result.0.items in
    let exprs = c.into_parts.result.1.items in
    let scans = c.into_parts.result.2.items in
    let all = all_parts c.version_of-version.result.0 c.args.text.now r.0 c.args.declarations.now r.2 c.loop-at.at c.loop-at.state c.loop-at.builder
    nodes exprs scans past c.loop-at.invariant c.into_parts.ensures.nodes c.into_parts.ensures.exprs c.into_parts.ensures.scans in
    statements_said c.version_of-version.result.0 c.args.text.now r.0 c.args.declarations.now r.2 nodes exprs scans all

pub returns-clause-scans : goal.returns-clause-scans
returns-clause-scans c =
    let r = c.requires in
    let past : length c.args.text.now ≤ c.loop-at.at = grind (arith, c.loop-at-test.false) in
    let nodes = c.into_parts.result.0.items in
    let exprs = c.into_parts.result.1.items in
    let scans = c.into_parts.result.2.items in
    let all = all_parts c.version_of-version.result.0 c.args.text.now r.0 c.args.declarations.now r.2 c.loop-at.at c.loop-at.state c.loop-at.builder
    nodes exprs scans past c.loop-at.invariant c.into_parts.ensures.nodes c.into_parts.ensures.exprs c.into_parts.ensures.scans in
    scans_said c.version_of-version.result.0 c.args.text.now r.0 c.args.declarations.now r.2 nodes exprs scans all
