use Rattle.std.proofs.Common.{◌≡◌, ◌≤◌, ◌-◌, length, take, drop, sym, ◌∙◌, subst, arith}
use Rattle.std.proofs.lemmas.Result.{err_from_is_err_and}
use Rattle.rx_syntax.specs.Lexemes.{first_size}
use Rattle.rx_syntax.specs.NameReading.{IsOfKind}
use Rattle.rx_syntax.specs.NameSteps.{IsWordOf}
use Rattle.rx_syntax.proofs.NameTokens.{word_as_used}
use Rattle.rx_syntax.proofs.NamesFollowed.{Named, names_begin, over_named, refused, never_stops, all_named}
use Rattle.rx_syntax.proofs.SoundTables.{sound}
use Rattle.rx_syntax.proofs.naming.read_names.Goals as goal

pub loop-at-init : goal.loop-at-init
loop-at-init c =
    let v = c.version_of-version in
    subst (λ read. Named v.result.0 c.args.text.now c.args.most_leaves v.result.1 _ read) (sym c.new-reading.ensures)
    (names_begin v.result.0 c.args.text.now c.args.most_leaves v.result.1 v.ensures.is_of v.ensures.within)

pub over-requires : goal.over-requires
over-requires c = c.loop-at.invariant.followed.low

pub read_piece-requires : goal.read_piece-requires
read_piece-requires c =
    let rest = drop c.loop-at.at c.args.text.now in
    let version = c.version_of-version.result.0 in
    let size : c.piece_at-kind.result.1 - c.loop-at.at ≡ first_size version rest = omega (arith, c.piece_at-kind.ensures.behind) in
    let kind = subst (λ kind. IsOfKind c.use_of-used.result kind) c.piece_at-kind.ensures.kind c.use_of-used.ensures.kind in
    subst (λ n. IsWordOf c.use_of-used.result (take n rest)) (sym size) (word_as_used version rest c.use_of-used.result kind)

pub returns-in_err-read_piece-clause-fault : goal.returns-in_err-read_piece-clause-fault
returns-in_err-read_piece-clause-fault c =
    let p = err_from_is_err_and c.from_residual.result c.from_residual.ensures.1 in
    rw (p.1, p.2)
    (refused c.version_of-version.result.0 c.args.text.now c.args.most_leaves c.loop-at.at c.loop-at.state c.loop-at.reading c.loop-at-test.true
    c.loop-at.invariant c.piece_at-kind.result.1 c.piece_at-kind.result.0 c.use_of-used.result c.in_err-read_piece.field-0.0 c.requires
    c.piece_at-kind.ensures.kind c.piece_at-kind.ensures.behind c.use_of-used.ensures.uses c.in_err-read_piece.ensures.fault)

pub returns-in-Err-clause-fault : goal.returns-in-Err-clause-fault
returns-in-Err-clause-fault c =
    absurd (never_stops c.version_of-version.result.0 c.args.text.now c.args.most_leaves c.loop-at.at c.loop-at.state c.loop-at.reading
    c.loop-at-test.true c.loop-at.invariant c.piece_at-kind.result.0 c.in-Err.code c.requires c.piece_at-kind.ensures.kind
    (sym c.over.ensures ∙ c.in-Err.is))

pub loop-at-preserved : goal.loop-at-preserved
loop-at-preserved c =
    over_named c.version_of-version.result.0 c.args.text.now c.args.most_leaves c.loop-at.at c.loop-at.state c.loop-at.reading c.loop-at-test.true
    c.loop-at.invariant c.piece_at-kind.result.1 c.piece_at-kind.result.0 c.in-Ok.next c.use_of-used.result c.read_piece.new.self
    c.piece_at-kind.ensures.kind c.piece_at-kind.ensures.behind (sym c.over.ensures ∙ c.in-Ok.is) c.use_of-used.ensures.uses
    c.in_ok-read_piece.ensures.none c.in_ok-read_piece.ensures.read

pub returns-clause-declares : goal.returns-clause-declares
returns-clause-declares c =
    let past : length c.args.text.now ≤ c.loop-at.at = grind (arith, c.loop-at-test.false) in
    all_named c.version_of-version.result.0 c.args.text.now c.args.most_leaves c.loop-at.at c.loop-at.state c.loop-at.reading past c.requires
    c.loop-at.invariant

pub returns-clause-tables : goal.returns-clause-tables
returns-clause-tables c =
    let past : length c.args.text.now ≤ c.loop-at.at = grind (arith, c.loop-at-test.false) in
    sound c.args.text.now c.args.most_leaves c.loop-at.reading.declarations
    (all_named c.version_of-version.result.0 c.args.text.now c.args.most_leaves c.loop-at.at c.loop-at.state c.loop-at.reading past c.requires
    c.loop-at.invariant)
