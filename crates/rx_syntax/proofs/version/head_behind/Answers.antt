use Rattle.std.proofs.Common.{[], sym, ◌∙◌}
use Rattle.rx_syntax.specs.Heads.{lexeme_of}
use Rattle.rx_syntax.specs.declared.version.Version.TheVariants.{Two}
use Rattle.rx_syntax.proofs.Following.{tokens_exist}
use Rattle.rx_syntax.proofs.OneAnswer.{head_no, head_yes, no_tokens, one_token, two_tokens}
use Rattle.rx_syntax.proofs.version.head_behind.Goals as goal

pub returns-in_err-name-clause-none : goal.returns-in_err-name-clause-none
returns-in_err-name-clause-none c = rw c.from_residual.ensures (no_tokens c.args.text.now c.in_err-name.ensures.none)

pub returns-in_err-two-clause-none : goal.returns-in_err-two-clause-none
returns-in_err-two-clause-none c =
    rw c.from_residual-in_err-two.ensures (one_token c.args.text.now (lexeme_of c.in_ok-name.name) (c.in_ok-name.ensures.some.on [] c.in_err-two.ensures.none))

pub returns-in_err-sign-clause-none : goal.returns-in_err-sign-clause-none
returns-in_err-sign-clause-none c =
    rw c.from_residual-in_err-sign.ensures (two_tokens c.args.text.now (lexeme_of c.in_ok-name.name) (lexeme_of c.in_ok-two.two)
    (c.in_ok-name.ensures.some.on _ (c.in_ok-two.ensures.some.on [] c.in_err-sign.ensures.none)))

pub is_head-requires-clause-name : goal.is_head-requires-clause-name
is_head-requires-clause-name c = (c.in_ok-name.ensures.some.ordered, c.in_ok-name.ensures.some.within)

pub is_head-requires-clause-two : goal.is_head-requires-clause-two
is_head-requires-clause-two c = (c.in_ok-two.ensures.some.ordered, c.in_ok-two.ensures.some.within)

pub returns-then-is_head-clause-begins : goal.returns-then-is_head-clause-begins
returns-then-is_head-clause-begins c =
    let m = tokens_exist Two c.args.text.now c.in_ok-sign.sign.behind in
    head_yes c.args.text.now (lexeme_of c.in_ok-name.name) (lexeme_of c.in_ok-two.two) (lexeme_of c.in_ok-sign.sign) m.0
    (c.in_ok-name.ensures.some.on _ (c.in_ok-two.ensures.some.on _ (c.in_ok-sign.ensures.some.on m.0 m.1))) (sym c.is_head.ensures ∙ c.if-is_head.true)

pub returns-else-is_head-clause-none : goal.returns-else-is_head-clause-none
returns-else-is_head-clause-none c =
    let m = tokens_exist Two c.args.text.now c.in_ok-sign.sign.behind in
    head_no c.args.text.now (lexeme_of c.in_ok-name.name) (lexeme_of c.in_ok-two.two) (lexeme_of c.in_ok-sign.sign) m.0
    (c.in_ok-name.ensures.some.on _ (c.in_ok-two.ensures.some.on _ (c.in_ok-sign.ensures.some.on m.0 m.1))) (sym c.is_head.ensures ∙ c.if-is_head.false)
