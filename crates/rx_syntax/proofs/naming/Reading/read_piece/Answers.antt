use Rattle.std.proofs.Common.{◌∙◌, sym, subst, Some}
use Rattle.rx_syntax.specs.NameSteps.{IsWordOf}
use Rattle.rx_syntax.proofs.TakenWords.{may_follow}
use Rattle.rx_syntax.proofs.naming.Reading.read_piece.Goals as goal

pub code-requires : goal.code-requires
code-requires c = subst (λ used. IsWordOf used c.args.word.now) c.in-Some.is c.requires

pub take-requires : goal.take-requires
take-requires c =
    let word = c.args.word.now in
    let name : IsWordOf (Some c.in-Some.used) word = subst (λ used. IsWordOf used word) c.in-Some.is c.requires in
    may_follow word c.args.most_leaves c.args.self.now c.ranges.most_leaves.fits c.in-Some.used name (sym c.in-None.is ∙ c.code.ensures)
