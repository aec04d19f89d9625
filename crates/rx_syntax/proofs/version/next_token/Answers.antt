use Rattle.std.proofs.Common.{◌∙◌, [], refl, sym, subst, arith}
use Rattle.rx_syntax.specs.Lexemes.{LexemesFrom, ended, gap, token}
use Rattle.rx_syntax.specs.declared.version.Version.TheVariants.{Two}
use Rattle.rx_syntax.proofs.version.next_token.Goals as goal

pub returns-in-Some-clause-some : goal.returns-in-Some-clause-some
returns-in-Some-clause-some c =
    let size = c.piece_at-kind.ensures.behind in
    record {
      ordered = omega (arith, c.piece_at-kind.ensures.further);
      within = c.piece_at-kind.ensures.within;
      on = λ ts h. c.loop-at.invariant.1 _ (token c.in-Some.kind c.loop-at-test.true (sym c.piece_at-kind.ensures.kind ∙ c.in-Some.is) (rw size refl)
          (subst (λ n. LexemesFrom Two c.args.text.now n ts) size h));
    }

pub loop-at-preserved : goal.loop-at-preserved
loop-at-preserved c = (
  c.piece_at-kind.ensures.within,
  λ ts h. c.loop-at.invariant.1 ts (gap c.loop-at-test.true (sym c.piece_at-kind.ensures.kind ∙ c.in_default.is)
      (subst (λ n. LexemesFrom Two c.args.text.now n ts) c.piece_at-kind.ensures.behind h)),
)

pub returns-clause-none : goal.returns-clause-none
returns-clause-none c = c.loop-at.invariant.1 [] (ended c.loop-at-test.false refl)
