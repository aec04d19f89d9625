use Rattle.std.proofs.Common.{codes, sym, subst, ◌∷◌, ◌∙◌}
use Rattle.std.proofs.lemmas.Slice.Eq.{bytes_eq-Decides}
use Rattle.rxc_program.proofs.DemoWords.{names_demo}
use Rattle.rxc_program.proofs.NamedWords.{lone_named}
use Rattle.rxc_program.specs.Naming.{Names, demo_named}
use Rattle.rxc_program.proofs.words.command_behind.Goals as goal

-- src/words.rt
pub returns-in-Some : goal.returns-in-Some
returns-in-Some c =
    subst (Names (c.args.first.now ∷ c.args.rest.now)) (sym c.alone.ensures)
    (lone_named c.args.first.now c.args.rest.now c.in-Some.command (sym c.lone_command.ensures ∙ c.in-Some.is))

pub returns-in-None : goal.returns-in-None
returns-in-None c =
    let demo = (bytes_eq-Decides c.args.first.now (codes "demo")).0 (sym c.is.ensures ∙ c.if-is.true) in
    subst (Names (c.args.first.now ∷ c.args.rest.now)) (sym c.demo_named.ensures)
    (subst (λ word. Names (word ∷ c.args.rest.now) (demo_named c.args.rest.now)) (sym demo) (names_demo c.args.rest.now))
