use Rattle.std.proofs.Common.{◌≡◌, ◌∷◌, ◌++◌, [], false, ◌∙◌, ap}
use Rattle.rx_syntax.specs.Uses.{is_among}
use Rattle.rx_syntax.proofs.LookedUp.{words_of, inserted}
use Rattle.rx_syntax.proofs.names.Names.declare.Goals as goal

pub returns-clause-declared : goal.returns-clause-declared
returns-clause-declared c =
    let word = c.args.word in
    let keys = c.self.inside.words.keys in
    let new : is_among word.now (words_of keys) ≡ false = ap (is_among word.now) c.self.view_is ∙ c.requires.new in
    inserted word keys c.insert.new.self.keys new c.in_ok-insert.ensures.keys ∙ ap (λ names. names ++ word.now ∷ []) c.self.view_is
