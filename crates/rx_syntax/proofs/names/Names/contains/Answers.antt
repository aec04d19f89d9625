use Rattle.std.proofs.Common.{◌∙◌, ap}
use Rattle.rx_syntax.specs.Uses.{is_among}
use Rattle.rx_syntax.proofs.LookedUp.{among_words}
use Rattle.rx_syntax.proofs.names.Names.contains.Goals as goal

pub returns : goal.returns
returns c =
    let word = c.args.word.now in
    c.contains.ensures ∙ among_words word c.self.inside.words.keys ∙ ap (is_among word) c.self.view_is
