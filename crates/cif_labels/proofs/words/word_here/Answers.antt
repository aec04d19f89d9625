-- Spaces are passed over, and a word is cut off.
use Rattle.std.proofs.Common.{sym, ◌∙◌}
use Rattle.cif_labels.proofs.Cuts.{word_there, word_last}
use Rattle.cif_labels.proofs.words.word_here.Goals as goal

pub returns-clause-words : goal.returns-clause-words
returns-clause-words c =
    sym c.behind_spaces-from.ensures.words
    ∙ word_there c.args.text.now c.behind_spaces-from.result c.behind_word-to.result c.behind_spaces-from.ensures.stop c.behind_word-to.ensures.place

pub returns-clause-last : goal.returns-clause-last
returns-clause-last c = λ n.
    word_last c.args.text.now c.behind_spaces-from.result c.behind_word-to.result c.behind_spaces-from.ensures.within c.behind_spaces-from.ensures.stop
    c.behind_word-to.ensures.place c.behind_word-to.ensures.within n
