use Rattle.rx_lang.specs.Tables.{specification}
use Rattle.position_nfa.proofs.StateRuns.{shows_language}
use Rattle.position_nfa.proofs.laws.automata_show_the_languages.Goals as goal

pub returns : goal.returns
returns c = λ tables nfa spec agrees y u. shows_language (specification tables) nfa agrees (c.specifications_are_read_by_pairs.ensures tables spec) y u
