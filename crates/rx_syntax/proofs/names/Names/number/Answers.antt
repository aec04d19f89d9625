use Rattle.std.proofs.Common.{None, Some, ◌∙◌, ap, if◌then◌else◌}
use Rattle.rx_syntax.specs.Uses.{is_among}
use Rattle.rx_syntax.specs.Accepted.{number_in}
use Rattle.rx_syntax.proofs.LookedUp.{found_number}
use Rattle.rx_syntax.proofs.names.Names.number.Goals as goal

pub returns-clause-number : goal.returns-clause-number
returns-clause-number c =
    let word = c.args.word.now in
    let found = c.get_index_of.ensures in
    found_number word c.self.inside.words.keys c.get_index_of.result found.index found.found
    ∙ ap (λ names. if is_among word names then Some (number_in names word) else None) c.self.view_is
