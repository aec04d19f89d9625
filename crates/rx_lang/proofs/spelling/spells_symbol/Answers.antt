use Rattle.std.proofs.Common.{◌≡◌, length, arith}
use Rattle.rx_lang.specs.Vector.{bits_of}
use Rattle.rx_lang.specs.Specification.{MatchesSymbol}
use Rattle.rx_lang.proofs.WordCuts.{one_letter}
use Rattle.rx_lang.proofs.spelling.spells_symbol.Goals as goal

pub returns-in-len1 : goal.returns-in-len1
returns-in-len1 c =
    let size : length c.args.word.now ≡ 1 = omega arith in
    one_letter (MatchesSymbol c.args.spec.now.symbols c.args.symbol) (bits_of (length c.args.spec.now.lines)) c.args.word.now _ c.matches_symbol.result size
    c.matches_symbol.ensures
