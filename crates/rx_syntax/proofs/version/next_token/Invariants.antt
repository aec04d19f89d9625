use Rattle.std.proofs.Common.{◌≤◌, ◌-◌, List, length}
use Rattle.rx_syntax.specs.Lexemes.{Lexeme, LexemesFrom}
use Rattle.rx_syntax.specs.declared.version.Version.TheVariants.{Two}
use Rattle.rx_syntax.proofs.version.next_token.Given as goal

-- only blanks and comments so far
abbrev pub invariant-loop-at : goal.invariant-loop-at
invariant-loop-at l = (l.at ≤ length l.text) × ((ts : List Lexeme) → LexemesFrom Two l.text l.at ts → LexemesFrom Two l.text l.fn.from ts)

abbrev pub decreases-loop-at : goal.decreases-loop-at
decreases-loop-at l = length l.text - l.at
