-- A use has the code of its word, and declares what its word does.
use Rattle.std.proofs.Common.{◌≡◌, ℕ, List, refl}
use Rattle.rx_syntax.specs.Uses.{Use, line_use, symbol_use, pattern_use, output_use, leaf_use, mark_use, least_use, most_use, copies_use, Declared, use_code, behind_use}
use Rattle.rx_syntax.specs.WordUses.{by_word, word_code, behind_word}

pub same_code : (text : List ℕ) (limit : ℕ) (before : Declared) (u : Use) → use_code text limit before u ≡ word_code limit before (by_word text u)
same_code text limit before (line_use t) = refl
same_code text limit before (symbol_use t) = refl
same_code text limit before (pattern_use t) = refl
same_code text limit before (output_use t) = refl
same_code text limit before (leaf_use t) = refl
same_code text limit before (mark_use t) = refl
same_code text limit before (least_use t) = refl
same_code text limit before (most_use least t) = refl
same_code text limit before (copies_use t more) = refl

pub same_behind : (text : List ℕ) (before : Declared) (u : Use) → behind_use text before u ≡ behind_word before (by_word text u)
same_behind text before (line_use t) = refl
same_behind text before (symbol_use t) = refl
same_behind text before (pattern_use t) = refl
same_behind text before (output_use t) = refl
same_behind text before (leaf_use t) = refl
same_behind text before (mark_use t) = refl
same_behind text before (least_use t) = refl
same_behind text before (most_use least t) = refl
same_behind text before (copies_use t more) = refl
