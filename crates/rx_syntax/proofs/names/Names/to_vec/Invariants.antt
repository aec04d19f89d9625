use Rattle.std.proofs.Common.{◌≡◌, take}
use Rattle.rx_syntax.proofs.LookedUp.{words_of}
use Rattle.rx_syntax.proofs.names.Names.to_vec.Given as goal

abbrev pub invariant-loop-word : goal.invariant-loop-word
invariant-loop-word l = l.names.items ≡ words_of (take l.word-index l.word-items)
