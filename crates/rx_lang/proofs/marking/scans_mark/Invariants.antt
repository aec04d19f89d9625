use Rattle.std.proofs.Common.{ℕ, ◌<◌, drop, map}
use Rattle.rx_lang.specs.Meaning.{SomeMarks}
use Rattle.rx_lang.specs.Specification.{MatchesSymbol}
use Rattle.rx_lang.specs.VectorWords.{node_tree, word_bits}
use Rattle.rx_lang.proofs.marking.scans_mark.Given as goal

-- no longer rest is marked
abbrev pub invariant-loop-cut : goal.invariant-loop-cut
invariant-loop-cut l =
    (n : ℕ) → n < l.cut → SomeMarks (MatchesSymbol l.spec.symbols) (map (node_tree l.spec) l.spec.scans) l.output (word_bits l.spec (drop n l.word)) → ⊥
