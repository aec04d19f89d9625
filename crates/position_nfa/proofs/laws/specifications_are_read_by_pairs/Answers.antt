use Rattle.std.specs.Prelude.{ℕ}
use Rattle.rx_lang.specs.Copies.{IsBounded}
use Rattle.rx_lang.specs.Tables.{tree_at, trees, specification}
use Rattle.position_nfa.proofs.laws.specifications_are_read_by_pairs.Goals as goal
use Rattle.position_nfa.proofs.Letterwise.{specification_read, bounded_roots}

pub returns : goal.returns
returns c = λ tables h.
    let bounded : (k : ℕ) → IsBounded (tree_at (trees tables.nodes) k) = λ k. c.trees_are_made_of_their_children.ensures.bounded tables k h in
    specification_read c.copies_mean_their_repeats.ensures.same (specification tables) (c.copies_mean_their_repeats.ensures.vectors tables.symbols)
    (bounded_roots (tree_at (trees tables.nodes)) bounded tables.exprs) (bounded_roots (tree_at (trees tables.nodes)) bounded tables.scans)
