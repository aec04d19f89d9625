use Rattle.std.proofs.Common.{◌<◌, All, length, ap, subst, arith, ◌∙◌}
use Rattle.rxc_program.proofs.figures.figures.Goals as goal

-- src/figures.rt
pub array_terms-requires-clause-tree : goal.array_terms-requires-clause-tree
array_terms-requires-clause-tree c = record {
  leaves = c.in_ok-tree.ensures.leaves;
  letters = c.in_ok-tree.ensures.letters;
  scan_letters = c.in_ok-tree.ensures.scan_letters;
}

pub array_terms-requires-clause-count : goal.array_terms-requires-clause-count
array_terms-requires-clause-count c = c.leaf_count-count.ensures ∙ ap length c.in_ok-tree.ensures.leaves

pub array_terms-requires-clause-symbols : goal.array_terms-requires-clause-symbols
array_terms-requires-clause-symbols c =
    let few = c.requires.tables.few_symbols in
    subst (λ symbols. All (λ s. s < 256) symbols) c.in_ok-tree.ensures.leaves
    (λ k d lt. omega (arith, few, c.in_ok-tree.ensures.symbols k d lt))

pub count_figures-requires : goal.count_figures-requires
count_figures-requires c = record {
  leaves = c.leaf_count-count.ensures ∙ ap length c.in_ok-tree.ensures.leaves;
  terms = c.in_ok-terms.ensures.terms;
  few_terms = c.in_ok-terms.ensures.few;
  width = c.in_ok-sides.ensures.narrow;
  height = c.in_ok-sides.ensures.low;
}

pub returns : goal.returns
returns c = record {
  width = c.in_ok-sides.sides.width;
  height = c.in_ok-sides.sides.height;
  sides = c.in_ok-sides.ensures.sides;
  are = c.count_figures.ensures;
}
