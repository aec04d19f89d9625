-- The copy has the same nets, in ascending order.
use Rattle.std.proofs.Common.{◌==◌, ℕ, sym, ap, ◌∙◌}
use Rattle.std.specs.List.{list_any}
use Rattle.std.proofs.lemmas.List.Sorted.{IsNonDecreasingBy-from_sort, list_any-IsPermutation}
use Rattle.gate_matrix.proofs.gated.Gated.new.Goals as goal

pub invariant_of-result : goal.invariant_of-result
invariant_of-result c = record {
  rising = IsNonDecreasingBy-from_sort (λ x. x) c.sort_unstable.new.self.items c.sort_unstable.ensures.sorted;
  same = λ net.
      let test = λ (one : ℕ). one == net in
      sym (list_any-IsPermutation test c.in_ok-sorted.sorted.items c.sort_unstable.new.self.items c.sort_unstable.ensures.permutation)
      ∙ ap (list_any test) (c.in_ok-sorted.ensures.items ∙ sym c.in_ok-nets.ensures.items);
}
