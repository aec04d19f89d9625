-- Nets that stand at equal distances, as they are added to an order.
use Rattle.std.proofs.Common.{◌≡◌, ℕ, ◌+◌, ◌*◌, List, ◌++◌, append_assoc, map, ap, ◌∙◌, arith}
use Rattle.std.specs.List.{range_with_len}
use Rattle.position_nfa.proofs.Adding.{map_ext}

-- a list is what there was and some nets, and gains a run of further ones
pub run_more : (net : ℕ → ℕ) (apart : ℕ) → ((i : ℕ) → net i ≡ net 0 + apart * i) → (first n : ℕ) (start now later some : List ℕ)
    → first ≡ net 0 → now ≡ start ++ some → later ≡ now ++ map (λ i. first + apart * i) (range_with_len 0 n)
    → later ≡ start ++ (some ++ map net (range_with_len 0 n))
run_more net apart h first n start now later some is before step =
    let same : map (λ i. first + apart * i) (range_with_len 0 n) ≡ map net (range_with_len 0 n) =
    map_ext (λ i. first + apart * i) net (λ i. omega (arith, h i, is)) (range_with_len 0 n) in
    step ∙ rw (before, same) (append_assoc start some (map net (range_with_len 0 n)))
