-- Nets in an order of their own, and the same nets in ascending order.
use Rattle.std.specs.Prelude.{◌≡◌, ℕ, ◌==◌, List}
use Rattle.std.specs.List.{list_any}
use Rattle.std.specs.List.Sorted.{IsNonDecreasing}

pub record AreSorted (nets sorted : List ℕ) : Type 0 where
  pub rising : IsNonDecreasing sorted
  pub same : (net : ℕ) → list_any (λ one. one == net) sorted ≡ list_any (λ one. one == net) nets
