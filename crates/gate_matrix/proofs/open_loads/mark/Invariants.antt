-- The nets so far are marked.
use Rattle.std.proofs.Common.{◌≡◌, ℕ, ◌<◌, ◌||◌, ◌==◌, false, length, get_or, take}
use Rattle.std.specs.List.{list_any}
use Rattle.gate_matrix.proofs.open_loads.mark.Given as goal

abbrev pub invariant-loop-net : goal.invariant-loop-net
invariant-loop-net l =
    (net : ℕ) → net < length l.marks
    → get_or l.marks net false ≡ (list_any (λ one. one == net) (take l.net-index l.nets) || get_or l.fn.marks net false)
