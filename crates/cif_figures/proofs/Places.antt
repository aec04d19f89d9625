-- Where commands stand.
use Rattle.std.proofs.Common.{ℕ, ◌<◌, ◌≤◌, List, length, arith}
use Rattle.cif_kinds.specs.declared.kinds.CommandKind.{CommandKind}
use Rattle.cif_figures.specs.Figures.{CommandOf}

pub first_in : (text : List ℕ) (first end : ℕ) (k : CommandKind) → CommandOf text first end k → first < length text
first_in text first end k c =
    let o : first < end = c.stands.order in
    let w : end ≤ length text = c.stands.within in
    omega (arith, o, w)

pub first_within : (text : List ℕ) (first end : ℕ) (k : CommandKind) → CommandOf text first end k → first ≤ length text
first_within text first end k c = let l = first_in text first end k c in omega (arith, l)
