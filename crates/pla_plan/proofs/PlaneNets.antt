-- The nets of terms are close together.
use Rattle.std.proofs.Common.{ℕ, ◌+◌, ◌<◌, ◌≤◌, ◌^◌, List, All, arith}

-- as close as the number of rows allows
pub terms_near : (first count : ℕ) (nets : List ℕ) → count < 2 ^ 20 → All (λ net. (first ≤ net) × (net < first + count)) nets
    → All (λ net. (first ≤ net) × (net < first + 2 ^ 20)) nets
terms_near first count nets few within k d lt =
    let now = within k d lt in
    (now.0, omega (arith, now.1, few))
