-- The first fault of a line.
use Rattle.std.proofs.Common.{◌≡◌, ℕ, ◌+◌, ◌<◌, ◌≤◌, ◌||◌, Bool, true, false, cond, List, Some, None, length, nat_lt, refl, arith}
use Rattle.std.proofs.lemmas.Bool.{le-leb, lt-leb, le-ltb, lt-ltb, ne_eqb}
use Rattle.std.proofs.lemmas.List.Sums.{prefix_len-le-length}
use Rattle.std.specs.List.{prefix_len}
use Rattle.switch_sim.specs.TraceTexts.{is_bit, is_empty, earlier, line_fault}
use Rattle.switch_sim.specs.declared.trace_code.TraceCode.TheVariants.{V1, V3}

module _ (count at : ℕ) (line : List ℕ) where
  abbrev good : ℕ
  good = prefix_len is_bit line

  pub too_many_first : 0 < good → 10000 ≤ count → Some (record { code = V3; at = at }) ≡ line_fault count at line
  too_many_first some many = rw (le-leb 10000 count many) (by (nat_lt good (length line) || is_empty line))
    where
      by : (test : Bool) → Some (record { code = V3; at = at })
          ≡ earlier (cond test (Some (record { code = V1; at = at + good })) None) (Some (record { code = V3; at = at }))
      by true = rw (lt-leb (at + good) at (omega arith)) refl
      by false = refl

  pub bad_bit_first : count < 10000 → good < length line → Some (record { code = V1; at = at + good }) ≡ line_fault count at line
  bad_bit_first few below = rw (lt-leb 10000 count few, lt-ltb good (length line) below) refl

  pub no_fault : 0 < good → count < 10000 → length line ≤ good → None ≡ line_fault count at line
  no_fault some few all =
      let most = prefix_len-le-length is_bit line in
      let filled : length line ≡ 0 → ⊥ = λ e. omega arith in
      rw (lt-leb 10000 count few, le-ltb good (length line) all, ne_eqb (length line) 0 filled) refl
