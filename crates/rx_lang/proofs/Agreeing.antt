-- A vector matches a pattern where it agrees at each place.
use Rattle.std.proofs.Common.{◌≡◌, ℕ, zero, suc, ◌+◌, ◌<◌, Bool, List, [], ◌∷◌, length, get_or, map, subst, arith}
use Rattle.std.specs.List.{range_with_len}
use Rattle.rx_lang.specs.declared.pattern.PatternBit.{PatternBit}
use Rattle.rx_lang.specs.declared.pattern.PatternBit.TheVariants.{Zero}
use Rattle.rx_lang.specs.Vector.{Agrees, Matches}

module _ (bit : ℕ → Bool) where
  pub all_agree : (pattern : List PatternBit) (a n : ℕ) → length pattern ≡ n
      → ((k m : ℕ) → k < n → m ≡ a + k → Agrees (get_or pattern k Zero) (bit m)) → Matches pattern (map bit (range_with_len a n))
  all_agree [] a zero e each = tt
  all_agree [] a (suc n) e each = absurd (omega arith)
  all_agree (place ∷ pattern) a zero e each = absurd (omega arith)
  all_agree (place ∷ pattern) a (suc n) e each = (
    each 0 a (omega arith) (omega arith),
    all_agree pattern (a + 1) n (omega arith) (λ k m lt at. each (suc k) m (omega arith) (omega arith)),
  )

  pub each_agrees : (pattern : List PatternBit) (a n : ℕ) → length pattern ≡ n → Matches pattern (map bit (range_with_len a n))
      → (k m : ℕ) → k < n → m ≡ a + k → Agrees (get_or pattern k Zero) (bit m)
  each_agrees [] a n e h k m lt at = absurd (omega arith)
  each_agrees (place ∷ pattern) a zero e h k m lt at = absurd (omega arith)
  each_agrees (place ∷ pattern) a (suc n) e h zero m lt at =
      let same : a ≡ m = omega arith in subst (λ j. Agrees place (bit j)) same h.0
  each_agrees (place ∷ pattern) a (suc n) e h (suc k) m lt at =
      each_agrees pattern (a + 1) n (omega arith) h.1 k m (omega arith) (omega arith)
