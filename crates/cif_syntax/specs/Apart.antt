-- Sentences of CIF texts are told apart.
use Rattle.std.specs.Prelude.{◌≡◌, List, ℕ, ◌++◌}
use Rattle.geom.specs.CifRefusals.{IsSentence, BreaksCommand, CutsCommand}

-- At the front of a list of bytes stands at most one sentence; or it breaks, at one place; or it is cut.
pub record SentencesAreApart : Type 0 where
  pub one_sentence : (xs ys more rest : List ℕ) → IsSentence xs → IsSentence ys → xs ++ more ≡ ys ++ rest → xs ≡ ys
  pub one_break : (before behind front rest : List ℕ) → BreaksCommand before behind → BreaksCommand front rest → before ++ behind ≡ front ++ rest
      → before ≡ front
  pub no_break : (xs rest before behind : List ℕ) → IsSentence xs → BreaksCommand before behind → xs ++ rest ≡ before ++ behind → ⊥
  pub no_cut : (xs rest bytes : List ℕ) → IsSentence xs → CutsCommand bytes → bytes ≡ xs ++ rest → ⊥
  pub not_both : (before behind bytes : List ℕ) → BreaksCommand before behind → CutsCommand bytes → bytes ≡ before ++ behind → ⊥
