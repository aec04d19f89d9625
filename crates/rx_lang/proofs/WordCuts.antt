-- Cuts of a word of vectors, and its only letter.
use Rattle.std.proofs.Common.{◌≡◌, ◌↔◌, ℕ, ◌≤◌, Bool, IsTrue, List, [], ◌∷◌, length, get_or, map, take, drop, refl, subst, arith}
use Rattle.rx_lang.specs.declared.vector.Vector.{Vector}
use Rattle.rx_lang.specs.Vector.{bits_of}
use Rattle.rx_lang.specs.Expression.{Expr, sequence}
use Rattle.rx_lang.specs.Meaning.{Spells}
use Rattle.rx_lang.specs.Specification.{MatchesSymbol}
use Rattle.rx_lang.specs.Tables.{Tables}
use Rattle.rx_lang.specs.VectorWords.{SpellsWord}
use Rattle.rx_lang.proofs.Cuts.{no_cut}

pub no_sequence : (tables : Tables) (f g : Expr) (word : List Vector)
    → ((n : ℕ) → n ≤ length word → SpellsWord tables f (take n word) → SpellsWord tables g (drop n word) → ⊥) → SpellsWord tables (sequence f g) word → ⊥
no_sequence tables f g word none_at h =
    no_cut (bits_of (length tables.lines)) (Spells (MatchesSymbol tables.symbols) f) (Spells (MatchesSymbol tables.symbols) g) word none_at h

pub one_letter : {V X : Type 0} (Is : X → Type 0) (f : V → X) (word : List V) (d : V) (b : Bool) → length word ≡ 1 → IsTrue b ↔ Is (f (get_or word 0 d))
    → IsTrue b ↔ ((x : X) × (map f word ≡ x ∷ []) × Is x)
one_letter Is f [] d b size h = absurd (omega arith)
one_letter Is f (v ∷ []) d b size h = (
  λ e. (f v, refl, h.0 e),
  λ k. let e = k.1 in let same : k.0 ≡ f v = cc in h.1 (subst Is same k.2),
)
one_letter Is f (v ∷ (w ∷ word)) d b size h = absurd (omega arith)
