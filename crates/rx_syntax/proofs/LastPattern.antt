-- The last symbol with its pattern.
use Rattle.std.proofs.Common.{◌≡◌, ℕ, zero, suc, List, [], ◌∷◌, ◌++◌, length, set, get_or, refl, ap, sym, arith}
use Rattle.rx_lang.specs.declared.pattern.PatternBit.{PatternBit}
use Rattle.rx_lang.specs.Specification.{NamedPattern}
use Rattle.rx_syntax.specs.NameTables.{names_of, with_pattern}

pub names_with_pattern : (pattern : List PatternBit) (symbols : List NamedPattern) → names_of (with_pattern pattern symbols) ≡ names_of symbols
names_with_pattern pattern [] = refl
names_with_pattern pattern (s ∷ []) = refl
names_with_pattern pattern (s ∷ next ∷ symbols) = ap (λ names. s.name ∷ names) (names_with_pattern pattern (next ∷ symbols))

pub length-with_pattern : (pattern : List PatternBit) (symbols : List NamedPattern) → length (with_pattern pattern symbols) ≡ length symbols
length-with_pattern pattern [] = refl
length-with_pattern pattern (s ∷ []) = refl
length-with_pattern pattern (s ∷ next ∷ symbols) = ap suc (length-with_pattern pattern (next ∷ symbols))

pub last_with_pattern : (pattern : List PatternBit) (symbols : List NamedPattern) (s : NamedPattern)
    → with_pattern pattern (symbols ++ s ∷ []) ≡ symbols ++ record { name = s.name; pattern = pattern } ∷ []
last_with_pattern pattern [] s = refl
last_with_pattern pattern (first ∷ []) s = refl
last_with_pattern pattern (first ∷ next ∷ symbols) s = ap (λ more. first ∷ more) (last_with_pattern pattern (next ∷ symbols) s)

-- a write at the last place
pub set_last : (pattern : List PatternBit) (symbols : List NamedPattern) (name : List ℕ) (d : NamedPattern) (place : ℕ)
    → length symbols ≡ suc place → (get_or symbols place d).name ≡ name
    → set symbols place (record { name = name; pattern = pattern }) ≡ with_pattern pattern symbols
set_last pattern [] name d place size e = absurd (omega arith)
set_last pattern (s ∷ []) name d zero size e = ap (λ n. record { name = n; pattern = pattern } ∷ []) (sym e)
set_last pattern (s ∷ []) name d (suc place) size e = absurd (omega arith)
set_last pattern (s ∷ next ∷ symbols) name d zero size e = absurd (omega arith)
set_last pattern (s ∷ next ∷ symbols) name d (suc place) size e =
    ap (λ more. s ∷ more) (set_last pattern (next ∷ symbols) name d place (omega arith) e)
