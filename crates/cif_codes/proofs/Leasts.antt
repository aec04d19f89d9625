-- The first code that stands is the least that a command meets.
use Rattle.std.proofs.Common.{◌≡◌, ◌⊎◌, inl, inr, ℕ, ◌+◌, ◌<◌, ◌≤◌, ◌==◌, Bool, true, false, cond, List, [], ◌∷◌, find, Option, Some, refl, sym, ◌∙◌, ap, subst, arith}
use Rattle.std.specs.Bool.{Decides}
use Rattle.std.proofs.lemmas.Bool.{cases_lt}
use Rattle.geom.specs.declared.cif_code.CifCode.{CifCode}
use Rattle.geom.specs.declared.cif_code.CifCode.TheVariants.{C1, C2, C3, C4, C5, C6, C7, C8, C9, C10, C11, C12, C13, C14, C15}
use Rattle.geom.specs.CifCommands.{CifCommand}
use Rattle.geom.specs.CifDrawings.{CifState}
use Rattle.geom.specs.CifCodes.{MeetsCode, code_number}
use Rattle.cif_codes.specs.Least.{IsLeastCode}
use Rattle.cif_codes.specs.Verdicts.{all_codes, first_code}

-- the code of a number
abbrev code_at : ℕ → CifCode
code_at n =
    cond (n == 1) C1 (cond (n == 2) C2 (cond (n == 3) C3 (cond (n == 4) C4 (cond (n == 5) C5 (cond (n == 6) C6 (cond (n == 7) C7 (cond (n == 8) C8
    (cond (n == 9) C9 (cond (n == 10) C10 (cond (n == 11) C11 (cond (n == 12) C12 (cond (n == 13) C13 (cond (n == 14) C14 C15)))))))))))))

back : (code : CifCode) → code_at (code_number code) ≡ code
back C1 = refl
back C2 = refl
back C3 = refl
back C4 = refl
back C5 = refl
back C6 = refl
back C7 = refl
back C8 = refl
back C9 = refl
back C10 = refl
back C11 = refl
back C12 = refl
back C13 = refl
back C14 = refl
back C15 = refl

few : (code : CifCode) → code_number code < 16
few C1 = omega arith
few C2 = omega arith
few C3 = omega arith
few C4 = omega arith
few C5 = omega arith
few C6 = omega arith
few C7 = omega arith
few C8 = omega arith
few C9 = omega arith
few C10 = omega arith
few C11 = omega arith
few C12 = omega arith
few C13 = omega arith
few C14 = omega arith
few C15 = omega arith

same_code : (a b : CifCode) → code_number a ≡ code_number b → a ≡ b
same_code a b e = sym (back a) ∙ (ap code_at e ∙ back b)

-- no lower code stands
abbrev Clear : CifState → CifCommand → ℕ → Type 0
Clear s c n = (lower : CifCode) → code_number lower < n → MeetsCode lower s c → ⊥

next : (s : CifState) (c : CifCommand) (code : CifCode) (t : Bool) (n : ℕ) (rest : Option CifCode) → Decides t (MeetsCode code s c) → code_number code ≡ n
    → (Clear s c (n + 1) → IsLeastCode s c rest) → Clear s c n → IsLeastCode s c (cond t (Some code) rest)
next s c code true n rest d e more clear = (d.0 refl, λ lower l m. clear lower (omega (arith, l, e)) m)
next s c code false n rest d e more clear = more (λ lower l m. by lower m (cases_lt (code_number lower) n) l)
  where
    by : (lower : CifCode) → MeetsCode lower s c → (code_number lower < n) ⊎ (n ≤ code_number lower) → code_number lower < n + 1 → ⊥
    by lower m (inl k) l = clear lower k m
    by lower m (inr k) l =
        let same : lower ≡ code = same_code lower code (omega (arith, k, l, e)) in
        let P : CifCode → Type 0 = λ v. MeetsCode v s c in
        let f : false ≡ true = d.1 (subst P same m) in cc

-- the numbers of codes rise by one up to the last
abbrev Numbered : ℕ → List CifCode → Type 0
Numbered n [] = n ≡ 16
Numbered n (code ∷ codes) = (code_number code ≡ n) × Numbered (n + 1) codes

found : (s : CifState) (c : CifCommand) (stands : CifCode → Bool) → ((code : CifCode) → Decides (stands code) (MeetsCode code s c)) → (n : ℕ) (codes : List CifCode)
    → Numbered n codes → Clear s c n → IsLeastCode s c (find stands codes)
found s c stands d n [] e clear = λ code m. clear code (let f = few code in omega (arith, e, f)) m
found s c stands d n (code ∷ codes) e clear =
    next s c code (stands code) n (find stands codes) (d code) e.0 (λ k. found s c stands d (n + 1) codes e.1 k) clear

numbered : Numbered 1 all_codes
numbered = (refl, (refl, (refl, (refl, (refl, (refl, (refl, (refl, (refl, (refl, (refl, (refl, (refl, (refl, (refl, refl)))))))))))))))

pub first_is_least : (s : CifState) (c : CifCommand) (stands : CifCode → Bool) → ((code : CifCode) → Decides (stands code) (MeetsCode code s c))
    → IsLeastCode s c (first_code stands)
first_is_least s c stands d = found s c stands d 1 all_codes numbered (λ lower l m. positive lower l)
  where
    positive : (code : CifCode) → code_number code < 1 → ⊥
    positive code l = none (code_number code) (some code) l
      where
        none : (n : ℕ) → 1 ≤ n → n < 1 → ⊥
        none n k l = omega (arith, k, l)

        some : (code : CifCode) → 1 ≤ code_number code
        some C1 = omega arith
        some C2 = omega arith
        some C3 = omega arith
        some C4 = omega arith
        some C5 = omega arith
        some C6 = omega arith
        some C7 = omega arith
        some C8 = omega arith
        some C9 = omega arith
        some C10 = omega arith
        some C11 = omega arith
        some C12 = omega arith
        some C13 = omega arith
        some C14 = omega arith
        some C15 = omega arith
