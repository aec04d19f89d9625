-- Parentheses in comments.
use Rattle.std.proofs.Common.{◌≡◌, ◌≢◌, ℕ, zero, suc, List, [], ◌∷◌, ◌++◌, refl, sym, ◌∙◌, ap, subst, append_assoc}
use Rattle.geom.specs.CifCommands.{IsNested}

-- so many parentheses are open
abbrev pub Unclosed : ℕ → List ℕ → Type 0
Unclosed zero bytes = IsNested bytes
Unclosed (suc n) bytes = (front : List ℕ) × (back : List ℕ) × (bytes ≡ front ++ 40 ∷ back) × IsNested front × Unclosed n back

pub nested_append : (xs ys : List ℕ) → IsNested xs → IsNested ys → IsNested (xs ++ ys)
nested_append xs ys (IsNested.none _ e) k = let P : List ℕ → Type 0 = λ l. IsNested (l ++ ys) in subst P (sym e) k
nested_append xs ys (IsNested.other _ b rest e o c h) k =
    IsNested.other (xs ++ ys) b (rest ++ ys) (ap (λ (l : List ℕ). l ++ ys) e) o c (nested_append rest ys h k)
nested_append xs ys (IsNested.pair _ inner rest e h i) k =
    IsNested.pair (xs ++ ys) inner (rest ++ ys) (ap (λ (l : List ℕ). l ++ ys) e ∙ ap (λ (l : List ℕ). 40 ∷ l) (append_assoc inner (41 ∷ rest) ys)) h (nested_append rest ys i k)

nothing : IsNested []
nothing = IsNested.none [] refl

pub unclosed_other : (n : ℕ) (bytes : List ℕ) (b : ℕ) → b ≢ 40 → b ≢ 41 → Unclosed n bytes → Unclosed n (bytes ++ b ∷ [])
unclosed_other zero bytes b o c h = nested_append bytes (b ∷ []) h (IsNested.other (b ∷ []) b [] refl o c nothing)
unclosed_other (suc n) bytes b o c h =
    (h.0, h.1 ++ b ∷ [], ap (λ (l : List ℕ). l ++ b ∷ []) h.2 ∙ append_assoc h.0 (40 ∷ h.1) (b ∷ []), h.3, unclosed_other n h.1 b o c h.4)

pub unclosed_open : (n : ℕ) (bytes : List ℕ) → Unclosed n bytes → Unclosed (suc n) (bytes ++ 40 ∷ [])
unclosed_open zero bytes h = (bytes, [], refl, h, nothing)
unclosed_open (suc n) bytes h =
    (h.0, h.1 ++ 40 ∷ [], ap (λ (l : List ℕ). l ++ 40 ∷ []) h.2 ∙ append_assoc h.0 (40 ∷ h.1) (40 ∷ []), h.3, unclosed_open n h.1 h.4)

pub unclosed_close : (n : ℕ) (bytes : List ℕ) → Unclosed (suc n) bytes → Unclosed n (bytes ++ 41 ∷ [])
unclosed_close zero bytes h =
    let e : bytes ++ 41 ∷ [] ≡ h.0 ++ 40 ∷ (h.1 ++ 41 ∷ []) = ap (λ (l : List ℕ). l ++ 41 ∷ []) h.2 ∙ append_assoc h.0 (40 ∷ h.1) (41 ∷ []) in
    let P : List ℕ → Type 0 = λ l. IsNested l in
    subst P (sym e) (nested_append h.0 (40 ∷ (h.1 ++ 41 ∷ [])) h.3 (IsNested.pair (40 ∷ (h.1 ++ 41 ∷ [])) h.1 [] refl h.4 nothing))
unclosed_close (suc n) bytes h =
    (h.0, h.1 ++ 41 ∷ [], ap (λ (l : List ℕ). l ++ 41 ∷ []) h.2 ∙ append_assoc h.0 (40 ∷ h.1) (41 ∷ []), h.3, unclosed_close n h.1 h.4)
