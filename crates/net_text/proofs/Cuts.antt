-- Two cuts of one list.
use Rattle.std.proofs.Common.{◌≡◌, ℕ, List, [], ◌∷◌, ◌++◌, refl, sym}

-- Both cuts are at one place, or one of them before the other.
pub data Cuts (xs ys zs ws : List ℕ) : Type 0 where
  same : xs ≡ zs → ys ≡ ws → Cuts xs ys zs ws
  before : (c : ℕ) (vs : List ℕ) → zs ≡ xs ++ c ∷ vs → ys ≡ c ∷ vs ++ ws → Cuts xs ys zs ws
  behind : (c : ℕ) (vs : List ℕ) → xs ≡ zs ++ c ∷ vs → ws ≡ c ∷ vs ++ ys → Cuts xs ys zs ws

-- the same byte before both
further : (x z : ℕ) (xs ys zs ws : List ℕ) → x ≡ z → Cuts xs ys zs ws → Cuts (x ∷ xs) ys (z ∷ zs) ws
further x z xs ys zs ws e (same p q) = same (cc (e, p)) q
further x z xs ys zs ws e (before c vs p q) = before c vs (cc (e, p)) q
further x z xs ys zs ws e (behind c vs p q) = behind c vs (cc (e, p)) q

pub cuts : (xs ys zs ws : List ℕ) → xs ++ ys ≡ zs ++ ws → Cuts xs ys zs ws
cuts [] ys [] ws e = same refl e
cuts [] ys (z ∷ zs) ws e = before z zs refl e
cuts (x ∷ xs) ys [] ws e = behind x xs refl (sym e)
cuts (x ∷ xs) ys (z ∷ zs) ws e =
    let first : x ≡ z = cc in
    let others : xs ++ ys ≡ zs ++ ws = cc in
    further x z xs ys zs ws first (cuts xs ys zs ws others)

-- the same bytes at the front cancel
pub cancel : (xs ys zs : List ℕ) → xs ++ ys ≡ xs ++ zs → ys ≡ zs
cancel [] ys zs e = e
cancel (x ∷ xs) ys zs e = let others : xs ++ ys ≡ xs ++ zs = cc in cancel xs ys zs others

-- a list is no longer one of its own fronts
pub no_longer : (xs : List ℕ) (c : ℕ) (vs : List ℕ) → xs ≡ xs ++ c ∷ vs → ⊥
no_longer [] c vs e = cc
no_longer (x ∷ xs) c vs e = let others : xs ≡ xs ++ c ∷ vs = cc in no_longer xs c vs others
