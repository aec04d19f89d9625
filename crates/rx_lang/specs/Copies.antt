-- Counted repeats as copies of their operand, and the occurrences of symbols.
use Rattle.std.specs.Prelude.{◌≡◌, ℕ, zero, suc, pred, ◌+◌, ◌≤◌, List, [], ◌∷◌, ◌++◌, length, ⊤}
use Rattle.rx_lang.specs.Expression.{Expr, symbol, sequence, union, star, plus, optional, marked, repeated}

-- m copies of an expression one after another, and then nested options of a copy and the rest, n + 1 copies in all
abbrev pub copies : ℕ → ℕ → Expr → Expr
copies zero zero f = optional f
copies (suc m) zero f = f
copies zero (suc n) f = optional (sequence f (copies zero n f))
copies (suc m) (suc n) f = sequence f (copies m n f)

-- the expression with copies in place of counted repeats
abbrev pub copied : Expr → Expr
copied (symbol s) = symbol s
copied (sequence f g) = sequence (copied f) (copied g)
copied (union f g) = union (copied f) (copied g)
copied (star f) = star (copied f)
copied (plus f) = plus (copied f)
copied (optional f) = optional (copied f)
copied (marked f y) = marked (copied f) y
copied (repeated f m n) = copies m (pred n) (copied f)

-- Every counted repeat is of at least m and at most n times, where m is at most n and n from 1 to 255.
abbrev pub IsBounded : Expr → Type 0
IsBounded (symbol s) = ⊤
IsBounded (sequence f g) = IsBounded f × IsBounded g
IsBounded (union f g) = IsBounded f × IsBounded g
IsBounded (star f) = IsBounded f
IsBounded (plus f) = IsBounded f
IsBounded (optional f) = IsBounded f
IsBounded (marked f y) = IsBounded f
IsBounded (repeated f m n) = (m ≤ n) × (1 ≤ n) × (n ≤ 255) × IsBounded f

-- the list so many times, one after another
abbrev pub times : {A : Type 0} → ℕ → List A → List A
times zero xs = []
times (suc n) xs = xs ++ times n xs

-- The symbols of the occurrences in the order of the text. An occurrence under a counted repeat stands once for each copy,
-- and all occurrences of one copy stand before those of the next.
abbrev pub occurrences : Expr → List ℕ
occurrences (symbol s) = s ∷ []
occurrences (sequence f g) = occurrences f ++ occurrences g
occurrences (union f g) = occurrences f ++ occurrences g
occurrences (star f) = occurrences f
occurrences (plus f) = occurrences f
occurrences (optional f) = occurrences f
occurrences (marked f y) = occurrences f
occurrences (repeated f m n) = times n (occurrences f)

-- The alphabet of occurrences: each is a letter of its own.
abbrev pub IsItself : ℕ → ℕ → Type 0
IsItself k x = k ≡ x

-- The expression with the numbers of its occurrences for their symbols, counted from k in the order of the text. It is read
-- on copies: the occurrences of a counted repeat have no numbers of their own.
abbrev pub numbered : ℕ → Expr → Expr
numbered k (symbol s) = symbol k
numbered k (sequence f g) = sequence (numbered k f) (numbered (k + length (occurrences f)) g)
numbered k (union f g) = union (numbered k f) (numbered (k + length (occurrences f)) g)
numbered k (star f) = star (numbered k f)
numbered k (plus f) = plus (numbered k f)
numbered k (optional f) = optional (numbered k f)
numbered k (marked f y) = marked (numbered k f) y
numbered k (repeated f m n) = repeated (numbered k f) m n

-- the expressions, their occurrences counted on from one to the next
abbrev pub all_numbered : ℕ → List Expr → List Expr
all_numbered k [] = []
all_numbered k (e ∷ es) = numbered k e ∷ all_numbered (k + length (occurrences e)) es
