-- The lines of drawn edges are straight and never return to themselves.
use Rattle.std.proofs.Common.{◌≡◌, ◌≢◌, ℕ, ◌+◌, ◌<◌, IsTrue, [], ◌∷◌, arith}
use Rattle.std.proofs.lemmas.Bool.Decides.{nat_tests}
use Rattle.block_grid.specs.Lines.{is_straight, IsOnStretch}
use Rattle.block_grid.specs.Laying.{IsOnLine, NeverReturns}

-- a place on a stretch of a row, or of a column
pub on_row : (x y z r c : ℕ) → IsOnStretch (x, y) (x, z) r c → r ≡ x
on_row x y z r c h = grind arith

pub on_col : (x y z r c : ℕ) → IsOnStretch (x, z) (y, z) r c → c ≡ z
on_col x y z r c h = grind arith

-- the line of a heavy edge, from its parent in row a and column b along column b + 1 and row x to its child below in column d
module _ (a b x y d : ℕ) (off_row : a ≢ x) (off_col : d ≢ b + 1) (apart : a ≡ y → b ≢ d) (next : y ≡ x + 1) where
  pub heavy_straight : IsTrue (is_straight (a, b) ((a, b + 1) ∷ (x, b + 1) ∷ (x, d) ∷ (y, d) ∷ []))
  heavy_straight = grind (arith, nat_tests)

  h3 : (r c : ℕ) → IsOnStretch (x, b + 1) (x, d) r c → IsOnLine (x, d) ((y, d) ∷ []) r c → (r ≡ x) × (c ≡ d)
  h3 r c h l = (on_row x (b + 1) d r c h, grind arith)

  h2 : (r c : ℕ) → IsOnStretch (a, b + 1) (x, b + 1) r c → IsOnLine (x, b + 1) ((x, d) ∷ (y, d) ∷ []) r c → (r ≡ x) × (c ≡ b + 1)
  h2 r c h l = (grind arith, on_col a x (b + 1) r c h)

  h1 : (r c : ℕ) → IsOnStretch (a, b) (a, b + 1) r c → IsOnLine (a, b + 1) ((x, b + 1) ∷ (x, d) ∷ (y, d) ∷ []) r c → (r ≡ a) × (c ≡ b + 1)
  h1 r c h l = (on_row a b (b + 1) r c h, grind arith)

  pub heavy_never_returns : NeverReturns (a, b) ((a, b + 1) ∷ (x, b + 1) ∷ (x, d) ∷ (y, d) ∷ [])
  heavy_never_returns = (
    λ e f. absurd (omega arith),
    h1,
    (λ e f. off_row e, h2, (λ e f. off_col (f' f), h3, (λ e f. absurd (omega arith), λ r c h l. l, tt))),
  )
    where
      f' : b + 1 ≡ d → d ≡ b + 1
      f' e = omega arith

-- the line of a light edge, from its parent in row a and column b along row a + 1, column z and row x to its child below in column d
module _ (a b z x y d : ℕ) (off_parent : a ≢ x) (off_row : a + 1 ≢ x) (left : b < z) (right : d < z) (apart : a ≡ y → b ≢ d) (next : y ≡ x + 1) where
  pub light_straight : IsTrue (is_straight (a, b) ((a + 1, b) ∷ (a + 1, z) ∷ (x, z) ∷ (x, d) ∷ (y, d) ∷ []))
  light_straight = grind (arith, nat_tests)

  l4 : (r c : ℕ) → IsOnStretch (x, z) (x, d) r c → IsOnLine (x, d) ((y, d) ∷ []) r c → (r ≡ x) × (c ≡ d)
  l4 r c h l = (on_row x z d r c h, grind arith)

  l3 : (r c : ℕ) → IsOnStretch (a + 1, z) (x, z) r c → IsOnLine (x, z) ((x, d) ∷ (y, d) ∷ []) r c → (r ≡ x) × (c ≡ z)
  l3 r c h l = (grind arith, on_col (a + 1) x z r c h)

  l2 : (r c : ℕ) → IsOnStretch (a + 1, b) (a + 1, z) r c → IsOnLine (a + 1, z) ((x, z) ∷ (x, d) ∷ (y, d) ∷ []) r c → (r ≡ a + 1) × (c ≡ z)
  l2 r c h l = (on_row (a + 1) b z r c h, grind arith)

  l1 : (r c : ℕ) → IsOnStretch (a, b) (a + 1, b) r c → IsOnLine (a + 1, b) ((a + 1, z) ∷ (x, z) ∷ (x, d) ∷ (y, d) ∷ []) r c → (r ≡ a + 1) × (c ≡ b)
  l1 r c h l = (grind arith, on_col a (a + 1) b r c h)

  pub light_never_returns : NeverReturns (a, b) ((a + 1, b) ∷ (a + 1, z) ∷ (x, z) ∷ (x, d) ∷ (y, d) ∷ [])
  light_never_returns = (
    λ e f. absurd (omega arith),
    l1,
    (λ e f. absurd (omega arith), l2, (λ e f. off_row e, l3, (λ e f. absurd (omega arith), l4, (λ e f. absurd (omega arith), λ r c h l. l, tt)))),
  )
