-- Merged boxes are the tall runs of their squares: maximal runs of a row, for as many rows as they stay the same.
use Rattle.std.proofs.Common.{◌≡◌, ℤ, pos, ◌-ℤ◌, ◌≤ℤ◌, ◌<ℤ◌, inl, inr, refl, sym, ap, arith, subst}
use Rattle.std.proofs.lemmas.Int.{ints, by_lt_z}
use Rattle.geom.specs.Squares.{BoxShape, IsBox, Inside}
use Rattle.geom.specs.Merged.{rank, Precedes, Separate}
use Rattle.geom.specs.Rows.{Squares, IsRun, IsTall}

-- a number is not below and not above another
pub between : (a b : ℤ) → (a <ℤ b → ⊥) → (b <ℤ a → ⊥) → a ≡ b
between a b below above = by_lt_z a b (λ h. absurd (below h)) (λ h. by_lt_z b a (λ k. absurd (above k)) (λ k. omega (arith, ints)))

-- Two runs of a row with a common square are one.
pub same_from : (S : Squares) (y f t g u x : ℤ) → IsRun S y f t → IsRun S y g u → f ≤ℤ x → x <ℤ t → g ≤ℤ x → x <ℤ u → f ≡ g
same_from S y f t g u x p q fx xt gx xu = between f g
    (λ h. q.left (p.covered (g -ℤ pos 1) (omega (arith, ints)) (omega (arith, ints))))
    (λ h. p.left (q.covered (f -ℤ pos 1) (omega (arith, ints)) (omega (arith, ints))))

pub same_to : (S : Squares) (y f t g u x : ℤ) → IsRun S y f t → IsRun S y g u → f ≤ℤ x → x <ℤ t → g ≤ℤ x → x <ℤ u → t ≡ u
same_to S y f t g u x p q fx xt gx xu = between t u
    (λ h. p.right (q.covered t (omega (arith, ints)) (omega (arith, ints))))
    (λ h. q.right (p.covered u (omega (arith, ints)) (omega (arith, ints))))

pub run_sides : (S : Squares) (y f t g u : ℤ) → f ≡ g → t ≡ u → IsRun S y f t → IsRun S y g u
run_sides S y f t g u e e' h = rw (← e, ← e') h

box_equal : (a b : BoxShape) → a.layer ≡ b.layer → a.x1 ≡ b.x1 → a.y1 ≡ b.y1 → a.x2 ≡ b.x2 → a.y2 ≡ b.y2 → a ≡ b
box_equal a b l x1 y1 x2 y2 =
    let e : record { layer = a.layer; x1 = a.x1; y1 = a.y1; x2 = a.x2; y2 = a.y2 } ≡ record { layer = b.layer; x1 = b.x1; y1 = b.y1; x2 = b.x2; y2 = b.y2 } = rw (l, x1, y1, x2, y2) refl in
    e

-- Two tall runs with a common square are one.
pub same_box : (S : Squares) (a b : BoxShape) (x y : ℤ) → IsTall S a → IsTall S b → a.layer ≡ b.layer → Inside a x y → Inside b x y → a ≡ b
same_box S a b x y p q layer i j =
    let ra : IsRun S y a.x1 a.x2 = p.rows y (record { bottom = i.bottom; top = i.top }) in
    let rb : IsRun S y b.x1 b.x2 = q.rows y (record { bottom = j.bottom; top = j.top }) in
    let x1 : a.x1 ≡ b.x1 = same_from S y a.x1 a.x2 b.x1 b.x2 x ra rb i.left i.right j.left j.right in
    let x2 : a.x2 ≡ b.x2 = same_to S y a.x1 a.x2 b.x1 b.x2 x ra rb i.left i.right j.left j.right in
    let iy : (a.y1 ≤ℤ y) = i.bottom in
    let iY : (y <ℤ a.y2) = i.top in
    let jy : (b.y1 ≤ℤ y) = j.bottom in
    let jY : (y <ℤ b.y2) = j.top in
    let y1 : a.y1 ≡ b.y1 = between a.y1 b.y1
    (λ h. q.bottom (run_sides S (b.y1 -ℤ pos 1) a.x1 a.x2 b.x1 b.x2 x1 x2 (p.rows (b.y1 -ℤ pos 1) (record { bottom = omega (arith, ints); top = omega (arith, ints) }))))
    (λ h. p.bottom (run_sides S (a.y1 -ℤ pos 1) b.x1 b.x2 a.x1 a.x2 (sym x1) (sym x2) (q.rows (a.y1 -ℤ pos 1) (record { bottom = omega (arith, ints); top = omega (arith, ints) })))) in
    let y2 : a.y2 ≡ b.y2 = between a.y2 b.y2
    (λ h. p.top (run_sides S a.y2 b.x1 b.x2 a.x1 a.x2 (sym x1) (sym x2) (q.rows a.y2 (record { bottom = omega (arith, ints); top = h }))))
    (λ h. q.top (run_sides S b.y2 a.x1 a.x2 b.x1 b.x2 x1 x2 (p.rows b.y2 (record { bottom = omega (arith, ints); top = h })))) in
    box_equal a b layer x1 y1 x2 y2

-- a box does not stand before itself
pub never_itself : (a b : BoxShape) → Precedes a b → a ≡ b → ⊥
never_itself a b (inl h) e = let k : rank a.layer ≡ rank b.layer = ap (λ (c : BoxShape). rank c.layer) e in omega arith
never_itself a b (inr (l, inl h)) e = let k : a.y1 ≡ b.y1 = ap (λ (c : BoxShape). c.y1) e in omega (arith, ints)
never_itself a b (inr (l, inr (k, h))) e = let k : a.x1 ≡ b.x1 = ap (λ (c : BoxShape). c.x1) e in omega (arith, ints)

run_at : (S : Squares) (y z f t g u : ℤ) → y ≡ z → f ≡ g → t ≡ u → IsRun S z g u → IsRun S y f t
run_at S y z f t g u e e' e'' h = rw (e, e', e'') h

-- Two tall runs that are not one are separate.
pub separate_talls : (S : Squares) (a b : BoxShape) → IsBox a → IsBox b → IsTall S a → IsTall S b → a.layer ≡ b.layer → (a ≡ b → ⊥) → Separate a b
separate_talls S a b box box' p q layer apart =
    let ax : (a.x1 <ℤ a.x2) = box.across.order in
    let ay : (a.y1 <ℤ a.y2) = box.upward.order in
    let bx : (b.x1 <ℤ b.x2) = box'.across.order in
    let by : (b.y1 <ℤ b.y2) = box'.upward.order in
    record {
      squares = λ x y i j. apart (same_box S a b x y p q layer i j);
      right = λ y i j e.
          let P : ℤ → Type 0 = λ x. S x y in
          (p.rows y i).right (subst P (sym e) ((q.rows y j).covered b.x1 (omega (arith, ints)) bx));
      left = λ y i j e.
          let P : ℤ → Type 0 = λ x. S x y in
          (q.rows y j).right (subst P (sym e) ((p.rows y i).covered a.x1 (omega (arith, ints)) ax));
      above = λ e e' k. p.top (run_at S a.y2 b.y1 a.x1 a.x2 b.x1 b.x2 k e e' (q.rows b.y1 (record { bottom = omega (arith, ints); top = by })));
      below = λ e e' k. q.top (run_at S b.y2 a.y1 b.x1 b.x2 a.x1 a.x2 k (sym e) (sym e') (p.rows a.y1 (record { bottom = omega (arith, ints); top = ay })));
    }
