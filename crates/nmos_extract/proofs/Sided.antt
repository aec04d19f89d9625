-- Lines beside a box of channel squares are its sides.
use Rattle.std.proofs.Common.{◌≡◌, ◌↔◌, ℕ, ◌<◌, ℤ, pos, ◌+ℤ◌, ◌-ℤ◌, ◌≤ℤ◌, ◌<ℤ◌, Bool, true, false, List, refl, sym, subst, arith}
use Rattle.std.proofs.lemmas.Int.{ints}
use Rattle.geom.specs.declared.layer.Layer.TheVariants.{Diffusion}
use Rattle.geom.specs.Conduction.{Drawing, IsChannel, Conducts}
use Rattle.geom.specs.Squares.{BoxShape, IsBox, Inside}
use Rattle.geom.specs.Rows.{Over, IsRun}
use Rattle.canonical_boxes.specs.Canonical.{IsCanonical, IsAt}
use Rattle.canonical_boxes.specs.Held.{InArea, Holds}
use Rattle.canonical_boxes.specs.Laws.{AreNumbered, BoxesAreRuns, SquaresLeadByTouches}
use Rattle.nmos_model.specs.Channels.{HasTerminals, Above, Below, LeftOf, RightOf, AllConduct, NoneConducts}
use Rattle.nmos_extract.specs.Areas.{above, below, left_of, right_of}
use Rattle.nmos_extract.specs.Sides.{IsFree, HasSides}
use Rattle.nmos_extract.specs.Terminals.{AreChannelSquares, AreTerminals}
use Rattle.nmos_extract.proofs.Boxed.{at_least, corner, run_at}

-- two rectangles of the same squares
pub record SameEdges (b r : BoxShape) : Type 0 where
  pub left : r.x1 ≡ b.x1
  pub right : r.x2 ≡ b.x2
  pub bottom : r.y1 ≡ b.y1
  pub top : r.y2 ≡ b.y2

pub same_edges : (b r : BoxShape) → IsBox b → ((x y : ℤ) → Inside b x y ↔ Inside r x y) → SameEdges b r
same_edges b r box same =
    let wide : (b.x1 <ℤ b.x2) = box.across.order in
    let tall : (b.y1 <ℤ b.y2) = box.upward.order in
    let first : Inside r b.x1 b.y1 = (same b.x1 b.y1).0 (corner b box) in
    let last : Inside r (b.x2 -ℤ pos 1) (b.y2 -ℤ pos 1) = (same (b.x2 -ℤ pos 1) (b.y2 -ℤ pos 1)).0
    (record { left = omega (arith, ints); right = omega (arith, ints); bottom = omega (arith, ints); top = omega (arith, ints) }) in
    let fl : (r.x1 ≤ℤ b.x1) = first.left in
    let fr : (b.x1 <ℤ r.x2) = first.right in
    let fb : (r.y1 ≤ℤ b.y1) = first.bottom in
    let ft : (b.y1 <ℤ r.y2) = first.top in
    let lr : ((b.x2 -ℤ pos 1) <ℤ r.x2) = last.right in
    let lt : ((b.y2 -ℤ pos 1) <ℤ r.y2) = last.top in
    let back : Inside b r.x1 r.y1 = (same r.x1 r.y1).1
    (record { left = at_least r.x1; right = omega (arith, ints); bottom = at_least r.y1; top = omega (arith, ints) }) in
    let end : Inside b (r.x2 -ℤ pos 1) (r.y2 -ℤ pos 1) = (same (r.x2 -ℤ pos 1) (r.y2 -ℤ pos 1)).1
    (record { left = omega (arith, ints); right = omega (arith, ints); bottom = omega (arith, ints); top = omega (arith, ints) }) in
    let bl : (b.x1 ≤ℤ r.x1) = back.left in
    let bb : (b.y1 ≤ℤ r.y1) = back.bottom in
    let er : ((r.x2 -ℤ pos 1) <ℤ b.x2) = end.right in
    let et : ((r.y2 -ℤ pos 1) <ℤ b.y2) = end.top in
    record { left = omega (arith, ints); right = omega (arith, ints); bottom = omega (arith, ints); top = omega (arith, ints) }

-- the lines beside a rectangle are those beside another with the same edges
module _ (b r : BoxShape) (e : SameEdges b r) (x y : ℤ) where
  pub in_above : InArea (above b) x y ↔ Above r x y
  in_above = (
    (λ h. let l : (b.x1 ≤ℤ x) = h.left in let k : (x <ℤ b.x2) = h.right in let d : (b.y2 ≤ℤ y) = h.bottom in let t : (y <ℤ (b.y2 +ℤ pos 1)) = h.top in
        let p = e.left in let q = e.right in let s = e.bottom in let u = e.top in
        (record { left = omega (arith, ints); right = omega (arith, ints) }, omega (arith, ints))),
    (λ h. let l : (r.x1 ≤ℤ x) = h.0.left in let k : (x <ℤ r.x2) = h.0.right in let d : y ≡ r.y2 = h.1 in
        let p = e.left in let q = e.right in let s = e.bottom in let u = e.top in
        record { left = omega (arith, ints); right = omega (arith, ints); bottom = omega (arith, ints); top = omega (arith, ints) }),
  )

  pub in_below : InArea (below b) x y ↔ Below r x y
  in_below = (
    (λ h. let l : (b.x1 ≤ℤ x) = h.left in let k : (x <ℤ b.x2) = h.right in let d : ((b.y1 -ℤ pos 1) ≤ℤ y) = h.bottom in let t : (y <ℤ b.y1) = h.top in
        let p = e.left in let q = e.right in let s = e.bottom in let u = e.top in
        (record { left = omega (arith, ints); right = omega (arith, ints) }, omega (arith, ints))),
    (λ h. let l : (r.x1 ≤ℤ x) = h.0.left in let k : (x <ℤ r.x2) = h.0.right in let d : y +ℤ pos 1 ≡ r.y1 = h.1 in
        let p = e.left in let q = e.right in let s = e.bottom in let u = e.top in
        record { left = omega (arith, ints); right = omega (arith, ints); bottom = omega (arith, ints); top = omega (arith, ints) }),
  )

  pub in_left : InArea (left_of b) x y ↔ LeftOf r x y
  in_left = (
    (λ h. let l : ((b.x1 -ℤ pos 1) ≤ℤ x) = h.left in let k : (x <ℤ b.x1) = h.right in let d : (b.y1 ≤ℤ y) = h.bottom in let t : (y <ℤ b.y2) = h.top in
        let p = e.left in let q = e.right in let s = e.bottom in let u = e.top in
        (record { bottom = omega (arith, ints); top = omega (arith, ints) }, omega (arith, ints))),
    (λ h. let l : (r.y1 ≤ℤ y) = h.0.bottom in let k : (y <ℤ r.y2) = h.0.top in let d : x +ℤ pos 1 ≡ r.x1 = h.1 in
        let p = e.left in let q = e.right in let s = e.bottom in let u = e.top in
        record { left = omega (arith, ints); right = omega (arith, ints); bottom = omega (arith, ints); top = omega (arith, ints) }),
  )

  pub in_right : InArea (right_of b) x y ↔ RightOf r x y
  in_right = (
    (λ h. let l : (b.x2 ≤ℤ x) = h.left in let k : (x <ℤ (b.x2 +ℤ pos 1)) = h.right in let d : (b.y1 ≤ℤ y) = h.bottom in let t : (y <ℤ b.y2) = h.top in
        let p = e.left in let q = e.right in let s = e.bottom in let u = e.top in
        (record { bottom = omega (arith, ints); top = omega (arith, ints) }, omega (arith, ints))),
    (λ h. let l : (r.y1 ≤ℤ y) = h.0.bottom in let k : (y <ℤ r.y2) = h.0.top in let d : x ≡ r.x2 = h.1 in
        let p = e.left in let q = e.right in let s = e.bottom in let u = e.top in
        record { left = omega (arith, ints); right = omega (arith, ints); bottom = omega (arith, ints); top = omega (arith, ints) }),
  )

module _ (numbered : AreNumbered) (runs : BoxesAreRuns) (by_touches : SquaresLeadByTouches)
    (Drawn : Drawing) (m : List BoxShape) (canonical : IsCanonical m) (squares : AreChannelSquares Drawn m)
    (diffusion : List BoxShape) (drawn : (x y : ℤ) → Over diffusion x y ↔ Drawn Diffusion x y)
    (terminals : List BoxShape) (conduct : AreTerminals Drawn terminals) where
  all_of : (Line : ℤ → ℤ → Type 0) (Area : ℤ → ℤ → Type 0) → ((x y : ℤ) → Area x y ↔ Line x y)
      → ((x y : ℤ) → Area x y → Over terminals x y) ↔ AllConduct Drawn Line
  all_of Line Area same = (
    (λ h x y l. (conduct x y).0 (h x y ((same x y).1 l))),
    (λ h x y i. (conduct x y).1 (h x y ((same x y).0 i))),
  )

  -- where no channel square lies in the line, none of it conducts exactly where none of it is diffusion
  none_of : (Line : ℤ → ℤ → Type 0) (Area : ℤ → ℤ → Type 0) → ((x y : ℤ) → Area x y ↔ Line x y) → ((x y : ℤ) → Area x y → Over m x y → ⊥)
      → ((x y : ℤ) → Area x y → Over diffusion x y → ⊥) ↔ NoneConducts Drawn Line
  none_of Line Area same none = (
    (λ h x y l c. h x y ((same x y).1 l) ((drawn x y).1 c.0)),
    (λ h x y i d. h x y ((same x y).0 i)
        ((drawn x y).0 d, (λ p. none x y i ((squares x y).1 (record { diffusion = (drawn x y).0 d; poly = p }))))),
  )

  module _ (k : ℕ) (b : BoxShape) (at : IsAt m k b) (none_above : IsFree m (above b)) (none_below : IsFree m (below b)) where
    none_left : (x y : ℤ) → InArea (left_of b) x y → Over m x y → ⊥
    none_left x y i over =
        let l : ((b.x1 -ℤ pos 1) ≤ℤ x) = i.left in
        let r : (x <ℤ b.x1) = i.right in
        let run : IsRun (Over m) y b.x1 b.x2 = run_at numbered runs by_touches Drawn m canonical squares k b at y i.bottom i.top in
        let f : x ≡ b.x1 -ℤ pos 1 = omega (arith, ints) in
        run.left (subst (λ z. Over m z y) f over)

    none_right : (x y : ℤ) → InArea (right_of b) x y → Over m x y → ⊥
    none_right x y i over =
        let l : (b.x2 ≤ℤ x) = i.left in
        let r : (x <ℤ (b.x2 +ℤ pos 1)) = i.right in
        let run : IsRun (Over m) y b.x1 b.x2 = run_at numbered runs by_touches Drawn m canonical squares k b at y i.bottom i.top in
        let f : x ≡ b.x2 = omega (arith, ints) in
        run.right (subst (λ z. Over m z y) f over)

    -- The sides of the box are its terminals.
    pub sides_are : (upright : Bool) (r : BoxShape) → SameEdges b r → HasSides terminals diffusion upright b ↔ HasTerminals Drawn upright r
    sides_are true r e =
        let up = all_of (Above r) (InArea (above b)) (λ x y. in_above b r e x y) in
        let down = all_of (Below r) (InArea (below b)) (λ x y. in_below b r e x y) in
        let left = none_of (LeftOf r) (InArea (left_of b)) (λ x y. in_left b r e x y) none_left in
        let right = none_of (RightOf r) (InArea (right_of b)) (λ x y. in_right b r e x y) none_right in (
          (λ h. (up.0 h.0, down.0 h.1, left.0 h.2, right.0 h.3)),
          (λ h. (up.1 h.0, down.1 h.1, left.1 h.2, right.1 h.3)),
        )
    sides_are false r e =
        let left = all_of (LeftOf r) (InArea (left_of b)) (λ x y. in_left b r e x y) in
        let right = all_of (RightOf r) (InArea (right_of b)) (λ x y. in_right b r e x y) in
        let up = none_of (Above r) (InArea (above b)) (λ x y. in_above b r e x y) none_above in
        let down = none_of (Below r) (InArea (below b)) (λ x y. in_below b r e x y) none_below in (
          (λ h. (left.0 h.0, right.0 h.1, up.0 h.2, down.0 h.3)),
          (λ h. (left.1 h.0, right.1 h.1, up.1 h.2, down.1 h.3)),
        )
