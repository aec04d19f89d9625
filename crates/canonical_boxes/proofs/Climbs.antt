-- The way up along the left edge of a rectangle, box by box.
use Rattle.std.proofs.Common.{◌≡◌, ◌↔◌, ℕ, ◌<◌, ◌≤◌, ℤ, pos, neg_ℤ, true, false, rules, ◌^◌, ◌+ℤ◌, ◌-ℤ◌, ◌≤ℤ◌, ◌<ℤ◌, List, inl, inr, length, sym}
use Rattle.std.proofs.Common.{arith, subst}
use Rattle.std.proofs.lemmas.Int.{ints, by_lt_z, to_z-of_z}
use lib.Signed.{le_z}
use mir.Syntax.{w64}
use mir.Val.{SFits, of_z, to_z}
use Rattle.geom.specs.Squares.{BoxShape, IsBox}
use Rattle.geom.specs.Merged.{InRow}
use Rattle.geom.specs.Rows.{Among, Over, IsRun}
use Rattle.canonical_boxes.specs.declared.holding.Area.{Area}
use Rattle.canonical_boxes.specs.Canonical.{BeginsBefore, IsCanonical, IsAt}
use Rattle.canonical_boxes.specs.Standing.{BeginsAmong}
use Rattle.canonical_boxes.specs.Located.{IsOver}
use Rattle.canonical_boxes.specs.Held.{InArea, Holds, HasColumn}
use Rattle.canonical_boxes.proofs.Lists.{Numbered, among_at, Element, element_at, at_among, at_one, pair_at, by_order}
use Rattle.canonical_boxes.proofs.Parted.{OverBy, over_by, over_of, same_number}
use Rattle.canonical_boxes.proofs.Runs.{runs_of}

-- The box is over a square at the left edge of the rectangle, and the rows of the rectangle below it are all covered.
pub record IsReachedBy (m : List BoxShape) (a : Area) (b : BoxShape) : Type 0 where
  pub among : Among m b
  pub column : HasColumn b a.x1
  pub bottom : b.y1 <ℤ a.y2
  pub top : a.y1 <ℤ b.y2
  pub below : (x y : ℤ) → InArea a x y → y <ℤ b.y1 → Over m x y

-- The box of the number is reached.
pub record IsReached (m : List BoxShape) (a : Area) (i : ℕ) : Type 0 where
  pub within : i < length m
  pub reached : (b : BoxShape) → IsAt m i b → IsReachedBy m a b

reached_over : (m : List BoxShape) (a : Area) (x y : ℤ) (i : ℕ) (over : IsOver m x y i) → IsReachedBy m a over.box → IsReached m a i
reached_over m a x y i over h = record {
  within = over.at.within;
  reached = λ b at. let P : BoxShape → Type 0 = λ d. IsReachedBy m a d in subst P (at_one m i over.box b over.at at) h;
}

module _ (m : List BoxShape) (canonical : IsCanonical m) where
  box_at : (i : ℕ) (b : BoxShape) → IsAt m i b → IsBox b
  box_at i b at = canonical.boxes b (at_among m i b at)

  -- ---- the box above another

  -- what begins at the upper edge of a box in one of its columns is over the square there
  pub above_found : (b c : BoxShape) (x : ℤ) (j : ℕ) → IsAt m j c → BeginsAmong c b.y2 x (x +ℤ pos 1) → IsOver m x b.y2 j
  above_found b c x j q begins =
      let row : c.y1 ≡ b.y2 = begins.row in
      let right : (c.x1 <ℤ (x +ℤ pos 1)) = begins.right in
      let high : (c.y1 <ℤ c.y2) = (box_at j c q).upward.order in
      record {
        box = c;
        at = q;
        inside = record { left = omega (arith, ints); right = begins.left; bottom = omega (arith, ints); top = omega (arith, ints) };
      }

  -- a box over the square above another begins there
  pub above_begins : (i : ℕ) (b : BoxShape) (x : ℤ) → IsAt m i b → HasColumn b x → (over : Over m x b.y2)
      → (j : ℕ) × (c : BoxShape) × IsAt m j c × BeginsAmong c b.y2 x (x +ℤ pos 1)
  above_begins i b x at column over =
      let c : OverBy m x b.y2 = over_by m x b.y2 over in
      let j : Numbered m c.box = among_at m c.box c.among in
      let bottom : (c.box.y1 ≤ℤ b.y2) = c.inside.bottom in
      let top : (b.y2 <ℤ c.box.y2) = c.inside.top in
      let left : (c.box.x1 ≤ℤ x) = c.inside.left in
      let high : (b.y1 <ℤ b.y2) = (box_at i b at).upward.order in (
        j.number,
        c.box,
        j.at,
        record {
          row = by_lt_z c.box.y1 b.y2
              (λ l.
              let below : ℤ = b.y2 -ℤ pos 1 in
              let e : i ≡ j.number = same_number m canonical i j.number b c.box x below at j.at
              (record { left = column.left; right = column.right; bottom = omega (arith, ints); top = omega (arith, ints) })
              (record { left = left; right = c.inside.right; bottom = omega (arith, ints); top = omega (arith, ints) }) in
              let P : ℕ → Type 0 = λ n. IsAt m n c.box in
              let Q : BoxShape → Type 0 = λ d. b.y2 <ℤ d.y2 in
              let no : (b.y2 <ℤ b.y2) = subst Q (sym (at_one m i b c.box at (subst P (sym e) j.at))) top in
              absurd (omega (arith, ints)))
              (λ l. omega (arith, ints));
          left = c.inside.right;
          right = omega (arith, ints);
        },
      )

  pub behind : (i j : ℕ) (b c : BoxShape) (x : ℤ) → IsAt m i b → IsAt m j c → BeginsAmong c b.y2 x (x +ℤ pos 1) → i < j
  behind i j b c x p q begins =
      let row : c.y1 ≡ b.y2 = begins.row in
      let high : (b.y1 <ℤ b.y2) = (box_at i b p).upward.order in
      by_order i j (λ l. l)
      (λ e.
      let P : ℕ → Type 0 = λ n. IsAt m n c in
      let Q : BoxShape → Type 0 = λ d. d.y1 ≡ b.y2 in
      let no : b.y1 ≡ b.y2 = subst Q (sym (at_one m i b c p (subst P (sym e) q))) row in
      absurd (omega (arith, ints)))
      (λ l. absurd (elim (pair_at BeginsBefore m j i c b canonical.order q p l) [
        | inl z ↦ omega (arith, ints)
        | inr z ↦ let f : c.y1 ≡ b.y1 = z.0 in omega (arith, ints)
      ]))

  -- ---- what is counted at the upper edge of a box

  module _ (b : BoxShape) (x : ℤ) (first end : ℕ)
      (numbers : (k : ℕ) (c : BoxShape) → IsAt m k c → ((first ≤ k) × (k < end)) ↔ BeginsAmong c b.y2 x (x +ℤ pos 1)) where
    pub counted_above : end ≤ length m → first < end → IsOver m x b.y2 first
    counted_above fits some =
        let c : Element m first = element_at m first (omega arith) in
        above_found b c.element x first c.at ((numbers first c.element c.at).0 (omega arith, some))

    pub counted_behind : end ≤ length m → first < end → (i : ℕ) → IsAt m i b → i < first
    counted_behind fits some i at =
        let c : Element m first = element_at m first (omega arith) in
        behind i first b c.element x at c.at ((numbers first c.element c.at).0 (omega arith, some))

    pub counted_none : end ≤ first → Among m b → HasColumn b x → Over m x b.y2 → ⊥
    counted_none none among column over =
        let n : Numbered m b = among_at m b among in
        let c = above_begins n.number b x n.at column over in
        let two = (numbers c.0 c.1 c.2).1 c.3 in
        omega (arith, two.0, two.1)

  -- ---- the way up

  module _ (a : Area) (across : a.x1 <ℤ a.x2) (upward : a.y1 <ℤ a.y2) where
    pub first_reached : (i : ℕ) → IsOver m a.x1 a.y1 i → IsReached m a i
    first_reached i over =
        let bottom : (over.box.y1 ≤ℤ a.y1) = over.inside.bottom in
        reached_over m a a.x1 a.y1 i over (record {
          among = at_among m i over.box over.at;
          column = record { left = over.inside.left; right = over.inside.right };
          bottom = omega (arith, ints);
          top = over.inside.top;
          below = λ x y i l. let b : (a.y1 ≤ℤ y) = i.bottom in absurd (omega (arith, ints));
        })

    module _ (b : BoxShape) (r : IsReachedBy m a b) where
      -- squares of the rectangle up to the top of a box that is wide enough
      covered : a.x2 ≤ℤ b.x2 → (x y : ℤ) → InArea a x y → y <ℤ b.y2 → Over m x y
      covered wide x y inside top =
          let left : (b.x1 ≤ℤ a.x1) = r.column.left in
          let left' : (a.x1 ≤ℤ x) = inside.left in
          let right' : (x <ℤ a.x2) = inside.right in
          by_lt_z y b.y1
          (λ l. r.below x y inside l)
          (λ l. over_of m b x y r.among (record { left = omega (arith, ints); right = omega (arith, ints); bottom = l; top = top }))

      pub too_narrow : b.x2 <ℤ a.x2 → Holds m a → ⊥
      too_narrow narrow all =
          let left : (b.x1 ≤ℤ a.x1) = r.column.left in
          let right : (a.x1 <ℤ b.x2) = r.column.right in
          let bottom : (b.y1 <ℤ a.y2) = r.bottom in
          let top : (a.y1 <ℤ b.y2) = r.top in
          let high : (b.y1 <ℤ b.y2) = (canonical.boxes b r.among).upward.order in
          let run : (y : ℤ) → InRow b y → IsRun (Over m) y b.x1 b.x2 = runs_of m canonical b r.among in
          by_lt_z a.y1 b.y1
          (λ l. (run b.y1 (record { bottom = omega (arith, ints); top = high })).right
          (all b.x2 b.y1 (record { left = omega (arith, ints); right = narrow; bottom = omega (arith, ints); top = bottom })))
          (λ l. (run a.y1 (record { bottom = l; top = top })).right
          (all b.x2 a.y1 (record { left = omega (arith, ints); right = narrow; bottom = omega (arith, ints); top = upward })))

      pub high_enough : a.x2 ≤ℤ b.x2 → a.y2 ≤ℤ b.y2 → Holds m a
      high_enough wide high x y inside =
          let top : (y <ℤ a.y2) = inside.top in
          covered wide x y inside (omega (arith, ints))

      pub nothing_above : b.y2 <ℤ a.y2 → (Over m a.x1 b.y2 → ⊥) → Holds m a → ⊥
      nothing_above low none all =
          let top : (a.y1 <ℤ b.y2) = r.top in
          none (all a.x1 b.y2 (record { left = omega (arith, ints); right = across; bottom = omega (arith, ints); top = low }))

      pub next_reached : (j : ℕ) → a.x2 ≤ℤ b.x2 → b.y2 <ℤ a.y2 → IsOver m a.x1 b.y2 j → IsReached m a j
      next_reached j wide low over =
          let top : (a.y1 <ℤ b.y2) = r.top in
          let bottom : (over.box.y1 ≤ℤ b.y2) = over.inside.bottom in
          let above : (b.y2 <ℤ over.box.y2) = over.inside.top in
          reached_over m a a.x1 b.y2 j over (record {
            among = at_among m j over.box over.at;
            column = record { left = over.inside.left; right = over.inside.right };
            bottom = omega (arith, ints);
            top = omega (arith, ints);
            below = λ x y inside l. covered wide x y inside (omega (arith, ints));
          })

-- ---- machine words

pub fits_next : (x : ℤ) → neg_ℤ (pos (2 ^ 40)) ≤ℤ x → x <ℤ pos (2 ^ 40) → SFits w64 (x +ℤ pos 1)
fits_next x low high = search (rules, ints)

pub numbers_of : (m : List BoxShape) (first end : ℕ) (b : BoxShape) (y x : ℤ) → SFits w64 y → SFits w64 x → SFits w64 (x +ℤ pos 1) → y ≡ b.y2
    → ((k : ℕ) (d : BoxShape) → IsAt m k d → ((first ≤ k) × (k < end)) ↔ BeginsAmong d (to_z w64 (of_z w64 y)) (to_z w64 (of_z w64 x))
    (to_z w64 (of_z w64 (to_z w64 (of_z w64 x) +ℤ pos 1))))
    → (k : ℕ) (d : BoxShape) → IsAt m k d → ((first ≤ k) × (k < end)) ↔ BeginsAmong d b.y2 x (x +ℤ pos 1)
numbers_of m first end b y x fy fx fn e h k d at =
    let P : ℤ → Type 0 = λ z. ((first ≤ k) × (k < end)) ↔ BeginsAmong d z x (x +ℤ pos 1) in
    subst P e (simp to_z-of_z at (h k d at))

pub at_most_then : (a b c : ℤ) → SFits w64 a → SFits w64 b → b ≡ c → le_z (to_z w64 (of_z w64 a)) (to_z w64 (of_z w64 b)) ≡ true → a ≤ℤ c
at_most_then a b c p q e h =
    let f : le_z a b ≡ true = simp to_z-of_z at h in
    by_lt_z b a (λ l. absurd (grind (arith, ints))) (λ l. omega (arith, ints))

pub at_most_not : (a b c : ℤ) → SFits w64 a → SFits w64 b → b ≡ c → le_z (to_z w64 (of_z w64 a)) (to_z w64 (of_z w64 b)) ≡ false → c <ℤ a
at_most_not a b c p q e h =
    let f : le_z a b ≡ false = simp to_z-of_z at h in
    by_lt_z b a (λ l. omega (arith, ints)) (λ l. absurd (grind (arith, ints)))
