-- Each cut is two squares by two, under metal and on poly or diffusion that reach one square beyond it.
use Rattle.std.proofs.Common.{◌≡◌, ◌↔◌, ℕ, ℤ, pos, ◌+ℤ◌, inl, inr, arith}
use Rattle.std.proofs.lemmas.Int.{ints}
use Rattle.geom.specs.declared.layer.Layer.{Layer}
use Rattle.geom.specs.declared.layer.Layer.TheVariants.{Diffusion, Poly, Metal, Cut}
use Rattle.geom.specs.Squares.{BoxShape, Inside, Covered}
use Rattle.geom.specs.Conduction.{Drawing, ShareSide, Leads}
use Rattle.micro_tiles.specs.Boxes.{cut}
use Rattle.micro_tiles.specs.Shapes.{contact, IsContact, IsInner}
use Rattle.stick_grid.specs.Plans.{local_x, local_y}
use Rattle.lambda_rules.specs.Classes.{InClass, IsClass}
use Rattle.lambda_rules.specs.Rules.{block_at, grown, IsCutSize, IsInside, IsCovered}
use Rattle.tile_rules.proofs.Steps.{kept_inside}
use Rattle.tile_rules.proofs.Moved.{moved_by, within_grown, inside_moved, grown_moved}
use Rattle.tile_rules.proofs.Tiled.{Tiled, LiesIn, boxes_at, west_of, south_of, in_table, place_of, covers_here, joined_here}
use Rattle.tile_rules.proofs.Rounds.{first_at, round_of}

contact_inner : (x y : ℤ) → Inside contact x y → IsInner (pos 0) x y
contact_inner x y i = grind (arith, ints)

-- Beside a square of a rectangle lies one of the rectangle, or one of those next to it.
beside : (r : BoxShape) (x y u v : ℤ) → Inside r x y → ShareSide x y u v → Inside (grown 1 r) u v
beside r x y u v i (inl (same, inl next)) = grind (arith, ints)
beside r x y u v i (inl (same, inr next)) = grind (arith, ints)
beside r x y u v i (inr (same, inl next)) = grind (arith, ints)
beside r x y u v i (inr (same, inr next)) = grind (arith, ints)

-- The cut, moved, is the block at its lower left corner.
block_is : (dx dy x y u v : ℤ) → x ≡ dx +ℤ pos 6 → y ≡ dy +ℤ pos 6 → Inside (block_at 2 x y) u v ↔ Inside (moved_by dx dy cut) u v
block_is dx dy x y u v e f = (λ i. grind (arith, ints), λ i. grind (arith, ints))

module _ (Drawn : Drawing) (t : Tiled Drawn) (row col : ℕ) where
  -- the squares of the cut in this row and column
  abbrev hole : BoxShape
  hole = moved_by (west_of col) (south_of t.plan row) cut

  to_contact : (x y : ℤ) → Inside (grown 1 hole) x y → Inside contact (local_x col x) (local_y t.plan row y)
  to_contact x y i =
      let j = grown_moved (west_of col) (south_of t.plan row) 1 cut x y i in
      record { left = j.left; right = j.right; bottom = j.bottom; top = j.top }

  module _ (x y : ℤ) (lies : LiesIn t.plan row col x y) (member : Drawn Cut x y) where
    found : IsContact (boxes_at t.plan row col)
    found = (t.facts.contacts (t.plan.tile row col) (local_x col x) (local_y t.plan row y) (in_table Drawn t row col lies.is_row lies.is_col)
        ((covers_here Drawn t row col x y lies Cut).0 member)).0

    lies_at : (u v : ℤ) → Inside (grown 1 hole) u v → LiesIn t.plan row col u v
    lies_at u v i = record {
      is_row = lies.is_row;
      is_col = lies.is_col;
      inner = contact_inner (local_x col u) (local_y t.plan row v) (to_contact u v i);
    }

    -- the squares of the hole are those of the cut
    of_tile : (u v : ℤ) → Covered (boxes_at t.plan row col) Cut (local_x col u) (local_y t.plan row v) ↔ Inside hole u v
    of_tile u v =
        let moved = inside_moved (west_of col) (south_of t.plan row) cut u v in
        let squares = found.squares (local_x col u) (local_y t.plan row v) in
        (λ h. moved.1 (squares.0 h), λ i. squares.1 (moved.0 i))

    cut_here : (u v : ℤ) → Inside (grown 1 hole) u v → Drawn Cut u v → Inside hole u v
    cut_here u v i h = (of_tile u v).0 ((covers_here Drawn t row col u v (lies_at u v i) Cut).0 h)

    all_cut : (u v : ℤ) → Inside hole u v → Drawn Cut u v
    all_cut u v i = (covers_here Drawn t row col u v (lies_at u v (within_grown 1 hole u v i)) Cut).1 ((of_tile u v).1 i)

    inside : Inside hole x y
    inside = (of_tile x y).0 ((covers_here Drawn t row col x y lies Cut).0 member)

    class : (u v : ℤ) → Leads (Drawn Cut) x y u v ↔ Inside hole u v
    class u v = (
      λ path. kept_inside (Drawn Cut) (Inside hole) (λ p q r s i side h. cut_here r s (beside hole p q r s i side) h) x y u v inside path,
      λ i. joined_here Drawn t Cut row col x y u v lies (lies_at u v (within_grown 1 hole u v i)) member (all_cut u v i),
    )

    -- all of a layer that the contact has lies round the cut
    under : (layer : Layer) → ((u v : ℤ) → Inside contact u v → Covered (boxes_at t.plan row col) layer u v)
        → IsInside 1 (InClass (Drawn Cut) x y) (Drawn layer)
    under layer all = record {
      around = hole;
      round = round_of (Drawn Cut) hole x y inside class member;
      all = λ u v i. (covers_here Drawn t row col u v (lies_at u v i) layer).1 (all (local_x col u) (local_y t.plan row v) (to_contact u v i));
    }

    covered : IsCovered Drawn (InClass (Drawn Cut) x y)
    covered = (under Metal found.metal, elim found.other [ inl poly ↦ inl (under Poly poly) | inr diffusion ↦ inr (under Diffusion diffusion) ])

    sized : IsClass (Drawn Cut) x y → IsCutSize Drawn x y
    sized is =
        let at = first_at (Drawn Cut) hole x y inside class is in
        let block = λ (u v : ℤ). block_is (west_of col) (south_of t.plan row) x y u v at.0 at.1 in (
          round_of (Drawn Cut) (block_at 2 x y) x y ((block x y).1 inside)
              (λ u v. (λ path. (block u v).1 ((class u v).0 path), λ i. (class u v).1 ((block u v).0 i))) member,
          λ u v i. all_cut u v ((block u v).0 i),
        )

module _ (Drawn : Drawing) (t : Tiled Drawn) (x y : ℤ) (is : IsClass (Drawn Cut) x y) where
  pub cut_sized : IsCutSize Drawn x y
  cut_sized = let p = place_of Drawn t Cut x y is.holds.inside in sized Drawn t p.row p.col x y p.lies is.holds.inside is

  pub cut_covered : IsCovered Drawn (InClass (Drawn Cut) x y)
  cut_covered = let p = place_of Drawn t Cut x y is.holds.inside in covered Drawn t p.row p.col x y p.lies is.holds.inside
