-- Regions and channels, box by box.
use Rattle.std.proofs.Common.{◌≡◌, ◌↔◌, ◌⊎◌, inl, inr, ℕ, ◌<◌, ◌≤◌, ◌+◌, ◌&&◌, if◌then◌else◌, ℤ, Bool, true, false, IsTrue, List, [], ◌∷◌, ◌++◌, length, map, get_or, Option, Some, None, refl, sym, ◌∙◌, ap, subst, arith}
use Rattle.std.proofs.lemmas.Grind.{common_steps}
use Rattle.std.proofs.lemmas.Bool.{and_parts, and_from}
use Rattle.geom.specs.Squares.{BoxShape}
use Rattle.canonical_boxes.specs.Canonical.{IsAt}
use Rattle.canonical_boxes.specs.Held.{Holds, AreHeld}
use Rattle.nmos_model.specs.declared.channel.Channel.{Channel}
use Rattle.nmos_extract.specs.declared.sides.Lines.{Lines}
use Rattle.nmos_extract.specs.declared.sides.Sides.{Sides}
use Rattle.nmos_extract.specs.Areas.{above, below, left_of, right_of}
use Rattle.nmos_extract.specs.Sides.{IsFree, AreFree, AreHeldBeside, AreFreeBeside, HasSides, direction, sides_at}
use Rattle.nmos_extract.specs.Regions.{IsRegion, IsSomeRegion, AreRegions, AreChannelsOf, HasSomeSides, IsFirstNot, channel_of}
use Rattle.nmos_extract.proofs.Lists.{by_order, at_of, at_one, map_at}

-- an entry behind the others
pub last_entry : {X : Type 0} (xs : List X) (x d : X) (n : ℕ) → length xs ≡ n → get_or (xs ++ x ∷ []) n d ≡ x
last_entry xs x d n e = grind (arith, common_steps)

pub kept_entry : {X : Type 0} (xs : List X) (x d : X) (k : ℕ) → k < length xs → get_or (xs ++ x ∷ []) k d ≡ get_or xs k d
kept_entry xs x d k l = grind (arith, common_steps)

pub longer : {X : Type 0} (xs : List X) (x : X) (n : ℕ) → length xs ≡ n → length (xs ++ x ∷ []) ≡ n + 1
longer xs x n e = grind (arith, common_steps)

-- ---- regions

pub record AreRegionsBelow (m implant : List BoxShape) (n : ℕ) (depletion : List Bool) : Type 0 where
  pub size : length depletion ≡ n
  pub each : (k : ℕ) (b : BoxShape) → IsAt m k b → k < n → IsRegion m implant (get_or depletion k false) b

pub no_regions : (m implant : List BoxShape) → AreRegionsBelow m implant 0 []
no_regions m implant = record { size = refl; each = λ k b at l. absurd (omega arith) }

pub region_more : (m implant : List BoxShape) (n : ℕ) (b : BoxShape) (at : IsAt m n b) (d : Bool) (old new : List Bool) → new ≡ old ++ d ∷ []
    → IsRegion m implant d b → AreRegionsBelow m implant n old → AreRegionsBelow m implant (n + 1) new
region_more m implant n b at d old new e region h =
    let P : List Bool → Type 0 = λ ds. AreRegionsBelow m implant (n + 1) ds in
    subst P (sym e) (record {
      size = longer old d n h.size;
      each = λ k c there l. by_order k n
          (λ z. let s = h.size in rw (kept_entry old d false k (omega arith)) (h.each k c there z))
          (λ z.
          let Q : ℕ → Type 0 = λ x. IsAt m x c in
          let same : c ≡ b = at_one m n c b (subst Q z there) at in
          rw (z, last_entry old d false n h.size, same) region)
          (λ z. absurd (omega arith));
    })

pub all_regions : (m implant : List BoxShape) (n : ℕ) (depletion : List Bool) → n ≡ length m → AreRegionsBelow m implant n depletion
    → AreRegions m implant depletion
all_regions m implant n depletion e h = record {
  size = h.size ∙ e;
  each = λ k b at. let w : k < length m = at.within in h.each k b at (omega arith);
}

pub first_not_region : (m implant : List BoxShape) (n : ℕ) (b : BoxShape) (depletion : List Bool) → IsAt m n b → AreRegionsBelow m implant n depletion
    → (IsSomeRegion m implant b → ⊥) → IsFirstNot (IsSomeRegion m implant) m n b
first_not_region m implant n b depletion at h fails = record {
  at = at;
  before = λ k c there l. (get_or depletion k false, h.each k c there l);
  fails = fails;
}

-- ---- channels

pub record AreChannelsBelow (m : List BoxShape) (depletion : List Bool) (diffusion terminals : List BoxShape) (n : ℕ) (channels : List Channel) : Type 0 where
  pub size : length channels ≡ n
  pub each : (k : ℕ) (b : BoxShape) (c : Channel) → IsAt m k b → IsAt channels k c → k < n
      → (upright : Bool) × HasSides terminals diffusion upright b × (c ≡ channel_of upright (get_or depletion k false) b)

pub no_channels : (m : List BoxShape) (depletion : List Bool) (diffusion terminals : List BoxShape) → AreChannelsBelow m depletion diffusion terminals 0 []
no_channels m depletion diffusion terminals = record { size = refl; each = λ k b c at there l. absurd (omega arith) }

pub channel_more : (m : List BoxShape) (depletion : List Bool) (diffusion terminals : List BoxShape) (n : ℕ) (b : BoxShape) (at : IsAt m n b)
    (upright : Bool) (old new : List Channel) → new ≡ old ++ channel_of upright (get_or depletion n false) b ∷ []
    → HasSides terminals diffusion upright b → AreChannelsBelow m depletion diffusion terminals n old
    → AreChannelsBelow m depletion diffusion terminals (n + 1) new
channel_more m depletion diffusion terminals n b at upright old new e sides h =
    let made : Channel = channel_of upright (get_or depletion n false) b in
    let P : List Channel → Type 0 = λ cs. AreChannelsBelow m depletion diffusion terminals (n + 1) cs in
    subst P (sym e) (record {
      size = longer old made n h.size;
      each = λ k c d there q l. by_order k n
          (λ z. let s = h.size in h.each k c d there (record { within = omega arith; is = sym (kept_entry old made d k (omega arith)) ∙ q.is }) z)
          (λ z.
          let Q : ℕ → Type 0 = λ x. IsAt m x c in
          let same : c ≡ b = at_one m n c b (subst Q z there) at in
          let R : ℕ → Type 0 = λ x. IsAt (old ++ made ∷ []) x d in
          let there' : IsAt (old ++ made ∷ []) n d = subst R z q in
          let is : d ≡ made = sym there'.is ∙ last_entry old made d n h.size in
          (upright, rw same sides, rw (is, z, same) refl))
          (λ z. absurd (omega arith));
    })

pub all_channels : (m : List BoxShape) (depletion : List Bool) (diffusion terminals : List BoxShape) (n : ℕ) (channels : List Channel) → n ≡ length m
    → AreChannelsBelow m depletion diffusion terminals n channels → AreChannelsOf m depletion diffusion terminals channels
all_channels m depletion diffusion terminals n channels e h = record {
  size = h.size ∙ e;
  each = λ k b c at there. let w : k < length m = at.within in h.each k b c at there (omega arith);
}

pub first_not_ended : (m : List BoxShape) (depletion : List Bool) (diffusion terminals : List BoxShape) (n : ℕ) (b : BoxShape) (channels : List Channel)
    → IsAt m n b → AreChannelsBelow m depletion diffusion terminals n channels
    → (HasSomeSides terminals diffusion b → ⊥) → IsFirstNot (HasSomeSides terminals diffusion) m n b
first_not_ended m depletion diffusion terminals n b channels at h fails = record {
  at = at;
  before = λ k c there l.
      let d : Channel = channel_of false false c in
      let s = h.size in
      let q : IsAt channels k (get_or channels k d) = at_of channels k d (omega arith) in
      let is = h.each k c (get_or channels k d) there q l in
      (is.0, is.1);
  fails = fails;
}

-- ---- sides

-- what there is of the sides of a box
pub record AreSides (terminals diffusion : List BoxShape) (b : BoxShape) (held free : Sides) : Type 0 where
  pub held_above : IsTrue held.above ↔ Holds terminals (above b)
  pub held_below : IsTrue held.below ↔ Holds terminals (below b)
  pub held_left : IsTrue held.left ↔ Holds terminals (left_of b)
  pub held_right : IsTrue held.right ↔ Holds terminals (right_of b)
  pub free_above : IsTrue free.above ↔ IsFree diffusion (above b)
  pub free_below : IsTrue free.below ↔ IsFree diffusion (below b)
  pub free_left : IsTrue free.left ↔ IsFree diffusion (left_of b)
  pub free_right : IsTrue free.right ↔ IsFree diffusion (right_of b)

pub sides_of : (terminals diffusion boxes : List BoxShape) (held free : Lines) → AreHeldBeside terminals boxes held → AreFreeBeside diffusion boxes free
    → (k : ℕ) (b : BoxShape) → IsAt boxes k b → AreSides terminals diffusion b (sides_at held k) (sides_at free k)
sides_of terminals diffusion boxes held free h f k b at = record {
  held_above = h.above.each k (above b) (map_at above boxes k b at);
  held_below = h.below.each k (below b) (map_at below boxes k b at);
  held_left = h.left.each k (left_of b) (map_at left_of boxes k b at);
  held_right = h.right.each k (right_of b) (map_at right_of boxes k b at);
  free_above = f.above.each k (above b) (map_at above boxes k b at);
  free_below = f.below.each k (below b) (map_at below boxes k b at);
  free_left = f.left.each k (left_of b) (map_at left_of boxes k b at);
  free_right = f.right.each k (right_of b) (map_at right_of boxes k b at);
}

four : (a b c d : Bool) → ((a && b) && (c && d)) ≡ true → IsTrue a × IsTrue b × IsTrue c × IsTrue d
four a b c d e =
    let two = and_parts _ _ e in
    let one = and_parts _ _ two.0 in
    let other = and_parts _ _ two.1 in
    (one.0, one.1, other.0, other.1)

from_four : (a b c d : Bool) → IsTrue a → IsTrue b → IsTrue c → IsTrue d → ((a && b) && (c && d)) ≡ true
from_four a b c d p q r s = and_from _ _ (and_from _ _ p q) (and_from _ _ r s)

-- what a direction, or none, says of the sides of a box
abbrev pub Says : List BoxShape → List BoxShape → BoxShape → Option Bool → Type 0
Says terminals diffusion b (Some upright) = HasSides terminals diffusion upright b
Says terminals diffusion b None = HasSomeSides terminals diffusion b → ⊥

module _ (terminals diffusion : List BoxShape) (b : BoxShape) (held free : Sides) (h : AreSides terminals diffusion b held free) where
  upright_from : HasSides terminals diffusion true b → ((held.above && held.below) && (free.left && free.right)) ≡ true
  upright_from s = from_four _ _ _ _ (h.held_above.1 s.0) (h.held_below.1 s.1) (h.free_left.1 s.2) (h.free_right.1 s.3)

  lying_from : HasSides terminals diffusion false b → ((held.left && held.right) && (free.above && free.below)) ≡ true
  lying_from s = from_four _ _ _ _ (h.held_left.1 s.0) (h.held_right.1 s.1) (h.free_above.1 s.2) (h.free_below.1 s.3)

  abbrev Told : Option Bool → Type 0
  Told = Says terminals diffusion b

  pub told_way : Told (direction held free)
  told_way = by_first ((held.above && held.below) && (free.left && free.right)) refl ((held.left && held.right) && (free.above && free.below)) refl
    where
      by_first : (t : Bool) → ((held.above && held.below) && (free.left && free.right)) ≡ t → (u : Bool)
          → ((held.left && held.right) && (free.above && free.below)) ≡ u → Told (if t then Some true else if u then Some false else None)
      by_first true e u f = let s = four _ _ _ _ e in (h.held_above.0 s.0, h.held_below.0 s.1, h.free_left.0 s.2, h.free_right.0 s.3)
      by_first false e true f = let s = four _ _ _ _ f in (h.held_left.0 s.0, h.held_right.0 s.1, h.free_above.0 s.2, h.free_below.0 s.3)
      by_first false e false f = by_way
        where
          by_way : HasSomeSides terminals diffusion b → ⊥
          by_way (true, s) = let t = upright_from s in absurd (cc)
          by_way (false, s) = let t = lying_from s in absurd (cc)

  pub some_sides : (upright : Bool) → Some upright ≡ direction held free → HasSides terminals diffusion upright b
  some_sides upright e = subst Told (sym e) told_way

  pub no_sides : None ≡ direction held free → HasSomeSides terminals diffusion b → ⊥
  no_sides e = subst Told (sym e) told_way

-- the same of lists that are others
pub same_channels : (bs m : List BoxShape) (ds depletion : List Bool) (diffusion terminals : List BoxShape) (channels : List Channel) → bs ≡ m
    → ds ≡ depletion → AreChannelsOf bs ds diffusion terminals channels → AreChannelsOf m depletion diffusion terminals channels
same_channels bs m ds depletion diffusion terminals channels e f h =
    subst (λ (x : List BoxShape). AreChannelsOf x depletion diffusion terminals channels) e
    (subst (λ (x : List Bool). AreChannelsOf bs x diffusion terminals channels) f h)
