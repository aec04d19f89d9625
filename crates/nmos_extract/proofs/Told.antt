-- What is told of each box.
use Rattle.std.proofs.Common.{◌≡◌, ◌↔◌, ℕ, ◌<◌, ◌&&◌, ◌||◌, Bool, true, false, IsTrue, List, length, map, get_or, sym, ◌∙◌, subst, arith}
use Rattle.std.proofs.lemmas.List.{get_or_default}
use Rattle.geom.specs.Squares.{BoxShape}
use Rattle.canonical_boxes.specs.Canonical.{IsAt}
use Rattle.nmos_extract.specs.declared.regions.Covers.{Covers}
use Rattle.nmos_extract.specs.Areas.{above}
use Rattle.nmos_extract.specs.Implants.{AreCovers}
use Rattle.nmos_extract.specs.Regions.{IsCovered, IsRegion, IsSomeRegion}
use Rattle.nmos_extract.specs.Sides.{AreFree, IsFree}
use Rattle.nmos_extract.proofs.Freed.{not_region, region_by}
use Rattle.nmos_extract.proofs.Lists.{map_at}

pub told_at : (told : List Bool) (k : ℕ) (v : Bool) (Q : Type 0) → k < length told → v ≡ get_or told k v → IsTrue (get_or told k false) ↔ Q → IsTrue v ↔ Q
told_at told k v Q l e h = let P : Bool → Type 0 = λ t. IsTrue t ↔ Q in subst P (get_or_default told k false v l ∙ sym e) h

module _ (m implant : List BoxShape) (tops : List Bool) (covers : Covers) (free : AreFree m (map above m) tops) (are : AreCovers m implant covers)
    (n : ℕ) (b : BoxShape) (at : IsAt m n b) (top under beside : Bool) (t : top ≡ get_or tops n top)
    (u : under ≡ get_or covers.under.items n under) (s : beside ≡ get_or covers.beside.items n beside) where
  top_is : IsTrue top ↔ IsFree m (above b)
  top_is =
      let there = map_at above m n b at in
      let w : n < length (map above m) = there.within in
      let size : length tops ≡ length (map above m) = free.size in
      told_at tops n top (IsFree m (above b)) (omega arith) t (free.each n (above b) there)

  under_is : IsTrue under ↔ IsCovered implant true b
  under_is =
      let w : n < length m = at.within in
      let size : length covers.under.items ≡ length m = are.under_size in
      told_at covers.under.items n under (IsCovered implant true b) (omega arith) u (are.under n b at)

  beside_is : IsTrue beside ↔ IsCovered implant false b
  beside_is =
      let w : n < length m = at.within in
      let size : length covers.beside.items ≡ length m = are.beside_size in
      told_at covers.beside.items n beside (IsCovered implant false b) (omega arith) s (are.beside n b at)

  pub told_region : (top && (under || beside)) ≡ true → IsRegion m implant under b
  told_region e = region_by m implant b top under beside e top_is under_is beside_is

  pub told_none : (top && (under || beside)) ≡ false → IsSomeRegion m implant b → ⊥
  told_none e = not_region m implant b top under beside e top_is under_is beside_is
