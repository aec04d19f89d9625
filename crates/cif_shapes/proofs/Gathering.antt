-- The corners up to a row, one after another.
use Rattle.std.proofs.Common.{◌≡◌, ◌⊎◌, inl, inr, ℕ, ◌+◌, ◌≤◌, ◌<◌, ℤ, ◌≤ℤ◌, ◌<ℤ◌, List, [], ◌∷◌, ◌++◌, length, take, drop, get_or, sym, subst, arith}
use Rattle.std.proofs.lemmas.Int.{ints}
use Rattle.std.proofs.lemmas.List.{take-append-drop, drop_more, drop_all, take_more}
use Rattle.geom.specs.declared.point.Point.{Point}
use Rattle.geom.specs.Rows.{Among}
use Rattle.cif_shapes.specs.Changes.{Rise, HaveChanges, ReachRow}
use Rattle.cif_shapes.proofs.Lists.{among_push, pairwise_parts}
use Rattle.cif_shapes.proofs.OddOnes.{changes_more}

-- the columns are those of so many corners, which are no higher than the row
pub record HasGathered (corners : List Point) (row : ℤ) (next : ℕ) (columns : List ℤ) : Type 0 where
  pub within : next ≤ length corners
  pub have : HaveChanges (take next corners) columns
  pub below : (p : Point) → Among (take next corners) p → p.y ≤ℤ row

pub gathered_more : (corners : List Point) (row : ℤ) (next : ℕ) (columns new : List ℤ) (d : Point) (x : ℤ) → next < length corners → (get_or corners next d).y ≤ℤ row
    → new ≡ columns ++ x ∷ [] → x ≡ (get_or corners next d).x → HasGathered corners row next columns → HasGathered corners row (next + 1) new
gathered_more corners row next columns new d x short low e f g =
    let p : Point = get_or corners next d in
    let t : take (next + 1) corners ≡ take next corners ++ p ∷ [] = take_more corners next d short in
    record {
      within = omega arith;
      have =
          (let P : List Point → Type 0 = λ l. HaveChanges l new in
          let Q : List ℤ → Type 0 = λ l. HaveChanges (take next corners ++ p ∷ []) l in
          let R : ℤ → Type 0 = λ v. HaveChanges (take next corners ++ p ∷ []) (columns ++ v ∷ []) in
          subst P (sym t) (subst Q (sym e) (subst R (sym f) (changes_more (take next corners) columns p g.have))));
      below =
          λ q i. elim (among_push (take next corners) p q (let R : List Point → Type 0 = λ l. Among l q in subst R t i)) [
            | inl j ↦ g.below q j
            | inr f ↦ (let S : Point → Type 0 = λ v. v.y ≤ℤ row in subst S f low)
          ];
    }

-- all that is left is above the row
pub gathered_all : (corners : List Point) (row : ℤ) (next : ℕ) (columns : List ℤ) (d : Point) → Rise corners
    → (length corners ≤ next) ⊎ ((next < length corners) × (row <ℤ (get_or corners next d).y)) → HasGathered corners row next columns
    → ReachRow corners next row
gathered_all corners row next columns d up stop g = record { within = g.within; below = g.below; above = above up stop }
  where
    first_above : (p : Point) (ps : List Point) → Rise (p ∷ ps) → row <ℤ p.y → (q : Point) → Among (p ∷ ps) q → row <ℤ q.y
    first_above p ps up h q (inl e) = let P : Point → Type 0 = λ v. row <ℤ v.y in subst P e h
    first_above p ps up h q (inr i) = omega (arith, ints, h, up.0 q i)

    above : Rise corners → (length corners ≤ next) ⊎ ((next < length corners) × (row <ℤ (get_or corners next d).y)) → (p : Point)
        → Among (drop next corners) p → row <ℤ p.y
    above up (inl past) p i = let P : List Point → Type 0 = λ l. Among l p in absurd (subst P (drop_all next corners past) i)
    above up (inr (short, high)) p i =
        let e : drop next corners ≡ get_or corners next d ∷ drop (next + 1) corners = drop_more corners next d short in
        let P : List Point → Type 0 = λ l. Rise l in
        let Q : List Point → Type 0 = λ l. Among l p in
        let whole : take next corners ++ drop next corners ≡ corners = take-append-drop next corners in
        let rest : Rise (drop next corners) =
        (pairwise_parts (λ low high. low.y ≤ℤ high.y) (take next corners) (drop next corners) (subst P (sym whole) up)).1 in
        first_above (get_or corners next d) (drop (next + 1) corners) (subst P e rest) high p (subst Q e i)
