-- Lists cut at an entry, and lists that match others entry by entry.
use Rattle.std.proofs.Common.{◌≡◌, ◌⊎◌, inl, inr, ℕ, zero, suc, ◌<◌, arith, refl, ap, List, [], ◌∷◌, ◌++◌, length, get_or, take, drop}
use Rattle.geom.specs.Rows.{Among, Pairwise}
use Rattle.nmos_model.specs.Lists.{Matched}
use Rattle.nmos_model.proofs.Matching.{source_of}

module _ {X Y : Type 0} (R : X → Y → Type 0) where
  -- what holds of each two of the first list, in order, gives something of those of the second
  pub matched_pairs : (P : X → X → Type 0) (Q : Y → Y → Type 0) (xs : List X) (ys : List Y) → Matched R xs ys
      → ((x w : X) (y z : Y) → Among xs x → Among xs w → R x y → R w z → P x w → Q y z) → Pairwise P xs → Pairwise Q ys
  matched_pairs P Q [] [] m f p = tt
  matched_pairs P Q [] (z ∷ zs) m f p = absurd m
  matched_pairs P Q (w ∷ ws) [] m f p = absurd m
  matched_pairs P Q (w ∷ ws) (z ∷ zs) m f p = (
    λ y h.
        let there = source_of R ws zs y m.1 h in
        f w there.0 z y (inl refl) (inr there.1) m.0 there.2 (p.0 there.0 there.1),
    matched_pairs P Q ws zs m.1 (λ x v y u h k. f x v y u (inr h) (inr k)) p.1,
  )

  -- The first list cut where the second is.
  pub record Cut (xs : List X) (before after : List Y) (y : Y) : Type 0 where
    pub earlier : List X
    pub x : X
    pub later : List X
    pub whole : xs ≡ earlier ++ x ∷ later
    pub earlier_match : Matched R earlier before
    pub match_is : R x y

  pub matched_cut : (xs : List X) (before after : List Y) (y : Y) → Matched R xs (before ++ y ∷ after) → Cut xs before after y
  matched_cut [] [] after y m = absurd m
  matched_cut [] (z ∷ zs) after y m = absurd m
  matched_cut (w ∷ ws) [] after y m = record { earlier = []; x = w; later = ws; whole = refl; earlier_match = tt; match_is = m.0 }
  matched_cut (w ∷ ws) (z ∷ zs) after y m =
      let rest = matched_cut ws zs after y m.1 in
      record {
        earlier = w ∷ rest.earlier;
        x = rest.x;
        later = rest.later;
        whole = ap (λ l. w ∷ l) rest.whole;
        earlier_match = (m.0, rest.earlier_match);
        match_is = rest.match_is;
      }

-- two matchings, one behind the other
pub matched_through : {X Y Z : Type 0} (R : X → Y → Type 0) (S : Y → Z → Type 0) (xs : List X) (ys : List Y) (zs : List Z)
    → Matched R xs ys → Matched S ys zs → Matched (λ x z. (y : Y) × R x y × S y z) xs zs
matched_through R S [] [] [] m n = tt
matched_through R S [] [] (z ∷ zs) m n = absurd n
matched_through R S [] (y ∷ ys) zs m n = absurd m
matched_through R S (x ∷ xs) [] zs m n = absurd m
matched_through R S (x ∷ xs) (y ∷ ys) [] m n = absurd n
matched_through R S (x ∷ xs) (y ∷ ys) (z ∷ zs) m n = ((y, m.0, n.0), matched_through R S xs ys zs m.1 n.1)

-- an entry stands before a place, at it, or behind it
pub among_parts : {X : Type 0} (before after : List X) (y x : X) → Among (before ++ y ∷ after) x → Among before x ⊎ ((y ≡ x) ⊎ Among after x)
among_parts [] after y x h = inr h
among_parts (z ∷ zs) after y x (inl e) = inl (inl e)
among_parts (z ∷ zs) after y x (inr h) = elim (among_parts zs after y x h) [ inl k ↦ inl (inr k) | inr k ↦ inr k ]

-- what holds of an entry and those behind it
pub pairs_behind : {X : Type 0} (P : X → X → Type 0) (before after : List X) (y x : X) → Pairwise P (before ++ y ∷ after) → Among after x → P y x
pairs_behind P [] after y x p h = p.0 x h
pairs_behind P (z ∷ zs) after y x p h = pairs_behind P zs after y x p.1 h

-- a list cut at a place
pub cut_at : {X : Type 0} (xs : List X) (at : ℕ) (default : X) → at < length xs → xs ≡ take at xs ++ get_or xs at default ∷ drop (suc at) xs
cut_at [] at default lt = absurd (omega arith)
cut_at (x ∷ xs) zero default lt = refl
cut_at (x ∷ xs) (suc at) default lt = ap (λ l. x ∷ l) (cut_at xs at default (omega arith))
