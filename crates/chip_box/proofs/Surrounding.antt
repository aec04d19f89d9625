-- The edges of the boxes of two lists.
use Rattle.std.proofs.Common.{◌≡◌, ◌⊎◌, inl, inr, ℤ, ◌≤ℤ◌, List, [], ◌∷◌, ◌++◌, refl, sym, ap, subst, ◌∙◌, arith}
use Rattle.std.proofs.lemmas.Int.{ints}
use Rattle.geom.specs.Squares.{BoxShape}
use Rattle.geom.specs.Rows.{Among}
use Rattle.chip_box.specs.declared.extent.Extent.{Extent}
use Rattle.chip_box.specs.Extents.{IsOrdered, IsReached, IsWithinReach, Reaches, Surrounds}

among_either : (xs ys : List BoxShape) (x : BoxShape) → Among (xs ++ ys) x → Among xs x ⊎ Among ys x
among_either [] ys x h = inr h
among_either (a ∷ xs) ys x (inl e) = inl (inl e)
among_either (a ∷ xs) ys x (inr h) = elim (among_either xs ys x h) [ inl k ↦ inl (inr k) | inr k ↦ inr k ]

among_first : (xs ys : List BoxShape) (x : BoxShape) → Among xs x → Among (xs ++ ys) x
among_first [] ys x h = absurd h
among_first (a ∷ xs) ys x (inl e) = inl e
among_first (a ∷ xs) ys x (inr h) = inr (among_first xs ys x h)

among_second : (xs ys : List BoxShape) (x : BoxShape) → Among ys x → Among (xs ++ ys) x
among_second [] ys x h = h
among_second (a ∷ xs) ys x h = inr (among_second xs ys x h)

either_reached : (one other v : ℤ) → (v ≡ one) ⊎ (v ≡ other) → IsReached one → IsReached other → IsReached v
either_reached one other v (inl e) h k = subst IsReached (sym e) h
either_reached one other v (inr e) h k = subst IsReached (sym e) k

module _ (boxes more : List BoxShape) where
  reaches : (edge : BoxShape → ℤ) (one other v : ℤ) → (v ≡ one) ⊎ (v ≡ other) → Reaches edge boxes one → Reaches edge more other
      → Reaches edge (boxes ++ more) v
  reaches edge one other v (inl e) h k = (h.0, among_first boxes more h.0 h.1, h.2, h.3 ∙ sym e)
  reaches edge one other v (inr e) h k = (k.0, among_second boxes more k.0 k.1, k.2, k.3 ∙ sym e)

  no_less : (edge : BoxShape → ℤ) (one other v : ℤ) → v ≤ℤ one → v ≤ℤ other → ((b : BoxShape) → Among boxes b → one ≤ℤ edge b)
      → ((b : BoxShape) → Among more b → other ≤ℤ edge b) → (b : BoxShape) → Among (boxes ++ more) b → v ≤ℤ edge b
  no_less edge one other v first second h k b among = elim (among_either boxes more b among) [
    | inl m ↦ let low = h b m in omega (arith, ints, first, low)
    | inr m ↦ let low = k b m in omega (arith, ints, second, low)
  ]

  no_more : (edge : BoxShape → ℤ) (one other v : ℤ) → one ≤ℤ v → other ≤ℤ v → ((b : BoxShape) → Among boxes b → edge b ≤ℤ one)
      → ((b : BoxShape) → Among more b → edge b ≤ℤ other) → (b : BoxShape) → Among (boxes ++ more) b → edge b ≤ℤ v
  no_more edge one other v first second h k b among = elim (among_either boxes more b among) [
    | inl m ↦ let high = h b m in omega (arith, ints, first, high)
    | inr m ↦ let high = k b m in omega (arith, ints, second, high)
  ]

  pub both_surround : (one other e : Extent) → Surrounds boxes one → Surrounds more other → e.west ≤ℤ one.west → e.west ≤ℤ other.west
      → (e.west ≡ one.west) ⊎ (e.west ≡ other.west) → e.south ≤ℤ one.south → e.south ≤ℤ other.south → (e.south ≡ one.south) ⊎ (e.south ≡ other.south)
      → one.east ≤ℤ e.east → other.east ≤ℤ e.east → (e.east ≡ one.east) ⊎ (e.east ≡ other.east)
      → one.north ≤ℤ e.north → other.north ≤ℤ e.north → (e.north ≡ one.north) ⊎ (e.north ≡ other.north) → Surrounds (boxes ++ more) e
  both_surround one other e h k w1 w2 w s1 s2 s a1 a2 a n1 n2 n = record {
    west = no_less (λ b. b.x1) one.west other.west e.west w1 w2 h.west k.west;
    south = no_less (λ b. b.y1) one.south other.south e.south s1 s2 h.south k.south;
    east = no_more (λ b. b.x2) one.east other.east e.east a1 a2 h.east k.east;
    north = no_more (λ b. b.y2) one.north other.north e.north n1 n2 h.north k.north;
    westernmost = reaches (λ b. b.x1) one.west other.west e.west w h.westernmost k.westernmost;
    southernmost = reaches (λ b. b.y1) one.south other.south e.south s h.southernmost k.southernmost;
    easternmost = reaches (λ b. b.x2) one.east other.east e.east a h.easternmost k.easternmost;
    northernmost = reaches (λ b. b.y2) one.north other.north e.north n h.northernmost k.northernmost;
  }

-- each edge is that of one of two, so it is within reach where they are
pub both_within : (one other e : Extent) → (e.west ≡ one.west) ⊎ (e.west ≡ other.west) → (e.south ≡ one.south) ⊎ (e.south ≡ other.south)
    → (e.east ≡ one.east) ⊎ (e.east ≡ other.east) → (e.north ≡ one.north) ⊎ (e.north ≡ other.north)
    → IsWithinReach one → IsWithinReach other → IsWithinReach e
both_within one other e w s a n h k = record {
  west = either_reached one.west other.west e.west w h.west k.west;
  south = either_reached one.south other.south e.south s h.south k.south;
  east = either_reached one.east other.east e.east a h.east k.east;
  north = either_reached one.north other.north e.north n h.north k.north;
}

-- a box by itself
pub box_surrounds : (b : BoxShape) (e : Extent) → IsOrdered b → b.x1 ≡ e.west → b.y1 ≡ e.south → b.x2 ≡ e.east → b.y2 ≡ e.north
    → Surrounds (b ∷ []) e
box_surrounds b e ordered w s a n = record {
  west = λ o among. elim among [ inl is ↦ let k = ap (λ (x : BoxShape). x.x1) is in omega (arith, ints, w, k) | inr none ↦ absurd none ];
  south = λ o among. elim among [ inl is ↦ let k = ap (λ (x : BoxShape). x.y1) is in omega (arith, ints, s, k) | inr none ↦ absurd none ];
  east = λ o among. elim among [ inl is ↦ let k = ap (λ (x : BoxShape). x.x2) is in omega (arith, ints, a, k) | inr none ↦ absurd none ];
  north = λ o among. elim among [ inl is ↦ let k = ap (λ (x : BoxShape). x.y2) is in omega (arith, ints, n, k) | inr none ↦ absurd none ];
  westernmost = (b, inl refl, ordered, w);
  southernmost = (b, inl refl, ordered, s);
  easternmost = (b, inl refl, ordered, a);
  northernmost = (b, inl refl, ordered, n);
}
