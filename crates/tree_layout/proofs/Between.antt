-- The edges between the quarters of a square are different ones, and run from quarter to quarter.
use Rattle.std.proofs.Common.{◌≡◌, ◌≢◌, ◌∙◌, ◌⊎◌, ℕ, zero, suc, ◌+◌, ◌-◌, ◌*◌, ◌<◌, ◌≤◌, Bool, true, false, ◌&&◌, nat_lt, nat_le, cond, Option, Some, None, List, [], ◌∷◌, ◌++◌, flat_map, All, AllPairs, refl, sym, ap, inl, inr, arith}
use Rattle.std.specs.List.{range_with_len}
use Rattle.std.proofs.lemmas.Bool.{and_parts, leb-true, ltb-true}
use Rattle.std.proofs.lemmas.List.Elements.{All-append, All-cons, All-nil, All-head, All-tail, All-weaker}
use Rattle.tree_layout.specs.declared.numbered.Entry.{Entry}
use Rattle.tree_layout.specs.declared.links.Link.{Link}
use Rattle.tree_layout.specs.Numbered.{child_at}
use Rattle.tree_layout.specs.Squares.{link_to, links_from, links_out, links_between}
use Rattle.tree_layout.specs.Drawing.{AreApart, IsOrdered}

-- an edge of the tree from a number from `from` up to `border` to one from there up to `end`
pub record LinkIn (entries : List Entry) (from border end : ℕ) (l : Link) : Type 0 where
  pub link : child_at entries l.heavy l.parent ≡ Some l.child
  pub low : from ≤ l.parent
  pub mid : l.parent < border
  pub behind : border ≤ l.child
  pub high : l.child < end

pairs_nil : (R : Link → Link → Type 0) → AllPairs R []
pairs_nil R i j d a b = absurd (omega arith)

pairs_cons : (R : Link → Link → Type 0) (x : Link) (xs : List Link) → All (R x) xs → AllPairs R xs → AllPairs R (x ∷ xs)
pairs_cons R x xs h t zero zero d a b = absurd (omega arith)
pairs_cons R x xs h t zero (suc j) d a b = h j d (omega arith)
pairs_cons R x xs h t (suc i) zero d a b = absurd (omega arith)
pairs_cons R x xs h t (suc i) (suc j) d a b = t i j d (omega arith) (omega arith)

pairs_append : (R : Link → Link → Type 0) (xs ys : List Link) → AllPairs R xs → AllPairs R ys → All (λ x. All (R x) ys) xs → AllPairs R (xs ++ ys)
pairs_append R [] ys p q h = q
pairs_append R (x ∷ xs) ys p q h = pairs_cons R x (xs ++ ys)
    (All-append (R x) xs ys (λ k d lt. p 0 (suc k) d (omega arith) (omega arith)) (All-head (λ x. All (R x) ys) x xs h))
    (pairs_append R xs ys (λ i j d a b. p (suc i) (suc j) d (omega arith) (omega arith)) q (All-tail (λ x. All (R x) ys) x xs h))

all_two : (P Q : Link → Type 0) (R : Link → Link → Type 0) → ((l m : Link) → P l → Q m → R l m) → (xs ys : List Link) → All P xs → All Q ys → All (λ x. All (R x) ys) xs
all_two P Q R f xs ys p q = λ i d lt j d' lt'. f _ _ (p i d lt) (q j d' lt')

module _ (entries : List Entry) (o : IsOrdered entries) where
  apart_by : (from border end from' border' end' : ℕ) (l m : Link) → LinkIn entries from border end l → LinkIn entries from' border' end' m
      → (l.parent ≢ m.parent) ⊎ (l.heavy ≢ m.heavy) → AreApart l m
  apart_by from border end from' border' end' l m a b differ = (first differ, λ e. second differ (o.parents l.heavy m.heavy l.parent m.parent m.child (a.link ∙ ap (λ c. Some c) e) b.link))
    where
      first : (l.parent ≢ m.parent) ⊎ (l.heavy ≢ m.heavy) → l.parent ≡ m.parent → l.heavy ≢ m.heavy
      first (inl off) e = absurd (off e)
      first (inr off) e = off

      second : (l.parent ≢ m.parent) ⊎ (l.heavy ≢ m.heavy) → (l.parent ≡ m.parent) × (l.heavy ≡ m.heavy) → ⊥
      second (inl off) e = off e.0
      second (inr off) e = off e.1

  -- the edge to one child
  to_in : (from border end i : ℕ) (heavy : Bool) (o : Option ℕ) → o ≡ child_at entries heavy i → from ≤ i → i < border
      → All (λ l. LinkIn entries from border end l × (l.parent ≡ i) × (l.heavy ≡ heavy)) (link_to border end i heavy o)
  to_in from border end i heavy None e low mid = All-nil (λ (l : Link). LinkIn entries from border end l × (l.parent ≡ i) × (l.heavy ≡ heavy))
  to_in from border end i heavy (Some c) e low mid = by (nat_le border c && nat_lt c end) refl
    where
      by : (b : Bool) → (nat_le border c && nat_lt c end) ≡ b
          → All (λ l. LinkIn entries from border end l × (l.parent ≡ i) × (l.heavy ≡ heavy)) (cond b (record { parent = i; child = c; heavy = heavy } ∷ []) [])
      by false h = All-nil (λ (l : Link). LinkIn entries from border end l × (l.parent ≡ i) × (l.heavy ≡ heavy))
      by true h =
          let t = and_parts (nat_le border c) (nat_lt c end) h in
          All-cons (λ (l : Link). LinkIn entries from border end l × (l.parent ≡ i) × (l.heavy ≡ heavy)) (record { parent = i; child = c; heavy = heavy }) []
          (record { link = sym e; low = low; mid = mid; behind = leb-true border c t.0; high = ltb-true c end t.1 }, refl, refl)
          (All-nil (λ (l : Link). LinkIn entries from border end l × (l.parent ≡ i) × (l.heavy ≡ heavy)))

  abbrev At : ℕ → ℕ → ℕ → ℕ → Link → Type 0
  At from border end i l = LinkIn entries from border end l × (l.parent ≡ i)

  from_in : (from border end i : ℕ) → from ≤ i → i < border → All (At from border end i) (links_from entries border end i)
  from_in from border end i low mid = All-append (At from border end i) (link_to border end i false (child_at entries false i)) (link_to border end i true (child_at entries true i))
      (All-weaker (λ (l : Link). LinkIn entries from border end l × (l.parent ≡ i) × (l.heavy ≡ false)) (At from border end i) (λ l h. (h.0, h.1))
      (link_to border end i false (child_at entries false i)) (to_in from border end i false (child_at entries false i) refl low mid))
      (All-weaker (λ (l : Link). LinkIn entries from border end l × (l.parent ≡ i) × (l.heavy ≡ true)) (At from border end i) (λ l h. (h.0, h.1))
      (link_to border end i true (child_at entries true i)) (to_in from border end i true (child_at entries true i) refl low mid))

  one_pairs : (border end i : ℕ) (heavy : Bool) (c : Option ℕ) → AllPairs AreApart (link_to border end i heavy c)
  one_pairs border end i heavy None = pairs_nil AreApart
  one_pairs border end i heavy (Some c) = by (nat_le border c && nat_lt c end)
    where
      by : (b : Bool) → AllPairs AreApart (cond b (record { parent = i; child = c; heavy = heavy } ∷ []) [])
      by false = pairs_nil AreApart
      by true = pairs_cons AreApart (record { parent = i; child = c; heavy = heavy }) [] (All-nil (AreApart (record { parent = i; child = c; heavy = heavy }))) (pairs_nil AreApart)

  from_pairs : (from border end i : ℕ) → from ≤ i → i < border → AllPairs AreApart (links_from entries border end i)
  from_pairs from border end i low mid = pairs_append AreApart (link_to border end i false (child_at entries false i)) (link_to border end i true (child_at entries true i))
      (one_pairs border end i false (child_at entries false i)) (one_pairs border end i true (child_at entries true i))
      (all_two (λ (l : Link). LinkIn entries from border end l × (l.parent ≡ i) × (l.heavy ≡ false)) (λ (l : Link). LinkIn entries from border end l × (l.parent ≡ i) × (l.heavy ≡ true))
      AreApart (λ l m a b. apart_by from border end from border end l m a.0 b.0 (inr (λ e. clash (sym a.2 ∙ e ∙ b.2))))
      (link_to border end i false (child_at entries false i)) (link_to border end i true (child_at entries true i))
      (to_in from border end i false (child_at entries false i) refl low mid) (to_in from border end i true (child_at entries true i) refl low mid))
    where
      clash : false ≡ true → ⊥
      clash e = cc

  -- edges from the numbers from a on
  abbrev From : ℕ → ℕ → ℕ → ℕ → Link → Type 0
  From from border end a l = LinkIn entries from border end l × (a ≤ l.parent)

  flat_in : (from border end a n : ℕ) → from ≤ a → a + n ≤ border → All (From from border end a) (flat_map (links_from entries border end) (range_with_len a n))
  flat_in from border end a zero low high = All-nil (From from border end a)
  flat_in from border end a (suc n) low high = All-append (From from border end a) (links_from entries border end a) (flat_map (links_from entries border end) (range_with_len (a + 1) n))
      (All-weaker (At from border end a) (From from border end a) (λ l h. (h.0, omega (arith, h.1))) (links_from entries border end a) (from_in from border end a low (omega arith)))
      (All-weaker (From from border end (a + 1)) (From from border end a) (λ l h. (h.0, omega (arith, h.1))) (flat_map (links_from entries border end) (range_with_len (a + 1) n))
      (flat_in from border end (a + 1) n (omega arith) (omega arith)))

  flat_pairs : (from border end a n : ℕ) → from ≤ a → a + n ≤ border → AllPairs AreApart (flat_map (links_from entries border end) (range_with_len a n))
  flat_pairs from border end a zero low high = pairs_nil AreApart
  flat_pairs from border end a (suc n) low high = pairs_append AreApart (links_from entries border end a) (flat_map (links_from entries border end) (range_with_len (a + 1) n))
      (from_pairs from border end a low (omega arith)) (flat_pairs from border end (a + 1) n (omega arith) (omega arith))
      (all_two (At from border end a) (From from border end (a + 1)) AreApart
      (λ l m p q. apart_by from border end from border end l m p.0 q.0 (inl (λ e. omega (arith, p.1, q.1))))
      (links_from entries border end a) (flat_map (links_from entries border end) (range_with_len (a + 1) n)) (from_in from border end a low (omega arith))
      (flat_in from border end (a + 1) n (omega arith) (omega arith)))

  pub out_in : (from border end : ℕ) → from ≤ border → All (LinkIn entries from border end) (links_out entries from border end)
  out_in from border end le = All-weaker (From from border end from) (LinkIn entries from border end) (λ l h. h.0) (links_out entries from border end)
      (flat_in from border end from (border - from) (omega arith) (omega arith))

  out_pairs : (from border end : ℕ) → from ≤ border → AllPairs AreApart (links_out entries from border end)
  out_pairs from border end le = flat_pairs from border end from (border - from) (omega arith) (omega arith)

  outs_apart : (a b c end : ℕ) → b ≤ c → (l m : Link) → (x y : ℕ) → LinkIn entries a b end l → LinkIn entries c y x m → AreApart l m
  outs_apart a b c end le l m x y p q = apart_by a b end c y x l m p q (inl (λ e. omega (arith, p.mid, q.low)))

  pub between_pairs : (first q : ℕ) → AllPairs AreApart (links_between entries first q)
  between_pairs first q =
      let end : ℕ = first + 4 * q in
      pairs_append AreApart (links_out entries first (first + q) (first + 4 * q))
      (links_out entries (first + q) (first + 2 * q) (first + 4 * q) ++ links_out entries (first + 2 * q) (first + 3 * q) (first + 4 * q))
      (out_pairs first (first + q) (first + 4 * q) (omega arith))
      (pairs_append AreApart (links_out entries (first + q) (first + 2 * q) (first + 4 * q)) (links_out entries (first + 2 * q) (first + 3 * q) (first + 4 * q))
      (out_pairs (first + q) (first + 2 * q) (first + 4 * q) (omega arith)) (out_pairs (first + 2 * q) (first + 3 * q) (first + 4 * q) (omega arith))
      (all_two (LinkIn entries (first + q) (first + 2 * q) (first + 4 * q)) (LinkIn entries (first + 2 * q) (first + 3 * q) (first + 4 * q)) AreApart
      (λ l m. outs_apart (first + q) (first + 2 * q) (first + 2 * q) (first + 4 * q) (omega arith) l m (first + 4 * q) (first + 3 * q)) _ _
      (out_in (first + q) (first + 2 * q) (first + 4 * q) (omega arith)) (out_in (first + 2 * q) (first + 3 * q) (first + 4 * q) (omega arith))))
      (all_two (LinkIn entries first (first + q) (first + 4 * q)) (λ m. (y : ℕ) × LinkIn entries (first + q) y (first + 4 * q) m) AreApart
      (λ l m a b. outs_apart first (first + q) (first + q) (first + 4 * q) (omega arith) l m (first + 4 * q) b.0 a b.1) _ _
      (out_in first (first + q) (first + 4 * q) (omega arith)) (later first q))
    where
      later : (first q : ℕ) → All (λ m. (y : ℕ) × LinkIn entries (first + q) y (first + 4 * q) m)
          (links_out entries (first + q) (first + 2 * q) (first + 4 * q) ++ links_out entries (first + 2 * q) (first + 3 * q) (first + 4 * q))
      later first q = All-append (λ m. (y : ℕ) × LinkIn entries (first + q) y (first + 4 * q) m) _ _
          (All-weaker (LinkIn entries (first + q) (first + 2 * q) (first + 4 * q)) (λ m. (y : ℕ) × LinkIn entries (first + q) y (first + 4 * q) m) (λ m h. (first + 2 * q, h)) _
          (out_in (first + q) (first + 2 * q) (first + 4 * q) (omega arith)))
          (All-weaker (LinkIn entries (first + 2 * q) (first + 3 * q) (first + 4 * q)) (λ m. (y : ℕ) × LinkIn entries (first + q) y (first + 4 * q) m)
          (λ m h. (first + 3 * q, record { link = h.link; low = omega (arith, h.low); mid = h.mid; behind = h.behind; high = h.high })) _
          (out_in (first + 2 * q) (first + 3 * q) (first + 4 * q) (omega arith)))
