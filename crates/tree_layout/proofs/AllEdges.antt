-- The edges of a square are all edges between its entries, each once.
use Rattle.std.proofs.Common.{◌≡◌, ◌∙◌, ◌⊎◌, ℕ, zero, suc, ◌+◌, ◌-◌, ◌*◌, ◌^◌, ◌<◌, ◌≤◌, Bool, true, false, ◌&&◌, nat_lt, nat_le, cond, Option, Some, None, List, [], ◌∷◌, ◌++◌, length, flat_map, sum_by, refl, sym, ap, inl, inr, arith}
use Rattle.std.specs.List.{range_with_len}
use Rattle.std.proofs.lemmas.Bool.{cases_lt, and_from, le-leb, lt-ltb, le-ltb, lt-leb}
use Rattle.std.proofs.lemmas.List.Sums.{sum_by-append, sum_by-cons}
use Rattle.tree_layout.specs.declared.numbered.Entry.{Entry}
use Rattle.tree_layout.specs.declared.links.Link.{Link}
use Rattle.tree_layout.specs.Numbered.{child_at}
use Rattle.tree_layout.specs.Squares.{link_to, links_from, links_out, links_between, links}
use Rattle.tree_layout.proofs.FourPowers.{four_more}
use Rattle.tree_layout.proofs.Sides.{range_split}

-- a child is before an end: before a border, or between both
pub in_part : (border end c : ℕ) → border ≤ c → c < end → (nat_le border c && nat_lt c end) ≡ true
in_part border end c le lt = and_from (nat_le border c) (nat_lt c end) (le-leb border c le) (lt-ltb c end lt)

past_part : (border end c : ℕ) → end ≤ c → (nat_le border c && nat_lt c end) ≡ false
past_part border end c le = by (nat_le border c)
  where
    by : (b : Bool) → (b && nat_lt c end) ≡ false
    by true = le-ltb c end le
    by false = refl

before_part : (border end c : ℕ) → c < border → (nat_le border c && nat_lt c end) ≡ false
before_part border end c lt = ap (λ b. b && nat_lt c end) (lt-leb border c lt)

module _ (g : Link → ℕ) where
  abbrev held : Bool → Link → ℕ
  held b l = sum_by g (cond b (l ∷ []) [])

  three : (l : Link) (x y z x' y' z' : Bool) → x ≡ x' → y ≡ y' → z ≡ z' → held x' l ≡ held y' l + held z' l → held x l ≡ held y l + held z l
  three l x y z x' y' z' e f h k = rw (e, f, h) k

  link_split : (border end i : ℕ) (heavy : Bool) → border ≤ end → (o : Option ℕ)
      → sum_by g (link_to 0 end i heavy o) ≡ sum_by g (link_to 0 border i heavy o) + sum_by g (link_to border end i heavy o)
  link_split border end i heavy le None = omega arith
  link_split border end i heavy le (Some c) = by (cases_lt c border) (cases_lt c end)
    where
      by : (c < border) ⊎ (border ≤ c) → (c < end) ⊎ (end ≤ c) → sum_by g (link_to 0 end i heavy (Some c)) ≡ sum_by g (link_to 0 border i heavy (Some c)) + sum_by g (link_to border end i heavy (Some c))
      by (inl p) q = three (record { parent = i; child = c; heavy = heavy }) _ _ _ true true false (in_part 0 end c (omega arith) (omega arith)) (in_part 0 border c (omega arith) p) (before_part border end c p) (omega arith)
      by (inr p) (inl q) = three (record { parent = i; child = c; heavy = heavy }) _ _ _ true false true (in_part 0 end c (omega arith) q) (past_part 0 border c p) (in_part border end c p q) (omega arith)
      by (inr p) (inr q) = three (record { parent = i; child = c; heavy = heavy }) _ _ _ false false false (past_part 0 end c q) (past_part 0 border c p) (past_part border end c q) (omega arith)

  module _ (entries : List Entry) (behind : (heavy : Bool) (i c : ℕ) → child_at entries heavy i ≡ Some c → (i < c) × (c < length entries)) where
    -- what is summed over the edges from one node to nodes before an end
    abbrev pub before : ℕ → ℕ → ℕ
    before end i = sum_by g (links_from entries 0 end i)

    from_split : (border end i : ℕ) → border ≤ end → before end i ≡ before border i + sum_by g (links_from entries border end i)
    from_split border end i le = omega (
      arith,
      sum_by-append g (link_to 0 end i false (child_at entries false i)) (link_to 0 end i true (child_at entries true i)),
      sum_by-append g (link_to 0 border i false (child_at entries false i)) (link_to 0 border i true (child_at entries true i)),
      sum_by-append g (link_to border end i false (child_at entries false i)) (link_to border end i true (child_at entries true i)),
      link_split border end i false le (child_at entries false i),
      link_split border end i true le (child_at entries true i),
    )

    list_split : (border end : ℕ) → border ≤ end → (xs : List ℕ) → sum_by (before end) xs ≡ sum_by (before border) xs + sum_by g (flat_map (links_from entries border end) xs)
    list_split border end le [] = omega arith
    list_split border end le (x ∷ xs) = omega (
      arith,
      sum_by-cons (before end) x xs,
      sum_by-cons (before border) x xs,
      sum_by-append g (links_from entries border end x) (flat_map (links_from entries border end) xs),
      from_split border end x le,
      list_split border end le xs,
    )

    -- the edges from a stretch of numbers: those within it, and those out of it
    out_split : (a q border end : ℕ) → border ≡ a + q → border ≤ end
        → sum_by (before end) (range_with_len a q) ≡ sum_by (before border) (range_with_len a q) + sum_by g (links_out entries a border end)
    out_split a q border end e le =
        let n : q ≡ border - a = omega arith in
        omega (arith, list_split border end le (range_with_len a q), ap (λ m. sum_by g (flat_map (links_from entries border end) (range_with_len a m))) n)

    own_none : (i : ℕ) (heavy : Bool) (o : Option ℕ) → child_at entries heavy i ≡ o → sum_by g (link_to 0 (i + 1) i heavy o) ≡ 0
    own_none i heavy None e = refl
    own_none i heavy (Some c) e = ap (λ b. sum_by g (cond b (record { parent = i; child = c; heavy = heavy } ∷ []) [])) (past_part 0 (i + 1) c (omega (arith, (behind heavy i c e).0)))

    range_sum : (f : ℕ → ℕ) (a m n b : ℕ) → b ≡ a + m → sum_by f (range_with_len a (m + n)) ≡ sum_by f (range_with_len a m) + sum_by f (range_with_len b n)
    range_sum f a m n b e = omega (arith, ap (sum_by f) (range_split a m n), sum_by-append f (range_with_len a m) (range_with_len (a + m) n), ap (λ x. sum_by f (range_with_len x n)) e)

    five : (a b c d e f h : List Link) → sum_by g (a ++ (b ++ (c ++ (d ++ (e ++ (f ++ h)))))) ≡ sum_by g a + sum_by g b + sum_by g c + sum_by g d + sum_by g e + sum_by g f + sum_by g h
    five a b c d e f h = omega (
      arith,
      sum_by-append g a (b ++ (c ++ (d ++ (e ++ (f ++ h))))),
      sum_by-append g b (c ++ (d ++ (e ++ (f ++ h)))),
      sum_by-append g c (d ++ (e ++ (f ++ h))),
      sum_by-append g d (e ++ (f ++ h)),
      sum_by-append g e (f ++ h),
      sum_by-append g f h,
    )

    pub all_within : (j first : ℕ) → sum_by g (links entries j first) ≡ sum_by (before (first + 4 ^ j)) (range_with_len first (4 ^ j))
    all_within zero first = omega (
      arith,
      sum_by-cons (before (first + 1)) first [],
      sum_by-append g (link_to 0 (first + 1) first false (child_at entries false first)) (link_to 0 (first + 1) first true (child_at entries true first)),
      own_none first false (child_at entries false first) refl,
      own_none first true (child_at entries true first) refl,
    )
    all_within (suc j) first =
        let q : ℕ = 4 ^ j in
        let size : 4 ^ suc j ≡ q + (q + (q + q)) = let e : suc j ≡ j + 1 = omega arith in let f : 4 ^ suc j ≡ 4 ^ (j + 1) = ap (λ n. 4 ^ n) e in omega (arith, f, four_more j) in
        by q (links entries j first) (links entries j (first + q)) (links entries j (first + 2 * q)) (links entries j (first + 3 * q)) (all_within j first) (all_within j (first + q)) (all_within j (first + 2 * q)) (all_within j (first + 3 * q))
        ∙ ap (λ n. sum_by (before (first + n)) (range_with_len first n)) (sym size)
      where
        by : (q : ℕ) (a b c d : List Link) → sum_by g a ≡ sum_by (before (first + q)) (range_with_len first q) → sum_by g b ≡ sum_by (before (first + q + q)) (range_with_len (first + q) q)
            → sum_by g c ≡ sum_by (before (first + 2 * q + q)) (range_with_len (first + 2 * q) q) → sum_by g d ≡ sum_by (before (first + 3 * q + q)) (range_with_len (first + 3 * q) q)
            → sum_by g (a ++ (b ++ (c ++ (d ++ links_between entries first q)))) ≡ sum_by (before (first + (q + (q + (q + q))))) (range_with_len first (q + (q + (q + q))))
        by q a b c d p1 p2 p3 p4 =
            let e1 : first + q + q ≡ first + 2 * q = omega arith in
            let e2 : first + 2 * q + q ≡ first + 3 * q = omega arith in
            let e3 : first + 3 * q + q ≡ first + 4 * q = omega arith in
            let e4 : first + (q + (q + (q + q))) ≡ first + 4 * q = omega arith in
            omega (
              arith,
              five a b c d (links_out entries first (first + q) (first + 4 * q)) (links_out entries (first + q) (first + 2 * q) (first + 4 * q)) (links_out entries (first + 2 * q) (first + 3 * q) (first + 4 * q)),
              p1,
              p2 ∙ ap (λ n. sum_by (before n) (range_with_len (first + q) q)) e1,
              p3 ∙ ap (λ n. sum_by (before n) (range_with_len (first + 2 * q) q)) e2,
              p4 ∙ ap (λ n. sum_by (before n) (range_with_len (first + 3 * q) q)) e3,
              ap (λ n. sum_by (before n) (range_with_len first (q + (q + (q + q))))) e4,
              range_sum (before (first + 4 * q)) first q (q + (q + q)) (first + q) refl,
              range_sum (before (first + 4 * q)) (first + q) q (q + q) (first + 2 * q) (sym e1),
              range_sum (before (first + 4 * q)) (first + 2 * q) q q (first + 3 * q) (sym e2),
              out_split first q (first + q) (first + 4 * q) refl (omega arith),
              out_split (first + q) q (first + 2 * q) (first + 4 * q) (sym e1) (omega arith),
              out_split (first + 2 * q) q (first + 3 * q) (first + 4 * q) (sym e2) (omega arith),
            )
