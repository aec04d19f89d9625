-- The boxes between columns, two columns at a time.
use Rattle.std.proofs.Common.{◌≡◌, inl, inr, ℕ, zero, suc, ◌+◌, ◌*◌, ◌/◌, ◌<◌, ◌≤◌, ℤ, ◌<ℤ◌, List, [], ◌∷◌, ◌++◌, length, get_or, drop, refl, sym, ◌∙◌, ap, subst, arith, to_z, of_z, w64}
use Rattle.std.proofs.lemmas.Int.{ints}
use Rattle.std.proofs.lemmas.List.{drop_more, append_assoc, length-drop, append-nil}
use Rattle.geom.specs.declared.layer.Layer.{Layer}
use Rattle.geom.specs.Squares.{BoxShape, IsSide}
use Rattle.geom.specs.Turns.{IsReachable}
use Rattle.geom.specs.Rows.{Among, Pairwise}
use Rattle.cif_shapes.specs.Changes.{run_boxes}

-- a number that is within reach fits
pub reach_same : (z : ℤ) → IsReachable z → to_z w64 (of_z w64 z) ≡ z
reach_same z r = omega (arith, ints, r.from, r.to)

pub low_same : (low high : ℤ) → IsSide low high → to_z w64 (of_z w64 low) ≡ low
low_same low high s = omega (arith, ints, s.first, s.order, s.last)

pub high_same : (low high : ℤ) → IsSide low high → to_z w64 (of_z w64 high) ≡ high
high_same low high s = omega (arith, ints, s.first, s.order, s.last)

two_left : (columns : List ℤ) (at : ℕ) (d : ℤ) → at < length columns / 2
    → drop (2 * at) columns ≡ get_or columns (2 * at) d ∷ get_or columns (2 * at + 1) d ∷ drop (2 * (at + 1)) columns
two_left columns at d h =
    let e : 2 * at + 1 + 1 ≡ 2 * (at + 1) = omega arith in
    let P : ℕ → Type 0 = λ j. drop (2 * at) columns ≡ get_or columns (2 * at) d ∷ get_or columns (2 * at + 1) d ∷ drop j columns in
    subst P e (drop_more columns (2 * at) d (omega arith) ∙ ap (λ (l : List ℤ). get_or columns (2 * at) d ∷ l) (drop_more columns (2 * at + 1) d (omega arith)))

among_get : (xs : List ℤ) (i : ℕ) (d : ℤ) → i < length xs → Among xs (get_or xs i d)
among_get [] i d h = absurd (omega arith)
among_get (x ∷ xs) zero d h = inl refl
among_get (x ∷ xs) (suc i) d h = inr (among_get xs i d (omega arith))

rising_at : (xs : List ℤ) (i : ℕ) (d : ℤ) → Pairwise (λ left right. left <ℤ right) xs → i + 1 < length xs → get_or xs i d <ℤ get_or xs (i + 1) d
rising_at [] i d up h = absurd (omega arith)
rising_at (x ∷ xs) zero d up h = up.0 (get_or xs 0 d) (among_get xs 0 d (omega arith))
rising_at (x ∷ xs) (suc i) d up h =
    let e : suc i + 1 ≡ suc (i + 1) = omega arith in
    let P : ℕ → Type 0 = λ j. get_or xs i d <ℤ get_or (x ∷ xs) j d in
    subst P (sym e) (rising_at xs i d up.1 (omega arith))

-- two neighbouring columns are the sides of a box
pub column_side : (columns : List ℤ) (at : ℕ) (d : ℤ) → at < length columns / 2 → Pairwise (λ left right. left <ℤ right) columns
    → ((x : ℤ) → Among columns x → IsReachable x)
    → IsSide (to_z w64 (of_z w64 (get_or columns (2 * at) d))) (to_z w64 (of_z w64 (get_or columns (2 * at + 1) d)))
column_side columns at d h up near =
    let l = near (get_or columns (2 * at) d) (among_get columns (2 * at) d (omega arith)) in
    let r = near (get_or columns (2 * at + 1) d) (among_get columns (2 * at + 1) d (omega arith)) in
    let P : ℤ → Type 0 = λ v. IsSide v (to_z w64 (of_z w64 (get_or columns (2 * at + 1) d))) in
    let Q : ℤ → Type 0 = λ v. IsSide (get_or columns (2 * at) d) v in
    subst P (sym (reach_same (get_or columns (2 * at) d) l)) (subst Q (sym (reach_same (get_or columns (2 * at + 1) d) r))
    (record { first = l.from; order = rising_at columns (2 * at) d up (omega arith); last = r.to }))

pub runs_more : (layer : Layer) (low high : ℤ) (columns : List ℤ) (at : ℕ) (d : ℤ) (boxes new whole : List BoxShape) (b : BoxShape) → at < length columns / 2
    → ((x : ℤ) → Among columns x → IsReachable x) → new ≡ boxes ++ b ∷ []
    → b ≡ record { layer = layer; x1 = to_z w64 (of_z w64 (get_or columns (2 * at) d)); y1 = low; x2 = to_z w64 (of_z w64 (get_or columns (2 * at + 1) d)); y2 = high }
    → boxes ++ run_boxes layer low high (drop (2 * at) columns) ≡ whole → new ++ run_boxes layer low high (drop (2 * (at + 1)) columns) ≡ whole
runs_more layer low high columns at d boxes new whole b h near e f i =
    let l = reach_same (get_or columns (2 * at) d) (near (get_or columns (2 * at) d) (among_get columns (2 * at) d (omega arith))) in
    let r = reach_same (get_or columns (2 * at + 1) d) (near (get_or columns (2 * at + 1) d) (among_get columns (2 * at + 1) d (omega arith))) in
    let rest : List BoxShape = run_boxes layer low high (drop (2 * (at + 1)) columns) in
    let P : ℤ → Type 0 =
    λ v. b ≡ record { layer = layer; x1 = v; y1 = low; x2 = to_z w64 (of_z w64 (get_or columns (2 * at + 1) d)); y2 = high } in
    let Q : ℤ → Type 0 = λ v. b ≡ record { layer = layer; x1 = get_or columns (2 * at) d; y1 = low; x2 = v; y2 = high } in
    let is : b ≡ record { layer = layer; x1 = get_or columns (2 * at) d; y1 = low; x2 = get_or columns (2 * at + 1) d; y2 = high } = subst Q r (subst P l f) in
    let R : List ℤ → Type 0 = λ xs. boxes ++ run_boxes layer low high xs ≡ whole in
    let S : BoxShape → Type 0 = λ v. boxes ++ v ∷ rest ≡ whole in
    let T : List BoxShape → Type 0 = λ xs. xs ++ rest ≡ whole in
    subst T (sym e) (append_assoc boxes (b ∷ []) rest ∙ subst S (sym is) (subst R (two_left columns at d h) i))

pub runs_all : (layer : Layer) (low high : ℤ) (columns : List ℤ) (at : ℕ) (boxes whole : List BoxShape) → length columns / 2 ≤ at
    → boxes ++ run_boxes layer low high (drop (2 * at) columns) ≡ whole → boxes ≡ whole
runs_all layer low high columns at boxes whole past i =
    let P : List BoxShape → Type 0 = λ xs. boxes ++ xs ≡ whole in
    sym (append-nil boxes) ∙ subst P (few (drop (2 * at) columns) (omega (arith, length-drop (2 * at) columns))) i
  where
    few : (xs : List ℤ) → length xs < 2 → run_boxes layer low high xs ≡ []
    few [] h = refl
    few (x ∷ []) h = refl
    few (x ∷ y ∷ xs) h = absurd (omega arith)
