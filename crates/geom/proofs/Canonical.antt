-- Lists of the tall runs of a set of squares, and that they are the merged boxes.
use Rattle.std.proofs.Common.{◌≡◌, ℤ, pos, ◌-ℤ◌, ◌≤ℤ◌, ◌<ℤ◌, List, [], ◌∷◌, ◌⊎◌, inl, inr, ◌↔◌, refl, sym, ◌∙◌, ap, arith, subst}
use Rattle.std.proofs.lemmas.Int.{ints, by_lt_z}
use Rattle.geom.specs.declared.layer.Layer.{Layer}
use Rattle.geom.specs.Squares.{BoxShape, IsBox, Inside, Covered}
use Rattle.geom.specs.Merged.{rank, Precedes, InRow, Separate, Heads, InRuns, Merges}
use Rattle.geom.specs.Rows.{Squares, IsRun, IsTall, Among, Ordered}
use Rattle.geom.proofs.TallRuns.{same_from, same_to, same_box, never_itself, separate_talls}

-- one of the boxes that covers a square
pub record Cover (bs : List BoxShape) (layer : Layer) (x y : ℤ) : Type 0 where
  pub box : BoxShape
  pub among : Among bs box
  pub layer_is : box.layer ≡ layer
  pub inside : Inside box x y

pub cover_of : (bs : List BoxShape) (layer : Layer) (x y : ℤ) → Covered bs layer x y → Cover bs layer x y
cover_of [] layer x y h = absurd h
cover_of (b ∷ bs) layer x y (inl h) = record { box = b; among = inl refl; layer_is = h.0; inside = h.1 }
cover_of (b ∷ bs) layer x y (inr h) =
    let c : Cover bs layer x y = cover_of bs layer x y h in
    record { box = c.box; among = inr c.among; layer_is = c.layer_is; inside = c.inside }

pub covered_by : (bs : List BoxShape) (b : BoxShape) (layer : Layer) (x y : ℤ) → Among bs b → b.layer ≡ layer → Inside b x y → Covered bs layer x y
covered_by [] b layer x y h e i = absurd h
covered_by (c ∷ cs) b layer x y (inl h) e i = inl (rw h (e, i))
covered_by (c ∷ cs) b layer x y (inr h) e i = inr (covered_by cs b layer x y h e i)

-- The boxes are tall runs of these squares of each layer.
pub record AreTall (S : Layer → Squares) (m : List BoxShape) : Type 0 where
  pub boxes : (b : BoxShape) → Among m b → IsBox b
  pub tall : (b : BoxShape) → Among m b → IsTall (S b.layer) b

-- They are all the tall runs, in order.
pub record IsCanonical (S : Layer → Squares) (m : List BoxShape) : Type 0 where
  pub runs : AreTall S m
  pub covers : (layer : Layer) (x y : ℤ) → S layer x y → Cover m layer x y
  pub order : Ordered m

tail_runs : (S : Layer → Squares) (b : BoxShape) (bs : List BoxShape) → AreTall S (b ∷ bs) → AreTall S bs
tail_runs S b bs h = record { boxes = λ c k. h.boxes c (inr k); tall = λ c k. h.tall c (inr k) }

heads : (S : Layer → Squares) (b : BoxShape) (bs : List BoxShape) → IsBox b → IsTall (S b.layer) b → AreTall S bs
    → ((c : BoxShape) → Among bs c → Precedes b c) → Heads b bs
heads S b [] box tall h before = tt
heads S b (c ∷ cs) box tall h before = (
  before c (inl refl),
  (λ layer.
      let T : Layer → Type 0 = λ l. IsTall (S l) c in
      separate_talls (S b.layer) b c box (h.boxes c (inl refl)) tall (subst T (sym layer) (h.tall c (inl refl))) layer (never_itself b c (before c (inl refl)))),
  heads S b cs box tall (tail_runs S c cs h) (λ d k. before d (inr k)),
)

in_runs : (S : Layer → Squares) (m : List BoxShape) → AreTall S m → Ordered m → InRuns m
in_runs S [] h order = tt
in_runs S (b ∷ bs) h order = (
  h.boxes b (inl refl),
  heads S b bs (h.boxes b (inl refl)) (h.tall b (inl refl)) (tail_runs S b bs h) order.0,
  in_runs S bs (tail_runs S b bs h) order.1,
)

-- The tall runs of the squares of boxes are what the boxes merge into.
pub merges_from_canonical : (bs m : List BoxShape) → IsCanonical (Covered bs) m → Merges bs m
merges_from_canonical bs m h = record {
  same = λ layer x y. (
    λ k.
        let c : Cover m layer x y = cover_of m layer x y k in
        let S : Layer → Type 0 = λ l. Covered bs l x y in
        subst S c.layer_is (((h.runs.tall c.box c.among).rows y (record { bottom = c.inside.bottom; top = c.inside.top })).covered x c.inside.left c.inside.right),
    λ k.
        let c : Cover m layer x y = h.covers layer x y k in
        covered_by m c.box layer x y c.among c.layer_is c.inside,
  );
  runs = in_runs (Covered bs) m h.runs h.order;
}

apart_from : (b : BoxShape) (cs : List BoxShape) (c : BoxShape) → Heads b cs → Among cs c → b.layer ≡ c.layer → Separate b c
apart_from b [] c h k e = absurd k
apart_from b (d ∷ ds) c h (inl k) e =
    let P : BoxShape → Type 0 = λ x. b.layer ≡ x.layer → Separate b x in
    subst P k h.1 e
apart_from b (d ∷ ds) c h (inr k) e = apart_from b ds c h.2 k e

turned_round : (a b : BoxShape) → Separate a b → Separate b a
turned_round a b s = record {
  squares = λ x y i j. s.squares x y j i;
  right = λ y i j. s.left y j i;
  left = λ y i j. s.right y j i;
  above = λ e e'. s.below (sym e) (sym e');
  below = λ e e'. s.above (sym e) (sym e');
}

-- Two boxes of a layer are one or separate.
apart : (m : List BoxShape) → InRuns m → (b c : BoxShape) → Among m b → Among m c → b.layer ≡ c.layer → (b ≡ c) ⊎ Separate b c
apart [] runs b c i j e = absurd i
apart (d ∷ ds) runs b c (inl i) (inl j) e = inl (sym i ∙ j)
apart (d ∷ ds) runs b c (inl i) (inr j) e =
    let P : BoxShape → Type 0 = λ x. x.layer ≡ c.layer → Separate x c in
    inr (subst P i (apart_from d ds c runs.1 j) e)
apart (d ∷ ds) runs b c (inr i) (inl j) e =
    let P : BoxShape → Type 0 = λ x. x.layer ≡ b.layer → Separate b x in
    inr (subst P j (λ k. turned_round d b (apart_from d ds b runs.1 i k)) (sym e))
apart (d ∷ ds) runs b c (inr i) (inr j) e = apart ds runs.2 b c i j e

boxed : (m : List BoxShape) → InRuns m → (b : BoxShape) → Among m b → IsBox b
boxed [] runs b i = absurd i
boxed (d ∷ ds) runs b (inl i) = let P : BoxShape → Type 0 = λ x. IsBox x in subst P i runs.0
boxed (d ∷ ds) runs b (inr i) = boxed ds runs.2 b i

precedes_all : (b : BoxShape) (cs : List BoxShape) → Heads b cs → (c : BoxShape) → Among cs c → Precedes b c
precedes_all b [] h c k = absurd k
precedes_all b (d ∷ ds) h c (inl k) = let P : BoxShape → Type 0 = λ x. Precedes b x in subst P k h.0
precedes_all b (d ∷ ds) h c (inr k) = precedes_all b ds h.2 c k

ordered : (m : List BoxShape) → InRuns m → Ordered m
ordered [] runs = tt
ordered (b ∷ bs) runs = (precedes_all b bs runs.1, ordered bs runs.2)

module _ (bs m : List BoxShape) (h : Merges bs m) where
  -- a box over a square that another box of the list does not hold is separate from it
  row_run : (b : BoxShape) → Among m b → (y : ℤ) → InRow b y → IsRun (Covered bs b.layer) y b.x1 b.x2
  row_run b i y r =
      let box : IsBox b = boxed m h.runs b i in
      let wide : (b.x1 <ℤ b.x2) = box.across.order in
      record {
        covered = λ x l k. (h.same b.layer x y).0 (covered_by m b b.layer x y i refl (record { left = l; right = k; bottom = r.bottom; top = r.top }));
        left = λ s.
            let c : Cover m b.layer (b.x1 -ℤ pos 1) y = cover_of m b.layer (b.x1 -ℤ pos 1) y ((h.same b.layer (b.x1 -ℤ pos 1) y).1 s) in
            let cl : (c.box.x1 ≤ℤ (b.x1 -ℤ pos 1)) = c.inside.left in
            let cr : ((b.x1 -ℤ pos 1) <ℤ c.box.x2) = c.inside.right in
            elim (apart m h.runs b c.box i c.among (sym c.layer_is)) [
              | inl e ↦ let k : b.x1 ≡ c.box.x1 = ap (λ (d : BoxShape). d.x1) e in absurd (omega (arith, ints))
              | inr sep ↦ by_lt_z b.x1 c.box.x2
                  (λ k. sep.squares b.x1 y
                  (record { left = omega (arith, ints); right = wide; bottom = r.bottom; top = r.top })
                  (record { left = omega (arith, ints); right = k; bottom = c.inside.bottom; top = c.inside.top }))
                  (λ k. sep.left y r (record { bottom = c.inside.bottom; top = c.inside.top }) (omega (arith, ints)))
            ];
        right = λ s.
            let c : Cover m b.layer b.x2 y = cover_of m b.layer b.x2 y ((h.same b.layer b.x2 y).1 s) in
            let cl : (c.box.x1 ≤ℤ b.x2) = c.inside.left in
            let cr : (b.x2 <ℤ c.box.x2) = c.inside.right in
            elim (apart m h.runs b c.box i c.among (sym c.layer_is)) [
              | inl e ↦ let k : b.x2 ≡ c.box.x2 = ap (λ (d : BoxShape). d.x2) e in absurd (omega (arith, ints))
              | inr sep ↦ by_lt_z c.box.x1 b.x2
                  (λ k. sep.squares (b.x2 -ℤ pos 1) y
                  (record { left = omega (arith, ints); right = omega (arith, ints); bottom = r.bottom; top = r.top })
                  (record { left = omega (arith, ints); right = omega (arith, ints); bottom = c.inside.bottom; top = c.inside.top }))
                  (λ k. sep.right y r (record { bottom = c.inside.bottom; top = c.inside.top }) (omega (arith, ints)))
            ];
      }

  -- No box of the list holds the run of the row below or above a box.
  no_more : (b c : BoxShape) → Among m b → Among m c → c.layer ≡ b.layer → (y : ℤ) → InRow c y → c.x1 ≤ℤ b.x1 → b.x1 <ℤ c.x2
      → IsRun (Covered bs b.layer) y b.x1 b.x2 → (y ≡ b.y1 -ℤ pos 1) ⊎ (y ≡ b.y2) → ⊥
  no_more b c i j layer y r l k run at =
      let box : IsBox b = boxed m h.runs b i in
      let wide : (b.x1 <ℤ b.x2) = box.across.order in
      let high : (b.y1 <ℤ b.y2) = box.upward.order in
      let P : Layer → Type 0 = λ l. IsRun (Covered bs l) y c.x1 c.x2 in
      let rc : IsRun (Covered bs b.layer) y c.x1 c.x2 = subst P layer (row_run c j y r) in
      let x1 : c.x1 ≡ b.x1 = same_from (Covered bs b.layer) y c.x1 c.x2 b.x1 b.x2 b.x1 rc run l k (omega (arith, ints)) wide in
      let x2 : c.x2 ≡ b.x2 = same_to (Covered bs b.layer) y c.x1 c.x2 b.x1 b.x2 b.x1 rc run l k (omega (arith, ints)) wide in
      let rb : (c.y1 ≤ℤ y) = r.bottom in
      let rt : (y <ℤ c.y2) = r.top in
      elim (apart m h.runs b c i j (sym layer)) [
        | inl e ↦
            let e1 : b.y1 ≡ c.y1 = ap (λ (d : BoxShape). d.y1) e in
            let e2 : b.y2 ≡ c.y2 = ap (λ (d : BoxShape). d.y2) e in
            elim at [ inl q ↦ absurd (omega (arith, ints)) | inr q ↦ absurd (omega (arith, ints)) ]
        | inr sep ↦ elim at [
          | inl q ↦ by_lt_z b.y1 c.y2
              (λ z. sep.squares b.x1 b.y1
              (record { left = omega (arith, ints); right = wide; bottom = omega (arith, ints); top = high })
              (record { left = l; right = k; bottom = omega (arith, ints); top = z }))
              (λ z. sep.below (sym x1) (sym x2) (omega (arith, ints)))
          | inr q ↦ by_lt_z c.y1 b.y2
              (λ z. sep.squares b.x1 (b.y2 -ℤ pos 1)
              (record { left = omega (arith, ints); right = wide; bottom = omega (arith, ints); top = omega (arith, ints) })
              (record { left = l; right = k; bottom = omega (arith, ints); top = omega (arith, ints) }))
              (λ z. sep.above (sym x1) (sym x2) (omega (arith, ints)))
        ]
      ]

  edge_ends : (b : BoxShape) → Among m b → (y : ℤ) → (y ≡ b.y1 -ℤ pos 1) ⊎ (y ≡ b.y2) → IsRun (Covered bs b.layer) y b.x1 b.x2 → ⊥
  edge_ends b i y at run =
      let box : IsBox b = boxed m h.runs b i in
      let c : Cover m b.layer b.x1 y = cover_of m b.layer b.x1 y ((h.same b.layer b.x1 y).1 (run.covered b.x1 (omega (arith, ints)) box.across.order)) in
      no_more b c.box i c.among c.layer_is y (record { bottom = c.inside.bottom; top = c.inside.top }) c.inside.left c.inside.right run at

  pub canonical_from_merges : IsCanonical (Covered bs) m
  canonical_from_merges = record {
    runs = record {
      boxes = boxed m h.runs;
      tall = λ b i. record {
        rows = row_run b i;
        bottom = edge_ends b i (b.y1 -ℤ pos 1) (inl refl);
        top = edge_ends b i b.y2 (inr refl);
      };
    };
    covers = λ layer x y s. cover_of m layer x y ((h.same layer x y).1 s);
    order = ordered m h.runs;
  }

-- One list's boxes are among another's, where both are canonical for the same squares.
shared : (S : Layer → Squares) (m n : List BoxShape) → IsCanonical S m → IsCanonical S n → (b : BoxShape) → Among m b → Among n b
shared S m n p q b i =
    let box : IsBox b = p.runs.boxes b i in
    let wide : (b.x1 <ℤ b.x2) = box.across.order in
    let high : (b.y1 <ℤ b.y2) = box.upward.order in
    let s : S b.layer b.x1 b.y1 = ((p.runs.tall b i).rows b.y1 (record { bottom = omega (arith, ints); top = high })).covered b.x1 (omega (arith, ints)) wide in
    let c : Cover n b.layer b.x1 b.y1 = q.covers b.layer b.x1 b.y1 s in
    let P : Layer → Type 0 = λ l. IsTall (S l) c.box in
    let e : c.box ≡ b = same_box (S b.layer) c.box b b.x1 b.y1 (subst P c.layer_is (q.runs.tall c.box c.among)) (p.runs.tall b i) c.layer_is c.inside
    (record { left = omega (arith, ints); right = wide; bottom = omega (arith, ints); top = high }) in
    let Q : BoxShape → Type 0 = λ x. Among n x in
    subst Q e c.among

turn_back : (a b : BoxShape) → Precedes a b → Precedes b a → ⊥
turn_back a b (inl h) (inl k) = omega arith
turn_back a b (inl h) (inr k) = let e : rank b.layer ≡ rank a.layer = ap rank k.0 in omega arith
turn_back a b (inr h) (inl k) = let e : rank a.layer ≡ rank b.layer = ap rank h.0 in omega arith
turn_back a b (inr (e, inl h)) (inr (e', inl k)) = omega (arith, ints)
turn_back a b (inr (e, inl h)) (inr (e', inr k)) = let z : b.y1 ≡ a.y1 = k.0 in omega (arith, ints)
turn_back a b (inr (e, inr h)) (inr (e', inl k)) = let z : a.y1 ≡ b.y1 = h.0 in omega (arith, ints)
turn_back a b (inr (e, inr h)) (inr (e', inr k)) = let z : (a.x1 <ℤ b.x1) = h.1 in let z' : (b.x1 <ℤ a.x1) = k.1 in omega (arith, ints)

-- two lists in order with the same boxes are one
one_list : (m n : List BoxShape) → Ordered m → Ordered n → ((b : BoxShape) → Among m b → Among n b) → ((b : BoxShape) → Among n b → Among m b) → m ≡ n
one_list [] [] p q f g = refl
one_list [] (c ∷ cs) p q f g = absurd (g c (inl refl))
one_list (b ∷ bs) [] p q f g = absurd (f b (inl refl))
one_list (b ∷ bs) (c ∷ cs) p q f g =
    let head : b ≡ c = elim (f b (inl refl)) [
      | inl e ↦ sym e
      | inr i ↦ elim (g c (inl refl)) [
        | inl e ↦ e
        | inr j ↦ absurd (turn_back b c (p.0 c j) (q.0 b i))
      ]
    ] in
    let down : (d : BoxShape) → Among bs d → Among cs d = λ d i. elim (f d (inr i)) [
      | inl e ↦ absurd (never_itself b d (p.0 d i) (head ∙ e))
      | inr j ↦ j
    ] in
    let up : (d : BoxShape) → Among cs d → Among bs d = λ d i. elim (g d (inr i)) [
      | inl e ↦ absurd (never_itself c d (q.0 d i) (sym head ∙ e))
      | inr j ↦ j
    ] in
    let tails : bs ≡ cs = one_list bs cs p.1 q.1 down up in
    rw (head, tails) refl

pub merged_one : (boxes others merged again : List BoxShape) → Merges boxes merged → Merges others again
    → ((layer : Layer) (x y : ℤ) → Covered boxes layer x y ↔ Covered others layer x y) → merged ≡ again
merged_one boxes others merged again p q same =
    let q' : Merges boxes again = record {
      same = λ layer x y.
          (λ h. (same layer x y).1 ((q.same layer x y).0 h), λ h. (q.same layer x y).1 ((same layer x y).0 h));
      runs = q.runs;
    } in
    let c : IsCanonical (Covered boxes) merged = canonical_from_merges boxes merged p in
    let d : IsCanonical (Covered boxes) again = canonical_from_merges boxes again q' in
    one_list merged again c.order d.order (shared (Covered boxes) merged again c d) (shared (Covered boxes) again merged d c)
