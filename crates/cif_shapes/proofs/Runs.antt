-- The runs between columns, where an odd number of them stands to the right.
use Rattle.std.proofs.Common.{◌≡◌, inl, inr, ℕ, ◌+◌, ◌%◌, ◌==◌, Bool, true, false, IsTrue, ℤ, pos, ◌-ℤ◌, ◌≤ℤ◌, ◌<ℤ◌, int_lt, List, [], ◌∷◌, length, refl, sym, ◌∙◌, ap, subst, arith}
use Rattle.std.specs.List.{count_by}
use Rattle.std.proofs.lemmas.Int.{ints, by_lt_z}
use Rattle.geom.specs.declared.layer.Layer.{Layer}
use Rattle.geom.specs.Squares.{BoxShape}
use Rattle.geom.specs.Rows.{Squares, Among, Pairwise}
use Rattle.geom.specs.CifShapes.{IsStripRun, AreStripRuns}
use Rattle.cif_shapes.specs.Changes.{run_boxes}
use Rattle.cif_shapes.proofs.Integers.{lt_true, lt_false}
use Rattle.cif_shapes.proofs.Rays.{count_cons, one_if}

-- the squares of columns to the right of which an odd number of these stands
abbrev pub Within : List ℤ → Squares
Within columns x y = IsTrue (count_by (int_lt x) columns % 2 == 1)

odd_within : (columns : List ℤ) (x y : ℤ) → count_by (int_lt x) columns % 2 ≡ 1 → Within columns x y
odd_within columns x y e = ap (λ (n : ℕ). n == 1) e

even_outside : (columns : List ℤ) (x y : ℤ) → count_by (int_lt x) columns % 2 ≡ 0 → Within columns x y → ⊥
even_outside columns x y e w = let z : false ≡ true = sym (ap (λ (n : ℕ). n == 1) e) ∙ w in cc

abbrev Rising : List ℤ → Type 0
Rising = Pairwise (λ left right. left <ℤ right)

-- all of them stand to the right
pub all_right : (columns : List ℤ) (x : ℤ) → ((c : ℤ) → Among columns c → x <ℤ c) → count_by (int_lt x) columns ≡ length columns
all_right [] x h = refl
all_right (c ∷ cs) x h =
    count_cons (int_lt x) c cs ∙ (ap (λ (b : Bool). one_if b + count_by (int_lt x) cs) (lt_true x c (h c (inl refl)))
    ∙ omega (arith, all_right cs x (λ d i. h d (inr i))))

one_left : (c : ℤ) (cs : List ℤ) (x : ℤ) → c ≤ℤ x → count_by (int_lt x) (c ∷ cs) ≡ count_by (int_lt x) cs
one_left c cs x h = count_cons (int_lt x) c cs ∙ (ap (λ (b : Bool). one_if b + count_by (int_lt x) cs) (lt_false x c h) ∙ omega arith)

-- ---- the first two columns, and the others

-- what holds of columns of an even number that rise
record Two (a b : ℤ) (cs : List ℤ) : Type 0 where
  order : a <ℤ b
  low : (c : ℤ) → Among cs c → b <ℤ c
  even : length cs % 2 ≡ 0

before : (a b : ℤ) (cs : List ℤ) (x y : ℤ) → Two a b cs → x <ℤ a → Within (a ∷ b ∷ cs) x y → ⊥
before a b cs x y t h =
    even_outside (a ∷ b ∷ cs) x y (ap (λ (n : ℕ). n % 2) (all_right (a ∷ b ∷ cs) x right) ∙ omega (arith, t.even))
  where
    right : (c : ℤ) → Among (a ∷ b ∷ cs) c → x <ℤ c
    right c (inl e) = omega (arith, ints, t.order)
    right c (inr (inl e)) = omega (arith, ints, t.order)
    right c (inr (inr i)) = omega (arith, ints, t.order, t.low c i)

between : (a b : ℤ) (cs : List ℤ) (x y : ℤ) → Two a b cs → a ≤ℤ x → x <ℤ b → Within (a ∷ b ∷ cs) x y
between a b cs x y t h k =
    odd_within (a ∷ b ∷ cs) x y (ap (λ (n : ℕ). n % 2) (one_left a (b ∷ cs) x h ∙ all_right (b ∷ cs) x right) ∙ omega (arith, t.even))
  where
    right : (c : ℤ) → Among (b ∷ cs) c → x <ℤ c
    right c (inl e) = omega (arith, ints)
    right c (inr i) = omega (arith, ints, t.low c i)

behind : (a b : ℤ) (cs : List ℤ) (x y : ℤ) → Two a b cs → b ≤ℤ x → Within (a ∷ b ∷ cs) x y ≡ Within cs x y
behind a b cs x y t h =
    ap (λ (n : ℕ). IsTrue (n % 2 == 1)) (one_left a (b ∷ cs) x (omega (arith, ints, t.order)) ∙ one_left b cs x h)

at_right : (a b : ℤ) (cs : List ℤ) (y : ℤ) → Two a b cs → Within (a ∷ b ∷ cs) b y → ⊥
at_right a b cs y t w =
    even_outside cs b y (ap (λ (n : ℕ). n % 2) (all_right cs b t.low) ∙ t.even) (subst (λ (P : Type 0). P) (behind a b cs b y t (omega (arith, ints))) w)

-- each run begins at a column
begins : (layer : Layer) (low high : ℤ) (columns : List ℤ) (b : BoxShape) → Among (run_boxes layer low high columns) b → Among columns b.x1
begins layer low high [] b i = absurd i
begins layer low high (c ∷ []) b i = absurd i
begins layer low high (c ∷ d ∷ cs) b (inl e) = inl (ap (λ (v : BoxShape). v.x1) e)
begins layer low high (c ∷ d ∷ cs) b (inr i) = inr (inr (begins layer low high cs b i))

first_run : (layer : Layer) (low high a b : ℤ) (cs : List ℤ) → Two a b cs
    → IsStripRun (Within (a ∷ b ∷ cs)) layer low high (record { layer = layer; x1 = a; y1 = low; x2 = b; y2 = high })
first_run layer low high a b cs t = record {
  layer_is = refl;
  bottom = refl;
  top = refl;
  order = t.order;
  run = record {
    covered = λ x h k. between a b cs x low t h k;
    left = λ w. before a b cs (a -ℤ pos 1) low t (omega (arith, ints)) w;
    right = λ w. at_right a b cs low t w;
  };
}

later_run : (layer : Layer) (low high a b : ℤ) (cs : List ℤ) (r : BoxShape) → Two a b cs → b <ℤ r.x1 → IsStripRun (Within cs) layer low high r
    → IsStripRun (Within (a ∷ b ∷ cs)) layer low high r
later_run layer low high a b cs r t far s = record {
  layer_is = s.layer_is;
  bottom = s.bottom;
  top = s.top;
  order = s.order;
  run = record {
    covered = λ x h k. subst (λ (P : Type 0). P) (sym (behind a b cs x low t (omega (arith, ints)))) (s.run.covered x h k);
    left = λ w. s.run.left (subst (λ (P : Type 0). P) (behind a b cs (r.x1 -ℤ pos 1) low t (omega (arith, ints))) w);
    right = λ w. s.run.right (subst (λ (P : Type 0). P) (behind a b cs r.x2 low t (omega (arith, ints, s.order))) w);
  };
}

two_more : (a b : ℤ) (cs : List ℤ) → Rising (a ∷ b ∷ cs) → length (a ∷ b ∷ cs) % 2 ≡ 0 → Two a b cs
two_more a b cs h e = record { order = h.0 b (inl refl); low = h.1.0; even = omega arith }

pub runs_between : (layer : Layer) (low high : ℤ) (columns : List ℤ) → Rising columns → length columns % 2 ≡ 0
    → AreStripRuns (Within columns) layer low high (run_boxes layer low high columns)
runs_between layer low high [] h e = record { each = λ b i. absurd i; covers = λ x w. absurd (even_outside [] x low refl w); rising = tt }
runs_between layer low high (a ∷ []) h e = absurd (omega arith)
runs_between layer low high (a ∷ b ∷ cs) h e =
    let t : Two a b cs = two_more a b cs h e in
    let r = runs_between layer low high cs h.1.1 t.even in
    record {
      each = λ v i. each t r v i;
      covers = λ x w. covers t r x w;
      rising = (λ v i. omega (arith, ints, t.order, t.low v.x1 (begins layer low high cs v i)), r.rising);
    }
  where
    each : Two a b cs → AreStripRuns (Within cs) layer low high (run_boxes layer low high cs) → (v : BoxShape)
        → Among (run_boxes layer low high (a ∷ b ∷ cs)) v → IsStripRun (Within (a ∷ b ∷ cs)) layer low high v
    each t r v (inl f) = let P : BoxShape → Type 0 = λ u. IsStripRun (Within (a ∷ b ∷ cs)) layer low high u in subst P f (first_run layer low high a b cs t)
    each t r v (inr i) = later_run layer low high a b cs v t (t.low v.x1 (begins layer low high cs v i)) (r.each v i)

    covers : Two a b cs → AreStripRuns (Within cs) layer low high (run_boxes layer low high cs) → (x : ℤ) → Within (a ∷ b ∷ cs) x low
        → (v : BoxShape) × Among (run_boxes layer low high (a ∷ b ∷ cs)) v × (v.x1 ≤ℤ x) × (x <ℤ v.x2)
    covers t r x w =
        by_lt_z x a (λ k. absurd (before a b cs x low t k w)) (λ k.
        by_lt_z x b (λ l. (record { layer = layer; x1 = a; y1 = low; x2 = b; y2 = high }, inl refl, k, l)) (λ l.
        let found = r.covers x (subst (λ (P : Type 0). P) (behind a b cs x low t l) w) in
        (found.0, inr found.1, found.2, found.3)))

-- runs of squares are runs of others that agree with them in the row
pub runs_alike : (S T : Squares) (layer : Layer) (low high : ℤ) (runs : List BoxShape) → ((x : ℤ) → S x low ≡ T x low)
    → AreStripRuns S layer low high runs → AreStripRuns T layer low high runs
runs_alike S T layer low high runs same r = record {
  each = λ b i. let s = r.each b i in record {
    layer_is = s.layer_is;
    bottom = s.bottom;
    top = s.top;
    order = s.order;
    run = record {
      covered = λ x h k. subst (λ (P : Type 0). P) (same x) (s.run.covered x h k);
      left = λ w. s.run.left (subst (λ (P : Type 0). P) (sym (same (b.x1 -ℤ pos 1))) w);
      right = λ w. s.run.right (subst (λ (P : Type 0). P) (sym (same b.x2)) w);
    };
  };
  covers = λ x w. r.covers x (subst (λ (P : Type 0). P) (sym (same x)) w);
  rising = r.rising;
}
