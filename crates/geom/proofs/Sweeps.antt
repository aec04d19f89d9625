-- What a sweep knows of a row, after a run began or was made longer.
use Rattle.std.proofs.Common.{◌≡◌, ◌^◌, ℕ, ◌<◌, ℤ, pos, negsuc, neg_ℤ, ◌+◌, ◌-ℤ◌, ◌≤ℤ◌, ◌<ℤ◌, List, [], ◌∷◌, ◌⊎◌, inl, inr, refl, sym, ◌∙◌, arith, subst}
use Rattle.std.specs.Int.{int_max}
use Rattle.std.proofs.Math.IntN.{nat_abs}
use Rattle.std.proofs.lemmas.Int.{ints, by_lt_z, clamps}
use Rattle.geom.specs.declared.layer.Layer.{Layer}
use Rattle.geom.specs.declared.reach.Level.{Level}
use Rattle.geom.specs.declared.row_tree.RowTree.{RowTree}
use Rattle.geom.specs.declared.sweep.Strip.{Strip}
use Rattle.geom.specs.Squares.{BoxShape, IsBox}
use Rattle.geom.specs.Rows.{Squares, IsRun, IsPart, Among, Over}
use Rattle.geom.specs.RowTrees.{column_at}
use Rattle.geom.specs.Reaches.{IsLevel, IsReached, Raises}
use Rattle.geom.specs.declared.sweep.Sweep.{Sweep}
use Rattle.geom.specs.Sweeps.{Passes, IsStrip, IsLast, Passed, IsNext, run_box, PutsAside}
use Rattle.geom.proofs.Lists.{among_push}
use Rattle.geom.proofs.Overs.{over_left, over_right}

over_aside : (layer : Layer) (row : ℤ) (first : Level) (to : ℤ) (m n : List BoxShape) (x y : ℤ) → PutsAside layer row first to m n → Over m x y → Over n x y
over_aside layer row first to m n x y (inl p) h = rw p.1 (over_left m (run_box layer row first to ∷ []) x y h)
over_aside layer row first to m n x y (inr p) h = rw p.1 h

-- what a strip has passed of a row that is not among these is what it had passed
passed_before : (done : List BoxShape) (strip : Strip) (row end x y : ℤ) → (y <ℤ row) ⊎ (end ≤ℤ y) → Passed done strip end x y → Passed done strip row x y
passed_before done strip row end x y side (inl h) = inl h
passed_before done strip row end x y (inl l) (inr h) = inr (h.0, l)
passed_before done strip row end x y (inr l) (inr h) = let k : y <ℤ end = h.1 in absurd (omega (arith, ints))

-- other rows have the last runs that they had
last_kept : (S : Squares) (done m n : List BoxShape) (strip : Strip) (b b' e e' : RowTree) (row end y : ℤ)
    → column_at b' y ≡ column_at b y → column_at e' y ≡ column_at e y → ((x : ℤ) → Over m x y → Over n x y)
    → (y <ℤ row) ⊎ (end ≤ℤ y) → IsLast S (Passed done strip row) strip.left b e m y → IsLast S (Passed done strip end) strip.left b' e' n y
last_kept S done m n strip b b' e e' row end y begins ends more side l = record {
  from = l.from;
  to = l.to;
  begins_is = begins ∙ l.begins_is;
  ends_is = ends ∙ l.ends_is;
  order = l.order;
  near = l.near;
  covered = l.covered;
  left = l.left;
  reach = λ x d. l.reach x (passed_before done strip row end x y side d);
  before = λ x d. elim (l.before x (passed_before done strip row end x y side d)) [ inl k ↦ inl k | inr k ↦ inr (more x k) ];
}

in_rows : (P : ℤ → Type 0) (row end y : ℤ) → ((y <ℤ row) ⊎ (end ≤ℤ y) → P y) → (row ≤ℤ y → y <ℤ end → P y) → P y
in_rows P row end y outside inside = by_lt_z y row (λ l. outside (inl l)) (λ l. by_lt_z y end (λ k. inside l k) (λ k. outside (inr k)))

-- A run begins in the rows of both levels, behind a gap.
module _ (boxes done m n : List BoxShape) (layer : Layer) (strip : Strip) (row : ℤ) (first last : Level) (b b' e e' : RowTree)
    (is_strip : IsStrip strip) (from : strip.bottom ≤ℤ row) (to : last.end ≤ℤ strip.top) (within : first.end ≤ℤ last.end)
    (lb : IsLevel b row first) (le : IsLevel e row last) (gap : last.value <ℤ strip.left)
    (aside : PutsAside layer row first last.value m n) (next : IsNext boxes done strip)
    (rows : (y : ℤ) → IsLast (Over boxes) (Passed done strip row) strip.left b e m y)
  where
    abbrev part : BoxShape
    part = run_box layer row first last.value

    from_is : (y : ℤ) → row ≤ℤ y → y <ℤ first.end → (rows y).from ≡ first.value
    from_is y h k = sym (rows y).begins_is ∙ lb.alike y h k

    to_is : (y : ℤ) → row ≤ℤ y → y <ℤ first.end → (rows y).to ≡ last.value
    to_is y h k = sym (rows y).ends_is ∙ le.alike y h (omega (arith, ints))

    run_put : (y : ℤ) → row ≤ℤ y → y <ℤ first.end → IsRun (Over boxes) y first.value last.value
    run_put y h k =
        let l : IsLast (Over boxes) (Passed done strip row) strip.left b e m y = rows y in
        let f : l.from ≡ first.value = from_is y h k in
        let t : l.to ≡ last.value = to_is y h k in
        record {
          covered = λ x a c. l.covered x (omega (arith, ints)) (omega (arith, ints));
          left = λ s. l.left (rw f s);
          right = λ s. let z : last.value <ℤ l.to = l.reach last.value (inl (next.left last.value y s gap)) in omega (arith, ints);
        }

    -- the run is a box, where it is not empty
    is_box : first.value <ℤ last.value → IsBox part
    is_box h =
        let r : IsRun (Over boxes) row first.value last.value = run_put row (omega (arith, ints)) lb.later in
        let low : neg_ℤ (pos (2 ^ 40)) ≤ℤ first.value = next.low first.value row (r.covered first.value (omega (arith, ints)) h) in
        let near : strip.left ≤ℤ pos (2 ^ 40 + 1) = is_strip.near in
        let first_row : neg_ℤ (pos (2 ^ 40)) ≤ℤ strip.bottom = is_strip.rows.first in
        let last_row : strip.top ≤ℤ pos (2 ^ 40) = is_strip.rows.last in
        record {
          across = record { first = low; order = h; last = omega (arith, ints) };
          upward = record { first = omega (arith, ints); order = lb.later; last = omega (arith, ints) };
        }

    over_run : (x y : ℤ) → row ≤ℤ y → y <ℤ first.end → first.value ≤ℤ x → x <ℤ last.value → Over n x y
    over_run x y h k a c = elim aside [
      | inl p ↦ rw p.1 (over_right m (part ∷ []) x y (inl (record { left = a; right = c; bottom = h; top = k })))
      | inr p ↦ absurd (p.0 (is_box (omega (arith, ints))))
    ]

    begun_row : Raises b row first.end strip.left b' → Raises e row first.end strip.right e' → (y : ℤ) → row ≤ℤ y → y <ℤ first.end
        → IsLast (Over boxes) (Passed done strip first.end) strip.left b' e' n y
    begun_row sb se y h k =
        let l : IsLast (Over boxes) (Passed done strip row) strip.left b e m y = rows y in
        let f : l.from ≡ first.value = from_is y h k in
        let t : l.to ≡ last.value = to_is y h k in
        let order : strip.left ≤ℤ strip.right = is_strip.order in
        let near : l.from ≤ℤ strip.left = l.near in
        let bv : column_at b y ≡ first.value = lb.alike y h k in
        let ev : column_at e y ≡ last.value = le.alike y h (omega (arith, ints)) in
        let bn : column_at b' y ≡ int_max (column_at b y) strip.left = sb.inside y h k in
        let en : column_at e' y ≡ int_max (column_at e y) strip.right = se.inside y h k in
        record {
          from = strip.left;
          to = strip.right;
          begins_is = omega (arith, ints, clamps);
          ends_is = omega (arith, ints, clamps);
          order = order;
          near = omega (arith, ints);
          covered = λ x a c. next.inside x y (record { left = a; right = c; bottom = omega (arith, ints); top = omega (arith, ints) });
          left = λ s. let z : (strip.left -ℤ pos 1) <ℤ l.to = l.reach (strip.left -ℤ pos 1) (inl (next.left (strip.left -ℤ pos 1) y s (omega (arith, ints)))) in omega (arith, ints);
          reach = λ x d. elim d [
            | inl o ↦ let z : x <ℤ l.to = l.reach x (inl o) in omega (arith, ints)
            | inr o ↦ o.0.right
          ];
          before = λ x d. elim d [
            | inl o ↦
                let z : x <ℤ l.to = l.reach x (inl o) in
                elim (l.before x (inl o)) [
                  | inl a ↦ inr (over_run x y h k (omega (arith, ints)) (omega (arith, ints)))
                  | inr a ↦ inr (over_aside layer row first last.value m n x y aside a)
                ]
            | inr o ↦ inl o.0.left
          ];
        }

    pub begun_rows : Raises b row first.end strip.left b' → Raises e row first.end strip.right e' → (y : ℤ) → IsLast (Over boxes) (Passed done strip first.end) strip.left b' e' n y
    begun_rows sb se y =
        in_rows (λ z. IsLast (Over boxes) (Passed done strip first.end) strip.left b' e' n z) row first.end y
        (λ side. last_kept (Over boxes) done m n strip b b' e e' row first.end y (sb.outside y side) (se.outside y side)
        (λ x o. over_aside layer row first last.value m n x y aside o) side (rows y))
        (λ h k. begun_row sb se y h k)

    pub begun_parts : ((d : BoxShape) → Among m d → IsPart (Over boxes) layer d) → (d : BoxShape) → Among n d → IsPart (Over boxes) layer d
    begun_parts parts d i = elim aside [
      | inl p ↦
          let A : List BoxShape → Type 0 = λ l. Among l d in
          elim (among_push m part d (subst A p.1 i)) [
            | inl j ↦ parts d j
            | inr q ↦
                let P : BoxShape → Type 0 = λ c. IsPart (Over boxes) layer c in
                subst P q (record { layer_is = refl; box = p.0; rows = λ y r. run_put y r.bottom r.top })
          ]
      | inr p ↦ let A : List BoxShape → Type 0 = λ l. Among l d in parts d (subst A p.1 i)
    ]

-- The last runs of the rows that the strip meets reach at least as far as the strip.
module _ (boxes done m : List BoxShape) (strip : Strip) (row end : ℤ) (b e e' : RowTree)
    (is_strip : IsStrip strip) (from : strip.bottom ≤ℤ row) (met : IsReached e strip.left row strip.top end) (next : IsNext boxes done strip)
    (longer : Raises e row end strip.right e')
    (rows : (y : ℤ) → IsLast (Over boxes) (Passed done strip row) strip.left b e m y)
  where
    longer_row : (y : ℤ) → row ≤ℤ y → y <ℤ end → IsLast (Over boxes) (Passed done strip end) strip.left b e' m y
    longer_row y h k =
        let l : IsLast (Over boxes) (Passed done strip row) strip.left b e m y = rows y in
        let t : column_at e y ≡ l.to = l.ends_is in
        let n : column_at e' y ≡ int_max (column_at e y) strip.right = longer.inside y h k in
        let reached : strip.left ≤ℤ column_at e y = met.reached y h k in
        let within : end ≤ℤ strip.top = met.within in
        let order : l.from ≤ℤ l.to = l.order in
        let near : l.from ≤ℤ strip.left = l.near in
        record {
          from = l.from;
          to = int_max l.to strip.right;
          begins_is = l.begins_is;
          ends_is = omega (arith, ints, clamps);
          order = omega (arith, ints, clamps);
          near = near;
          covered = λ x a c. by_lt_z x l.to
              (λ z. l.covered x a z)
              (λ z. next.inside x y (record { left = omega (arith, ints); right = omega (arith, ints, clamps); bottom = omega (arith, ints); top = omega (arith, ints) }));
          left = l.left;
          reach = λ x d. elim d [
            | inl o ↦ let z : x <ℤ l.to = l.reach x (inl o) in omega (arith, ints, clamps)
            | inr o ↦ let z : x <ℤ strip.right = o.0.right in omega (arith, ints, clamps)
          ];
          before = λ x d. elim d [
            | inl o ↦ l.before x (inl o)
            | inr o ↦ let z : strip.left ≤ℤ x = o.0.left in inl (omega (arith, ints))
          ];
        }

    pub longer_rows : (y : ℤ) → IsLast (Over boxes) (Passed done strip end) strip.left b e' m y
    longer_rows y =
        in_rows (λ z. IsLast (Over boxes) (Passed done strip end) strip.left b e' m z) row end y
        (λ side. last_kept (Over boxes) done m m strip b b e e' row end y refl (longer.outside y side) (λ x o. o) side (rows y))
        (λ h k. longer_row y h k)

-- the strip was passed up to the row
pub record PassedTo (s : Sweep) (strip : Strip) (row : ℤ) (n : Sweep) : Type 0 where
  pub layer : n.layer ≡ s.layer
  pub above : strip.bottom ≤ℤ row
  pub below : row ≤ℤ strip.top
  pub passed : Passes s strip strip.bottom row n

abbrev pub rows_left : Strip → ℤ → ℕ
rows_left strip row = nat_abs (strip.top -ℤ row)

pub passed_start : (s : Sweep) (strip : Strip) → IsStrip strip → PassedTo s strip strip.bottom s
passed_start s strip h =
    let order : strip.bottom <ℤ strip.top = h.rows.order in
    record { layer = refl; above = omega (arith, ints); below = omega (arith, ints); passed = λ boxes done next k. k }

pub passed_more : (s n k : Sweep) (strip : Strip) (row end : ℤ) → PassedTo s strip row n → k.layer ≡ n.layer → row <ℤ end → end ≤ℤ strip.top → Passes n strip row end k → PassedTo s strip end k
passed_more s n k strip row end p layer more within passes =
    let above : strip.bottom ≤ℤ row = p.above in
    record { layer = layer ∙ p.layer; above = omega (arith, ints); below = within; passed = λ boxes done next h. passes boxes done next (p.passed boxes done next h) }

size_is : (z : ℤ) → pos 0 ≤ℤ z → pos (nat_abs z) ≡ z
size_is (pos n) h = refl
size_is (negsuc n) h = absurd (omega (arith, ints))

pub fewer_rows : (strip : Strip) (row end : ℤ) → row <ℤ end → end ≤ℤ strip.top → rows_left strip end < rows_left strip row
fewer_rows strip row end more within =
    let a : pos (nat_abs (strip.top -ℤ end)) ≡ strip.top -ℤ end = size_is (strip.top -ℤ end) (omega (arith, ints)) in
    let b : pos (nat_abs (strip.top -ℤ row)) ≡ strip.top -ℤ row = size_is (strip.top -ℤ row) (omega (arith, ints)) in
    omega (arith, ints)
