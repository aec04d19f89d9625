-- Points of wires, and the edges between them.
use Rattle.std.proofs.Common.{◌≡◌, ◌⊎◌, inl, inr, ℕ, zero, suc, ◌+◌, ◌^◌, ◌≤◌, Bool, true, false, cond, not, ◌||◌, ◌&&◌, ℤ, pos, negsuc, ◌+ℤ◌, ◌-ℤ◌, ◌*ℤ◌, ◌<ℤ◌, ◌≤ℤ◌, int_lt, List, [], ◌∷◌, ◌++◌, map, flat_map, Option, Some, None, refl, sym, ◌∙◌, ap, subst, append_assoc, arith}
use mir.Syntax.{w64}
use mir.Val.{to_z, of_z}
use Rattle.std.specs.Bool.{Decides}
use Rattle.std.specs.Int.{int_min, int_max}
use Rattle.std.specs.Int.RustNames.{unsigned_abs}
use Rattle.std.specs.List.{list_all}
use Rattle.std.proofs.lemmas.Int.{ints}
use Rattle.std.proofs.lemmas.List.{append-nil}
use Rattle.geom.specs.declared.point.Point.{Point}
use Rattle.geom.specs.CifCommands.{CifScale, point_parts}
use Rattle.geom.specs.CifCodes.{SomeIs, IsTooGreat, part_numbers, outline_distances}
use Rattle.geom.specs.CifShapes.{Segment, Outline, segments_from, segment_outline, wire_segments, wire_outlines, is_zero, is_axis_segment}
use Rattle.geom.specs.CifDrawings.{doubled}
use Rattle.cif_values.specs.Numbers.{AreAlike, StandsFor}
use Rattle.cif_values.specs.Parts.{PartsAt}
use Rattle.cif_codes.specs.declared.bends.Bend.{Bend}
use Rattle.cif_codes.specs.declared.checks.Checks.{Checks}
use Rattle.cif_codes.specs.declared.edges.Edges.{Edges}
use Rattle.cif_codes.specs.declared.wires.Bends.{Bends}
use Rattle.cif_codes.specs.Checks.{Checked}
use Rattle.cif_codes.specs.Corners.{open_sides, last_point}
use Rattle.cif_codes.specs.Bends.{BendAt, SpanStands, EdgesStand, wire_numbers, between_points, IsLast, IsOblique, BendsChecked}
use Rattle.cif_codes.specs.Wires.{IsOddWire}
use Rattle.cif_codes.proofs.Checking.{near_same, word_same, great_word}
use Rattle.cif_codes.proofs.MoveCodes.{flat_map_append, flat_map_push}
use Rattle.cif_codes.proofs.BoxCodes.{lower_alike, upper_alike, same_point}
use Rattle.cif_codes.proofs.PointCodes.{point_numbers, segments_push, all_push, not_and, PointNext}

-- ---- one direction

lt_true : (a b : ℤ) → a <ℤ b → int_lt a b ≡ true
lt_true a b h = grind (arith, ints)

lt_false : (a b : ℤ) → (a <ℤ b → ⊥) → int_lt a b ≡ false
lt_false a b h = by (int_lt a b) refl
  where
    by : (t : Bool) → int_lt a b ≡ t → t ≡ false
    by true e = absurd (h (grind (arith, ints)))
    by false e = refl

twice_lt : (a b : ℤ) → a <ℤ b → (pos 2 *ℤ a) <ℤ (pos 2 *ℤ b)
twice_lt a b h = omega (arith, ints, h)

twice_no_lt : (a b : ℤ) → (a <ℤ b → ⊥) → (pos 2 *ℤ a) <ℤ (pos 2 *ℤ b) → ⊥
twice_no_lt a b h l = h (omega (arith, ints, l))

-- what stands for an edge
abbrev pub StandsEdge : ℕ → ℤ → ℤ → ℤ → ℤ → Type 0
StandsEdge m w c z edge = AreAlike m z edge × ((IsTooGreat w → ⊥) → (IsTooGreat c → ⊥) → edge ≡ z)

pub lower_pair : (m : ℕ) (c w u v edge : ℤ) → edge ≡ pos 2 *ℤ to_z w64 (of_z w64 u) -ℤ to_z w64 (of_z w64 v) → unsigned_abs u ≤ 2 ^ 52 → unsigned_abs v ≤ 2 ^ 52
    → StandsFor m c u → StandsFor m w v → StandsEdge m w c (pos 2 *ℤ c -ℤ w) edge
lower_pair m c w u v edge e h k s t =
    let f : edge ≡ pos 2 *ℤ u -ℤ v =
    e ∙ (ap (λ (z : ℤ). pos 2 *ℤ z -ℤ to_z w64 (of_z w64 v)) (near_same u h) ∙ ap (λ (z : ℤ). pos 2 *ℤ u -ℤ z) (near_same v k)) in
    let P : ℤ → Type 0 = λ z. AreAlike m (pos 2 *ℤ c -ℤ w) z in (
      subst P (sym f) (lower_alike m c w u v s.alike t.alike),
      λ a b. f ∙ (ap (λ (z : ℤ). pos 2 *ℤ z -ℤ v) (s.exact b) ∙ ap (λ (z : ℤ). pos 2 *ℤ c -ℤ z) (t.exact a)),
    )

pub upper_pair : (m : ℕ) (c w u v edge : ℤ) → edge ≡ pos 2 *ℤ to_z w64 (of_z w64 u) +ℤ to_z w64 (of_z w64 v) → unsigned_abs u ≤ 2 ^ 52 → unsigned_abs v ≤ 2 ^ 52
    → StandsFor m c u → StandsFor m w v → StandsEdge m w c (pos 2 *ℤ c +ℤ w) edge
upper_pair m c w u v edge e h k s t =
    let f : edge ≡ pos 2 *ℤ u +ℤ v =
    e ∙ (ap (λ (z : ℤ). pos 2 *ℤ z +ℤ to_z w64 (of_z w64 v)) (near_same u h) ∙ ap (λ (z : ℤ). pos 2 *ℤ u +ℤ z) (near_same v k)) in
    let P : ℤ → Type 0 = λ z. AreAlike m (pos 2 *ℤ c +ℤ w) z in (
      subst P (sym f) (upper_alike m c w u v s.alike t.alike),
      λ a b. f ∙ (ap (λ (z : ℤ). pos 2 *ℤ z +ℤ v) (s.exact b) ∙ ap (λ (z : ℤ). pos 2 *ℤ c +ℤ z) (t.exact a)),
    )

-- the same in machine words
pub edge_word : (m : ℕ) (w c z edge : ℤ) → unsigned_abs edge ≤ 2 ^ 55 → StandsEdge m w c z edge → StandsEdge m w c z (to_z w64 (of_z w64 edge))
edge_word m w c z edge h s =
    let P : ℤ → Type 0 = λ n. AreAlike m z n in (subst P (sym (word_same edge h)) s.0, λ a b. word_same edge h ∙ s.1 a b)

pub span_word : (m w : ℕ) (a b low high : ℤ) → unsigned_abs low ≤ 2 ^ 55 → unsigned_abs high ≤ 2 ^ 55 → SpanStands m w a b low high
    → SpanStands m w a b (to_z w64 (of_z w64 low)) (to_z w64 (of_z w64 high))
span_word m w a b low high h k s =
    let P : ℤ → Type 0 = λ n. SpanStands m w a b n high in
    let Q : ℤ → Type 0 = λ n. SpanStands m w a b (to_z w64 (of_z w64 low)) n in
    subst Q (sym (word_same high k)) (subst P (sym (word_same low h)) s)

-- by which of two coordinates is the lower one
pub span_swapped : (m w : ℕ) (a b low high : ℤ) → b <ℤ a → StandsEdge m (pos w) b (pos 2 *ℤ b -ℤ pos w) low → StandsEdge m (pos w) a (pos 2 *ℤ a +ℤ pos w) high
    → SpanStands m w a b low high
span_swapped m w a b low high l p q =
    let t : int_lt (pos 2 *ℤ b) (pos 2 *ℤ a) ≡ true = lt_true (pos 2 *ℤ b) (pos 2 *ℤ a) (twice_lt b a l) in
    let e : pos 2 *ℤ b -ℤ pos w ≡ int_min (pos 2 *ℤ a) (pos 2 *ℤ b) -ℤ pos w =
    ap (λ (v : Bool). cond v (pos 2 *ℤ b) (pos 2 *ℤ a) -ℤ pos w) (sym t) in
    let f : pos 2 *ℤ a +ℤ pos w ≡ int_max (pos 2 *ℤ a) (pos 2 *ℤ b) +ℤ pos w =
    ap (λ (v : Bool). cond v (pos 2 *ℤ a) (pos 2 *ℤ b) +ℤ pos w) (sym t) in
    let P : ℤ → ℤ → Type 0 = λ z v. AreAlike m z v in
    record {
      low_alike = (let Q : ℤ → Type 0 = λ z. AreAlike m z low in subst Q e p.0);
      high_alike = (let Q : ℤ → Type 0 = λ z. AreAlike m z high in subst Q f q.0);
      exact = λ g h i. (p.1 g i ∙ e, q.1 g h ∙ f);
    }

pub span_ordered : (m w : ℕ) (a b low high : ℤ) → (b <ℤ a → ⊥) → StandsEdge m (pos w) a (pos 2 *ℤ a -ℤ pos w) low → StandsEdge m (pos w) b (pos 2 *ℤ b +ℤ pos w) high
    → SpanStands m w a b low high
span_ordered m w a b low high l p q =
    let t : int_lt (pos 2 *ℤ b) (pos 2 *ℤ a) ≡ false = lt_false (pos 2 *ℤ b) (pos 2 *ℤ a) (twice_no_lt b a l) in
    let e : pos 2 *ℤ a -ℤ pos w ≡ int_min (pos 2 *ℤ a) (pos 2 *ℤ b) -ℤ pos w =
    ap (λ (v : Bool). cond v (pos 2 *ℤ b) (pos 2 *ℤ a) -ℤ pos w) (sym t) in
    let f : pos 2 *ℤ b +ℤ pos w ≡ int_max (pos 2 *ℤ a) (pos 2 *ℤ b) +ℤ pos w =
    ap (λ (v : Bool). cond v (pos 2 *ℤ a) (pos 2 *ℤ b) +ℤ pos w) (sym t) in
    record {
      low_alike = (let Q : ℤ → Type 0 = λ z. AreAlike m z low in subst Q e p.0);
      high_alike = (let Q : ℤ → Type 0 = λ z. AreAlike m z high in subst Q f q.0);
      exact = λ g h i. (p.1 g h ∙ e, q.1 g i ∙ f);
    }

-- both directions
pub edges_by : (m w : ℕ) (p q : Point) (edges : Edges) → SpanStands m w p.x q.x edges.left edges.right → SpanStands m w p.y q.y edges.bottom edges.top
    → EdgesStand m (pos w ∷ p.x ∷ p.y ∷ q.x ∷ q.y ∷ []) (segment_outline w (record { start = doubled p; stop = doubled q })) edges
edges_by m w p q edges a b = record {
  left = a.low_alike;
  bottom = b.low_alike;
  right = a.high_alike;
  top = b.high_alike;
  exact = λ none. (
      let f = a.exact (λ g. none (inl g)) (λ g. none (inr (inl g))) (λ g. none (inr (inr (inr (inl g))))) in
      let h = b.exact (λ g. none (inl g)) (λ g. none (inr (inr (inl g)))) (λ g. none (inr (inr (inr (inr (inl g)))))) in
      (f.0, h.0, f.1, h.1));
}

pub edges_weaken : (m : ℕ) (xs ys : List ℤ) (o : Outline) (edges : Edges) → EdgesStand m xs o edges → (SomeIs IsTooGreat xs → SomeIs IsTooGreat ys) → EdgesStand m ys o edges
edges_weaken m xs ys o edges h f =
    record { left = h.left; bottom = h.bottom; right = h.right; top = h.top; exact = λ none. h.exact (λ g. none (f g)) }

-- ---- one point more

some_left : (xs ys : List ℤ) → SomeIs IsTooGreat xs → SomeIs IsTooGreat (xs ++ ys)
some_left [] ys h = absurd h
some_left (x ∷ xs) ys (inl h) = inl h
some_left (x ∷ xs) ys (inr h) = inr (some_left xs ys h)

some_right : (xs ys : List ℤ) → SomeIs IsTooGreat ys → SomeIs IsTooGreat (xs ++ ys)
some_right [] ys h = h
some_right (x ∷ xs) ys h = inr (some_right xs ys h)

-- the numbers of one point
abbrev numbers_of : Point → List ℤ
numbers_of p = p.x ∷ p.y ∷ []

numbers_push : (points : List Point) (p : Point) → point_numbers (points ++ p ∷ []) ≡ point_numbers points ++ numbers_of p
numbers_push points p = ap (flat_map part_numbers) (flat_map_push point_parts points p) ∙ flat_map_append part_numbers (flat_map point_parts points) (point_parts p)

pub wire_numbers_push : (w : ℕ) (points : List Point) (p : Point) → wire_numbers w (points ++ p ∷ []) ≡ (wire_numbers w points ++ p.x ∷ []) ++ p.y ∷ []
wire_numbers_push w points p = ap (λ (l : List ℤ). pos w ∷ l) (numbers_push points p ∙ sym (append_assoc (point_numbers points) (p.x ∷ []) (p.y ∷ [])))

last_numbers : (a : Point) (points : List Point) → SomeIs IsTooGreat (numbers_of (last_point a points)) → SomeIs IsTooGreat (point_numbers (a ∷ points))
last_numbers a [] h = h
last_numbers a (b ∷ points) h = inr (inr (last_numbers b points h))

-- of a wire with one point more, the width, the last point and the new one
ends_great : (w : ℕ) (a : Point) (points : List Point) (q : Point)
    → SomeIs IsTooGreat (pos w ∷ (last_point a points).x ∷ (last_point a points).y ∷ q.x ∷ q.y ∷ []) → SomeIs IsTooGreat (wire_numbers w ((a ∷ points) ++ q ∷ []))
ends_great w a points q h =
    let P : List ℤ → Type 0 = λ l. SomeIs IsTooGreat (pos w ∷ l) in
    subst P (sym (numbers_push (a ∷ points) q)) (by h)
  where
    old : SomeIs IsTooGreat (numbers_of (last_point a points)) → SomeIs IsTooGreat (pos w ∷ (point_numbers (a ∷ points) ++ numbers_of q))
    old h = inr (some_left (point_numbers (a ∷ points)) (numbers_of q) (last_numbers a points h))

    by : SomeIs IsTooGreat (pos w ∷ (last_point a points).x ∷ (last_point a points).y ∷ q.x ∷ q.y ∷ []) → SomeIs IsTooGreat (pos w ∷ (point_numbers (a ∷ points) ++ numbers_of q))
    by (inl h) = inl h
    by (inr (inl h)) = old (inl h)
    by (inr (inr (inl h))) = old (inr (inl h))
    by (inr (inr (inr h))) = inr (some_right (point_numbers (a ∷ points)) (numbers_of q) h)

front_great : (w : ℕ) (points : List Point) (q : Point) → SomeIs IsTooGreat (wire_numbers w points) → SomeIs IsTooGreat (wire_numbers w (points ++ q ∷ []))
front_great w points q h =
    let P : List ℤ → Type 0 = λ l. SomeIs IsTooGreat (pos w ∷ l) in
    subst P (sym (numbers_push points q)) (by h)
  where
    by : SomeIs IsTooGreat (wire_numbers w points) → SomeIs IsTooGreat (pos w ∷ (point_numbers points ++ numbers_of q))
    by (inl h) = inl h
    by (inr h) = inr (some_left (point_numbers points) (numbers_of q) h)

map_push : {X Y : Type 0} (f : X → Y) (xs : List X) (x : X) → map f (xs ++ x ∷ []) ≡ map f xs ++ f x ∷ []
map_push f [] x = refl
map_push f (y ∷ ys) x = ap (λ l. f y ∷ l) (map_push f ys x)

last_doubled : (a : Point) (points : List Point) → last_point (doubled a) (map doubled points) ≡ doubled (last_point a points)
last_doubled a [] = refl
last_doubled a (b ∷ points) = last_doubled b points

-- the segment to one more point
abbrev pub segment_to : Point → Point → Segment
segment_to p q = record { start = p; stop = q }

between_push : (w : ℕ) (a : Point) (points : List Point) (q : Point)
    → between_points w ((a ∷ points) ++ q ∷ [])
    ≡ between_points w (a ∷ points) ++ outline_distances (segment_outline w (segment_to (doubled (last_point a points)) (doubled q)))
between_push w a points q =
    let sides : open_sides (map doubled ((a ∷ points) ++ q ∷ []))
    ≡ segments_from (doubled a) (map doubled points) ++ segment_to (doubled (last_point a points)) (doubled q) ∷ [] =
    ap (segments_from (doubled a)) (map_push doubled points q)
    ∙ (segments_push (doubled a) (map doubled points) (doubled q)
    ∙ ap (λ (p : Point). segments_from (doubled a) (map doubled points) ++ segment_to p (doubled q) ∷ []) (last_doubled a points)) in
    ap (λ (l : List Segment). flat_map outline_distances (map (segment_outline w) l)) sides
    ∙ (ap (flat_map outline_distances) (map_push (segment_outline w) (segments_from (doubled a) (map doubled points)) (segment_to (doubled (last_point a points)) (doubled q)))
    ∙ flat_map_push outline_distances (map (segment_outline w) (segments_from (doubled a) (map doubled points))) (segment_outline w (segment_to (doubled (last_point a points)) (doubled q))))

-- where no number is too great, the points share a coordinate as those that stand for them
exact_point : (text : List ℕ) (m : ℕ) (p : Point) (bend : Bend) → BendAt text m p bend → (IsTooGreat p.x → ⊥) → (IsTooGreat p.y → ⊥)
    → record { x = bend.x.value; y = bend.y.value } ≡ p
exact_point text m p bend h a b = same_point (record { x = bend.x.value; y = bend.y.value }) p (h.0.stands.exact a) (h.1.stands.exact b)

pub joined_last : (text : List ℕ) (m : ℕ) (scale : CifScale) (w : ℕ) (points : List Point) (q : Point) (last bend : Bend) (oblique straight : Bool) (edges : Edges) (next : Checks)
    → IsLast text m points (Some last) → IsOblique w points oblique → BendAt text m q bend
    → straight ≡ is_axis_segment (segment_to (record { x = last.x.value; y = last.y.value }) (record { x = bend.x.value; y = bend.y.value }))
    → ((p : Point) → BendAt text m p last
    → EdgesStand m (pos w ∷ p.x ∷ p.y ∷ q.x ∷ q.y ∷ []) (segment_outline w (segment_to (doubled p) (doubled q))) edges)
    → ((o : Outline) → EdgesStand m (wire_numbers w (points ++ q ∷ [])) o edges
    → Checked scale (wire_numbers w (points ++ q ∷ [])) (between_points w points ++ outline_distances o) next)
    → Checked scale (wire_numbers w (points ++ q ∷ [])) (between_points w (points ++ q ∷ [])) next × IsOblique w (points ++ q ∷ []) (oblique || not straight)
joined_last text m scale w [] q last bend oblique straight edges next h o b s e n = absurd h
joined_last text m scale w (a ∷ points) q last bend oblique straight edges next h o b s e n =
    let p : Point = last_point a points in
    let numbers : List ℤ = wire_numbers w ((a ∷ points) ++ q ∷ []) in
    let outline : Outline = segment_outline w (segment_to (doubled p) (doubled q)) in
    let stand : EdgesStand m numbers outline edges =
    edges_weaken m (pos w ∷ p.x ∷ p.y ∷ q.x ∷ q.y ∷ []) numbers outline edges (e p h) (ends_great w a points q) in
    let P : List ℤ → Type 0 = λ l. Checked scale numbers l next in
    (subst P (sym (between_push w a points q)) (n outline stand), λ none. tilted none)
  where
    tilted : (SomeIs IsTooGreat (wire_numbers w ((a ∷ points) ++ q ∷ [])) → ⊥)
        → (oblique || not straight) ≡ not (list_all is_axis_segment (segments_from a (points ++ q ∷ [])))
    tilted none =
        let p : Point = last_point a points in
        let no : SomeIs IsTooGreat (pos w ∷ p.x ∷ p.y ∷ q.x ∷ q.y ∷ []) → ⊥ = λ g. none (ends_great w a points q g) in
        let f = exact_point text m p last h (λ g. no (inr (inl g))) (λ g. no (inr (inr (inl g)))) in
        let g = exact_point text m q bend b (λ k. no (inr (inr (inr (inl k))))) (λ k. no (inr (inr (inr (inr (inl k)))))) in
        let i : straight ≡ is_axis_segment (segment_to p q) =
        s
        ∙ (ap (λ (r : Point). is_axis_segment (segment_to r (record { x = bend.x.value; y = bend.y.value }))) f
        ∙ ap (λ (r : Point). is_axis_segment (segment_to p r)) g) in
        let j : oblique ≡ not (list_all is_axis_segment (segments_from a points)) = o (λ k. none (front_great w (a ∷ points) q k)) in
        ap (λ (v : Bool). v || not straight) j
        ∙ (ap (λ (v : Bool). not (list_all is_axis_segment (segments_from a points)) || not v) i
        ∙ (sym (not_and (list_all is_axis_segment (segments_from a points)) (is_axis_segment (segment_to p q)))
        ∙ ap not (sym (all_push is_axis_segment (segments_from a points) (segment_to p q)) ∙ ap (list_all is_axis_segment) (sym (segments_push a points q)))))

pub joined_first : (text : List ℕ) (m : ℕ) (scale : CifScale) (w : ℕ) (points : List Point) (q : Point) (oblique : Bool) (next : Checks) → IsLast text m points None
    → IsOblique w points oblique → Checked scale (wire_numbers w (points ++ q ∷ [])) (between_points w points) next
    → Checked scale (wire_numbers w (points ++ q ∷ [])) (between_points w (points ++ q ∷ [])) next × IsOblique w (points ++ q ∷ []) oblique
joined_first text m scale w [] q oblique next h o k = (k, λ none. o (λ g. none (front_great w [] q g)))
joined_first text m scale w (a ∷ points) q oblique next h o k = absurd h

-- ---- the last point

pub last_push : (text : List ℕ) (m : ℕ) (points : List Point) (q : Point) (bend : Bend) → BendAt text m q bend → IsLast text m (points ++ q ∷ []) (Some bend)
last_push text m [] q bend h = h
last_push text m (a ∷ points) q bend h = let P : Point → Type 0 = λ p. BendAt text m p bend in subst P (sym (by a points)) h
  where
    by : (a : Point) (points : List Point) → last_point a (points ++ q ∷ []) ≡ q
    by a [] = refl
    by a (b ∷ points) = by b points

-- one point is a segment to itself
pub single_outlines : (w : ℕ) (p : Point) → flat_map outline_distances (wire_outlines w (map doubled (p ∷ [])))
    ≡ [] ++ outline_distances (segment_outline w (segment_to (doubled p) (doubled p)))
single_outlines w p = refl

pub more_outlines : (w : ℕ) (p q : Point) (points : List Point) → flat_map outline_distances (wire_outlines w (map doubled (p ∷ q ∷ points))) ≡ between_points w (p ∷ q ∷ points)
more_outlines w p q points = refl

zero_self : (z : ℤ) → is_zero (z -ℤ z) ≡ true
zero_self z = let e : z -ℤ z ≡ pos 0 = omega (arith, ints) in ap is_zero e

-- segments of a wire, and those from each point to the next
pub straight_same : (points : List Point) → list_all is_axis_segment (wire_segments points) ≡ list_all is_axis_segment (open_sides points)
straight_same [] = refl
straight_same (p ∷ []) = ap (λ (v : Bool). (v || is_zero (p.y -ℤ p.y)) && true) (zero_self p.x)
straight_same (p ∷ q ∷ points) = refl

-- ---- all points

pub closed_single : (text : List ℕ) (m : ℕ) (scale : CifScale) (w : ℕ) (points : List Point) (last : Bend) (bends : Bends) (edges : Edges) (next : Checks)
    → (h : BendsChecked text m scale w points bends) → IsLast text m points (Some last) → bends.count ≡ 1
    → ((p : Point) → BendAt text m p last
    → EdgesStand m (pos w ∷ p.x ∷ p.y ∷ p.x ∷ p.y ∷ []) (segment_outline w (segment_to (doubled p) (doubled p))) edges)
    → ((o : Outline) → EdgesStand m (wire_numbers w points) o edges → Checked scale (wire_numbers w points) (between_points w points ++ outline_distances o) next)
    → Checked scale (wire_numbers w points) (flat_map outline_distances (wire_outlines w (map doubled points))) next
closed_single text m scale w [] last bends edges next h l c e n = absurd l
closed_single text m scale w (p ∷ []) last bends edges next h l c e n =
    n (segment_outline w (segment_to (doubled p) (doubled p)))
    (edges_weaken m (pos w ∷ p.x ∷ p.y ∷ p.x ∷ p.y ∷ []) (wire_numbers w (p ∷ [])) (segment_outline w (segment_to (doubled p) (doubled p))) edges (e p l) twice)
  where
    twice : SomeIs IsTooGreat (pos w ∷ p.x ∷ p.y ∷ p.x ∷ p.y ∷ []) → SomeIs IsTooGreat (wire_numbers w (p ∷ []))
    twice (inl h) = inl h
    twice (inr (inl h)) = inr (inl h)
    twice (inr (inr (inl h))) = inr (inr (inl h))
    twice (inr (inr (inr h))) = inr h
closed_single text m scale w (p ∷ q ∷ points) last bends edges next h l c e n = absurd (let k = h.count in omega (arith, k, c))

pub closed_more : (text : List ℕ) (m : ℕ) (scale : CifScale) (w : ℕ) (points : List Point) (last : Bend) (bends : Bends) → (h : BendsChecked text m scale w points bends)
    → IsLast text m points (Some last) → (bends.count ≡ 1 → ⊥) → Checked scale (wire_numbers w points) (flat_map outline_distances (wire_outlines w (map doubled points))) bends.checks
closed_more text m scale w [] last bends h l c = absurd l
closed_more text m scale w (p ∷ []) last bends h l c = absurd (c h.count)
closed_more text m scale w (p ∷ q ∷ points) last bends h l c = h.checked

pub closed_none : (text : List ℕ) (m : ℕ) (scale : CifScale) (w : ℕ) (points : List Point) (bends : Bends) → (h : BendsChecked text m scale w points bends)
    → IsLast text m points None → Checked scale (wire_numbers w points) (flat_map outline_distances (wire_outlines w (map doubled points))) bends.checks
closed_none text m scale w [] bends h l = h.checked
closed_none text m scale w (p ∷ points) bends h l = absurd l

-- ---- the loop

pub record BendsUpTo (text : List ℕ) (m : ℕ) (scale : CifScale) (w stop : ℕ) (points : List Point) (from : ℕ) (bends : Bends) : Type 0 where
  pub done : List Point
  pub rest : List Point
  pub is : points ≡ done ++ rest
  pub parts : PartsAt text from stop (flat_map point_parts rest)
  pub checked : BendsChecked text m scale w done bends

pub bends_more : (text : List ℕ) (m : ℕ) (scale : CifScale) (w stop : ℕ) (points : List Point) (from next : ℕ) (found more : Bends)
    → (u : BendsUpTo text m scale w stop points from found) → (n : PointNext u.rest text from stop) → PartsAt text next stop (flat_map point_parts n.rest)
    → BendsChecked text m scale w (u.done ++ n.point ∷ []) more → BendsUpTo text m scale w stop points next more
bends_more text m scale w stop points from next found more u n p c = record {
  done = u.done ++ n.point ∷ [];
  rest = n.rest;
  is = u.is ∙ (ap (λ (l : List Point). u.done ++ l) n.is ∙ sym (append_assoc u.done (n.point ∷ []) n.rest));
  parts = p;
  checked = c;
}

pub bends_end : (text : List ℕ) (m : ℕ) (scale : CifScale) (w stop : ℕ) (points : List Point) (from : ℕ) (found : Bends)
    → (u : BendsUpTo text m scale w stop points from found) → u.rest ≡ [] → BendsChecked text m scale w points found
bends_end text m scale w stop points from found u e =
    let P : List Point → Type 0 = λ l. BendsChecked text m scale w l found in
    subst P (sym (u.is ∙ (ap (λ (l : List Point). u.done ++ l) e ∙ append-nil u.done))) u.checked

pub bends_begin : (text : List ℕ) (m : ℕ) (scale : CifScale) (w stop : ℕ) (points : List Point) (from : ℕ) (c : Checks) → Checked scale (pos w ∷ []) [] c
    → PartsAt text from stop (flat_map point_parts points)
    → BendsUpTo text m scale w stop points from (record { checks = c; count = 0; last = None; oblique = false })
bends_begin text m scale w stop points from c h p =
    record { done = []; rest = points; is = refl; parts = p; checked = record { checked = h; count = refl; last = tt; oblique = λ none. refl } }

-- ---- the least code

odd_decides : (a b : Bool) (P : Type 0) → Decides a P → Decides (a || b) (P ⊎ (not b ≡ false))
odd_decides true b P d = (λ e. inl (d.0 refl), λ h. refl)
odd_decides false true P d = (λ e. inr refl, λ h. refl)
odd_decides false false P d = (λ e. absurd cc, λ h. elim h [ inl k ↦ d.1 k | inr k ↦ absurd cc ])

not_not : (t : Bool) → not (not t) ≡ t
not_not true = refl
not_not false = refl

pub wire_odd : (w : ℕ) (points : List Point) (narrow oblique : Bool) → Decides narrow (w ≡ 0) → oblique ≡ not (list_all is_axis_segment (open_sides points))
    → Decides (narrow || oblique) (IsOddWire w points)
wire_odd w points narrow oblique d o =
    let P : Bool → Type 0 = λ v. Decides (narrow || oblique) ((w ≡ 0) ⊎ (v ≡ false)) in
    subst P (ap not o ∙ (not_not (list_all is_axis_segment (open_sides points)) ∙ sym (straight_same points))) (odd_decides narrow oblique (w ≡ 0) d)

-- ---- edges in machine words

pub alike_word : (m : ℕ) (z v : ℤ) → unsigned_abs v ≤ 2 ^ 55 → AreAlike m z v → AreAlike m z (to_z w64 (of_z w64 v))
alike_word m z v h a = let P : ℤ → Type 0 = λ n. AreAlike m z n in subst P (sym (word_same v h)) a

pub same_word : (z v : ℤ) → unsigned_abs v ≤ 2 ^ 55 → v ≡ z → to_z w64 (of_z w64 v) ≡ z
same_word z v h e = word_same v h ∙ e

-- ---- order

pub either_false : (a b : Bool) → (a || b) ≡ false → (a ≡ false) × (b ≡ false)
either_false true b e = absurd cc
either_false false b e = (refl, e)

-- a number is not too great where what stands for it is not
pub no_great : (m : ℕ) (z v : ℤ) (t : Bool) → StandsFor m z v → Decides t (IsTooGreat (to_z w64 (of_z w64 v))) → t ≡ false → IsTooGreat z → ⊥
no_great m z v t s d e g = let y : true ≡ false = sym ((great_word m z v t s d).1 (s.great g)) ∙ e in cc

pub near_lt : (m : ℕ) (a b u v : ℤ) → unsigned_abs u ≤ 2 ^ 52 → unsigned_abs v ≤ 2 ^ 52 → StandsFor m a u → StandsFor m b v → (IsTooGreat a → ⊥) → (IsTooGreat b → ⊥)
    → Decides (int_lt (to_z w64 (of_z w64 u)) (to_z w64 (of_z w64 v))) (a <ℤ b)
near_lt m a b u v h k s t g i =
    let e : to_z w64 (of_z w64 u) ≡ a = near_same u h ∙ s.exact g in
    let f : to_z w64 (of_z w64 v) ≡ b = near_same v k ∙ t.exact i in
    let P : ℤ → Type 0 = λ n. Decides (int_lt n (to_z w64 (of_z w64 v))) (a <ℤ b) in
    let Q : ℤ → Type 0 = λ n. Decides (int_lt a n) (a <ℤ b) in
    subst P (sym e) (subst Q (sym f) (λ d. grind (arith, ints), λ l. lt_true a b l))

pub zero_word : (u v : ℤ) → unsigned_abs u ≤ 2 ^ 52 → unsigned_abs v ≤ 2 ^ 52 → is_zero (to_z w64 (of_z w64 u) -ℤ to_z w64 (of_z w64 v)) ≡ is_zero (u -ℤ v)
zero_word u v h k = ap (λ (z : ℤ). is_zero (z -ℤ to_z w64 (of_z w64 v))) (near_same u h) ∙ ap (λ (z : ℤ). is_zero (u -ℤ z)) (near_same v k)
