-- Edges go through a block without a node: one alone, or two that cross.
use Rattle.std.proofs.Common.{◌≡◌, ◌≢◌, ℕ, zero, suc, ◌+◌, ◌<◌, ◌≤◌, ◌⊎◌, inl, inr, Bool, true, false, ◌||◌, nat_lt, cond, is_some, Option, Some, None, List, [], ◌∷◌, length, get_or, refl, sym, ap, subst, ◌∙◌, arith}
use Rattle.std.specs.List.{find, list_any}
use Rattle.block_grid.specs.Sheets.{DrawnEdge, Sheet, north_of, south_of, west_of, east_of, sides_of, node_on, wire_kind, block_at, GoesThrough, AreClear, IsSheet}
use Rattle.block_grid.specs.Bundles.{edge_north, edge_west, GoOn, BundlesGoOn}
use Rattle.block_grid.specs.Bundles.GoOn.{nothing, level, upright, across, north_east, north_west, south_east, south_west}
use Rattle.block_grid.proofs.BundleEdges.{IsOne, same_or_clear, one_north, one_west, found_north, found_west, crosses_north, crosses_west}

any_found : {A : Type 0} (p : A → Bool) (xs : List A) → list_any p xs ≡ is_some (find p xs)
any_found p [] = refl
any_found {A} p (x ∷ xs) = rw (any_found p xs) (by (p x))
  where
    by : (b : Bool) → (b || is_some (find p xs)) ≡ is_some (cond b (Some x) (find p xs))
    by true = refl
    by false = refl

-- two of the four borders, each once
data Way (n s w e : ℕ) : Type 0 where
  along : n ≡ 1 → s ≡ 1 → w ≡ 0 → e ≡ 0 → Way n s w e
  flat : n ≡ 0 → s ≡ 0 → w ≡ 1 → e ≡ 1 → Way n s w e
  ne : n ≡ 1 → s ≡ 0 → w ≡ 0 → e ≡ 1 → Way n s w e
  nw : n ≡ 1 → s ≡ 0 → w ≡ 1 → e ≡ 0 → Way n s w e
  se : n ≡ 0 → s ≡ 1 → w ≡ 0 → e ≡ 1 → Way n s w e
  sw : n ≡ 0 → s ≡ 1 → w ≡ 1 → e ≡ 0 → Way n s w e

bit : (n : ℕ) → n ≤ 1 → (n ≡ 0) ⊎ (n ≡ 1)
bit zero h = inl refl
bit (suc n) h = inr (omega arith)

way : (n s w e : ℕ) → n ≤ 1 → s ≤ 1 → w ≤ 1 → e ≤ 1 → n + s + w + e ≡ 2 → Way n s w e
way n s w e a b c d two = elim (bit n a) as (λ _. Way n s w e) [
  | inl n0 ↦ elim (bit s b) as (λ _. Way n s w e) [
    | inl s0 ↦ flat n0 s0 (omega arith) (omega arith)
    | inr s1 ↦ elim (bit w c) as (λ _. Way n s w e) [
      | inl w0 ↦ se n0 s1 w0 (omega arith)
      | inr w1 ↦ sw n0 s1 w1 (omega arith)
    ]
  ]
  | inr n1 ↦ elim (bit s b) as (λ _. Way n s w e) [
    | inl s0 ↦ elim (bit w c) as (λ _. Way n s w e) [
      | inl w0 ↦ ne n1 s0 w0 (omega arith)
      | inr w1 ↦ nw n1 s0 w1 (omega arith)
    ]
    | inr s1 ↦ along n1 s1 (omega arith) (omega arith)
  ]
]

is_value : {A : Type 0} (o : Option A) (x y : A) → o ≡ Some x → o ≡ Some y → x ≡ y
is_value o x y e f = cc

no_value : {A : Type 0} (o : Option A) (x : A) → o ≡ None → o ≡ Some x → ⊥
no_value o x e f = cc

module _ (s : Sheet) (sheet : IsSheet s) (r c : ℕ) (free : node_on s.nodes r c ≡ None) where
  abbrev on_north : Option DrawnEdge
  on_north = edge_north s r c

  abbrev on_south : Option DrawnEdge
  on_south = edge_north s (r + 1) c

  abbrev on_west : Option DrawnEdge
  on_west = edge_west s r c

  abbrev on_east : Option DrawnEdge
  on_east = edge_west s r (c + 1)

  through : (f : DrawnEdge) → IsOne s f → GoesThrough f r c
  through f a = subst (λ x. GoesThrough x r c) (a.at f) ((sheet.drawn a.k f a.lt).passes r c free)

  abbrev WayOf : DrawnEdge → Type 0
  WayOf f = Way (north_of f r c) (south_of f r c) (west_of f r c) (east_of f r c)

  way_of : (f : DrawnEdge) → IsOne s f → 0 < sides_of f r c → WayOf f
  way_of f a some =
      let t = through f a in
      way (north_of f r c) (south_of f r c) (west_of f r c) (east_of f r c) t.north t.south t.west t.east (t.leaves some)

  -- an edge that turns at the place is alone there
  alone : (f g : DrawnEdge) → IsOne s f → IsOne s g → (north_of f r c ≡ south_of f r c → ⊥) → 0 < sides_of f r c → 0 < sides_of g r c → f ≡ g
  alone f g a b turns here too =
      let tf = through f a in
      let tg = through g b in
      let two : sides_of f r c ≡ 2 = tf.leaves here in
      let four : sides_of g r c ≡ 2 = tg.leaves too in
      let fn = tf.north in
      let fs = tf.south in
      elim (same_or_clear s sheet f g a b) as (λ _. f ≡ g) [
        | inl same ↦ same
        | inr other ↦ elim other as (λ _. f ≡ g) [
          | inl x ↦ absurd (turns (x.crossing r c (omega arith) (omega arith)))
          | inr y ↦
              let straight : north_of g r c ≡ south_of g r c = y.crossing r c (omega arith) (omega arith) in
              elim (way_of g b too) as (λ _. f ≡ g) [
                | along n1 s1 w0 e0 ↦
                    let no_n : north_of f r c ≡ 0 = y.north r c (omega arith) in
                    let no_s : south_of f r c ≡ 0 = y.north (r + 1) c (omega arith) in
                    absurd (turns (no_n ∙ sym no_s))
                | flat n0 s0 w1 e1 ↦
                    let no_w : west_of f r c ≡ 0 = y.west r c (omega arith) in
                    let no_e : east_of f r c ≡ 0 = y.west r (c + 1) (omega arith) in
                    absurd (turns (omega arith))
                | ne n1 s0 w0 e1 ↦ absurd (omega arith)
                | nw n1 s0 w1 e0 ↦ absurd (omega arith)
                | se n0 s1 w0 e1 ↦ absurd (omega arith)
                | sw n0 s1 w1 e0 ↦ absurd (omega arith)
              ]
        ]
      ]

  -- the edge found at a border
  at_north : (f : DrawnEdge) → on_north ≡ Some f → IsOne s f × (0 < north_of f r c)
  at_north f e = crosses_north s r c f e

  at_south : (f : DrawnEdge) → on_south ≡ Some f → IsOne s f × (0 < south_of f r c)
  at_south f e = crosses_north s (r + 1) c f e

  at_west : (f : DrawnEdge) → on_west ≡ Some f → IsOne s f × (0 < west_of f r c)
  at_west f e = crosses_west s r c f e

  at_east : (f : DrawnEdge) → on_east ≡ Some f → IsOne s f × (0 < east_of f r c)
  at_east f e = crosses_west s r (c + 1) f e

  to_north : (f : DrawnEdge) → IsOne s f → 0 < north_of f r c → on_north ≡ Some f
  to_north f a h = found_north s sheet f a r c h

  to_south : (f : DrawnEdge) → IsOne s f → 0 < south_of f r c → on_south ≡ Some f
  to_south f a h = found_north s sheet f a (r + 1) c h

  to_west : (f : DrawnEdge) → IsOne s f → 0 < west_of f r c → on_west ≡ Some f
  to_west f a h = found_west s sheet f a r c h

  to_east : (f : DrawnEdge) → IsOne s f → 0 < east_of f r c → on_east ≡ Some f
  to_east f a h = found_west s sheet f a r (c + 1) h

  -- where an edge turns, no border is crossed but its own two
  none_south : (f : DrawnEdge) → IsOne s f → (north_of f r c ≡ south_of f r c → ⊥) → south_of f r c ≡ 0 → 0 < sides_of f r c
      → (o : Option DrawnEdge) → on_south ≡ o → o ≡ None
  none_south f a turns off here None e = refl
  none_south f a turns off here (Some g) e =
      let own = at_south g e in
      let there : 0 < south_of g r c = own.1 in
      let same : f ≡ g = alone f g a own.0 turns here (omega arith) in
      let off_g : south_of g r c ≡ 0 = subst (λ x. south_of x r c ≡ 0) same off in
      absurd (omega arith)

  none_west : (f : DrawnEdge) → IsOne s f → (north_of f r c ≡ south_of f r c → ⊥) → west_of f r c ≡ 0 → 0 < sides_of f r c
      → (o : Option DrawnEdge) → on_west ≡ o → o ≡ None
  none_west f a turns off here None e = refl
  none_west f a turns off here (Some g) e =
      let own = at_west g e in
      let there : 0 < west_of g r c = own.1 in
      let same : f ≡ g = alone f g a own.0 turns here (omega arith) in
      let off_g : west_of g r c ≡ 0 = subst (λ x. west_of x r c ≡ 0) same off in
      absurd (omega arith)

  none_east : (f : DrawnEdge) → IsOne s f → (north_of f r c ≡ south_of f r c → ⊥) → east_of f r c ≡ 0 → 0 < sides_of f r c
      → (o : Option DrawnEdge) → on_east ≡ o → o ≡ None
  none_east f a turns off here None e = refl
  none_east f a turns off here (Some g) e =
      let own = at_east g e in
      let there : 0 < east_of g r c = own.1 in
      let same : f ≡ g = alone f g a own.0 turns here (omega arith) in
      let off_g : east_of g r c ≡ 0 = subst (λ x. east_of x r c ≡ 0) same off in
      absurd (omega arith)

  abbrev Goal : Option DrawnEdge → Option DrawnEdge → Option DrawnEdge → Option DrawnEdge → Type 0
  Goal n t w e = GoOn (wire_kind (is_some n) (is_some t) (is_some w) (is_some e)) n t w e

  -- an edge that comes from the west, at a place that another one passes from north to south, leaves to the east
  level_beside : (f h : DrawnEdge) → IsOne s h → on_north ≡ Some f → on_south ≡ Some f → west_of f r c ≡ 0 → 0 < west_of h r c
      → (f ≢ h) × (on_east ≡ Some h)
  level_beside f h b north south off here =
      let differ : f ≢ h = λ same. let z : west_of h r c ≡ 0 = subst (λ x. west_of x r c ≡ 0) same off in omega arith in
      elim (way_of h b (omega arith)) as (λ _. (f ≢ h) × (on_east ≡ Some h)) [
        | along n1 s1 w0 e0 ↦ absurd (omega arith)
        | flat n0 s0 w1 e1 ↦ (differ, to_east h b (omega arith))
        | ne n1 s0 w0 e1 ↦ absurd (omega arith)
        | nw n1 s0 w1 e0 ↦ absurd (differ (is_value on_north f h north (to_north h b (omega arith))))
        | se n0 s1 w0 e1 ↦ absurd (omega arith)
        | sw n0 s1 w1 e0 ↦ absurd (differ (is_value on_south f h south (to_south h b (omega arith))))
      ]

  -- no edge comes from the east alone beside one that passes from north to south
  none_beside : (f h : DrawnEdge) → IsOne s h → on_north ≡ Some f → on_south ≡ Some f → on_west ≡ None → east_of f r c ≡ 0 → 0 < east_of h r c → ⊥
  none_beside f h b north south west off here =
      let differ : f ≢ h = λ same. let z : east_of h r c ≡ 0 = subst (λ x. east_of x r c ≡ 0) same off in omega arith in
      elim (way_of h b (omega arith)) as (λ _. ⊥) [
        | along n1 s1 w0 e0 ↦ omega arith
        | flat n0 s0 w1 e1 ↦ no_value on_west h west (to_west h b (omega arith))
        | ne n1 s0 w0 e1 ↦ differ (is_value on_north f h north (to_north h b (omega arith)))
        | nw n1 s0 w1 e0 ↦ omega arith
        | se n0 s1 w0 e1 ↦ differ (is_value on_south f h south (to_south h b (omega arith)))
        | sw n0 s1 w1 e0 ↦ omega arith
      ]

  -- what the other two borders have, where an edge passes from north to south
  beside : (f : DrawnEdge) → on_north ≡ Some f → on_south ≡ Some f → west_of f r c ≡ 0 → east_of f r c ≡ 0
      → (w e : Option DrawnEdge) → on_west ≡ w → on_east ≡ e → Goal (Some f) (Some f) w e
  beside f north south off off_e None None hw he = upright f
  beside f north south off off_e None (Some h) hw he =
      let own = at_east h he in
      absurd (none_beside f h own.0 north south hw off_e own.1)
  beside f north south off off_e (Some h) e hw he =
      let own = at_west h hw in
      let k = level_beside f h own.0 north south off own.1 in
      let east : Some h ≡ e = sym k.1 ∙ he in
      subst (Goal (Some f) (Some f) (Some h)) east (across f h k.0)

  from_north : (f : DrawnEdge) (t w e : Option DrawnEdge) → on_north ≡ Some f → on_south ≡ t → on_west ≡ w → on_east ≡ e → Goal (Some f) t w e
  from_north f t w e hn ht hw he =
      let own = at_north f hn in
      let here : 0 < north_of f r c = own.1 in
      let some : 0 < sides_of f r c = omega arith in
      let a = own.0 in
      elim (way_of f a some) as (λ _. Goal (Some f) t w e) [
        | along n1 s1 w0 e0 ↦
            let south : on_south ≡ Some f = to_south f a (omega arith) in
            let t_is : Some f ≡ t = sym south ∙ ht in
            subst (λ x. Goal (Some f) x w e) t_is (beside f hn south w0 e0 w e hw he)
        | flat n0 s0 w1 e1 ↦ absurd (omega arith)
        | ne n1 s0 w0 e1 ↦
            let t_is : None ≡ t = sym (none_south f a (λ same. omega arith) s0 some t ht) in
            let w_is : None ≡ w = sym (none_west f a (λ same. omega arith) w0 some w hw) in
            let e_is : Some f ≡ e = sym (to_east f a (omega arith)) ∙ he in
            subst (λ x. Goal (Some f) x w e) t_is (subst (λ x. Goal (Some f) None x e) w_is (subst (Goal (Some f) None None) e_is (north_east f)))
        | nw n1 s0 w1 e0 ↦
            let t_is : None ≡ t = sym (none_south f a (λ same. omega arith) s0 some t ht) in
            let w_is : Some f ≡ w = sym (to_west f a (omega arith)) ∙ hw in
            let e_is : None ≡ e = sym (none_east f a (λ same. omega arith) e0 some e he) in
            subst (λ x. Goal (Some f) x w e) t_is (subst (λ x. Goal (Some f) None x e) w_is (subst (Goal (Some f) None (Some f)) e_is (north_west f)))
        | se n0 s1 w0 e1 ↦ absurd (omega arith)
        | sw n0 s1 w1 e0 ↦ absurd (omega arith)
      ]

  from_south : (f : DrawnEdge) (w e : Option DrawnEdge) → on_north ≡ None → on_south ≡ Some f → on_west ≡ w → on_east ≡ e → Goal None (Some f) w e
  from_south f w e hn ht hw he =
      let own = at_south f ht in
      let here : 0 < south_of f r c = own.1 in
      let some : 0 < sides_of f r c = omega arith in
      let a = own.0 in
      elim (way_of f a some) as (λ _. Goal None (Some f) w e) [
        | along n1 s1 w0 e0 ↦ absurd (no_value on_north f hn (to_north f a (omega arith)))
        | flat n0 s0 w1 e1 ↦ absurd (omega arith)
        | ne n1 s0 w0 e1 ↦ absurd (omega arith)
        | nw n1 s0 w1 e0 ↦ absurd (omega arith)
        | se n0 s1 w0 e1 ↦
            let w_is : None ≡ w = sym (none_west f a (λ same. omega arith) w0 some w hw) in
            let e_is : Some f ≡ e = sym (to_east f a (omega arith)) ∙ he in
            subst (λ x. Goal None (Some f) x e) w_is (subst (Goal None (Some f) None) e_is (south_east f))
        | sw n0 s1 w1 e0 ↦
            let w_is : Some f ≡ w = sym (to_west f a (omega arith)) ∙ hw in
            let e_is : None ≡ e = sym (none_east f a (λ same. omega arith) e0 some e he) in
            subst (λ x. Goal None (Some f) x e) w_is (subst (Goal None (Some f) (Some f)) e_is (south_west f))
      ]

  from_west : (f : DrawnEdge) (e : Option DrawnEdge) → on_north ≡ None → on_south ≡ None → on_west ≡ Some f → on_east ≡ e → Goal None None (Some f) e
  from_west f e hn ht hw he =
      let own = at_west f hw in
      let here : 0 < west_of f r c = own.1 in
      let a = own.0 in
      elim (way_of f a (omega arith)) as (λ _. Goal None None (Some f) e) [
        | along n1 s1 w0 e0 ↦ absurd (omega arith)
        | flat n0 s0 w1 e1 ↦ subst (Goal None None (Some f)) (sym (to_east f a (omega arith)) ∙ he) (level f)
        | ne n1 s0 w0 e1 ↦ absurd (omega arith)
        | nw n1 s0 w1 e0 ↦ absurd (no_value on_north f hn (to_north f a (omega arith)))
        | se n0 s1 w0 e1 ↦ absurd (omega arith)
        | sw n0 s1 w1 e0 ↦ absurd (no_value on_south f ht (to_south f a (omega arith)))
      ]

  from_east : (f : DrawnEdge) → on_north ≡ None → on_south ≡ None → on_west ≡ None → on_east ≡ Some f → ⊥
  from_east f hn ht hw he =
      let own = at_east f he in
      let here : 0 < east_of f r c = own.1 in
      let a = own.0 in
      elim (way_of f a (omega arith)) as (λ _. ⊥) [
        | along n1 s1 w0 e0 ↦ omega arith
        | flat n0 s0 w1 e1 ↦ no_value on_west f hw (to_west f a (omega arith))
        | ne n1 s0 w0 e1 ↦ no_value on_north f hn (to_north f a (omega arith))
        | nw n1 s0 w1 e0 ↦ omega arith
        | se n0 s1 w0 e1 ↦ no_value on_south f ht (to_south f a (omega arith))
        | sw n0 s1 w1 e0 ↦ omega arith
      ]

  go : (n t w e : Option DrawnEdge) → on_north ≡ n → on_south ≡ t → on_west ≡ w → on_east ≡ e → Goal n t w e
  go (Some f) t w e hn ht hw he = from_north f t w e hn ht hw he
  go None (Some f) w e hn ht hw he = from_south f w e hn ht hw he
  go None None (Some f) e hn ht hw he = from_west f e hn ht hw he
  go None None None (Some f) hn ht hw he = absurd (from_east f hn ht hw he)
  go None None None None hn ht hw he = nothing

  kind_is : block_at s r c ≡ wire_kind (is_some on_north) (is_some on_south) (is_some on_west) (is_some on_east)
  kind_is =
      let n = any_found (λ e. nat_lt 0 (north_of e r c)) s.edges in
      let t = any_found (λ e. nat_lt 0 (north_of e (r + 1) c)) s.edges in
      let w = any_found (λ e. nat_lt 0 (west_of e r c)) s.edges in
      let e = any_found (λ e. nat_lt 0 (west_of e r (c + 1))) s.edges in
      rw (free, n, t, w, e) refl

  pub gone_on : GoOn (block_at s r c) on_north on_south on_west on_east
  gone_on = subst (λ k. GoOn k on_north on_south on_west on_east) (sym kind_is) (go on_north on_south on_west on_east refl refl refl refl)

pub bundles_go_on : BundlesGoOn
bundles_go_on s r c sheet free = gone_on s sheet r c free
