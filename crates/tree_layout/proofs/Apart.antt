-- Squares for different numbers hold different nodes.
use Rattle.std.proofs.Common.{◌≡◌, ◌∙◌, ◌⊎◌, ℕ, zero, suc, ◌+◌, ◌*◌, ◌^◌, ◌<◌, ◌≤◌, Bool, true, false, nat_eq, cond, Option, Some, None, List, [], ◌∷◌, ◌++◌, length, map, get_or, slice_get, All, refl, sym, ap, inl, inr, subst, arith}
use Rattle.std.specs.List.{find}
use Rattle.std.specs.Option.{option_map, option_map_or}
use Rattle.std.proofs.lemmas.Bool.{eqb-true}
use Rattle.std.proofs.lemmas.Option.{slice_get_within}
use Rattle.std.proofs.lemmas.List.Elements.{All-cons, All-nil}
use Rattle.block_grid.specs.declared.standing.Standing.{Standing}
use Rattle.block_grid.specs.Lines.{BlockPlace}
use Rattle.block_grid.specs.Sheets.{stands_at}
use Rattle.block_grid.specs.Changes.{side_by_side}
use Rattle.channel_route.specs.Drawing.{name_of}
use Rattle.tree_layout.specs.declared.numbered.Entry.{Entry}
use Rattle.tree_layout.specs.Numbered.{node_at}
use Rattle.tree_layout.specs.Squares.{square}
use Rattle.tree_layout.specs.Drawing.{IsOrdered}
use Rattle.tree_layout.proofs.Sides.{DrawingLaws, names_at, names_in, names_split, two_names}
use Rattle.tree_layout.proofs.Joined.{HasName, square_names}

none_named : (v : ℕ) (ns : List Standing) → (HasName v (map name_of ns) → ⊥) → stands_at ns v ≡ None
none_named v [] h = refl
none_named v (n ∷ ns) h = by (nat_eq n.node v) refl (none_named v ns (λ t. h (inr t)))
  where
    by : (b : Bool) → nat_eq n.node v ≡ b → stands_at ns v ≡ None
        → option_map {U = BlockPlace} (λ (m : Standing). (m.row, m.col)) (cond b (Some n) (find (λ m. nat_eq m.node v) ns)) ≡ None
    by true e rec = absurd (h (inl (eqb-true n.node v e)))
    by false e rec = rec

all_named : (ms : List Standing) → All (λ m. HasName m.node (map name_of ms)) ms
all_named [] = All-nil (λ (m : Standing). HasName m.node (map name_of []))
all_named (m ∷ ms) = All-cons (λ (x : Standing). HasName x.node (map name_of (m ∷ ms))) m ms (inl refl) (λ i d lt. inr (all_named ms i d lt))

has_cases : (v : ℕ) (xs ys : List (ℕ × Bool)) → HasName v (xs ++ ys) → HasName v xs ⊎ HasName v ys
has_cases v [] ys h = inr h
has_cases v (x ∷ xs) ys (inl h) = inl (inl h)
has_cases v (x ∷ xs) ys (inr h) = by (has_cases v xs ys h)
  where
    by : HasName v xs ⊎ HasName v ys → HasName v (x ∷ xs) ⊎ HasName v ys
    by (inl t) = inl (inr t)
    by (inr t) = inr t

module _ (entries : List Entry) where
  -- a number whose node this is
  record Numbered (v first n : ℕ) : Type 0 where
    at : ℕ
    low : first ≤ at
    high : at < first + n
    inside : at < length entries
    is : node_at entries at ≡ v

  own_number : (v i n : ℕ) (o : Option Entry) → slice_get entries i ≡ o → HasName v (option_map_or (λ (e : Entry). (e.node, nat_eq i 0) ∷ []) o []) → Numbered v i (suc n)
  own_number v i n None e h = absurd h
  own_number v i n (Some x) e (inr h) = absurd h
  own_number v i n (Some x) e (inl h) = record {
    at = i;
    low = omega arith;
    high = omega arith;
    inside = slice_get_within entries i x e;
    is = ap (λ o. option_map_or (λ (e : Entry). e.node) o 0) e ∙ h;
  }

  number_cases : (v first n : ℕ) → HasName v (names_at entries first) ⊎ HasName v (names_in entries (first + 1) n) → (HasName v (names_in entries (first + 1) n) → Numbered v (first + 1) n)
      → Numbered v first (suc n)
  number_cases v first n (inl h) rec = own_number v first n (slice_get entries first) refl h
  number_cases v first n (inr h) rec = let r = rec h in record { at = r.at; low = omega (arith, r.low); high = omega (arith, r.high); inside = r.inside; is = r.is }

  number_of : (v first n : ℕ) → HasName v (names_in entries first n) → Numbered v first n
  number_of v first zero h = absurd h
  number_of v first (suc n) h = number_cases v first n (has_cases v (names_at entries first) (names_in entries (first + 1) n) h) (λ t. number_of v (first + 1) n t)

  module _ (once : (i k : ℕ) → i < length entries → k < length entries → node_at entries i ≡ node_at entries k → i ≡ k) where
    pub nodes_apart : (ns ms : List Standing) (a m b n : ℕ) → a + m ≤ b → map name_of ns ≡ names_in entries a m → map name_of ms ≡ names_in entries b n
        → All (λ node. stands_at ns node.node ≡ None) ms
    nodes_apart ns ms a m b n le e f i d lt = none_named (get_or ms i d).node ns (λ h.
        let x = number_of (get_or ms i d).node a m (subst (HasName (get_or ms i d).node) e h) in
        let y = number_of (get_or ms i d).node b n (subst (HasName (get_or ms i d).node) f (all_named ms i d lt)) in
        let same : x.at ≡ y.at = once x.at y.at x.inside y.inside (x.is ∙ sym y.is) in
        omega (arith, x.high, y.low))

module _ (k : DrawingLaws) (entries : List Entry) (o : IsOrdered entries) where
  pub pair_names : (j a b : ℕ) → b ≡ a + 4 ^ j → map name_of (side_by_side (square entries j a) (square entries j b)).nodes ≡ names_in entries a (4 ^ j + 4 ^ j)
  pair_names j a b e = two_names (square entries j a) (square entries j b)
      ∙ ap (λ xs. xs ++ map name_of (square entries j b).nodes) (square_names k entries j a)
      ∙ ap (λ xs. names_in entries a (4 ^ j) ++ xs) (square_names k entries j b)
      ∙ ap (λ n. names_in entries a (4 ^ j) ++ names_in entries n (4 ^ j)) e ∙ sym (names_split entries a (4 ^ j) (4 ^ j))

  pub squares_apart : (j a b : ℕ) → a + 4 ^ j ≤ b → All (λ node. stands_at (square entries j a).nodes node.node ≡ None) (square entries j b).nodes
  squares_apart j a b le = nodes_apart entries o.once (square entries j a).nodes (square entries j b).nodes a (4 ^ j) b (4 ^ j) le (square_names k entries j a) (square_names k entries j b)

  pub halves_apart : (j a b c d : ℕ) → b ≡ a + 4 ^ j → c ≡ a + 2 * 4 ^ j → d ≡ c + 4 ^ j
      → All (λ node. stands_at (side_by_side (square entries j a) (square entries j b)).nodes node.node ≡ None) (side_by_side (square entries j c) (square entries j d)).nodes
  halves_apart j a b c d e f g = nodes_apart entries o.once (side_by_side (square entries j a) (square entries j b)).nodes (side_by_side (square entries j c) (square entries j d)).nodes
      a (4 ^ j + 4 ^ j) c (4 ^ j + 4 ^ j) (omega (arith, f)) (pair_names j a b e) (pair_names j c d g)
