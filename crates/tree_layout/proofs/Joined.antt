-- The nodes and edges of a square, and the edges that may be drawn between its quarters.
use Rattle.std.proofs.Common.{◌≡◌, ◌∙◌, ◌⊎◌, ℕ, zero, suc, ◌+◌, ◌*◌, ◌^◌, ◌<◌, ◌≤◌, Bool, true, false, nat_eq, cond, Option, Some, None, IsSome, List, [], ◌∷◌, ◌++◌, length, map, slice_get, refl, sym, ap, inl, inr, subst, arith, append_assoc}
use Rattle.std.specs.List.{find}
use Rattle.std.specs.Option.{option_map, option_map_or}
use Rattle.std.proofs.lemmas.Bool.{eq-eqb, cases_eq}
use Rattle.std.proofs.lemmas.List.{map-append, append-nil}
use Rattle.std.proofs.lemmas.Option.{slice_get-get_or}
use Rattle.block_grid.specs.declared.standing.Standing.{Standing}
use Rattle.block_grid.specs.declared.kind.BlockKind.TheVariants.{Empty, Node, Frame}
use Rattle.block_grid.specs.Lines.{BlockPlace}
use Rattle.block_grid.specs.Sheets.{Sheet, stands_at}
use Rattle.block_grid.specs.Changes.{single_nodes}
use Rattle.channel_route.specs.Drawing.{ends_of, name_of}
use Rattle.tree_layout.specs.declared.numbered.Entry.{Entry}
use Rattle.tree_layout.specs.declared.links.Link.{Link}
use Rattle.tree_layout.specs.Numbered.{node_at, child_at}
use Rattle.tree_layout.specs.Squares.{links_between, links, four, square}
use Rattle.tree_layout.proofs.FourPowers.{four_more}
use Rattle.tree_layout.proofs.Sides.{DrawingLaws, names_at, names_in, ends_by, names_four, four_names, four_ends, links_names, links_ends}

name_is : (b : Bool) (v : ℕ) → map name_of (single_nodes (cond b (Frame v) (Node v))) ≡ (v, b) ∷ []
name_is true v = refl
name_is false v = refl

single_name : (i : ℕ) (o : Option Entry) → map name_of (single_nodes (option_map_or (λ e. cond (nat_eq i 0) (Frame e.node) (Node e.node)) o Empty))
    ≡ option_map_or (λ (e : Entry). (e.node, nat_eq i 0) ∷ []) o []
single_name i None = refl
single_name i (Some e) = name_is (nat_eq i 0) e.node

module _ (k : DrawingLaws) (entries : List Entry) where
  abbrev pub quarters : ℕ → ℕ → Sheet
  quarters j first = four (square entries j first) (square entries j (first + 4 ^ j)) (square entries j (first + 2 * 4 ^ j)) (square entries j (first + 3 * 4 ^ j))

  four_lists : {A : Type 0} (a a' b b' c c' d d' : List A) → a ≡ a' → b ≡ b' → c ≡ c' → d ≡ d' → (a ++ b) ++ (c ++ d) ≡ (a' ++ b') ++ (c' ++ d')
  four_lists a a' b b' c c' d d' p q r s = rw (p, q, r, s) refl

  four_times : (j : ℕ) → 4 * 4 ^ j ≡ 4 ^ suc j
  four_times j = let e : j + 1 ≡ suc j = omega arith in let f : 4 ^ (j + 1) ≡ 4 ^ suc j = ap (λ n. 4 ^ n) e in omega (arith, four_more j, f)

  joined_by : (j first : ℕ) → ((f : ℕ) → map name_of (square entries j f).nodes ≡ names_in entries f (4 ^ j)) → map name_of (quarters j first).nodes ≡ names_in entries first (4 * 4 ^ j)
  joined_by j first rec =
      four_names (square entries j first) (square entries j (first + 4 ^ j)) (square entries j (first + 2 * 4 ^ j)) (square entries j (first + 3 * 4 ^ j))
      ∙ four_lists _ _ _ _ _ _ _ _ (rec first) (rec (first + 4 ^ j)) (rec (first + 2 * 4 ^ j)) (rec (first + 3 * 4 ^ j)) ∙ sym (names_four entries first (4 ^ j))

  -- the nodes of a square are those of its numbers
  pub square_names : (j first : ℕ) → map name_of (square entries j first).nodes ≡ names_in entries first (4 ^ j)
  square_names zero first = single_name first (slice_get entries first) ∙ sym (append-nil (names_at entries first))
  square_names (suc j) first = links_names k entries (quarters j first) (links_between entries first (4 ^ j)) ∙ joined_by j first (λ f. square_names j f)
      ∙ ap (names_in entries first) (four_times j)

  pub joined_names : (j first : ℕ) → map name_of (quarters j first).nodes ≡ names_in entries first (4 * 4 ^ j)
  joined_names j first = joined_by j first (λ f. square_names j f)

  ends_by_rec : (j first : ℕ) → ((f : ℕ) → map ends_of (square entries j f).edges ≡ map (ends_by entries) (links entries j f))
      → map ends_of (quarters j first).edges ≡ (map (ends_by entries) (links entries j first) ++ map (ends_by entries) (links entries j (first + 4 ^ j)))
      ++ (map (ends_by entries) (links entries j (first + 2 * 4 ^ j)) ++ map (ends_by entries) (links entries j (first + 3 * 4 ^ j)))
  ends_by_rec j first rec =
      four_ends (square entries j first) (square entries j (first + 4 ^ j)) (square entries j (first + 2 * 4 ^ j)) (square entries j (first + 3 * 4 ^ j))
      ∙ four_lists _ _ _ _ _ _ _ _ (rec first) (rec (first + 4 ^ j)) (rec (first + 2 * 4 ^ j)) (rec (first + 3 * 4 ^ j))

  regroup : {A : Type 0} (a b c d e : List A) → ((a ++ b) ++ (c ++ d)) ++ e ≡ a ++ (b ++ (c ++ (d ++ e)))
  regroup a b c d e = simp append_assoc

  map_five : (a b c d e : List Link) → map (ends_by entries) (a ++ (b ++ (c ++ (d ++ e)))) ≡ map (ends_by entries) a ++ (map (ends_by entries) b ++ (map (ends_by entries) c
      ++ (map (ends_by entries) d ++ map (ends_by entries) e)))
  map_five a b c d e = simp map-append

  -- the edges of a square are those that are drawn in it
  pub square_ends : (j first : ℕ) → map ends_of (square entries j first).edges ≡ map (ends_by entries) (links entries j first)
  square_ends zero first = refl
  square_ends (suc j) first =
      links_ends k entries (quarters j first) (links_between entries first (4 ^ j))
      ∙ ap (λ xs. xs ++ map (ends_by entries) (links_between entries first (4 ^ j))) (ends_by_rec j first (λ f. square_ends j f))
      ∙ regroup (map (ends_by entries) (links entries j first)) (map (ends_by entries) (links entries j (first + 4 ^ j))) (map (ends_by entries) (links entries j (first + 2 * 4 ^ j)))
      (map (ends_by entries) (links entries j (first + 3 * 4 ^ j))) (map (ends_by entries) (links_between entries first (4 ^ j)))
      ∙ sym (map_five (links entries j first) (links entries j (first + 4 ^ j)) (links entries j (first + 2 * 4 ^ j)) (links entries j (first + 3 * 4 ^ j)) (links_between entries first (4 ^ j)))

  pub joined_ends : (j first : ℕ) → map ends_of (quarters j first).edges ≡ (map (ends_by entries) (links entries j first) ++ map (ends_by entries) (links entries j (first + 4 ^ j)))
      ++ (map (ends_by entries) (links entries j (first + 2 * 4 ^ j)) ++ map (ends_by entries) (links entries j (first + 3 * 4 ^ j)))
  joined_ends j first = ends_by_rec j first (λ f. square_ends j f)

-- a node that has a name stands
abbrev pub HasName : ℕ → List (ℕ × Bool) → Type 0
HasName v [] = ⊥
HasName v (x ∷ xs) = (x.0 ≡ v) ⊎ HasName v xs

has_right : (v : ℕ) (xs ys : List (ℕ × Bool)) → HasName v ys → HasName v (xs ++ ys)
has_right v [] ys h = h
has_right v (x ∷ xs) ys h = inr (has_right v xs ys h)

pub stands_named : (v : ℕ) (ns : List Standing) → HasName v (map name_of ns) → IsSome (stands_at ns v)
stands_named v [] h = absurd h
stands_named v (n ∷ ns) h = by (nat_eq n.node v) refl h (λ t. stands_named v ns t)
  where
    by : (b : Bool) → nat_eq n.node v ≡ b → (n.node ≡ v) ⊎ HasName v (map name_of ns) → (HasName v (map name_of ns) → IsSome (stands_at ns v))
        → IsSome (option_map {U = BlockPlace} (λ (m : Standing). (m.row, m.col)) (cond b (Some n) (find (λ m. nat_eq m.node v) ns)))
    by true e t rec = refl
    by false e (inr t) rec = rec t
    by false e (inl t) rec = let f : nat_eq n.node v ≡ true = eq-eqb _ _ t in cc

module _ (entries : List Entry) where
  has_own : (i : ℕ) (o : Option Entry) → slice_get entries i ≡ o → i < length entries → (ys : List (ℕ × Bool)) → HasName (node_at entries i) (names_at entries i ++ ys)
  has_own i None e h ys = let d : Entry = record { node = 0; light = None; heavy = None } in let f = slice_get-get_or entries i d h in cc
  has_own i (Some x) e h ys = subst (λ o. HasName (option_map_or (λ (e : Entry). e.node) o 0) (option_map_or (λ (e : Entry). (e.node, nat_eq i 0) ∷ []) o [] ++ ys)) (sym e) (inl refl)

  pub has_name : (i first n : ℕ) → first ≤ i → i < first + n → i < length entries → HasName (node_at entries i) (names_in entries first n)
  has_name i first zero a b h = absurd (omega arith)
  has_name i first (suc n) a b h = by (cases_eq first i) (λ le. has_name i (first + 1) n le (omega arith) h)
    where
      by : (first ≡ i) ⊎ (first ≡ i → ⊥) → (first + 1 ≤ i → HasName (node_at entries i) (names_in entries (first + 1) n)) → HasName (node_at entries i) (names_in entries first (suc n))
      by (inl e) rec = subst (λ f. HasName (node_at entries i) (names_at entries f ++ names_in entries (f + 1) n)) (sym e) (has_own i (slice_get entries i) refl h (names_in entries (i + 1) n))
      by (inr ne) rec = has_right (node_at entries i) (names_at entries first) (names_in entries (first + 1) n) (rec (grind (arith, ne)))

-- the edges within a square
pub record Within (entries : List Entry) (first n : ℕ) (l : Link) : Type 0 where
  pub link : child_at entries l.heavy l.parent ≡ Some l.child
  pub low : first ≤ l.parent
  pub high : l.child < first + n
