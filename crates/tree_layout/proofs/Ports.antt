-- The edges between the quarters of a square may be drawn once the quarters stand side by side.
use Rattle.std.proofs.Common.{◌≡◌, ◌≢◌, ◌∙◌, ◌⊎◌, ℕ, zero, suc, ◌+◌, ◌*◌, ◌^◌, ◌<◌, ◌≤◌, Bool, IsSome, Some, List, ◌++◌, length, map, All, sym, ap, inl, inr, subst, arith}
use Rattle.std.proofs.lemmas.List.Elements.{All-append, All-nil, All-weaker, All-map}
use Rattle.block_grid.specs.Sheets.{stands_at}
use Rattle.channel_route.specs.Drawing.{ends_of}
use Rattle.tree_layout.specs.declared.numbered.Entry.{Entry}
use Rattle.tree_layout.specs.declared.links.Link.{Link}
use Rattle.tree_layout.specs.Numbered.{node_at, child_at}
use Rattle.tree_layout.specs.Squares.{links_out, links_between, links}
use Rattle.tree_layout.specs.Drawing.{IsOrdered, MayLink}
use Rattle.tree_layout.proofs.FourPowers.{four_more}
use Rattle.tree_layout.proofs.Sides.{DrawingLaws, ends_by}
use Rattle.tree_layout.proofs.Between.{LinkIn, out_in}
use Rattle.tree_layout.proofs.Opened.{all_ends}
use Rattle.tree_layout.proofs.Joined.{HasName, stands_named, has_name, joined_names, joined_ends, quarters, Within}

module _ (k : DrawingLaws) (entries : List Entry) (o : IsOrdered entries) where
  out_within : (from border end first n : ℕ) → first ≤ from → end ≤ first + n → (l : Link) → LinkIn entries from border end l → Within entries first n l
  out_within from border end first n a b l h = record { link = h.link; low = omega (arith, h.low); high = omega (arith, h.high) }

  wider : (first n first' n' : ℕ) → first' ≤ first → first + n ≤ first' + n' → (l : Link) → Within entries first n l → Within entries first' n' l
  wider first n first' n' a b l h = record { link = h.link; low = omega (arith, h.low); high = omega (arith, h.high) }

  -- the edges of a square run within it
  within : (j first : ℕ) → All (Within entries first (4 ^ j)) (links entries j first)
  within zero first = All-nil (Within entries first 1)
  within (suc j) first =
      let e : j + 1 ≡ suc j = omega arith in
      let size : 4 ^ suc j ≡ 4 ^ j * 4 = ap (λ n. 4 ^ n) (sym e) ∙ four_more j in
      let W : Link → Type 0 = Within entries first (4 ^ suc j) in
      All-append (Within entries first (4 ^ suc j)) (links entries j first) _
      (All-weaker (Within entries first (4 ^ j)) (Within entries first (4 ^ suc j)) (wider first (4 ^ j) first (4 ^ suc j) (omega arith) (omega (arith, size))) _ (within j first))
      (All-append (Within entries first (4 ^ suc j)) (links entries j (first + 4 ^ j)) _
      (All-weaker (Within entries (first + 4 ^ j) (4 ^ j)) (Within entries first (4 ^ suc j)) (wider (first + 4 ^ j) (4 ^ j) first (4 ^ suc j) (omega arith) (omega (arith, size))) _ (within j (first + 4 ^ j)))
      (All-append (Within entries first (4 ^ suc j)) (links entries j (first + 2 * 4 ^ j)) _
      (All-weaker (Within entries (first + 2 * 4 ^ j) (4 ^ j)) (Within entries first (4 ^ suc j)) (wider (first + 2 * 4 ^ j) (4 ^ j) first (4 ^ suc j) (omega arith) (omega (arith, size))) _ (within j (first + 2 * 4 ^ j)))
      (All-append (Within entries first (4 ^ suc j)) (links entries j (first + 3 * 4 ^ j)) _
      (All-weaker (Within entries (first + 3 * 4 ^ j) (4 ^ j)) (Within entries first (4 ^ suc j)) (wider (first + 3 * 4 ^ j) (4 ^ j) first (4 ^ suc j) (omega arith) (omega (arith, size))) _ (within j (first + 3 * 4 ^ j)))
      (All-append (Within entries first (4 ^ suc j)) (links_out entries first (first + 4 ^ j) (first + 4 * 4 ^ j)) _
      (All-weaker (LinkIn entries first (first + 4 ^ j) (first + 4 * 4 ^ j)) (Within entries first (4 ^ suc j)) (out_within first (first + 4 ^ j) (first + 4 * 4 ^ j) first (4 ^ suc j) (omega arith) (omega (arith, size))) _
      (out_in entries o first (first + 4 ^ j) (first + 4 * 4 ^ j) (omega arith)))
      (All-append (Within entries first (4 ^ suc j)) (links_out entries (first + 4 ^ j) (first + 2 * 4 ^ j) (first + 4 * 4 ^ j)) _
      (All-weaker (LinkIn entries (first + 4 ^ j) (first + 2 * 4 ^ j) (first + 4 * 4 ^ j)) (Within entries first (4 ^ suc j))
      (out_within (first + 4 ^ j) (first + 2 * 4 ^ j) (first + 4 * 4 ^ j) first (4 ^ suc j) (omega arith) (omega (arith, size))) _
      (out_in entries o (first + 4 ^ j) (first + 2 * 4 ^ j) (first + 4 * 4 ^ j) (omega arith)))
      (All-weaker (LinkIn entries (first + 2 * 4 ^ j) (first + 3 * 4 ^ j) (first + 4 * 4 ^ j)) (Within entries first (4 ^ suc j))
      (out_within (first + 2 * 4 ^ j) (first + 3 * 4 ^ j) (first + 4 * 4 ^ j) first (4 ^ suc j) (omega arith) (omega (arith, size))) _
      (out_in entries o (first + 2 * 4 ^ j) (first + 3 * 4 ^ j) (first + 4 * 4 ^ j) (omega arith))))))))

  -- An edge that crosses a border is none that runs within a stretch on one side of it.
  module _ (from border end : ℕ) (l : Link) (h : LinkIn entries from border end l) where
    parent_in : l.parent < length entries
    parent_in = let b = o.behind l.heavy l.parent l.child h.link in omega (arith, b.0, b.1)

    child_in : l.child < length entries
    child_in = (o.behind l.heavy l.parent l.child h.link).1

    other : (first n : ℕ) → (border ≤ first) ⊎ (first + n ≤ border) → (m : Link) → Within entries first n m → m.parent ≡ l.parent → m.child ≡ l.child → ⊥
    other first n (inl le) m w e f = omega (arith, h.mid, w.low)
    other first n (inr le) m w e f = omega (arith, h.behind, w.high)

    out_free : (first n : ℕ) → (border ≤ first) ⊎ (first + n ≤ border) → (m : Link) → Within entries first n m → node_at entries m.parent ≡ node_at entries l.parent → m.heavy ≢ l.heavy
    out_free first n side m w e same =
        let b = o.behind m.heavy m.parent m.child w.link in
        let p : m.parent ≡ l.parent = o.once m.parent l.parent (omega (arith, b.0, b.1)) parent_in e in
        let c : Some m.child ≡ Some l.child = sym w.link ∙ ap (λ r. child_at entries r m.parent) same ∙ ap (child_at entries l.heavy) p ∙ h.link in
        other first n side m w p (some_same m.child l.child c)
      where
        some_same : (a b : ℕ) → Some a ≡ Some b → a ≡ b
        some_same a b e = cc

    in_free : (first n : ℕ) → (border ≤ first) ⊎ (first + n ≤ border) → (m : Link) → Within entries first n m → node_at entries m.child ≢ node_at entries l.child
    in_free first n side m w e =
        let b = o.behind m.heavy m.parent m.child w.link in
        let c : m.child ≡ l.child = o.once m.child l.child b.1 child_in e in
        let p = o.parents m.heavy l.heavy m.parent l.parent l.child (w.link ∙ ap (λ x. Some x) c) h.link in
        other first n side m w p.0 c

    -- in the sheet of four quarters
    module _ (j first : ℕ) (low : first ≤ from) (high : end ≤ first + 4 * 4 ^ j) (q0 : (border ≤ first) ⊎ (first + 4 ^ j ≤ border))
        (q1 : (border ≤ first + 4 ^ j) ⊎ (first + 4 ^ j + 4 ^ j ≤ border)) (q2 : (border ≤ first + 2 * 4 ^ j) ⊎ (first + 2 * 4 ^ j + 4 ^ j ≤ border))
        (q3 : (border ≤ first + 3 * 4 ^ j) ⊎ (first + 3 * 4 ^ j + 4 ^ j ≤ border)) where
      of_all : (P : ℕ × ℕ × Bool → Type 0) → ((f : ℕ) → (border ≤ f) ⊎ (f + 4 ^ j ≤ border) → (m : Link) → Within entries f (4 ^ j) m → P (ends_by entries m))
          → All (λ e. P (ends_of e)) (quarters k entries j first).edges
      of_all P f = all_ends P (quarters k entries j first).edges (subst (All P) (sym (joined_ends k entries j first))
          (All-append P (map (ends_by entries) (links entries j first) ++ map (ends_by entries) (links entries j (first + 4 ^ j))) _
          (All-append P (map (ends_by entries) (links entries j first)) (map (ends_by entries) (links entries j (first + 4 ^ j))) (each first q0) (each (first + 4 ^ j) q1))
          (All-append P (map (ends_by entries) (links entries j (first + 2 * 4 ^ j))) (map (ends_by entries) (links entries j (first + 3 * 4 ^ j))) (each (first + 2 * 4 ^ j) q2) (each (first + 3 * 4 ^ j) q3))))
        where
          each : (a : ℕ) → (border ≤ a) ⊎ (a + 4 ^ j ≤ border) → All P (map (ends_by entries) (links entries j a))
          each a side = All-map P (ends_by entries) (links entries j a) (All-weaker (Within entries a (4 ^ j)) (λ m. P (ends_by entries m)) (f a side) (links entries j a) (within j a))

      stands : (i : ℕ) → first ≤ i → i < first + 4 * 4 ^ j → i < length entries → IsSome (stands_at (quarters k entries j first).nodes (node_at entries i))
      stands i a b c = stands_named (node_at entries i) (quarters k entries j first).nodes
          (subst (HasName (node_at entries i)) (sym (joined_names k entries j first)) (has_name entries i first (4 * 4 ^ j) a b c))

      pub may : MayLink entries (quarters k entries j first) l
      may =
          let b = o.behind l.heavy l.parent l.child h.link in
          record {
            parent_in = parent_in;
            child_in = child_in;
            differ = λ e. let same : l.parent ≡ l.child = o.once l.parent l.child parent_in child_in e in omega (arith, b.0);
            parent_stands = stands l.parent (omega (arith, h.low)) (omega (arith, b.0, h.high)) parent_in;
            child_stands = stands l.child (omega (arith, h.low, b.0)) (omega (arith, h.high)) child_in;
            out_open = of_all (λ x. x.0 ≡ node_at entries l.parent → x.2 ≢ l.heavy) (λ f side m w. out_free f (4 ^ j) side m w);
            in_open = of_all (λ x. x.1 ≢ node_at entries l.child) (λ f side m w. in_free f (4 ^ j) side m w);
          }

  -- all edges between the quarters may be drawn
  pub may_all : (j first : ℕ) → All (MayLink entries (quarters k entries j first)) (links_between entries first (4 ^ j))
  may_all j first = All-append (MayLink entries (quarters k entries j first)) (links_out entries first (first + 4 ^ j) (first + 4 * 4 ^ j)) _
      (All-weaker (LinkIn entries first (first + 4 ^ j) (first + 4 * 4 ^ j)) (MayLink entries (quarters k entries j first))
      (λ l h. may first (first + 4 ^ j) (first + 4 * 4 ^ j) l h j first (omega arith) (omega arith) (inr (omega arith)) (inl (omega arith)) (inl (omega arith)) (inl (omega arith))) _
      (out_in entries o first (first + 4 ^ j) (first + 4 * 4 ^ j) (omega arith)))
      (All-append (MayLink entries (quarters k entries j first)) (links_out entries (first + 4 ^ j) (first + 2 * 4 ^ j) (first + 4 * 4 ^ j)) _
      (All-weaker (LinkIn entries (first + 4 ^ j) (first + 2 * 4 ^ j) (first + 4 * 4 ^ j)) (MayLink entries (quarters k entries j first))
      (λ l h. may (first + 4 ^ j) (first + 2 * 4 ^ j) (first + 4 * 4 ^ j) l h j first (omega arith) (omega arith) (inr (omega arith)) (inr (omega arith)) (inl (omega arith)) (inl (omega arith))) _
      (out_in entries o (first + 4 ^ j) (first + 2 * 4 ^ j) (first + 4 * 4 ^ j) (omega arith)))
      (All-weaker (LinkIn entries (first + 2 * 4 ^ j) (first + 3 * 4 ^ j) (first + 4 * 4 ^ j)) (MayLink entries (quarters k entries j first))
      (λ l h. may (first + 2 * 4 ^ j) (first + 3 * 4 ^ j) (first + 4 * 4 ^ j) l h j first (omega arith) (omega arith) (inr (omega arith)) (inr (omega arith)) (inr (omega arith)) (inl (omega arith))) _
      (out_in entries o (first + 2 * 4 ^ j) (first + 3 * 4 ^ j) (first + 4 * 4 ^ j) (omega arith))))
