-- The names of all entries of a tree: each node of the order, once.
use Rattle.std.proofs.Common.{◌≡◌, ◌∙◌, ◌⊎◌, ℕ, zero, suc, ◌+◌, ◌<◌, ◌≤◌, Bool, true, false, ◌==◌, nat_eq, cond, List, [], ◌∷◌, ◌++◌, length, map, drop, get_or, count_by, refl, sym, ap, inl, inr, None, arith}
use Rattle.std.specs.Option.{option_map_or}
use Rattle.std.proofs.lemmas.Bool.{cases_lt, eq-eqb, eqb-true}
use Rattle.std.proofs.lemmas.List.{at_drop_more, drop_all, length-map}
use Rattle.std.proofs.lemmas.List.Sums.{sum_by-cons}
use Rattle.std.proofs.lemmas.Option.{slice_get-get_or, slice_get_past}
use Rattle.star_normal.specs.Tables.{TreeTable}
use Rattle.light_order.specs.Order.{frame, light_first}
use Rattle.tree_layout.specs.declared.numbered.Entry.{Entry}
use Rattle.tree_layout.specs.Numbered.{entry_of, entries_of}
use Rattle.tree_layout.proofs.Sides.{names_in}

abbrev as_node : Entry → ℕ × Bool
as_node e = (e.node, false)

not_zero : (a : ℕ) → 1 ≤ a → nat_eq a 0 ≡ false
not_zero a h = by (nat_eq a 0) refl
  where
    by : (b : Bool) → nat_eq a 0 ≡ b → b ≡ false
    by true e = let f = eqb-true a 0 e in absurd (omega arith)
    by false e = refl

-- the entries behind the first
behind_names : (entries : List Entry) (a n : ℕ) → 1 ≤ a → length entries ≤ a + n → names_in entries a n ≡ map as_node (drop a entries)
behind_names entries a zero some past = sym (ap (map as_node) (drop_all a entries (omega arith)))
behind_names entries a (suc n) some past = by (cases_lt a (length entries)) (behind_names entries (a + 1) n (omega arith) (omega arith))
  where
    by : (a < length entries) ⊎ (length entries ≤ a) → names_in entries (a + 1) n ≡ map as_node (drop (a + 1) entries) → names_in entries a (suc n) ≡ map as_node (drop a entries)
    by (inl lt) rec =
        let d : Entry = record { node = 0; light = None; heavy = None } in
        ap (λ o. option_map_or (λ (e : Entry). (e.node, nat_eq a 0) ∷ []) o [] ++ names_in entries (a + 1) n) (slice_get-get_or entries a d lt)
        ∙ ap (λ b. ((get_or entries a d).node, b) ∷ names_in entries (a + 1) n) (not_zero a some)
        ∙ ap (λ xs. as_node (get_or entries a d) ∷ xs) rec ∙ sym (at_drop_more (map as_node) entries a d lt)
    by (inr le) rec =
        ap (λ o. option_map_or (λ (e : Entry). (e.node, nat_eq a 0) ∷ []) o [] ++ names_in entries (a + 1) n) (slice_get_past entries a le) ∙ rec
        ∙ ap (map as_node) (drop_all (a + 1) entries (omega arith) ∙ sym (drop_all a entries le))

module _ (table : TreeTable) where
  -- a node by its number, and whether it is the frame
  abbrev named : ℕ → ℕ × Bool
  named v = (v, v == frame table)

  no_frame : (xs : List ℕ) → count_by (λ x. x == frame table) xs ≡ 0 → map as_node (map (entry_of table) xs) ≡ map named xs
  no_frame [] e = refl
  no_frame (x ∷ xs) e =
      let more = sum_by-cons (λ y. cond (y == frame table) 1 0) x xs in
      ap (λ b. (x, b) ∷ map as_node (map (entry_of table) xs)) (other (x == frame table) (omega (arith, more, e)))
      ∙ ap (λ ys. named x ∷ ys) (no_frame xs (omega (arith, more, e)))
    where
      other : (b : Bool) → ◌≡◌ {A = ℕ} (cond b 1 0) 0 → false ≡ b
      other true h = absurd (omega arith)
      other false h = refl

  -- first the frame, and behind it the nodes
  split_names : (rest : List ℕ) (m : ℕ) → count_by (λ x. x == frame table) (frame table ∷ rest) ≡ 1 → length rest ≤ m
      → names_in (map (entry_of table) (frame table ∷ rest)) 0 (suc m) ≡ map named (frame table ∷ rest)
  split_names rest m e few =
      let own : (frame table == frame table) ≡ true = eq-eqb (frame table) (frame table) refl in
      let none : count_by (λ x. x == frame table) rest ≡ 0 =
      omega (arith, e, sum_by-cons (λ y. cond (y == frame table) 1 0) (frame table) rest, ap {B = ℕ} (λ b. cond b 1 0) own) in
      ap (λ xs. (frame table, true) ∷ xs) (behind_names (map (entry_of table) (frame table ∷ rest)) 1 m (omega arith) (omega (arith, long rest)) ∙ no_frame rest none)
      ∙ ap (λ b. (frame table, b) ∷ map named rest) (sym own)
    where
      long : (xs : List ℕ) → length (map (entry_of table) (frame table ∷ xs)) ≡ length xs + 1
      long xs = length-map (frame table ∷ xs) (entry_of table) ∙ omega arith

  pub all_names : (n : ℕ) → count_by (λ x. x == frame table) (light_first table) ≡ 1 → length (light_first table) ≤ n
      → names_in (entries_of table) 0 n ≡ map named (light_first table)
  all_names zero e few = absurd (omega arith)
  all_names (suc m) e few = split_names _ m e (omega arith)
