-- Entries by their numbers.
use Rattle.std.proofs.Common.{◌≡◌, ℕ, zero, suc, ◌+◌, ◌-◌, ◌<◌, ◌≤◌, true, false, Option, List, ◌++◌, length, get_or, flat_map, refl, sym, ap, ◌∙◌, arith, append_assoc}
use Rattle.std.specs.List.{range_with_len}
use Rattle.std.specs.Option.{option_map_or}
use Rattle.std.proofs.lemmas.List.{append-nil}
use Rattle.std.proofs.lemmas.Option.{slice_get-get_or}
use Rattle.tree_layout.specs.declared.numbered.Entry.{Entry}
use Rattle.tree_layout.specs.Squares.{links_from, link_to}
use Rattle.tree_layout.specs.Numbered.{node_at, child_at}

pub node_is : (entries : List Entry) (i : ℕ) (d : Entry) → i < length entries → (get_or entries i d).node ≡ node_at entries i
node_is entries i d h = sym (ap (λ o. option_map_or (λ (e : Entry). e.node) o 0) (slice_get-get_or entries i d h))

-- one more number of a range
flat_more : {A : Type 0} (f : ℕ → List A) (a n : ℕ) → flat_map f (range_with_len a (n + 1)) ≡ flat_map f (range_with_len a n) ++ f (a + n)
flat_more f a zero = append-nil (f a) ∙ ap f (let e : a ≡ a + 0 = omega arith in e)
flat_more f a (suc n) =
    let e : suc n + 1 ≡ suc (n + 1) = omega arith in
    let g : a + 1 + n ≡ a + suc n = omega arith in
    ap (λ m. flat_map f (range_with_len a m)) e ∙ ap (λ xs. f a ++ xs) (flat_more f (a + 1) n)
    ∙ sym (append_assoc (f a) (flat_map f (range_with_len (a + 1) n)) (f (a + 1 + n))) ∙ ap (λ m. (f a ++ flat_map f (range_with_len (a + 1) n)) ++ f m) g

pub flat_step : {A : Type 0} (f : ℕ → List A) (own old now' now : List A) (x y : List A) (a i : ℕ) → a ≤ i → own ≡ old ++ flat_map f (range_with_len a (i - a)) → now' ≡ own ++ x
    → now ≡ now' ++ y → f i ≡ x ++ y → now ≡ old ++ flat_map f (range_with_len a (i + 1 - a))
flat_step f own old now' now x y a i le e p q is =
    let n : i + 1 - a ≡ i - a + 1 = omega arith in
    let m : a + (i - a) ≡ i = omega arith in
    q ∙ ap (λ l. l ++ y) p ∙ append_assoc own x y ∙ ap (λ l. l ++ (x ++ y)) e ∙ append_assoc old (flat_map f (range_with_len a (i - a))) (x ++ y)
    ∙ ap (λ l. old ++ (flat_map f (range_with_len a (i - a)) ++ l)) (sym is ∙ ap f (sym m)) ∙ ap (λ l. old ++ l) (sym (flat_more f a (i - a)))
    ∙ ap (λ k. old ++ flat_map f (range_with_len a k)) (sym n)

pub links_are : (entries : List Entry) (border end i : ℕ) (o p : Option ℕ) → o ≡ child_at entries false i → p ≡ child_at entries true i
    → links_from entries border end i ≡ link_to border end i false o ++ link_to border end i true p
links_are entries border end i o p a b = rw (a, b) refl
