-- Every leaf of a table is a leaf of its tree, so its symbol is one of the tree's.
use Rattle.std.proofs.Common.{◌≡◌, ◌⊎◌, inl, inr, ℕ, ◌<◌, List, [], ◌∷◌, ◌++◌, Some, slice_get, All, refl, sym, ◌∙◌}
use Rattle.std.specs.List.{AllByRecursion}
use Rattle.std.proofs.lemmas.Option.{slice_get-get_or}
use Rattle.std.proofs.lemmas.List.Elements.{recursion_from_All}
use Rattle.star_normal.specs.declared.node.Node.{Node}
use Rattle.star_normal.specs.declared.node.NodeKind.{NodeKind}
use Rattle.star_normal.specs.declared.node.NodeKind.TheVariants.{Leaf, Seq, Alt}
use Rattle.star_normal.specs.Trees.{leaves}
use Rattle.star_normal.specs.Tables.{TreeTable, IsTree, whole}
use Rattle.cell_network.specs.Parts.{NamesSymbol}
use Rattle.cell_network.proofs.Named.{NamesSymbols}
use Rattle.cell_network.proofs.Placed.{Placed, Stands, IsPlaced, Has, form, number}
use Rattle.cell_network.proofs.Placed.Placed.{leaf_at, seq_at, alt_at}
use Rattle.cell_network.proofs.TablePlaces.{whole_tree, has_all}

split_left : (P : ℕ → Type 0) (xs ys : List ℕ) → AllByRecursion P (xs ++ ys) → AllByRecursion P xs
split_left P [] ys h = tt
split_left P (x ∷ xs) ys h = (h.0, split_left P xs ys h.1)

split_right : (P : ℕ → Type 0) (xs ys : List ℕ) → AllByRecursion P (xs ++ ys) → AllByRecursion P ys
split_right P [] ys h = h
split_right P (x ∷ xs) ys h = split_right P xs ys h.1

module _ (m : ℕ) (nodes : List Node) where
  here : (k j : ℕ) (n node : Node) (kind : NodeKind) → Stands nodes k n kind → k ≡ j → slice_get nodes j ≡ Some node → node.kind ≡ kind
  here k j n node kind h e found =
      let both : Some n ≡ Some node = sym h.here ∙ rw e found in
      let same : n ≡ node = cc in
      rw (← same) h.is

  named_pair : (k j l r : ℕ) (n node : Node) (kind : NodeKind) → (kind ≡ Seq l r) ⊎ (kind ≡ Alt l r) → Stands nodes k n kind → k ≡ j
      → slice_get nodes j ≡ Some node → NamesSymbol m node.kind
  named_pair k j l r n node kind (inl f) h e at = rw (here k j n node kind h e at, f) tt
  named_pair k j l r n node kind (inr f) h e at = rw (here k j n node kind h e at, f) tt

  named_in : (p : Placed) → IsPlaced nodes p → AllByRecursion (λ s. s < m) (leaves (form p)) → (j : ℕ) (node : Node) → Has p j
      → slice_get nodes j ≡ Some node → NamesSymbol m node.kind
  named_in (leaf_at k n s) h below j node e at = rw (here k j n node (Leaf s) h e at) below.0
  named_in (seq_at k n l r) h below j node (inl e) at = named_pair k j (number l) (number r) n node _ (inl refl) h.0 e at
  named_in (seq_at k n l r) h below j node (inr (inl f)) at = named_in l h.1 (split_left (λ s. s < m) (leaves (form l)) (leaves (form r)) below) j node f at
  named_in (seq_at k n l r) h below j node (inr (inr f)) at = named_in r h.2 (split_right (λ s. s < m) (leaves (form l)) (leaves (form r)) below) j node f at
  named_in (alt_at k n l r) h below j node (inl e) at = named_pair k j (number l) (number r) n node _ (inr refl) h.0 e at
  named_in (alt_at k n l r) h below j node (inr (inl f)) at = named_in l h.1 (split_left (λ s. s < m) (leaves (form l)) (leaves (form r)) below) j node f at
  named_in (alt_at k n l r) h below j node (inr (inr f)) at = named_in r h.2 (split_right (λ s. s < m) (leaves (form l)) (leaves (form r)) below) j node f at

pub names_symbols : (table : TreeTable) → IsTree table → (m : ℕ) → All (λ s. s < m) (leaves (whole table)) → NamesSymbols m table.nodes
names_symbols table t m below k d lt =
    let place = whole_tree table t in
    named_in m table.nodes place.tree place.placed (recursion_from_All (λ s. s < m) (leaves (form place.tree)) (rw place.form below)) k _ (has_all table t k lt)
    (slice_get-get_or table.nodes k d lt)
