-- The statements of a specification, with copies in place of counted repeats.
use Rattle.std.proofs.Common.{◌≡◌, ◌∙◌, ◌⊎◌, ◌↔◌, ℕ, ◌<◌, ◌≤◌, List, [], ◌∷◌, ◌++◌, length, map, flat_map, All, refl, sym, ap, subst, inl, inr, arith, length-append}
use Rattle.std.specs.List.{AllByRecursion}
use Rattle.std.proofs.lemmas.Option.{slice_get_within, get_or_from_slice_get}
use Rattle.std.proofs.lemmas.List.{length-map, map-append}
use Rattle.std.proofs.lemmas.List.Concat.{flat_map-append}
use Rattle.std.proofs.lemmas.List.Elements.{All-from_recursion, recursion_from_All}
use Rattle.rx_lang.specs.declared.expr_node.ExprNode.{ExprNode}
use Rattle.rx_lang.specs.declared.expr_node.ExprNode.TheVariants.{Leaf, Seq, Alt, Star, Plus, Opt, Mark, Repeat}
use Rattle.rx_lang.specs.Expression.{Expr}
use Rattle.rx_lang.specs.Copies.{copied, occurrences, IsBounded}
use Rattle.rx_lang.specs.Laws.{CopiesMean}
use Rattle.rx_lang.specs.Meaning.{EndsIn, SomeMarks}
use Rattle.rx_lang.specs.Tables.{Tables, IsSpecification, NamesEntries, HasBounds, children, tree_at, trees, specification}
use Rattle.star_normal.specs.Trees.{leaves}
use Rattle.star_normal.specs.Normal.{normal_form}
use Rattle.star_normal.specs.Laws.{SomeSpells, HasLanguages}
use Rattle.star_normal.specs.Outlines.{ChildrenBelow, NodeFits, AreFit, AreOutlines, copied_trees}
use Rattle.star_normal.specs.declared.outlines.Outline.{Outline}
use Rattle.star_normal.specs.Assembly.{IsNormal}
use Rattle.star_normal.proofs.Copied.{no_repeats, occurrences_copied}
use Rattle.star_normal.proofs.Outlined.{copied_at}
use Rattle.star_normal.proofs.Unions.{form_languages, form_leaves, form_normal, copied_some}

children_below : (k : ℕ) (node : ExprNode) → All (λ child. child < k) (children node) → ChildrenBelow k node
children_below k (Leaf s) h = tt
children_below k (Seq f g) h = (h 0 0 (omega arith), h 1 0 (omega arith))
children_below k (Alt f g) h = (h 0 0 (omega arith), h 1 0 (omega arith))
children_below k (Star f) h = h 0 0 (omega arith)
children_below k (Plus f) h = h 0 0 (omega arith)
children_below k (Opt f) h = h 0 0 (omega arith)
children_below k (Mark f y) h = h 0 0 (omega arith)
children_below k (Repeat f m n) h = h 0 0 (omega arith)

node_fits : (tables : Tables) (node : ExprNode) → length tables.outputs ≤ 16 → NamesEntries tables node → HasBounds node → NodeFits node
node_fits tables (Leaf s) few h b = tt
node_fits tables (Seq f g) few h b = tt
node_fits tables (Alt f g) few h b = tt
node_fits tables (Star f) few h b = tt
node_fits tables (Plus f) few h b = tt
node_fits tables (Opt f) few h b = tt
node_fits tables (Mark f y) few h b = omega (arith, h, few)
node_fits tables (Repeat f m n) few h b = (b.1, omega (arith, b.2))

module _ (tables : Tables) (s : IsSpecification tables) where
  pub are_fit : AreFit tables.nodes
  are_fit = record {
    ordered = λ k node e. children_below k node (s.children_before k node e);
    fits = λ k node e.
        let within : k < length tables.nodes = slice_get_within tables.nodes k node e in
        let read = get_or_from_slice_get tables.nodes k node node e in
        node_fits tables node s.few_outputs (subst (NamesEntries tables) read (s.named_entries k node within)) (subst HasBounds read (s.bounds k node within));
  }

  abbrev pub es : List Expr
  es = (specification tables).statements

  abbrev pub ss : List Expr
  ss = (specification tables).scans

  pub some_roots : 1 ≤ length (tables.exprs ++ tables.scans)
  some_roots = let h = s.some_statements in omega (arith, h, length-append tables.exprs tables.scans)

  some_statements : 1 ≤ length (es ++ ss)
  some_statements =
      let h = s.some_statements in
      omega (arith, h, length-append es ss, length-map tables.exprs (tree_at (trees tables.nodes)), length-map tables.scans (tree_at (trees tables.nodes)))

  pub some_copied : 1 ≤ length (map copied es ++ map copied ss)
  some_copied = copied_some es ss some_statements

all_left : {A : Type 0} (P : A → Type 0) (a b : List A) → All P (a ++ b) → All P a
all_left {A = A} P a b h = All-from_recursion P a (by a (recursion_from_All P (a ++ b) h))
  where
    by : (a : List A) → AllByRecursion P (a ++ b) → AllByRecursion P a
    by [] r = tt
    by (x ∷ a) r = (r.0, by a r.1)

all_right : {A : Type 0} (P : A → Type 0) (a b : List A) → All P (a ++ b) → All P b
all_right {A = A} P a b h = All-from_recursion P b (by a (recursion_from_All P (a ++ b) h))
  where
    by : (a : List A) → AllByRecursion P (a ++ b) → AllByRecursion P b
    by [] r = r
    by (x ∷ a) r = by a r.1

module _ (tables : Tables) (s : IsSpecification tables) (n : ℕ) (size : n ≡ length tables.nodes) where
  pub exprs_within : All (λ r. r < n) tables.exprs
  exprs_within = rw size (all_left (λ r. r < length tables.nodes) tables.exprs tables.scans s.roots_in_table)

  pub scans_within : All (λ r. r < n) tables.scans
  scans_within = rw size (all_right (λ r. r < length tables.nodes) tables.exprs tables.scans s.roots_in_table)

pub resized : (ts : List Expr) (n : ℕ) (outlines : List Outline) → AreOutlines ts n outlines → AreOutlines ts (length outlines) outlines
resized ts n outlines a = subst (λ k. AreOutlines ts k outlines) (sym a.size) a

pub copied_roots : (nodes : List ExprNode) (roots : List ℕ) → map (tree_at (copied_trees nodes)) roots ≡ map copied (map (tree_at (trees nodes)) roots)
copied_roots nodes [] = refl
copied_roots nodes (r ∷ roots) = rw (copied_at (trees nodes) r, copied_roots nodes roots) refl

pub form_moved : (tables : Tables) (nodes : List ExprNode) (exprs scans : List ℕ) → nodes ≡ tables.nodes → exprs ≡ tables.exprs → scans ≡ tables.scans
    → normal_form (map (tree_at (copied_trees nodes)) exprs) (map (tree_at (copied_trees nodes)) scans) ≡ normal_form (map copied (specification tables).statements) (map copied (specification tables).scans)
form_moved tables nodes exprs scans a b d = rw (a, b, d) (rw (copied_roots tables.nodes tables.exprs, copied_roots tables.nodes tables.scans) refl)

-- Copies mean their repeats.

abbrev pub AllBounded : List Expr → Type 0
AllBounded [] = Unit {0}
AllBounded (e ∷ es) = IsBounded e × AllBounded es

pub bounded_roots : (nodes : List ExprNode) (roots : List ℕ) → ((k : ℕ) → IsBounded (tree_at (trees nodes) k)) → AllBounded (map (tree_at (trees nodes)) roots)
bounded_roots nodes [] h = tt
bounded_roots nodes (r ∷ roots) h = (h r, bounded_roots nodes roots h)

pub same_occurrences : (es : List Expr) → AllBounded es → flat_map occurrences (map copied es) ≡ flat_map occurrences es
same_occurrences [] b = refl
same_occurrences (e ∷ es) b = rw (occurrences_copied e b.0, same_occurrences es b.1) refl

or_iff : (A B C D : Type 0) → A ↔ C → B ↔ D → (A ⊎ B) ↔ (C ⊎ D)
or_iff A B C D f g = (λ h. to h, λ h. from h)
  where
    to : A ⊎ B → C ⊎ D
    to (inl h) = inl (f.0 h)
    to (inr h) = inr (g.0 h)

    from : C ⊎ D → A ⊎ B
    from (inl h) = inl (f.1 h)
    from (inr h) = inr (g.1 h)

module _ {X : Type 0} (Is : ℕ → X → Type 0) (means : (e : Expr) → IsBounded e → CopiesMean Is e) where
  some_spells : (es : List Expr) → AllBounded es → (u : List X) → SomeSpells Is (map copied es) u ↔ SomeSpells Is es u
  some_spells [] b u = (λ h. h, λ h. h)
  some_spells (e ∷ es) b u = or_iff _ _ _ _ ((means e b.0).spells u) (some_spells es b.1 u)

  some_marks : (es : List Expr) → AllBounded es → (y : ℕ) (u : List X) → SomeMarks Is (map copied es) y u ↔ SomeMarks Is es y u
  some_marks [] b y u = (λ h. h, λ h. h)
  some_marks (e ∷ es) b y u = or_iff _ _ _ _ ((means e b.0).marks y u) (some_marks es b.1 y u)

  ends_iff : (P Q : List X → Type 0) → ((u : List X) → P u ↔ Q u) → (u : List X) → EndsIn P u ↔ EndsIn Q u
  ends_iff P Q h u = (
    λ c. record { front = c.front; rest = c.rest; whole = c.whole; first = c.first; second = (h c.rest).0 c.second },
    λ c. record { front = c.front; rest = c.rest; whole = c.whole; first = c.first; second = (h c.rest).1 c.second },
  )

  through : (A B C : Type 0) → A ↔ B → B ↔ C → A ↔ C
  through A B C f g = (λ a. g.0 (f.0 a), λ c. f.1 (g.1 c))

  pub same_languages : (es ss : List Expr) → AllBounded es → AllBounded ss → 1 ≤ length (map copied es ++ map copied ss)
      → HasLanguages Is es ss (normal_form (map copied es) (map copied ss))
  same_languages es ss be bs some =
      let h = form_languages Is (map copied es) (map copied ss) (no_repeats es) (no_repeats ss) some in
      record {
        spells = λ u. through _ _ _ (h.spells u) (or_iff _ _ _ _ (some_spells es be u) (ends_iff (SomeSpells Is (map copied ss)) (SomeSpells Is ss) (some_spells ss bs) u));
        marks = λ y u. through _ _ _ (h.marks y u) (or_iff _ _ _ _ (some_marks es be y u) (ends_iff (SomeMarks Is (map copied ss) y) (SomeMarks Is ss y) (some_marks ss bs y) u));
      }

-- The tree of a specification.

module _ (tables : Tables) (s : IsSpecification tables) (bounded : (k : ℕ) → IsBounded (tree_at (trees tables.nodes) k)) where
  pub bounded_statements : AllBounded (specification tables).statements
  bounded_statements = bounded_roots tables.nodes tables.exprs bounded

  pub bounded_scans : AllBounded (specification tables).scans
  bounded_scans = bounded_roots tables.nodes tables.scans bounded

  pub tree_leaves : leaves (normal_form (map copied (specification tables).statements) (map copied (specification tables).scans))
      ≡ flat_map occurrences ((specification tables).statements ++ (specification tables).scans)
  tree_leaves =
      form_leaves (map copied (specification tables).statements) (map copied (specification tables).scans) (no_repeats (specification tables).statements) (no_repeats (specification tables).scans) (some_copied tables s)
      ∙ rw (same_occurrences (specification tables).statements bounded_statements, same_occurrences (specification tables).scans bounded_scans) refl
      ∙ sym (flat_map-append occurrences (specification tables).statements (specification tables).scans)

  rooted : (roots : List ℕ) → flat_map occurrences (map (tree_at (trees tables.nodes)) roots) ≡ flat_map (λ root. occurrences (tree_at (trees tables.nodes) root)) roots
  rooted [] = refl
  rooted (r ∷ roots) = ap (λ l. occurrences (tree_at (trees tables.nodes) r) ++ l) (rooted roots)

  few : length (leaves (normal_form (map copied (specification tables).statements) (map copied (specification tables).scans))) ≤ 4096
  few =
      let f = s.few_leaves in
      let same : flat_map occurrences ((specification tables).statements ++ (specification tables).scans) ≡ flat_map (λ root. occurrences (tree_at (trees tables.nodes) root)) (tables.exprs ++ tables.scans) =
      ap (flat_map occurrences) (sym (map-append (tree_at (trees tables.nodes)) tables.exprs tables.scans)) ∙ rooted (tables.exprs ++ tables.scans) in
      omega (arith, f, ap length tree_leaves, ap length same)

  pub tree_normal : IsNormal (normal_form (map copied (specification tables).statements) (map copied (specification tables).scans))
  tree_normal = form_normal (map copied (specification tables).statements) (map copied (specification tables).scans) (no_repeats (specification tables).statements) (no_repeats (specification tables).scans) (some_copied tables s) few
