-- Every occurrence of a specification is of a declared symbol.
use Rattle.std.proofs.Common.{ℕ, zero, suc, ◌<◌, List, [], ◌∷◌, ◌++◌, map, flat_map, length, get_or, All, sym, subst, arith}
use Rattle.std.specs.List.{AllByRecursion}
use Rattle.std.proofs.lemmas.List.{map-append}
use Rattle.std.proofs.lemmas.List.Elements.{All-from_recursion, recursion_from_All}
use Rattle.std.proofs.lemmas.Option.{slice_get-get_or}
use Rattle.rx_lang.specs.declared.expr_node.ExprNode.{ExprNode}
use Rattle.rx_lang.specs.declared.expr_node.ExprNode.TheVariants.{Leaf, Seq, Alt, Star, Plus, Opt, Mark, Repeat}
use Rattle.rx_lang.specs.Expression.{Expr}
use Rattle.rx_lang.specs.Copies.{occurrences, times}
use Rattle.rx_lang.specs.Positions.{occurrence_symbols}
use Rattle.rx_lang.specs.Laws.{TreesAreMade}
use Rattle.rx_lang.specs.Tables.{Tables, IsSpecification, NamesEntries, children, tree_at, tree_of, trees, specification}
use Rattle.position_nfa.proofs.Ranges.{each_append}

module _ (made : TreesAreMade) (tables : Tables) (spec : IsSpecification tables) where
  abbrev IsDeclared : ℕ → Type 0
  IsDeclared s = s < length tables.symbols

  abbrev AllDeclared : Expr → Type 0
  AllDeclared e = AllByRecursion IsDeclared (occurrences e)

  abbrev tree : ℕ → Expr
  tree = tree_at (trees tables.nodes)

  each_time : (n : ℕ) (xs : List ℕ) → AllByRecursion IsDeclared xs → AllByRecursion IsDeclared (times n xs)
  each_time zero xs h = tt
  each_time (suc n) xs h = each_append IsDeclared xs (times n xs) h (each_time n xs h)

  of_node : (k : ℕ) (node : ExprNode) → NamesEntries tables node → AllByRecursion (λ child. child < k) (children node)
      → ((j : ℕ) → j < k → AllDeclared (tree j)) → AllDeclared (tree_of (trees tables.nodes) node)
  of_node k (Leaf s) named before h = (named, tt)
  of_node k (Seq f g) named before h = each_append IsDeclared (occurrences (tree f)) (occurrences (tree g)) (h f before.0) (h g before.1.0)
  of_node k (Alt f g) named before h = each_append IsDeclared (occurrences (tree f)) (occurrences (tree g)) (h f before.0) (h g before.1.0)
  of_node k (Star f) named before h = h f before.0
  of_node k (Plus f) named before h = h f before.0
  of_node k (Opt f) named before h = h f before.0
  of_node k (Mark f y) named before h = h f before.0
  of_node k (Repeat f m n) named before h = each_time n (occurrences (tree f)) (h f before.0)

  of_tree : (fuel k : ℕ) → k < fuel → k < length tables.nodes → AllDeclared (tree k)
  of_tree zero k l within = absurd (omega arith)
  of_tree (suc fuel) k l within =
      let node = get_or tables.nodes k (Leaf 0) in
      let found = slice_get-get_or tables.nodes k (Leaf 0) within in
      let before = spec.children_before k node found in
      subst AllDeclared (sym (made tables.nodes k node found before))
      (of_node k node (spec.named_entries k (Leaf 0) within) (recursion_from_All (λ child. child < k) (children node) before)
      (λ j lt. of_tree fuel j (omega arith) (omega arith)))

  of_roots : (roots : List ℕ) → AllByRecursion (λ root. root < length tables.nodes) roots
      → AllByRecursion IsDeclared (flat_map occurrences (map tree roots))
  of_roots [] h = tt
  of_roots (root ∷ roots) h =
      each_append IsDeclared (occurrences (tree root)) (flat_map occurrences (map tree roots))
      (of_tree (suc root) root (omega arith) h.0) (of_roots roots h.1)

  pub symbols_declared : All (λ s. s < length tables.symbols) (occurrence_symbols (specification tables))
  symbols_declared =
      All-from_recursion IsDeclared (occurrence_symbols (specification tables))
      (subst (λ es. AllByRecursion IsDeclared (flat_map occurrences es)) (map-append tree tables.exprs tables.scans)
      (of_roots (tables.exprs ++ tables.scans)
      (recursion_from_All (λ root. root < length tables.nodes) (tables.exprs ++ tables.scans) spec.roots_in_table)))
