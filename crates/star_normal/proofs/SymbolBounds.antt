-- The symbols of a specification's expressions have numbers in its table.
use Rattle.std.proofs.Common.{ℕ, zero, suc, ◌<◌, List, [], ◌∷◌, ◌++◌, map, flat_map, fold, length, All, arith}
use Rattle.std.specs.List.{AllByRecursion}
use Rattle.std.proofs.lemmas.List.Concat.{flat_map-append}
use Rattle.std.proofs.lemmas.List.Elements.{All-append, All-from_recursion, recursion_from_All}
use Rattle.rx_lang.specs.declared.expr_node.ExprNode.{ExprNode}
use Rattle.rx_lang.specs.declared.expr_node.ExprNode.TheVariants.{Leaf, Seq, Alt, Star, Plus, Opt, Mark, Repeat}
use Rattle.rx_lang.specs.Expression.{Expr, symbol}
use Rattle.rx_lang.specs.Copies.{occurrences, times}
use Rattle.rx_lang.specs.Tables.{Tables, IsSpecification, NamesEntries, tree_at, tree_of, trees, specification}

-- every symbol of the expression has a number below this one
abbrev Below : ℕ → Expr → Type 0
Below m e = All (λ s. s < m) (occurrences e)

module _ (tables : Tables) (spec : IsSpecification tables) where
  abbrev m : ℕ
  m = length tables.symbols

  first : Below m (symbol 0)
  first = let some = spec.some_symbols in All-from_recursion (λ s. s < m) (0 ∷ []) (omega (arith, some), tt)

  at : (before : List Expr) → All (Below m) before → (k : ℕ) → Below m (tree_at before k)
  at before h k = by_recursion before k (recursion_from_All (Below m) before h)
    where
      by_recursion : (es : List Expr) (j : ℕ) → AllByRecursion (Below m) es → Below m (tree_at es j)
      by_recursion [] j b = first
      by_recursion (e ∷ es) zero b = b.0
      by_recursion (e ∷ es) (suc j) b = by_recursion es j b.1

  all_times : (n : ℕ) (xs : List ℕ) → All (λ s. s < m) xs → All (λ s. s < m) (times n xs)
  all_times zero xs h = All-from_recursion (λ s. s < m) [] tt
  all_times (suc n) xs h = All-append (λ s. s < m) xs (times n xs) h (all_times n xs h)

  one : (before : List Expr) → All (Below m) before → (node : ExprNode) → NamesEntries tables node → Below m (tree_of before node)
  one before h (Leaf s) named = All-from_recursion (λ x. x < m) (s ∷ []) (named, tt)
  one before h (Seq f g) named = All-append (λ s. s < m) (occurrences (tree_at before f)) (occurrences (tree_at before g)) (at before h f) (at before h g)
  one before h (Alt f g) named = All-append (λ s. s < m) (occurrences (tree_at before f)) (occurrences (tree_at before g)) (at before h f) (at before h g)
  one before h (Star f) named = at before h f
  one before h (Plus f) named = at before h f
  one before h (Opt f) named = at before h f
  one before h (Mark f y) named = at before h f
  one before h (Repeat f k n) named = all_times n (occurrences (tree_at before f)) (at before h f)

  all_from : (nodes : List ExprNode) (before : List Expr) → All (Below m) before → AllByRecursion (NamesEntries tables) nodes
      → All (Below m) (fold (λ done node. done ++ tree_of done node ∷ []) before nodes)
  all_from [] before h named = h
  all_from (node ∷ nodes) before h named =
      all_from nodes (before ++ tree_of before node ∷ [])
      (All-append (Below m) before (tree_of before node ∷ []) h (All-from_recursion (Below m) (tree_of before node ∷ []) (one before h node named.0, tt))) named.1

  all_trees : All (Below m) (trees tables.nodes)
  all_trees =
      all_from tables.nodes [] (All-from_recursion (Below m) [] tt) (recursion_from_All (NamesEntries tables) tables.nodes spec.named_entries)

  statements : (exprs : List ℕ) → All (λ s. s < m) (flat_map occurrences (map (tree_at (trees tables.nodes)) exprs))
  statements [] = All-from_recursion (λ s. s < m) [] tt
  statements (e ∷ exprs) =
      All-append (λ s. s < m) (occurrences (tree_at (trees tables.nodes) e)) (flat_map occurrences (map (tree_at (trees tables.nodes)) exprs))
      (at (trees tables.nodes) all_trees e) (statements exprs)

  pub symbols_below : All (λ s. s < length tables.symbols) (flat_map occurrences ((specification tables).statements ++ (specification tables).scans))
  symbols_below =
      rw (flat_map-append occurrences (specification tables).statements (specification tables).scans)
      (All-append (λ s. s < m) (flat_map occurrences (specification tables).statements) (flat_map occurrences (specification tables).scans) (statements tables.exprs) (statements tables.scans))
