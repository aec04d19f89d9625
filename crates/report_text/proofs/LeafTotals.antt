-- How many symbols the tables of a specification have.
use Rattle.std.proofs.Common.{◌≡◌, ◌∙◌, ℕ, ◌≤◌, List, [], ◌∷◌, ◌++◌, length, map, flat_map, refl, ap, arith}
use Rattle.std.proofs.lemmas.List.{map-append}
use Rattle.rx_lang.specs.Expression.{Expr}
use Rattle.rx_lang.specs.Copies.{occurrences}
use Rattle.rx_lang.specs.Tables.{IsSpecification, Tables, specification, table_occurrences, tree_at, trees}
use Rattle.report_text.specs.Sizes.{leaves, wires}

occurring : (made : List Expr) (roots : List ℕ)
    → flat_map (λ root. occurrences (tree_at made root)) roots ≡ flat_map occurrences (map (tree_at made) roots)
occurring made [] = refl
occurring made (root ∷ roots) = ap (λ s. occurrences (tree_at made root) ++ s) (occurring made roots)

same_leaves : (tables : Tables) → length (table_occurrences tables) ≡ leaves (specification tables)
same_leaves tables =
    let made = trees tables.nodes in
    ap length (occurring made (tables.exprs ++ tables.scans))
    ∙ ap (λ es. length (flat_map occurrences es)) (map-append (tree_at made) tables.exprs tables.scans)

pub few_leaves : (tables : Tables) → IsSpecification tables → leaves (specification tables) ≤ 4096
few_leaves tables h = omega (arith, same_leaves tables, h.few_leaves)

pub few_wires : (tables : Tables) → IsSpecification tables → wires (specification tables) ≤ 64
few_wires tables h = omega (arith, h.few_lines, h.few_symbols, h.few_outputs)
