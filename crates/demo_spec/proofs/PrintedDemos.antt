-- The texts of specifications that are made.
use Rattle.std.proofs.Common.{◌≡◌, ℕ, Bool, true, false, List, ◌++◌, map, All, refl, ap, sym, subst}
use Rattle.std.proofs.lemmas.List.Elements.{All-from_recursion}
use Rattle.rx_lang.specs.declared.expr_node.ExprNode.{ExprNode}
use Rattle.rx_lang.specs.Tables.{IsSpecification, Tables, names, specification}
use Rattle.rx_syntax.specs.Accepted.{Accepted}
use Rattle.rx_syntax.specs.Printable.{IsNameOf, IsPrintable, OpensFew, version_for}
use Rattle.rx_syntax.specs.Printed.{needs_version_2, printed}
use Rattle.demo_spec.specs.Generator.{demo_lines, demo_outputs, demo_symbols}
use Rattle.demo_spec.specs.Tables.{demo_tables}

-- all names
abbrev declared : List (List ℕ)
declared = demo_lines ++ map (λ s. s.name) demo_symbols ++ demo_outputs

are_names : (b : Bool) → All (IsNameOf (version_for b)) declared
are_names true =
    All-from_recursion (IsNameOf (version_for true)) declared
    ((refl, refl), ((refl, refl), ((refl, refl), ((refl, refl), ((refl, refl), ((refl, refl), ((refl, refl), ((refl, refl), tt))))))))
are_names false =
    All-from_recursion (IsNameOf (version_for false)) declared
    ((refl, refl), ((refl, refl), ((refl, refl), ((refl, refl), ((refl, refl), ((refl, refl), ((refl, refl), ((refl, refl), tt))))))))

-- the text of such tables is accepted where it opens few parentheses
pub accepted_text : ((limit : ℕ) (tables : Tables) → IsPrintable limit tables
    → Accepted (printed (specification tables)) limit (specification tables))
    → (nodes : List ExprNode) (exprs : List ℕ) (tables : Tables) → tables ≡ demo_tables nodes exprs → IsSpecification (demo_tables nodes exprs)
    → OpensFew (printed (specification tables)) → Accepted (printed (specification tables)) 4096 (specification tables)
accepted_text law nodes exprs tables is keeps opens =
    let version = version_for (needs_version_2 (specification tables)) in
    let sound : IsSpecification tables = subst IsSpecification (sym is) keeps in
    let same : names tables ≡ declared = ap names is in
    law 4096 tables (record {
      keeps = sound;
      few_leaves = sound.few_leaves;
      bears_names = subst (λ ns. All (IsNameOf version) ns) (sym same) (are_names (needs_version_2 (specification tables)));
      opens_few = opens;
    })
