-- An accepted specification has no more symbols than its limit.
use Rattle.std.proofs.Common.{◌≡◌, ℕ, ◌≤◌, List, [], ◌∷◌, ◌++◌, length, map, sum_by, flat_map, refl, sym, subst, arith, length-append}
use Rattle.std.proofs.lemmas.List.Sums.{sum_by-append, sum_by-cons}
use Rattle.rx_lang.specs.Copies.{occurrences}
use Rattle.rx_lang.specs.Expression.{Expr}
use Rattle.rx_lang.specs.Positions.{occurrence_symbols}
use Rattle.rx_lang.specs.Specification.{Specification}
use Rattle.rx_syntax.specs.Lexemes.{word_of}
use Rattle.rx_syntax.specs.Accepted.{Accepted, number_in, said}
use Rattle.rx_syntax.proofs.Faultless.{few_symbols}
use Rattle.rx_syntax.proofs.Growth.{leaves, occurrences_leaves}

counted : (es : List Expr) → length (flat_map occurrences es) ≡ sum_by leaves es
counted [] = refl
counted (e ∷ es) =
    omega (arith, length-append (occurrences e) (flat_map occurrences es), occurrences_leaves e, counted es, sum_by-cons leaves e es)

pub few_accepted : (text : List ℕ) (limit : ℕ) (spec : Specification) → Accepted text limit spec → length (occurrence_symbols spec) ≤ limit
few_accepted text limit spec accepted =
    let syntax = accepted.syntax in
    let is = said text syntax in
    let few =
    few_symbols text limit (number_in (map (λ s. word_of text s.name) syntax.symbols)) (number_in (map (word_of text) syntax.outputs)) syntax accepted.no_fault in
    subst (λ s. length (occurrence_symbols s) ≤ limit) (sym accepted.is)
    (omega (arith, few, counted (is.statements ++ is.scans), sum_by-append leaves is.statements is.scans))
