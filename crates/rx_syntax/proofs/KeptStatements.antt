-- Statements of both kinds, in the order of a text, and sorted as they are printed.
use Rattle.std.proofs.Common.{◌≡◌, ◌+◌, ◌≤◌, Bool, true, false, List, [], ◌∷◌, ◌++◌, length, map, refl, ap, ◌∙◌, arith, length-append}
use Rattle.std.specs.Prelude.{◌≢◌, not, if◌then◌else◌}
use Rattle.rx_lang.specs.Expression.{Expr}
use Rattle.rx_syntax.specs.Grammar.{Tree, StatementTree}
use Rattle.rx_syntax.specs.Accepted.{both_scan, trees_of}
use Rattle.rx_syntax.proofs.PrintedSections.{Statement, statement_of}
use Rattle.rx_syntax.proofs.CountedUses.{size, EachExpr, total}
use Rattle.rx_syntax.proofs.PrintedText.{in_kind}

pub each_expr_both : (Q : Expr → Type 0) (xs ys : List Statement) → EachExpr Q xs → EachExpr Q ys → EachExpr Q (xs ++ ys)
each_expr_both Q [] ys h i = i
each_expr_both Q (x ∷ xs) ys (first, h) i = (first, each_expr_both Q xs ys h i)

pub total_both : (xs ys : List Statement) → total (xs ++ ys) ≡ total xs + total ys
total_both [] ys = omega arith
total_both (x ∷ xs) ys = omega (arith, total_both xs ys)

-- the expressions of the statements of one kind
abbrev pub exprs_of : Bool → List Statement → List Expr
exprs_of scans [] = []
exprs_of scans (s ∷ ss) = if both_scan scans s.scans then s.expr ∷ exprs_of scans ss else exprs_of scans ss

exprs_only_scans : (scans : List Expr) → exprs_of false (map (in_kind true) scans) ≡ []
exprs_only_scans [] = refl
exprs_only_scans (e ∷ scans) = exprs_only_scans scans

scans_only_scans : (scans : List Expr) → exprs_of true (map (in_kind true) scans) ≡ scans
scans_only_scans [] = refl
scans_only_scans (e ∷ scans) = ap (λ es. e ∷ es) (scans_only_scans scans)

pub exprs_printed : (es scans : List Expr) → exprs_of false (map (in_kind false) es ++ map (in_kind true) scans) ≡ es
exprs_printed [] scans = exprs_only_scans scans
exprs_printed (e ∷ es) scans = ap (λ es. e ∷ es) (exprs_printed es scans)

pub scans_printed : (es scans : List Expr) → exprs_of true (map (in_kind false) es ++ map (in_kind true) scans) ≡ scans
scans_printed [] scans = scans_only_scans scans
scans_printed (e ∷ es) scans = scans_printed es scans

module _ (means : Tree → Expr) where
  -- what the statements of one kind say, in order
  abbrev of_kind : Bool → List StatementTree → List Statement
  of_kind scans ss = map (in_kind scans) (map means (trees_of scans ss))

  -- first the `expr` statements and then the `scan` statements
  abbrev pub sorted : List StatementTree → List Statement
  sorted ss = of_kind false ss ++ of_kind true ss

  each_of_kind : (Q : Expr → Type 0) (scans : Bool) (ss : List StatementTree) → EachExpr Q (map (statement_of means) ss) → EachExpr Q (of_kind scans ss)
  each_of_kind Q scans [] h = tt
  each_of_kind Q scans (s ∷ ss) (first, h) = by_test (both_scan scans s.scans) (each_of_kind Q scans ss h)
    where
      by_test : (b : Bool) → EachExpr Q (of_kind scans ss)
          → EachExpr Q (map (in_kind scans) (map means (if b then s.tree ∷ trees_of scans ss else trees_of scans ss)))
      by_test true later = (first, later)
      by_test false later = later

  pub each_sorted : (Q : Expr → Type 0) (ss : List StatementTree) → EachExpr Q (map (statement_of means) ss) → EachExpr Q (sorted ss)
  each_sorted Q ss h = each_expr_both Q (of_kind false ss) (of_kind true ss) (each_of_kind Q false ss h) (each_of_kind Q true ss h)

  total_kinds : (ss : List StatementTree) → total (of_kind false ss) + total (of_kind true ss) ≡ total (map (statement_of means) ss)
  total_kinds [] = refl
  total_kinds (s ∷ ss) = by_scans s.scans (total_kinds ss)
    where
      by_scans : (b : Bool) → total (of_kind false ss) + total (of_kind true ss) ≡ total (map (statement_of means) ss)
          → total (map (in_kind false) (map means (if not b then s.tree ∷ trees_of false ss else trees_of false ss)))
          + total (map (in_kind true) (map means (if b then s.tree ∷ trees_of true ss else trees_of true ss))) ≡ size (means s.tree) + total (map (statement_of means) ss)
      by_scans true later = omega (arith, later)
      by_scans false later = omega (arith, later)

  pub total_sorted : (ss : List StatementTree) → total (sorted ss) ≡ total (map (statement_of means) ss)
  total_sorted ss = total_both (of_kind false ss) (of_kind true ss) ∙ total_kinds ss

  length_kinds : (ss : List StatementTree) → length (of_kind false ss) + length (of_kind true ss) ≡ length ss
  length_kinds [] = refl
  length_kinds (s ∷ ss) = by_scans s.scans (length_kinds ss)
    where
      by_scans : (b : Bool) → length (of_kind false ss) + length (of_kind true ss) ≡ length ss
          → length (map (in_kind false) (map means (if not b then s.tree ∷ trees_of false ss else trees_of false ss)))
          + length (map (in_kind true) (map means (if b then s.tree ∷ trees_of true ss else trees_of true ss))) ≡ length (s ∷ ss)
      by_scans true later = omega (arith, later)
      by_scans false later = omega (arith, later)

  pub some_sorted : (ss : List StatementTree) → 1 ≤ length ss → sorted ss ≢ []
  some_sorted ss some e =
      let none : length (sorted ss) ≡ 0 = ap (λ xs. length xs) e in
      omega (arith, some, none, length-append (of_kind false ss) (of_kind true ss), length_kinds ss)

  pub exprs_said : (scans : Bool) (ss : List StatementTree) → exprs_of scans (map (statement_of means) ss) ≡ map means (trees_of scans ss)
  exprs_said scans [] = refl
  exprs_said scans (s ∷ ss) = by_test (both_scan scans s.scans) (exprs_said scans ss)
    where
      by_test : (b : Bool) → exprs_of scans (map (statement_of means) ss) ≡ map means (trees_of scans ss)
          → (if b then means s.tree ∷ exprs_of scans (map (statement_of means) ss) else exprs_of scans (map (statement_of means) ss))
          ≡ map means (if b then s.tree ∷ trees_of scans ss else trees_of scans ss)
      by_test true later = ap (λ es. means s.tree ∷ es) later
      by_test false later = later
