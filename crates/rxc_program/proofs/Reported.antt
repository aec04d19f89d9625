-- Reports, and the texts of `demo`.
use Rattle.std.proofs.Common.{◌≡◌, ℕ, ◌+◌, ◌*◌, ◌<◌, ◌≤◌, arith, ◌++◌, true, List, All, Result, Ok, Err, refl, sym, ap, subst}
use Rattle.std.specs.Prelude.{IfOk}
use Rattle.std.specs.Int.{div_ceil}
use Rattle.std.proofs.lemmas.Grind.{div_ceil_times}
use Rattle.std.proofs.lemmas.List.Elements.{All-from_recursion}
use Rattle.rx_lang.specs.Specification.{Specification}
use Rattle.rx_lang.specs.Tables.{Tables, specification}
use Rattle.rx_text.specs.Name.{is_name}
use Rattle.report_text.specs.Reports.{demo_line, report_lines}
use Rattle.report_text.specs.declared.figures.Figures.{Figures}
use Rattle.demo_spec.specs.Generator.{demo, demo_lines, demo_outputs}
use Rattle.rxc_program.specs.Reporting.{AreFiguresOf, IsDemo, IsReportOf}

-- a full binary tree of so many nodes has half as many leaves, rounded up
pub half_rounded_up : (nodes leaves : ℕ) → nodes + 1 ≡ 2 * leaves → div_ceil nodes 2 ≡ leaves
half_rounded_up nodes leaves counted = (let bounds = div_ceil_times nodes 2 (omega arith) in by (div_ceil nodes 2) bounds.0 bounds.1)
  where
    by : (half : ℕ) → nodes ≤ half * 2 → half * 2 < nodes + 2 → half ≡ leaves
    by half low high = omega (arith, counted, low, high)

-- the lines of its figures are the report of a specification
report_of_figures : (spec : Specification) (figures : Figures) → AreFiguresOf spec figures → IsReportOf spec (report_lines figures)
report_of_figures spec figures are = record {
  width = are.width;
  height = are.height;
  sides = are.sides;
  report = record { figures = figures; are_figures = are.are; lines = refl };
}

module _ {V E : Type 0} (items : V → List ℕ) (spec : Specification) (figures : Figures) (are : AreFiguresOf spec figures) where
  -- a text with these lines is the report
  pub as_report : (result : Result V E) → IfOk result (λ text. items text ≡ report_lines figures) → IfOk result (λ text. IsReportOf spec (items text))
  as_report (Ok text) is = subst (IsReportOf spec) (sym is) (report_of_figures spec figures are)
  as_report (Err fault) is = tt

  -- and behind a line with both numbers what `demo` writes
  pub as_demo : (start leaves : ℕ) → spec ≡ demo start leaves → (result : Result V E)
      → IfOk result (λ text. items text ≡ demo_line start leaves ++ report_lines figures) → IfOk result (λ text. IsDemo start leaves (items text))
  as_demo start leaves made (Ok text) is = record {
    report = report_lines figures;
    is_report = subst (λ s. IsReportOf s (report_lines figures)) made (report_of_figures spec figures are);
    lines = is;
  }
  as_demo start leaves made (Err fault) is = tt

-- ---- names of a specification that is made

pub lines_named : (start leaves : ℕ) (tables : Tables) → specification tables ≡ demo start leaves → All (λ name. is_name name ≡ true) tables.lines
lines_named start leaves tables made =
    subst (λ names. All (λ name. is_name name ≡ true) names) (sym (ap (λ (s : Specification). s.lines) made))
    (All-from_recursion (λ name. is_name name ≡ true) demo_lines (refl, (refl, tt)))

pub outputs_named : (start leaves : ℕ) (tables : Tables) → specification tables ≡ demo start leaves
    → All (λ name. is_name name ≡ true) tables.outputs
outputs_named start leaves tables made =
    subst (λ names. All (λ name. is_name name ≡ true) names) (sym (ap (λ (s : Specification). s.outputs) made))
    (All-from_recursion (λ name. is_name name ≡ true) demo_outputs (refl, (refl, tt)))
