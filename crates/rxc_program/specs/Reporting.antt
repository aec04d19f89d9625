-- The commands `report` and `demo`: how large a specification is, and its layouts.
use Rattle.std.specs.Prelude.{◌≡◌, ⊤, ℕ, ◌++◌, true, false, List}
use Rattle.rx_lang.specs.Specification.{Specification}
use Rattle.rx_syntax.specs.Accepted.{Accepted}
use Rattle.report_text.specs.Reports.{AreFigures, IsReport, demo_line}
use Rattle.report_text.specs.declared.figures.Figures.{Figures}
use Rattle.demo_spec.specs.Generator.{demo}
use Rattle.rxc_program.specs.Behaviour.{Behaviour}
use Rattle.rxc_program.specs.Compiling.{AcceptsSpecification, BreaksSpecification}
use Rattle.rxc_program.specs.Files.{DrawsBox, IsFileOf, most_leaves, tree_file}
use Rattle.rxc_program.specs.declared.status.Status.TheVariants.{Done}

-- These are the sides of the box of a file that `tree` may write for the specification.
pub record AreSidesOf (spec : Specification) (width height : ℕ) : Type 0 where
  pub file : List ℕ
  pub is_file : IsFileOf tree_file spec file
  pub box : DrawsBox file width height

-- These are the numbers of the specification, with the sides of such a file's box.
pub record AreFiguresOf (spec : Specification) (figures : Figures) : Type 0 where
  pub width : ℕ
  pub height : ℕ
  pub sides : AreSidesOf spec width height
  pub are : AreFigures spec width height figures

-- The text is the report of the specification, with the sides of such a file's box.
pub record IsReportOf (spec : Specification) (text : List ℕ) : Type 0 where
  pub width : ℕ
  pub height : ℕ
  pub sides : AreSidesOf spec width height
  pub report : IsReport spec width height text

-- The text is the report of the specification that the input is.
pub record IsReported (input text : List ℕ) : Type 0 where
  pub spec : Specification
  pub accepted : Accepted input (most_leaves tree_file) spec
  pub report : IsReportOf spec text

-- What `report` does.
abbrev pub reporting : Behaviour
reporting = record {
  reads = true;
  memory_first = true;
  Accepts = AcceptsSpecification (most_leaves tree_file);
  Breaks = BreaksSpecification (most_leaves tree_file);
  Outputs = λ text output status. (status ≡ Done) × IsReported text output;
}

-- The text is a line with both numbers, and the report of the specification that is made from them.
pub record IsDemo (start leaves : ℕ) (text : List ℕ) : Type 0 where
  pub report : List ℕ
  pub is_report : IsReportOf (demo start leaves) report
  pub lines : text ≡ demo_line start leaves ++ report

-- What `demo` does: it reads nothing, and so has nothing to refuse.
abbrev pub demonstrating : ℕ → ℕ → Behaviour
demonstrating start leaves = record {
  reads = false;
  memory_first = true;
  Accepts = λ text. ⊤;
  Breaks = λ text code place. ⊥;
  Outputs = λ text output status. (status ≡ Done) × IsDemo start leaves output;
}
