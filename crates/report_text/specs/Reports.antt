-- The numbers of a report, and its lines.
use Rattle.std.specs.Prelude.{◌≡◌, ℕ, ◌*◌, ◌<◌, ◌≤◌, List, [], ◌∷◌, ◌++◌, Option, Some, None, codes, length}
use Rattle.std.specs.Fmt.{decimal}
use Rattle.rx_lang.specs.Specification.{Specification}
use Rattle.rx_lang.specs.Positions.{HasTerms, array_columns, array_rows}
use Rattle.rx_lang.specs.Squares.{IsLevel}
use Rattle.report_text.specs.declared.figures.ArrayFigures.{ArrayFigures}
use Rattle.report_text.specs.declared.figures.Figures.{Figures}
use Rattle.report_text.specs.Sizes.{array_area, blocks, leaves, tree_area_bound, tree_side_bound, wires}

-- the numbers of an array with so many terms, where there is one
abbrev pub array_figures : Specification → Option ℕ → Option ArrayFigures
array_figures spec None = None
array_figures spec (Some t) =
    Some (record { terms = t; rows = array_rows spec t; columns = array_columns spec; area = array_area spec t })

-- The numbers of a specification, from the terms of its array, the level of its tree's layout, and the sides of this layout's box.
abbrev pub figures_of : Specification → Option ℕ → ℕ → ℕ → ℕ → Figures
figures_of spec terms level width height = record {
  leaves = leaves spec;
  lines = length spec.lines;
  symbols = length spec.symbols;
  outputs = length spec.outputs;
  wires = wires spec;
  blocks = blocks spec;
  array = array_figures spec terms;
  side_bound = tree_side_bound spec level;
  width = width;
  height = height;
  area = width * height;
  area_bound = tree_area_bound spec;
}

-- An array is drawn for at most 256 symbols, and has these terms.
abbrev pub AreTerms : Specification → Option ℕ → Type 0
AreTerms spec None = 256 < leaves spec
AreTerms spec (Some t) = (leaves spec ≤ 256) × HasTerms spec t

-- ---- lines

-- a text, a space, a number and a line feed
abbrev pub number_line : List ℕ → ℕ → List ℕ
number_line name n = name ++ 32 ∷ decimal n ++ 10 ∷ []

-- the lines on what is counted
abbrev pub count_lines : Figures → List ℕ
count_lines f =
    number_line (codes "leaves") f.leaves ++ number_line (codes "lines") f.lines ++ number_line (codes "symbols") f.symbols
    ++ number_line (codes "outputs") f.outputs ++ number_line (codes "wires") f.wires ++ number_line (codes "blocks") f.blocks

-- the lines on the array, or one that there is none
abbrev pub array_lines : Option ArrayFigures → List ℕ
array_lines None = codes "pla none" ++ 10 ∷ []
array_lines (Some a) =
    number_line (codes "terms") a.terms ++ number_line (codes "pla rows") a.rows ++ number_line (codes "pla columns") a.columns
    ++ number_line (codes "pla area") a.area

-- the lines on the tree's layout: its bounds, and the box of it
abbrev pub tree_lines : Figures → List ℕ
tree_lines f =
    number_line (codes "tree side bound") f.side_bound ++ number_line (codes "tree width") f.width ++ number_line (codes "tree height") f.height
    ++ number_line (codes "tree area") f.area ++ number_line (codes "tree area bound") f.area_bound

-- the lines of a report
abbrev pub report_lines : Figures → List ℕ
report_lines f = count_lines f ++ array_lines f.array ++ tree_lines f

-- the line that says from which number, and for how many symbols, a specification was made
abbrev pub demo_line : ℕ → ℕ → List ℕ
demo_line start count = codes "demo " ++ decimal start ++ 32 ∷ decimal count ++ 10 ∷ []

-- These are the numbers of a specification whose tree's layout has a box with these sides.
pub record AreFigures (spec : Specification) (width height : ℕ) (figures : Figures) : Type 0 where
  pub terms : Option ℕ
  pub level : ℕ
  pub are_terms : AreTerms spec terms
  pub is_level : IsLevel (blocks spec) level
  pub same : figures ≡ figures_of spec terms level width height

-- The text is the report of such a specification.
pub record IsReport (spec : Specification) (width height : ℕ) (text : List ℕ) : Type 0 where
  pub figures : Figures
  pub are_figures : AreFigures spec width height figures
  pub lines : text ≡ report_lines figures
