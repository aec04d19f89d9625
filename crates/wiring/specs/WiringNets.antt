-- Wires that make nets: spans of poly and runs of metal that hang together by contacts, and the modules that they are.
use Rattle.std.specs.Prelude.{◌≡◌, ◌≢◌, ◌⊎◌, ⊤, ℕ, ◌+◌, ◌<◌, ◌≤◌, ◌==◌, if◌then◌else◌, Option, Some, None, IfSome, IsSomeAnd, unwrap_or, List, [], ◌∷◌}
use Rattle.std.specs.List.{AllByRecursion}
use Rattle.std.specs.Option.{option_map_or}
use Rattle.stick_grid.specs.Pieces.{Piece}
use Rattle.stick_grid.specs.Modules.{IsModule}
use Rattle.wiring.specs.Wirings.{Span, Run, Wiring, wiring_plan, wiring_border, poly_net}

-- ---- spans

-- The spans go from north to south, from a border on, with a border that none crosses between each two; their nets are below the count.
abbrev pub AreSpans : ℕ → ℕ → ℕ → List Span → Type 0
AreSpans rows count from [] = ⊤
AreSpans rows count from (s ∷ spans) =
    (from ≤ s.first) × (s.first ≤ s.last) × (s.last ≤ rows) × (s.net < count) × AreSpans rows count (s.last + 2) spans

-- The span is one of these.
abbrev pub IsOneOf : List Span → Span → Type 0
IsOneOf [] s = ⊥
IsOneOf (t ∷ spans) s = (t ≡ s) ⊎ IsOneOf spans s

-- The span neither begins nor ends in the row.
abbrev pub PassesRow : ℕ → Span → Type 0
PassesRow row s = (s.first ≢ row + 1) × (s.last ≢ row)

-- ---- runs

-- The ends of a run are columns of the plan, the first to the west of the second.
abbrev pub AreEnds : ℕ → Option ℕ → Option ℕ → Type 0
AreEnds cols None None = ⊤
AreEnds cols (Some from) None = from < cols
AreEnds cols None (Some to) = to < cols
AreEnds cols (Some from) (Some to) = (from < to) × (to < cols)

-- The column lies to the east of where a run begins, or to the west of where it ends.
abbrev pub IsEastOf : Option ℕ → ℕ → Type 0
IsEastOf from col = IfSome from (λ end. end < col)

abbrev pub IsWestOf : Option ℕ → ℕ → Type 0
IsWestOf to col = IfSome to (λ end. col < end)

-- A contact: the run of the row ends in the column, where a span of its net crosses the border north or south of the row.
pub record Meets (w : Wiring) (row col : ℕ) (run : Run) (s : Span) : Type 0 where
  pub is_row : row < w.rows
  pub is_col : col < w.cols
  pub has_run : w.run row ≡ Some run
  pub ends : (run.from ≡ Some col) ⊎ (run.to ≡ Some col)
  pub has_span : IsOneOf (w.spans col) s
  pub to_row : s.first ≤ row + 1
  pub from_row : row ≤ s.last
  pub one_net : s.net ≡ run.net

-- A run ends on spans, and passes columns whose spans pass its row.
pub record IsRun (w : Wiring) (count row : ℕ) (run : Run) : Type 0 where
  pub ends : AreEnds w.cols run.from run.to
  pub net : run.net < count
  pub west : IfSome run.from (λ col. (s : Span) × Meets w row col run s)
  pub east : IfSome run.to (λ col. (s : Span) × Meets w row col run s)
  pub passes : (col : ℕ) → col < w.cols → IsEastOf run.from col → IsWestOf run.to col → AllByRecursion (PassesRow row) (w.spans col)

-- ---- nets

-- a wire: a span of a column, or the run of a row
pub data Wire : Type 0 where
  poly : (col : ℕ) (s : Span) → Wire
  metal : (row : ℕ) → Wire

-- The plan has the wire, and it is of the net.
abbrev pub HasWire : Wiring → ℕ → Wire → Type 0
HasWire w net (poly col s) = (col < w.cols) × IsOneOf (w.spans col) s × (s.net ≡ net)
HasWire w net (metal row) = (row < w.rows) × IsSomeAnd (w.run row) (λ (run : Run). run.net ≡ net)

-- Contacts lead from the first wire to the second.
pub data Leads (w : Wiring) : Wire → Wire → Type 0 where
  here : (a : Wire) → Leads w a a
  to_metal : (row col : ℕ) (run : Run) (s : Span) (b : Wire) → Meets w row col run s → Leads w (metal row) b → Leads w (poly col s) b
  to_poly : (row col : ℕ) (run : Run) (s : Span) (b : Wire) → Meets w row col run s → Leads w (poly col s) b → Leads w (metal row) b

-- The spans and the runs are such, and each of them leads to one wire of its net, the home; there is one for each number below the count.
pub record IsWiring (w : Wiring) (count : ℕ) : Type 0 where
  pub some_row : 1 ≤ w.rows
  pub some_col : 1 ≤ w.cols
  pub spans : (col : ℕ) → col < w.cols → AreSpans w.rows count 0 (w.spans col)
  pub runs : (row : ℕ) → row < w.rows → IfSome (w.run row) (IsRun w count row)
  pub home : ℕ → Wire
  pub has_home : (net : ℕ) → net < count → HasWire w net (home net)
  pub spans_lead : (col : ℕ) → col < w.cols → AllByRecursion (λ (s : Span). Leads w (poly col s) (home s.net)) (w.spans col)
  pub runs_lead : (row : ℕ) → row < w.rows → IfSome (w.run row) (λ (run : Run). Leads w (metal row) (home run.net))

-- ---- modules

-- the net of the run of a row, and of the span that crosses the border north or south of the row
abbrev pub run_net : Wiring → ℕ → ℕ
run_net w row = option_map_or (λ (run : Run). run.net) (w.run row) 0

abbrev pub span_net : Wiring → ℕ → ℕ → ℕ
span_net w row col = unwrap_or (poly_net w row col) (unwrap_or (poly_net w (row + 1) col) 0)

-- the net that a net of a tile is: net 0 is metal and all that meets it under a cut, net 1 is other poly
abbrev pub wire_name : Wiring → Piece → ℕ
wire_name w p = if p.net == 0 then run_net w p.row else span_net w p.row p.col

-- Wires that make nets are a module without devices, whose nets are those of the wires.
abbrev pub WiringsAreModules : Type 0
WiringsAreModules = (w : Wiring) (count vdd : ℕ) → IsWiring w count → IsModule (wiring_plan w) count (wire_name w) vdd [] (wiring_border w)
