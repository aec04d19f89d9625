-- Nets of tiles along spans and runs, and over contacts, are joined.
use Rattle.std.proofs.Common.{◌≡◌, ℕ, zero, suc, ◌+◌, ◌-◌, ◌<◌, ◌≤◌, min, inl, inr, true, if◌then◌else◌, Bool, Option, Some, refl, sym, ap, ◌∙◌, subst, arith}
use Rattle.std.specs.Option.{option_map_or}
use Rattle.std.proofs.lemmas.Bool.{cases_lt}
use Rattle.geom.specs.declared.layer.Layer.TheVariants.{Poly, Metal}
use Rattle.micro_tiles.specs.declared.side.Port.{Port}
use Rattle.micro_tiles.specs.declared.side.Side.TheVariants.{North, East, South, West}
use Rattle.stick_grid.specs.Plans.{Plan}
use Rattle.stick_grid.specs.Pieces.{Piece, MeetsAtEast, MeetsAtSouth, Connected}
use Rattle.stick_grid.specs.Pieces.Connected.{same, east, south}
use Rattle.stick_grid.specs.Transistors.{piece}
use Rattle.stick_grid.specs.Names.{PathsJoin}
use Rattle.wiring.specs.Wirings.{Span, Run, Wiring, has_poly, has_metal, has_contact, wiring_plan}
use Rattle.wiring.specs.WiringNets.{IsOneOf, Meets, Wire, Leads, IsWiring}
use Rattle.wiring.specs.WiringNets.Wire.{poly, metal}
use Rattle.wiring.specs.WiringNets.Leads.{here, to_metal, to_poly}
use Rattle.wiring.proofs.Spans.{Touches, span_of}
use Rattle.wiring.proofs.Ends.{OnRun, start_of, from_start, between, end_on, end_there}
use Rattle.wiring.proofs.Tiles.{poly_port, metal_port}
use Rattle.wiring.proofs.WireTiles.{run_is, poly_at, metal_at, contact_at, has, poly_number}

-- the first column of the run
abbrev pub first_column : Option Run → ℕ
first_column o = option_map_or (λ (run : Run). start_of run.from) o 0

module _ (w : Wiring) (count : ℕ) (is : IsWiring w count) (paths : PathsJoin (wiring_plan w)) where
  abbrev plan : Plan
  plan = wiring_plan w

  abbrev pub poly_piece : ℕ → ℕ → Piece
  poly_piece row col = piece row col (poly_number w count is row col)

  -- where a wire is seen: a span in the row south of its first border, if there is one, and a run in its first column
  abbrev pub span_row : Span → ℕ
  span_row s = min s.first (w.rows - 1)

  abbrev pub piece_of : Wire → Piece
  piece_of (poly col s) = poly_piece (span_row s) col
  piece_of (metal row) = piece row (first_column (w.run row)) 0

  pub at_home : (col : ℕ) (s : Span) → col < w.cols → IsOneOf (w.spans col) s → (span_row s < w.rows) × Touches (span_row s) s
  at_home col s is_col o =
      let i = (span_of w.rows count 0 (w.spans col) s (is.spans col is_col) o).is_span in
      let u = i.upward in
      let l = i.inside in
      let some = is.some_row in
      (omega arith, record { to_row = omega arith; from_row = omega arith })

  -- ---- along a span

  step_south : (row col : ℕ) → row + 1 < w.rows → col < w.cols → has_poly w (row + 1) col ≡ true
      → MeetsAtSouth plan (poly_piece row col) (poly_piece (row + 1) col)
  step_south row col is_row is_col h =
      let upper = has w count is row col (omega arith) is_col in
      let lower = has w count is (row + 1) col is_row is_col in
      record {
        layer = Poly;
        row = refl;
        col = refl;
        is_row = is_row;
        is_col = is_col;
        carried = ap (λ (q : Port). q.other) (upper.south ∙ ap poly_port h);
        first = sym (upper.of_poly South);
        second = sym (lower.of_poly North);
      }

  down_span : (col : ℕ) (s : Span) → col < w.cols → IsOneOf (w.spans col) s → (n row : ℕ) → s.first ≤ row + 1 → row + n ≤ s.last
      → row + n < w.rows → Connected plan (poly_piece row col) (poly_piece (row + n) col)
  down_span col s is_col o zero row l u below =
      let e : row ≡ row + 0 = omega arith in
      subst (λ (r : ℕ). Connected plan (poly_piece row col) (poly_piece r col)) e (same (poly_piece row col))
  down_span col s is_col o (suc n) row l u below =
      let e : row + 1 + n ≡ row + suc n = omega arith in
      let rest = down_span col s is_col o n (row + 1) (omega arith) (omega arith) (omega arith) in
      let step = step_south row col (omega arith) is_col (poly_at w count is (row + 1) col s is_col o l (omega arith)) in
      subst (λ (r : ℕ). Connected plan (poly_piece row col) (poly_piece r col)) e
      (south (poly_piece row col) (poly_piece (row + 1) col) (poly_piece (row + 1 + n) col) step rest)

  down_to : (col : ℕ) (s : Span) (from to : ℕ) → col < w.cols → IsOneOf (w.spans col) s → Touches from s → Touches to s → from ≤ to → to < w.rows
      → Connected plan (poly_piece from col) (poly_piece to col)
  down_to col s from to is_col o a b l below =
      let e : from + (to - from) ≡ to = omega arith in
      let x = b.from_row in
      subst (λ (r : ℕ). Connected plan (poly_piece from col) (poly_piece r col)) e
      (down_span col s is_col o (to - from) from a.to_row (omega arith) (omega arith))

  pub span_joined : (row col : ℕ) (s : Span) → row < w.rows → col < w.cols → IsOneOf (w.spans col) s → Touches row s
      → Connected plan (poly_piece row col) (piece_of (poly col s))
  span_joined row col s is_row is_col o t =
      let h = at_home col s is_col o in
      elim (cases_lt row (span_row s)) [
        | inl l ↦ down_to col s row (span_row s) is_col o t h.1 (omega arith) h.0
        | inr l ↦
            paths.back (poly_piece (span_row s) col) (poly_piece row col) (down_to col s (span_row s) row is_col o h.1 t l is_row)
      ]

  -- ---- along a run

  step_east : (row col : ℕ) → row < w.rows → col + 1 < w.cols → has_metal w row (col + 1) ≡ true
      → MeetsAtEast plan (piece row col 0) (piece row (col + 1) 0)
  step_east row col is_row is_col h =
      let one = has w count is row col is_row (omega arith) in
      let other = has w count is row (col + 1) is_row is_col in
      record {
        layer = Metal;
        row = refl;
        col = refl;
        is_row = is_row;
        is_col = is_col;
        carried = ap (λ (q : Port). q.metal) (one.east ∙ ap metal_port h);
        first = sym (one.of_metal East);
        second = sym (other.of_metal West);
      }

  along_run : (row : ℕ) → row < w.rows → (n col : ℕ) → ((border : ℕ) → col < border → border ≤ col + n → has_metal w row border ≡ true)
      → col + n < w.cols → Connected plan (piece row col 0) (piece row (col + n) 0)
  along_run row is_row zero col each below =
      let e : col ≡ col + 0 = omega arith in
      subst (λ (c : ℕ). Connected plan (piece row col 0) (piece row c 0)) e (same (piece row col 0))
  along_run row is_row (suc n) col each below =
      let e : col + 1 + n ≡ col + suc n = omega arith in
      let rest = along_run row is_row n (col + 1) (λ b l u. each b (omega arith) (omega arith)) (omega arith) in
      let step = step_east row col is_row (omega arith) (each (col + 1) (omega arith) (omega arith)) in
      subst (λ (c : ℕ). Connected plan (piece row col 0) (piece row c 0)) e
      (east (piece row col 0) (piece row (col + 1) 0) (piece row (col + 1 + n) 0) step rest)

  pub run_joined : (row col : ℕ) (run : Run) → row < w.rows → col < w.cols → w.run row ≡ Some run → OnRun run.from run.to col
      → Connected plan (piece row col 0) (piece_of (metal row))
  run_joined row col run is_row is_col e on =
      let l : start_of run.from ≤ col = from_start run.from col on.begun in
      let f : start_of run.from + (col - start_of run.from) ≡ col = omega arith in
      let along = along_run row is_row (col - start_of run.from) (start_of run.from) (λ b x y.
      metal_at w count is row b run e ∙ between run.from run.to col b on x (omega arith)) (omega arith) in
      let there : Connected plan (piece row (start_of run.from) 0) (piece row col 0) =
      subst (λ (c : ℕ). Connected plan (piece row (start_of run.from) 0) (piece row c 0)) f along in
      let column : start_of run.from ≡ first_column (w.run row) = sym (ap first_column e) in
      subst (λ (c : ℕ). Connected plan (piece row col 0) (piece row c 0)) column
      (paths.back (piece row (start_of run.from) 0) (piece row col 0) there)

  -- ---- over contacts

  contact_joins : (row col : ℕ) (run : Run) (s : Span) → Meets w row col run s → Connected plan (piece_of (poly col s)) (piece_of (metal row))
  contact_joins row col run s m =
      let t : Touches row s = record { to_row = m.to_row; from_row = m.from_row } in
      let up = paths.back (poly_piece row col) (piece_of (poly col s)) (span_joined row col s m.is_row m.is_col m.has_span t) in
      let h : has_contact w row col ≡ true = contact_at w count is row col run m.has_run ∙ end_there run.from run.to col m.ends in
      let number : poly_number w count is row col ≡ 0 = ap (λ (k : Bool). if k then 0 else 1) h in
      let at_contact : Connected plan (piece_of (poly col s)) (piece row col 0) =
      subst (λ (n : ℕ). Connected plan (piece_of (poly col s)) (piece row col n)) number up in
      let on = end_on run.from run.to w.cols col (run_is w count is row run m.is_row m.has_run).ends m.ends in
      paths.on (piece_of (poly col s)) (piece row col 0) (piece_of (metal row)) at_contact
      (run_joined row col run m.is_row m.is_col m.has_run on)

  pub chain : (a b : Wire) → Leads w a b → Connected plan (piece_of a) (piece_of b)
  chain _ _ (here a) = same (piece_of a)
  chain _ _ (to_metal row col run s b m rest) =
      paths.on (piece_of (poly col s)) (piece_of (metal row)) (piece_of b) (contact_joins row col run s m) (chain (metal row) b rest)
  chain _ _ (to_poly row col run s b m rest) =
      paths.on (piece_of (metal row)) (piece_of (poly col s)) (piece_of b)
      (paths.back (piece_of (poly col s)) (piece_of (metal row)) (contact_joins row col run s m)) (chain (poly col s) b rest)
