-- The tiles of a plan of wires, and the names of their nets.
use Rattle.std.specs.Prelude.{⊤}
use Rattle.std.proofs.Common.{◌≡◌, ℕ, ◌+◌, ◌<◌, ◌≤◌, ◌==◌, inl, inr, Bool, true, false, ◌&&◌, ◌||◌, if◌then◌else◌, Option, Some, None, is_some, unwrap_or, option_map, find, refl, sym, ap, ◌∙◌, subst, arith}
use Rattle.std.specs.Option.{option_map_or}
use Rattle.std.proofs.lemmas.Bool.{cases_lt, or_left, or_right, or_cases, eqb-true}
use Rattle.std.proofs.lemmas.Option.{MatchOption-at_some}
use Rattle.stick_grid.specs.Pieces.{Piece}
use Rattle.wiring.specs.Wirings.{Span, Run, Wiring, crosses, has_poly, has_metal, has_contact, begins_before, ends_behind, is_end, wiring_tile, poly_net}
use Rattle.wiring.specs.WiringNets.{IsOneOf, Meets, IsRun, IsWiring, run_net, span_net, wire_name}
use Rattle.wiring.proofs.Spans.{Touches, found, any_found, some_is, span_of, find_at, one_span, passes_row}
use Rattle.wiring.proofs.Ends.{Place, place}
use Rattle.wiring.proofs.Ends.Place.{first, last, within, outside}
use Rattle.wiring.proofs.Tiles.{Fits, Has, has_wires}
use Rattle.wiring.proofs.Tiles.Fits.{alone, crossing, to_east, to_west}

fits_as : (n s w e k west east contact : Bool) → w ≡ west → e ≡ east → k ≡ contact → Fits n s west east contact → Fits n s w e k
fits_as n s w e k west east contact p q r h =
    subst (λ (x : Bool). Fits n s x e k) (sym p)
    (subst (λ (y : Bool). Fits n s west y k) (sym q) (subst (λ (z : Bool). Fits n s west east z) (sym r) h))

there : (col : ℕ) (end : Option ℕ) → is_end col end ≡ true → end ≡ Some col
there col None h = absurd (cc)
there col (Some a) h = ap (λ (x : ℕ). Some x) (eqb-true a col h)

-- a run crosses the border, or ends in the column
abbrev pub crossed_by : ℕ → Option Run → Bool
crossed_by border o = option_map_or (λ (run : Run). begins_before run.from border && ends_behind run.to border) o false

abbrev ended_by : ℕ → Option Run → Bool
ended_by col o = option_map_or (λ (run : Run). is_end col run.from || is_end col run.to) o false

module _ (w : Wiring) (count : ℕ) (is : IsWiring w count) where
  -- ---- spans and runs

  pub run_is : (row : ℕ) (run : Run) → row < w.rows → w.run row ≡ Some run → IsRun w count row run
  run_is row run is_row e = MatchOption-at_some ⊤ (IsRun w count row) run e (is.runs row is_row)

  pub poly_at : (border col : ℕ) (s : Span) → col < w.cols → IsOneOf (w.spans col) s → s.first ≤ border → border ≤ s.last
      → has_poly w border col ≡ true
  poly_at border col s is_col o l u =
      any_found border (w.spans col)
      ∙ ap (λ (x : Option Span). is_some x) (find_at w.rows count 0 border (w.spans col) s (is.spans col is_col) o l u)

  pub crossing_span : (border col : ℕ) → has_poly w border col ≡ true → (s : Span) × (find (crosses border) (w.spans col) ≡ Some s)
  crossing_span border col h = some_is (find (crosses border) (w.spans col)) (sym (any_found border (w.spans col)) ∙ h)

  pub touched : (row col : ℕ) (s : Span) → col < w.cols → IsOneOf (w.spans col) s → Touches row s
      → (has_poly w row col || has_poly w (row + 1) col) ≡ true
  touched row col s is_col o t =
      let u = (span_of w.rows count 0 (w.spans col) s (is.spans col is_col) o).is_span.upward in
      let a = t.to_row in
      let b = t.from_row in
      elim (cases_lt row s.first) [
        | inl l ↦ or_right (has_poly w row col) (has_poly w (row + 1) col) (poly_at (row + 1) col s is_col o a (omega arith))
        | inr l ↦ or_left (has_poly w row col) (has_poly w (row + 1) col) (poly_at row col s is_col o l b)
      ]

  pub metal_at : (row border : ℕ) (run : Run) → w.run row ≡ Some run
      → has_metal w row border ≡ (begins_before run.from border && ends_behind run.to border)
  metal_at row border run e = ap (crossed_by border) e

  pub contact_at : (row col : ℕ) (run : Run) → w.run row ≡ Some run → has_contact w row col ≡ (is_end col run.from || is_end col run.to)
  contact_at row col run e = ap (ended_by col) e

  -- ---- tiles

  fits_place : (row col : ℕ) (run : Run) → row < w.rows → col < w.cols → w.run row ≡ Some run → Place run.from run.to col
      → Fits (has_poly w row col) (has_poly w (row + 1) col) (has_metal w row col) (has_metal w row (col + 1)) (has_contact w row col)
  fits_place row col run is_row is_col e (first f s) =
      let m = MatchOption-at_some ⊤ (λ (c : ℕ). (t : Span) × Meets w row c run t) col f (run_is row run is_row e).west in
      fits_as (has_poly w row col) (has_poly w (row + 1) col) (has_metal w row col) (has_metal w row (col + 1)) (has_contact w row col) false
      true true (metal_at row col run e ∙ s.is_west) (metal_at row (col + 1) run e ∙ s.is_east) (contact_at row col run e ∙ s.is_there)
      (to_east (has_poly w row col) (has_poly w (row + 1) col)
      (touched row col m.0 is_col m.1.has_span (record { to_row = m.1.to_row; from_row = m.1.from_row })))
  fits_place row col run is_row is_col e (last f s) =
      let m = MatchOption-at_some ⊤ (λ (c : ℕ). (t : Span) × Meets w row c run t) col f (run_is row run is_row e).east in
      fits_as (has_poly w row col) (has_poly w (row + 1) col) (has_metal w row col) (has_metal w row (col + 1)) (has_contact w row col) true
      false true (metal_at row col run e ∙ s.is_west) (metal_at row (col + 1) run e ∙ s.is_east) (contact_at row col run e ∙ s.is_there)
      (to_west (has_poly w row col) (has_poly w (row + 1) col)
      (touched row col m.0 is_col m.1.has_span (record { to_row = m.1.to_row; from_row = m.1.from_row })))
  fits_place row col run is_row is_col e (within a b s) =
      let p = passes_row row (w.spans col) ((run_is row run is_row e).passes col is_col a b) in
      fits_as (has_poly w row col) (has_poly w (row + 1) col) (has_metal w row col) (has_metal w row (col + 1)) (has_contact w row col) true
      true false (metal_at row col run e ∙ s.is_west) (metal_at row (col + 1) run e ∙ s.is_east) (contact_at row col run e ∙ s.is_there)
      (subst (λ (x : Bool). Fits (has_poly w row col) x true true false) p (crossing (has_poly w row col)))
  fits_place row col run is_row is_col e (outside s) =
      fits_as (has_poly w row col) (has_poly w (row + 1) col) (has_metal w row col) (has_metal w row (col + 1)) (has_contact w row col) false
      false false (metal_at row col run e ∙ s.is_west) (metal_at row (col + 1) run e ∙ s.is_east) (contact_at row col run e ∙ s.is_there)
      (alone (has_poly w row col) (has_poly w (row + 1) col))

  fits : (row col : ℕ) → row < w.rows → col < w.cols
      → Fits (has_poly w row col) (has_poly w (row + 1) col) (has_metal w row col) (has_metal w row (col + 1)) (has_contact w row col)
  fits row col is_row is_col = by_run (w.run row) refl
    where
      by_run : (o : Option Run) → w.run row ≡ o
          → Fits (has_poly w row col) (has_poly w (row + 1) col) (has_metal w row col) (has_metal w row (col + 1)) (has_contact w row col)
      by_run None e =
          fits_as (has_poly w row col) (has_poly w (row + 1) col) (has_metal w row col) (has_metal w row (col + 1)) (has_contact w row col)
          false false false (ap (crossed_by col) e) (ap (crossed_by (col + 1)) e) (ap (ended_by col) e)
          (alone (has_poly w row col) (has_poly w (row + 1) col))
      by_run (Some run) e = fits_place row col run is_row is_col e (place run.from run.to w.cols col (run_is row run is_row e).ends)

  pub has : (row col : ℕ) → row < w.rows → col < w.cols
      → Has (has_poly w row col) (has_poly w (row + 1) col) (has_metal w row col) (has_metal w row (col + 1)) (has_contact w row col)
      (wiring_tile w row col)
  has row col is_row is_col =
      has_wires (has_poly w row col) (has_poly w (row + 1) col) (has_metal w row col) (has_metal w row (col + 1)) (has_contact w row col)
      (fits row col is_row is_col)

  -- ---- names

  -- the number of the net of a tile's poly
  abbrev pub poly_number : ℕ → ℕ → ℕ
  poly_number row col = if has_contact w row col then 0 else 1

  pub metal_named : (p : Piece) → p.net ≡ 0 → wire_name w p ≡ run_net w p.row
  metal_named p e = ap (λ (n : ℕ). if n == 0 then run_net w p.row else span_net w p.row p.col) e

  pub run_named : (row : ℕ) (run : Run) → w.run row ≡ Some run → run_net w row ≡ run.net
  run_named row run e = ap (λ (o : Option Run). option_map_or (λ (r : Run). r.net) o 0) e

  record ContactAt (row col : ℕ) : Type 0 where
    run : Run
    span : Span
    meets : Meets w row col run span

  contact_is : (row col : ℕ) → row < w.rows → has_contact w row col ≡ true → ContactAt row col
  contact_is row col is_row h = by_run (w.run row) refl
    where
      by_run : (o : Option Run) → w.run row ≡ o → ContactAt row col
      by_run None e = let no_contact = ap (ended_by col) e in absurd (cc)
      by_run (Some run) e = elim (or_cases (is_end col run.from) (is_end col run.to) (sym (contact_at row col run e) ∙ h)) [
        | inl f ↦
            let m = MatchOption-at_some ⊤ (λ (c : ℕ). (t : Span) × Meets w row c run t) col (there col run.from f) (run_is row run is_row e).west in
            record { run = run; span = m.0; meets = m.1 }
        | inr f ↦
            let m = MatchOption-at_some ⊤ (λ (c : ℕ). (t : Span) × Meets w row c run t) col (there col run.to f) (run_is row run is_row e).east in
            record { run = run; span = m.0; meets = m.1 }
      ]

  -- the net of the span
  abbrev net_of : Option Span → ℕ → ℕ
  net_of o d = unwrap_or (option_map (λ (s : Span). s.net) o) d

  span_named : (row col : ℕ) (s : Span) → col < w.cols → IsOneOf (w.spans col) s → Touches row s → span_net w row col ≡ s.net
  span_named row col s is_col o t = by_find (find (crosses row) (w.spans col)) refl
    where
      by_find : (x : Option Span) → find (crosses row) (w.spans col) ≡ x → span_net w row col ≡ s.net
      by_find (Some u) e =
          let c = found row (w.spans col) u e in
          let l = c.begun in
          let same = one_span w.rows count 0 row (w.spans col) u s (is.spans col is_col) c.among o
          (record { to_row = omega arith; from_row = c.not_over }) t in
          ap (λ (x : Option Span). net_of x (unwrap_or (poly_net w (row + 1) col) 0)) e ∙ ap (λ (x : Span). x.net) same
      by_find None e = elim (cases_lt row s.first) [
        | inl l ↦
            let u = (span_of w.rows count 0 (w.spans col) s (is.spans col is_col) o).is_span.upward in
            let a = t.to_row in
            let f = find_at w.rows count 0 (row + 1) (w.spans col) s (is.spans col is_col) o a (omega arith) in
            ap (λ (x : Option Span). net_of x (unwrap_or (poly_net w (row + 1) col) 0)) e ∙ ap (λ (x : Option Span). net_of x 0) f
        | inr l ↦ let f = find_at w.rows count 0 row (w.spans col) s (is.spans col is_col) o l t.from_row in absurd (cc)
      ]

  pub poly_named : (p : Piece) (s : Span) → p.row < w.rows → p.col < w.cols → IsOneOf (w.spans p.col) s → Touches p.row s
      → p.net ≡ poly_number p.row p.col → wire_name w p ≡ s.net
  poly_named p s is_row is_col o t e = by_contact (has_contact w p.row p.col) refl
    where
      by_contact : (k : Bool) → has_contact w p.row p.col ≡ k → wire_name w p ≡ s.net
      by_contact true h =
          let c = contact_is p.row p.col is_row h in
          let m = c.meets in
          let same = one_span w.rows count 0 p.row (w.spans p.col) c.span s (is.spans p.col is_col) m.has_span o
          (record { to_row = m.to_row; from_row = m.from_row }) t in
          metal_named p (e ∙ ap (λ (k : Bool). if k then 0 else 1) h)
          ∙ run_named p.row c.run m.has_run ∙ sym m.one_net ∙ ap (λ (x : Span). x.net) same
      by_contact false h =
          ap (λ (n : ℕ). if n == 0 then run_net w p.row else span_net w p.row p.col) (e ∙ ap (λ (k : Bool). if k then 0 else 1) h)
          ∙ span_named p.row p.col s is_col o t
