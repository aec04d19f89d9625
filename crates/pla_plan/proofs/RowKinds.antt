-- The kinds of a chip that draws a plan row by row are rows.
use Rattle.std.proofs.Common.{◌≡◌, inl, inr, ℕ, zero, suc, ◌+◌, ℤ, pos, ◌-ℤ◌, ◌≤ℤ◌, ◌<ℤ◌, List, [], ◌∷◌, slice_get, Some, All, refl, sym, ap, subst, ◌∙◌, arith}
use Rattle.std.proofs.lemmas.Int.{ints}
use Rattle.std.proofs.lemmas.Option.{slice_get_within, get_or_from_slice_get}
use Rattle.std.proofs.lemmas.List.Elements.{All-nil, All-cons}
use Rattle.geom.specs.declared.layer.Layer.{Layer}
use Rattle.geom.specs.declared.chip.Call.{Call}
use Rattle.geom.specs.Squares.{BoxShape, Covered}
use Rattle.geom.specs.Merged.{InRuns}
use Rattle.micro_tiles.specs.Shapes.{TilesKeepInside}
use Rattle.stick_grid.specs.Plans.{Plan}
use Rattle.pla_plan.specs.RowChips.{CallsRow, CallRows, RowChipsHaveRows}

-- The squares lie between y = 0 and y = 14.
record IsLow (y : ℤ) : Type 0 where
  bottom : pos 0 ≤ℤ y
  top : y <ℤ pos 14

abbrev InRows : BoxShape → Type 0
InRows b = (pos 0 ≤ℤ b.y1) × (b.y2 ≤ℤ pos 14)

low_boxes : (boxes : List BoxShape) → InRuns boxes → ((layer : Layer) (x y : ℤ) → Covered boxes layer x y → IsLow y) → All InRows boxes
low_boxes [] runs low = All-nil InRows
low_boxes (b ∷ boxes) runs low =
    let is = runs.0 in
    let across = is.across.order in
    let upward = is.upward.order in
    let first = low b.layer b.x1 b.y1 (inl (refl, record { left = omega (arith, ints); right = across; bottom = omega (arith, ints); top = upward })) in
    let last = low b.layer b.x1 (b.y2 -ℤ pos 1) (inl (refl, record { left = omega (arith, ints); right = across; bottom = omega (arith, ints); top = omega (arith, ints) })) in
    All-cons InRows b boxes (first.bottom, (let high = last.top in omega (arith, ints))) (low_boxes boxes runs.2 (λ layer x y h. low layer x y (inr h)))

nth_call : (plan : Plan) (kinds : List (List BoxShape)) (row : ℕ) (calls : List Call) → CallRows plan kinds row calls → (i : ℕ) (call : Call)
    → slice_get calls i ≡ Some call → CallsRow plan kinds (row + i) call
nth_call plan kinds row [] h i call e = absurd (cc)
nth_call plan kinds row (first ∷ calls) h zero call e =
    let same : first ≡ call = cc in
    let there : row ≡ row + 0 = omega arith in
    subst (λ (r : ℕ). CallsRow plan kinds r call) there (subst (CallsRow plan kinds row) same h.0)
nth_call plan kinds row (first ∷ calls) h (suc i) call e =
    let there : row + 1 + i ≡ row + suc i = omega arith in
    subst (λ (r : ℕ). CallsRow plan kinds r call) there (nth_call plan kinds (row + 1) calls h.1 i call e)

pub row_chips_have_rows : TilesKeepInside → RowChipsHaveRows
row_chips_have_rows inside plan chip is_plan is k d below =
    let c = is.called k below in
    let one = nth_call plan chip.kinds 0 chip.calls is.rows c.0 c.1 c.2 in
    let within = slice_get_within chip.calls c.0 c.1 c.2 in
    let long = is.long in
    let found : slice_get chip.kinds k ≡ Some one.boxes = ap (slice_get chip.kinds) (sym c.3) ∙ one.kind in
    let kind = get_or_from_slice_get chip.kinds k one.boxes d found in
    let low : (layer : Layer) (x y : ℤ) → Covered one.boxes layer x y → IsLow y = λ layer x y h.
    let covers = (one.draws.squares layer x y).0 h in
    let inner = (inside (plan.tile (0 + c.0) covers.col) (is_plan.known (0 + c.0) covers.col (omega arith) covers.is_col)).all layer _ _ covers.covered in
    let bottom = inner.bottom in
    let top = inner.top in
    record { bottom = omega (arith, ints); top = omega (arith, ints) } in
    subst (All InRows) (sym kind) (low_boxes one.boxes one.draws.runs low)
