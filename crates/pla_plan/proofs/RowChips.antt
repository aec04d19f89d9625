-- Chips that draw a plan row by row have its squares.
use Rattle.std.proofs.Common.{◌≡◌, inl, inr, ℕ, ◌+◌, ◌-◌, ◌*◌, ◌<◌, ◌≤◌, ℤ, pos, ◌-ℤ◌, List, [], ◌∷◌, length, Some, sym, subst, ◌∙◌, arith}
use Rattle.std.proofs.lemmas.Int.{ints}
use Rattle.std.proofs.lemmas.Bool.{cases_eq}
use Rattle.geom.specs.declared.layer.Layer.{Layer}
use Rattle.geom.specs.declared.chip.Call.{Call}
use Rattle.geom.specs.Squares.{BoxShape, Covered}
use Rattle.geom.specs.Chips.{CalledAt}
use Rattle.micro_tiles.specs.Table.{boxes}
use Rattle.stick_grid.specs.Plans.{Plan, Covers, local_x, local_y}
use Rattle.pla_plan.specs.RowChips.{row_plan, CallRows, RowChipsCoverPlans}

some_is : {X : Type 0} (o : X) (p : X) → ◌≡◌ {A = _} (Some o) (Some p) → o ≡ p
some_is o p e = cc

module _ (plan : Plan) (layer : Layer) (x y : ℤ) where
  abbrev north : ℕ → ℤ
  north row = pos (14 * (plan.rows - 1 - row))

  across : (col : ℕ) (a : ℤ) → a ≡ pos 0 → local_x col (x -ℤ a) ≡ local_x col x
  across col a e = omega (arith, ints)

  upward : (row : ℕ) (b : ℤ) → b ≡ north row → local_y (row_plan plan row) 0 (y -ℤ b) ≡ local_y plan row y
  upward row b e = omega (arith, ints)

  -- a square of a row, in its place
  down : (row : ℕ) (a b : ℤ) → row < plan.rows → a ≡ pos 0 → b ≡ north row → Covers (row_plan plan row) layer (x -ℤ a) (y -ℤ b) → Covers plan layer x y
  down row a b below e f h =
      let first : h.row ≡ 0 = (let is_row = h.is_row in omega arith) in
      let here = subst (λ (r : ℕ). Covered (boxes (plan.tile row h.col)) layer (local_x h.col (x -ℤ a)) (local_y (row_plan plan row) r (y -ℤ b))) first h.covered in
      record {
        row = row;
        col = h.col;
        is_row = below;
        is_col = h.is_col;
        covered =
            subst (λ (v : ℤ). Covered (boxes (plan.tile row h.col)) layer (local_x h.col x) v) (upward row b f)
            (subst (λ (u : ℤ). Covered (boxes (plan.tile row h.col)) layer u (local_y (row_plan plan row) 0 (y -ℤ b))) (across h.col a e) here);
      }

  up : (row : ℕ) (a b : ℤ) (h : Covers plan layer x y) → h.row ≡ row → a ≡ pos 0 → b ≡ north row → Covers (row_plan plan row) layer (x -ℤ a) (y -ℤ b)
  up row a b h same e f =
      let here = subst (λ (r : ℕ). Covered (boxes (plan.tile r h.col)) layer (local_x h.col x) (local_y plan r y)) same h.covered in
      record {
        row = 0;
        col = h.col;
        is_row = omega arith;
        is_col = h.is_col;
        covered =
            subst (λ (v : ℤ). Covered (boxes (plan.tile row h.col)) layer (local_x h.col (x -ℤ a)) v) (sym (upward row b f))
            (subst (λ (u : ℤ). Covered (boxes (plan.tile row h.col)) layer u (local_y plan row y)) (sym (across h.col a e)) here);
      }

  from_calls : (kinds : List (List BoxShape)) (row : ℕ) (calls : List Call) → CallRows plan kinds row calls → row + length calls ≡ plan.rows
      → CalledAt kinds calls layer x y → Covers plan layer x y
  from_calls kinds row [] h long c = absurd c
  from_calls kinds row (call ∷ calls) h long (inl c) =
      let one = h.0 in
      let same : c.boxes ≡ one.boxes = some_is c.boxes one.boxes (sym c.kind ∙ one.kind) in
      let covered = subst (λ l. Covered l layer (x -ℤ call.x) (y -ℤ call.y)) same c.covered in
      down row call.x call.y (omega arith) one.x one.y ((one.draws.squares layer (x -ℤ call.x) (y -ℤ call.y)).0 covered)
  from_calls kinds row (call ∷ calls) h long (inr c) = from_calls kinds (row + 1) calls h.1 (omega arith) c

  to_calls : (kinds : List (List BoxShape)) (row : ℕ) (calls : List Call) → CallRows plan kinds row calls → row + length calls ≡ plan.rows
      → (h : Covers plan layer x y) → row ≤ h.row → CalledAt kinds calls layer x y
  to_calls kinds row [] all long h low = let is_row = h.is_row in absurd (omega arith)
  to_calls kinds row (call ∷ calls) all long h low = elim (cases_eq h.row row) [
    | inl e ↦
        let one = all.0 in
        inl (record {
          boxes = one.boxes;
          kind = one.kind;
          covered = (one.draws.squares layer (x -ℤ call.x) (y -ℤ call.y)).1 (up row call.x call.y h e one.x one.y);
        })
    | inr e ↦ inr (to_calls kinds (row + 1) calls all.1 (omega arith) h (omega (arith, e)))
  ]

pub row_chips_cover_plans : RowChipsCoverPlans
row_chips_cover_plans plan chip is layer x y = (
  λ h. from_calls plan layer x y chip.kinds 0 chip.calls is.rows (let long = is.long in omega arith) h,
  λ h. to_calls plan layer x y chip.kinds 0 chip.calls is.rows (let long = is.long in omega arith) h (omega arith),
)
