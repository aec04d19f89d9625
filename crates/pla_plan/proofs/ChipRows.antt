-- One row more of a chip.
use Rattle.std.proofs.Common.{◌≡◌, ◌≢◌, inl, inr, ℕ, zero, suc, ◌+◌, ◌-◌, ◌*◌, ◌<◌, ◌≤◌, pos, List, [], ◌∷◌, ◌++◌, length, get_or, slice_get, Some, refl, sym, ap, subst, ◌∙◌, arith}
use Rattle.std.specs.Prelude.{AllPairs}
use Rattle.std.proofs.lemmas.Bool.{cases_lt}
use Rattle.std.proofs.lemmas.List.{length-append, get_or_append_left, get_or-append-add}
use Rattle.geom.specs.declared.chip.Call.{Call}
use Rattle.geom.specs.declared.chip.Label.{Label}
use Rattle.geom.specs.Squares.{BoxShape}
use Rattle.stick_grid.specs.Plans.{Plan}
use Rattle.pla_plan.specs.RowChips.{DrawsRow, CallsRow, CallRows, IsRowChip}
use Rattle.pla_plan.specs.Numbered.{IsNumbered}

-- So many rows are called, by kinds that differ, each of which is called.
pub record RowsSoFar (plan : Plan) (kinds : List (List BoxShape)) (calls : List Call) (n : ℕ) : Type 0 where
  pub long : length calls ≡ n
  pub few : length kinds ≤ n
  pub rows : CallRows plan kinds 0 calls
  pub differ : AllPairs (λ a b. a ≢ b) kinds
  pub called : (kind : ℕ) → kind < length kinds → (k : ℕ) × (call : Call) × (slice_get calls k ≡ Some call) × (call.kind ≡ kind)

front : {X : Type 0} (xs ys : List X) (k : ℕ) (x : X) → slice_get xs k ≡ Some x → slice_get (xs ++ ys) k ≡ Some x
front [] ys k x e = absurd (cc)
front (a ∷ xs) ys zero x e = e
front (a ∷ xs) ys (suc k) x e = front xs ys k x e

at_end : {X : Type 0} (xs : List X) (k : ℕ) (x : X) → k ≡ length xs → slice_get (xs ++ x ∷ []) k ≡ Some x
at_end [] zero x e = refl
at_end [] (suc k) x e = absurd (omega arith)
at_end (a ∷ xs) zero x e = absurd (omega arith)
at_end (a ∷ xs) (suc k) x e = at_end xs k x (omega arith)

module _ (plan : Plan) (old new : List (List BoxShape)) (boxes : List BoxShape) (number : ℕ) (is : IsNumbered old boxes number new) where
  kept : (k : ℕ) (b : List BoxShape) → slice_get old k ≡ Some b → slice_get new k ≡ Some b
  kept k b e = elim is.grown [
    | inl same ↦ subst (λ l. slice_get l k ≡ Some b) (sym same) e
    | inr more ↦ subst (λ l. slice_get l k ≡ Some b) (sym more.0) (front old (boxes ∷ []) k b e)
  ]

  rows_kept : (row : ℕ) (calls : List Call) → CallRows plan old row calls → CallRows plan new row calls
  rows_kept row [] h = tt
  rows_kept row (call ∷ calls) h = (
    record { boxes = h.0.boxes; kind = kept call.kind h.0.boxes h.0.kind; draws = h.0.draws; x = h.0.x; y = h.0.y },
    rows_kept (row + 1) calls h.1,
  )

  rows_more : (row : ℕ) (calls : List Call) (call : Call) (n : ℕ) → row + length calls ≡ n → CallRows plan new row calls → CallsRow plan new n call
      → CallRows plan new row (calls ++ call ∷ [])
  rows_more row [] call n e h one = (subst (λ (r : ℕ). CallsRow plan new r call) (let s : n ≡ row = omega arith in s) one, tt)
  rows_more row (first ∷ calls) call n e h one = (h.0, rows_more (row + 1) calls call n (omega arith) h.1 one)

  differ : AllPairs (λ a b. a ≢ b) old → AllPairs (λ a b. a ≢ b) new
  differ h = elim is.grown [
    | inl same ↦ subst (AllPairs (λ a b. a ≢ b)) (sym same) h
    | inr more ↦ subst (AllPairs (λ a b. a ≢ b)) (sym more.0) (λ i j d less below e.
        let long = length-append old (boxes ∷ []) in
        let first : get_or (old ++ boxes ∷ []) i d ≡ get_or old i d = get_or_append_left old (boxes ∷ []) d i (omega arith) in
        elim (cases_lt j (length old)) [
          | inl k ↦ h i j d less k (sym first ∙ e ∙ get_or_append_left old (boxes ∷ []) d j k)
          | inr k ↦
              let place : j ≡ length old + 0 = omega arith in
              let last = ap (λ (n : ℕ). get_or (old ++ boxes ∷ []) n d) place ∙ get_or-append-add old (boxes ∷ []) 0 d in
              more.2 i d (omega arith) (sym first ∙ e ∙ last)
        ])
  ]

  pub row_more : (calls : List Call) (call : Call) (n : ℕ) → RowsSoFar plan old calls n → DrawsRow plan n boxes → call.kind ≡ number → call.x ≡ pos 0
      → call.y ≡ pos (14 * (plan.rows - 1 - n)) → RowsSoFar plan new (calls ++ call ∷ []) (n + 1)
  row_more calls call n h draws kind x y =
      let long = length-append calls (call ∷ []) in
      let so_far = h.long in
      let few = h.few in
      let found : slice_get new call.kind ≡ Some boxes = ap (slice_get new) kind ∙ is.kind in
      record {
        long = omega arith;
        few = elim is.grown [
          | inl same ↦ let e = ap length same in omega arith
          | inr more ↦ let e = ap length more.0 in let more_long = length-append old (boxes ∷ []) in omega arith
        ];
        rows = rows_more 0 calls call n (omega arith) (rows_kept 0 calls h.rows) (record { boxes = boxes; kind = found; draws = draws; x = x; y = y });
        differ = differ h.differ;
        called = λ k below. elim (cases_lt k (length old)) [
          | inl m ↦ let c = h.called k m in (c.0, c.1, front calls (call ∷ []) c.0 c.1 c.2, c.3)
          | inr m ↦ (
            length calls,
            call,
            at_end calls (length calls) call refl,
            elim is.grown [
              | inl same ↦ let e = ap length same in absurd (omega arith)
              | inr more ↦
                  let e = ap length more.0 in
                  let more_long = length-append old (boxes ∷ []) in
                  let number_is = more.1 in
                  omega arith
            ],
          )
        ];
      }

pub whole_chip : (plan : Plan) (kinds : List (List BoxShape)) (calls : List Call) (labels : List Label) (n : ℕ) → n ≡ plan.rows
    → RowsSoFar plan kinds calls n → IsRowChip plan (record { kinds = kinds; calls = calls; labels = labels })
whole_chip plan kinds calls labels n e h = record { long = h.long ∙ e; rows = h.rows; differ = h.differ; called = h.called }
