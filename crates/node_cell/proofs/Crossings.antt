-- Which borders wires cross, and so what leads out of plans of wires.
use Rattle.std.proofs.Common.{◌≡◌, ℕ, ◌<◌, ◌≤◌, ◌&&◌, true, false, if◌then◌else◌, inl, inr, List, [], ◌∷◌, Option, Some, None, option_map, option_and_then, find, refl, sym, ap, ◌∙◌, arith}
use Rattle.std.specs.Option.{option_map_or}
use Rattle.std.proofs.lemmas.Bool.{cases_lt, le-leb, lt-leb, and_from, and_left, and_right}
use Rattle.wiring.specs.Wirings.{Span, Run, crosses, begins_before, ends_behind}
use Rattle.node_cell.proofs.Choices.{first_of, second_of}
use Rattle.node_cell.proofs.Places.{index_from, there, nowhere, where_is, found, none_found}

pub does_cross : (border : ℕ) (s : Span) → s.first ≤ border → border ≤ s.last → crosses border s ≡ true
does_cross border s low high = and_from _ _ (le-leb s.first border low) (le-leb border s.last high)

pub begins_below : (border : ℕ) (s : Span) → border < s.first → crosses border s ≡ false
begins_below border s low = and_left _ _ (lt-leb s.first border low)

pub ends_above : (border : ℕ) (s : Span) → s.last < border → crosses border s ≡ false
ends_above border s high = and_right _ _ (lt-leb border s.last high)

-- the net of the poly of these spans that crosses a border
abbrev pub crossing : ℕ → List Span → Option ℕ
crossing border spans = option_map (λ (s : Span). s.net) (find (crosses border) spans)

pub crossed_first : (border : ℕ) (s : Span) (spans : List Span) → s.first ≤ border → border ≤ s.last → crossing border (s ∷ spans) ≡ Some s.net
crossed_first border s spans low high =
    ap (option_map (λ (s : Span). s.net)) (first_of (crosses border s) (Some s) (find (crosses border) spans) (does_cross border s low high))

pub not_first : (border : ℕ) (s : Span) (spans : List Span) → crosses border s ≡ false → crossing border (s ∷ spans) ≡ crossing border spans
not_first border s spans h = ap (option_map (λ (s : Span). s.net)) (second_of (crosses border s) (Some s) (find (crosses border) spans) h)

-- the net of the metal of this run, if there is one, that crosses a border
abbrev pub metal_of : ℕ → Option Run → Option ℕ
metal_of border o =
    if option_map_or (λ (run : Run). begins_before run.from border && ends_behind run.to border) o false then option_map (λ (run : Run). run.net) o else None

pub crossed_by : (border : ℕ) (r : Run) → begins_before r.from border ≡ true → ends_behind r.to border ≡ true → metal_of border (Some r) ≡ Some r.net
crossed_by border r b e = first_of (begins_before r.from border && ends_behind r.to border) _ _ (and_from _ _ b e)

pub begins_behind : (border : ℕ) (r : Run) → begins_before r.from border ≡ false → metal_of border (Some r) ≡ None
begins_behind border r h = second_of (begins_before r.from border && ends_behind r.to border) _ _ (and_left _ _ h)

pub ends_before : (border : ℕ) (r : Run) → ends_behind r.to border ≡ false → metal_of border (Some r) ≡ None
ends_before border r h = second_of (begins_before r.from border && ends_behind r.to border) _ _ (and_right _ _ h)

-- ---- by places

-- If each place's spans lead its net out, so do the spans of the columns.
pub poly_by_places : (base n border col : ℕ) (spans : ℕ → List Span) (net : ℕ → Option ℕ) → ((i : ℕ) → i < n → crossing border (spans i) ≡ net i)
    → crossing border (option_map_or spans (index_from base col 0 n) []) ≡ option_and_then net (index_from base col 0 n)
poly_by_places base n border col spans net h = elim (where_is base n col) [
  | there i few e ↦
      ap (λ (o : Option ℕ). crossing border (option_map_or spans o [])) (found base n col i few e) ∙ h i few
      ∙ ap (λ (o : Option ℕ). option_and_then net o) (sym (found base n col i few e))
  | nowhere none ↦
      ap (λ (o : Option ℕ). crossing border (option_map_or spans o [])) (none_found base n col none)
      ∙ ap (λ (o : Option ℕ). option_and_then net o) (sym (none_found base n col none))
]

pub metal_by_places : (base n border row : ℕ) (runs : ℕ → Option Run) (net : ℕ → Option ℕ) → ((i : ℕ) → i < n → metal_of border (runs i) ≡ net i)
    → metal_of border (option_and_then runs (index_from base row 0 n)) ≡ option_and_then net (index_from base row 0 n)
metal_by_places base n border row runs net h = elim (where_is base n row) [
  | there i few e ↦
      ap (λ (o : Option ℕ). metal_of border (option_and_then runs o)) (found base n row i few e) ∙ h i few
      ∙ ap (λ (o : Option ℕ). option_and_then net o) (sym (found base n row i few e))
  | nowhere none ↦
      ap (λ (o : Option ℕ). metal_of border (option_and_then runs o)) (none_found base n row none)
      ∙ ap (λ (o : Option ℕ). option_and_then net o) (sym (none_found base n row none))
]

-- If the spans of the first places lead their nets out, and those of the others nothing, so do the spans of the columns.
pub poly_by_first : (base n m border col : ℕ) (spans : ℕ → List Span) (net : ℕ → Option ℕ) → m ≤ n → ((i : ℕ) → i < m → crossing border (spans i) ≡ net i)
    → ((i : ℕ) → m ≤ i → crossing border (spans i) ≡ None)
    → crossing border (option_map_or spans (index_from base col 0 n) []) ≡ option_and_then net (index_from base col 0 m)
poly_by_first base n m border col spans net fewer some rest = elim (where_is base n col) [
  | there i few e ↦
      ap (λ (o : Option ℕ). crossing border (option_map_or spans o [])) (found base n col i few e)
      ∙ elim (cases_lt i m) [
        | inl less ↦ some i less ∙ ap (λ (o : Option ℕ). option_and_then net o) (sym (found base m col i less e))
        | inr more ↦
            rest i more ∙ ap (λ (o : Option ℕ). option_and_then net o) (sym (none_found base m col (λ j less k. omega arith)))
      ]
  | nowhere none ↦
      ap (λ (o : Option ℕ). crossing border (option_map_or spans o [])) (none_found base n col none)
      ∙ ap (λ (o : Option ℕ). option_and_then net o) (sym (none_found base m col (λ j less. none j (omega arith))))
]

-- what is passed on as it is
pub same_each : (o : Option ℕ) → option_and_then (λ (i : ℕ). Some i) o ≡ o
same_each None = refl
same_each (Some i) = refl

pub none_each : (o : Option ℕ) → option_and_then {T = ℕ} {U = ℕ} (λ i. None) o ≡ None
none_each None = refl
none_each (Some i) = refl
