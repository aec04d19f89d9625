-- The kinds of a chip, one after another, and its calls, as they are read.
use Rattle.std.proofs.Common.{◌≡◌, inl, inr, ℕ, zero, suc, ◌+◌, ◌*◌, ◌<◌, ◌≤◌, ◌^◌, true, false, ◌==◌, ℤ, pos, ◌*ℤ◌, ◌<ℤ◌, List, [], ◌∷◌, ◌++◌, map, length, Some, None, slice_get, find, codes, refl, sym, ap, ◌∙◌, append_assoc, append-nil, arith}
use Rattle.std.specs.Int.{int_min, int_max}
use Rattle.std.specs.List.{list_any}
use Rattle.std.specs.Fmt.{decimal, signed_decimal}
use Rattle.std.proofs.lemmas.Int.{ints}
use Rattle.std.proofs.lemmas.Bool.{ne_eqb, eq-eqb}
use Rattle.std.proofs.lemmas.Grind.{flat_map-append}
use Rattle.rx_text.specs.declared.place.Place.{Place}
use Rattle.geom.specs.declared.chip.Call.{Call}
use Rattle.geom.specs.declared.chip.Label.{Label}
use Rattle.geom.specs.declared.cif_code.CifCode.{CifCode}
use Rattle.geom.specs.declared.cif_code.CifCode.TheVariants.{C4, C7, C8, C9, C14}
use Rattle.geom.specs.Squares.{BoxShape}
use Rattle.geom.specs.Rows.{Among}
use Rattle.geom.specs.CifCommands.{CifScale, Translates, CifCommand, CallsSymbol, Letters, Unsigned, Signed}
use Rattle.geom.specs.CifDrawings.{CifSymbol, CifDrawing, CifStroke, stroke_of, chain_if_drawn, called_boxes, moved_by, CommandLeads}
use Rattle.geom.specs.CifCodes.{MeetsCode, IsTooGreat, IsOffGrid, IsFarOff}
use Rattle.geom.specs.CifRefusals.{stroke_boxes}
use Rattle.cif_write.specs.ChipText.{kind_lines, kinds_lines}
use Rattle.cif_write.specs.WrittenChips.{IsWritableEdge, IsWritableBox, shifted}
use Rattle.cif_write.proofs.CifNumbers.{number_writes, signed_writes, IsWithin40, IsLength, length_of}
use Rattle.cif_write.proofs.CifSteps.{none_is, not_great, ReadsCommand, GoesBehind}
use Rattle.cif_write.proofs.CifKinds.{outside, kind_symbol, part_then, within_numbers, within_edge}
use Rattle.cif_write.proofs.CifBoxes.{small_size, AreWritable, kind_goes}

-- the symbols behind kinds that stand behind so many others
abbrev pub symbols_behind : ℕ → List (List BoxShape) → List CifSymbol → List CifSymbol
symbols_behind n [] symbols = symbols
symbols_behind n (boxes ∷ kinds) symbols = symbols_behind (n + 1) kinds (kind_symbol (n + 1) boxes ∷ symbols)

-- no symbol has a number beyond n
abbrev pub AreUpTo : ℕ → List CifSymbol → Type 0
AreUpTo n symbols = (m : ℕ) → n < m → list_any (λ symbol. symbol.number == m) symbols ≡ false

one_more : (n : ℕ) (boxes : List BoxShape) (symbols : List CifSymbol) → AreUpTo n symbols → AreUpTo (n + 1) (kind_symbol (n + 1) boxes ∷ symbols)
one_more n boxes symbols few m lt =
    let other : (n + 1 == m) ≡ false = ne_eqb (n + 1) m (λ e. omega (arith, e, lt)) in rw other (few m (omega (arith, lt)))

-- the definitions of kinds, and what is read behind them
pub kinds_go : (drawing : CifDrawing) (n : ℕ) (kinds : List (List BoxShape)) (symbols : List CifSymbol) (more : List ℕ) (xs : List BoxShape) (ls : List Label)
    → ((boxes : List BoxShape) → Among kinds boxes → AreWritable boxes) → n + length kinds ≤ 2 ^ 40 → AreUpTo n symbols
    → GoesBehind (outside (symbols_behind n kinds symbols) drawing) more xs ls → GoesBehind (outside symbols drawing) (kinds_lines n kinds ++ more) xs ls
kinds_go drawing n [] symbols more xs ls good few fresh behind = behind
kinds_go drawing n (boxes ∷ kinds) symbols more xs ls good few fresh behind =
    let later =
    kinds_go drawing (n + 1) kinds (kind_symbol (n + 1) boxes ∷ symbols) more xs ls (λ k among. good k (inr among)) (omega (arith, few))
    (one_more n boxes symbols fresh) behind in
    let e : kinds_lines n (boxes ∷ kinds) ++ more ≡ kind_lines (n + 1) boxes ++ (kinds_lines (n + 1) kinds ++ more) =
    append_assoc (kind_lines (n + 1) boxes) (kinds_lines (n + 1) kinds) more in
    rw e (kind_goes symbols drawing (n + 1) boxes (kinds_lines (n + 1) kinds ++ more) xs ls (good boxes (inl refl)) (omega (arith, few)) (fresh
    (n + 1) (omega arith)) later)

-- kinds behind it leave a symbol where it is
kept : (m n : ℕ) (kinds : List (List BoxShape)) (symbols : List CifSymbol) → m ≤ n
    → find (λ symbol. symbol.number == m) (symbols_behind n kinds symbols) ≡ find (λ symbol. symbol.number == m) symbols
kept m n [] symbols le = refl
kept m n (boxes ∷ kinds) symbols le =
    let other : (n + 1 == m) ≡ false = ne_eqb (n + 1) m (λ e. omega (arith, e, le)) in
    kept m (n + 1) kinds (kind_symbol (n + 1) boxes ∷ symbols) (omega (arith, le)) ∙ rw other refl

-- each kind has its number
pub kind_found : (n i : ℕ) (kinds : List (List BoxShape)) (symbols : List CifSymbol) (boxes : List BoxShape) → slice_get kinds i ≡ Some boxes
    → find (λ symbol. symbol.number == n + i + 1) (symbols_behind n kinds symbols) ≡ Some (kind_symbol (n + i + 1) boxes)
kind_found n i [] symbols boxes e = cc
kind_found n zero (kind ∷ kinds) symbols boxes e =
    let same : kind ≡ boxes = cc in
    let f : n + 0 + 1 ≡ n + 1 = omega arith in
    let here : (n + 1 == n + 1) ≡ true = eq-eqb _ _ refl in
    rw (f, same) (kept (n + 1) (n + 1) kinds (kind_symbol (n + 1) boxes ∷ symbols) (omega arith) ∙ rw here refl)
kind_found n (suc i) (kind ∷ kinds) symbols boxes e =
    let f : n + suc i + 1 ≡ n + 1 + i + 1 = omega arith in
    rw f (kind_found (n + 1) i kinds (kind_symbol (n + 1) kind ∷ symbols) boxes e)

-- ---- calls

abbrev pub one : CifScale
one = record { times = 1; per = 1 }

-- a place of a call, in units, is so many λ
pub placed : (v : ℤ) → IsWritableEdge v → IsLength one (pos 2 *ℤ (pos 200 *ℤ v)) v
placed v near = length_of 1 _ v (omega (arith, ints)) (within_edge v near)

pub within_place : (v : ℤ) → IsWritableEdge v → IsWithin40 (pos 200 *ℤ v)
within_place v near = record { from = omega (arith, ints, near.from); to = omega (arith, ints, near.to) }

module _ (x y : ℤ) (near_x : IsWritableEdge x) (near_y : IsWritableEdge y) where
  -- a box is moved as its call says
  moved_is : (b : BoxShape) → IsWritableBox b → moved_by one b (Translates (pos 200 *ℤ x) (pos 200 *ℤ y)) ≡ shifted x y b
  moved_is b good =
      let left : int_min b.x1 b.x2 ≡ b.x1 = lower b.x1 b.x2 good.box.across.order in
      let bottom : int_min b.y1 b.y2 ≡ b.y1 = lower b.y1 b.y2 good.box.upward.order in
      let right : int_max b.x1 b.x2 ≡ b.x2 = upper b.x1 b.x2 good.box.across.order in
      let top : int_max b.y1 b.y2 ≡ b.y2 = upper b.y1 b.y2 good.box.upward.order in
      rw ((placed x near_x).is, (placed y near_y).is, left, bottom, right, top) refl
    where
      lower : (a b : ℤ) → a <ℤ b → int_min a b ≡ a
      lower a b lt = grind (arith, ints, lt)

      upper : (a b : ℤ) → a <ℤ b → int_max a b ≡ b
      upper a b lt = grind (arith, ints, lt)

  pub called_is : (boxes : List BoxShape) → AreWritable boxes
      → called_boxes one (Translates (pos 200 *ℤ x) (pos 200 *ℤ y) ∷ []) boxes ≡ map (shifted x y) boxes
  called_is [] good = refl
  called_is (b ∷ boxes) good = rw (moved_is b (good b (inl refl)), called_is boxes (λ c among. good c (inr among))) refl

pub one_stroke : (place : Place) (boxes : List BoxShape) → stroke_boxes (stroke_of place boxes) ≡ boxes
one_stroke place [] = refl
one_stroke place (b ∷ boxes) = append-nil (b ∷ boxes)

module _ (symbols : List CifSymbol) (drawing : CifDrawing) (call : Call) (boxes : List BoxShape)
    (found : find (λ symbol. symbol.number == call.kind + 1) symbols ≡ Some (kind_symbol (call.kind + 1) boxes))
    (few : call.kind + 1 ≤ 2 ^ 40) (near_x : IsWritableEdge call.x) (near_y : IsWritableEdge call.y) (good : AreWritable boxes) where
  -- `C N T X Y`
  abbrev call_text : List ℕ
  call_text =
      codes "C" ++ (codes " " ++ (decimal (call.kind + 1) ++ (codes " " ++ (codes "T" ++ (codes " " ++ (signed_decimal (pos 200 *ℤ call.x)
      ++ (codes " " ++ (signed_decimal (pos 200 *ℤ call.y) ++ ([] ++ [])))))))))

  abbrev call_command : CifCommand
  call_command = CallsSymbol (call.kind + 1) (Translates (pos 200 *ℤ call.x) (pos 200 *ℤ call.y) ∷ [])

  -- the drawing with the boxes of the call
  abbrev pub called_drawing : Place → CifDrawing
  called_drawing place = record { strokes = drawing.strokes ++ stroke_of place (map (shifted call.x call.y) boxes); labels = drawing.labels }

  pub call_read : ReadsCommand (outside symbols drawing) call_command call_text (λ place. outside symbols (called_drawing place)) (map
      (shifted call.x call.y) boxes) []
  call_read = record {
    spelled = (
      tt,
      part_then (Letters (codes "C")) false _ (codes "C") (codes " ") _ refl refl (λ e. cc)
          (part_then (Unsigned (call.kind + 1)) false _ (decimal (call.kind + 1)) (codes " ") _ (number_writes _ (omega (arith, few))) refl (λ e. cc)
          (part_then (Letters (codes "T")) false _ (codes "T") (codes " ") _ refl refl (λ e. cc)
          (part_then (Signed (pos 200 *ℤ call.x)) true _ (signed_decimal (pos 200 *ℤ call.x)) (codes " ") _ (signed_writes _ (small_size _
          (within_place _ near_x))) refl (λ e f. cc)
          (part_then (Signed (pos 200 *ℤ call.y)) false _ (signed_decimal (pos 200 *ℤ call.y)) [] _ (signed_writes _ (small_size _
          (within_place _ near_y))) refl (λ e. cc) refl)))),
    );
    clear = clear;
    leads = leads;
    boxes_are = λ place. flat_map-append (λ (stroke : CifStroke). stroke.boxes) drawing.strokes (stroke_of place (map
        (shifted call.x call.y) boxes)) ∙ ap (λ l. stroke_boxes drawing.strokes ++ l) (one_stroke place (map (shifted call.x call.y) boxes));
    labels_are = λ place. sym (append-nil drawing.labels);
  }
    where
      leads : (place : Place) → CommandLeads (outside symbols drawing) place call_command (outside symbols (called_drawing place))
      leads place =
          (map (shifted call.x call.y) boxes, rw (found, called_is call.x call.y near_x near_y boxes good) refl, refl)

      clear : (code : CifCode) → MeetsCode code (outside symbols drawing) call_command → ⊥
      clear C4 h = let e : Some (kind_symbol (call.kind + 1) boxes) ≡ None = sym found ∙ h in cc
      clear C7 h = none_is (IsOffGrid one) ((pos 2 *ℤ (pos 200 *ℤ call.x)) ∷ (pos 2 *ℤ (pos 200 *ℤ call.y)) ∷ []) (
        (placed _ near_x).on_grid,
        ((placed _ near_y).on_grid, tt),
      ) h
      clear C8 h = elim h [
        | inl great ↦ none_is IsTooGreat (pos (call.kind + 1) ∷ (pos 200 *ℤ call.x) ∷ (pos 200 *ℤ call.y) ∷ [])
            (not_great _ (within_numbers _ few), (not_great _ (within_place _ near_x), (not_great _ (within_place _ near_y), tt))) great
        | inr far ↦ none_is (IsFarOff one) ((pos 2 *ℤ (pos 200 *ℤ call.x)) ∷ (pos 2 *ℤ (pos 200 *ℤ call.y)) ∷ []) (
          (placed _ near_x).near,
          ((placed _ near_y).near, tt),
        ) far
      ]
      clear C9 h = cc
      clear C14 h = let g = rw found at h in short boxes g
        where
          short : (boxes : List BoxShape) → 64 < chain_if_drawn boxes 0 → ⊥
          short [] lt = omega (arith, lt)
          short (b ∷ boxes) lt = omega (arith, lt)
      clear other h = h
