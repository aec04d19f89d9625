-- The lines of boxes, and whole definitions, as they are read.
use Rattle.std.proofs.Common.{◌≡◌, inl, inr, ℕ, ◌+◌, ◌*◌, ◌<◌, ◌≤◌, ◌^◌, Bool, true, false, ◌==◌, ℤ, pos, negsuc, ◌+ℤ◌, ◌-ℤ◌, ◌*ℤ◌, List, [], ◌∷◌, ◌++◌, Option, Some, None, codes, refl, sym, ap, ◌∙◌, append_assoc, append-nil, arith}
use Rattle.std.specs.Prelude.{unsigned_abs}
use Rattle.std.specs.List.{list_any}
use Rattle.std.specs.Fmt.{decimal, signed_decimal}
use Rattle.std.proofs.lemmas.Int.{ints}
use Rattle.std.proofs.lemmas.Bool.{eqb-true}
use Rattle.geom.specs.declared.layer.Layer.{Layer}
use Rattle.geom.specs.declared.layer.Layer.TheVariants.{Diffusion, Poly, Metal, Cut, Implant}
use Rattle.geom.specs.declared.chip.Label.{Label}
use Rattle.geom.specs.declared.cif_code.CifCode.{CifCode}
use Rattle.geom.specs.declared.cif_code.CifCode.TheVariants.{C3, C7, C8, C9}
use Rattle.geom.specs.Squares.{BoxShape}
use Rattle.geom.specs.Rows.{Among}
use Rattle.geom.specs.Merged.{rank}
use Rattle.geom.specs.CifCommands.{CifCommand, DrawsBox, Letters, Unsigned, Signed}
use Rattle.geom.specs.CifLabels.{layer_word}
use Rattle.geom.specs.CifDrawings.{CifSymbol, CifDrawing, scaled}
use Rattle.geom.specs.CifCodes.{MeetsCode, IsTooGreat, IsOffGrid, IsFarOff}
use Rattle.geom.specs.CifRefusals.{stroke_boxes}
use Rattle.cif_write.specs.ChipText.{box_line, layer_line, is_same_layer, box_lines, kind_lines}
use Rattle.cif_write.specs.WrittenChips.{IsWritableEdge, IsWritableBox}
use Rattle.cif_write.proofs.CifNumbers.{number_writes, signed_writes, IsWithin40, IsLength, length_of}
use Rattle.cif_write.proofs.CifSteps.{none_is, not_great, ReadsCommand, GoesBehind, step}
use Rattle.cif_write.proofs.CifKinds.{outside, within, kind_symbol, hundred, part_then, within_numbers, opening_text, opens, closes, sets_layer, IsSides, sides, within_edge}

-- a small number has few digits' worth
pub small_sum : (a b : ℤ) → IsWritableEdge a → IsWritableEdge b → IsWithin40 (a +ℤ b)
small_sum a b near far = record { from = omega (arith, ints, near.from, far.from); to = omega (arith, ints, near.to, far.to) }

pub small_size : (z : ℤ) → IsWithin40 z → unsigned_abs z < 2 ^ 64
small_size (pos n) near = omega (arith, ints, near.to)
small_size (negsuc n) near = omega (arith, ints, near.from)

-- the edges of the box, by its middle and its sides
left_edge : (from to : ℤ) (side : ℕ) → IsSides from to side → IsWritableEdge from → IsLength hundred (pos 2 *ℤ (from +ℤ to) -ℤ pos side) from
left_edge from to side s near =
    length_of 100 _ from (omega (arith, ints, s.is)) (within_edge from near)

right_edge : (from to : ℤ) (side : ℕ) → IsSides from to side → IsWritableEdge to → IsLength hundred (pos 2 *ℤ (from +ℤ to) +ℤ pos side) to
right_edge from to side s near =
    length_of 100 _ to (omega (arith, ints, s.is)) (within_edge to near)

layer_same : (l m : Layer) → rank l ≡ rank m → l ≡ m
layer_same Diffusion Diffusion e = refl
layer_same Poly Poly e = refl
layer_same Metal Metal e = refl
layer_same Cut Cut e = refl
layer_same Implant Implant e = refl
layer_same _ _ e = cc

-- the bytes of a line from left to right
written : (head w s h x y e more : List ℕ) → (head ++ w ++ s ++ h ++ s ++ (x ++ s ++ y ++ e)) ++ more ≡ head ++ (w ++ (s ++ (h ++ (s ++ (x ++ (s ++
    (y ++ (e ++ more))))))))
written head w s h x y e more = simp append_assoc refl

nested : (head w s h x y n z : List ℕ) → (head ++ (w ++ (s ++ (h ++ (s ++ (x ++ (s ++ (y ++ n)))))))) ++ z ≡ head ++ (w ++ (s ++ (h ++ (s ++ (x ++
    (s ++ (y ++ (n ++ z))))))))
nested head w s h x y n z = simp append_assoc refl

module _ (symbols : List CifSymbol) (drawing : CifDrawing) (n : ℕ) (boxes : List BoxShape) (b : BoxShape) (good : IsWritableBox b) where
  -- `B LENGTH WIDTH X Y`
  abbrev box_text : ℕ → ℕ → List ℕ
  box_text along across =
      codes "B" ++ (codes " " ++ (decimal along ++ (codes " " ++ (decimal across ++ (codes " " ++ (signed_decimal (b.x1 +ℤ b.x2) ++ (codes " " ++
      (signed_decimal (b.y1 +ℤ b.y2) ++ ([] ++ [])))))))))

  abbrev box_command : ℕ → ℕ → CifCommand
  box_command along across = DrawsBox along across (record { x = b.x1 +ℤ b.x2; y = b.y1 +ℤ b.y2 }) None

  -- twice the edges
  abbrev edges : ℕ → ℕ → List ℤ
  edges along across =
      (pos 2 *ℤ (b.x1 +ℤ b.x2) -ℤ pos along) ∷ (pos 2 *ℤ (b.y1 +ℤ b.y2) -ℤ pos across) ∷ (pos 2 *ℤ (b.x1 +ℤ b.x2) +ℤ pos along)
      ∷ (pos 2 *ℤ (b.y1 +ℤ b.y2) +ℤ pos across) ∷ []

  draws_box : (along across : ℕ) → IsSides b.x1 b.x2 along → IsSides b.y1 b.y2 across
      → ReadsCommand (within symbols drawing n boxes (Some b.layer)) (box_command along across) (box_text along across)
      (λ place. within symbols drawing n (boxes ++ b ∷ []) (Some b.layer)) [] []
  draws_box along across x y = record {
    spelled = (
      tt,
      part_then (Letters (codes "B")) false _ (codes "B") (codes " ") _ refl refl (λ e. cc)
          (part_then (Unsigned along) true _ (decimal along) (codes " ") _ (number_writes along (omega (arith, x.few))) refl (λ e f. cc)
          (part_then (Unsigned across) true _ (decimal across) (codes " ") _ (number_writes across (omega (arith, y.few))) refl (λ e f. cc)
          (part_then (Signed (b.x1 +ℤ b.x2)) true _ (signed_decimal (b.x1 +ℤ b.x2)) (codes " ") _ (signed_writes _ (small_size _ middle_x)) refl (λ e f. cc)
          (part_then (Signed (b.y1 +ℤ b.y2)) false _ (signed_decimal (b.y1 +ℤ b.y2)) [] _ (signed_writes _ (small_size _ middle_y)) refl (λ e. cc) refl)))),
    );
    clear = clear;
    leads = λ place. (b ∷ [], drawn, refl);
    boxes_are = λ place. sym (append-nil (stroke_boxes drawing.strokes));
    labels_are = λ place. sym (append-nil drawing.labels);
  }
    where
      middle_x : IsWithin40 (b.x1 +ℤ b.x2)
      middle_x = small_sum _ _ good.left good.right

      middle_y : IsWithin40 (b.y1 +ℤ b.y2)
      middle_y = small_sum _ _ good.bottom good.top

      left : IsLength hundred (pos 2 *ℤ (b.x1 +ℤ b.x2) -ℤ pos along) b.x1
      left = left_edge b.x1 b.x2 along x good.left

      right : IsLength hundred (pos 2 *ℤ (b.x1 +ℤ b.x2) +ℤ pos along) b.x2
      right = right_edge b.x1 b.x2 along x good.right

      bottom : IsLength hundred (pos 2 *ℤ (b.y1 +ℤ b.y2) -ℤ pos across) b.y1
      bottom = left_edge b.y1 b.y2 across y good.bottom

      top : IsLength hundred (pos 2 *ℤ (b.y1 +ℤ b.y2) +ℤ pos across) b.y2
      top = right_edge b.y1 b.y2 across y good.top

      drawn : b ∷ [] ≡ record {
        layer = b.layer;
        x1 = scaled hundred (pos 2 *ℤ (b.x1 +ℤ b.x2) -ℤ pos along);
        y1 = scaled hundred (pos 2 *ℤ
            (b.y1 +ℤ b.y2) -ℤ pos across);
        x2 = scaled hundred (pos 2 *ℤ (b.x1 +ℤ b.x2) +ℤ pos along);
        y2 = scaled hundred (pos 2 *ℤ
            (b.y1 +ℤ b.y2) +ℤ pos across);
      } ∷ []
      drawn = rw (left.is, bottom.is, right.is, top.is) refl

      clear : (code : CifCode) → MeetsCode code (within symbols drawing n boxes (Some b.layer)) (box_command along across) → ⊥
      clear C3 h = cc
      clear C7 h = none_is (IsOffGrid hundred) (edges along across) (left.on_grid, (bottom.on_grid, (right.on_grid, (top.on_grid, tt)))) h
      clear C8 h = elim h [
        | inl great ↦ none_is IsTooGreat (pos along ∷ pos across ∷ (b.x1 +ℤ b.x2) ∷ (b.y1 +ℤ b.y2) ∷ [])
            (not_great _ (within_numbers along x.few), (not_great _ (within_numbers across y.few), (not_great _ middle_x, (not_great _ middle_y, tt)))) great
        | inr far ↦ none_is (IsFarOff hundred) (edges along across) (left.near, (bottom.near, (right.near, (top.near, tt)))) far
      ]
      clear C9 h = elim h [ inl none ↦ x.some none | inr rest ↦ elim rest [ inl none ↦ y.some none | inr oblique ↦ cc ] ]
      clear other h = h

  -- ---- lines

  -- the line of the box, and what is read behind it
  pub box_goes : (more : List ℕ) (xs : List BoxShape) (ls : List Label)
      → GoesBehind (within symbols drawing n (boxes ++ b ∷ []) (Some b.layer)) more xs ls
      → GoesBehind (within symbols drawing n boxes (Some b.layer)) (box_line b ++ more) xs ls
  box_goes more xs ls behind =
      let (along, x) = sides b.x1 b.x2 good.box.across.order good.left good.right in
      let (across, y) = sides b.y1 b.y2 good.box.upward.order good.bottom good.top in
      let e : box_line b ++ more ≡ box_text along across ++ (59 ∷ 10 ∷ more) =
      rw (← x.is, ← y.is) (
      written (codes "B ") (decimal along) (codes " ") (decimal across) (signed_decimal (b.x1 +ℤ b.x2)) (signed_decimal (b.y1 +ℤ b.y2)) (codes ";\n") more
      ∙ sym (nested (codes "B ") (decimal along) (codes " ") (decimal across) (signed_decimal (b.x1 +ℤ b.x2)) (signed_decimal (b.y1 +ℤ b.y2)) []
      (59 ∷ 10 ∷ more))) in
      rw e (step more xs ls (draws_box along across x y) (λ place. behind))

  -- the line of its layer and its own
  pub layer_goes : (before : Option Layer) (more : List ℕ) (xs : List BoxShape) (ls : List Label)
      → GoesBehind (within symbols drawing n (boxes ++ b ∷ []) (Some b.layer)) more xs ls
      → GoesBehind (within symbols drawing n boxes before) ((layer_line before b.layer ++ box_line b) ++ more) xs ls
  layer_goes before more xs ls behind = by_test before (is_same_layer before b.layer) refl
    where
      by_test : (before : Option Layer) (same : Bool) → is_same_layer before b.layer ≡ same
          → GoesBehind (within symbols drawing n boxes before) ((layer_line before b.layer ++ box_line b) ++ more) xs ls
      by_test before false t =
          let e : (layer_line before b.layer ++ box_line b) ++ more
          ≡ (codes "L" ++ (codes " " ++ (layer_word b.layer ++ ([] ++ [])))) ++ (59 ∷ 10 ∷ (box_line b ++ more)) =
          rw t (ap (λ l. l ++ more) (append_assoc (codes "L " ++ layer_word b.layer) (codes ";\n") (box_line b))
          ∙ append_assoc (codes "L " ++ layer_word b.layer) (codes ";\n" ++ box_line b) more
          ∙ append_assoc (codes "L ") (layer_word b.layer) (codes ";\n" ++ (box_line b ++ more))
          ∙ sym (append_assoc (codes "L ") (layer_word b.layer ++ []) (59 ∷ 10 ∷ (box_line b ++ more))
          ∙ ap (λ l. codes "L " ++ l) (append_assoc (layer_word b.layer) [] (59 ∷ 10 ∷ (box_line b ++ more))))) in
          rw e (step (box_line b ++ more) xs ls (sets_layer symbols drawing n boxes before b.layer) (λ place. box_goes more xs ls behind))
      by_test None true t = cc
      by_test (Some last) true t =
          let same : last ≡ b.layer = layer_same last b.layer (eqb-true _ _ t) in
          rw (t, same) (box_goes more xs ls behind)

-- boxes within reach
abbrev pub AreWritable : List BoxShape → Type 0
AreWritable boxes = (b : BoxShape) → Among boxes b → IsWritableBox b

module _ (symbols : List CifSymbol) (drawing : CifDrawing) (n : ℕ) where
  -- the lines of boxes behind others, and what is read behind them
  pub boxes_go : (boxes drawn : List BoxShape) (before : Option Layer) (more : List ℕ) (xs : List BoxShape) (ls : List Label) → AreWritable boxes
      → ((layer : Option Layer) → GoesBehind (within symbols drawing n (drawn ++ boxes) layer) more xs ls)
      → GoesBehind (within symbols drawing n drawn before) (box_lines before boxes ++ more) xs ls
  boxes_go [] drawn before more xs ls good behind =
      let e : drawn ++ [] ≡ drawn = append-nil drawn in rw e at (behind before)
  boxes_go (b ∷ boxes) drawn before more xs ls good behind =
      let e : (drawn ++ b ∷ []) ++ boxes ≡ drawn ++ b ∷ boxes = append_assoc drawn (b ∷ []) boxes in
      let later =
      boxes_go boxes (drawn ++ b ∷ []) (Some b.layer) more xs ls (λ c among. good c (inr among))
      (λ layer. rw e (behind layer)) in
      let f : box_lines before (b ∷ boxes) ++ more ≡ (layer_line before b.layer ++ box_line b) ++ (box_lines (Some b.layer) boxes ++ more) =
      append_assoc (layer_line before b.layer ++ box_line b) (box_lines (Some b.layer) boxes) more in
      rw f (layer_goes symbols drawing n drawn b (good b (inl refl)) before (box_lines (Some b.layer) boxes ++ more) xs ls later)

  -- the definition of a kind
  pub kind_goes : (boxes : List BoxShape) (more : List ℕ) (xs : List BoxShape) (ls : List Label) → AreWritable boxes → n ≤ 2 ^ 40
      → list_any (λ symbol. symbol.number == n) symbols ≡ false → GoesBehind (outside (kind_symbol n boxes ∷ symbols) drawing) more xs ls
      → GoesBehind (outside symbols drawing) (kind_lines n boxes ++ more) xs ls
  kind_goes boxes more xs ls good few fresh behind =
      let end : (layer : Option Layer) → GoesBehind (within symbols drawing n boxes layer) (codes "DF;\n" ++ more) xs ls =
      λ layer. step more xs ls (closes symbols drawing n boxes layer) (λ place. behind) in
      let lines : GoesBehind (within symbols drawing n [] None) (box_lines None boxes ++ (codes "DF;\n" ++ more)) xs ls =
      boxes_go boxes [] None (codes "DF;\n" ++ more) xs ls good end in
      let e : kind_lines n boxes ++ more ≡ opening_text symbols drawing n ++ (59 ∷ 10 ∷ (box_lines None boxes ++ (codes "DF;\n" ++ more))) =
      kind_written (codes "DS ") (decimal n) (codes " 100 1") (codes ";\n") (box_lines None boxes) (codes "DF;\n") more in
      rw e (step _ xs ls (opens symbols drawing n few fresh) (λ place. lines))
    where
      kind_written : (head number scale end boxes last more : List ℕ)
          → (head ++ number ++ (scale ++ end) ++ boxes ++ last) ++ more ≡ (head ++ (number ++ scale)) ++ (end ++ (boxes ++ (last ++ more)))
      kind_written head number scale end boxes last more = simp append_assoc refl
