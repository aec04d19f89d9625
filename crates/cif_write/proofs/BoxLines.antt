-- Lines of boxes, and definitions of kinds, one after another.
use Rattle.std.proofs.Common.{◌≡◌, ℕ, ◌+◌, ◌<◌, List, [], ◌∷◌, ◌++◌, Option, Some, None, length, get_or, take, drop, refl, sym, ap, ◌∙◌, append_assoc, append-nil, arith}
use Rattle.std.proofs.lemmas.List.{take_more, take-append-drop, length-take-le}
use Rattle.geom.specs.declared.layer.Layer.{Layer}
use Rattle.geom.specs.Squares.{BoxShape}
use Rattle.cif_write.specs.ChipText.{layer_line, box_line, box_lines, kind_lines, kinds_lines}

-- the layer of the last of these boxes, or of the one before them
abbrev pub layer_behind : Option Layer → List BoxShape → Option Layer
layer_behind before [] = before
layer_behind before (b ∷ boxes) = layer_behind (Some b.layer) boxes

pub box_lines-append : (before : Option Layer) (xs ys : List BoxShape) → box_lines before (xs ++ ys) ≡ box_lines before xs ++ box_lines (layer_behind before xs) ys
box_lines-append before [] ys = refl
box_lines-append before (x ∷ xs) ys =
    ap (λ l. layer_line before x.layer ++ box_line x ++ l) (box_lines-append (Some x.layer) xs ys)
    ∙ sym (append_assoc (layer_line before x.layer ++ box_line x) (box_lines (Some x.layer) xs) (box_lines (layer_behind (Some x.layer) xs) ys))

pub layer_behind-append : (before : Option Layer) (xs : List BoxShape) (y : BoxShape) → layer_behind before (xs ++ y ∷ []) ≡ Some y.layer
layer_behind-append before [] y = refl
layer_behind-append before (x ∷ xs) y = layer_behind-append (Some x.layer) xs y

module _ (xs : List BoxShape) (i : ℕ) (x d : BoxShape) (within : i < length xs) (is : x ≡ get_or xs i d) where
  one_more : take (i + 1) xs ≡ take i xs ++ x ∷ []
  one_more = take_more xs i d within ∙ ap (λ y. take i xs ++ y ∷ []) (sym is)

  -- the lines as far as this box
  pub box_lines_more : box_lines None (take (i + 1) xs) ≡ box_lines None (take i xs) ++ (layer_line (layer_behind None (take i xs)) x.layer ++ box_line x)
  box_lines_more =
      ap (box_lines None) one_more ∙ box_lines-append None (take i xs) (x ∷ [])
      ∙ ap (λ l. box_lines None (take i xs) ++ l) (append-nil (layer_line (layer_behind None (take i xs)) x.layer ++ box_line x))

  -- the lines before, those of this box, and those behind it
  pub box_lines_around : box_lines None xs
      ≡ box_lines None (take i xs) ++ (layer_line (layer_behind None (take i xs)) x.layer ++ box_line x)
      ++ box_lines (layer_behind None (take (i + 1) xs)) (drop (i + 1) xs)
  box_lines_around =
      ap (box_lines None) (sym (take-append-drop (i + 1) xs)) ∙ box_lines-append None (take (i + 1) xs) (drop (i + 1) xs)
      ∙ ap (λ l. l ++ box_lines (layer_behind None (take (i + 1) xs)) (drop (i + 1) xs)) box_lines_more

  pub layer_behind_more : layer_behind None (take (i + 1) xs) ≡ Some x.layer
  layer_behind_more = ap (layer_behind None) one_more ∙ layer_behind-append None (take i xs) x

pub kinds_lines-append : (before : ℕ) (xs ys : List (List BoxShape)) → kinds_lines before (xs ++ ys) ≡ kinds_lines before xs ++ kinds_lines (before + length xs) ys
kinds_lines-append before [] ys = let e : before + 0 ≡ before = omega arith in ap (λ n. kinds_lines n ys) (sym e)
kinds_lines-append before (x ∷ xs) ys =
    let e : before + 1 + length xs ≡ before + length (x ∷ xs) = omega arith in
    ap (λ l. kind_lines (before + 1) x ++ l) (kinds_lines-append (before + 1) xs ys ∙ ap (λ n. kinds_lines (before + 1) xs ++ kinds_lines n ys) e)
    ∙ sym (append_assoc (kind_lines (before + 1) x) (kinds_lines (before + 1) xs) (kinds_lines (before + length (x ∷ xs)) ys))

module _ (xs : List (List BoxShape)) (i : ℕ) (x d : List BoxShape) (within : i < length xs) (is : x ≡ get_or xs i d) where
  -- the definitions as far as this kind
  pub kinds_lines_more : kinds_lines 0 (take (i + 1) xs) ≡ kinds_lines 0 (take i xs) ++ kind_lines (i + 1) x
  kinds_lines_more =
      let count : 0 + length (take i xs) ≡ i = omega (arith, length-take-le i xs (omega (arith, within))) in
      ap (kinds_lines 0) (take_more xs i d within ∙ ap (λ y. take i xs ++ y ∷ []) (sym is)) ∙ kinds_lines-append 0 (take i xs) (x ∷ [])
      ∙ ap (λ n. kinds_lines 0 (take i xs) ++ kinds_lines n (x ∷ [])) count
      ∙ ap (λ l. kinds_lines 0 (take i xs) ++ l) (append-nil (kind_lines (i + 1) x))

  -- the definitions before, this one, and those behind it
  pub kinds_lines_around : kinds_lines 0 xs
      ≡ kinds_lines 0 (take i xs) ++ kind_lines (i + 1) x ++ kinds_lines (0 + length (take (i + 1) xs)) (drop (i + 1) xs)
  kinds_lines_around =
      ap (kinds_lines 0) (sym (take-append-drop (i + 1) xs)) ∙ kinds_lines-append 0 (take (i + 1) xs) (drop (i + 1) xs)
      ∙ ap (λ l. l ++ kinds_lines (0 + length (take (i + 1) xs)) (drop (i + 1) xs)) kinds_lines_more
