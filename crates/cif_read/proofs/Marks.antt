-- Lines and columns, byte by byte.
use Rattle.std.proofs.Common.{◌≡◌, ℕ, ◌+◌, ◌≤◌, ◌<◌, Bool, true, false, not, cond, List, [], ◌∷◌, length, take, get_or, reverse, refl, ◌∙◌, ap, arith}
use Rattle.std.specs.List.{prefix_len, count_by}
use Rattle.std.proofs.lemmas.List.{take_more, reverse-append, length-take-le, length-reverse}
use Rattle.std.proofs.lemmas.List.Sums.{count_by-le-length, count_by_more_no, count_by_more_yes, prefix_len-le-length}
use Rattle.rx_text.specs.TextPlace.{is_line_feed, since_line_feed}
use Rattle.rx_text.specs.declared.place.Place.{Place}
use Rattle.rx_text.specs.declared.place.Place.TheVariants.{Text, Square, Whole}
use Rattle.cif_read.specs.declared.mark.Mark.{Mark}
use Rattle.cif_read.specs.Marks.{IsMark, next_mark}

abbrev line_in : Place → ℕ
line_in (Text line column) = line
line_in (Square x y) = 0
line_in Whole = 0

abbrev column_in : Place → ℕ
column_in (Text line column) = column
column_in (Square x y) = 0
column_in Whole = 0

-- the lines and the columns before a mark
line_is : (text : List ℕ) (m : Mark) → IsMark text m → count_by is_line_feed (take m.at text) + 1 ≡ m.line
line_is text m h = ap line_in h.place_is

column_is : (text : List ℕ) (m : Mark) → IsMark text m → since_line_feed (take m.at text) + 1 ≡ m.column
column_is text m h = ap column_in h.place_is

pub line_bound : (text : List ℕ) (m : Mark) → IsMark text m → m.line ≤ m.at + 1
line_bound text m h =
    let c : count_by is_line_feed (take m.at text) ≤ length (take m.at text) = count_by-le-length is_line_feed (take m.at text) in
    let l : length (take m.at text) ≡ m.at = length-take-le m.at text h.within in
    omega (arith, c, l, line_is text m h)

pub column_bound : (text : List ℕ) (m : Mark) → IsMark text m → m.column ≤ m.at + 1
column_bound text m h =
    let p : ℕ → Bool = λ byte. not (is_line_feed byte) in
    let c : since_line_feed (take m.at text) ≤ length (reverse (take m.at text)) = prefix_len-le-length p (reverse (take m.at text)) in
    let r : length (reverse (take m.at text)) ≡ length (take m.at text) = length-reverse (take m.at text) in
    let l : length (take m.at text) ≡ m.at = length-take-le m.at text h.within in
    omega (arith, c, r, l, column_is text m h)

-- the columns behind one byte more
columns_more : (text : List ℕ) (at : ℕ) → at < length text
    → since_line_feed (take (at + 1) text) ≡ cond (not (is_line_feed (get_or text at 0))) (1 + since_line_feed (take at text)) 0
columns_more text at lt =
    let p : ℕ → Bool = λ byte. not (is_line_feed byte) in
    ap (λ (l : List ℕ). prefix_len p (reverse l)) (take_more text at 0 lt)
    ∙ ap (prefix_len p) (reverse-append (take at text) (get_or text at 0 ∷ []))

more_if : (text : List ℕ) (m : Mark) (t : Bool) → m.at < length text → IsMark text m → is_line_feed (get_or text m.at 0) ≡ t
    → IsMark text (cond t (record { at = m.at + 1; line = m.line + 1; column = 1 })
    (record { at = m.at + 1; line = m.line; column = m.column + 1 }))
more_if text m true lt h e =
    let l : count_by is_line_feed (take (m.at + 1) text) ≡ count_by is_line_feed
    (take m.at text) + 1 = count_by_more_yes is_line_feed text m.at 0 lt e in
    let c : since_line_feed (take (m.at + 1) text) ≡ 0 =
    columns_more text m.at lt ∙ ap (λ (v : Bool). cond (not v) (1 + since_line_feed (take m.at text)) 0) e in
    let line : count_by is_line_feed (take (m.at + 1) text) + 1 ≡ m.line + 1 = omega (arith, l, line_is text m h) in
    let column : since_line_feed (take (m.at + 1) text) + 1 ≡ 1 = omega (arith, c) in
    record {
      within = omega (arith, lt);
      place_is = ap (λ (v : ℕ). Text v (since_line_feed (take (m.at + 1) text) + 1)) line ∙ ap (Text
          (m.line + 1)) column;
    }
more_if text m false lt h e =
    let l : count_by is_line_feed (take (m.at + 1) text) ≡ count_by is_line_feed
    (take m.at text) = count_by_more_no is_line_feed text m.at 0 lt e in
    let c : since_line_feed (take (m.at + 1) text) ≡ 1 + since_line_feed (take m.at text) =
    columns_more text m.at lt ∙ ap (λ (v : Bool). cond (not v) (1 + since_line_feed (take m.at text)) 0) e in
    let line : count_by is_line_feed (take (m.at + 1) text) + 1 ≡ m.line = omega (arith, l, line_is text m h) in
    let column : since_line_feed (take (m.at + 1) text) + 1 ≡ m.column + 1 = omega (arith, c, column_is text m h) in
    record {
      within = omega (arith, lt);
      place_is = ap (λ (v : ℕ). Text v (since_line_feed (take (m.at + 1) text) + 1)) line ∙ ap
          (Text m.line) column;
    }

pub mark_more : (text : List ℕ) (m : Mark) → m.at < length text → IsMark text m → IsMark text (next_mark m (get_or text m.at 0))
mark_more text m lt h = more_if text m (is_line_feed (get_or text m.at 0)) lt h refl

-- the place behind a byte
pub at_more : (m : Mark) (byte : ℕ) {to : ℕ} → m.at + 1 ≤ to → (next_mark m byte).at ≤ to
at_more m byte {to} h = by (is_line_feed byte)
  where
    by : (t : Bool) → (let n : Mark = cond t (record { at = m.at + 1; line = m.line + 1; column = 1 })
        (record { at = m.at + 1; line = m.line; column = m.column + 1 })
        in n.at ≤ to)
    by true = h
    by false = h
