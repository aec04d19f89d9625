-- The least code of a label.
use Rattle.std.proofs.Common.{◌≡◌, ◌⊎◌, inl, inr, ℕ, zero, suc, ◌+◌, ◌*◌, ◌%◌, ◌^◌, ◌≤◌, ◌<◌, Bool, true, false, cond, not, ◌&&◌, ◌||◌, ℤ, pos, negsuc, neg_ℤ, ◌*ℤ◌, ◌+ℤ◌, ◌<ℤ◌, int_rem, int_div, List, [], ◌∷◌, ◌++◌, find, bytes_eq, Option, Some, None, IsSome, is_some, refl, sym, ◌∙◌, ap, subst, arith}
use Rattle.std.specs.Bool.{Decides}
use Rattle.std.specs.Int.RustNames.{unsigned_abs}
use mir.Syntax.{w64}
use mir.Val.{to_z, of_z}
use Rattle.std.proofs.lemmas.Int.{ints, quot-rem, rem_below, to_z-of_z, fits_signed_from_abs}
use Rattle.std.proofs.lemmas.Slice.Eq.{bytes_eq-Decides}
use Rattle.rx_text.specs.Role.{NamedRole}
use Rattle.geom.specs.declared.layer.Layer.{Layer}
use Rattle.geom.specs.declared.layer.Layer.TheVariants.{Diffusion, Poly, Metal, Cut, Implant}
use Rattle.geom.specs.declared.chip.Label.{Label}
use Rattle.geom.specs.declared.point.Point.{Point}
use Rattle.geom.specs.declared.cif_code.CifCode.{CifCode}
use Rattle.geom.specs.declared.cif_code.CifCode.TheVariants.{C7, C8, C12}
use Rattle.geom.specs.CifCommands.{Extension, WritesSigned, IsShortName}
use Rattle.geom.specs.CifCodes.{SomeIs, IsOffGrid, IsTooGreat, MeetsCode, HasGreatNumber, LabelIsOffGrid, code_number}
use Rattle.geom.specs.CifLabels.{layer_word, layer_named, bears_labels, has_bytes, label_word, label_words, NamesPad, IsLabel}
use Rattle.geom.specs.CifDrawings.{CifState, CifOpening}
use Rattle.cif_values.specs.Numbers.{StandsFor}
use Rattle.cif_codes.specs.Least.{IsLeastCode}
use Rattle.cif_labels.specs.declared.spots.Spot.{Spot}
use Rattle.cif_labels.specs.Words.{put_word}
use Rattle.cif_labels.specs.Spots.{Reads, bearing, layer_in, point_by, point_of, IsSpotOf, OffTold, IsNearWord}
use Rattle.cif_labels.proofs.Spotting.{same_number, no_number}

-- ---- multiples of 200

-- twice a number, by the scale 1
abbrev pub OffTwice : ℤ → Type 0
OffTwice z = IsOffGrid (record { times = 1; per = 1 }) (pos 2 *ℤ z)

zero_or_not : (z : ℤ) → (z ≡ pos 0) ⊎ (z ≡ pos 0 → ⊥)
zero_or_not (pos zero) = inl refl
zero_or_not (pos (suc n)) = inr (λ e. cc)
zero_or_not (negsuc n) = inr (λ e. cc)

whole_rem : (n : ℕ) → (400 * n) % 400 ≡ 0
whole_rem n = omega arith

on_multiple : (k : ℤ) → int_rem ((pos 2 *ℤ (pos 200 *ℤ k)) *ℤ pos 1) (pos 400) ≡ pos 0
on_multiple (pos n) =
    let e : (pos 2 *ℤ (pos 200 *ℤ pos n)) *ℤ pos 1 ≡ pos (400 * n) = omega (arith, ints) in
    ap (λ (z : ℤ). int_rem z (pos 400)) e ∙ ap pos (whole_rem n)
on_multiple (negsuc n) =
    let e : (pos 2 *ℤ (pos 200 *ℤ negsuc n)) *ℤ pos 1 ≡ negsuc (400 * n + 399) = omega (arith, ints) in
    let f : suc (400 * n + 399) ≡ 400 * (n + 1) = omega arith in
    ap (λ (z : ℤ). int_rem z (pos 400)) e ∙ (ap (λ (a : ℕ). neg_ℤ (pos (a % 400))) f ∙ ap (λ (a : ℕ). neg_ℤ (pos a)) (whole_rem (n + 1)))

pub multiple_on : (z k : ℤ) → z ≡ pos 200 *ℤ k → OffTwice z → ⊥
multiple_on z k e off = off (ap (λ (v : ℤ). int_rem ((pos 2 *ℤ v) *ℤ pos 1) (pos 400)) e ∙ on_multiple k)

divides : (z d r q : ℤ) → d *ℤ pos 200 +ℤ r ≡ z → unsigned_abs r < 200 → q *ℤ pos 400 +ℤ pos 0 ≡ (pos 2 *ℤ z) *ℤ pos 1 → pos 200 *ℤ d ≡ z
divides z d (pos r) q e l f = omega (arith, ints, e, l, f)
divides z d (negsuc r) q e l f = omega (arith, ints, e, l, f)

pub on_divides : (z : ℤ) → (OffTwice z → ⊥) → pos 200 *ℤ int_div z (pos 200) ≡ z
on_divides z h = by (zero_or_not (int_rem ((pos 2 *ℤ z) *ℤ pos 1) (pos 400)))
  where
    by : (int_rem ((pos 2 *ℤ z) *ℤ pos 1) (pos 400) ≡ pos 0) ⊎ (int_rem ((pos 2 *ℤ z) *ℤ pos 1) (pos 400) ≡ pos 0 → ⊥) → pos 200 *ℤ int_div z (pos 200) ≡ z
    by (inr n) = absurd (h n)
    by (inl r) =
        let q = quot-rem ((pos 2 *ℤ z) *ℤ pos 1) (pos 400) in
        divides z (int_div z (pos 200)) (int_rem z (pos 200)) (int_div ((pos 2 *ℤ z) *ℤ pos 1) (pos 400)) (quot-rem z (pos 200)) (rem_below z (pos 200) (omega arith))
        (ap (λ (v : ℤ). int_div ((pos 2 *ℤ z) *ℤ pos 1) (pos 400) *ℤ pos 400 +ℤ v) (sym r) ∙ q)

-- ---- words

abbrev behind_tail : List (List ℕ) → List (List ℕ)
behind_tail [] = []
behind_tail (a ∷ []) = []
behind_tail (a ∷ b ∷ words) = words

pub same_behind : (text : List ℕ) (pad other : NamedRole) (behind more : List (List ℕ)) → NamesPad text pad behind → NamesPad text other more → more ≡ behind
same_behind text pad other behind more h k = ap behind_tail (sym k.1 ∙ h.1)

-- three words, one by one
record ThreeWords (x y layer more : List ℕ) (a b c : List ℕ) : Type 0 where
  x_is : x ≡ a
  y_is : y ≡ b
  layer_is : layer ≡ c
  last : more ≡ []

three_words : (x y layer more : List ℕ) (others : List (List ℕ)) (a b c : List ℕ) → put_word x (put_word y (put_word layer (put_word more others))) ≡ a ∷ b ∷ c ∷ []
    → ThreeWords x y layer more a b c
three_words [] y layer more others a b c e = absurd cc
three_words (x ∷ xs) [] layer more others a b c e = absurd cc
three_words (x ∷ xs) (y ∷ ys) [] more others a b c e = absurd cc
three_words (x ∷ xs) (y ∷ ys) (l ∷ ls) [] others a b c e = record { x_is = cc; y_is = cc; layer_is = cc; last = refl }
three_words (x ∷ xs) (y ∷ ys) (l ∷ ls) (m ∷ ms) others a b c e = absurd cc

words_three : (x y layer more : List ℕ) (others : List (List ℕ)) → (x ≡ [] → ⊥) → (y ≡ [] → ⊥) → (layer ≡ [] → ⊥) → more ≡ []
    → put_word x (put_word y (put_word layer (put_word more others))) ≡ x ∷ y ∷ layer ∷ []
words_three [] y layer more others a b c e = absurd (a refl)
words_three (x ∷ xs) [] layer more others a b c e = absurd (b refl)
words_three (x ∷ xs) (y ∷ ys) [] more others a b c e = absurd (c refl)
words_three (x ∷ xs) (y ∷ ys) (l ∷ ls) more others a b c e =
    ap (λ (m : List ℕ). (x ∷ xs) ∷ (y ∷ ys) ∷ put_word (l ∷ ls) (put_word m others)) e

some_bytes : (z : ℤ) (word : List ℕ) → WritesSigned z word → word ≡ [] → ⊥
some_bytes z word w e = let P : List ℕ → Type 0 = λ l. WritesSigned z l in no_number z (subst P e w)

-- ---- points

-- the numbers of the first two words
pub record PointRead (x y : List ℕ) (p : Point) : Type 0 where
  pub across : ℤ
  pub upward : ℤ
  pub x_written : WritesSigned across x
  pub y_written : WritesSigned upward y
  pub x_stands : StandsFor 400 across p.x
  pub y_stands : StandsFor 400 upward p.y

some_is : (a b : Point) → ◌≡◌ {A = Option Point} (Some a) (Some b) → a ≡ b
some_is a b e = cc

pub point_read : (x y : List ℕ) (u v : Option ℤ) (p : Point) → Reads x u → Reads y v → point_by u v ≡ Some p → PointRead x y p
point_read x y None v p h k e = absurd cc
point_read x y (Some u) None p h k e = absurd cc
point_read x y (Some u) (Some v) p h k e =
    let P : Point → Type 0 = λ q. PointRead x y q in
    subst P (some_is (record { x = u; y = v }) p e)
    (record { across = h.0; upward = k.0; x_written = h.1; y_written = k.1; x_stands = h.2; y_stands = k.2 })

pub no_point : (x y : List ℕ) (u v : Option ℤ) → Reads x u → Reads y v → point_by u v ≡ None → (a b : ℤ) → WritesSigned a x → WritesSigned b y → ⊥
no_point x y None v h k e a b i j = h a i
no_point x y (Some u) None h k e a b i j = k b j
no_point x y (Some u) (Some v) h k e a b i j = absurd cc

-- it does for the numbers of the words
off_told : (x y : List ℕ) (u v : Option ℤ) (point : Option Point) (off : Bool) → Reads x u → Reads y v → point ≡ point_by u v → OffTold point off
    → (a b : ℤ) → WritesSigned a x → WritesSigned b y → Decides off (SomeIs (IsOffGrid (record { times = 1; per = 1 })) ((pos 2 *ℤ a) ∷ (pos 2 *ℤ b) ∷ []))
off_told x y u v None off h k e t a b i j = absurd (no_point x y u v h k (sym e) a b i j)
off_told x y u v (Some p) off h k e t a b i j =
    let r = point_read x y u v p h k (sym e) in
    let P : ℤ → Type 0 = λ n. Decides off (SomeIs (IsOffGrid (record { times = 1; per = 1 })) ((pos 2 *ℤ n) ∷ (pos 2 *ℤ b) ∷ [])) in
    let Q : ℤ → Type 0 = λ n. Decides off (SomeIs (IsOffGrid (record { times = 1; per = 1 })) ((pos 2 *ℤ r.across) ∷ (pos 2 *ℤ n) ∷ [])) in
    subst P (same_number x r.across a r.x_written i) (subst Q (same_number y r.upward b r.y_written j) (t r.across r.upward r.x_stands r.y_stands))

-- ---- layers

named_word : (layer : Layer) → layer_in (layer_word layer) ≡ cond (bears_labels layer) (Some layer) None
named_word Diffusion = refl
named_word Poly = refl
named_word Metal = refl
named_word Cut = refl
named_word Implant = refl

found : {X : Type 0} (p : X → Bool) (xs : List X) (x : X) → find p xs ≡ Some x → p x ≡ true
found p [] x e = absurd cc
found {X} p (y ∷ ys) x e = by (p y) refl e (λ f. found p ys x f)
  where
    inside : (a b : X) → ◌≡◌ {A = Option X} (Some a) (Some b) → a ≡ b
    inside a b e = cc

    by : (t : Bool) → p y ≡ t → cond t (Some y) (find p ys) ≡ Some x → (find p ys ≡ Some x → p x ≡ true) → p x ≡ true
    by true t e more = ap p (sym (inside y x e)) ∙ t
    by false t e more = more e

-- a layer on which labels stand, by its name
pub record Borne (word : List ℕ) (layer : Layer) : Type 0 where
  pub word_is : word ≡ layer_word layer
  pub bears : bears_labels layer ≡ true

pub borne : (word : List ℕ) (layer : Layer) → layer_in word ≡ Some layer → Borne word layer
borne word layer e = by (layer_named word) refl e
  where
    inside : (a b : Layer) → ◌≡◌ {A = Option Layer} (Some a) (Some b) → a ≡ b
    inside a b e = cc

    bearing_is : (l : Layer) (t : Bool) → bears_labels l ≡ t → cond t (Some l) None ≡ Some layer → (l ≡ layer) × (bears_labels l ≡ true)
    bearing_is l true t e = (inside l layer e, t)
    bearing_is l false t e = absurd cc

    by : (found1 : Option Layer) → layer_named word ≡ found1 → bearing found1 ≡ Some layer → Borne word layer
    by None f e = absurd cc
    by (Some l) f e =
        let b = bearing_is l (bears_labels l) refl e in
        let w : layer_word l ≡ word =
        (bytes_eq-Decides (layer_word l) word).0 (found (λ k. bytes_eq (layer_word k) word) (Diffusion ∷ Poly ∷ Metal ∷ Cut ∷ Implant ∷ []) l f) in
        record { word_is = sym w ∙ ap layer_word b.0; bears = ap bears_labels (sym b.0) ∙ b.1 }

short_layer : (layer : Layer) → IsShortName (layer_word layer)
short_layer Diffusion = record { some = λ e. cc; few = omega arith; bytes = refl }
short_layer Poly = record { some = λ e. cc; few = omega arith; bytes = refl }
short_layer Metal = record { some = λ e. cc; few = omega arith; bytes = refl }
short_layer Cut = record { some = λ e. cc; few = omega arith; bytes = refl }
short_layer Implant = record { some = λ e. cc; few = omega arith; bytes = refl }

-- ---- codes

opened : (o : Option CifOpening) → is_some o ≡ false → o ≡ None
opened None e = refl
opened (Some x) e = absurd cc

closed_by : (s : CifState) (unclosed : Bool) → Decides unclosed (IsSome s.opening) → unclosed ≡ false → s.opening ≡ None
closed_by s unclosed d e = opened s.opening (by (is_some s.opening) refl)
  where
    by : (t : Bool) → is_some s.opening ≡ t → t ≡ false
    by true f = let z : true ≡ false = sym (d.1 f) ∙ e in absurd cc
    by false f = refl

open_by : (s : CifState) (unclosed : Bool) → Decides unclosed (IsSome s.opening) → s.opening ≡ None → unclosed ≡ false
open_by s unclosed d e = by unclosed refl
  where
    by : (t : Bool) → unclosed ≡ t → t ≡ false
    by true f = let z : false ≡ true = sym (ap is_some e) ∙ d.0 f in absurd cc
    by false f = refl

-- what the code has found of an extension that names a pad
pub record Found (s : CifState) (text : List ℕ) (pad : NamedRole) (spot : Spot) (point : Option Point) (off unclosed : Bool) : Type 0 where
  pub behind : List (List ℕ)
  pub names : NamesPad text pad behind
  pub spot_is : IsSpotOf behind spot
  pub point_is : point ≡ point_of spot
  pub off_is : OffTold point off
  pub open_is : Decides unclosed (IsSome s.opening)

and_false : (a b c : Bool) → (a && b && not c) ≡ false → a ≡ true → b ≡ true → c ≡ false → ⊥
and_false a b c e f g h =
    let z : true ≡ false = sym (ap (λ (v : Bool). v && b && not c) f ∙ (ap (λ (v : Bool). v && not c) g ∙ ap not h)) ∙ e in cc

pub no_off : (s : CifState) (text : List ℕ) (pad : NamedRole) (spot : Spot) (point : Option Point) (off unclosed : Bool) → Found s text pad spot point off unclosed
    → (off && spot.named && not unclosed) ≡ false → LabelIsOffGrid s.opening text → ⊥
no_off s text pad spot point off unclosed f e l =
    let same = same_behind text pad l.pad f.behind (l.words.0 ∷ l.words.1 ∷ l.words.2 ∷ []) f.names l.names in
    let h = f.spot_is in
    let t = three_words h.x h.y h.layer h.more h.others l.words.0 l.words.1 l.words.2 (sym h.are ∙ sym same) in
    let P : List ℕ → Type 0 = λ w. WritesSigned l.x w in
    let Q : List ℕ → Type 0 = λ w. WritesSigned l.y w in
    let R : List ℕ → Type 0 = λ w. IsShortName w in
    let d = off_told h.x h.y spot.x spot.y point off h.x_is h.y_is f.point_is f.off_is l.x l.y (subst P (sym t.x_is) l.across) (subst Q (sym t.y_is) l.upward) in
    and_false off spot.named unclosed e (d.1 l.off) (h.named_is.1 (t.last, subst R (sym t.layer_is) l.layer)) (open_by s unclosed f.open_is l.outside)

pub is_off_grid : (s : CifState) (text : List ℕ) (pad : NamedRole) (spot : Spot) (point : Option Point) (off unclosed : Bool) → Found s text pad spot point off unclosed
    → off ≡ true → spot.named ≡ true → unclosed ≡ false → LabelIsOffGrid s.opening text
is_off_grid s text pad spot point off unclosed f a b c = by point f.point_is f.off_is
  where
    h : IsSpotOf f.behind spot
    h = f.spot_is

    by : (point : Option Point) → point ≡ point_of spot → OffTold point off → LabelIsOffGrid s.opening text
    by None e t = let z : true ≡ false = sym a ∙ t in absurd cc
    by (Some p) e t =
        let r = point_read h.x h.y spot.x spot.y p h.x_is h.y_is (sym e) in
        let n = h.named_is.0 b in
        let w = words_three h.x h.y h.layer h.more h.others (some_bytes r.across h.x r.x_written) (some_bytes r.upward h.y r.y_written) n.1.some n.0 in
        let P : List (List ℕ) → Type 0 = λ l. NamesPad text pad l in
        record {
          pad = pad;
          words = (h.x, h.y, h.layer);
          names = subst P (h.are ∙ w) f.names;
          layer = n.1;
          x = r.across;
          y = r.upward;
          across = r.x_written;
          upward = r.y_written;
          off = (t r.across r.upward r.x_stands r.y_stands).0 a;
          outside = closed_by s unclosed f.open_is c;
        }

-- no label is off the grid
pub off_no_label : (s : CifState) (text : List ℕ) (pad : NamedRole) (spot : Spot) (point : Option Point) (off unclosed : Bool) → Found s text pad spot point off unclosed
    → off ≡ true → (label : Label) → IsLabel text label → ⊥
off_no_label s text pad spot point off unclosed f a label l =
    let same = same_behind text pad label.pad f.behind (l.x ∷ l.y ∷ layer_word label.layer ∷ []) f.names l.names in
    let h = f.spot_is in
    let t = three_words h.x h.y h.layer h.more h.others l.x l.y (layer_word label.layer) (sym h.are ∙ sym same) in
    let P : List ℕ → Type 0 = λ w. WritesSigned (pos 200 *ℤ label.x) w in
    let Q : List ℕ → Type 0 = λ w. WritesSigned (pos 200 *ℤ label.y) w in
    let d = off_told h.x h.y spot.x spot.y point off h.x_is h.y_is f.point_is f.off_is (pos 200 *ℤ label.x) (pos 200 *ℤ label.y)
    (subst P (sym t.x_is) l.across) (subst Q (sym t.y_is) l.upward) in
    elim (d.0 a) [
      | inl o ↦ multiple_on (pos 200 *ℤ label.x) label.x refl o
      | inr o ↦ elim o [ inl v ↦ multiple_on (pos 200 *ℤ label.y) label.y refl v | inr v ↦ absurd v ]
    ]

-- nor has one no point, or no layer
pub pointless_no_label : (s : CifState) (text : List ℕ) (pad : NamedRole) (spot : Spot) (point : Option Point) (off unclosed : Bool) → Found s text pad spot point off unclosed
    → (point ≡ None) ⊎ (spot.layer ≡ None) → (label : Label) → IsLabel text label → ⊥
pointless_no_label s text pad spot point off unclosed f a label l =
    let same = same_behind text pad label.pad f.behind (l.x ∷ l.y ∷ layer_word label.layer ∷ []) f.names l.names in
    let h = f.spot_is in
    let t = three_words h.x h.y h.layer h.more h.others l.x l.y (layer_word label.layer) (sym h.are ∙ sym same) in
    let P : List ℕ → Type 0 = λ w. WritesSigned (pos 200 *ℤ label.x) w in
    let Q : List ℕ → Type 0 = λ w. WritesSigned (pos 200 *ℤ label.y) w in
    elim a [
      | inl n ↦ no_point h.x h.y spot.x spot.y h.x_is h.y_is (sym f.point_is ∙ n) (pos 200 *ℤ label.x) (pos 200 *ℤ label.y)
          (subst P (sym t.x_is) l.across) (subst Q (sym t.y_is) l.upward)
      | inr n ↦ (
          let e : spot.layer ≡ Some label.layer =
          h.layer_is
          ∙ (ap (λ (m : List ℕ). cond (has_bytes m) None (layer_in h.layer)) t.last
          ∙ (ap layer_in t.layer_is ∙ (named_word label.layer ∙ ap (λ (v : Bool). cond v (Some label.layer) None) l.bears))) in
          let z : ◌≡◌ {A = Option Layer} None (Some label.layer) = sym n ∙ e in cc)
    ]

-- the third of three words, where it names a layer
record ThirdWord (layer_word1 more : List ℕ) (layer : Layer) : Type 0 where
  last : more ≡ []
  third : Borne layer_word1 layer

third_word : (word more : List ℕ) (layer : Layer) → cond (has_bytes more) None (layer_in word) ≡ Some layer → ThirdWord word more layer
third_word word [] layer e = record { last = refl; third = borne word layer e }
third_word word (m ∷ ms) layer e = absurd cc

no_great : (x y : List ℕ) (words : List (List ℕ)) (z : ℤ) → (HasGreatNumber (x ∷ y ∷ words) → ⊥) → WritesSigned z x ⊎ WritesSigned z y → IsTooGreat z → ⊥
no_great x y words z h w g = h (z, w, g)

-- the label
pub is_label : (s : CifState) (text : List ℕ) (pad : NamedRole) (spot : Spot) (p : Point) (layer : Layer) (unclosed : Bool) (x y : ℤ)
    → (f : Found s text pad spot (Some p) false unclosed) → (HasGreatNumber f.behind → ⊥) → spot.layer ≡ Some layer → x ≡ int_div p.x (pos 200) → y ≡ int_div p.y (pos 200)
    → IsLabel text (record { pad = pad; layer = layer; x = x; y = y })
is_label s text pad spot p layer unclosed x y f g e i j =
    let h = f.spot_is in
    let r = point_read h.x h.y spot.x spot.y p h.x_is h.y_is (sym f.point_is) in
    let t = third_word h.layer h.more layer (sym h.layer_is ∙ e) in
    let w = words_three h.x h.y h.layer h.more h.others (some_bytes r.across h.x r.x_written) (some_bytes r.upward h.y r.y_written)
    (λ n. some_word layer (sym t.third.word_is ∙ n)) t.last in
    let P : List (List ℕ) → Type 0 = λ l. NamesPad text pad l in
    let G : List (List ℕ) → Type 0 = λ l. HasGreatNumber l → ⊥ in
    let few = subst G (h.are ∙ w) g in
    let a : p.x ≡ r.across = r.x_stands.exact (no_great h.x h.y (h.layer ∷ []) r.across few (inl r.x_written)) in
    let b : p.y ≡ r.upward = r.y_stands.exact (no_great h.x h.y (h.layer ∷ []) r.upward few (inr r.y_written)) in
    let off = f.off_is r.across r.upward r.x_stands r.y_stands in
    let on_x : OffTwice r.across → ⊥ = λ o. (let z : false ≡ true = off.1 (inl o) in cc) in
    let on_y : OffTwice r.upward → ⊥ = λ o. (let z : false ≡ true = off.1 (inr (inl o)) in cc) in
    let X : ℤ → Type 0 = λ z. WritesSigned z h.x in
    let Y : ℤ → Type 0 = λ z. WritesSigned z h.y in
    record {
      x = h.x;
      y = h.y;
      names = subst P (h.are ∙ (w ∙ ap (λ (l : List ℕ). h.x ∷ h.y ∷ l ∷ []) t.third.word_is)) f.names;
      across = subst X (sym (ap (λ (z : ℤ). pos 200 *ℤ z) (i ∙ ap (λ (z : ℤ). int_div z (pos 200)) a) ∙ on_divides r.across on_x)) r.x_written;
      upward = subst Y (sym (ap (λ (z : ℤ). pos 200 *ℤ z) (j ∙ ap (λ (z : ℤ). int_div z (pos 200)) b) ∙ on_divides r.upward on_y)) r.y_written;
      bears = t.third.bears;
    }
  where
    some_word : (layer : Layer) → layer_word layer ≡ [] → ⊥
    some_word Diffusion e = cc
    some_word Poly e = cc
    some_word Metal e = cc
    some_word Cut e = cc
    some_word Implant e = cc

-- ---- the least code

pub least_off : (s : CifState) (text : List ℕ) → LabelIsOffGrid s.opening text → IsLeastCode s (Extension text) (Some C7)
least_off s text h = (h, λ lower l m. by lower l m)
  where
    by : (lower : CifCode) → code_number lower < 7 → MeetsCode lower s (Extension text) → ⊥
    by C7 l m = omega (arith, l)
    by C8 l m = omega (arith, l)
    by C12 l m = omega (arith, l)
    by lower l m = absurd m

pub least_great : (s : CifState) (text : List ℕ) → (LabelIsOffGrid s.opening text → ⊥) → MeetsCode C8 s (Extension text) → IsLeastCode s (Extension text) (Some C8)
least_great s text n h = (h, λ lower l m. by lower l m)
  where
    by : (lower : CifCode) → code_number lower < 8 → MeetsCode lower s (Extension text) → ⊥
    by C7 l m = n m
    by C8 l m = omega (arith, l)
    by C12 l m = omega (arith, l)
    by lower l m = absurd m

pub least_bad : (s : CifState) (text : List ℕ) → (LabelIsOffGrid s.opening text → ⊥) → (MeetsCode C8 s (Extension text) → ⊥) → MeetsCode C12 s (Extension text)
    → IsLeastCode s (Extension text) (Some C12)
least_bad s text n g h = (h, λ lower l m. by lower l m)
  where
    by : (lower : CifCode) → code_number lower < 12 → MeetsCode lower s (Extension text) → ⊥
    by C7 l m = n m
    by C8 l m = g m
    by C12 l m = omega (arith, l)
    by lower l m = absurd m

pub least_none : (s : CifState) (text : List ℕ) → (LabelIsOffGrid s.opening text → ⊥) → (MeetsCode C8 s (Extension text) → ⊥) → (MeetsCode C12 s (Extension text) → ⊥)
    → IsLeastCode s (Extension text) None
least_none s text n g h code m = by code m
  where
    by : (code : CifCode) → MeetsCode code s (Extension text) → ⊥
    by C7 m = n m
    by C8 m = g m
    by C12 m = h m
    by code m = absurd m

-- numbers of words of another pad's name are the same
pub great_same : (s : CifState) (text : List ℕ) (pad : NamedRole) (spot : Spot) (point : Option Point) (off unclosed : Bool) → (f : Found s text pad spot point off unclosed)
    → (HasGreatNumber f.behind → ⊥) → MeetsCode C8 s (Extension text) → ⊥
great_same s text pad spot point off unclosed f g m =
    let P : List (List ℕ) → Type 0 = λ l. HasGreatNumber l in
    g (subst P (same_behind text pad m.0 f.behind m.1 f.names m.2) m.3)

-- an extension that names no pad
pub unnamed : (s : CifState) (text : List ℕ) → ((pad : NamedRole) (behind : List (List ℕ)) → NamesPad text pad behind → ⊥) → IsLeastCode s (Extension text) None
unnamed s text n =
    least_none s text (λ l. n l.pad (l.words.0 ∷ l.words.1 ∷ l.words.2 ∷ []) l.names) (λ m. n m.0 m.1 m.2) (λ m. n m.0 m.1 m.2)

-- ---- flags

pub and_true : (a b c : Bool) → (a && b && not c) ≡ true → (a ≡ true) × (b ≡ true) × (c ≡ false)
and_true true true false e = (refl, refl, refl)
and_true true true true e = absurd cc
and_true true false c e = absurd cc
and_true false b c e = absurd cc

pub bad_cases : (a b : Bool) → (a || b) ≡ true → (a ≡ true) ⊎ (b ≡ true)
bad_cases true b e = inl refl
bad_cases false b e = inr e

pub not_bad : (a b : Bool) → (a || b) ≡ false → (a ≡ false) × (b ≡ false)
not_bad true b e = absurd cc
not_bad false b e = (refl, e)

pub great_met : (s : CifState) (text : List ℕ) (pad : NamedRole) (behind : List (List ℕ)) → NamesPad text pad behind → HasGreatNumber behind → MeetsCode C8 s (Extension text)
great_met s text pad behind n g = (pad, behind, n, g)

-- a label that is malformed, or stands in a definition
pub bad_met : (s : CifState) (text : List ℕ) (pad : NamedRole) (behind : List (List ℕ)) → NamesPad text pad behind
    → IsSome s.opening ⊎ ((label : Label) → IsLabel text label → ⊥) → MeetsCode C12 s (Extension text)
bad_met s text pad behind n h = (pad, behind, n, h)

-- none of these
pub good : (s : CifState) (text : List ℕ) (label : Label) → (IsSome s.opening → ⊥) → IsLabel text label → MeetsCode C12 s (Extension text) → ⊥
good s text label n l m = elim m.3 [ inl o ↦ n o | inr k ↦ k label l ]

-- ---- near points

pub near_point : (u v : Option ℤ) (p : Point) → point_by u v ≡ Some p → IsNearWord u → IsNearWord v → (unsigned_abs p.x ≤ 2 ^ 52) × (unsigned_abs p.y ≤ 2 ^ 52)
near_point None v p e h k = absurd cc
near_point (Some u) None p e h k = absurd cc
near_point (Some u) (Some v) p e h k =
    let P : Point → Type 0 = λ q. (unsigned_abs q.x ≤ 2 ^ 52) × (unsigned_abs q.y ≤ 2 ^ 52) in
    subst P (some_is (record { x = u; y = v }) p e) (h, k)

pub near_div : (v q : ℤ) → unsigned_abs v ≤ 2 ^ 52 → q ≡ int_div (to_z w64 (of_z w64 v)) (pos 200) → q ≡ int_div v (pos 200)
near_div v q h e = e ∙ ap (λ (z : ℤ). int_div z (pos 200)) (to_z-of_z w64 v (fits_signed_from_abs w64 v (omega (arith, h))))

-- ---- quotients in machine words

quot_bound : (v d r : ℤ) → d *ℤ pos 200 +ℤ r ≡ v → unsigned_abs r < 200 → unsigned_abs v ≤ 2 ^ 52 → unsigned_abs d ≤ 2 ^ 52
quot_bound (pos v) (pos d) (pos r) e l h = omega (arith, ints, e, l, h)
quot_bound (pos v) (pos d) (negsuc r) e l h = omega (arith, ints, e, l, h)
quot_bound (pos v) (negsuc d) (pos r) e l h = omega (arith, ints, e, l, h)
quot_bound (pos v) (negsuc d) (negsuc r) e l h = omega (arith, ints, e, l, h)
quot_bound (negsuc v) (pos d) (pos r) e l h = omega (arith, ints, e, l, h)
quot_bound (negsuc v) (pos d) (negsuc r) e l h = omega (arith, ints, e, l, h)
quot_bound (negsuc v) (negsuc d) (pos r) e l h = omega (arith, ints, e, l, h)
quot_bound (negsuc v) (negsuc d) (negsuc r) e l h = omega (arith, ints, e, l, h)

pub quot_word : (v q : ℤ) → unsigned_abs v ≤ 2 ^ 52 → q ≡ int_div v (pos 200) → to_z w64 (of_z w64 q) ≡ int_div v (pos 200)
quot_word v q h e =
    let b = quot_bound v (int_div v (pos 200)) (int_rem v (pos 200)) (quot-rem v (pos 200)) (rem_below v (pos 200) (omega arith)) h in
    ap (λ (z : ℤ). to_z w64 (of_z w64 z)) e ∙ to_z-of_z w64 (int_div v (pos 200)) (fits_signed_from_abs w64 (int_div v (pos 200)) (omega (arith, b)))
