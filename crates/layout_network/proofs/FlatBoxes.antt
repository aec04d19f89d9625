-- What commands draw is within reach and not too much, or refused once.
use Rattle.std.proofs.Common.{◌≡◌, ◌⊎◌, inl, inr, ◌+◌, ◌<◌, ◌≤◌, List, [], ◌∷◌, ◌++◌, length, refl, sym, ◌∙◌, ap, subst, arith, append_assoc, length-append}
use Rattle.std.proofs.lemmas.List.{append-nil}
use Rattle.std.proofs.lemmas.List.Concat.{flat_map-append}
use Rattle.std.proofs.lemmas.Bool.{cases_lt}
use Rattle.rx_text.specs.declared.place.Place.{Place}
use Rattle.geom.specs.declared.cif_code.CifCode.{CifCode}
use Rattle.geom.specs.declared.cif_code.CifCode.TheVariants.{C8, C13}
use Rattle.geom.specs.Squares.{BoxShape, IsBox}
use Rattle.geom.specs.Rows.{Among}
use Rattle.geom.specs.CifCodes.{code_number}
use Rattle.geom.specs.CifDrawings.{CifStroke}
use Rattle.geom.specs.CifRefusals.{FlatRefusal, NoStrokeFault, StrokeFault, stroke_boxes}
use Rattle.layout_network.specs.Layouts.{most_boxes}

-- ---- members of lists

pub among_left : {X : Type 0} (xs ys : List X) (x : X) → Among xs x → Among (xs ++ ys) x
among_left [] ys x at = absurd at
among_left (y ∷ xs) ys x (inl e) = inl e
among_left (y ∷ xs) ys x (inr more) = inr (among_left xs ys x more)

pub among_right : {X : Type 0} (xs ys : List X) (x : X) → Among ys x → Among (xs ++ ys) x
among_right [] ys x at = at
among_right (y ∷ xs) ys x at = inr (among_right xs ys x at)

pub among_cases : {X : Type 0} (xs ys : List X) (x : X) → Among (xs ++ ys) x → Among xs x ⊎ Among ys x
among_cases [] ys x at = inr at
among_cases (y ∷ xs) ys x (inl e) = inl (inl e)
among_cases (y ∷ xs) ys x (inr more) = elim (among_cases xs ys x more) [ inl left ↦ inl (inr left) | inr right ↦ inr right ]

-- ---- boxes of commands

abbrev boxes_of : CifStroke → List BoxShape
boxes_of stroke = stroke.boxes

-- the boxes of the commands before one, of it, and of those behind it
boxes_around : (before : List CifStroke) (stroke : CifStroke) (behind : List CifStroke)
    → stroke_boxes (before ++ stroke ∷ behind) ≡ stroke_boxes before ++ (stroke.boxes ++ stroke_boxes behind)
boxes_around before stroke behind = flat_map-append boxes_of before (stroke ∷ behind)

-- they are so many
count_around : (before : List CifStroke) (stroke : CifStroke) (behind : List CifStroke)
    → length (stroke_boxes (before ++ stroke ∷ behind)) ≡ length (stroke_boxes before) + (length stroke.boxes + length (stroke_boxes behind))
count_around before stroke behind =
    ap length (boxes_around before stroke behind) ∙ length-append (stroke_boxes before) (stroke.boxes ++ stroke_boxes behind)
    ∙ ap (λ n. length (stroke_boxes before) + n) (length-append stroke.boxes (stroke_boxes behind))

few_from : (before strokes : List CifStroke) → NoStrokeFault before strokes → length (stroke_boxes before) ≤ most_boxes
    → length (stroke_boxes before) + length (stroke_boxes strokes) ≤ most_boxes
few_from before [] clear few = omega (arith, few)
few_from before (stroke ∷ strokes) clear few =
    let count : length (stroke_boxes (before ++ stroke ∷ [])) ≡ length (stroke_boxes before) + (length stroke.boxes + 0) =
    count_around before stroke [] in
    let whole : length (stroke.boxes ++ stroke_boxes strokes) ≡ length stroke.boxes + length (stroke_boxes strokes) =
    length-append stroke.boxes (stroke_boxes strokes) in
    let here : length (stroke_boxes before) + length stroke.boxes ≤ most_boxes =
    elim (cases_lt most_boxes (length (stroke_boxes before) + length stroke.boxes)) [ inl many ↦ absurd (clear.0 C13 many) | inr some ↦ some ] in
    let rest = few_from (before ++ stroke ∷ []) strokes clear.1 (omega (arith, count, here)) in
    omega (arith, count, whole, rest)

-- commands with no fault draw few boxes
pub few_boxes : (strokes : List CifStroke) → NoStrokeFault [] strokes → length (stroke_boxes strokes) ≤ most_boxes
few_boxes strokes clear = let few = few_from [] strokes clear (omega arith) in omega (arith, few)

-- ---- refusals

module _ (strokes : List CifStroke) (within : (b : BoxShape) → Among (stroke_boxes strokes) b → IsBox b) (few : length (stroke_boxes strokes) ≤ most_boxes)
    (before : List CifStroke) (stroke : CifStroke) (behind : List CifStroke) (is : strokes ≡ before ++ stroke ∷ behind) where
  near : (b : BoxShape) → Among stroke.boxes b → IsBox b
  near b at =
      let whole : Among (stroke_boxes before ++ (stroke.boxes ++ stroke_boxes behind)) b =
      among_right (stroke_boxes before) (stroke.boxes ++ stroke_boxes behind) b (among_left stroke.boxes (stroke_boxes behind) b at) in
      within b (subst (λ bs. Among bs b) (sym (ap stroke_boxes is ∙ boxes_around before stroke behind)) whole)

  count : length (stroke_boxes strokes) ≡ length (stroke_boxes before) + (length stroke.boxes + length (stroke_boxes behind))
  count = ap (λ l. length (stroke_boxes l)) is ∙ count_around before stroke behind

  no_fault : (code : CifCode) → StrokeFault code before stroke → ⊥
  no_fault C8 fault = fault.2 (near fault.0 fault.1)
  no_fault C13 fault = (let all = count in absurd (omega (arith, all, few, fault)))
  no_fault other fault = absurd fault

-- few boxes within reach are refused nowhere
pub not_refused : (strokes : List CifStroke) → ((b : BoxShape) → Among (stroke_boxes strokes) b → IsBox b)
    → length (stroke_boxes strokes) ≤ most_boxes → (code : CifCode) (place : Place) → FlatRefusal strokes code place → ⊥
not_refused strokes within few code place refused =
    no_fault strokes within few refused.before refused.stroke refused.behind refused.is code refused.fault

heads : {X : Type 0} {x y : X} {xs ys : List X} → x ∷ xs ≡ y ∷ ys → x ≡ y
heads e = cc

tails : {X : Type 0} {x y : X} {xs ys : List X} → x ∷ xs ≡ y ∷ ys → xs ≡ ys
tails e = cc

-- the first command with a fault is one
one_first : (past before behind others more : List CifStroke) (stroke second : CifStroke) (code other : CifCode)
    → before ++ stroke ∷ behind ≡ others ++ second ∷ more → NoStrokeFault past before → NoStrokeFault past others
    → StrokeFault code (past ++ before) stroke → StrokeFault other (past ++ others) second → (before ≡ others) × (stroke ≡ second)
one_first past [] behind [] more stroke second code other e clear apart fault fails = (refl, heads e)
one_first past [] behind (x ∷ others) more stroke second code other e clear apart fault fails =
    let here : StrokeFault code past x = subst (λ s. StrokeFault code past s) (heads e) (subst (λ l. StrokeFault code l stroke) (append-nil past) fault) in
    absurd (apart.0 code here)
one_first past (x ∷ before) behind [] more stroke second code other e clear apart fault fails =
    let here : StrokeFault other past x = subst (λ s. StrokeFault other past s) (sym (heads e)) (subst (λ l. StrokeFault other l second) (append-nil past) fails) in
    absurd (clear.0 other here)
one_first past (x ∷ before) behind (y ∷ others) more stroke second code other e clear apart fault fails =
    let same : x ≡ y = heads e in
    let mine : StrokeFault code ((past ++ x ∷ []) ++ before) stroke =
    subst (λ l. StrokeFault code l stroke) (sym (append_assoc past (x ∷ []) before)) fault in
    let yours : StrokeFault other ((past ++ x ∷ []) ++ others) second =
    subst (λ l. StrokeFault other l second) (sym (append_assoc past (x ∷ []) others))
    (subst (λ z. StrokeFault other (past ++ z ∷ others) second) (sym same) fails) in
    let clear_others : NoStrokeFault (past ++ x ∷ []) others = subst (λ z. NoStrokeFault (past ++ z ∷ []) others) (sym same) apart.1 in
    let rest = one_first (past ++ x ∷ []) before behind others more stroke second code other (tails e) clear.1 clear_others mine yours in
    (ap (λ z. z ∷ before) same ∙ ap (λ l. y ∷ l) rest.0, rest.1)

-- and so is its least code
one_code : (code other : CifCode) (before : List CifStroke) (stroke : CifStroke) → StrokeFault code before stroke → StrokeFault other before stroke
    → ((lower : CifCode) → code_number lower < code_number code → StrokeFault lower before stroke → ⊥)
    → ((lower : CifCode) → code_number lower < code_number other → StrokeFault lower before stroke → ⊥) → code ≡ other
one_code C8 C8 before stroke fault fails least low = refl
one_code C13 C13 before stroke fault fails least low = refl
one_code C8 C13 before stroke fault fails least low = absurd (low C8 (omega arith) fault)
one_code C13 C8 before stroke fault fails least low = absurd (least C8 (omega arith) fails)
one_code C8 others before stroke fault fails least low = absurd fails
one_code C13 others before stroke fault fails least low = absurd fails
one_code some others before stroke fault fails least low = absurd fault

-- commands are refused once
pub one_flat_refusal : (strokes : List CifStroke) (code other : CifCode) (place there : Place) → FlatRefusal strokes code place
    → FlatRefusal strokes other there → (code ≡ other) × (place ≡ there)
one_flat_refusal strokes code other place there first second =
    let same =
    one_first [] first.before first.behind second.before second.behind first.stroke second.stroke code other (sym first.is ∙ second.is) first.clear
    second.clear first.fault second.fault in
    let at : (lower : CifCode) → StrokeFault lower first.before first.stroke ≡ StrokeFault lower second.before second.stroke =
    λ lower. ap (λ l. StrokeFault lower l first.stroke) same.0 ∙ ap (λ s. StrokeFault lower second.before s) same.1 in
    let fails : StrokeFault other first.before first.stroke = subst (λ T. T) (sym (at other)) second.fault in (
      one_code code other first.before first.stroke first.fault fails first.least
          (λ lower below fault. second.least lower below (subst (λ T. T) (at lower) fault)),
      first.place_is ∙ ap (λ (s : CifStroke). s.place) same.1 ∙ sym second.place_is,
    )
