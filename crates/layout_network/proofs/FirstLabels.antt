-- Labels that are first of their names: no two share a name, and each name has one.
use Rattle.std.proofs.Common.{◌≡◌, ◌≢◌, ◌⊎◌, inl, inr, ℕ, ◌==◌, ◌||◌, Bool, true, false, if◌then◌else◌, List, [], ◌∷◌, ◌++◌, Option, Some, None, Decides, refl, sym, ap, ap₂, ◌∙◌}
use Rattle.std.specs.Option.{option_eq}
use Rattle.std.specs.Str.{bytes_eq}
use Rattle.std.proofs.lemmas.Bool.{cases_Bool}
use Rattle.std.proofs.lemmas.Bool.Decides.{Decides-and, Decides-eqb, Decides-like}
use Rattle.std.proofs.lemmas.Slice.Eq.{bytes_eq-Decides}
use Rattle.rx_text.specs.Role.{NamedRole}
use Rattle.rx_text.specs.declared.pad_name.Role.{Role}
use Rattle.rx_text.specs.declared.pad_name.Role.TheVariants.{Vdd, Gnd, Phi1, Phi2, Reset, Input, Output}
use Rattle.geom.specs.declared.chip.Label.{Label}
use Rattle.geom.specs.Rows.{Among}
use Rattle.switch_net.specs.Validity.{is_same_name, is_same_role, role_number}
use Rattle.nmos_model.specs.Pads.{first_labels, is_named}
use Rattle.layout_network.proofs.FlatBoxes.{among_cases, among_left}

-- ---- names are the same by the test

role_at : ℕ → Role
role_at n =
    if n == 0 then Vdd
    else (if n == 1 then Gnd
    else (if n == 2 then Phi1 else (if n == 3 then Phi2 else (if n == 4 then Reset else (if n == 5 then Input else Output)))))

role_at-number : (r : Role) → role_at (role_number r) ≡ r
unfolding role_at
role_at-number Vdd = refl
role_at-number Gnd = refl
role_at-number Phi1 = refl
role_at-number Phi2 = refl
role_at-number Reset = refl
role_at-number Input = refl
role_at-number Output = refl

decides_role : (a b : Role) → Decides (is_same_role a b) (a ≡ b)
decides_role a b =
    Decides-like _ (λ e. sym (role_at-number a) ∙ ap role_at e ∙ role_at-number b) (λ e. ap (λ r. role_number r) e)
    (Decides-eqb (role_number a) (role_number b))

decides_text : (a b : Option (List ℕ)) → Decides (option_eq bytes_eq a b) (a ≡ b)
decides_text None None = (λ _. refl, λ _. refl)
decides_text None (Some y) = (λ e. cc, λ e. cc)
decides_text (Some x) None = (λ e. cc, λ e. cc)
decides_text (Some x) (Some y) = Decides-like _ (λ e. ap (λ z. Some z) e) (λ e. cc) (bytes_eq-Decides x y)

decides_name : (a b : NamedRole) → Decides (is_same_name a b) (a ≡ b)
decides_name a b =
    let name_of : Role → Option (List ℕ) → NamedRole = λ r n. record { role = r; name = n } in
    Decides-like _ (λ h. ap₂ name_of h.0 h.1) (λ e. (ap (λ n. n.role) e, ap (λ n. n.name) e))
    (Decides-and _ _ (decides_role a.role b.role) (decides_text a.name b.name))

-- ---- labels that bear a name

-- one of the labels with the name of this one
abbrev HasNameOf : List Label → Label → Type 0
HasNameOf labels label = (one : Label) × Among labels one × (one.pad ≡ label.pad)

or_true : (b : Bool) → (b || true) ≡ true
or_true true = refl
or_true false = refl

named_by : (labels : List Label) (one label : Label) → Among labels one → one.pad ≡ label.pad → is_named labels label ≡ true
named_by [] one label at same = absurd at
named_by (first ∷ labels) one label (inl e) same =
    let here : is_same_name first.pad label.pad ≡ true = (decides_name first.pad label.pad).1 (ap (λ (l : Label). l.pad) e ∙ same) in
    rw here refl
named_by (first ∷ labels) one label (inr at) same =
    let later = named_by labels one label at same in rw later (or_true (is_same_name first.pad label.pad))

named_from : (labels : List Label) (label : Label) → is_named labels label ≡ true → HasNameOf labels label
named_from [] label named = absurd (cc)
named_from (first ∷ labels) label named = elim (cases_Bool (is_same_name first.pad label.pad)) [
  | inl here ↦ (first, inl refl, (decides_name first.pad label.pad).0 here)
  | inr other ↦ (let later = named_from labels label (rw other at named) in (later.0, inr later.1, later.2))
]

-- ---- first labels

-- a first label is a label
pub first_among : (earlier labels : List Label) (label : Label) → Among (first_labels earlier labels) label → Among labels label
first_among earlier [] label at = at
first_among earlier (first ∷ labels) label at =
    go (is_named earlier first) (λ more. inr (first_among (earlier ++ first ∷ []) labels label more)) at
  where
    go : (known : Bool) → (Among (first_labels (earlier ++ first ∷ []) labels) label → Among (first ∷ labels) label)
        → Among (if known then first_labels (earlier ++ first ∷ []) labels else first ∷ first_labels (earlier ++ first ∷ []) labels) label
        → Among (first ∷ labels) label
    go true rest more = rest more
    go false rest (inl e) = inl e
    go false rest (inr more) = rest more

-- no label before them has the name of a first one
pub first_apart : (earlier labels : List Label) (one : Label) → Among earlier one → (label : Label) → Among (first_labels earlier labels) label
    → one.pad ≢ label.pad
first_apart earlier [] one before label at = absurd at
first_apart earlier (first ∷ labels) one before label at =
    go (is_named earlier first) refl
    (λ more. first_apart (earlier ++ first ∷ []) labels one (among_left earlier (first ∷ []) one before) label more) at
  where
    go : (known : Bool) → is_named earlier first ≡ known → (Among (first_labels (earlier ++ first ∷ []) labels) label → one.pad ≢ label.pad)
        → Among (if known then first_labels (earlier ++ first ∷ []) labels else first ∷ first_labels (earlier ++ first ∷ []) labels) label
        → one.pad ≢ label.pad
    go true e rest more = rest more
    go false e rest (inl same) = λ pads.
        (let named = named_by earlier one first before (pads ∙ ap (λ (l : Label). l.pad) (sym same)) in
        let clash : false ≡ true = sym e ∙ named in
        absurd (cc))
    go false e rest (inr more) = rest more

-- each label's name is that of a label before, or of a first one
pub first_bears : (earlier labels : List Label) (label : Label) → Among labels label → HasNameOf earlier label ⊎ HasNameOf (first_labels earlier labels) label
first_bears earlier [] label at = absurd at
first_bears earlier (first ∷ labels) label at =
    go (is_named earlier first) refl (λ among. first_bears (earlier ++ first ∷ []) labels label among) at
  where
    firsts : Bool → List Label
    firsts known = if known then first_labels (earlier ++ first ∷ []) labels else first ∷ first_labels (earlier ++ first ∷ []) labels

    -- the name of the first label
    own : (known : Bool) → is_named earlier first ≡ known → (one : Label) → first.pad ≡ one.pad
        → HasNameOf earlier one ⊎ HasNameOf (firsts known) one
    own true e one same = let old = named_from earlier first e in inl (old.0, old.1, old.2 ∙ same)
    own false e one same = inr (first, inl refl, same)

    more : (known : Bool) → HasNameOf (first_labels (earlier ++ first ∷ []) labels) label → HasNameOf (firsts known) label
    more true one = one
    more false one = (one.0, inr one.1, one.2)

    known_before : (known : Bool) → is_named earlier first ≡ known → (one : Label) → one.pad ≡ label.pad
        → Among earlier one ⊎ Among (first ∷ []) one → HasNameOf earlier label ⊎ HasNameOf (firsts known) label
    known_before known e one same (inl old) = inl (one, old, same)
    known_before known e one same (inr (inl here)) = own known e label (ap (λ (l : Label). l.pad) here ∙ same)
    known_before known e one same (inr (inr none)) = absurd none

    later : (known : Bool) → is_named earlier first ≡ known
        → HasNameOf (earlier ++ first ∷ []) label ⊎ HasNameOf (first_labels (earlier ++ first ∷ []) labels) label
        → HasNameOf earlier label ⊎ HasNameOf (firsts known) label
    later known e (inl one) = known_before known e one.0 one.2 (among_cases earlier (first ∷ []) one.0 one.1)
    later known e (inr one) = inr (more known one)

    go : (known : Bool) → is_named earlier first ≡ known
        → (Among labels label → HasNameOf (earlier ++ first ∷ []) label ⊎ HasNameOf (first_labels (earlier ++ first ∷ []) labels) label)
        → (first ≡ label) ⊎ Among labels label → HasNameOf earlier label ⊎ HasNameOf (firsts known) label
    go known e rest (inl same) = own known e label (ap (λ (l : Label). l.pad) same)
    go known e rest (inr among) = later known e (rest among)
