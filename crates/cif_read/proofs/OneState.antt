-- A command leads to one state.
use Rattle.std.proofs.Common.{◌≡◌, inl, inr, ℕ, true, false, ℤ, pos, ◌*ℤ◌, List, [], ◌∷◌, ◌++◌, Option, Some, None, is_some, IfSome, codes, refl, sym, ◌∙◌, ap, arith}
use Rattle.std.proofs.lemmas.Int.{ints}
use Rattle.rx_text.specs.Role.{NamedRole, bears_name}
use Rattle.rx_text.specs.declared.pad_name.Role.{Role}
use Rattle.rx_text.specs.declared.pad_name.Role.TheVariants.{Vdd, Gnd, Phi1, Phi2, Reset, Input, Output}
use Rattle.rx_text.specs.declared.place.Place.{Place}
use Rattle.geom.specs.declared.layer.Layer.{Layer}
use Rattle.geom.specs.declared.layer.Layer.TheVariants.{Diffusion, Poly, Metal, Cut, Implant}
use Rattle.geom.specs.declared.chip.Label.{Label}
use Rattle.geom.specs.declared.point.Point.{Point}
use Rattle.geom.specs.declared.cif_code.CifCode.{CifCode}
use Rattle.geom.specs.declared.cif_code.CifCode.TheVariants.{C3, C4}
use Rattle.geom.specs.Squares.{BoxShape}
use Rattle.geom.specs.CifShapes.{ArePolygonBoxes}
use Rattle.geom.specs.CifCommands.{CifCommand, Empty, Comment, Opens, Closes, CallsSymbol, SetsLayer, DrawsBox, DrawsPolygon, DrawsWire, Extension, WritesSigned}
use Rattle.geom.specs.CifLabels.{layer_word, pad_word, own_word, label_word, IsPadName, IsLabel}
use Rattle.geom.specs.CifDrawings.{CifState, symbol_of, CommandLeads, drawn_in, labelled_state, chain_of_call}
use Rattle.geom.specs.CifCodes.{MeetsCode}
use Rattle.cif_read.proofs.Runs.{heads, tails, one_signed}

-- ---- labels

layer_one : (a b : Layer) → layer_word a ≡ layer_word b → a ≡ b
layer_one Diffusion Diffusion e = refl
layer_one Poly Poly e = refl
layer_one Metal Metal e = refl
layer_one Cut Cut e = refl
layer_one Implant Implant e = refl
layer_one a b e = absurd (omega (arith, heads (tails e)))

abbrev first_letter : Role → ℕ
first_letter Vdd = 86
first_letter Gnd = 71
first_letter Phi1 = 80
first_letter Phi2 = 80
first_letter Reset = 82
first_letter Input = 73
first_letter Output = 79

begins : (r : Role) (more : List ℕ) → (rest : List ℕ) × (pad_word r ++ more ≡ first_letter r ∷ rest)
begins Vdd more = (codes "DD" ++ more, refl)
begins Gnd more = (codes "ND" ++ more, refl)
begins Phi1 more = (codes "HI1" ++ more, refl)
begins Phi2 more = (codes "HI2" ++ more, refl)
begins Reset more = (codes "ESET" ++ more, refl)
begins Input more = (codes "N:" ++ more, refl)
begins Output more = (codes "UT:" ++ more, refl)

-- a pad with no name of its own
nameless : (n : Option (List ℕ)) → false ≡ is_some n → n ≡ None
nameless None e = refl
nameless (Some name) e = absurd cc

own_one : (n m : Option (List ℕ)) → true ≡ is_some n → true ≡ is_some m → own_word n ≡ own_word m → n ≡ m
own_one (Some a) (Some b) e f g = ap (λ (v : List ℕ). Some v) g
own_one None m e f g = absurd cc
own_one (Some a) None e f g = absurd cc

role_one : (r q : Role) (n m : Option (List ℕ)) → bears_name r ≡ is_some n → bears_name q ≡ is_some m
    → pad_word r ++ own_word n ≡ pad_word q ++ own_word m
    → (r ≡ q) × (n ≡ m)
role_one Vdd Vdd n m a b e = (refl, nameless n a ∙ sym (nameless m b))
role_one Gnd Gnd n m a b e = (refl, nameless n a ∙ sym (nameless m b))
role_one Phi1 Phi1 n m a b e = (refl, nameless n a ∙ sym (nameless m b))
role_one Phi2 Phi2 n m a b e = (refl, nameless n a ∙ sym (nameless m b))
role_one Reset Reset n m a b e = (refl, nameless n a ∙ sym (nameless m b))
role_one Input Input n m a b e = (refl, own_one n m a b (tails (tails (tails e))))
role_one Output Output n m a b e = (refl, own_one n m a b (tails (tails (tails (tails e)))))
role_one Phi1 Phi2 n m a b e = absurd (omega (arith, heads (tails (tails (tails e)))))
role_one Phi2 Phi1 n m a b e = absurd (omega (arith, heads (tails (tails (tails e)))))
role_one r q n m a b e =
    let f = begins r (own_word n) in
    let g = begins q (own_word m) in
    let z : first_letter r ≡ first_letter q = heads (sym f.1 ∙ (e ∙ g.1)) in
    absurd (omega (arith, z))

pad_one : (p q : NamedRole) → IsPadName p → IsPadName q → label_word p ≡ label_word q → p ≡ q
pad_one p q a b e =
    let r = role_one p.role q.role p.name q.name a.0 b.0 e in
    ap (λ (v : Role). let n : NamedRole = record { role = v; name = p.name } in n) r.0
    ∙ ap (λ (v : Option (List ℕ)). let n : NamedRole = record { role = q.role; name = v } in n) r.1

coordinate_one : (x y : ℤ) (w v : List ℕ) → w ≡ v → WritesSigned (pos 200 *ℤ x) w → WritesSigned (pos 200 *ℤ y) v → x ≡ y
coordinate_one x y w v e a b =
    let s = one_signed (pos 200 *ℤ x) (pos 200 *ℤ y) w v [] [] a b tt tt (ap (λ (l : List ℕ). l ++ []) e) in
    let t : pos 200 *ℤ x ≡ pos 200 *ℤ y = s.0 in
    omega (arith, ints, t)

second_word : {a b : List ℕ} {x y : List (List ℕ)} {c d : List ℕ} → a ∷ c ∷ x ≡ b ∷ d ∷ y → c ≡ d
second_word e = cc

later_words : {a b : List ℕ} {x y : List (List ℕ)} {c d : List ℕ} → a ∷ c ∷ x ≡ b ∷ d ∷ y → x ≡ y
later_words e = cc

first_word : {a b : List ℕ} {x y : List (List ℕ)} → a ∷ x ≡ b ∷ y → a ≡ b
first_word e = cc

label_one : (text : List ℕ) (l m : Label) → IsLabel text l → IsLabel text m → l ≡ m
label_one text l m a b =
    let e : codes "94" ∷ label_word l.pad ∷ a.x ∷ a.y ∷ layer_word l.layer ∷ [] ≡ codes "94" ∷ label_word m.pad ∷ b.x ∷ b.y ∷ layer_word m.layer
    ∷ [] =
    sym a.names.1 ∙ b.names.1 in
    let words : a.x ∷ a.y ∷ layer_word l.layer ∷ [] ≡ b.x ∷ b.y ∷ layer_word m.layer ∷ [] = later_words e in
    let pad : l.pad ≡ m.pad = pad_one l.pad m.pad a.names.0 b.names.0 (second_word e) in
    let layer : l.layer ≡ m.layer = layer_one l.layer m.layer (first_word (later_words words)) in
    let x : l.x ≡ m.x = coordinate_one l.x m.x a.x b.x (first_word words) a.across b.across in
    let y : l.y ≡ m.y = coordinate_one l.y m.y a.y b.y (second_word words) a.upward b.upward in
    ap (λ (v : NamedRole). let n : Label = record { pad = v; layer = l.layer; x = l.x; y = l.y } in n) pad
    ∙ (ap (λ (v : Layer). let n : Label = record { pad = m.pad; layer = v; x = l.x; y = l.y } in n) layer
    ∙ (ap (λ (v : ℤ). let n : Label = record { pad = m.pad; layer = m.layer; x = v; y = l.y } in n) x
    ∙ ap (λ (v : ℤ). let n : Label = record { pad = m.pad; layer = m.layer; x = m.x; y = v } in n) y))

-- ---- states

-- what holds of a value that is there
same_of : {X Y : Type 0} (o : Option X) (f : X → Y) (a b : Y) → (o ≡ None → ⊥) → IfSome o (λ x. a ≡ f x) → IfSome o (λ x. b ≡ f x) → a ≡ b
same_of None f a b some h k = absurd (some refl)
same_of (Some x) f a b some h k = h ∙ sym k

polygon_of : (o : Option Layer) (points : List Point) (a b : List BoxShape)
    → ((layer : Layer) (points : List Point) (boxes others : List BoxShape) → ArePolygonBoxes layer points boxes
    → ArePolygonBoxes layer points others → boxes ≡ others)
    → (o ≡ None → ⊥) → IfSome o (λ layer. ArePolygonBoxes layer points a) → IfSome o (λ layer. ArePolygonBoxes layer points b) → a ≡ b
polygon_of None points a b one some h k = absurd (some refl)
polygon_of (Some layer) points a b one some h k = one layer points a b h k

-- A command that meets no code leads to one state.
pub one_state : ((layer : Layer) (points : List Point) (boxes others : List BoxShape) → ArePolygonBoxes layer points boxes
    → ArePolygonBoxes layer points others → boxes ≡ others)
    → (s : CifState) (place : Place) (c : CifCommand) (next other : CifState) → ((code : CifCode) → MeetsCode code s c → ⊥)
    → CommandLeads s place c next
    → CommandLeads s place c other → next ≡ other
one_state one s place Empty next other clear a b = a ∙ sym b
one_state one s place Comment next other clear a b = a ∙ sym b
one_state one s place (Opens n scale) next other clear a b = a ∙ sym b
one_state one s place Closes next other clear a b = a ∙ sym b
one_state one s place (SetsLayer name) next other clear a b = a ∙ sym b
one_state one s place (Extension text) next other clear (inl a) (inl b) = a.2 ∙ (ap (labelled_state s) (label_one text a.0 b.0 a.1 b.1) ∙ sym b.2)
one_state one s place (Extension text) next other clear (inl a) (inr b) = absurd (b.0 a.0.pad _ a.1.names)
one_state one s place (Extension text) next other clear (inr a) (inl b) = absurd (a.0 b.0.pad _ b.1.names)
one_state one s place (Extension text) next other clear (inr a) (inr b) = a.1 ∙ sym b.1
one_state one s place (CallsSymbol n moves) next other clear a b =
    let e : a.0 ≡ b.0 = same_of (symbol_of s n) _ a.0 b.0 (clear C4) a.1 b.1 in
    a.2 ∙ (ap (λ (l : List BoxShape). drawn_in s place l (chain_of_call (symbol_of s n)) s.opening) e ∙ sym b.2)
one_state one s place (DrawsBox along across centre direction) next other clear a b =
    let e : a.0 ≡ b.0 = same_of s.layer _ a.0 b.0 (clear C3) a.1 b.1 in
    a.2 ∙ (ap (λ (l : List BoxShape). drawn_in s place l 0 s.opening) e ∙ sym b.2)
one_state one s place (DrawsWire width points) next other clear a b =
    let e : a.0 ≡ b.0 = same_of s.layer _ a.0 b.0 (clear C3) a.1 b.1 in
    a.2 ∙ (ap (λ (l : List BoxShape). drawn_in s place l 0 s.opening) e ∙ sym b.2)
one_state one s place (DrawsPolygon points) next other clear a b =
    let e : a.0 ≡ b.0 = polygon_of s.layer _ a.0 b.0 one (clear C3) a.1 b.1 in
    a.2 ∙ (ap (λ (l : List BoxShape). drawn_in s place l 0 s.opening) e ∙ sym b.2)
