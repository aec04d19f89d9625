-- The names of pads.
use Rattle.std.proofs.Common.{◌≡◌, ℕ, true, false, List, ◌++◌, length, take, drop, codes, Option, Some, None, IfSome, bytes_eq, refl, sym, ◌∙◌, ap}
use Rattle.std.proofs.lemmas.List.{append-nil, take-append-drop, take_at}
use Rattle.std.proofs.lemmas.Slice.Eq.{bytes_eq-Decides}
use Rattle.rx_text.specs.Name.{is_name}
use Rattle.rx_text.specs.Role.{NamedRole, bears_name}
use Rattle.rx_text.specs.declared.pad_name.Role.{Role}
use Rattle.rx_text.specs.declared.pad_name.Role.TheVariants.{Vdd, Gnd, Phi1, Phi2, Reset, Input, Output}
use Rattle.geom.specs.CifLabels.{IsPadName, pad_word, own_word, label_word}

-- by role and name
pub none_named : (word : List ℕ) → ((role : Role) → bears_name role ≡ false → pad_word role ≡ word → ⊥)
    → ((name : List ℕ) → is_name name ≡ true → codes "IN:" ++ name ≡ word → ⊥) → ((name : List ℕ) → is_name name ≡ true → codes "OUT:" ++ name ≡ word → ⊥)
    → (pad : NamedRole) → IsPadName pad → label_word pad ≡ word → ⊥
none_named word plain in1 out pad h e = by pad.role pad.name h e
  where
    by : (role : Role) (name : Option (List ℕ)) → IsPadName (record { role = role; name = name }) → pad_word role ++ own_word name ≡ word → ⊥
    by Vdd None h e = plain Vdd refl (sym (append-nil (pad_word Vdd)) ∙ e)
    by Gnd None h e = plain Gnd refl (sym (append-nil (pad_word Gnd)) ∙ e)
    by Phi1 None h e = plain Phi1 refl (sym (append-nil (pad_word Phi1)) ∙ e)
    by Phi2 None h e = plain Phi2 refl (sym (append-nil (pad_word Phi2)) ∙ e)
    by Reset None h e = plain Reset refl (sym (append-nil (pad_word Reset)) ∙ e)
    by Input None h e = let z : true ≡ false = h.0 in cc
    by Output None h e = let z : true ≡ false = h.0 in cc
    by Vdd (Some name) h e = let z : false ≡ true = h.0 in cc
    by Gnd (Some name) h e = let z : false ≡ true = h.0 in cc
    by Phi1 (Some name) h e = let z : false ≡ true = h.0 in cc
    by Phi2 (Some name) h e = let z : false ≡ true = h.0 in cc
    by Reset (Some name) h e = let z : false ≡ true = h.0 in cc
    by Input (Some name) h e = in1 name h.1 e
    by Output (Some name) h e = out name h.1 e

pub plain_name : (role : Role) (word : List ℕ) → bears_name role ≡ false → pad_word role ≡ word
    → IsPadName (record { role = role; name = None }) × (label_word (record { role = role; name = None }) ≡ word)
plain_name role word h e = ((h, tt), append-nil (pad_word role) ∙ e)

-- no other name is a plain one
pub none_plain : (word : List ℕ) → bytes_eq (codes "VDD") word ≡ false → bytes_eq (codes "GND") word ≡ false → bytes_eq (codes "PHI1") word ≡ false
    → bytes_eq (codes "PHI2") word ≡ false → bytes_eq (codes "RESET") word ≡ false → (role : Role) → bears_name role ≡ false → pad_word role ≡ word → ⊥
none_plain word a b d e f Vdd h g = let z : false ≡ true = sym a ∙ (bytes_eq-Decides (codes "VDD") word).1 g in cc
none_plain word a b d e f Gnd h g = let z : false ≡ true = sym b ∙ (bytes_eq-Decides (codes "GND") word).1 g in cc
none_plain word a b d e f Phi1 h g = let z : false ≡ true = sym d ∙ (bytes_eq-Decides (codes "PHI1") word).1 g in cc
none_plain word a b d e f Phi2 h g = let z : false ≡ true = sym e ∙ (bytes_eq-Decides (codes "PHI2") word).1 g in cc
none_plain word a b d e f Reset h g = let z : false ≡ true = sym f ∙ (bytes_eq-Decides (codes "RESET") word).1 g in cc
none_plain word a b d e f Input h g = let z : true ≡ false = h in cc
none_plain word a b d e f Output h g = let z : true ≡ false = h in cc

-- ---- fronts of words

pub front_is : (word front rest : List ℕ) → bytes_eq (take (length front) word) front ≡ true → rest ≡ drop (length front) word → front ++ rest ≡ word
front_is word front rest h e =
    ap (λ (l : List ℕ). l ++ rest) (sym ((bytes_eq-Decides (take (length front) word) front).0 h))
    ∙ (ap (λ (l : List ℕ). take (length front) word ++ l) e ∙ take-append-drop (length front) word)

pub no_front : (word front name : List ℕ) → bytes_eq (take (length front) word) front ≡ false → front ++ name ≡ word → ⊥
no_front word front name h e =
    let t : take (length front) word ≡ front = ap (take (length front)) (sym e) ∙ take_at front name (length front) refl in
    let z : false ≡ true = sym h ∙ (bytes_eq-Decides (take (length front) word) front).1 t in cc

pub if_some : {A : Type 0} (r : Option A) (P Q : A → Type 0) → IfSome r P → ((x : A) → r ≡ Some x → P x → Q x) → IfSome r Q
if_some None P Q h f = tt
if_some (Some x) P Q h f = f x refl h
