-- What a text begins with can be read off its front.
use Rattle.std.proofs.Common.{◌≡◌, ◌≢◌, ℕ, ◌<◌, ◌^◌, Bool, true, false, ◌&&◌, List, [], ◌∷◌, ◌++◌, Option, Some, None, is_some, IfSome, get_or, refl, arith, sym, ap, ◌∙◌, subst, append_assoc}
use Rattle.std.proofs.lemmas.Fmt.{decimal_injective, decimal_is_IsNumeral}
use Rattle.std.specs.Prelude.{◌==◌, if◌then◌else◌}
use Rattle.std.specs.Fmt.{decimal}
use Rattle.std.specs.List.{AllByRecursion, flat_map, list_all}
use Rattle.std.specs.Char.{digit_value}
use Rattle.std.specs.Str.Parse.{AllDigits}
use Rattle.rx_text.specs.Name.{begins_as_name, is_letter, is_name_byte, is_name}
use Rattle.rx_text.specs.Role.{bears_name}
use Rattle.rx_text.specs.declared.pad_name.Role.{Role}
use Rattle.rx_text.specs.declared.pad_name.Role.TheVariants.{Vdd, Gnd, Phi1, Phi2, Reset, Input, Output}
use Rattle.switch_net.specs.declared.network.Net.{Net}
use Rattle.switch_net.specs.declared.network.Pad.{Pad}
use Rattle.switch_net.specs.declared.network.Device.{Device}
use Rattle.switch_net.specs.declared.network.Device.TheVariants.{Pass, Load}
use Rattle.net_text.specs.NetworkText.{role_word, name_part, pad_line, device_line, IsNamed}

-- bytes with P end where the first byte stands that has it not
part_same : (P : ℕ → Type 0) (xs ys : List ℕ) (c : ℕ) (s t : List ℕ) → AllByRecursion P xs → AllByRecursion P ys → (P c → ⊥)
    → xs ++ c ∷ s ≡ ys ++ c ∷ t → (xs ≡ ys) × (s ≡ t)
part_same P [] [] c s t p q end e = (refl, cc)
part_same P [] (y ∷ ys) c s t p q end e = let at : y ≡ c = cc in absurd (end (subst P at q.0))
part_same P (x ∷ xs) [] c s t p q end e = let at : x ≡ c = cc in absurd (end (subst P at p.0))
part_same P (x ∷ xs) (y ∷ ys) c s t p q end e =
    let first : x ≡ y = cc in
    let others : xs ++ c ∷ s ≡ ys ++ c ∷ t = cc in
    let rest = part_same P xs ys c s t p.1 q.1 end others in
    let front : x ∷ xs ≡ y ∷ ys = cc (first, rest.0) in
    (front, rest.1)

-- ---- numbers

-- each digit by itself
digits_all : (ds : List ℕ) → AllDigits 10 ds → AllByRecursion (λ c. digit_value c < 10) ds
digits_all [] h = tt
digits_all (d ∷ ds) h = (h.0, digits_all ds h.1)

-- two numbers that end at the same byte, no digit, are the same
pub number_same : (m n c : ℕ) (s t : List ℕ) → m < 2 ^ 64 → n < 2 ^ 64 → (digit_value c < 10 → ⊥) → decimal m ++ c ∷ s ≡ decimal n ++ c ∷ t → (m ≡ n) × (s ≡ t)
number_same m n c s t hm hn end e =
    let dm = digits_all _ (decimal_is_IsNumeral m hm).0.1 in
    let dn = digits_all _ (decimal_is_IsNumeral n hn).0.1 in
    let both = part_same _ _ _ c s t dm dn end e in
    (decimal_injective m n hm hn both.0, both.1)

-- a space and a line feed are no digits
space_ends : digit_value 32 < 10 → ⊥
space_ends h = omega arith

pub line_feed_ends : digit_value 10 < 10 → ⊥
line_feed_ends h = omega arith

-- ---- words and names

-- the byte stands in names
abbrev IsInName : ℕ → Type 0
IsInName c = is_name_byte c ≡ true

-- each of two tests that pass
pub both_true : (a b : Bool) → (a && b) ≡ true → (a ≡ true) × (b ≡ true)
both_true true b h = (refl, h)
both_true false b h = cc

-- a test of the whole, byte by byte
all_in_name : (bytes : List ℕ) → list_all is_name_byte bytes ≡ true → AllByRecursion IsInName bytes
all_in_name [] h = tt
all_in_name (b ∷ bytes) h = let both = both_true _ _ h in (both.0, all_in_name bytes both.1)

-- the bytes of a name stand in names
name_bytes : (name : List ℕ) → is_name name ≡ true → AllByRecursion IsInName name
name_bytes [] h = cc
name_bytes (b ∷ bytes) h =
    let name = both_true (begins_as_name (b ∷ bytes)) _ h in
    let parts = both_true (is_letter b) _ name.0 in
    (rw parts.0 refl, all_in_name bytes parts.1)

-- so do those of a role's word
word_bytes : (r : Role) → AllByRecursion IsInName (role_word r)
word_bytes Vdd = all_in_name (role_word Vdd) refl
word_bytes Gnd = all_in_name (role_word Gnd) refl
word_bytes Phi1 = all_in_name (role_word Phi1) refl
word_bytes Phi2 = all_in_name (role_word Phi2) refl
word_bytes Reset = all_in_name (role_word Reset) refl
word_bytes Input = all_in_name (role_word Input) refl
word_bytes Output = all_in_name (role_word Output) refl

-- a space does not
space_ends_names : IsInName 32 → ⊥
space_ends_names h = cc

-- the role whose word this is
abbrev role_of : List ℕ → Role
role_of word =
    if get_or word 0 0 == 118 then Vdd else if get_or word 0 0 == 103 then Gnd else if get_or word 0 0 == 114 then Reset
    else if get_or word 0 0 == 105 then Input else if get_or word 0 0 == 111 then Output else if get_or word 3 0 == 49 then Phi1 else Phi2

-- the word tells the role
role_of-role_word : (r : Role) → role_of (role_word r) ≡ r
role_of-role_word Vdd = refl
role_of-role_word Gnd = refl
role_of-role_word Phi1 = refl
role_of-role_word Phi2 = refl
role_of-role_word Reset = refl
role_of-role_word Input = refl
role_of-role_word Output = refl

-- two words of roles before a space are the same
word_same : (r q : Role) (s t : List ℕ) → role_word r ++ 32 ∷ s ≡ role_word q ++ 32 ∷ t → (r ≡ q) × (s ≡ t)
word_same r q s t e =
    let both = part_same IsInName (role_word r) (role_word q) 32 s t (word_bytes r) (word_bytes q) space_ends_names e in
    (sym (role_of-role_word r) ∙ ap role_of both.0 ∙ role_of-role_word q, both.1)

-- ---- lines

-- the parts of two lines of pads are the same
pad_same : (r q : Role) (x y : Option (List ℕ)) (m n : ℕ) (s t : List ℕ) → bears_name r ≡ is_some x → bears_name q ≡ is_some y
    → IfSome x (λ name. is_name name ≡ true) → IfSome y (λ name. is_name name ≡ true) → m < 2 ^ 64 → n < 2 ^ 64
    → role_word r ++ (name_part x ++ (32 ∷ (decimal m ++ (10 ∷ s)))) ≡ role_word q ++ (name_part y ++ (32 ∷ (decimal n ++ (10 ∷ t))))
    → (r ≡ q) × (x ≡ y) × (m ≡ n) × (s ≡ t)
pad_same r q None None m n s t br bq vx vy hm hn e =
    let word = word_same r q _ _ e in
    let number = number_same m n 10 s t hm hn line_feed_ends word.1 in
    (word.0, refl, number.0, number.1)
pad_same r q None (Some y) m n s t br bq vx vy hm hn e = let word = word_same r q _ _ e in let clash : false ≡ true = sym br ∙ ap bears_name word.0 ∙ bq in cc
pad_same r q (Some x) None m n s t br bq vx vy hm hn e = let word = word_same r q _ _ e in let clash : true ≡ false = sym br ∙ ap bears_name word.0 ∙ bq in cc
pad_same r q (Some x) (Some y) m n s t br bq vx vy hm hn e =
    let word = word_same r q _ _ e in
    let name = part_same IsInName x y 32 _ _ (name_bytes x vx) (name_bytes y vy) space_ends_names word.1 in
    let number = number_same m n 10 s t hm hn line_feed_ends name.1 in
    (word.0, ap (λ z. Some z) name.0, number.0, number.1)

-- names are where they belong, and the number is no longer than a number of 64 bits
abbrev pub IsPlain : Pad → Type 0
IsPlain pad = IsNamed pad × (pad.net.0 < 2 ^ 64)

-- a pad of these parts
abbrev pad_of : Role → Option (List ℕ) → ℕ → Pad
pad_of r x n = record { name = record { role = r; name = x }; net = record { 0 = n } }

-- of the same parts it is the same
pad_of_same : (r q : Role) (x y : Option (List ℕ)) (m n : ℕ) → r ≡ q → x ≡ y → m ≡ n → pad_of r x m ≡ pad_of q y n
pad_of_same r q x y m n e f g = cc

-- two lines of pads are those of one pad
pub pad_line_same : (p q : Pad) (s t : List ℕ) → IsPlain p → IsPlain q → pad_line p ++ s ≡ pad_line q ++ t → (p ≡ q) × (s ≡ t)
pad_line_same p q s t hp hq e =
    let line = pad_same p.name.role q.name.role p.name.name q.name.name p.net.0 q.net.0 s t hp.0.0 hq.0.0 hp.0.1 hq.0.1 hp.1 hq.1 (simp append_assoc at e) in
    (pad_of_same _ _ _ _ _ _ line.0 line.1 line.2, line.3)

-- the device's numbers are no longer than numbers of 64 bits
abbrev pub IsShort : Device → Type 0
IsShort (Pass gate a b) = (gate.0 < 2 ^ 64) × (a.0 < 2 ^ 64) × (b.0 < 2 ^ 64)
IsShort (Load net) = net.0 < 2 ^ 64

-- a net is its number
net_same : (m n : Net) → m.0 ≡ n.0 → m ≡ n
net_same m n e = let net : ℕ → Net = λ k. record { 0 = k } in ap net e

-- two lines of devices are those of one device
pub device_line_same : (d f : Device) (s t : List ℕ) → IsShort d → IsShort f → device_line d ++ s ≡ device_line f ++ t → (d ≡ f) × (s ≡ t)
device_line_same (Pass gate a b) (Pass gate' a' b') s t h h' e =
    let line = simp append_assoc at e in
    let numbers : decimal gate.0 ++ (32 ∷ (decimal a.0 ++ (32 ∷ (decimal b.0 ++ (10 ∷ s)))))
    ≡ decimal gate'.0 ++ (32 ∷ (decimal a'.0 ++ (32 ∷ (decimal b'.0 ++ (10 ∷ t))))) =
    cc line in
    let first = number_same gate.0 gate'.0 32 _ _ h.0 h'.0 space_ends numbers in
    let second = number_same a.0 a'.0 32 _ _ h.1 h'.1 space_ends first.1 in
    let third = number_same b.0 b'.0 10 _ _ h.2 h'.2 line_feed_ends second.1 in
    let gates = net_same gate gate' first.0 in
    let firsts = net_same a a' second.0 in
    let seconds = net_same b b' third.0 in
    let device : Pass gate a b ≡ Pass gate' a' b' = cc (gates, firsts, seconds) in
    (device, third.1)
device_line_same (Pass gate a b) (Load net) s t h h' e = let first : ◌≡◌ {A = ℕ} 112 108 = ap (λ (text : List ℕ). get_or text 0 0) e in absurd (omega arith)
device_line_same (Load net) (Pass gate a b) s t h h' e = let first : ◌≡◌ {A = ℕ} 108 112 = ap (λ (text : List ℕ). get_or text 0 0) e in absurd (omega arith)
device_line_same (Load net) (Load net') s t h h' e =
    let line = simp append_assoc at e in
    let number : decimal net.0 ++ (10 ∷ s) ≡ decimal net'.0 ++ (10 ∷ t) = cc line in
    let only = number_same net.0 net'.0 10 s t h h' line_feed_ends number in
    (ap (λ n. Load n) (net_same net net' only.0), only.1)

-- which kind of line the text begins with: a pad's 0, a device's 1, the end's 2
abbrev pub kind : List ℕ → ℕ
kind text =
    if get_or text 0 0 == 108 then 1 else if get_or text 0 0 == 101 then 2 else if get_or text 0 0 == 112 then (if get_or text 1 0 == 97 then 1 else 0) else 0

-- a pad's line begins as one
pub kind-pad_line : (p : Pad) (s : List ℕ) → kind (pad_line p ++ s) ≡ 0
kind-pad_line p s = simp append_assoc (word p.name.role _)
  where
    word : (r : Role) (rest : List ℕ) → kind (role_word r ++ rest) ≡ 0
    word Vdd rest = refl
    word Gnd rest = refl
    word Phi1 rest = refl
    word Phi2 rest = refl
    word Reset rest = refl
    word Input rest = refl
    word Output rest = refl

-- so does a device's
pub kind-device_line : (d : Device) (s : List ℕ) → kind (device_line d ++ s) ≡ 1
kind-device_line (Pass gate a b) s = refl
kind-device_line (Load net) s = refl

module _ {X : Type 0} (line : X → List ℕ) (Fits : X → Type 0) (k : ℕ) (of_kind : (x : X) (s : List ℕ) → kind (line x ++ s) ≡ k)
    (one : (x y : X) (s t : List ℕ) → Fits x → Fits y → line x ++ s ≡ line y ++ t → (x ≡ y) × (s ≡ t)) where
  -- lines of one kind end where another kind begins
  pub lines_same : (xs ys : List X) (s t : List ℕ) → AllByRecursion Fits xs → AllByRecursion Fits ys → kind s ≢ k → kind t ≢ k
      → flat_map line xs ++ s ≡ flat_map line ys ++ t → (xs ≡ ys) × (s ≡ t)
  lines_same [] [] s t p q hs ht e = (refl, e)
  lines_same [] (y ∷ ys) s t p q hs ht e = absurd (hs (ap kind e ∙ rw append_assoc (of_kind y _)))
  lines_same (x ∷ xs) [] s t p q hs ht e = absurd (ht (ap kind (sym e) ∙ rw append_assoc (of_kind x _)))
  lines_same (x ∷ xs) (y ∷ ys) s t p q hs ht e =
      let first = one x y (flat_map line xs ++ s) (flat_map line ys ++ t) p.0 q.0 (rw (append_assoc (line x) (flat_map line xs) s, append_assoc (line y) (flat_map line ys) t) at e) in
      let rest = lines_same xs ys s t p.1 q.1 hs ht first.1 in
      let both : x ∷ xs ≡ y ∷ ys = cc (first.0, rest.0) in
      (both, rest.1)
