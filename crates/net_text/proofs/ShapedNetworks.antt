-- The text of a network has the shape, and its nets are in range.
use Rattle.std.proofs.Common.{◌≡◌, ℕ, zero, suc, ◌<◌, ◌≤◌, ◌^◌, true, List, [], ◌∷◌, ◌++◌, get_or, length, refl, ap, ◌∙◌, append_assoc, arith}
use Rattle.std.proofs.lemmas.Bool.{le-leb}
use Rattle.std.proofs.lemmas.Fmt.{decimal_is_IsNumeral, decimal_digit, first_decimal}
use Rattle.std.proofs.lemmas.List.Elements.{recursion_from_All}
use Rattle.std.proofs.lemmas.Str.Parse.{digit_from_value}
use Rattle.std.specs.Prelude.{codes}
use Rattle.std.specs.Fmt.{decimal}
use Rattle.std.specs.List.{AllByRecursion, flat_map, list_all}
use Rattle.std.specs.Str.Parse.{AllDigits}
use Rattle.rx_text.specs.NumberInText.{is_digit}
use Rattle.switch_net.specs.Circuit.{Circuit}
use Rattle.switch_net.specs.ClockedLogic.{NamesBelow}
use Rattle.switch_net.specs.declared.network.Pad.{Pad}
use Rattle.switch_net.specs.declared.network.Device.{Device}
use Rattle.switch_net.specs.declared.network.Device.TheVariants.{Pass, Load}
use Rattle.net_text.specs.NetworkText.{role_word, name_part, pad_line, device_line, IsNamed, IsNetworkText}
use Rattle.net_text.specs.Shape.{IsNumeral, DeviceLines, PadLines, head}
use Rattle.net_text.specs.Stages.{IsNumeralBelow, InRange}
use Rattle.net_text.proofs.DueNumbers.{front_number_of}
use Rattle.net_text.proofs.ReadBack.{both_true}
use Rattle.net_text.proofs.Reader.{Counts}

-- what is written of a number is a numeral
digits_only : (ds : List ℕ) → AllDigits 10 ds → list_all is_digit ds ≡ true
digits_only [] h = refl
digits_only (d ∷ ds) h =
    let both = digit_from_value d h.0 in
    rw (le-leb _ _ both.0, le-leb _ _ both.1) (digits_only ds h.1)

numeral_of : (ds : List ℕ) → 0 < length ds → list_all is_digit ds ≡ true → (get_or ds 0 0 ≡ 48 → length ds ≡ 1) → IsNumeral ds
numeral_of [] some all lead = absurd (omega (arith, some))
numeral_of (d ∷ ds) some all lead = (both.0, both.1, λ e. none ds (lead e))
  where
    both : (is_digit d ≡ true) × (list_all is_digit ds ≡ true)
    both = both_true (is_digit d) (list_all is_digit ds) all

    none : (ds : List ℕ) → length (d ∷ ds) ≡ 1 → ds ≡ []
    none [] e = refl
    none (x ∷ ds) e = absurd (omega (arith, e))

pub decimal_numeral : (n : ℕ) → n < 2 ^ 64 → IsNumeral (decimal n)
decimal_numeral n small =
    let read = decimal_is_IsNumeral n small in
    numeral_of (decimal n) read.0.0 (digits_only (decimal n) read.0.1) (lead n small)
  where
    lead : (n : ℕ) → n < 2 ^ 64 → get_or (decimal n) 0 0 ≡ 48 → length (decimal n) ≡ 1
    lead zero small e = ap (λ (l : List ℕ). length l) (decimal_digit 0 (omega arith))
    lead (suc n) small e = absurd (omega (arith, first_decimal (suc n) (omega arith) small, e))

decimal_below : (limit n : ℕ) → n < limit → limit ≤ 16777217 → IsNumeralBelow limit (decimal n)
decimal_below limit n below few =
    let small : n < 2 ^ 64 = omega (arith, below, few) in
    (decimal_numeral n small, omega (arith, (decimal_is_IsNumeral n small).1, below))

module _ (nets : ℕ) (few : nets ≤ 16777216) where
  number : (n : ℕ) → n < nets → IsNumeralBelow nets (decimal n)
  number n below = decimal_below nets n below (omega (arith, few))

  -- lines of devices
  device_lines : (devices : List Device) → AllByRecursion (NamesBelow nets) devices → DeviceLines (IsNumeralBelow nets) (flat_map device_line devices ++ codes "end\n")
  device_lines [] below = DeviceLines.end (codes "end\n") refl
  device_lines (Pass gate a b ∷ devices) below =
      DeviceLines.pass (flat_map device_line (Pass gate a b ∷ devices) ++ codes "end\n") (decimal gate.0) (decimal a.0) (decimal b.0)
      (flat_map device_line devices ++ codes "end\n") (text (decimal gate.0) (decimal a.0) (decimal b.0) (flat_map device_line devices))
      (number gate.0 below.0.0) (number a.0 below.0.1) (number b.0 below.0.2) (device_lines devices below.1)
    where
      text : (g x y more : List ℕ) → (codes "pass" ++ (32 ∷ g) ++ (32 ∷ x) ++ (32 ∷ y) ++ codes "\n" ++ more) ++ codes "end\n"
          ≡ codes "pass " ++ g ++ codes " " ++ x ++ codes " " ++ y ++ codes "\n" ++ (more ++ codes "end\n")
      text g x y more = simp append_assoc refl
  device_lines (Load net ∷ devices) below =
      DeviceLines.load (flat_map device_line (Load net ∷ devices) ++ codes "end\n") (decimal net.0) (flat_map device_line devices ++ codes "end\n")
      (text (decimal net.0) (flat_map device_line devices)) (number net.0 below.0) (device_lines devices below.1)
    where
      text : (n more : List ℕ) → (codes "load" ++ (32 ∷ n) ++ codes "\n" ++ more) ++ codes "end\n" ≡ codes "load " ++ n ++ codes "\n" ++ (more ++ codes "end\n")
      text n more = simp append_assoc refl

  -- lines of pads before them
  pad_lines : (pads : List Pad) (rest : List ℕ) → AllByRecursion (λ pad. IsNamed pad × (pad.net.0 < nets)) pads → DeviceLines (IsNumeralBelow nets) rest
      → PadLines (IsNumeralBelow nets) (flat_map pad_line pads ++ rest)
  pad_lines [] rest good lines = PadLines.devices rest lines
  pad_lines (pad ∷ pads) rest good lines =
      PadLines.pad (flat_map pad_line (pad ∷ pads) ++ rest) pad.name.role pad.name.name (decimal pad.net.0) (flat_map pad_line pads ++ rest)
      (text (role_word pad.name.role) (name_part pad.name.name) (decimal pad.net.0) (flat_map pad_line pads))
      good.0.0.0 good.0.0.1 (number pad.net.0 good.0.1) (pad_lines pads rest good.1 lines)
    where
      text : (word name n more : List ℕ) → (word ++ name ++ (32 ∷ n) ++ codes "\n" ++ more) ++ rest ≡ word ++ name ++ codes " " ++ n ++ codes "\n" ++ (more ++ rest)
      text word name n more = simp append_assoc refl

module _ (text : List ℕ) (circuit : Circuit) (is : IsNetworkText text circuit) where
  -- the lines
  abbrev lines : List ℕ
  lines = flat_map pad_line circuit.pads ++ (flat_map device_line circuit.devices ++ codes "end\n")

  cut : text ≡ head ++ (decimal circuit.nets ++ 10 ∷ lines)
  cut = is.text_of.text ∙ whole (decimal circuit.nets) (flat_map pad_line circuit.pads) (flat_map device_line circuit.devices)
    where
      whole : (n pads devices : List ℕ) → (codes "rxnet 1\nnets" ++ (32 ∷ n) ++ codes "\n") ++ pads ++ devices ++ codes "end\n"
          ≡ head ++ (n ++ 10 ∷ (pads ++ (devices ++ codes "end\n")))
      whole n pads devices = simp append_assoc refl

  pub counts : Counts circuit.nets text
  counts =
      let small : circuit.nets < 2 ^ 64 = omega (arith, is.text_of.few_nets) in
      record {
        after = decimal circuit.nets ++ 10 ∷ lines;
        is = cut;
        number = front_number_of (decimal circuit.nets) 10 lines (decimal_numeral circuit.nets small) refl ∙ (decimal_is_IsNumeral circuit.nets small).1;
      }

  pub ranged : InRange circuit.nets text
  ranged = record {
    count = decimal circuit.nets;
    more = lines;
    is = cut ∙ whole (decimal circuit.nets) lines;
    counted = decimal_below 16777217 circuit.nets (omega (arith, is.text_of.few_nets)) (omega arith);
    lines =
        pad_lines circuit.nets is.text_of.few_nets circuit.pads (flat_map device_line circuit.devices ++ codes "end\n")
        (recursion_from_All _ circuit.pads (λ k d lt. (is.text_of.named k d lt, is.network.pads_below k d lt)))
        (device_lines circuit.nets is.text_of.few_nets circuit.devices (recursion_from_All _ circuit.devices is.network.devices_below));
  }
    where
      whole : (n more : List ℕ) → head ++ (n ++ 10 ∷ more) ≡ head ++ n ++ codes "\n" ++ more
      whole n more = simp append_assoc refl
