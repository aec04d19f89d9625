-- A bit that is not given drives its pad low.
use Rattle.std.proofs.Common.{◌≡◌, ℕ, zero, suc, Bool, true, false, List, [], ◌∷◌, length, refl, sym, ap, subst}
use Rattle.rx_text.specs.declared.pad_name.Role.{Role}
use Rattle.rx_text.specs.declared.pad_name.Role.TheVariants.{Vdd, Gnd, Phi1, Phi2, Reset, Input, Output}
use Rattle.switch_net.specs.Circuit.{Circuit}
use Rattle.switch_net.specs.Clock.{Drive, pad_drive, bits_behind, drives_from}
use Rattle.switch_net.specs.Ternary.{Levels, PhaseLevels, SettledLevels, ClockLevels}
use Rattle.switch_net.specs.declared.network.Pad.{Pad}

-- as many lines that are all low
abbrev pub lows : ℕ → List Bool
lows zero = []
lows (suc n) = false ∷ lows n

pub length_lows : (n : ℕ) → length (lows n) ≡ n
length_lows zero = refl
length_lows (suc n) = ap suc (length_lows n)

module _ (phi1 phi2 reset : Bool) (some others : List Bool) where
  abbrev one : Drive
  one = record { phi1 = phi1; phi2 = phi2; reset = reset; lines = some }

  abbrev other : Drive
  other = record { phi1 = phi1; phi2 = phi2; reset = reset; lines = others }

  low_pad : (pads : List Pad) → ((m : ℕ) → drives_from one (lows m) pads ≡ drives_from other [] pads) → (role : Role) (n : ℕ)
      → pad_drive one (lows n) role ∷ drives_from one (bits_behind (lows n) role) pads ≡ pad_drive other [] role ∷ drives_from other (bits_behind [] role) pads
  low_pad pads same Input zero = ap (λ l. false ∷ l) (same zero)
  low_pad pads same Input (suc n) = ap (λ l. false ∷ l) (same n)
  low_pad pads same Vdd n = ap (λ l. true ∷ l) (same n)
  low_pad pads same Gnd n = ap (λ l. false ∷ l) (same n)
  low_pad pads same Phi1 n = ap (λ l. phi1 ∷ l) (same n)
  low_pad pads same Phi2 n = ap (λ l. phi2 ∷ l) (same n)
  low_pad pads same Reset n = ap (λ l. reset ∷ l) (same n)
  low_pad pads same Output n = ap (λ l. false ∷ l) (same n)

  low_drives : (pads : List Pad) (n : ℕ) → drives_from one (lows n) pads ≡ drives_from other [] pads
  low_drives [] n = refl
  low_drives (pad ∷ pads) n = low_pad pads (low_drives pads) pad.name.role n

-- a clock with no bits is one with all lines low
pub low_clock : (circuit : Circuit) (n : ℕ) (reset : Bool) (q v : Levels) → ClockLevels circuit reset [] q v → ClockLevels circuit reset (lows n) q v
low_clock circuit n reset q v clock = record {
  changed = clock.changed;
  first = clock.first;
  between = clock.between;
  second = clock.second;
  settles = low_phase false false q clock.changed clock.settles;
  phi1_high = low_phase true false clock.changed clock.first clock.phi1_high;
  phi1_low = low_phase false false clock.first clock.between clock.phi1_low;
  phi2_high = low_phase false true clock.between clock.second clock.phi2_high;
  phi2_low = low_phase false false clock.second v clock.phi2_low;
}
  where
    low_phase : (phi1 phi2 : Bool) (p w : Levels) → PhaseLevels circuit reset [] phi1 phi2 p w → PhaseLevels circuit reset (lows n) phi1 phi2 p w
    low_phase phi1 phi2 p w settled =
        subst (λ drives. SettledLevels circuit drives p w) (sym (low_drives phi1 phi2 reset (lows n) [] circuit.pads n)) settled
