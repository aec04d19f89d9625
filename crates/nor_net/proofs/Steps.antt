-- One more pad driven, and one more net evaluated, as at the steps of a loop.

use Rattle.std.proofs.Common.{◌≡◌, ℕ, zero, suc, ◌+◌, ◌<◌, ◌≤◌, ◌==◌, Bool, false, List, [], ◌∷◌, length, drop, slice_index_or, slice_set, refl, ◌∙◌, sym, arith}
use Rattle.std.specs.Int.{bit_at}
use Rattle.std.proofs.lemmas.List.{drop_more}
use Rattle.std.proofs.lemmas.List.FromFn.{get_or-map-range_with_len}
use Rattle.rx_text.specs.declared.pad_name.Role.{Role}
use Rattle.rx_text.specs.declared.pad_name.Role.TheVariants.{Vdd, Gnd, Phi1, Phi2, Reset, Input, Output}
use Rattle.rx_lang.specs.Vector.{bits_of}
use Rattle.rx_lang.specs.declared.vector.Vector.{Vector}
use Rattle.switch_net.specs.Settling.{pad_level}
use Rattle.switch_net.specs.Clock.{Drive, first_bit, later_bits, pad_drive, bits_behind, drives_from}
use Rattle.switch_net.specs.declared.network.Pad.{Pad}
use Rattle.nor_net.specs.Netlist.{Netlist, if_input, input_count}
use Rattle.nor_net.specs.Evaluation.{evaluated_net, evaluated, with_level, driven}

pub evaluated_more : (netlist : Netlist) (drive : Drive) (order : List ℕ) (values : List Bool) (i d : ℕ) → i < length order
    → evaluated netlist drive (drop i order) values
    ≡ evaluated netlist drive (drop (i + 1) order)
    (slice_set values (slice_index_or order i d) (evaluated_net netlist drive values (slice_index_or order i d)))
evaluated_more netlist drive order values i d h = rw (drop_more order i d h) refl

later_dropped : (lines : List Bool) (line : ℕ) → later_bits (drop line lines) ≡ drop (suc line) lines
later_dropped [] zero = refl
later_dropped [] (suc line) = refl
later_dropped (bit ∷ lines) zero = refl
later_dropped (bit ∷ lines) (suc line) = later_dropped lines line

behind_dropped : (role : Role) (lines : List Bool) (line : ℕ) → bits_behind (drop line lines) role ≡ drop (if_input role line) lines
behind_dropped Input lines line = later_dropped lines line
behind_dropped Vdd lines line = refl
behind_dropped Gnd lines line = refl
behind_dropped Phi1 lines line = refl
behind_dropped Phi2 lines line = refl
behind_dropped Reset lines line = refl
behind_dropped Output lines line = refl

pub driven_more : (drive : Drive) (pads : List Pad) (values : List Bool) (i line : ℕ) (pad : Pad) → i < length pads
    → slice_index_or pads i pad ≡ pad
    → driven (drop i pads) (drives_from drive (drop line drive.lines) (drop i pads)) values
    ≡ driven (drop (i + 1) pads) (drives_from drive (drop (if_input pad.name.role line) drive.lines) (drop (i + 1) pads))
    (with_level (pad_level pad.name.role (pad_drive drive (drop line drive.lines) pad.name.role)) pad.net.0 values)
driven_more drive pads values i line pad h e =
    rw (drop_more pads i pad h, e, ← behind_dropped pad.name.role drive.lines line) refl

if_input_sum : (role : Role) (line rest : ℕ) → if_input role line + rest ≡ line + if_input role rest
if_input_sum Input line rest = omega arith
if_input_sum Vdd line rest = refl
if_input_sum Gnd line rest = refl
if_input_sum Phi1 line rest = refl
if_input_sum Phi2 line rest = refl
if_input_sum Reset line rest = refl
if_input_sum Output line rest = refl

-- the lines that are left, when one pad is done
pub lines_more : (pads : List Pad) (i line : ℕ) (pad : Pad) → i < length pads → slice_index_or pads i pad ≡ pad
    → line + input_count (drop i pads) ≤ 16 → if_input pad.name.role line + input_count (drop (i + 1) pads) ≤ 16
lines_more pads i line pad h e few =
    let f : line + if_input pad.name.role (input_count (drop (i + 1) pads)) ≤ 16 = rw (drop_more pads i pad h, e) at few in
    rw (if_input_sum pad.name.role line (input_count (drop (i + 1) pads))) f

-- so an input pad has a line below 16
pub line_below : (role : Role) (line rest : ℕ) → if_input role line + rest ≤ 16 → role ≡ Input → line < 16
line_below role line rest few e =
    let f : if_input Input line + rest ≤ 16 = rw e at few in omega (arith, f)

first_dropped : (lines : List Bool) (line : ℕ) → first_bit (drop line lines) ≡ slice_index_or lines line false
first_dropped [] zero = refl
first_dropped [] (suc line) = refl
first_dropped (bit ∷ lines) zero = refl
first_dropped (bit ∷ lines) (suc line) = first_dropped lines line

-- the bit of the line is the first that is left
pub line_first : (vector : Vector) (line : ℕ) → line < 16 → (bit_at vector.bits line == 1) ≡ first_bit (drop line (bits_of 16 vector))
line_first vector line h =
    sym (first_dropped (bits_of 16 vector) line
    ∙ get_or-map-range_with_len (λ (at : ℕ). bit_at vector.bits at == 1) 0 16 line line false h (omega arith))
