-- The pads of the registers: their nets and their names differ.
use Rattle.std.proofs.Common.{◌≡◌, ◌≢◌, ℕ, ◌+◌, ◌<◌, List, [], ◌++◌, map, length, AllPairs, ap, arith}
use Rattle.std.specs.List.{AllByRecursion, range_with_len}
use Rattle.std.specs.Option.{unwrap_or}
use Rattle.rx_text.specs.Role.{NamedRole}
use Rattle.rx_text.specs.declared.pad_name.Role.{Role}
use Rattle.rx_text.specs.declared.pad_name.Role.TheVariants.{Vdd, Gnd, Phi1, Phi2, Reset, Input, Output}
use Rattle.rx_lang.specs.Tables.{Tables}
use Rattle.switch_net.specs.Recognition.{plain_pad, named_pad}
use Rattle.switch_net.specs.Validity.{AreDistinct, role_number}
use Rattle.switch_net.specs.declared.network.Net.{Net}
use Rattle.switch_net.specs.declared.network.Pad.{Pad}
use Rattle.nor_net.specs.SwitchForm.{at}
use Rattle.position_nfa.specs.declared.array_nets.ArrayCounts.{ArrayCounts}
use Rattle.position_nfa.specs.Registers.{line_net, output_net, reset_net, ground_net, phi1_net, phi2_net, part_nets, plain, line_pad, output_pad, array_pads}
use Rattle.pla_plan.proofs.Pieces.{Pairs, each_append, each_range, pairs_append, pairs_range}

module _ (c : ArrayCounts) (tables : Tables) where
  abbrev line_pads : List Pad
  line_pads = map (line_pad c tables.lines) (range_with_len 0 c.lines)

  abbrev output_pads : List Pad
  output_pads = map (output_pad c tables.outputs) (range_with_len 0 c.outputs)

  each_end : (P : Pad → Type 0) → ((i : ℕ) → i < c.lines → P (line_pad c tables.lines i))
      → ((y : ℕ) → y < c.outputs → P (output_pad c tables.outputs y)) → AllByRecursion P (line_pads ++ output_pads)
  each_end P line output =
      each_append P line_pads output_pads (each_range P (line_pad c tables.lines) 0 c.lines (λ i l lt. line i (omega (arith, lt))))
      (each_range P (output_pad c tables.outputs) 0 c.outputs (λ y l lt. output y (omega (arith, lt))))

  -- what holds of the pads of supplies, clocks and reset, of lines and of outputs, holds of all
  pub each_pad : (P : Pad → Type 0) → P (plain Vdd 0) → P (plain Gnd (ground_net c)) → P (plain Phi1 (phi1_net c)) → P (plain Phi2 (phi2_net c))
      → P (plain Reset (reset_net c)) → ((i : ℕ) → i < c.lines → P (line_pad c tables.lines i))
      → ((y : ℕ) → y < c.outputs → P (output_pad c tables.outputs y)) → AllByRecursion P (array_pads c tables)
  each_pad P vdd gnd phi1 phi2 reset line output = (vdd, (gnd, (phi1, (phi2, (reset, each_end P line output)))))

  pub pads_below : (t : ℕ) → AllByRecursion (λ (pad : Pad). pad.net.0 < part_nets c + t) (array_pads c tables)
  pads_below t =
      each_pad (λ (pad : Pad). pad.net.0 < part_nets c + t) (omega arith) (omega arith) (omega arith) (omega arith) (omega arith)
      (λ i lt. omega (arith, lt)) (λ y lt. omega (arith, lt))

  -- ---- pads differ

  nets_apart : (a b : ℕ) → (a ≡ b → ⊥) → at a ≢ at b
  nets_apart a b ne e = ne (ap (λ (n : Net). n.0) e)

  roles_apart : (a b : NamedRole) → (role_number a.role ≡ role_number b.role → ⊥) → a ≢ b
  roles_apart a b ne e = ne (ap (λ (n : NamedRole). role_number n.role) e)

  apart : (a b : NamedRole) (m n : ℕ) → (role_number a.role ≡ role_number b.role → ⊥) → (m ≡ n → ⊥)
      → AreDistinct (record { name = a; net = at m }) (record { name = b; net = at n })
  apart a b m n roles nets = (roles_apart a b roles, nets_apart m n nets)

  named_apart : (role : Role) (a b : List ℕ) → a ≢ b → named_pad role a ≢ named_pad role b
  named_apart role a b ne e = ne (ap (λ (n : NamedRole). unwrap_or n.name []) e)

  two : (a b : Role) (m n : ℕ) → (role_number a ≡ role_number b → ⊥) → (m ≡ n → ⊥) → AreDistinct (plain a m) (plain b n)
  two a b m n r e = apart (plain_pad a) (plain_pad b) m n r e

  plain_ends : (role : Role) (net : ℕ) → role_number role < 5 → ((i : ℕ) → i < c.lines → net ≢ line_net c i) → ((y : ℕ) → y < c.outputs → net ≢ output_net c y)
      → AllByRecursion (AreDistinct (plain role net)) (line_pads ++ output_pads)
  plain_ends role net r line output =
      each_end (AreDistinct (plain role net)) (λ i lt. apart (plain_pad role) _ net (line_net c i) (λ e. omega (arith, e, r)) (line i lt))
      (λ y lt. apart (plain_pad role) _ net (output_net c y) (λ e. omega (arith, e, r)) (output y lt))

  pub pads_differ : length tables.lines ≡ c.lines → length tables.outputs ≡ c.outputs → AllPairs (λ (a b : List ℕ). a ≢ b) tables.lines
      → AllPairs (λ (a b : List ℕ). a ≢ b) tables.outputs → Pairs AreDistinct (array_pads c tables)
  pads_differ lines outputs line_names output_names = (
    (
      two Vdd Gnd 0 (ground_net c) (λ e. omega (arith, e)) (λ e. omega (arith, e)),
      (
        two Vdd Phi1 0 (phi1_net c) (λ e. omega (arith, e)) (λ e. omega (arith, e)),
        (
          two Vdd Phi2 0 (phi2_net c) (λ e. omega (arith, e)) (λ e. omega (arith, e)),
          (
            two Vdd Reset 0 (reset_net c) (λ e. omega (arith, e)) (λ e. omega (arith, e)),
            plain_ends Vdd 0 (omega arith) (λ i lt e. omega (arith, e)) (λ y lt e. omega (arith, e)),
          ),
        ),
      ),
    ),
    (
      (
        two Gnd Phi1 (ground_net c) (phi1_net c) (λ e. omega (arith, e)) (λ e. omega (arith, e)),
        (
          two Gnd Phi2 (ground_net c) (phi2_net c) (λ e. omega (arith, e)) (λ e. omega (arith, e)),
          (
            two Gnd Reset (ground_net c) (reset_net c) (λ e. omega (arith, e)) (λ e. omega (arith, e)),
            plain_ends Gnd (ground_net c) (omega arith) (λ i lt e. omega (arith, e, lt)) (λ y lt e. omega (arith, e)),
          ),
        ),
      ),
      (
        (
          two Phi1 Phi2 (phi1_net c) (phi2_net c) (λ e. omega (arith, e)) (λ e. omega (arith, e)),
          (
            two Phi1 Reset (phi1_net c) (reset_net c) (λ e. omega (arith, e)) (λ e. omega (arith, e)),
            plain_ends Phi1 (phi1_net c) (omega arith) (λ i lt e. omega (arith, e, lt)) (λ y lt e. omega (arith, e, lt)),
          ),
        ),
        (
          (
            two Phi2 Reset (phi2_net c) (reset_net c) (λ e. omega (arith, e)) (λ e. omega (arith, e)),
            plain_ends Phi2 (phi2_net c) (omega arith) (λ i lt e. omega (arith, e, lt)) (λ y lt e. omega (arith, e, lt)),
          ),
          (
            plain_ends Reset (reset_net c) (omega arith) (λ i lt e. omega (arith, e, lt)) (λ y lt e. omega (arith, e)),
            ends_differ,
          ),
        ),
      ),
    ),
  )
    where
      ends_differ : Pairs AreDistinct (line_pads ++ output_pads)
      ends_differ =
          pairs_append AreDistinct line_pads output_pads
          (pairs_range AreDistinct (line_pad c tables.lines) 0 c.lines
          (λ i j l lt jl. (
            named_apart Input _ _ (line_names i j [] lt (omega (arith, jl, lines))),
            nets_apart (line_net c i) (line_net c j) (λ e. omega (arith, e, lt)),
          )))
          (pairs_range AreDistinct (output_pad c tables.outputs) 0 c.outputs
          (λ i j l lt jl. (
            named_apart Output _ _ (output_names i j [] lt (omega (arith, jl, outputs))),
            nets_apart (output_net c i) (output_net c j) (λ e. omega (arith, e, lt)),
          )))
          (each_range (λ (a : Pad). AllByRecursion (AreDistinct a) output_pads) (line_pad c tables.lines) 0 c.lines
          (λ i l lt.
          each_range (AreDistinct (line_pad c tables.lines i)) (output_pad c tables.outputs) 0 c.outputs
          (λ y m yl. apart _ _ (line_net c i) (output_net c y) (λ e. omega (arith, e)) (λ e. omega (arith, e, lt)))))
