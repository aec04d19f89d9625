-- The pads of the whole network of cells: their nets, their names, and what they fix.
use Rattle.std.proofs.Common.{◌≡◌, ◌≢◌, ◌⊎◌, inl, inr, ℕ, zero, suc, ◌+◌, ◌<◌, ◌≤◌, ◌==◌, Bool, true, false, List, [], ◌∷◌, ◌++◌, map, length, slice_index_or, Some, AllPairs, refl, ap, sym, ◌∙◌, arith, eq-eqb, slice_get}
use Rattle.std.specs.List.{AllByRecursion, range_with_len}
use Rattle.std.proofs.lemmas.Bool.{ne_eqb, cases_Bool}
use Rattle.std.specs.Option.{unwrap_or}
use Rattle.rx_text.specs.Role.{NamedRole}
use Rattle.rx_text.specs.declared.pad_name.Role.{Role}
use Rattle.rx_text.specs.declared.pad_name.Role.TheVariants.{Vdd, Gnd, Phi1, Phi2, Reset, Input, Output}
use Rattle.rx_lang.specs.Tables.{Tables}
use Rattle.switch_net.specs.Clock.{Drive, first_bit, later_bits, drives_from, drives_of}
use Rattle.switch_net.specs.ClockedLogic.{fixes, is_fixed}
use Rattle.switch_net.specs.Recognition.{plain_pad, named_pad, output_nets}
use Rattle.switch_net.specs.Settling.{fixed_level}
use Rattle.switch_net.specs.Validity.{AreDistinct, role_number}
use Rattle.switch_net.specs.declared.network.Net.{Net}
use Rattle.switch_net.specs.declared.network.Pad.{Pad}
use Rattle.nor_net.specs.Netlist.{input_count}
use Rattle.nor_net.specs.SwitchForm.{at}
use Rattle.cell_network.specs.declared.numbering.Counts.{Counts}
use Rattle.cell_network.specs.Home.{line_net, complement_net, output_net, whole_nets}
use Rattle.cell_network.specs.Whole.{plain, pad_at, pads_from, pads_of}
use Rattle.cell_network.proofs.Ranges.{Pairs, each_append, each_range, pairs_append, pairs_range}

module _ (c : Counts) (tables : Tables) (lines : length tables.lines ≡ c.lines) (outputs : length tables.outputs ≡ c.outputs) where
  abbrev line_pads : List Pad
  line_pads = pads_from Input (line_net c) tables.lines

  abbrev output_pads : List Pad
  output_pads = pads_from Output (output_net c) tables.outputs

  -- what holds of the pads of supplies, clocks and reset, of lines and of outputs, holds of all
  pub each_pad : (P : Pad → Type 0) → P (plain Vdd 0) → P (plain Gnd 1) → P (plain Phi1 2) → P (plain Phi2 3) → P (plain Reset 4)
      → ((i : ℕ) → i < c.lines → P (pad_at Input (line_net c) tables.lines i))
      → ((y : ℕ) → y < c.outputs → P (pad_at Output (output_net c) tables.outputs y))
      → AllByRecursion P (pads_of c tables)
  each_pad P vdd gnd phi1 phi2 reset line output = (
    vdd,
    (
      gnd,
      (
        phi1,
        (
          phi2,
          (
            reset,
            each_append P line_pads output_pads
                (each_range P (pad_at Input (line_net c) tables.lines) 0 (length tables.lines) (λ i l lt. line i (omega (arith, lt, lines))))
                (each_range P (pad_at Output (output_net c) tables.outputs) 0 (length tables.outputs) (λ y l lt. output y (omega (arith, lt, outputs)))),
          ),
        ),
      ),
    ),
  )

  pub pads_below : AllByRecursion (λ (pad : Pad). pad.net.0 < whole_nets c) (pads_of c tables)
  pads_below =
      each_pad (λ (pad : Pad). pad.net.0 < whole_nets c) (omega arith) (omega arith) (omega arith) (omega arith) (omega arith)
      (λ i lt. omega arith) (λ y lt. omega arith)

  -- no pad stands behind the lines but an output's
  pub pads_off : (net : ℕ) → complement_net c ≤ net → (net < output_net c) ⊎ (output_net c + c.outputs ≤ net)
      → AllByRecursion (λ (pad : Pad). pad.net.0 ≢ net) (pads_of c tables)
  pads_off net low side =
      each_pad (λ (pad : Pad). pad.net.0 ≢ net) (λ e. omega (arith, e, low)) (λ e. omega (arith, e, low)) (λ e. omega (arith, e, low)) (λ e. omega (arith, e, low))
      (λ e. omega (arith, e, low)) (λ i lt e. omega (arith, e, low, lt))
      (λ y lt e. elim side [ inl h ↦ omega (arith, e, lt, h) | inr h ↦ omega (arith, e, lt, h) ])

  -- ---- what they fix

  abbrev Loose : ℕ → Pad → Type 0
  Loose net pad = (pad.net.0 ≢ net) ⊎ (fixes pad.name.role ≡ false)

  loose_free : (pads : List Pad) (net : ℕ) → AllByRecursion (Loose net) pads → is_fixed pads net ≡ false
  loose_free [] net h = refl
  loose_free (pad ∷ pads) net (inl ne, h) = rw (ne_eqb pad.net.0 net ne) (loose_free pads net h)
  loose_free (pad ∷ pads) net (inr e, h) =
      elim (cases_Bool (pad.net.0 == net)) [
        | inl here ↦ rw here e
        | inr other ↦ rw other (loose_free pads net h)
      ]

  -- no pad fixes a net behind the lines
  pub behind_free : (net : ℕ) → complement_net c ≤ net → is_fixed (pads_of c tables) net ≡ false
  behind_free net low =
      loose_free (pads_of c tables) net
      (each_pad (Loose net) (inl (λ e. omega (arith, e, low))) (inl (λ e. omega (arith, e, low))) (inl (λ e. omega (arith, e, low)))
      (inl (λ e. omega (arith, e, low))) (inl (λ e. omega (arith, e, low))) (λ i lt. inl (λ e. omega (arith, e, low, lt))) (λ y lt. inr refl))

  line_level : (drive : Drive) (a n net : ℕ) (bits : List Bool) (rest : List Pad) (i : ℕ) → a + i ≡ net → i < n
      → fixed_level (map (pad_at Input (line_net c) tables.lines) (range_with_len a n) ++ rest)
      (drives_from drive bits (map (pad_at Input (line_net c) tables.lines) (range_with_len a n) ++ rest)) (5 + net)
      ≡ Some (slice_index_or bits i false)
  line_level drive a zero net bits rest i e lt = absurd (omega (arith, lt))
  line_level drive a (suc n) net bits rest zero e lt = rw (eq-eqb (5 + a) (5 + net) (omega (arith, e))) (first bits)
    where
      first : (bits : List Bool) → Some (first_bit bits) ≡ Some (slice_index_or bits 0 false)
      first [] = refl
      first (bit ∷ bits) = refl
  line_level drive a (suc n) net bits rest (suc i) e lt =
      rw (ne_eqb (5 + a) (5 + net) (λ f. omega (arith, f, e)))
      (line_level drive (a + 1) n net (later_bits bits) rest i (omega (arith, e)) (omega (arith, lt)) ∙ later bits)
    where
      later : (bits : List Bool) → Some (slice_index_or (later_bits bits) i false) ≡ Some (slice_index_or bits (suc i) false)
      later [] = refl
      later (bit ∷ bits) = refl

  -- a line has its bit
  pub line_fixed : (drive : Drive) (i : ℕ) → i < c.lines
      → fixed_level (pads_of c tables) (drives_of drive (pads_of c tables)) (5 + i) ≡ Some (slice_index_or drive.lines i false)
  line_fixed drive i lt =
      rw (
        ne_eqb 0 (5 + i) (λ e. omega (arith, e)),
        ne_eqb 1 (5 + i) (λ e. omega (arith, e)),
        ne_eqb 2 (5 + i) (λ e. omega (arith, e)),
        ne_eqb 3 (5 + i) (λ e. omega (arith, e)),
        ne_eqb 4 (5 + i) (λ e. omega (arith, e)),
      )
      (line_level drive 0 (length tables.lines) i drive.lines output_pads i (omega arith) (omega (arith, lt, lines)))

  line_pad_fixes : (a n net i : ℕ) (rest : List Pad) → a + i ≡ net → i < n
      → is_fixed (map (pad_at Input (line_net c) tables.lines) (range_with_len a n) ++ rest) (5 + net) ≡ true
  line_pad_fixes a zero net i rest e lt = absurd (omega (arith, lt))
  line_pad_fixes a (suc n) net zero rest e lt = rw (eq-eqb (5 + a) (5 + net) (omega (arith, e))) refl
  line_pad_fixes a (suc n) net (suc i) rest e lt =
      rw (ne_eqb (5 + a) (5 + net) (λ f. omega (arith, f, e))) (line_pad_fixes (a + 1) n net i rest (omega (arith, e)) (omega (arith, lt)))

  -- and a pad that fixes it
  pub line_is_fixed : (i : ℕ) → i < c.lines → is_fixed (pads_of c tables) (5 + i) ≡ true
  line_is_fixed i lt =
      rw (
        ne_eqb 0 (5 + i) (λ e. omega (arith, e)),
        ne_eqb 1 (5 + i) (λ e. omega (arith, e)),
        ne_eqb 2 (5 + i) (λ e. omega (arith, e)),
        ne_eqb 3 (5 + i) (λ e. omega (arith, e)),
        ne_eqb 4 (5 + i) (λ e. omega (arith, e)),
      )
      (line_pad_fixes 0 (length tables.lines) i i output_pads (omega arith) (omega (arith, lt, lines)))

  -- the high supply
  pub vdd_fixed : (drive : Drive) → fixed_level (pads_of c tables) (drives_of drive (pads_of c tables)) 0 ≡ Some true
  vdd_fixed drive = refl

  -- the reset its own
  pub reset_fixed : (drive : Drive) → fixed_level (pads_of c tables) (drives_of drive (pads_of c tables)) 4 ≡ Some drive.reset
  reset_fixed drive = refl

  -- ---- inputs and outputs

  inputs_from : (a n : ℕ) (rest : List Pad) → input_count (map (pad_at Input (line_net c) tables.lines) (range_with_len a n) ++ rest) ≡ n + input_count rest
  inputs_from a zero rest = omega arith
  inputs_from a (suc n) rest = omega (arith, inputs_from (a + 1) n rest)

  no_inputs : (a n : ℕ) → input_count (map (pad_at Output (output_net c) tables.outputs) (range_with_len a n)) ≡ 0
  no_inputs a zero = refl
  no_inputs a (suc n) = no_inputs (a + 1) n

  pub inputs_counted : input_count (pads_of c tables) ≡ c.lines
  inputs_counted = omega (arith, inputs_from 0 (length tables.lines) output_pads, no_inputs 0 (length tables.outputs), lines)

  -- ---- pads differ

  nets_apart : (a b : ℕ) → (a ≡ b → ⊥) → at a ≢ at b
  nets_apart a b ne e = ne (ap (λ (n : Net). n.0) e)

  roles_apart : (a b : NamedRole) → (role_number a.role ≡ role_number b.role → ⊥) → a ≢ b
  roles_apart a b ne e = ne (ap (λ (n : NamedRole). role_number n.role) e)

  apart : (a b : NamedRole) (m n : ℕ) → (role_number a.role ≡ role_number b.role → ⊥) → (m ≡ n → ⊥)
      → AreDistinct (record { name = a; net = at m }) (record { name = b; net = at n })
  apart a b m n roles nets = (roles_apart a b roles, nets_apart m n nets)

  named_apart : (role : Role) (a b : List ℕ) → a ≢ b → named_pad role a ≢ named_pad role b
  named_apart role a b ne e = ne (ap (λ (n : NamedRole). unwrap_or n.name []) e)

  each_end : (P : Pad → Type 0) → ((i : ℕ) → i < c.lines → P (pad_at Input (line_net c) tables.lines i))
      → ((y : ℕ) → y < c.outputs → P (pad_at Output (output_net c) tables.outputs y)) → AllByRecursion P (line_pads ++ output_pads)
  each_end P line output =
      each_append P line_pads output_pads
      (each_range P (pad_at Input (line_net c) tables.lines) 0 (length tables.lines) (λ i l lt. line i (omega (arith, lt, lines))))
      (each_range P (pad_at Output (output_net c) tables.outputs) 0 (length tables.outputs) (λ y l lt. output y (omega (arith, lt, outputs))))

  plain_ends : (role : Role) (net : ℕ) → role_number role < 5 → net < 5 → AllByRecursion (AreDistinct (plain role net)) (line_pads ++ output_pads)
  plain_ends role net r n =
      each_end (AreDistinct (plain role net)) (λ i lt. apart (plain_pad role) _ net (5 + i) (λ e. omega (arith, e, r)) (λ e. omega (arith, e, n)))
      (λ y lt. apart (plain_pad role) _ net (output_net c + y) (λ e. omega (arith, e, r)) (λ e. omega (arith, e, n)))

  two : (a b : Role) (m n : ℕ) → (role_number a ≡ role_number b → ⊥) → (m ≡ n → ⊥) → AreDistinct (plain a m) (plain b n)
  two a b m n r e = apart (plain_pad a) (plain_pad b) m n r e

  pub pads_differ : AllPairs (λ (a b : List ℕ). a ≢ b) tables.lines → AllPairs (λ (a b : List ℕ). a ≢ b) tables.outputs
      → Pairs AreDistinct (pads_of c tables)
  pads_differ line_names output_names = (
    (
      two Vdd Gnd 0 1 (λ e. omega (arith, e)) (λ e. omega (arith, e)),
      (
        two Vdd Phi1 0 2 (λ e. omega (arith, e)) (λ e. omega (arith, e)),
        (
          two Vdd Phi2 0 3 (λ e. omega (arith, e)) (λ e. omega (arith, e)),
          (two Vdd Reset 0 4 (λ e. omega (arith, e)) (λ e. omega (arith, e)), plain_ends Vdd 0 (omega arith) (omega arith)),
        ),
      ),
    ),
    (
      (
        two Gnd Phi1 1 2 (λ e. omega (arith, e)) (λ e. omega (arith, e)),
        (
          two Gnd Phi2 1 3 (λ e. omega (arith, e)) (λ e. omega (arith, e)),
          (two Gnd Reset 1 4 (λ e. omega (arith, e)) (λ e. omega (arith, e)), plain_ends Gnd 1 (omega arith) (omega arith)),
        ),
      ),
      (
        (
          two Phi1 Phi2 2 3 (λ e. omega (arith, e)) (λ e. omega (arith, e)),
          (two Phi1 Reset 2 4 (λ e. omega (arith, e)) (λ e. omega (arith, e)), plain_ends Phi1 2 (omega arith) (omega arith)),
        ),
        (
          (two Phi2 Reset 3 4 (λ e. omega (arith, e)) (λ e. omega (arith, e)), plain_ends Phi2 3 (omega arith) (omega arith)),
          (plain_ends Reset 4 (omega arith) (omega arith), ends_differ),
        ),
      ),
    ),
  )
    where
      ends_differ : Pairs AreDistinct (line_pads ++ output_pads)
      ends_differ =
          pairs_append AreDistinct line_pads output_pads
          (pairs_range AreDistinct (pad_at Input (line_net c) tables.lines) 0 (length tables.lines)
          (λ i j l lt jl. (named_apart Input _ _ (line_names i j [] lt (omega (arith, jl))), nets_apart (5 + i) (5 + j) (λ e. omega (arith, e, lt)))))
          (pairs_range AreDistinct (pad_at Output (output_net c) tables.outputs) 0 (length tables.outputs)
          (λ i j l lt jl. (named_apart Output _ _ (output_names i j [] lt (omega (arith, jl))), nets_apart (output_net c + i) (output_net c + j) (λ e. omega (arith, e, lt)))))
          (each_range (λ (a : Pad). AllByRecursion (AreDistinct a) output_pads) (pad_at Input (line_net c) tables.lines) 0 (length tables.lines)
          (λ i l lt.
          each_range (AreDistinct (pad_at Input (line_net c) tables.lines i)) (pad_at Output (output_net c) tables.outputs) 0 (length tables.outputs)
          (λ y m yl. apart _ _ (5 + i) (output_net c + y) (λ e. omega (arith, e)) (λ e. omega (arith, e, lt, lines)))))

  -- ---- output nets

  outputs_behind : (a n : ℕ) (rest : List Pad) → output_nets (map (pad_at Input (line_net c) tables.lines) (range_with_len a n) ++ rest) ≡ output_nets rest
  outputs_behind a zero rest = refl
  outputs_behind a (suc n) rest = outputs_behind (a + 1) n rest

  outputs_from : (a n y net : ℕ) → slice_get (output_nets (map (pad_at Output (output_net c) tables.outputs) (range_with_len a n))) y ≡ Some net
      → (y < n) × (net ≡ output_net c + (a + y))
  outputs_from a zero y net e = absurd (cc)
  outputs_from a (suc n) zero net e = let same : output_net c + a ≡ net = cc in (omega arith, omega (arith, same))
  outputs_from a (suc n) (suc y) net e = let h = outputs_from (a + 1) n y net e in let l = h.0 in let m = h.1 in (omega (arith, l), omega (arith, m))

  -- the output with this number
  pub output_at : (y net : ℕ) → slice_get (output_nets (pads_of c tables)) y ≡ Some net → (y < c.outputs) × (net ≡ output_net c + y)
  output_at y net e =
      let h = outputs_from 0 (length tables.outputs) y net (ap (λ (xs : List ℕ). slice_get xs y) (sym (outputs_behind 0 (length tables.lines) output_pads)) ∙ e) in
      let l = h.0 in
      let m = h.1 in
      (omega (arith, l, outputs), omega (arith, m))
