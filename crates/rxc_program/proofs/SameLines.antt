-- Networks that are the same up to the numbers of their nets write the same lines.
use Rattle.std.proofs.Common.{◌≡◌, inl, inr, ℕ, suc, ◌==◌, not, Bool, List, [], ◌∷◌, ◌++◌, Contains, map, length, refl, sym, ap, ◌∙◌, arith}
use Rattle.std.proofs.lemmas.List.Elements.{Contains-append_left}
use Rattle.std.specs.Fmt.{decimal}
use Rattle.std.specs.List.{flat_map, position}
use Rattle.geom.specs.Rows.{Among}
use Rattle.switch_net.specs.Circuit.{Circuit, IsSameNetwork, device_nets, renamed_pad}
use Rattle.switch_net.specs.SameRuns.{AllAreCarried, AreCarried, SameRunAlike}
use Rattle.switch_net.specs.Ternary.{Levels, nothing_known}
use Rattle.switch_net.specs.Validity.{IsNetwork}
use Rattle.switch_net.specs.declared.network.Pad.{Pad}
use Rattle.switch_sim.specs.TraceLines.{TraceLines, clock_line, first_wrong, input_count, lines_from, output_bytes, pad_byte}
use Rattle.rxc_program.proofs.Telling.{inputs_counted, inputs_in}

-- a pad's net is one of the nets of the pads
net_of_pads : (pads : List Pad) (pad : Pad) → Among pads pad → Contains (map (λ p. p.net.0) pads) pad.net.0
net_of_pads [] pad none = absurd none
net_of_pads (first ∷ pads) pad (inl e) = (0, omega arith, ap (λ (p : Pad). p.net.0) e)
net_of_pads (first ∷ pads) pad (inr more) = let later = net_of_pads pads pad more in (suc later.0, omega (arith, later.1), later.2)

-- renamed pads whose nets have the levels of the pads show the same bytes
bytes_carried : (rename : ℕ → ℕ) (v w : Levels) (pads : List Pad) → ((pad : Pad) → Among pads pad → w (rename pad.net.0) ≡ v pad.net.0)
    → output_bytes (map (renamed_pad rename) pads) w ≡ output_bytes pads v
bytes_carried rename v w [] each = refl
bytes_carried rename v w (pad ∷ pads) each =
    let rest = bytes_carried rename v w pads (λ p more. each p (inr more)) in
    ap (λ l. pad_byte pad.name.role l ++ output_bytes (map (renamed_pad rename) pads) w) (each pad (inl refl))
    ∙ ap (λ bytes. pad_byte pad.name.role (v pad.net.0) ++ bytes) rest

-- renamed pads bear the same names
names_kept : (rename : ℕ → ℕ) (pads : List Pad) → map (λ (p : Pad). p.name) (map (renamed_pad rename) pads) ≡ map (λ (p : Pad). p.name) pads
names_kept rename [] = refl
names_kept rename (pad ∷ pads) = ap (λ names. pad.name ∷ names) (names_kept rename pads)

module _ (one other : Circuit) (same : IsSameNetwork one other) where
  inputs_same : input_count one.pads ≡ input_count other.pads
  inputs_same =
      let names : map (λ (p : Pad). p.name) other.pads ≡ map (λ (p : Pad). p.name) one.pads =
      ap (λ pads. map (λ (p : Pad). p.name) pads) (sym same.pads) ∙ names_kept same.rename one.pads in
      sym (inputs_counted one.pads) ∙ ap inputs_in (sym names) ∙ inputs_counted other.pads

  -- they want vectors of the same width
  pub same_wrong : (vectors : List (List Bool)) → first_wrong one vectors ≡ first_wrong other vectors
  same_wrong vectors = ap (λ n. position (λ (vector : List Bool). not (length vector == n)) vectors) inputs_same

  line_carried : (clock : ℕ) (v w : Levels) → AreCarried one same.rename v w → clock_line other clock w ≡ clock_line one clock v
  line_carried clock v w carried =
      let bytes : output_bytes (map (renamed_pad same.rename) one.pads) w ≡ output_bytes one.pads v =
      bytes_carried same.rename v w one.pads (λ pad among. carried pad.net.0
      (Contains-append_left (map (λ p. p.net.0) one.pads) (flat_map device_nets one.devices) pad.net.0 (net_of_pads one.pads pad among))) in
      ap (λ bs. decimal clock ++ (32 ∷ (bs ++ 10 ∷ []))) (ap (λ pads. output_bytes pads w) (sym same.pads) ∙ bytes)

  lines_carried : (clock : ℕ) (vs ws : List Levels) → AllAreCarried one same.rename vs ws → lines_from other clock ws ≡ lines_from one clock vs
  lines_carried clock [] [] carried = refl
  lines_carried clock [] (w ∷ ws) carried = absurd carried
  lines_carried clock (v ∷ vs) [] carried = absurd carried
  lines_carried clock (v ∷ vs) (w ∷ ws) carried =
      ap (λ line. line ++ lines_from other (suc clock) ws) (line_carried clock v w carried.0)
      ∙ ap (λ lines. clock_line one clock v ++ lines) (lines_carried (suc clock) vs ws carried.1)

  -- the lines of a run of the one are those of a run of the other
  pub same_lines : SameRunAlike → IsNetwork one → IsNetwork other → (vectors : List (List Bool)) (text : List ℕ) → TraceLines other vectors text
      → TraceLines one vectors text
  same_lines alike valid valid_other vectors text shown =
      let levels = (alike one other valid valid_other same [] vectors).1 in
      let from = (levels nothing_known nothing_known (λ net at. refl)).1 shown.levels shown.run in
      record { levels = from.0; run = from.1; lines = shown.lines ∙ lines_carried 0 from.0 shown.levels from.2 }
