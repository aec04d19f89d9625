-- The nets of a node's part that lead to its children: the light one and the heavy one.
use Rattle.std.proofs.Common.{◌≡◌, ◌⊎◌, ℕ, ◌+◌, ◌<◌, ◌≤◌, ◌==◌, Bool, true, false, inl, inr, refl, ap, ◌∙◌, arith}
use Rattle.std.proofs.lemmas.Bool.{cases_eq, eq-eqb, ne_eqb}
use Rattle.cell_network.specs.declared.numbering.Counts.{Counts}
use Rattle.cell_network.specs.Parts.{bundle, inn_wire}
use Rattle.node_cell.specs.Blocks.{left_net, right_net, light_net, heavy_net}
use Rattle.node_cell.proofs.Choices.{first_of, second_of}

-- IN and OUT of the light child and of the heavy one are the first four nets behind the wires of the bundle; other wires keep their numbers.
pub record AreChildNets (c : Counts) (light_in light_out heavy_in heavy_out : ℕ) (heavy : ℕ → ℕ) : Type 0 where
  pub light_next : light_out ≡ light_in + 1
  pub heavy_next : heavy_out ≡ heavy_in + 1
  pub light_low : bundle c ≤ light_in
  pub light_high : light_in ≤ bundle c + 2
  pub heavy_low : bundle c ≤ heavy_in
  pub heavy_high : heavy_in ≤ bundle c + 2
  pub apart : (light_in + 2 ≤ heavy_in) ⊎ (heavy_in + 2 ≤ light_in)
  pub of_in : heavy (inn_wire c) ≡ heavy_in
  pub of_out : heavy (inn_wire c + 1) ≡ heavy_out
  pub of_other : (i : ℕ) → (i ≡ inn_wire c → ⊥) → (i ≡ inn_wire c + 1 → ⊥) → heavy i ≡ i

module _ (c : Counts) (light_in light_out heavy_in heavy_out : ℕ) (heavy : ℕ → ℕ) (h : AreChildNets c light_in light_out heavy_in heavy_out heavy) where
  pub heavy_known : (i : ℕ) → i < bundle c → heavy i < bundle c + 7
  heavy_known i few =
      let high = h.heavy_high in
      let next = h.heavy_next in
      elim (cases_eq i (inn_wire c)) [
        | inl e ↦ let k : heavy i ≡ heavy_in = ap heavy e ∙ h.of_in in omega arith
        | inr a ↦ elim (cases_eq i (inn_wire c + 1)) [
          | inl e ↦ let k : heavy i ≡ heavy_out = ap heavy e ∙ h.of_out in omega arith
          | inr b ↦ let k = h.of_other i a b in omega arith
        ]
      ]

module _ (c : Counts) where
  pub left_in : left_net c (inn_wire c) ≡ bundle c
  left_in = first_of (inn_wire c == inn_wire c) _ _ (eq-eqb (inn_wire c) (inn_wire c) refl)

  pub left_out : left_net c (inn_wire c + 1) ≡ bundle c + 1
  left_out =
      second_of (inn_wire c + 1 == inn_wire c) _ _ (ne_eqb (inn_wire c + 1) (inn_wire c) (λ e. omega arith))
      ∙ first_of (inn_wire c + 1 == inn_wire c + 1) _ _ (eq-eqb (inn_wire c + 1) (inn_wire c + 1) refl)

  pub left_other : (i : ℕ) → (i ≡ inn_wire c → ⊥) → (i ≡ inn_wire c + 1 → ⊥) → left_net c i ≡ i
  left_other i h k = second_of (i == inn_wire c) _ _ (ne_eqb i (inn_wire c) h) ∙ second_of (i == inn_wire c + 1) _ _ (ne_eqb i (inn_wire c + 1) k)

  pub right_in : right_net c (inn_wire c) ≡ bundle c + 2
  right_in = first_of (inn_wire c == inn_wire c) _ _ (eq-eqb (inn_wire c) (inn_wire c) refl)

  pub right_out : right_net c (inn_wire c + 1) ≡ bundle c + 3
  right_out =
      second_of (inn_wire c + 1 == inn_wire c) _ _ (ne_eqb (inn_wire c + 1) (inn_wire c) (λ e. omega arith))
      ∙ first_of (inn_wire c + 1 == inn_wire c + 1) _ _ (eq-eqb (inn_wire c + 1) (inn_wire c + 1) refl)

  pub right_other : (i : ℕ) → (i ≡ inn_wire c → ⊥) → (i ≡ inn_wire c + 1 → ⊥) → right_net c i ≡ i
  right_other i h k = second_of (i == inn_wire c) _ _ (ne_eqb i (inn_wire c) h) ∙ second_of (i == inn_wire c + 1) _ _ (ne_eqb i (inn_wire c + 1) k)

  pub child_nets : (left_light : Bool)
      → AreChildNets c (light_net c left_light (inn_wire c)) (light_net c left_light (inn_wire c + 1)) (heavy_net c left_light (inn_wire c))
      (heavy_net c left_light (inn_wire c + 1)) (heavy_net c left_light)
  child_nets true =
      let li = left_in in
      let lo = left_out in
      let ri = right_in in
      let ro = right_out in
      record {
        light_next = omega arith;
        heavy_next = omega arith;
        light_low = omega arith;
        light_high = omega arith;
        heavy_low = omega arith;
        heavy_high = omega arith;
        apart = inl (omega arith);
        of_in = refl;
        of_out = refl;
        of_other = right_other;
      }
  child_nets false =
      let li = left_in in
      let lo = left_out in
      let ri = right_in in
      let ro = right_out in
      record {
        light_next = omega arith;
        heavy_next = omega arith;
        light_low = omega arith;
        light_high = omega arith;
        heavy_low = omega arith;
        heavy_high = omega arith;
        apart = inr (omega arith);
        of_in = refl;
        of_out = refl;
        of_other = left_other;
      }

  -- a wire of the light child's bundle
  pub light_other : (left_light : Bool) (i : ℕ) → (i ≡ inn_wire c → ⊥) → (i ≡ inn_wire c + 1 → ⊥) → light_net c left_light i ≡ i
  light_other true i h k = left_other i h k
  light_other false i h k = right_other i h k
