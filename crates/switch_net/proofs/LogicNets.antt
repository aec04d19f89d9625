-- What clocked logic says of each net: the level of a fixed one, that others are free, and where a transfer leads from.
use Rattle.std.proofs.Common.{◌≡◌, ◌⊎◌, ℕ, ◌<◌, Bool, false, List, Some, length, inl, inr}
use Rattle.std.proofs.lemmas.List.Elements.{All-contains}
use Rattle.switch_net.proofs.PadLevels.{standing, level_of, none_of, test_of, ground_fixed, ground_low}
use Rattle.switch_net.specs.Circuit.{Circuit}
use Rattle.switch_net.specs.ClockedLogic.{NetKind, IsLogicDevice, NamesBelow, IsClockedLogic}
use Rattle.switch_net.specs.ClockedLogic.NetKind.{fixed, gate, stored}
use Rattle.switch_net.specs.Settling.{fixed_level, IsFree}
use Rattle.switch_net.specs.declared.network.Device.TheVariants.{Pass}

-- What the transfer to a storage node says of its clock and its source.
pub record Transfer (circuit : Circuit) (kind : ℕ → NetKind) (clock source : ℕ) : Type 0 where
  pub clock_below : clock < circuit.nets
  pub source_below : source < circuit.nets
  pub clock_fixed : kind clock ≡ fixed
  pub source_kind : (kind source ≡ gate) ⊎ (kind source ≡ fixed)

-- clocked logic, and drives for its pads
pub record Setting : Type 0 where
  pub circuit : Circuit
  pub ground : ℕ
  pub kind : ℕ → NetKind
  pub logic : IsClockedLogic circuit ground kind
  pub drives : List Bool
  pub sized : length drives ≡ length circuit.pads

module _ (s : Setting) where
  open s use {circuit, ground, kind, logic, drives, sized}

  pub ground_kind : kind ground ≡ fixed
  ground_kind = (logic.pads ground logic.ground_below).0 (ground_fixed circuit.pads ground logic.grounded)

  transfer_device : (net clock source : ℕ) → kind net ≡ stored clock source
      → IsLogicDevice ground kind (Pass (record { 0 = clock }) (record { 0 = source }) (record { 0 = net }))
      → (kind clock ≡ fixed) × ((kind source ≡ gate) ⊎ (kind source ≡ fixed))
  transfer_device net clock source k (inl h) = let e = h.1 in let f = ground_kind in absurd (cc)
  transfer_device net clock source k (inr h) = (h.1, h.2)

  pub transfer : (net clock source : ℕ) → net < circuit.nets → kind net ≡ stored clock source → Transfer circuit kind clock source
  transfer net clock source below k =
      let device = Pass (record { 0 = clock }) (record { 0 = source }) (record { 0 = net }) in
      let contained = logic.transfers net clock source below k in
      let names = All-contains (NamesBelow circuit.nets) circuit.devices device logic.below contained in
      let parts = transfer_device net clock source k
      (All-contains (IsLogicDevice ground kind) circuit.devices device logic.devices contained) in
      record { clock_below = names.0; source_below = names.1; clock_fixed = parts.0; source_kind = parts.1 }

  pub ground_level : fixed_level circuit.pads drives ground ≡ Some false
  ground_level = ground_low circuit.pads drives ground sized logic.grounded

  -- a fixed net has a level
  pub fixed_at : (net : ℕ) → net < circuit.nets → kind net ≡ fixed → (level : Bool) × (fixed_level circuit.pads drives net ≡ Some level)
  fixed_at net below k = level_of (standing circuit.pads drives net sized) ((logic.pads net below).1 k)

  -- a gate or a storage node is free
  pub free_at : (net : ℕ) → net < circuit.nets → (kind net ≡ fixed → ⊥) → IsFree circuit drives net
  free_at net below other =
      (below, none_of (standing circuit.pads drives net sized) (λ e. other ((logic.pads net below).0 e)))

  pub free_kind : (net : ℕ) → IsFree circuit drives net → kind net ≡ fixed → ⊥
  free_kind net free k = let h = fixed_at net free.0 k in let e = h.1 in let n = free.1 in cc

  pub fixed_kind : (net : ℕ) (level : Bool) → net < circuit.nets → fixed_level circuit.pads drives net ≡ Some level → kind net ≡ fixed
  fixed_kind net level below e = (logic.pads net below).0 (test_of (standing circuit.pads drives net sized) e)
