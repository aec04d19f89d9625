-- Rows one above another, of which nothing leads out but the poly of the nets.
use Rattle.std.proofs.Common.{◌≡◌, ℕ, ◌⊎◌, inl, inr, true, false, List, refl, sym, ◌∙◌, ap}
use Rattle.gate_matrix.specs.declared.row.RowKind.{RowKind}
use Rattle.gate_matrix.specs.declared.row.RowKind.TheVariants.{Stop, Vdd, Load, Out, Top, Middle, Bottom}
use Rattle.gate_matrix.specs.Rows.{MatrixRow}
use Rattle.gate_matrix.specs.Cells.{is_gated}
use Rattle.gate_matrix.specs.Matrices.{is_vdd, is_load, is_out, is_stop, is_middle, is_bottom, gated_south, gated_north, LeadsOn}
use Rattle.gate_matrix.specs.MatrixNets.{IsAbove}

-- One row leads on to the other, and a row of devices to its bottom.
pub record Stacked (upper lower : MatrixRow) : Type 0 where
  pub leads : LeadsOn upper lower
  pub middle : is_middle upper.kind ≡ is_bottom lower.kind

-- ---- kinds by tests

pub from_vdd : (kind : RowKind) → is_vdd kind ≡ true → kind ≡ Vdd
from_vdd Vdd h = refl
from_vdd _ h = absurd (cc)

pub from_load : (kind : RowKind) → is_load kind ≡ true → kind ≡ Load
from_load Load h = refl
from_load _ h = absurd (cc)

pub from_out : (kind : RowKind) → is_out kind ≡ true → kind ≡ Out
from_out Out h = refl
from_out _ h = absurd (cc)

pub from_stop : (kind : RowKind) → is_stop kind ≡ true → kind ≡ Stop
from_stop Stop h = refl
from_stop _ h = absurd (cc)

pub from_middle : (kind : RowKind) → is_middle kind ≡ true → kind ≡ Middle
from_middle Middle h = refl
from_middle _ h = absurd (cc)

pub from_bottom : (kind : RowKind) → is_bottom kind ≡ true → kind ≡ Bottom
from_bottom Bottom h = refl
from_bottom _ h = absurd (cc)

-- ---- what stands above and below

above_devices : (u : RowKind) (gated lower : List ℕ) (i : ℕ) → gated_south u gated ≡ lower → is_gated lower i ≡ true → is_middle u ≡ false
    → ((u ≡ Out) ⊎ (u ≡ Top)) × (is_gated gated i ≡ true)
above_devices Out gated lower i e h m = (inl refl, ap (λ (l : List ℕ). is_gated l i) e ∙ h)
above_devices Top gated lower i e h m = (inr refl, ap (λ (l : List ℕ). is_gated l i) e ∙ h)
above_devices Middle gated lower i e h m = absurd (cc)
above_devices _ gated lower i e h m = let none = ap (λ (l : List ℕ). is_gated l i) e ∙ h in absurd (cc)

below_tops : (l : RowKind) (gated upper : List ℕ) (i : ℕ) → upper ≡ gated_north l gated → is_gated upper i ≡ true → is_bottom l ≡ false
    → (l ≡ Middle) × (is_gated gated i ≡ true)
below_tops Middle gated upper i e h b = (refl, ap (λ (l : List ℕ). is_gated l i) (sym e) ∙ h)
below_tops Bottom gated upper i e h b = absurd (cc)
below_tops _ gated upper i e h b = let none = ap (λ (l : List ℕ). is_gated l i) (sym e) ∙ h in absurd (cc)

module _ (upper lower : MatrixRow) (is : IsAbove upper lower) where
  pub over_load : lower.kind ≡ Load → upper.kind ≡ Vdd
  over_load e = from_vdd upper.kind (is.follows.load ∙ ap is_load e)

  pub under_vdd : upper.kind ≡ Vdd → lower.kind ≡ Load
  under_vdd e = from_load lower.kind (sym is.follows.load ∙ ap is_vdd e)

  pub under_load : upper.kind ≡ Load → lower.kind ≡ Out
  under_load e = from_out lower.kind (sym is.follows.out ∙ ap is_load e)

  pub under_middle : upper.kind ≡ Middle → lower.kind ≡ Bottom
  under_middle e = from_bottom lower.kind (sym is.bottom ∙ ap is_middle e)

  pub gated_below_middle : (i : ℕ) → upper.kind ≡ Middle → is_gated upper.gated i ≡ true → is_gated lower.gated i ≡ true
  gated_below_middle i e h =
      let down = under_middle e in
      let same : upper.gated ≡ lower.gated =
      ap (λ (k : RowKind). gated_south k upper.gated) (sym e) ∙ is.follows.devices ∙ ap (λ (k : RowKind). gated_north k lower.gated) down in
      ap (λ (l : List ℕ). is_gated l i) (sym same) ∙ h

  pub over_middle : (i : ℕ) → lower.kind ≡ Middle → is_gated lower.gated i ≡ true
      → ((upper.kind ≡ Out) ⊎ (upper.kind ≡ Top)) × (is_gated upper.gated i ≡ true)
  over_middle i e h = above_devices upper.kind upper.gated lower.gated i (is.follows.devices
      ∙ ap (λ (k : RowKind). gated_north k lower.gated) e) h (is.bottom ∙ ap is_bottom e)

  pub under_top : (i : ℕ) → ((upper.kind ≡ Out) ⊎ (upper.kind ≡ Top)) → is_gated upper.gated i ≡ true
      → (lower.kind ≡ Middle) × (is_gated lower.gated i ≡ true)
  under_top i (inl e) h = below_tops lower.kind lower.gated upper.gated i (ap (λ (k : RowKind). gated_south k upper.gated) (sym e)
      ∙ is.follows.devices) h (sym is.bottom ∙ ap is_middle e)
  under_top i (inr e) h = below_tops lower.kind lower.gated upper.gated i (ap (λ (k : RowKind). gated_south k upper.gated) (sym e)
      ∙ is.follows.devices) h (sym is.bottom ∙ ap is_middle e)
