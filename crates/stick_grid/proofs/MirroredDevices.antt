-- The devices of a plan's mirror image.
use Rattle.std.proofs.Common.{◌≡◌, ℕ, List, [], ◌∷◌, map, Option, Some, None, IsPermutation, refl, sym, ap, ◌∙◌, subst, arith}
use Rattle.std.specs.List.{range_with_len, flat_map}
use Rattle.micro_tiles.specs.declared.device.Transistor.{Transistor}
use Rattle.micro_tiles.specs.Table.{transistor_at}
use Rattle.micro_tiles.specs.Transposes.{TransposesAreMirrored}
use Rattle.switch_net.specs.declared.network.Device.{Device}
use Rattle.switch_net.specs.declared.network.Device.TheVariants.{Load}
use Rattle.nmos_model.specs.Lists.{Matched}
use Rattle.nmos_model.specs.Devices.{device_on}
use Rattle.stick_grid.specs.Plans.{Plan, IsPlan}
use Rattle.stick_grid.specs.Pieces.{Piece}
use Rattle.stick_grid.specs.Transistors.{is_depletion, piece}
use Rattle.stick_grid.specs.Devices.{PlacedTransistor, placed, transistor_in, transistors_in_row, transistors_of, IsNamedDevice}
use Rattle.stick_grid.proofs.MatchedLists.{value, matched_permuted}
use Rattle.stick_grid.proofs.Ranges.{exchanged, map_flat}
use Rattle.stick_grid.proofs.PlanWindows.{same_flat}
use Rattle.stick_grid.specs.Mirrors.{mirrored_plan, mirrored_piece}

-- ---- the transistors of the image

abbrev pub turned : PlacedTransistor → PlacedTransistor
turned p = record { row = p.col; col = p.row; transistor = p.transistor }

turned_placed : (row col : ℕ) (t : Option Transistor) → placed col row t ≡ map turned (placed row col t)
turned_placed row col None = refl
turned_placed row col (Some t) = refl

module _ (mirrored : TransposesAreMirrored) (plan : Plan) (is : IsPlan plan) where
  -- column by column
  abbrev by_columns : List PlacedTransistor
  by_columns = flat_map (λ col. flat_map (λ row. transistor_in plan row col) (range_with_len 0 plan.rows)) (range_with_len 0 plan.cols)

  image_transistors : transistors_of (mirrored_plan plan) ≡ map turned by_columns
  image_transistors =
      same_flat (transistors_in_row (mirrored_plan plan))
      (λ col. map turned (flat_map (λ row. transistor_in plan row col) (range_with_len 0 plan.rows))) 0 plan.cols
      (λ col is_col.
      same_flat (transistor_in (mirrored_plan plan) col) (λ row. map turned (transistor_in plan row col)) 0 plan.rows
      (λ row is_row.
      ap (placed col row) ((mirrored (plan.tile row col) (is.known row col (omega arith) (omega arith))).transistor)
      ∙ turned_placed row col (transistor_at (plan.tile row col)))
      ∙ sym (map_flat turned (λ row. transistor_in plan row col) 0 plan.rows))
      ∙ sym (map_flat turned (λ col. flat_map (λ row. transistor_in plan row col) (range_with_len 0 plan.rows)) 0 plan.cols)

  module _ (name : Piece → ℕ) (vdd : ℕ) (devices : List Device) (drawn : Matched (IsNamedDevice name vdd) (transistors_of plan) devices) where
    abbrev device_of : PlacedTransistor → Option Device
    device_of p = device_on (is_depletion p.transistor.mode) vdd (name (piece p.row p.col p.transistor.gate))
        (name (piece p.row p.col p.transistor.first)) (name (piece p.row p.col p.transistor.second))

    abbrev none : Device
    none = Load (record { 0 = 0 })

    abbrev pub image_devices : List Device
    image_devices = map (value device_of none) by_columns

    in_columns : Matched (λ p d. device_of p ≡ Some d) by_columns image_devices × IsPermutation image_devices devices
    in_columns = matched_permuted device_of none (transistors_of plan) by_columns devices drawn
        (exchanged (transistor_in plan) 0 plan.rows 0 plan.cols)

    turned_matched : (ps : List PlacedTransistor) (ds : List Device) → Matched (λ p d. device_of p ≡ Some d) ps ds
        → Matched (IsNamedDevice (λ p. name (mirrored_piece p)) vdd) (map turned ps) ds
    turned_matched [] [] h = tt
    turned_matched [] (d ∷ ds) h = absurd h
    turned_matched (p ∷ ps) [] h = absurd h
    turned_matched (p ∷ ps) (d ∷ ds) h = (h.0, turned_matched ps ds h.1)

    pub image_drawn : Matched (IsNamedDevice (λ p. name (mirrored_piece p)) vdd) (transistors_of (mirrored_plan plan)) image_devices
    image_drawn =
        subst (λ l. Matched (IsNamedDevice (λ p. name (mirrored_piece p)) vdd) l image_devices) (sym image_transistors)
        (turned_matched by_columns image_devices in_columns.0)

    pub as_plan : IsPermutation image_devices devices
    as_plan = in_columns.1
