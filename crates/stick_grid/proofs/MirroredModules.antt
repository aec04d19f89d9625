-- The mirror image of a module is a module.
use Rattle.std.proofs.Common.{map}
use Rattle.std.proofs.lemmas.List.Sorted.{IsPermutation-trans, IsPermutation-map}
use Rattle.micro_tiles.specs.Transposes.{TransposesAreMirrored}
use Rattle.switch_net.specs.Circuit.{ascending}
use Rattle.stick_grid.specs.Mirrors.{MirrorsAreModules}
use Rattle.stick_grid.proofs.Mirrors.{image_plan, image_names, image_border}
use Rattle.stick_grid.proofs.MirroredDevices.{image_devices, image_drawn, as_plan}

pub mirrors_are_modules : TransposesAreMirrored → MirrorsAreModules
mirrors_are_modules mirrored plan count name vdd devices border some_row some_col is =
    let ours = image_devices mirrored plan is.is_plan name vdd is.drawn is.transistors in
    record {
      is_plan = image_plan mirrored plan is.is_plan;
      names = image_names mirrored plan is.is_plan count name is.names;
      drawn = ours;
      transistors = image_drawn mirrored plan is.is_plan name vdd is.drawn is.transistors;
      as_drawn =
          IsPermutation-trans (map ascending ours) (map ascending is.drawn) (map ascending devices)
          (IsPermutation-map ascending ours is.drawn (as_plan mirrored plan is.is_plan name vdd is.drawn is.transistors)) is.as_drawn;
      border_is = image_border mirrored plan is.is_plan count name border some_row some_col is.border_is;
    }
