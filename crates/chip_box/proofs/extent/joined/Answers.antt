-- The edges of both.
use Rattle.std.proofs.Common.{rules}
use Rattle.std.proofs.lemmas.Int.{to_z-of_z}
use mir.Val.{SFits}
use mir.Syntax.{w64}
use Rattle.chip_box.specs.declared.extent.Extent.{Extent}
use Rattle.chip_box.proofs.Surrounding.{both_surround, both_within}
use Rattle.chip_box.proofs.extent.joined.Goals as goal

pub returns : goal.returns
returns c boxes more h k =
    let w : SFits w64 c.lesser.result = search rules in
    let s : SFits w64 c.lesser-2.result = search rules in
    let a : SFits w64 c.greater.result = search rules in
    let n : SFits w64 c.greater-2.result = search rules in
    let w0 : SFits w64 c.args.one.west = search rules in
    let s0 : SFits w64 c.args.one.south = search rules in
    let a0 : SFits w64 c.args.one.east = search rules in
    let n0 : SFits w64 c.args.one.north = search rules in
    let w1 : SFits w64 c.args.other.west = search rules in
    let s1 : SFits w64 c.args.other.south = search rules in
    let a1 : SFits w64 c.args.other.east = search rules in
    let n1 : SFits w64 c.args.other.north = search rules in
    let e : Extent = record { west = c.lesser.result; south = c.lesser-2.result; east = c.greater.result; north = c.greater-2.result } in
    simp to_z-of_z (record {
      surrounds = both_surround boxes more c.args.one c.args.other e h.surrounds k.surrounds
          (simp to_z-of_z at c.lesser.ensures.first) (simp to_z-of_z at c.lesser.ensures.second) (simp to_z-of_z at c.lesser.ensures.either)
          (simp to_z-of_z at c.lesser-2.ensures.first) (simp to_z-of_z at c.lesser-2.ensures.second) (simp to_z-of_z at c.lesser-2.ensures.either)
          (simp to_z-of_z at c.greater.ensures.first) (simp to_z-of_z at c.greater.ensures.second) (simp to_z-of_z at c.greater.ensures.either)
          (simp to_z-of_z at c.greater-2.ensures.first) (simp to_z-of_z at c.greater-2.ensures.second) (simp to_z-of_z at c.greater-2.ensures.either);
      within = both_within c.args.one c.args.other e (simp to_z-of_z at c.lesser.ensures.either) (simp to_z-of_z at c.lesser-2.ensures.either)
          (simp to_z-of_z at c.greater.ensures.either) (simp to_z-of_z at c.greater-2.ensures.either) h.within k.within;
    })
