-- Split, cleared and put: the columns are raised.
use Rattle.std.proofs.Common.{Some, arith}
use Rattle.std.proofs.lemmas.Int.{ints, to_z-of_z}
use mir.Val.{SFits}
use mir.Syntax.{w64}
use Rattle.canonical_boxes.specs.Skies.{IsSplit, IsCleared}
use Rattle.canonical_boxes.proofs.Sweeps.{Sets}
use Rattle.canonical_boxes.proofs.Skies.{split_sky, raised_all}
use Rattle.canonical_boxes.proofs.gaps.raise.Goals as goal

pub clear-requires-clause-sky : goal.clear-requires-clause-sky
clear-requires-clause-sky c =
    let ft : SFits w64 c.args.to = c.ranges.to in
    let first = c.requires.first in
    let order = c.requires.order in
    split_sky c.args.to c.args.tops.now c.split.new.tops (omega (arith, ints)) c.requires.last c.requires.sky
    (simp to_z-of_z at c.in_ok-split.ensures)

pub returns : goal.returns
returns c =
    let ff : SFits w64 c.args.from = c.ranges.from in
    let ft : SFits w64 c.args.to = c.ranges.to in
    let fh : SFits w64 c.args.height = c.ranges.height in
    let split : IsSplit c.args.to c.args.tops.now c.split.new.tops = simp to_z-of_z at c.in_ok-split.ensures in
    let cleared : IsCleared c.args.from c.args.to c.split.new.tops c.clear.new.tops = simp to_z-of_z at c.clear.ensures in
    let u = simp to_z-of_z at c.in_ok-insert.ensures.updates in
    let puts : Sets c.clear.new.tops c.insert.new.self c.args.from (Some c.args.height) = record { at = u.1; others = u.2 } in
    raised_all c.args.from c.args.to c.args.height c.args.tops.now c.split.new.tops c.clear.new.tops c.insert.new.self c.requires.first c.requires.order c.requires.last
    c.requires.sky split cleared puts c.requires.bottom c.requires.top
