-- Each tree on the way has the rows on its side of the middle.
use Rattle.std.proofs.Common.{rules, ◌≡◌, ◌<◌, ◌≤ℤ◌, ◌<ℤ◌, IsTrue, refl, arith, w64, to_z, of_z}
use Rattle.std.specs.Int.{int_min, int_max}
use Rattle.std.proofs.lemmas.Int.{ints, clamps, to_z-of_z}
use Rattle.geom.specs.declared.row_tree.RowTree.TheVariants.{Parted}
use Rattle.geom.specs.RowTrees.{InBand, IsSound, Leaves, least_of, greatest_of}
use Rattle.geom.proofs.RowTrees.{raised, all_stay, none_stays, height, lower_low, lower_high, sound_parts, left_low, left_high, left_behind}
use Rattle.geom.proofs.row_tree.RowTree.+leaving_above.Goals as goal

pub returns-then-stays : goal.returns-then-stays
returns-then-stays t c =
    let f : to_z w64 (of_z w64 c.args.floor) ≡ c.args.floor = search rules in
    let l : to_z w64 (of_z w64 c.args.limit) ≡ c.args.limit = search rules in
    let s : InBand c.args.band (int_max (least_of c.args.self.now) c.args.floor) × InBand c.args.band (int_max (greatest_of c.args.self.now) c.args.floor) =
    rw (← f) (c.if-stays.ensures.0 refl) in
    rw l (all_stay c.args.self.now c.args.floor c.args.band c.args.row c.args.limit c.requires.sound c.requires.order s.0 s.1)

pub leaving_above-found-requires : goal.leaving_above-found-requires
leaving_above-found-requires t c =
    let y : to_z w64 (of_z w64 c.args.row) ≡ c.args.row = search rules in
    let l : to_z w64 (of_z w64 c.args.limit) ≡ c.args.limit = search rules in
    let m : to_z w64 (of_z w64 c.deref-parts.result.now.middle) ≡ c.deref-parts.result.now.middle = search rules in
    let n : to_z w64 (of_z w64 c.min-end.result) ≡ int_min c.args.limit c.deref-parts.result.now.middle = search (rules, ints, to_z-of_z) in
    let below : c.args.row <ℤ c.deref-parts.result.now.middle = rw (← y, ← m) (search rules) in
    let order : c.args.row ≤ℤ c.args.limit = c.requires.order in
    let p : IsSound (Parted c.in-Parted.parts) = sound_parts c.args.self.now c.in-Parted.parts c.in-Parted.is c.requires.sound in
    let d : height c.in-Parted.parts.value.low < height c.args.self.now = lower_low c.args.self.now c.in-Parted.parts c.in-Parted.is in
    (rw c.deref-parts.ensures (omega (arith, c.decreases, d)), (rw c.deref-parts.ensures p.2, rw (y, n) (omega (arith, ints, clamps))))

pub leaving_above-requires : goal.leaving_above-requires
leaving_above-requires t c =
    let y : to_z w64 (of_z w64 c.args.row) ≡ c.args.row = search rules in
    let l : to_z w64 (of_z w64 c.args.limit) ≡ c.args.limit = search rules in
    let m : to_z w64 (of_z w64 c.deref-parts.result.now.middle) ≡ c.deref-parts.result.now.middle = search rules in
    let n : to_z w64 (of_z w64 c.min-end.result) ≡ int_min c.args.limit c.deref-parts.result.now.middle = search (rules, ints, to_z-of_z) in
    let past : c.deref-parts.result.now.middle ≤ℤ c.leaving_above-found.result = search rules in
    let within : c.leaving_above-found.result ≤ℤ int_min c.args.limit c.deref-parts.result.now.middle = rw (← n) c.leaving_above-found.ensures.within in
    let p : IsSound (Parted c.in-Parted.parts) = sound_parts c.args.self.now c.in-Parted.parts c.in-Parted.is c.requires.sound in
    let d : height c.in-Parted.parts.value.high < height c.args.self.now = lower_high c.args.self.now c.in-Parted.parts c.in-Parted.is in
    (rw c.deref-parts.ensures (omega (arith, c.decreases, d)), (rw c.deref-parts.ensures p.3, rw (m, l) (omega (arith, ints, clamps))))

pub returns-in-Flat : goal.returns-in-Flat
returns-in-Flat t c =
    let f : to_z w64 (of_z w64 c.args.floor) ≡ c.args.floor = search rules in
    let y : to_z w64 (of_z w64 c.args.row) ≡ c.args.row = search rules in
    let s : InBand c.args.band (int_max (least_of c.args.self.now) c.args.floor) × InBand c.args.band (int_max (greatest_of c.args.self.now) c.args.floor) → IsTrue c.stays.result =
    rw (← f) c.stays.ensures.1 in
    rw y (none_stays c.args.self.now c.in-Flat.field-0 c.args.floor c.args.band c.args.row c.args.limit c.in-Flat.is c.requires.order
    (λ h. let t : IsTrue c.stays.result = s h in search rules))

pub returns-then-found-parts : goal.returns-then-found-parts
returns-then-found-parts t c =
    let y : to_z w64 (of_z w64 c.args.row) ≡ c.args.row = search rules in
    let l : to_z w64 (of_z w64 c.args.limit) ≡ c.args.limit = search rules in
    let g : to_z w64 (of_z w64 c.max-floor.result) ≡ int_max c.args.floor c.deref-parts.result.now.floor = search (rules, ints, to_z-of_z) in
    let n : to_z w64 (of_z w64 c.min-end.result) ≡ int_min c.args.limit c.deref-parts.result.now.middle = search (rules, ints, to_z-of_z) in
    let r : to_z w64 (of_z w64 c.leaving_above-found.result) ≡ c.leaving_above-found.result = search rules in
    let below : c.leaving_above-found.result <ℤ c.in-Parted.parts.value.middle = rw (← c.deref-parts.ensures) (search rules) in
    let low : Leaves (raised c.in-Parted.parts.value.low (int_max c.args.floor c.in-Parted.parts.value.floor)) c.args.band c.args.row (int_min c.args.limit c.in-Parted.parts.value.middle) c.leaving_above-found.result =
    rw (← c.deref-parts.ensures, ← g, ← n, ← y) c.leaving_above-found.ensures in
    rw r (left_low c.args.self.now c.in-Parted.parts c.in-Parted.is c.args.floor c.args.band c.args.row c.args.limit c.leaving_above-found.result low below)

pub returns-else-found-parts : goal.returns-else-found-parts
returns-else-found-parts t c =
    let y : to_z w64 (of_z w64 c.args.row) ≡ c.args.row = search rules in
    let l : to_z w64 (of_z w64 c.args.limit) ≡ c.args.limit = search rules in
    let m : to_z w64 (of_z w64 c.deref-parts.result.now.middle) ≡ c.deref-parts.result.now.middle = search rules in
    let g : to_z w64 (of_z w64 c.max-floor.result) ≡ int_max c.args.floor c.deref-parts.result.now.floor = search (rules, ints, to_z-of_z) in
    let n : to_z w64 (of_z w64 c.min-end.result) ≡ int_min c.args.limit c.deref-parts.result.now.middle = search (rules, ints, to_z-of_z) in
    let r : to_z w64 (of_z w64 c.leaving_above.result) ≡ c.leaving_above.result = search rules in
    let below : c.args.row <ℤ c.in-Parted.parts.value.middle = rw (← c.deref-parts.ensures, ← y) (search rules) in
    let past : c.in-Parted.parts.value.middle ≤ℤ c.leaving_above-found.result = rw (← c.deref-parts.ensures) (search rules) in
    let low : Leaves (raised c.in-Parted.parts.value.low (int_max c.args.floor c.in-Parted.parts.value.floor)) c.args.band c.args.row (int_min c.args.limit c.in-Parted.parts.value.middle) c.leaving_above-found.result =
    rw (← c.deref-parts.ensures, ← g, ← n, ← y) c.leaving_above-found.ensures in
    let high : Leaves (raised c.in-Parted.parts.value.high (int_max c.args.floor c.in-Parted.parts.value.floor)) c.args.band c.in-Parted.parts.value.middle c.args.limit c.leaving_above.result =
    rw (← c.deref-parts.ensures, ← g, ← m, ← l) c.leaving_above.ensures in
    rw r (left_behind c.args.self.now c.in-Parted.parts c.in-Parted.is c.args.floor c.args.band c.args.row c.args.limit c.leaving_above-found.result c.leaving_above.result low below past high)

pub returns-else-row-parts : goal.returns-else-row-parts
returns-else-row-parts t c =
    let y : to_z w64 (of_z w64 c.args.row) ≡ c.args.row = search rules in
    let l : to_z w64 (of_z w64 c.args.limit) ≡ c.args.limit = search rules in
    let g : to_z w64 (of_z w64 c.max-floor.result) ≡ int_max c.args.floor c.deref-parts.result.now.floor = search (rules, ints, to_z-of_z) in
    let r : to_z w64 (of_z w64 c.leaving_above-else-row-parts.result) ≡ c.leaving_above-else-row-parts.result = search rules in
    let above : c.in-Parted.parts.value.middle ≤ℤ c.args.row = rw (← c.deref-parts.ensures, ← y) (search rules) in
    let high : Leaves (raised c.in-Parted.parts.value.high (int_max c.args.floor c.in-Parted.parts.value.floor)) c.args.band c.args.row c.args.limit c.leaving_above-else-row-parts.result =
    rw (← c.deref-parts.ensures, ← g, ← y, ← l) c.leaving_above-else-row-parts.ensures in
    rw r (left_high c.args.self.now c.in-Parted.parts c.in-Parted.is c.args.floor c.args.band c.args.row c.args.limit c.leaving_above-else-row-parts.result above high)
