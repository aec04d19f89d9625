-- The next number is taken from the end or put there.
use Rattle.std.proofs.Common.{◌≡◌, ◌+◌, ℕ, ℤ, pos, ◌≤ℤ◌, ◌≤◌, List, take, drop, get_or, length, sym, subst, FitsSigned, w64, rules, arith}
use Rattle.std.proofs.lemmas.Int.{to_z-of_z}
use Rattle.std.proofs.lemmas.List.{take_all, get_or_default}
use Rattle.geom.specs.Rows.{Pairwise}
use Rattle.cif_shapes.specs.Changes.{AreOddOnes, Toggles}
use Rattle.cif_shapes.proofs.Lists.{taken_at, parted_at}
use Rattle.cif_shapes.proofs.OddOnes.{toggled}
use Rattle.cif_shapes.proofs.changes.odd_ones.Goals as goal

pub loop-number-preserved : goal.loop-number-preserved
loop-number-preserved c =
    let i : ℕ = c.loop-number.number-index in
    let xs : List ℤ = c.args.sorted.now in
    let b : ℤ = get_or xs i (pos 0) in
    let fits : FitsSigned w64 b = search rules in
    let self : b ≡ get_or xs i b = get_or_default xs i (pos 0) b c.loop-number-test.true in
    let P : ℤ → Type 0 = λ v. Toggles c.loop-number.odd.items v c.toggle.new.odd.items in
    let Q : List ℤ → Type 0 = λ l. Pairwise (λ low high. low ≤ℤ high) l in
    let R : List ℤ → Type 0 = λ l. AreOddOnes l c.toggle.new.odd.items in
    subst R (sym (taken_at xs i b c.loop-number-test.true self))
    (toggled (take i xs) c.loop-number.odd.items c.toggle.new.odd.items b (drop (i + 1) xs) (subst Q (sym (parted_at xs i b c.loop-number-test.true self)) c.requires)
    c.loop-number.invariant (subst P (to_z-of_z w64 b fits) c.in_ok-toggle.ensures))

pub returns : goal.returns
returns c =
    let past : length c.args.sorted.now ≤ c.loop-number.number-index = omega arith in
    let P : List ℤ → Type 0 = λ l. AreOddOnes l c.loop-number.odd.items in
    subst P (take_all c.loop-number.number-index c.args.sorted.now past) c.loop-number.invariant
