use Rattle.std.proofs.Common.{◌≢◌, inl, inr, ◌<◌, ◌≤◌, ℕ, List, length, get_or, sym, arith}
use Rattle.std.proofs.lemmas.Bool.{cases_lt}
use Rattle.std.proofs.lemmas.List.Sorted.{searched}
use Rattle.switch_sim.proofs.Naming.{place_is, no_place, never_falls}
use Rattle.switch_sim.proofs.names.place.Goals as goal

apart : (names : List ℕ) (net end : ℕ) → ((k : ℕ) → k < end → get_or names k 0 < net) → ((k : ℕ) → end ≤ k → k < length names → net < get_or names k 0)
    → (i : ℕ) → i < length names → get_or names i 0 ≢ net
apart names net end before behind i lt e =
    elim (cases_lt i end) [
      | inl first ↦ let less = before i first in omega (arith, less, e)
      | inr later ↦ let more = behind i later lt in omega (arith, more, e)
    ]

pub returns-in-Ok : goal.returns-in-Ok
returns-in-Ok c =
    let found = searched c.args.names.now c.args.net c.binary_search.result c.binary_search.ensures.position (never_falls c.args.names.now c.requires) in
    let here = rw c.in-Ok.is at found in
    sym (place_is c.args.names.now c.requires c.args.net c.in-Ok.at here.0 here.1)

pub returns-in-Err : goal.returns-in-Err
returns-in-Err c =
    let found = searched c.args.names.now c.args.net c.binary_search.result c.binary_search.ensures.position (never_falls c.args.names.now c.requires) in
    let parted = rw c.in-Err.is at found in
    sym (no_place c.args.names.now c.args.net (apart c.args.names.now c.args.net c.in-Err.field-0 parted.1 parted.2))
