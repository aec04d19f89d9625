-- Runs and clocks split at each place of their words.
use Rattle.std.proofs.Common.{◌≡◌, suc, Bool, List, [], ◌∷◌, ◌++◌, length, refl, ap, arith}
use Rattle.switch_net.specs.Circuit.{Circuit}
use Rattle.switch_net.specs.Settling.{Values}
use Rattle.switch_net.specs.Clock.{Drive, drives_from, Clocks, Run}
use Rattle.switch_net.specs.SettlingLaws.{PadsHaveDrives, last_values, SplitClocks, ClocksSplit, SplitRun, RunsSplit, ClocksHaveValues, RunsHaveValues}
use Rattle.switch_net.specs.declared.network.Pad.{Pad}

drives_count : (drive : Drive) (bits : List Bool) (pads : List Pad) → length (drives_from drive bits pads) ≡ length pads
drives_count drive bits [] = refl
drives_count drive bits (pad ∷ pads) = ap suc (drives_count drive _ pads)

pub pads_have_drives : PadsHaveDrives
pads_have_drives drive pads = drives_count drive drive.lines pads

split : (circuit : Circuit) (q : Values) (u w : List (List Bool)) (vs : List Values)
    → Clocks circuit q (u ++ w) vs → SplitClocks circuit q u w vs
split circuit q [] w vs h = record { first = []; second = vs; whole = refl; before = tt; after = h }
split circuit q (x ∷ u) w [] h = absurd h
split circuit q (x ∷ u) w (v ∷ vs) h =
    let rest = split circuit v u w vs h.1 in
    record {
      first = v ∷ rest.first;
      second = rest.second;
      whole = ap (λ ts. v ∷ ts) rest.whole;
      before = (h.0, rest.before);
      after = rest.after;
    }

join : (circuit : Circuit) (q : Values) (u w : List (List Bool)) (first second : List Values)
    → Clocks circuit q u first → Clocks circuit (last_values q first) w second → Clocks circuit q (u ++ w) (first ++ second)
join circuit q [] w [] second before after = after
join circuit q [] w (v ∷ first) second before after = absurd before
join circuit q (x ∷ u) w [] second before after = absurd before
join circuit q (x ∷ u) w (v ∷ first) second before after = (before.0, join circuit v u w first second before.1 after)

pub clocks_split : ClocksSplit
clocks_split circuit q u w vs =
    (split circuit q u w vs, λ s. rw s.whole (join circuit q u w s.first s.second s.before s.after))

run_split : (circuit : Circuit) (q : Values) (lines : List Bool) (u w : List (List Bool)) (vs : List Values)
    → Run circuit q lines (u ++ w) vs → SplitRun circuit q lines u w vs
run_split circuit q lines u w [] h = absurd h
run_split circuit q lines u w (v ∷ vs) h =
    let rest = split circuit v u w vs h.1 in
    record {
      first = v ∷ rest.first;
      second = rest.second;
      whole = ap (λ ts. v ∷ ts) rest.whole;
      before = (h.0, rest.before);
      after = rest.after;
    }

run_join : (circuit : Circuit) (q : Values) (lines : List Bool) (u w : List (List Bool)) (first second : List Values)
    → Run circuit q lines u first → Clocks circuit (last_values q first) w second
    → Run circuit q lines (u ++ w) (first ++ second)
run_join circuit q lines u w [] second before after = absurd before
run_join circuit q lines u w (v ∷ first) second before after = (before.0, join circuit v u w first second before.1 after)

pub runs_split : RunsSplit
runs_split circuit q lines u w vs =
    (run_split circuit q lines u w vs, λ s. rw s.whole (run_join circuit q lines u w s.first s.second s.before s.after))

pub clocks_have_values : ClocksHaveValues
clocks_have_values circuit q [] [] h = refl
clocks_have_values circuit q [] (v ∷ vs) h = absurd h
clocks_have_values circuit q (x ∷ u) [] h = absurd h
clocks_have_values circuit q (x ∷ u) (v ∷ vs) h = ap suc (clocks_have_values circuit v u vs h.1)

pub runs_have_values : RunsHaveValues
runs_have_values circuit q lines u [] h = absurd h
runs_have_values circuit q lines u (v ∷ vs) h = omega (arith, clocks_have_values circuit v u vs h.1)
