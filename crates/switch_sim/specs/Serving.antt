-- How a simulation serves the probes of a list.
use Rattle.std.specs.Prelude.{◌≡◌, ◌⊎◌, ℕ, suc, ◌==◌, ◌&&◌, Bool, true, false, if◌then◌else◌, List, [], ◌∷◌, ◌++◌, Option}
use Rattle.std.specs.Io.KnownBytes.{Appends}
use Rattle.rx_io.specs.Streams.{AppendsFront}
use Rattle.switch_net.specs.Circuit.{Circuit}
use Rattle.switch_net.specs.Ternary.{Levels, nothing_known, RunLevels}
use Rattle.switch_net.specs.declared.network.Pad.{Pad}
use Rattle.sim_probe.specs.Due.{due_at, due_from}
use Rattle.sim_probe.specs.Manner.{Manner}
use Rattle.sim_probe.specs.declared.sample.Sample.{Sample}
use Rattle.switch_sim.specs.TraceLines.{clock_line}
use Rattle.switch_sim.specs.declared.serving.Asked.{Asked}

-- a probe as clauses see it
pub record Listener : Type 0 where
  pub manner : Manner
  pub seen : List Sample

-- Kind 0 is served always, kind 1 where toggles are asked for, kind 2 where waves are, and no other.
abbrev pub is_served : Asked → ℕ → Bool
is_served asked kind = if kind == 0 then true else (if kind == 1 then asked.toggles else kind == 2 && asked.waves)

-- What has been seen when these samples were due: they are told one by one, up to the first that ends the probe.
abbrev pub seen_after : (List Sample → Bool) → List Sample → List Sample → List Sample
seen_after ends seen [] = seen
seen_after ends seen (sample ∷ due) = if ends (seen ++ sample ∷ []) then seen ++ sample ∷ [] else seen_after ends (seen ++ sample ∷ []) due

-- one of these samples ends the probe
abbrev pub is_ended : (List Sample → Bool) → List Sample → List Sample → Bool
is_ended ends seen [] = false
is_ended ends seen (sample ∷ due) = if ends (seen ++ sample ∷ []) then true else is_ended ends (seen ++ sample ∷ []) due

-- the listener after these samples were due
abbrev pub told : (Manner → List Sample) → Listener → Listener
told dues one = record { manner = one.manner; seen = seen_after one.manner.ends one.seen (dues one.manner) }

-- the listener is served, and one of the samples that are due ends it
abbrev pub has_enough : Asked → (Manner → List Sample) → Listener → Bool
has_enough asked dues one = is_served asked one.manner.kind && is_ended one.manner.ends one.seen (dues one.manner)

-- the listeners that stay after these samples were due, in order
abbrev pub stay : Asked → (Manner → List Sample) → List Listener → List Listener
stay asked dues [] = []
stay asked dues (one ∷ more) =
    if has_enough asked dues one then stay asked dues more
    else (if is_served asked one.manner.kind then told dues one else one) ∷ stay asked dues more

-- the texts of the others, in order
abbrev pub texts_of_ended : Asked → (Manner → List Sample) → List Listener → List ℕ
texts_of_ended asked dues [] = []
texts_of_ended asked dues (one ∷ more) =
    (if has_enough asked dues one then one.manner.said (told dues one).seen else []) ++ texts_of_ended asked dues more

-- the texts of the served listeners at the end of a run
abbrev pub texts_at_end : Asked → List Listener → List ℕ
texts_at_end asked [] = []
texts_at_end asked (one ∷ more) = (if is_served asked one.manner.kind then one.manner.said one.seen else []) ++ texts_at_end asked more

-- the samples that are due after a clock with these levels
abbrev pub dues_at : List Pad → ℕ → Levels → Manner → List Sample
dues_at pads clock v manner = due_at manner.wants clock v 0 pads

-- the samples that are due after each clock from this one on
abbrev pub dues_from : List Pad → ℕ → List Levels → Manner → List Sample
dues_from pads clock levels manner = due_from manner.wants pads clock levels

-- from this clock on the line of each, and behind it, before the next line, the texts of the listeners that it ends
abbrev pub clocks_from : Circuit → Asked → ℕ → List Listener → List Levels → List ℕ
clocks_from circuit asked clock listeners [] = []
clocks_from circuit asked clock listeners (v ∷ vs) =
    clock_line circuit clock v ++ texts_of_ended asked (dues_at circuit.pads clock v) listeners
    ++ clocks_from circuit asked (suc clock) (stay asked (dues_at circuit.pads clock v) listeners) vs

-- all that a run with these levels writes: the clocks, and then the texts of the served listeners that are left
abbrev pub served_lines : Circuit → Asked → List Listener → List Levels → List ℕ
served_lines circuit asked listeners levels =
    clocks_from circuit asked 0 listeners levels ++ texts_at_end asked (stay asked (dues_from circuit.pads 0 levels) listeners)

-- ---- runs to the end

-- The run over these vectors writes the text, and leaves of the listeners those that it does not end, each served one with exactly the
-- samples that were due to it.
pub record ServesRun (circuit : Circuit) (vectors : List (List Bool)) (asked : Asked) (before after : List Listener) (text : List ℕ) : Type 0 where
  pub levels : List Levels
  pub run : RunLevels circuit nothing_known [] vectors levels
  pub lines : text ≡ served_lines circuit asked before levels
  pub left : after ≡ stay asked (dues_from circuit.pads 0 levels) before

-- a sink gained what such a run writes
pub record GainsServed (old new : Option (List ℕ)) (circuit : Circuit) (vectors : List (List Bool)) (asked : Asked) (before after : List Listener)
    : Type 0 where
  pub text : List ℕ
  pub serves : ServesRun circuit vectors asked before after text
  pub gained : Appends old new text

-- ---- runs that fail

-- Some of the samples that were due have been told, and none behind one that ends the probe.
pub record IsPartlyTold (ends : List Sample → Bool) (seen due seen_now : List Sample) : Type 0 where
  pub gained : List Sample
  pub left : List Sample
  pub now : seen_now ≡ seen ++ gained
  pub whole : seen_after ends seen due ≡ seen_now ++ left

-- The listener is as it was, but that it may have been told some of the samples due, if it is served.
pub record IsPartlyServed (asked : Asked) (dues : Manner → List Sample) (before after : Listener) : Type 0 where
  pub manner : after.manner ≡ before.manner
  pub unserved : is_served asked before.manner.kind ≡ false → after.seen ≡ before.seen
  pub served : is_served asked before.manner.kind ≡ true → IsPartlyTold before.manner.ends before.seen (dues before.manner) after.seen

-- The listeners after are those before, in order, each partly served, but that some may be missing that have enough.
abbrev pub ArePartlyServed : Asked → (Manner → List Sample) → List Listener → List Listener → Type 0
ArePartlyServed asked dues [] after = after ≡ []
ArePartlyServed asked dues (one ∷ more) after =
    ((has_enough asked dues one ≡ true) × ArePartlyServed asked dues more after)
    ⊎ ((now : Listener) × (rest : List Listener) × (after ≡ now ∷ rest) × IsPartlyServed asked dues one now × ArePartlyServed asked dues more rest)

-- a sink gained a front of what the run writes, and the listeners are partly served
pub record GainsServedFront (old new : Option (List ℕ)) (circuit : Circuit) (vectors : List (List Bool)) (asked : Asked)
    (before after : List Listener) : Type 0 where
  pub levels : List Levels
  pub run : RunLevels circuit nothing_known [] vectors levels
  pub gained : AppendsFront old new (served_lines circuit asked before levels)
  pub left : ArePartlyServed asked (dues_from circuit.pads 0 levels) before after
