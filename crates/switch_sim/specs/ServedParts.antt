-- Which of the samples that are due a probe is told.
use Rattle.std.specs.Prelude.{◌≡◌, ◌≢◌, Bool, true, false, List, [], ◌++◌}
use Rattle.sim_probe.specs.declared.sample.Sample.{Sample}
use Rattle.switch_sim.specs.Serving.{seen_after, is_ended}

-- The part is the shortest front of the samples, of those that are not empty, that ends the probe.
pub record IsEndingPart (ends : List Sample → Bool) (seen due part : List Sample) : Type 0 where
  pub left : List Sample
  pub cut : due ≡ part ++ left
  pub filled : part ≢ []
  pub ended : ends (seen ++ part) ≡ true
  pub shortest : (front back : List Sample) → part ≡ front ++ back → front ≢ [] → back ≢ [] → ends (seen ++ front) ≡ false

-- A probe that is ended was told exactly that part.
abbrev pub EndedAreToldTheirPart : Type 0
EndedAreToldTheirPart = (ends : List Sample → Bool) (seen due : List Sample) → is_ended ends seen due ≡ true
    → (part : List Sample) × IsEndingPart ends seen due part × (seen_after ends seen due ≡ seen ++ part)

-- A probe that is not ended was told all, and no front ends it.
abbrev pub OthersAreToldAll : Type 0
OthersAreToldAll = (ends : List Sample → Bool) (seen due : List Sample) → is_ended ends seen due ≡ false
    → (seen_after ends seen due ≡ seen ++ due)
    × ((front back : List Sample) → due ≡ front ++ back → front ≢ [] → ends (seen ++ front) ≡ false)
