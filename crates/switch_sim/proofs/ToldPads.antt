-- A probe is told the samples of a clock, pad by pad.
use Rattle.std.proofs.Common.{◌≡◌, ℕ, ◌+◌, ◌<◌, ◌≤◌, Bool, true, false, List, [], ◌∷◌, ◌++◌, length, get_or, take, drop, refl, sym, ap, ◌∙◌, subst, arith}
use Rattle.std.proofs.lemmas.List.{take_more, take_all, take-append-drop, length-take-le}
use Rattle.switch_net.specs.Ternary.{Levels}
use Rattle.switch_net.specs.declared.network.Pad.{Pad}
use Rattle.sim_probe.specs.Due.{due_at}
use Rattle.sim_probe.specs.Manner.{Manner}
use Rattle.sim_probe.specs.declared.sample.Sample.{Sample}
use Rattle.switch_sim.specs.Serving.{seen_after, is_ended, dues_at, IsPartlyTold}
use Rattle.switch_sim.proofs.SeenAfter.{seen_goes_on, ends_later, seen_stops, ends_before, all_told, more_due, due_at_join}

module _ (clock : ℕ) (v : Levels) (pads : List Pad) (manner : Manner) (before : List Sample) where
  -- the samples that are due at the first pads
  abbrev pub dues_of : ℕ → List Sample
  dues_of n = due_at manner.wants clock v 0 (take n pads)

  -- A probe of this manner was told those of the first pads, none of which ended it.
  pub record Told (n : ℕ) (now : Manner) (seen : List Sample) : Type 0 where
    pub seen_is : seen ≡ seen_after manner.ends before (dues_of n)
    pub going : is_ended manner.ends before (dues_of n) ≡ false
    pub same : now ≡ manner

  pub begins : Told 0 manner before
  begins = record { seen_is = refl; going = refl; same = refl }

  more_dues : (n : ℕ) (pad : Pad) → n < length pads → get_or pads n pad ≡ pad → dues_of (n + 1) ≡ dues_of n ++ due_at manner.wants clock v n (pad ∷ [])
  more_dues n pad lt is =
      let size = length-take-le n pads (omega arith) in
      let place : 0 + length (take n pads) ≡ n = omega arith in
      ap (due_at manner.wants clock v 0) (take_more pads n pad lt ∙ ap (λ p. take n pads ++ p ∷ []) is)
      ∙ due_at_join manner.wants clock v 0 (take n pads) (pad ∷ [])
      ∙ ap (λ k. dues_of n ++ due_at manner.wants clock v k (pad ∷ [])) place

  all_dues : (n : ℕ) → (later : List Sample) × (dues_at pads clock v manner ≡ dues_of n ++ later)
  all_dues n = (
    due_at manner.wants clock v (0 + length (take n pads)) (drop n pads),
    ap (due_at manner.wants clock v 0) (sym (take-append-drop n pads)) ∙ due_at_join manner.wants clock v 0 (take n pads) (drop n pads),
  )

  -- one pad more
  module _ (n : ℕ) (now later : Manner) (seen more : List Sample) (pad : Pad) (enough : Bool) (told : Told n now seen) (lt : n < length pads)
      (is : get_or pads n pad ≡ pad) (seen_is : more ≡ seen_after now.ends seen (due_at now.wants clock v n (pad ∷ [])))
      (ended_is : enough ≡ is_ended now.ends seen (due_at now.wants clock v n (pad ∷ []))) (same : later ≡ now) where
    seen_more : more ≡ seen_after manner.ends before (dues_of (n + 1))
    seen_more =
        seen_is
        ∙ ap (λ (m : Manner). seen_after m.ends seen (due_at m.wants clock v n (pad ∷ []))) told.same
        ∙ ap (λ s. seen_after manner.ends s (due_at manner.wants clock v n (pad ∷ []))) told.seen_is
        ∙ sym (seen_goes_on manner.ends before (dues_of n) (due_at manner.wants clock v n (pad ∷ [])) told.going)
        ∙ ap (seen_after manner.ends before) (sym (more_dues n pad lt is))

    ended_more : enough ≡ is_ended manner.ends before (dues_of (n + 1))
    ended_more =
        ended_is
        ∙ ap (λ (m : Manner). is_ended m.ends seen (due_at m.wants clock v n (pad ∷ []))) told.same
        ∙ ap (λ s. is_ended manner.ends s (due_at manner.wants clock v n (pad ∷ []))) told.seen_is
        ∙ sym (ends_later manner.ends before (dues_of n) (due_at manner.wants clock v n (pad ∷ [])) told.going)
        ∙ ap (is_ended manner.ends before) (sym (more_dues n pad lt is))

    pub goes_on : enough ≡ false → Told (n + 1) later more
    goes_on e = record { seen_is = seen_more; going = sym ended_more ∙ e; same = same ∙ told.same }

    pub stops : enough ≡ true → (more ≡ seen_after manner.ends before (dues_at pads clock v manner)) × (true ≡ is_ended manner.ends before (dues_at pads clock v manner))
        × (later ≡ manner)
    stops e =
        let rest = all_dues (n + 1) in
        let ended : is_ended manner.ends before (dues_of (n + 1)) ≡ true = sym ended_more ∙ e in (
          seen_more ∙ sym (ap (seen_after manner.ends before) rest.1 ∙ seen_stops manner.ends before (dues_of (n + 1)) rest.0 ended),
          sym (ap (is_ended manner.ends before) rest.1 ∙ ends_before manner.ends before (dues_of (n + 1)) rest.0 ended),
          same ∙ told.same,
        )

  -- the next sample is not told
  pub halts : (n : ℕ) (now later : Manner) (seen more : List Sample) → Told n now seen → more ≡ seen → later ≡ now
      → IsPartlyTold manner.ends before (dues_at pads clock v manner) more × (later ≡ manner)
  halts n now later seen more told e same =
      let rest = all_dues n in (
        subst (λ dues. IsPartlyTold manner.ends before dues more) (sym rest.1)
            (subst (IsPartlyTold manner.ends before (dues_of n ++ rest.0)) (sym (e ∙ told.seen_is))
            (more_due manner.ends before (dues_of n) rest.0 (seen_after manner.ends before (dues_of n)) (all_told manner.ends before (dues_of n)))),
        same ∙ told.same,
      )

  -- all pads were told
  pub ends_here : (n : ℕ) (now : Manner) (seen : List Sample) → Told n now seen → length pads ≤ n
      → (seen ≡ seen_after manner.ends before (dues_at pads clock v manner)) × (false ≡ is_ended manner.ends before (dues_at pads clock v manner)) × (now ≡ manner)
  ends_here n now seen told all =
      let whole = ap (due_at manner.wants clock v 0) (take_all n pads all) in
      (told.seen_is ∙ ap (seen_after manner.ends before) whole, sym told.going ∙ ap (is_ended manner.ends before) whole, told.same)
