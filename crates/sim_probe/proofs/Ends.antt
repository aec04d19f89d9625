-- When a `Toggles` has enough.
use Rattle.std.proofs.Common.{◌≡◌, ◌↔◌, ℕ, nat_eq, Bool, true, if◌then◌else◌, List, [], ◌∷◌, ◌++◌, Option, Some, None, IsTrue}
use Rattle.std.proofs.Common.{refl, sym, ap, ◌∙◌, subst, eq-eqb}
use Rattle.std.proofs.lemmas.Bool.{eqb-true}
use Rattle.std.specs.Option.{option_eq}
use Rattle.sim_probe.specs.declared.sample.Sample.{Sample}
use Rattle.sim_probe.specs.declared.sample.Verdict.TheVariants.{More, Enough}
use Rattle.sim_probe.specs.Manner.{verdict}
use Rattle.sim_probe.specs.Levels.{last_clock, is_same_clock}
use Rattle.sim_probe.specs.TogglesText.{toggles_manner}
use Rattle.sim_probe.proofs.Behind.{last_clock_more}

clocks_agree : (stop : Option ℕ) (clock : ℕ) → (is_same_clock stop (Some clock) ≡ true) ↔ (stop ≡ Some clock)
clocks_agree None clock = ((λ e. absurd (cc)), (λ e. absurd (cc)))
clocks_agree (Some one) clock = ((λ e. ap (λ n. Some n) (eqb-true one clock e)), (λ e. let f : one ≡ clock = cc in eq-eqb one clock f))

pub ends_at_stop : (stop : Option ℕ) (samples : List Sample) (last : Sample)
    → IsTrue ((toggles_manner stop).ends (samples ++ last ∷ [])) ↔ (stop ≡ Some last.at)
ends_at_stop stop samples last =
    let e = last_clock_more samples last in
    subst (λ c. IsTrue (is_same_clock stop c) ↔ (stop ≡ Some last.at)) (sym e) (clocks_agree stop last.at)

-- the answer by the test that the code makes
pub verdict_is : (stop : Option ℕ) (items samples : List Sample) (last : Sample) (b : Bool) → items ≡ samples ++ last ∷ []
    → b ≡ option_eq nat_eq stop (Some last.at) → (if b then Enough else More) ≡ verdict (toggles_manner stop) items
verdict_is stop items samples last b e f =
    ap (λ c. if c then Enough else More) (f ∙ same stop ∙ ap (is_same_clock stop) (sym (ap last_clock e ∙ last_clock_more samples last)))
  where
    same : (o : Option ℕ) → option_eq nat_eq o (Some last.at) ≡ is_same_clock o (Some last.at)
    same None = refl
    same (Some one) = refl
