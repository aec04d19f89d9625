-- What is kept of pads while lines of changes are written.
use Rattle.std.proofs.Common.{◌≡◌, ℕ, false, List, [], ◌∷◌, ◌++◌, Some, inl, inr, refl, sym, ap, ◌∙◌, subst}
use Rattle.std.specs.Ordering.{nat_cmp}
use Rattle.std.specs.Map.{keys_of}
use Rattle.std.specs.BTreeMap.{BTreeMap, get, is_at, insert_entry}
use Rattle.std.specs.BTreeSet.{insert_key}
use Rattle.std.proofs.lemmas.Bool.{cases_eq}
use Rattle.switch_net.specs.declared.network.Level.{Level}
use Rattle.sim_probe.specs.declared.sample.Sample.{Sample}
use Rattle.sim_probe.specs.Levels.{levels_of, last_of}
use Rattle.sim_probe.specs.Changing.{HasLasts}
use Rattle.sim_probe.proofs.Behind.{last_of_more, levels_of_more, levels_of_other, pads_of_more}
use Rattle.sim_probe.proofs.Keys.{other_key, keys_more}

pub has_lasts_none : (lasts : BTreeMap ℕ Level) → lasts.entries ≡ [] → HasLasts lasts []
has_lasts_none lasts e = record { levels = λ pad. rw e refl; pads = ap keys_of e }

module _ (lasts new : BTreeMap ℕ Level) (samples : List Sample) (sample : Sample) (has : HasLasts lasts samples)
    (at : get nat_cmp new sample.pad ≡ Some sample.value)
    (others : (pad : ℕ) → is_at (nat_cmp sample.pad) pad ≡ false → get nat_cmp new pad ≡ get nat_cmp lasts pad)
    (entries : new.entries ≡ insert_entry nat_cmp lasts.entries sample.pad sample.value) where
  here : get nat_cmp new sample.pad ≡ last_of (levels_of sample.pad (samples ++ sample ∷ []))
  here = at ∙ sym (last_of_more (levels_of sample.pad samples) sample.value) ∙ ap last_of (sym (levels_of_more samples sample))

  pub has_lasts_more : HasLasts new (samples ++ sample ∷ [])
  has_lasts_more = record {
    levels = λ pad.
        elim (cases_eq sample.pad pad) [
          | inl e ↦ subst (λ p. get nat_cmp new p ≡ last_of (levels_of p (samples ++ sample ∷ []))) e here
          | inr apart ↦ others pad (other_key sample.pad pad apart) ∙ has.levels pad ∙ ap last_of (sym (levels_of_other samples sample pad apart))
        ];
    pads = ap keys_of entries ∙ keys_more sample.pad sample.value lasts.entries ∙ ap (λ pads. insert_key nat_cmp pads sample.pad) has.pads
        ∙ sym (pads_of_more samples sample);
  }
