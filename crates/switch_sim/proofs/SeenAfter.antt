-- What a probe has seen once samples were due, in two parts.
use Rattle.std.proofs.Common.{◌≡◌, ℕ, suc, ◌+◌, Bool, true, false, if◌then◌else◌, List, [], ◌∷◌, ◌++◌, length, refl, sym, ap, ◌∙◌, arith, append_assoc, append-nil}
use Rattle.rx_text.specs.declared.pad_name.Role.{Role}
use Rattle.switch_net.specs.Ternary.{Levels}
use Rattle.switch_net.specs.declared.network.Pad.{Pad}
use Rattle.sim_probe.specs.declared.sample.Sample.{Sample}
use Rattle.sim_probe.specs.Due.{due_at, due_from}
use Rattle.switch_sim.specs.Serving.{seen_after, is_ended, IsPartlyTold}

module _ (ends : List Sample → Bool) where
  -- what was seen stays in front
  pub extends : (seen due : List Sample) → (more : List Sample) × (seen_after ends seen due ≡ seen ++ more)
  extends seen [] = ([], sym (append-nil seen))
  extends seen (s ∷ due) = by (ends (seen ++ s ∷ [])) (extends (seen ++ s ∷ []) due)
    where
      by : (b : Bool) → (more : List Sample) × (seen_after ends (seen ++ s ∷ []) due ≡ (seen ++ s ∷ []) ++ more)
          → (more : List Sample) × ((if b then seen ++ s ∷ [] else seen_after ends (seen ++ s ∷ []) due) ≡ seen ++ more)
      by true rest = (s ∷ [], refl)
      by false rest = (s ∷ rest.0, rest.1 ∙ append_assoc seen (s ∷ []) rest.0)

  -- where none of the first samples ends the probe, the others go on
  pub seen_goes_on : (seen due more : List Sample) → is_ended ends seen due ≡ false
      → seen_after ends seen (due ++ more) ≡ seen_after ends (seen_after ends seen due) more
  seen_goes_on seen [] more h = refl
  seen_goes_on seen (s ∷ due) more h = by (ends (seen ++ s ∷ [])) (λ e. seen_goes_on (seen ++ s ∷ []) due more e) h
    where
      by : (b : Bool)
          → (is_ended ends (seen ++ s ∷ []) due ≡ false
          → seen_after ends (seen ++ s ∷ []) (due ++ more) ≡ seen_after ends (seen_after ends (seen ++ s ∷ []) due) more)
          → (if b then true else is_ended ends (seen ++ s ∷ []) due) ≡ false
          → (if b then seen ++ s ∷ [] else seen_after ends (seen ++ s ∷ []) (due ++ more))
          ≡ seen_after ends (if b then seen ++ s ∷ [] else seen_after ends (seen ++ s ∷ []) due) more
      by true rest e = absurd (cc)
      by false rest e = rest e

  pub ends_later : (seen due more : List Sample) → is_ended ends seen due ≡ false
      → is_ended ends seen (due ++ more) ≡ is_ended ends (seen_after ends seen due) more
  ends_later seen [] more h = refl
  ends_later seen (s ∷ due) more h = by (ends (seen ++ s ∷ [])) (λ e. ends_later (seen ++ s ∷ []) due more e) h
    where
      by : (b : Bool)
          → (is_ended ends (seen ++ s ∷ []) due ≡ false
          → is_ended ends (seen ++ s ∷ []) (due ++ more) ≡ is_ended ends (seen_after ends (seen ++ s ∷ []) due) more)
          → (if b then true else is_ended ends (seen ++ s ∷ []) due) ≡ false
          → (if b then true else is_ended ends (seen ++ s ∷ []) (due ++ more))
          ≡ is_ended ends (if b then seen ++ s ∷ [] else seen_after ends (seen ++ s ∷ []) due) more
      by true rest e = absurd (cc)
      by false rest e = rest e

  -- where one of them ends it, the others are not told
  pub seen_stops : (seen due more : List Sample) → is_ended ends seen due ≡ true → seen_after ends seen (due ++ more) ≡ seen_after ends seen due
  seen_stops seen [] more h = absurd (cc)
  seen_stops seen (s ∷ due) more h = by (ends (seen ++ s ∷ [])) (λ e. seen_stops (seen ++ s ∷ []) due more e) h
    where
      by : (b : Bool)
          → (is_ended ends (seen ++ s ∷ []) due ≡ true
          → seen_after ends (seen ++ s ∷ []) (due ++ more) ≡ seen_after ends (seen ++ s ∷ []) due)
          → (if b then true else is_ended ends (seen ++ s ∷ []) due) ≡ true
          → (if b then seen ++ s ∷ [] else seen_after ends (seen ++ s ∷ []) (due ++ more))
          ≡ (if b then seen ++ s ∷ [] else seen_after ends (seen ++ s ∷ []) due)
      by true rest e = refl
      by false rest e = rest e

  pub ends_before : (seen due more : List Sample) → is_ended ends seen due ≡ true → is_ended ends seen (due ++ more) ≡ true
  ends_before seen [] more h = absurd (cc)
  ends_before seen (s ∷ due) more h = by (ends (seen ++ s ∷ [])) (λ e. ends_before (seen ++ s ∷ []) due more e) h
    where
      by : (b : Bool) → (is_ended ends (seen ++ s ∷ []) due ≡ true → is_ended ends (seen ++ s ∷ []) (due ++ more) ≡ true)
          → (if b then true else is_ended ends (seen ++ s ∷ []) due) ≡ true
          → (if b then true else is_ended ends (seen ++ s ∷ []) (due ++ more)) ≡ true
      by true rest e = refl
      by false rest e = rest e

  -- ---- some of the samples are told

  pub none_told : (seen due : List Sample) → IsPartlyTold ends seen due seen
  none_told seen due = let all = extends seen due in record { gained = []; left = all.0; now = sym (append-nil seen); whole = all.1 }

  pub all_told : (seen due : List Sample) → IsPartlyTold ends seen due (seen_after ends seen due)
  all_told seen due = let all = extends seen due in record { gained = all.0; left = []; now = all.1; whole = sym (append-nil (seen_after ends seen due)) }

  -- more samples are due
  pub more_due : (seen due more now : List Sample) → IsPartlyTold ends seen due now → IsPartlyTold ends seen (due ++ more) now
  more_due seen due more now told = by (is_ended ends seen due) refl
    where
      by : (b : Bool) → is_ended ends seen due ≡ b → IsPartlyTold ends seen (due ++ more) now
      by true e = record {
        gained = told.gained;
        left = told.left;
        now = told.now;
        whole = seen_stops seen due more e ∙ told.whole;
      }
      by false e =
          let later = extends (seen_after ends seen due) more in
          record {
            gained = told.gained;
            left = told.left ++ later.0;
            now = told.now;
            whole = seen_goes_on seen due more e ∙ later.1 ∙ ap (λ l. l ++ later.0) told.whole ∙ append_assoc now told.left later.0;
          }

  -- some samples were due before, and none ended it
  pub after_due : (seen due more now : List Sample) → is_ended ends seen due ≡ false → IsPartlyTold ends (seen_after ends seen due) more now
      → IsPartlyTold ends seen (due ++ more) now
  after_due seen due more now e told =
      let first = extends seen due in
      record {
        gained = first.0 ++ told.gained;
        left = told.left;
        now = told.now ∙ ap (λ l. l ++ told.gained) first.1 ∙ append_assoc seen first.0 told.gained;
        whole = seen_goes_on seen due more e ∙ told.whole;
      }

-- ---- samples that are due at more pads, and after more clocks

pub due_at_join : (wants : ℕ → Role → Bool) (clock : ℕ) (v : Levels) (number : ℕ) (pads more : List Pad)
    → due_at wants clock v number (pads ++ more) ≡ due_at wants clock v number pads ++ due_at wants clock v (number + length pads) more
due_at_join wants clock v number [] more = let none : number + 0 ≡ number = omega arith in rw none refl
due_at_join wants clock v number (pad ∷ pads) more =
    let next : suc number + length pads ≡ number + length (pad ∷ pads) = omega arith in
    by (wants number pad.name.role)
    (due_at_join wants clock v (suc number) pads more
    ∙ ap (λ n. due_at wants clock v (suc number) pads ++ due_at wants clock v n more) next)
  where
    one : Sample
    one = record { at = clock; pad = number; value = v pad.net.0 }

    by : (b : Bool) → due_at wants clock v (suc number) (pads ++ more)
        ≡ due_at wants clock v (suc number) pads ++ due_at wants clock v (number + length (pad ∷ pads)) more
        → (if b then one ∷ due_at wants clock v (suc number) (pads ++ more) else due_at wants clock v (suc number) (pads ++ more))
        ≡ (if b then one ∷ due_at wants clock v (suc number) pads else due_at wants clock v (suc number) pads) ++ due_at wants clock v (number + length (pad ∷ pads)) more
    by true e = ap (λ l. one ∷ l) e
    by false e = e

pub due_from_join : (wants : ℕ → Role → Bool) (pads : List Pad) (clock : ℕ) (vs ws : List Levels)
    → due_from wants pads clock (vs ++ ws) ≡ due_from wants pads clock vs ++ due_from wants pads (clock + length vs) ws
due_from_join wants pads clock [] ws = let none : clock + 0 ≡ clock = omega arith in rw none refl
due_from_join wants pads clock (v ∷ vs) ws =
    let e : suc clock + length vs ≡ clock + length (v ∷ vs) = omega arith in
    ap (λ l. due_at wants clock v 0 pads ++ l)
    (due_from_join wants pads (suc clock) vs ws ∙ ap (λ n. due_from wants pads (suc clock) vs ++ due_from wants pads n ws) e)
    ∙ sym (append_assoc (due_at wants clock v 0 pads) (due_from wants pads (suc clock) vs) _)
