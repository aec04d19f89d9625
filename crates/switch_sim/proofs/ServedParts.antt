-- A probe is told the shortest part that ends it, or all.
use Rattle.std.proofs.Common.{◌≡◌, ◌≢◌, Bool, true, false, if◌then◌else◌, List, [], ◌∷◌, ◌++◌, refl, sym, ap, ◌∙◌, subst, append_assoc, append-nil}
use Rattle.sim_probe.specs.declared.sample.Sample.{Sample}
use Rattle.switch_sim.specs.Serving.{seen_after, is_ended}
use Rattle.switch_sim.specs.ServedParts.{IsEndingPart}

-- no sample stands before none
no_front : (a : Sample) (front back : List Sample) → [] ≡ (a ∷ front) ++ back → ⊥
no_front a front back e = cc

module _ (ends : List Sample → Bool) where
  -- No front of the samples ends the probe, where its rest is one of these.
  abbrev NoFrontEnds : (List Sample → Type 0) → List Sample → List Sample → Type 0
  NoFrontEnds Rest seen due = (front back : List Sample) → due ≡ front ++ back → front ≢ [] → Rest back → ends (seen ++ front) ≡ false

  -- the same with a sample in front that does not end it
  one_before : (Rest : List Sample → Type 0) (seen due : List Sample) (s : Sample) → ends (seen ++ s ∷ []) ≡ false → NoFrontEnds Rest (seen ++ s ∷ []) due
      → NoFrontEnds Rest seen (s ∷ due)
  one_before Rest seen due s e later [] back cut filled rest = absurd (filled refl)
  one_before Rest seen due s e later (a ∷ []) back cut filled rest = let same : s ≡ a = cc in subst (λ (x : Sample). ends (seen ++ x ∷ []) ≡ false) same e
  one_before Rest seen due s e later (a ∷ b ∷ front) back cut filled rest =
      let same : s ≡ a = cc in
      let behind : due ≡ (b ∷ front) ++ back = cc in
      let none = later (b ∷ front) back behind (λ h. absurd (cc)) rest in
      subst (λ (x : Sample). ends (seen ++ x ∷ b ∷ front) ≡ false) same
      (subst (λ (l : List Sample). ends l ≡ false) (append_assoc seen (s ∷ []) (b ∷ front)) none)

  none_before : (seen : List Sample) → NoFrontEnds (λ back. Unit {0}) seen []
  none_before seen [] back cut filled rest = absurd (filled refl)
  none_before seen (a ∷ front) back cut filled rest = absurd (no_front a front back cut)

  all : (seen due : List Sample) → is_ended ends seen due ≡ false
      → (seen_after ends seen due ≡ seen ++ due) × NoFrontEnds (λ back. Unit {0}) seen due
  all seen [] h = (sym (append-nil seen), none_before seen)
  all seen (s ∷ due) h = by (ends (seen ++ s ∷ [])) refl (λ k. all (seen ++ s ∷ []) due k) h
    where
      by : (b : Bool) → ends (seen ++ s ∷ []) ≡ b
          → (is_ended ends (seen ++ s ∷ []) due ≡ false
          → (seen_after ends (seen ++ s ∷ []) due ≡ (seen ++ s ∷ []) ++ due) × NoFrontEnds (λ back. Unit {0}) (seen ++ s ∷ []) due)
          → (if b then true else is_ended ends (seen ++ s ∷ []) due) ≡ false
          → ((if b then seen ++ s ∷ [] else seen_after ends (seen ++ s ∷ []) due) ≡ seen ++ s ∷ due) × NoFrontEnds (λ back. Unit {0}) seen (s ∷ due)
      by true e later k = absurd (cc)
      by false e later k =
          let rest = later k in
          (rest.0 ∙ append_assoc seen (s ∷ []) due, one_before (λ back. Unit {0}) seen due s e rest.1)

  pub told_all : (seen due : List Sample) → is_ended ends seen due ≡ false
      → (seen_after ends seen due ≡ seen ++ due) × ((front back : List Sample) → due ≡ front ++ back → front ≢ [] → ends (seen ++ front) ≡ false)
  told_all seen due h = let whole = all seen due h in (whole.0, λ front back cut filled. whole.1 front back cut filled tt)

  -- one sample has no shorter front
  alone : (seen : List Sample) (s : Sample) → NoFrontEnds (λ back. back ≢ []) seen (s ∷ [])
  alone seen s [] back cut filled rest = absurd (filled refl)
  alone seen s (a ∷ []) [] cut filled rest = absurd (rest refl)
  alone seen s (a ∷ []) (b ∷ back) cut filled rest = absurd (cc)
  alone seen s (a ∷ b ∷ front) back cut filled rest = absurd (cc)

  pub told_part : (seen due : List Sample) → is_ended ends seen due ≡ true
      → (part : List Sample) × IsEndingPart ends seen due part × (seen_after ends seen due ≡ seen ++ part)
  told_part seen [] h = absurd (cc)
  told_part seen (s ∷ due) h = by (ends (seen ++ s ∷ [])) refl (λ k. told_part (seen ++ s ∷ []) due k) h
    where
      by : (b : Bool) → ends (seen ++ s ∷ []) ≡ b
          → (is_ended ends (seen ++ s ∷ []) due ≡ true
          → (part : List Sample) × IsEndingPart ends (seen ++ s ∷ []) due part × (seen_after ends (seen ++ s ∷ []) due ≡ (seen ++ s ∷ []) ++ part))
          → (if b then true else is_ended ends (seen ++ s ∷ []) due) ≡ true
          → (part : List Sample) × IsEndingPart ends seen (s ∷ due) part
          × ((if b then seen ++ s ∷ [] else seen_after ends (seen ++ s ∷ []) due) ≡ seen ++ part)
      by true e later k =
          (s ∷ [], record { left = due; cut = refl; filled = λ h. absurd (cc); ended = e; shortest = alone seen s }, refl)
      by false e later k =
          let rest = later k in (
            s ∷ rest.0,
            record {
              left = rest.1.left;
              cut = ap (λ l. s ∷ l) rest.1.cut;
              filled = λ h. absurd (cc);
              ended = subst (λ (l : List Sample). ends l ≡ true) (append_assoc seen (s ∷ []) rest.0) rest.1.ended;
              shortest = one_before (λ back. back ≢ []) seen rest.0 s e rest.1.shortest;
            },
            rest.2 ∙ append_assoc seen (s ∷ []) rest.0,
          )
