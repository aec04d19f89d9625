use Rattle.std.proofs.Common.{◌≡◌, ◌+◌, ◌++◌, ◌∷◌, [], ℕ, List, Bool, Result, Ok, Err, length, ap, ◌∙◌, subst, sym, arith, length-append}
use Rattle.std.specs.Prelude.{OnOk}
use Rattle.switch_sim.specs.TraceCuts.{cut, AreEnds}
use Rattle.switch_sim.specs.TraceReading.{TakesVector}
use Rattle.switch_sim.proofs.Cuts.{ends_more, cut_more}
use Rattle.switch_sim.proofs.trace.push_vector.Goals as goal

taken : {A E : Type 0} (result : Result A E) (ends new : List ℕ) (bits more vector : List Bool) (end : ℕ) → AreEnds 0 ends bits
    → more ≡ bits ++ vector → end ≡ length more → OnOk result (new ≡ ends ++ end ∷ []) → OnOk result (TakesVector ends bits new more vector)
taken (Err e) ends new bits more vector end cuts longer is added = tt
taken (Ok x) ends new bits more vector end cuts longer is added =
    let sum : end ≡ 0 + length bits + length vector =
    let total = is ∙ ap length longer ∙ length-append bits vector in omega arith in
    let size = ap length added ∙ length-append ends (end ∷ []) in
    record {
      cuts = subst (λ es. AreEnds 0 es more) (sym added) (subst (AreEnds 0 (ends ++ end ∷ [])) (sym longer) (ends_more 0 ends bits vector end sum cuts));
      vectors = ap (λ es. cut 0 es more) added ∙ ap (cut 0 (ends ++ end ∷ [])) longer ∙ cut_more 0 ends bits vector end sum cuts;
      count = size;
    }

pub returns : goal.returns
returns c =
    taken c.push_end.result _ _ _ _ _ _ c.requires c.in_ok-push_bits.ensures (c.count_of_bits.ensures ∙ ap length c.deref.ensures.value) c.push_end.ensures
