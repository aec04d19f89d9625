-- One column more.
use Rattle.std.proofs.Common.{◌≡◌, ◌+◌, ◌*◌, ◌++◌, ◌∷◌, [], sym, ap, ◌∙◌, arith}
use Rattle.std.proofs.lemmas.List.FromFn.{map-range_with_len_more}
use Rattle.pla_plan.proofs.plane_parts.right_places.Goals as goal

pub loop-term-preserved : goal.loop-term-preserved
loop-term-preserved c =
    let n = c.loop-term.term in
    let here : 0 + n ≡ n = omega arith in
    c.in_ok-push-2.ensures.items ∙ ap (λ l. l ++ (6 + 5 * n) ∷ []) c.loop-term.invariant
    ∙ ap (λ l. 2 ∷ l) (sym (map-range_with_len_more (λ term. 6 + 5 * term) 0 n n here))
