-- One column more.
use Rattle.std.proofs.Common.{◌≡◌, ◌+◌, ◌*◌, ◌++◌, ◌∷◌, [], append_assoc, sym, ap, ◌∙◌, arith}
use Rattle.std.proofs.lemmas.List.FromFn.{map-range_with_len_more}
use Rattle.pla_plan.specs.ArrayOf.{every_second}
use Rattle.pla_plan.proofs.array_plan.add_every_second.Goals as goal

pub loop-k-preserved : goal.loop-k-preserved
loop-k-preserved c =
    let first = c.args.first in
    let old = c.args.places.now.items in
    let k = c.loop-k.k in
    let here : 0 + k ≡ k = omega arith in
    c.in_ok-push.ensures.items ∙ ap (λ l. l ++ (first + 2 * k) ∷ []) c.loop-k.invariant
    ∙ append_assoc old (every_second first k) ((first + 2 * k) ∷ [])
    ∙ ap (λ l. old ++ l) (sym (map-range_with_len_more (λ j. first + 2 * j) 0 k k here))
