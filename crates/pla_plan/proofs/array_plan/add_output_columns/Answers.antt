-- Two columns more.
use Rattle.std.specs.Prelude.{flat_map}
use Rattle.std.proofs.Common.{◌≡◌, ◌+◌, ◌*◌, ◌++◌, ◌∷◌, [], append_assoc, sym, ap, ◌∙◌, arith}
use Rattle.std.specs.List.{range_with_len}
use Rattle.pla_plan.specs.ArrayOf.{output_columns}
use Rattle.pla_plan.proofs.Pieces.{piece_more}
use Rattle.pla_plan.proofs.array_plan.add_output_columns.Goals as goal

pub loop-y-preserved : goal.loop-y-preserved
loop-y-preserved c =
    let first = c.args.first in
    let old = c.args.places.now.items in
    let y = c.loop-y.y in
    let before = flat_map (output_columns first) (range_with_len 0 y) in
    let here : 0 + y ≡ y = omega arith in
    c.in_ok-push-2.ensures.items ∙ ap (λ l. l ++ (first + 8 * y + 4) ∷ []) (c.in_ok-push.ensures.items ∙ ap (λ l. l ++ (first + 8 * y + 2) ∷ []) c.loop-y.invariant)
    ∙ append_assoc (old ++ before) ((first + 8 * y + 2) ∷ []) ((first + 8 * y + 4) ∷ [])
    ∙ append_assoc old before (output_columns first y)
    ∙ ap (λ l. old ++ l) (sym (piece_more (output_columns first) 0 y y here))
