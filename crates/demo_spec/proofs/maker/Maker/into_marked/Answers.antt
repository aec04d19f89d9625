use Rattle.std.proofs.Common.{◌≡◌, List, length, ap, ◌∙◌}
use Rattle.std.specs.Prelude.{reverse}
use Rattle.rx_lang.specs.Expression.{Expr}
use Rattle.demo_spec.specs.Generator.{marked_entry, on_top}
use Rattle.demo_spec.specs.Piles.{Made, Piled, piled, signed, stack_of}
use Rattle.demo_spec.specs.declared.sign.Sign.TheVariants as sign
use Rattle.demo_spec.proofs.Makings.{length-stack, marked_one}
use Rattle.demo_spec.proofs.Whole.{as_stacked, marked_top}
use Rattle.demo_spec.proofs.maker.Maker.into_marked.Goals as goal

-- src/maker.rt
pub returns-clause-pile : goal.returns-clause-pile
returns-clause-pile c =
    let parts = c.into_parts.result in
    let stack : List Expr = stack_of c.args.self.pile in
    let same : c.self.inside.pile ≡ c.args.self.pile = ap (λ (m : Made). m.pile) c.self.view_is in
    let one : length stack ≡ 1 = length-stack c.args.self.pile ∙ c.requires in
    let made : piled parts.0.items (reverse parts.1.items) ≡ marked_entry stack =
    ap (λ nodes. piled nodes (reverse parts.1.items)) c.into_parts.ensures.nodes
    ∙ ap (λ numbers. piled c.in_ok-pile.pile.nodes numbers) c.into_parts.ensures.numbers
    ∙ c.in_ok-pile.ensures.stack ∙ ap (λ (pile : Piled). on_top (signed (sign.Marked 0)) (stack_of pile)) same ∙ marked_top stack one in
    (as_stacked parts.0.items parts.1.items (marked_entry stack) (marked_one stack one) made c.into_parts.ensures.pile).0

pub returns-clause-stack : goal.returns-clause-stack
returns-clause-stack c =
    let parts = c.into_parts.result in
    let stack : List Expr = stack_of c.args.self.pile in
    let same : c.self.inside.pile ≡ c.args.self.pile = ap (λ (m : Made). m.pile) c.self.view_is in
    let one : length stack ≡ 1 = length-stack c.args.self.pile ∙ c.requires in
    let made : piled parts.0.items (reverse parts.1.items) ≡ marked_entry stack =
    ap (λ nodes. piled nodes (reverse parts.1.items)) c.into_parts.ensures.nodes
    ∙ ap (λ numbers. piled c.in_ok-pile.pile.nodes numbers) c.into_parts.ensures.numbers
    ∙ c.in_ok-pile.ensures.stack ∙ ap (λ (pile : Piled). on_top (signed (sign.Marked 0)) (stack_of pile)) same ∙ marked_top stack one in
    (as_stacked parts.0.items parts.1.items (marked_entry stack) (marked_one stack one) made c.into_parts.ensures.pile).1
