-- A block that is none of them does not stand among them.
use Rattle.std.proofs.Common.{refl, ◌∙◌, arith}
use Rattle.std.proofs.lemmas.List.{get_or_default}
use Rattle.tree_chip.proofs.Members.{among_at, contains_among}
use Rattle.tree_chip.proofs.kind_numbers.stands_among.Goals as goal

pub returns-then-same_block : goal.returns-then-same_block
returns-then-same_block c = (
  λ t. among_at c.args.places.now c.loop-at.at c.args.kind c.loop-at-test.true
      (λ d. get_or_default c.args.places.now c.loop-at.at d _ c.loop-at-test.true ∙ c.same_block.ensures.0 c.if-same_block.true),
  λ m. refl,
)

pub returns : goal.returns
returns c = (
  λ t. absurd (cc),
  λ m. let k = contains_among c.args.places.now c.args.kind m in
      let below = k.1 in
      absurd (c.loop-at.invariant k.0 c.args.kind (omega (arith, below, c.loop-at-test.false)) k.2),
)
