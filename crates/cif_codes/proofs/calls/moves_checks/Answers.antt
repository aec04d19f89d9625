-- One transformation after another.
use Rattle.std.proofs.Common.{ℕ, flat_map, subst}
use Rattle.geom.specs.CifCommands.{move_parts}
use Rattle.cif_values.specs.Values.{MoveStands}
use Rattle.cif_codes.specs.Scales.{ratio}
use Rattle.cif_codes.proofs.MoveCodes.{moves_begin, move_next, moves_more, moves_end}
use Rattle.cif_codes.proofs.calls.moves_checks.Goals as goal

pub loop-scale-init : goal.loop-scale-init
loop-scale-init c = record {
  place = c.requires.place;
  up_to = λ stop moves p. moves_begin (ratio c.args.scale) c.args.text.now stop moves c.args.at c.none.result (c.none.ensures (ratio c.args.scale)) p;
}

pub loop-scale-preserved : goal.loop-scale-preserved
loop-scale-preserved c = record {
  place = c.move_here-step.ensures.within;
  up_to = λ stop moves p. (
      let u = c.loop-scale.invariant.up_to stop moves p in
      let n = move_next c.args.text.now c.loop-scale.from stop u.rest u.parts (c.moves_stand.ensures.yes c.loop-scale-test.true stop u.rest u.parts) in
      let m = c.move_here-step.ensures.parts stop n.move (flat_map move_parts n.rest) n.parts in
      let P : ℕ → Type 0 = λ k. MoveStands k n.move c.move_here-step.result.0 in
      moves_more (ratio c.args.scale) c.args.text.now stop moves c.loop-scale.from c.move_here-step.result.1 c.loop-scale.found c.with_move-found.result u n m.1
      (c.with_move-found.ensures u.done n.move u.checked (subst P c.grid.ensures m.0)));
}

pub returns : goal.returns
returns c = λ stop moves p.
    let u = c.loop-scale.invariant.up_to stop moves p in
    moves_end (ratio c.args.scale) c.args.text.now stop moves c.loop-scale.from c.loop-scale.found u (c.moves_stand.ensures.no c.loop-scale-test.false stop u.rest u.parts)
