-- One transformation after another.
use Rattle.std.proofs.Common.{◌≡◌, List, [], flat_map, sym, subst}
use Rattle.geom.specs.CifCommands.{move_parts}
use Rattle.geom.specs.Rows.{Among}
use Rattle.cif_codes.specs.Scales.{ratio}
use Rattle.cif_drawing.specs.declared.placement.Step.{Step}
use Rattle.cif_figures.proofs.Stepping.{MovesLeft, moves_begin, moves_next, moves_more, moves_end, next_drawn, steps_near}
use Rattle.cif_figures.proofs.calls.steps.Goals as goal

pub loop-scale-init : goal.loop-scale-init
loop-scale-init c =
    let e : c.new-steps.result.items ≡ [] = c.new-steps.ensures.items in
    record {
      place = c.requires.place;
      left = λ moves h. (
          let P : List Step → Type 0 = λ l. MovesLeft c.args.text.now c.args.scale h.stop moves c.args.at l in
          subst P (sym e) (moves_begin c.args.text.now c.args.scale moves c.args.at h));
      near = λ step m. (let P : List Step → Type 0 = λ l. Among l step in absurd (subst P e m));
    }

pub step_of-requires-clause-drawn : goal.step_of-requires-clause-drawn
step_of-requires-clause-drawn c =
    let moves = c.requires.clear.0 in
    let h = c.requires.clear.1 in
    let u = c.loop-scale.invariant.left moves h in
    let n = moves_next c.args.text.now c.args.scale h.stop moves c.loop-scale.from c.loop-scale.steps.items u
    (c.moves_stand.ensures.yes c.loop-scale-test.true h.stop u.rest u.parts) in
    let m = c.move_here-step.ensures.parts h.stop n.move (flat_map move_parts n.rest) n.parts in
    next_drawn (ratio c.args.scale) _ n.move c.move_here-step.result.0 n.here m.0 c.move_here-step.ensures.near

pub loop-scale-preserved : goal.loop-scale-preserved
loop-scale-preserved c = record {
  place = c.move_here-step.ensures.within;
  left = λ moves h. (
      let u = c.loop-scale.invariant.left moves h in
      let n = moves_next c.args.text.now c.args.scale h.stop moves c.loop-scale.from c.loop-scale.steps.items u
      (c.moves_stand.ensures.yes c.loop-scale-test.true h.stop u.rest u.parts) in
      let m = c.move_here-step.ensures.parts h.stop n.move (flat_map move_parts n.rest) n.parts in
      moves_more c.args.text.now c.args.scale h.stop moves c.loop-scale.from c.move_here-step.result.1 c.loop-scale.steps.items
      c.push.new.self.items c.step_of.result n m.1 (c.step_of.ensures.step _ n.move m.0 n.here.few) c.in_ok-push.ensures.items);
  near =
      steps_near c.loop-scale.steps.items c.push.new.self.items c.step_of.result c.loop-scale.invariant.near c.step_of.ensures.near
      c.in_ok-push.ensures.items;
}

pub returns : goal.returns
returns c = record {
  steps = λ moves h. (
      let u = c.loop-scale.invariant.left moves h in
      moves_end c.args.text.now c.args.scale h.stop moves c.loop-scale.from c.loop-scale.steps.items u
      (c.moves_stand.ensures.no c.loop-scale-test.false h.stop u.rest u.parts));
  near = c.loop-scale.invariant.near;
}
