use Rattle.std.proofs.Common.{IfSome, Option, None, Some}
use Rattle.nmos_model.proofs.Frames.{side_across, side_upward, narrow, framed_frame}
use Rattle.nmos_model.proofs.frame.frame_of.Goals as goal

pub framed-requires-clause-across : goal.framed-requires-clause-across
framed-requires-clause-across c = side_across c.args.boxes.now c.in-Some.extent c.in-Some.ensures.some c.least_extent.ensures.valid

pub framed-requires-clause-upward : goal.framed-requires-clause-upward
framed-requires-clause-upward c = side_upward c.args.boxes.now c.in-Some.extent c.in-Some.ensures.some c.least_extent.ensures.valid

mapped : {X : Type 0} (P Q : X → Type 0) (o : Option X) → ((x : X) → P x → Q x) → IfSome o P → IfSome o Q
mapped P Q None f h = h
mapped P Q (Some x) f h = f x h

pub returns-in-Some-clause-frame : goal.returns-in-Some-clause-frame
returns-in-Some-clause-frame c =
    let least = c.in-Some.ensures.some in
    mapped _ _ c.framed.result
    (λ frame framed. framed_frame c.args.boxes.now c.in-Some.extent least frame (side_across _ _ least c.least_extent.ensures.valid)
    (side_upward _ _ least c.least_extent.ensures.valid) framed)
    c.framed.ensures.framed

pub returns-in-Some-clause-narrow : goal.returns-in-Some-clause-narrow
returns-in-Some-clause-narrow c =
    mapped _ _ c.framed.result (λ frame framed. narrow c.args.boxes.now c.in-Some.extent c.in-Some.ensures.some frame framed) c.framed.ensures.framed
