use Rattle.std.proofs.Common.{◌≡◌, ◌++◌}
use Rattle.std.specs.Prelude.{codes}
use Rattle.std.specs.Fmt.{decimal}
use Rattle.sim_probe.proofs.Dumps.{five_pieces}
use Rattle.sim_probe.proofs.waves.push_pad.Goals as goal

pub returns : goal.returns
returns c =
    let first : c.push_numbered.new.text.items ≡ c.args.text.now.items ++ codes "$var wire 1 p" ++ decimal c.args.pad =
    cc (c.in_ok-push_numbered.ensures, c.from.ensures) in
    let second : c.push_numbered-2.new.text.items ≡ c.push_numbered.new.text.items ++ codes " p" ++ decimal c.args.pad =
    cc (c.in_ok-push_numbered-2.ensures, c.from-2.ensures) in
    five_pieces _ (codes "$var wire 1 p") (decimal c.args.pad) (codes " p") (decimal c.args.pad) (codes " $end\n") _ _ _ first second
    c.in_ok-extend_from_slice.ensures.items
