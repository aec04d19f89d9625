use Rattle.std.proofs.Common.{[], ◌++◌}
use Rattle.position_nfa.proofs.ArrayOuts.{part_outs_apart}
use Rattle.position_nfa.proofs.RegisterNetlist.{is_part}
use Rattle.position_nfa.proofs.array_part.array_part.Goals as goal

pub new-requires-2 : goal.new-requires-2
new-requires-2 c =
    rw (
      c.part_nets-nets.ensures,
      c.ground_net.ensures,
      c.phi1_net.ensures,
      c.phi2_net.ensures,
      c.in_ok-loads.ensures,
      c.deref.ensures.value,
      c.in_ok-add_part_gates.ensures,
      c.new-gates.ensures.items,
      c.in_ok-transfers.ensures,
      c.new.ensures.items,
    )
    (is_part c.args.counts c.requires (part_outs_apart c.args.counts 0))
