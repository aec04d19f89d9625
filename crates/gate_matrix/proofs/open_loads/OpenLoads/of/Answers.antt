-- The marks begin with the loads of the part.
use Rattle.std.proofs.Common.{◌≡◌, ◌∙◌, ◌^◌, ◌||◌, ◌==◌, Bool, false, length, get_or, ap, arith}
use Rattle.std.specs.List.{list_any}
use Rattle.std.proofs.Math.ListN.{replicate}
use Rattle.std.proofs.lemmas.List.{get_or-replicate, length-replicate}
use Rattle.gate_matrix.proofs.OpenedLoads.{first_open}
use Rattle.gate_matrix.proofs.open_loads.OpenLoads.of.Goals as goal

pub returns : goal.returns
returns c =
    let size = length-replicate {A = Bool} 65536 false in
    let long : length c.mark.new.marks ≡ 2 ^ 16 = omega (arith, size) in
    first_open c.args.part.now c.mark.new.marks (replicate 65536 false) long (λ net h. get_or-replicate 65536 net false false h)
    (λ net h. c.mark.ensures net (omega (arith, size, long, h))
    ∙ ap (λ l. list_any (λ one. one == net) l || get_or (replicate 65536 false) net false) c.loads.ensures.loads)
