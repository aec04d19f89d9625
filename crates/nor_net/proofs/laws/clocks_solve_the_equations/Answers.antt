use Rattle.nor_net.proofs.Solutions.{clock_solves}
use Rattle.nor_net.proofs.laws.clocks_solve_the_equations.Goals as goal

-- src/laws.rt
pub returns : goal.returns
returns c =
    λ netlist valid reset lines state sized.
    clock_solves c.clocked_logic_settles.ensures.as_logic c.clocked_logic_settles.ensures.settles netlist valid reset lines state sized
