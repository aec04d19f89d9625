use Rattle.std.proofs.Common.{◌≡◌, ◌↔◌, ℕ, ◌+◌, ◌≤◌, List, length, map, refl, sym, subst, ◌∙◌}
use Rattle.rx_lang.specs.Specification.{Language}
use Rattle.rx_lang.specs.Tables.{specification}
use Rattle.rx_lang.specs.Vector.{Bits}
use Rattle.switch_net.specs.Recognition.{pad_names}
use Rattle.switch_net.specs.declared.network.Pad.{Pad}
use Rattle.nor_net.specs.Netlist.{Netlist, IsNetlist}
use Rattle.nor_net.specs.Clearing.{IsKnownByReset}
use Rattle.nor_net.specs.Recognised.{ShowsByClocks}
use Rattle.position_nfa.specs.Registers.{register_netlist}
use Rattle.position_nfa.specs.Runs.{ShowsByStates}
use Rattle.position_nfa.proofs.PadNames.{names_of_pads, few_nets}
use Rattle.position_nfa.proofs.Known.{is_known}
use Rattle.position_nfa.proofs.Shown.{shows, shows_language}
use Rattle.position_nfa.proofs.RegisterNetlist.{is_netlist}
use Rattle.position_nfa.proofs.netlist.register_net.Goals as goal

pub new-requires : goal.new-requires
new-requires c =
    rw (
      c.in_ok-gates.ensures.gates,
      c.part_nets.ensures,
      c.in_ok-transfers.ensures,
      c.in_ok-pads.ensures,
      c.in_ok-first.ensures,
      c.in_ok-second.ensures,
      c.in_ok-gates.ensures.terms,
      c.of-counts.ensures.counts,
    )
    (is_netlist c.args.nfa.now c.args.spec.now c.of-counts.ensures.automaton c.of-counts.ensures.specification)

-- what was made is the netlist of the registers
made : (c : goal.After-new) → c.new.result ≡ register_netlist c.args.nfa.now c.args.spec.now
made c =
    c.new.ensures
    ∙ rw (
      c.in_ok-gates.ensures.gates,
      c.part_nets.ensures,
      c.in_ok-transfers.ensures,
      c.in_ok-pads.ensures,
      c.in_ok-first.ensures,
      c.in_ok-second.ensures,
      c.in_ok-gates.ensures.terms,
      c.of-counts.ensures.counts,
    )
    refl

pub returns-clause-netlist : goal.returns-clause-netlist
returns-clause-netlist c = made c

pub returns-clause-states : goal.returns-clause-states
returns-clause-states c =
    subst (λ (net : Netlist). ShowsByClocks net (length c.args.spec.now.lines) (ShowsByStates c.args.nfa.now c.args.spec.now.symbols)) (sym (made c))
    (shows c.args.nfa.now c.args.spec.now c.of-counts.ensures.automaton c.of-counts.ensures.specification c.clocks_solve_the_equations.ensures)

pub returns-clause-shows : goal.returns-clause-shows
returns-clause-shows c =
    subst
    (λ (net : Netlist).
    ((y : ℕ) (u : List Bits) → ShowsByStates c.args.nfa.now c.args.spec.now.symbols y u ↔ Language (specification c.args.spec.now) y u)
    → ShowsByClocks net (length c.args.spec.now.lines) (Language (specification c.args.spec.now)))
    (sym (made c))
    (shows_language c.args.nfa.now c.args.spec.now c.of-counts.ensures.automaton c.of-counts.ensures.specification c.clocks_solve_the_equations.ensures)

pub returns-clause-pads : goal.returns-clause-pads
returns-clause-pads c =
    subst (λ (net : Netlist). map (λ (pad : Pad). pad.name) net.pads ≡ pad_names c.args.spec.now.lines c.args.spec.now.outputs) (sym (made c))
    (names_of_pads c.args.nfa.now c.args.spec.now)

pub returns-clause-few : goal.returns-clause-few
returns-clause-few c =
    subst (λ (net : Netlist). net.nets ≤ 16777216) (sym (made c)) (few_nets c.args.nfa.now c.args.spec.now c.of-counts.ensures.automaton c.of-counts.ensures.specification)

pub returns-clause-known : goal.returns-clause-known
returns-clause-known c =
    subst (λ (net : Netlist). IsKnownByReset net 1) (sym (made c)) (is_known c.args.nfa.now c.args.spec.now c.of-counts.ensures.automaton c.of-counts.ensures.specification)
