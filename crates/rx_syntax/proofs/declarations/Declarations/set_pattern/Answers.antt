use Rattle.std.proofs.Common.{◌∙◌, sym, ap, length, arith}
use Rattle.rx_syntax.specs.NameTables.{names_of}
use Rattle.rx_syntax.proofs.LastPattern.{names_with_pattern, length-with_pattern}
use Rattle.rx_syntax.proofs.declarations.Declarations.set_pattern.Goals as goal

pub invariant_of-self : goal.invariant_of-self
invariant_of-self c =
    let symbols = c.self.inside.symbols.items in
    let pattern = c.args.pattern.items in
    let before = c.self.invariant in
    let few = before.few_symbols in
    let is = c.set_last_pattern.ensures in
    let names = names_with_pattern pattern symbols in
    let size = ap length is ∙ length-with_pattern pattern symbols in
    record {
      names = before.names ∙ sym (ap names_of is ∙ names);
      few_symbols = omega (arith, size, few);
      few_outputs = before.few_outputs;
    }
