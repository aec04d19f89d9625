use Rattle.std.proofs.Common.{◌≡◌, ◌-◌, suc, ◌∙◌, length, sym, ap, arith, vec_len}
use Rattle.rx_lang.specs.Specification.{NamedPattern}
use Rattle.rx_syntax.proofs.LastPattern.{set_last}
use Rattle.rx_syntax.proofs.declarations.set_last_pattern.Goals as goal

pub returns-in-Some : goal.returns-in-Some
returns-in-Some c =
    let symbols = c.args.symbols.now in
    let place = vec_len symbols - 1 in
    let size : length symbols.items ≡ suc place = grind (arith, c.in-Some.ensures.item) in
    let name = ap (λ (s : NamedPattern). s.name) (sym c.in-Some.ensures.value ∙ sym c.symbol.view_is) in
    set_last c.args.pattern.items symbols.items c.symbol.inside.name c.in-Some.symbol.now place size name
