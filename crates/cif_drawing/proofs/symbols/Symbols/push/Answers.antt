-- The new symbol is found by its number at the end.
use Rattle.std.proofs.Common.{rules, ◌≡◌, ◌==◌, ℕ, List, length, Some, None, cond, nat_eq, sym, ◌∙◌, ap, subst}
use Rattle.std.specs.HashMap.{get}
use Rattle.cif_drawing.specs.declared.ink.Symbol.{Symbol}
use Rattle.cif_drawing.specs.Numbers.{IsIndexOf}
use Rattle.cif_drawing.proofs.Indices.{pushed_index}
use Rattle.cif_drawing.proofs.symbols.Symbols.push.Goals as goal

pub invariant_of-self-in-Ok : goal.invariant_of-self-in-Ok
invariant_of-self-in-Ok c = λ n.
    let P : List Symbol → Type 0 = λ l. IsIndexOf l n (get nat_eq c.insert.new.self n) in
    let Q : List Symbol → Type 0 = λ l. IsIndexOf l c.args.symbol.number None in
    let e : c.len-index.result ≡ length c.self.inside.list.items = search rules in
    subst P (sym c.in_ok-push.ensures.items)
    (pushed_index c.self.inside.list.items c.args.symbol n (get nat_eq c.self.inside.indices n) (get nat_eq c.insert.new.self n) (subst Q (sym c.self.view_is) c.requires)
    (c.self.invariant n)
    (c.in-Ok.ensures.updates.0 n ∙ ap (λ (k : ℕ). cond (c.args.symbol.number == n) (Some k) (get nat_eq c.self.inside.indices n)) e))
