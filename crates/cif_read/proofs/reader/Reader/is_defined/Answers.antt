-- It is closed, or open.
use Rattle.std.proofs.Common.{◌≡◌, ◌==◌, ◌||◌, Bool, sym, ◌∙◌, ap}
use Rattle.std.specs.List.{list_any}
use Rattle.geom.specs.CifCodes.{is_opened}
use Rattle.cif_read.specs.States.{opening_of}
use Rattle.cif_read.proofs.States.{found_any}
use Rattle.cif_read.proofs.reader.Reader.is_defined.Goals as goal

pub returns-then-closed : goal.returns-then-closed
returns-then-closed c =
    let old = c.args.self.now in
    let any : c.is_defined-closed.result ≡ list_any (λ symbol. symbol.number == c.args.number) old.builder.symbols =
    c.is_defined-closed.ensures ∙ found_any (λ symbol. symbol.number == c.args.number) old.builder.symbols in
    c.if-closed.true ∙ ap (λ (t : Bool). t || is_opened (opening_of old.builder.opening old.opening) c.args.number) (sym c.if-closed.true ∙ any)

pub returns-else-closed : goal.returns-else-closed
returns-else-closed c =
    let old = c.args.self.now in
    let any : c.is_defined-closed.result ≡ list_any (λ symbol. symbol.number == c.args.number) old.builder.symbols =
    c.is_defined-closed.ensures ∙ found_any (λ symbol. symbol.number == c.args.number) old.builder.symbols in
    c.is_opened-open.ensures ∙ ap (λ (t : Bool). t || is_opened (opening_of old.builder.opening old.opening) c.args.number)
    (sym c.if-closed.false ∙ any)
