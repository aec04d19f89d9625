-- The kind by the first byte.
use Rattle.std.proofs.Common.{ℕ, ◌==◌, cond, get_or, sym, ◌∙◌, ap}
use Rattle.cif_kinds.specs.declared.kinds.CommandKind.TheVariants as kind
use Rattle.cif_kinds.specs.Kinds.{kind_of}
use Rattle.cif_kinds.proofs.Standing.{kind_at, kind_known, kind_other}
use Rattle.cif_kinds.proofs.kinds.command_kind.Goals as goal

pub returns-then-byte-eq59 : goal.returns-then-byte-eq59
returns-then-byte-eq59 c = λ from end h.
    let k = kind_at c.args.text.now from c.args.first end h in
    kind_known (get_or c.args.text.now c.args.first 0) k.second 59 (kind_of h.here.command) c.if-byte-eq59.true k.kind_is

pub returns-then-byte-eq40 : goal.returns-then-byte-eq40
returns-then-byte-eq40 c = λ from end h.
    let k = kind_at c.args.text.now from c.args.first end h in
    kind_known (get_or c.args.text.now c.args.first 0) k.second 40 (kind_of h.here.command) c.if-byte-eq40.true k.kind_is

pub returns-then-byte-eq68 : goal.returns-then-byte-eq68
returns-then-byte-eq68 c = λ from end h.
    let k = kind_at c.args.text.now from c.args.first end h in
    let s = k.second_is c.if-byte-eq68.true in
    c.definition_kind.ensures s.1
    ∙ (ap (λ (n : ℕ). cond (n == 70) kind.Closes kind.Opens) (sym s.0)
    ∙ kind_known (get_or c.args.text.now c.args.first 0) k.second 68 (kind_of h.here.command) c.if-byte-eq68.true k.kind_is)

pub returns : goal.returns
returns c = λ from end h.
    let k = kind_at c.args.text.now from c.args.first end h in
    c.letter_kind.ensures
    ∙ kind_other (get_or c.args.text.now c.args.first 0) k.second (kind_of h.here.command) c.if-byte-eq59.false c.if-byte-eq40.false c.if-byte-eq68.false k.kind_is
