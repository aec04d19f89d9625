-- By the text, or by the numbers.
use Rattle.std.proofs.Common.{◌≡◌, inl, inr, Bool, false, ◌||◌, refl, sym, ◌∙◌}
use Rattle.geom.specs.CifCommands.{Signed}
use Rattle.cif_codes.proofs.Bending.{near_lt, either_false, no_great}
use Rattle.cif_codes.proofs.bends.is_below.Goals as goal

pub returns-then-far : goal.returns-then-far
returns-then-far c = λ m a b h k. c.is_less.ensures h.stop k.stop (Signed a) (Signed b) h.behind k.behind refl refl h.parts k.parts

pub returns-else-far : goal.returns-else-far
returns-else-far c = λ m a b h k.
    let f = either_false c.is_great.result c.is_great-2.result (sym c.either-far.ensures ∙ c.if-far.false) in
    near_lt m a b c.args.one.value c.args.other.value c.requires.one.0 c.requires.other.0 h.stands k.stands
    (no_great m a c.args.one.value c.is_great.result h.stands c.is_great.ensures f.0)
    (no_great m b c.args.other.value c.is_great-2.result k.stands c.is_great-2.ensures f.1)
