-- The bytes of the name.
use Rattle.std.proofs.Common.{ap, ◌∙◌}
use Rattle.geom.specs.CifLabels.{layer_named}
use Rattle.cif_kinds.proofs.Names.{name_at, name_there}
use Rattle.cif_kinds.proofs.layers.layer_here.Goals as goal

pub returns : goal.returns
returns c = λ from end h name e.
    c.layer_named.ensures
    ∙ ap layer_named
    (name_there c.args.text.now c.args.first c.skip_blanks-from.result c.behind_name-to.result name (name_at c.args.text.now from c.args.first end h name e)
    c.skip_blanks-from.ensures.place c.behind_name-to.ensures.place)
