-- A front, and a name behind it.
use Rattle.std.proofs.Common.{◌++◌, is_some, ◌∙◌, ap}
use Rattle.rx_text.specs.Name.{is_name}
use Rattle.cif_labels.proofs.PadNames.{front_is, no_front, if_some}
use Rattle.cif_labels.proofs.pads.name_behind.Goals as goal

pub returns-in-Some-clause-some : goal.returns-in-Some-clause-some
returns-in-Some-clause-some c =
    let k = c.in-Some.ensures.cases in
    if_some c.new.result _ _ c.new.ensures.bytes (λ x e p. (
      ap is_name p ∙ c.new.ensures.name.0 (ap is_some e),
      ap (λ l. c.args.front.now ++ l) p ∙ front_is c.args.word.now c.args.front.now c.in-Some.rest.now k.0 k.1,
    ))

pub returns-in-None-clause-none : goal.returns-in-None-clause-none
returns-in-None-clause-none c = λ n name h e. no_front c.args.word.now c.args.front.now name c.in-None.ensures.cases e
