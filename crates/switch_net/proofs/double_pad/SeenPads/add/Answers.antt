use Rattle.std.proofs.Common.{◌∙◌, sym}
use Rattle.std.proofs.lemmas.Bool.{not-true, not-false}
use Rattle.switch_net.proofs.SeenPads.{among, by_net_alone, by_name_alone, one_more}
use Rattle.switch_net.proofs.double_pad.SeenPads.add.Goals as goal

pub returns-then-new_name-clause-new : goal.returns-then-new_name-clause-new
returns-then-new_name-clause-new c pads names nets =
    let pad = c.args.pad.now in
    let key = c.name_key.result in
    let name = names key ∙ among key pad.name c.name_key.ensures.role c.name_key.ensures.bytes pads in
    let new = not-true _ (sym c.in_ok-new_name.ensures.added ∙ c.if-new_name.true) in
    c.in_ok-new_net.ensures.added ∙ by_net_alone pads pad _ _ name (nets pad.net.0) new

pub returns-then-new_name-clause-names : goal.returns-then-new_name-clause-names
returns-then-new_name-clause-names c =
    one_more c.name_key.result c.args.pad.now c.name_key.ensures.equal _ _ c.in_ok-new_name.ensures.updates.0

pub returns-else-new_name-clause-new : goal.returns-else-new_name-clause-new
returns-else-new_name-clause-new c pads names nets =
    let pad = c.args.pad.now in
    let key = c.name_key.result in
    let name = names key ∙ among key pad.name c.name_key.ensures.role c.name_key.ensures.bytes pads in
    let old = not-false _ (sym c.in_ok-new_name.ensures.added ∙ c.if-new_name.false) in
    c.if-new_name.false ∙ by_name_alone pads pad _ _ name (nets pad.net.0) old

pub returns-else-new_name-clause-names : goal.returns-else-new_name-clause-names
returns-else-new_name-clause-names c =
    one_more c.name_key.result c.args.pad.now c.name_key.ensures.equal _ _ c.in_ok-new_name.ensures.updates.0
