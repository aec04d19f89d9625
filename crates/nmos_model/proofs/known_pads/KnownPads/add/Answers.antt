use Rattle.std.proofs.Common.{◌∙◌, sym}
use Rattle.std.proofs.lemmas.Bool.{not-true, not-false}
use Rattle.nmos_model.proofs.KnownPads.{known_agrees, known_clashes, new_clashes, new_added, more_names, more_nets}
use Rattle.nmos_model.proofs.known_pads.KnownPads.add.Goals as goal

pub returns-in-Some-clause-added : goal.returns-in-Some-clause-added
returns-in-Some-clause-added c =
    let key = c.name_key-key.ensures in
    known_agrees c.args.self.now.names c.args.self.now.pads.items c.requires.names c.args.pad.now c.name_key-key.result key.role key.bytes c.in-Some.net (c.in-Some.ensures ∙ c.get.ensures.value)

pub returns-in-Some-clause-clash : goal.returns-in-Some-clause-clash
returns-in-Some-clause-clash c =
    let key = c.name_key-key.ensures in
    known_clashes c.args.self.now.names c.args.self.now.pads.items c.requires.names c.args.pad.now c.name_key-key.result key.role key.bytes c.in-Some.net (c.in-Some.ensures ∙ c.get.ensures.value)

pub returns-then-not-branch-clause-clash : goal.returns-then-not-branch-clause-clash
returns-then-not-branch-clause-clash c = λ _.
    let key = c.name_key-key.ensures in
    new_clashes c.args.self.now.names c.args.self.now.pads.items c.requires.names c.args.pad.now c.name_key-key.result key.role key.bytes (c.in_default.ensures ∙ c.get.ensures.value)
    (sym (c.requires.nets c.args.pad.now.net.0) ∙ not-false _ (sym c.in_ok-insert.ensures.added ∙ c.if-not-branch.true))

pub returns-clause-added : goal.returns-clause-added
returns-clause-added c = λ _.
    let key = c.name_key-key.ensures in
    new_added c.args.self.now.names c.args.self.now.pads.items c.requires.names c.args.pad.now c.name_key-key.result key.role key.bytes (c.in_default.ensures ∙ c.get.ensures.value)
    (sym (c.requires.nets c.args.pad.now.net.0) ∙ not-true _ (sym c.in_ok-insert.ensures.added ∙ c.if-not-branch.false)) _ c.in_ok-push.ensures.items

pub returns-clause-known : goal.returns-clause-known
returns-clause-known c = λ _.
    let key = c.name_key-key.ensures in
    record {
      names = more_names c.args.self.now.names c.args.self.now.pads.items c.requires.names c.args.pad.now c.name_key-key.result key.role key.bytes
          (c.in_default.ensures ∙ c.get.ensures.value) key.equal c.insert-2.new.self _ c.in_ok-insert-2.ensures.updates.0 c.in_ok-push.ensures.items;
      nets = more_nets c.args.self.now.nets c.insert.new.self c.args.self.now.pads.items c.args.pad.now _ c.in_ok-insert.ensures.updates.0 c.requires.nets
          c.in_ok-push.ensures.items;
    }
