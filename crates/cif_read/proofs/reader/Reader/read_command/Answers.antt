-- The command is done as its kind asks.
use Rattle.std.proofs.Common.{sym, ◌∙◌}
use Rattle.std.proofs.lemmas.Result.{on_ok_weaker, IfErr-weaker}
use Rattle.cif_read.specs.States.{state_of}
use Rattle.cif_read.proofs.Drawn.{kept}
use Rattle.cif_read.proofs.reader.Reader.read_command.Goals as goal

pub open-requires-clause-command : goal.open-requires-clause-command
open-requires-clause-command c = (
  c.args.end,
  record {
    from = c.requires.stands.0;
    stands = c.requires.stands.1;
    kind_is = sym (c.command_kind.ensures c.requires.stands.0 c.args.end c.requires.stands.1) ∙ c.in-Opens.is;
  },
)

pub returns-in-Opens-clause-read : goal.returns-in-Opens-clause-read
returns-in-Opens-clause-read c =
    on_ok_weaker c.open.result (λ read from h. read c.args.end (record {
      from = from;
      stands = h;
      kind_is = sym
          (c.command_kind.ensures from c.args.end h) ∙ c.in-Opens.is;
    }) c.args.place) c.open.ensures.read

pub returns-in-Opens-clause-fault : goal.returns-in-Opens-clause-fault
returns-in-Opens-clause-fault c =
    IfErr-weaker c.open.result _ _ (λ y faulty from h. faulty c.args.end (record {
      from = from;
      stands = h;
      kind_is = sym
          (c.command_kind.ensures from c.args.end h) ∙ c.in-Opens.is;
    })) c.open.ensures.fault

pub returns-in-Closes-clause-read : goal.returns-in-Closes-clause-read
returns-in-Closes-clause-read c =
    on_ok_weaker c.close.result (λ read from h. read c.args.text.now c.args.first c.args.end (record {
      from = from;
      stands = h;
      kind_is = sym
          (c.command_kind.ensures from c.args.end h) ∙ c.in-Closes.is;
    }) c.args.place) c.close.ensures.read

pub returns-in-Closes-clause-fault : goal.returns-in-Closes-clause-fault
returns-in-Closes-clause-fault c =
    IfErr-weaker c.close.result _ _ (λ y faulty from h. faulty c.args.text.now c.args.first c.args.end
    (record { from = from; stands = h; kind_is = sym (c.command_kind.ensures from c.args.end h) ∙ c.in-Closes.is })) c.close.ensures.fault

pub call-requires-clause-command : goal.call-requires-clause-command
call-requires-clause-command c = (
  c.args.end,
  record {
    from = c.requires.stands.0;
    stands = c.requires.stands.1;
    kind_is = sym (c.command_kind.ensures c.requires.stands.0 c.args.end c.requires.stands.1) ∙ c.in-Calls.is;
  },
)

pub returns-in-Calls-clause-read : goal.returns-in-Calls-clause-read
returns-in-Calls-clause-read c =
    on_ok_weaker c.call.result (λ read from h. read c.args.end (record {
      from = from;
      stands = h;
      kind_is = sym
          (c.command_kind.ensures from c.args.end h) ∙ c.in-Calls.is;
    })) c.call.ensures.read

pub returns-in-Calls-clause-fault : goal.returns-in-Calls-clause-fault
returns-in-Calls-clause-fault c =
    IfErr-weaker c.call.result _ _ (λ y faulty from h. faulty c.args.end (record {
      from = from;
      stands = h;
      kind_is = sym
          (c.command_kind.ensures from c.args.end h) ∙ c.in-Calls.is;
    })) c.call.ensures.fault

pub set_layer-requires-clause-command : goal.set_layer-requires-clause-command
set_layer-requires-clause-command c = (
  c.args.end,
  record {
    from = c.requires.stands.0;
    stands = c.requires.stands.1;
    kind_is = sym (c.command_kind.ensures c.requires.stands.0 c.args.end c.requires.stands.1) ∙ c.in-Layer.is;
  },
)

pub returns-in-Layer-clause-read : goal.returns-in-Layer-clause-read
returns-in-Layer-clause-read c =
    on_ok_weaker c.set_layer.result (λ read from h. read c.args.end (record {
      from = from;
      stands = h;
      kind_is = sym
          (c.command_kind.ensures from c.args.end h) ∙ c.in-Layer.is;
    }) c.args.place) c.set_layer.ensures.read

pub returns-in-Layer-clause-fault : goal.returns-in-Layer-clause-fault
returns-in-Layer-clause-fault c =
    IfErr-weaker c.set_layer.result _ _ (λ y faulty from h. faulty c.args.end (record {
      from = from;
      stands = h;
      kind_is = sym
          (c.command_kind.ensures from c.args.end h) ∙ c.in-Layer.is;
    })) c.set_layer.ensures.fault

pub draw_box-requires-clause-command : goal.draw_box-requires-clause-command
draw_box-requires-clause-command c = (
  c.args.end,
  record {
    from = c.requires.stands.0;
    stands = c.requires.stands.1;
    kind_is = sym (c.command_kind.ensures c.requires.stands.0 c.args.end c.requires.stands.1) ∙ c.in-Box.is;
  },
)

pub returns-in-Box-clause-read : goal.returns-in-Box-clause-read
returns-in-Box-clause-read c =
    on_ok_weaker c.draw_box.result (λ read from h. read c.args.end (record {
      from = from;
      stands = h;
      kind_is = sym
          (c.command_kind.ensures from c.args.end h) ∙ c.in-Box.is;
    })) c.draw_box.ensures.read

pub returns-in-Box-clause-fault : goal.returns-in-Box-clause-fault
returns-in-Box-clause-fault c =
    IfErr-weaker c.draw_box.result _ _ (λ y faulty from h. faulty c.args.end (record {
      from = from;
      stands = h;
      kind_is = sym
          (c.command_kind.ensures from c.args.end h) ∙ c.in-Box.is;
    })) c.draw_box.ensures.fault

pub draw_polygon-requires-clause-command : goal.draw_polygon-requires-clause-command
draw_polygon-requires-clause-command c = (
  c.args.end,
  record {
    from = c.requires.stands.0;
    stands = c.requires.stands.1;
    kind_is = sym (c.command_kind.ensures c.requires.stands.0 c.args.end c.requires.stands.1) ∙ c.in-Polygon.is;
  },
)

pub returns-in-Polygon-clause-read : goal.returns-in-Polygon-clause-read
returns-in-Polygon-clause-read c =
    on_ok_weaker c.draw_polygon.result (λ read from h. read c.args.end (record {
      from = from;
      stands = h;
      kind_is = sym
          (c.command_kind.ensures from c.args.end h) ∙ c.in-Polygon.is;
    })) c.draw_polygon.ensures.read

pub returns-in-Polygon-clause-fault : goal.returns-in-Polygon-clause-fault
returns-in-Polygon-clause-fault c =
    IfErr-weaker c.draw_polygon.result _ _ (λ y faulty from h. faulty c.args.end (record {
      from = from;
      stands = h;
      kind_is = sym
          (c.command_kind.ensures from c.args.end h) ∙ c.in-Polygon.is;
    })) c.draw_polygon.ensures.fault

pub draw_wire-requires-clause-command : goal.draw_wire-requires-clause-command
draw_wire-requires-clause-command c = (
  c.args.end,
  record {
    from = c.requires.stands.0;
    stands = c.requires.stands.1;
    kind_is = sym (c.command_kind.ensures c.requires.stands.0 c.args.end c.requires.stands.1) ∙ c.in-Wire.is;
  },
)

pub returns-in-Wire-clause-read : goal.returns-in-Wire-clause-read
returns-in-Wire-clause-read c =
    on_ok_weaker c.draw_wire.result (λ read from h. read c.args.end (record {
      from = from;
      stands = h;
      kind_is = sym
          (c.command_kind.ensures from c.args.end h) ∙ c.in-Wire.is;
    })) c.draw_wire.ensures.read

pub returns-in-Wire-clause-fault : goal.returns-in-Wire-clause-fault
returns-in-Wire-clause-fault c =
    IfErr-weaker c.draw_wire.result _ _ (λ y faulty from h. faulty c.args.end (record {
      from = from;
      stands = h;
      kind_is = sym
          (c.command_kind.ensures from c.args.end h) ∙ c.in-Wire.is;
    })) c.draw_wire.ensures.fault

pub put_label-requires-clause-command : goal.put_label-requires-clause-command
put_label-requires-clause-command c =
    record {
      from = c.requires.stands.0;
      stands = c.requires.stands.1;
      kind_is = sym (c.command_kind.ensures c.requires.stands.0 c.args.end c.requires.stands.1) ∙ c.in-Extension.is;
    }

pub returns-in-Extension-clause-read : goal.returns-in-Extension-clause-read
returns-in-Extension-clause-read c =
    on_ok_weaker c.put_label.result (λ read from h. read (record {
      from = from;
      stands = h;
      kind_is = sym
          (c.command_kind.ensures from c.args.end h) ∙ c.in-Extension.is;
    }) c.args.place) c.put_label.ensures.read

pub returns-in-Extension-clause-fault : goal.returns-in-Extension-clause-fault
returns-in-Extension-clause-fault c =
    IfErr-weaker c.put_label.result _ _ (λ y faulty from h. faulty (record {
      from = from;
      stands = h;
      kind_is = sym
          (c.command_kind.ensures from c.args.end h) ∙ c.in-Extension.is;
    })) c.put_label.ensures.fault

pub returns-in-Empty-clause-read : goal.returns-in-Empty-clause-read
returns-in-Empty-clause-read c from h =
    kept c.args.self.now c.args.place h.here.command c.requires.reader
    (c.others_lead_on.ensures.empty (state_of c.args.self.now) c.args.text.now c.args.first c.args.end
    (record { from = from; stands = h; kind_is = sym (c.command_kind.ensures from c.args.end h) ∙ c.in-Empty.is }))

pub returns-in-Comment-clause-read : goal.returns-in-Comment-clause-read
returns-in-Comment-clause-read c from h =
    kept c.args.self.now c.args.place h.here.command c.requires.reader
    (c.others_lead_on.ensures.comment (state_of c.args.self.now) c.args.text.now c.args.first c.args.end
    (record { from = from; stands = h; kind_is = sym (c.command_kind.ensures from c.args.end h) ∙ c.in-Comment.is }))
