use Rattle.std.proofs.Common.{true, refl, subst, ◌∙◌}
use Rattle.std.proofs.lemmas.Result.{on_ok_weaker}
use Rattle.block_grid.specs.Sheets.{IsSheet}
use Rattle.channel_route.proofs.Rooms.{SheetLaws}
use Rattle.channel_route.proofs.Drawings.{heavy_may, heavy_now, turns_now, drawn_now, may_same}
use Rattle.channel_route.proofs.drawing.draw_heavy.Goals as goal

pub lay_turns-requires : goal.lay_turns-requires
lay_turns-requires c =
    let k : SheetLaws = record {
      rows_kept = c.insertion_lengthens_bundles.ensures.rows_kept;
      cols_kept = c.insertion_lengthens_bundles.ensures.cols_kept;
      rows_new = c.insertion_lengthens_bundles.ensures.rows_new;
      cols_new = c.insertion_lengthens_bundles.ensures.cols_new;
      moved_rows = c.insertion_moves_nodes.ensures.rows;
      moved_cols = c.insertion_moves_nodes.ensures.cols;
      inside = c.nodes_stand_apart.ensures.inside;
      apart = c.nodes_stand_apart.ensures.apart;
      east_rim = c.rims_are_uncrossed.ensures.east;
      east_port = c.open_ports_are_uncrossed.ensures.east;
      south_port = c.open_ports_are_uncrossed.ensures.south;
      north_port = c.open_ports_are_uncrossed.ensures.north;
    } in
    let now = heavy_now c.args.blocks.now c.args.parent c.args.child c.insert_col.new.self c.insert_row.new.self _ _ c.place_in-start.ensures.place
    c.insert_col.ensures.inserted c.place_in-finish.ensures.place c.insert_row.ensures.inserted in
    may_same _ _ c.args.parent c.args.child _ _ now.1
    (turns_now c.args.blocks.now c.args.parent c.args.child true _ _ _ _ 0 _ now.1 c.place_in-start-2.ensures.place c.place_in-finish-2.ensures.place c.heavy_turns-turns.ensures refl)
    (heavy_may k c.args.blocks.now c.args.parent c.args.child c.requires.differ c.requires.parent_stands c.requires.child_stands c.requires.in_open
    c.place_in-start.ensures.sheet c.requires.out_open (subst IsSheet now.0 c.place_in-finish.ensures.sheet) (subst IsSheet now.1 c.place_in-start-2.ensures.sheet))

pub returns : goal.returns
returns c =
    let now = heavy_now c.args.blocks.now c.args.parent c.args.child c.insert_col.new.self c.insert_row.new.self _ _ c.place_in-start.ensures.place
    c.insert_col.ensures.inserted c.place_in-finish.ensures.place c.insert_row.ensures.inserted in
    on_ok_weaker c.lay_turns.result (λ e. e ∙ drawn_now c.args.blocks.now c.args.parent c.args.child true _ _ now.1
    (turns_now c.args.blocks.now c.args.parent c.args.child true _ _ _ _ 0 _ now.1 c.place_in-start-2.ensures.place c.place_in-finish-2.ensures.place c.heavy_turns-turns.ensures refl))
    c.lay_turns.ensures.ok
