-- The rows' last runs end where they did, or where the strip ends.
use Rattle.std.proofs.Common.{rules, ◌≡◌, w64, to_z, of_z}
use Rattle.geom.specs.Reaches.{IsReached, Raises}
use Rattle.geom.proofs.Sweeps.{longer_rows}
use Rattle.geom.proofs.sweep.Sweep.lengthen.Goals as goal

pub returns-clause-passed : goal.returns-clause-passed
returns-clause-passed c = λ boxes done next s.
    let y : to_z w64 (of_z w64 c.args.row) ≡ c.args.row = search rules in
    let n : to_z w64 (of_z w64 c.reached-end.result) ≡ c.reached-end.result = search rules in
    let l : to_z w64 (of_z w64 c.args.strip.left) ≡ c.args.strip.left = search rules in
    let r : to_z w64 (of_z w64 c.args.strip.right) ≡ c.args.strip.right = search rules in
    let t : to_z w64 (of_z w64 c.args.strip.top) ≡ c.args.strip.top = search rules in
    let met : IsReached c.args.self.now.ends c.args.strip.left c.args.row c.args.strip.top c.reached-end.result = rw (← y, ← l, ← t) c.reached-end.ensures in
    let longer : Raises c.args.self.now.ends c.args.row c.reached-end.result c.args.strip.right c.raise.new.self = rw (← y, ← n, ← r) c.in_ok-raise.ensures in
    rw n (record {
      rows = longer_rows boxes done c.args.self.now.runs.items c.args.strip c.args.row c.reached-end.result c.args.self.now.begins c.args.self.now.ends c.raise.new.self
          c.requires.strip c.requires.from met next longer s.rows;
      parts = s.parts;
    })
