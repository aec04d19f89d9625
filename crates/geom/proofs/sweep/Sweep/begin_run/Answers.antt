-- The run before is put aside, and the strip's begins.
use Rattle.std.proofs.Common.{rules, ◌≡◌, w64, to_z, of_z}
use Rattle.geom.specs.Reaches.{IsLevel, Raises}
use Rattle.geom.specs.Sweeps.{PutsAside}
use Rattle.geom.proofs.Sweeps.{begun_rows, begun_parts}
use Rattle.geom.proofs.sweep.Sweep.begin_run.Goals as goal

pub returns-clause-passed : goal.returns-clause-passed
returns-clause-passed c = λ boxes done next s.
    let y : to_z w64 (of_z w64 c.args.row) ≡ c.args.row = search rules in
    let n : to_z w64 (of_z w64 c.level-first.result.end) ≡ c.level-first.result.end = search rules in
    let z : to_z w64 (of_z w64 c.args.last.end) ≡ c.args.last.end = search rules in
    let l : to_z w64 (of_z w64 c.args.strip.left) ≡ c.args.strip.left = search rules in
    let r : to_z w64 (of_z w64 c.args.strip.right) ≡ c.args.strip.right = search rules in
    let v : to_z w64 (of_z w64 c.args.last.value) ≡ c.args.last.value = search rules in
    let f : IsLevel c.args.self.now.begins c.args.row c.level-first.result = rw (← y) c.level-first.ensures.level in
    let sb : Raises c.args.self.now.begins c.args.row c.level-first.result.end c.args.strip.left c.raise.new.self =
    rw (← c.in_ok-put_aside.ensures.begins, ← y, ← n, ← l) c.in_ok-raise.ensures in
    let se : Raises c.args.self.now.ends c.args.row c.level-first.result.end c.args.strip.right c.raise-2.new.self =
    rw (← c.in_ok-put_aside.ensures.ends, ← y, ← n, ← r) c.in_ok-raise-2.ensures in
    let a : PutsAside c.args.self.now.layer c.args.row c.level-first.result c.args.last.value c.args.self.now.runs.items c.put_aside.new.self.runs.items =
    rw (← y, ← v) c.in_ok-put_aside.ensures.aside in
    rw (n, c.in_ok-put_aside.ensures.layer) (record {
      rows = begun_rows boxes done c.args.self.now.runs.items c.put_aside.new.self.runs.items c.args.self.now.layer c.args.strip c.args.row c.level-first.result c.args.last
          c.args.self.now.begins c.raise.new.self c.args.self.now.ends c.raise-2.new.self
          c.requires.strip c.requires.from c.requires.to (rw (← z) c.level-first.ensures.within) f c.requires.level c.requires.apart a next s.rows sb se;
      parts = begun_parts boxes done c.args.self.now.runs.items c.put_aside.new.self.runs.items c.args.self.now.layer c.args.strip c.args.row c.level-first.result c.args.last
          c.args.self.now.begins c.raise.new.self c.args.self.now.ends c.raise-2.new.self
          c.requires.strip c.requires.from c.requires.to (rw (← z) c.level-first.ensures.within) f c.requires.level c.requires.apart a next s.rows s.parts;
    })
