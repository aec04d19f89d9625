-- The corners are turned and moved.
use Rattle.std.proofs.Common.{◌^◌, arith}
use Rattle.cif_drawing.proofs.Near.{near_more}
use Rattle.cif_drawing.proofs.Extents.{extent_placed}
use Rattle.cif_drawing.proofs.measure.Extent.placed.Goals as goal

pub plus-requires-clause-self_near : goal.plus-requires-clause-self_near
plus-requires-clause-self_near c =
    c.least.ensures.near (2 ^ 125) (c.turned-first.ensures.near (2 ^ 125) (near_more (2 ^ 120) (2 ^ 125) c.args.self.low (omega arith) c.requires.low_near))
    (c.turned-last.ensures.near (2 ^ 125) (near_more (2 ^ 120) (2 ^ 125) c.args.self.high (omega arith) c.requires.high_near))

pub plus-requires-2-clause-self_near : goal.plus-requires-2-clause-self_near
plus-requires-2-clause-self_near c =
    c.greatest.ensures.near (2 ^ 125) (c.turned-first.ensures.near (2 ^ 125) (near_more (2 ^ 120) (2 ^ 125) c.args.self.low (omega arith) c.requires.low_near))
    (c.turned-last.ensures.near (2 ^ 125) (near_more (2 ^ 120) (2 ^ 125) c.args.self.high (omega arith) c.requires.high_near))

pub returns-clause-placed : goal.returns-clause-placed
returns-clause-placed c =
    extent_placed c.args.self (record { low = c.plus.result; high = c.plus-2.result }) c.args.placement c.turned-first.result c.turned-last.result c.least.result c.greatest.result
    c.turned-first.ensures.across c.turned-first.ensures.upward c.turned-last.ensures.across c.turned-last.ensures.upward c.least.ensures.across c.least.ensures.upward
    c.greatest.ensures.across c.greatest.ensures.upward c.plus.ensures.across c.plus.ensures.upward c.plus-2.ensures.across c.plus-2.ensures.upward

pub returns-clause-low_near : goal.returns-clause-low_near
returns-clause-low_near c = λ m n a b k.
    c.plus.ensures.near m n (c.least.ensures.near m (c.turned-first.ensures.near m a) (c.turned-last.ensures.near m b)) k

pub returns-clause-high_near : goal.returns-clause-high_near
returns-clause-high_near c = λ m n a b k.
    c.plus-2.ensures.near m n (c.greatest.ensures.near m (c.turned-first.ensures.near m a) (c.turned-last.ensures.near m b)) k
