-- The links of a node stand between two numbers.
use Rattle.std.proofs.Common.{◌≡◌, ◌+◌, length, arith}
use Rattle.nmos_extract.specs.Graphs.{targets}
use Rattle.nmos_extract.proofs.Targets.{between}
use Rattle.nmos_extract.proofs.graph.LinkGraphGraph.link_count.Goals as goal

pub overflow_sub-result : goal.overflow_sub-result
overflow_sub-result c =
    let ls = c.args.self.now.links in
    let size : length (targets ls c.args.node) + c.begin-begin.result ≡ c.end-end.result = (between ls c.args.node c.begin-begin.result c.end-end.result
    c.begin-begin.ensures.within c.end-end.ensures.within c.begin-begin.ensures.numbers c.end-end.ensures.numbers).size in
    omega arith

pub overflow_cast-result : goal.overflow_cast-result
overflow_cast-result c = omega (arith, c.end-end.ensures.within, c.begin-begin.ensures.few)

pub returns : goal.returns
returns c =
    let ls = c.args.self.now.links in
    let size : length (targets ls c.args.node) + c.begin-begin.result ≡ c.end-end.result = (between ls c.args.node c.begin-begin.result c.end-end.result
    c.begin-begin.ensures.within c.end-end.ensures.within c.begin-begin.ensures.numbers c.end-end.ensures.numbers).size in
    omega arith
