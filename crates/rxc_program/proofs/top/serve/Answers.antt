use Rattle.std.proofs.Common.{refl, arith}
use Rattle.rxc_program.specs.Endings.{change}
use Rattle.rxc_program.specs.Reporting.{demonstrating}
use Rattle.rxc_program.proofs.Unread.{answered_alone}
use Rattle.rxc_program.proofs.top.serve.Goals as goal

-- src/top.rt
pub returns-in-Net : goal.returns-in-Net
returns-in-Net g c = rw c.in-Net.is c.net.ensures

pub returns-in-Pla : goal.returns-in-Pla
returns-in-Pla g c = rw c.in-Pla.is c.pla.ensures

pub returns-in-Tree : goal.returns-in-Tree
returns-in-Tree g c = rw c.in-Tree.is c.tree.ensures

pub returns-in-Extract : goal.returns-in-Extract
returns-in-Extract g c = rw c.in-Extract.is c.extract.ensures

pub returns-in-Sim : goal.returns-in-Sim
returns-in-Sim g c = rw c.in-Sim.is c.sim.ensures

pub returns-in-Report : goal.returns-in-Report
returns-in-Report g c = rw c.in-Report.is c.report.ensures

pub returns-in-Demo : goal.returns-in-Demo
returns-in-Demo g c =
    let source = change g.S.Source.left g.S.Source.faults c.args.src.now c.args.src.now in
    let sink = change g.O.Sink.held g.O.Sink.faults c.args.out.now c.demo.new.out in
    rw c.in-Demo.is (record {
      ends = answered_alone (demonstrating c.in-Demo.start c.in-Demo.leaves) source sink refl refl c.demo.result c.demo.ensures.answers;
      source_count = omega arith;
      sink_count = c.demo.ensures.count;
    })
