use Rattle.rxc_program.proofs.top.rxc.Goals as goal

-- src/top.rt
pub returns-clause-compiles : goal.returns-clause-compiles
returns-clause-compiles g c = rw c.told.ensures.same c.run-status.ensures.compiles

pub returns-clause-languages : goal.returns-clause-languages
returns-clause-languages g c = rw c.told.ensures.same c.run-status.ensures.languages
