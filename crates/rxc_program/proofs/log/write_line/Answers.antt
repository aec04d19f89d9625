use Rattle.std.proofs.Common.{refl}
use Rattle.rxc_program.proofs.Pieces.{TakesText-cases, TakesText-same}
use Rattle.rxc_program.proofs.log.write_line.Goals as goal

pub returns-in-ReadFault-clause-bytes : goal.returns-in-ReadFault-clause-bytes
returns-in-ReadFault-clause-bytes g c = rw c.in-ReadFault.is (TakesText-cases _ _ _ _ c.put_all.ensures.ok c.put_all.ensures.err)

pub returns-in-WriteFault-clause-bytes : goal.returns-in-WriteFault-clause-bytes
returns-in-WriteFault-clause-bytes g c = rw c.in-WriteFault.is (TakesText-cases _ _ _ _ c.put_all-in-WriteFault.ensures.ok c.put_all-in-WriteFault.ensures.err)

pub returns-in-NoMemory-clause-bytes : goal.returns-in-NoMemory-clause-bytes
returns-in-NoMemory-clause-bytes g c = rw c.in-NoMemory.is (TakesText-cases _ _ _ _ c.put_all-in-NoMemory.ensures.ok c.put_all-in-NoMemory.ensures.err)

pub returns-in-Usage-clause-bytes : goal.returns-in-Usage-clause-bytes
returns-in-Usage-clause-bytes g c = TakesText-same _ _ _ _ _ (rw (c.in-Usage.is, c.as_bytes.ensures, c.unsigned_text-word.ensures) refl) c.put_pieces.ensures.bytes
