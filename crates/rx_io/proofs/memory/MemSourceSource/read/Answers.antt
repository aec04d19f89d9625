use Rattle.std.proofs.lemmas.List.{take_rest}
use Rattle.rx_io.proofs.Fronts.{drop-given, drop-at_end}
use Rattle.rx_io.proofs.memory.MemSourceSource.read.Goals as goal

pub returns-clause-bytes : goal.returns-clause-bytes
returns-clause-bytes c =
    let count = rw (c.deref-2.ensures.value, take_rest) at c.copy_front-count.ensures.count in
    let copied = rw (c.deref-2.ensures.value, take_rest) at c.copy_front-count.ensures.copied in
    rw (← c.self.view_is) (drop-given _ _ _ _ copied, drop-at_end _ _ _ _ count)
