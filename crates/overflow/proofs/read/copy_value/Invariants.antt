-- `copy_value` meets its contract. The loop's invariant is `Copying`: the bytes of the pages so far stand in the buffer.
use Rattle.overflow.proofs.read.copy_value.Given as goal
use Rattle.overflow.proofs.CopyingLaws.{Copying}

abbrev pub invariant-loop-number : goal.invariant-loop-number
invariant-loop-number l = Copying l.store.page_size l.store.bytes l.numbers l.initial.value l.value l.number-index l.at
