-- `walk` meets its contract. The loop's invariant is `Walking`: what is left to do is the rest of the whole walk.
use Rattle.overflow.specs.Reading.{in_store}
use Rattle.overflow.specs.Steps.{to_bytes}
use Rattle.overflow.proofs.walk.walk.Given as goal
use Rattle.overflow.proofs.TableLaws.{Walking}

abbrev pub invariant-loop-i : goal.invariant-loop-i
invariant-loop-i l =
    Walking l.store.page_size (in_store l.store.page_size l.store.bytes) (to_bytes l.until) l.initial.found l.initial.table l.table l.found l.i
