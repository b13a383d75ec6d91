-- `measure` meets its contract. The loop's invariant: the list's size is that of the walk so far, which has come from its mark. The
-- measure is the pages still allowed.
use Rattle.std.proofs.Common.{◌≡◌, ◌≤◌}
use Rattle.free_list.specs.Reading.{is_loose}
use Rattle.free_list.specs.Steps.{read_size, size_from, WalkFits, Marked}
use Rattle.free_list.proofs.walk.measure.Given as goal

abbrev pub invariant-loop-list : goal.invariant-loop-list
invariant-loop-list l = record {
  fits : WalkFits l.walk;
  same : size_from l.store.page_size l.store.bytes (is_loose l.reading) l.walk ≡ read_size l.store.page_size l.store.bytes (is_loose l.reading) l.head;
  marked : Marked l.store.page_size l.store.bytes (is_loose l.reading) l.mark l.walk;
  later : 2 ≤ l.due;
}

abbrev pub decreases-loop-list : goal.decreases-loop-list
decreases-loop-list l = l.walk.allowed
