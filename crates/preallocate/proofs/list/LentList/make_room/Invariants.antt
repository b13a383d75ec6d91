-- `make_room`: what was done so far is a part of the run, and each turn leaves less work.
use Rattle.page.specs.PageSize.{capacity}
use Rattle.preallocate.specs.Steps.{work, Along}
use Rattle.preallocate.proofs.list.LentList.make_room.Given as goal

abbrev pub invariant-loop-q : goal.invariant-loop-q
invariant-loop-q l = Along (capacity l.self.page_size) l.self.list l.initial.q l.initial.out l.q l.out

abbrev pub decreases-loop-q : goal.decreases-loop-q
decreases-loop-q l = work (capacity l.self.page_size) l.q
