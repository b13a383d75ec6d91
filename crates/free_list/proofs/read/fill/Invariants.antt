-- `fill` meets its contract. The loop's invariant: writing what is left of the list to the present tables gives the final tables.
use Rattle.free_list.proofs.read.fill.Given as goal
use Rattle.free_list.proofs.FillingLaws.{Filling}

abbrev pub invariant-loop-left : goal.invariant-loop-left
invariant-loop-left l = Filling l.store.page_size l.store.bytes l.initial.pages l.initial.entries l.head l.initial.left l.pages l.entries l.page l.left l.at
