-- The measure of each call is the work that is left: the entries, and the room that is missing. What the loop has done so far is a part
-- of the run.
use Rattle.page.specs.PageSize.{capacity}
use Rattle.preallocate.specs.Steps.{work, Along}
use Rattle.preallocate.proofs.list.LentList.+swap_head_take_page.Given as goal

abbrev pub decreases-swap_head : goal.decreases-swap_head
decreases-swap_head l = work (capacity l.self.now.page_size) l.p

abbrev pub decreases-take_page : goal.decreases-take_page
decreases-take_page l = work (capacity l.self.now.page_size) l.p

abbrev pub invariant-take_page-loop-q : goal.invariant-take_page-loop-q
invariant-take_page-loop-q l = Along (capacity l.self.page_size) l.self.list l.initial.q l.initial.out l.q l.out

abbrev pub decreases-take_page-loop-q : goal.decreases-take_page-loop-q
decreases-take_page-loop-q l = work (capacity l.self.page_size) l.q
