-- `page_total` meets its contract: both tests of the size, and what is told of it is as the callees say.
use Rattle.overflow.specs.Totals.{page_total, total_of}
use Rattle.overflow.proofs.total.page_total.Goals as goal
use Rattle.overflow.proofs.total.page_total.Goals.{then-size-eq0-via-then-size-eq0, then-size-eq0-via-else-size-eq0+then-max_overflow_value_size-size}
use native.Mathlib.Omega.{arith}
use borrow.Author.Tests.{le-leb, lt-leb}

pub returns-then-size-eq0 : goal.returns-then-size-eq0
unfolding page_total
returns-then-size-eq0 c = elim c.then-size-eq0.branch [
  | then-size-eq0-via-then-size-eq0 w ↦ rw (lt-leb 1 c.args.size (omega arith))
  | then-size-eq0-via-else-size-eq0+then-max_overflow_value_size-size w ↦
      rw (le-leb 1 c.args.size (omega arith), ← w.max_overflow_value_size.ensures, lt-leb _ _ w.if-max_overflow_value_size-size.true)
]

pub spare_room-spare-requires : goal.spare_room-spare-requires
spare_room-spare-requires c = c.total_needed_pages-totals.ensures.room

pub returns : goal.returns
unfolding page_total total_of
returns c =
    rw (c.spare_room-spare.ensures, le-leb 1 c.args.size (omega arith), ← c.max_overflow_value_size.ensures, le-leb _ _ c.if-max_overflow_value_size-size.false, ← c.total_needed_pages-totals.ensures.totals.new, c.min-cell.ensures, c.total_needed_pages-totals.ensures.totals.old)
