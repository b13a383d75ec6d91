-- `needed_pages` meets its contract: the sum is small, and the quotient is the definition's.
use Rattle.overflow.proofs.total.needed_pages.Goals as goal
use native.Mathlib.Omega.{arith}
use Rattle.overflow.specs.Totals.{raw_pages}
use Rattle.overflow.proofs.TotalsLaws.{max_size_lem}

pub overflow_add-result : goal.overflow_add-result
overflow_add-result c = omega (arith, c.bytes-body.ensures.size.limit, c.requires, max_size_lem c.args.page_size)

pub returns : goal.returns
unfolding raw_pages
returns c = rw (← c.bytes-body.ensures.bytes)
