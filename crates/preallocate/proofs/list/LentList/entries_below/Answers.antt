-- `entries_below`: each case of the definition is a test here.
use Rattle.preallocate.proofs.list.LentList.entries_below.Goals as goal
use mathlib.Core.Path.{sym, ◌∙◌}
use native.Mathlib.Omega.{arith}
use Rattle.free_list.proofs.BelowLaws.{below_all, below_inner, below-fragmented, below-head}
use Rattle.preallocate.proofs.ShapelyLaws.{counts_of, below_fits, some_entry}

pub returns-then-pages-j : goal.returns-then-pages-j
returns-then-pages-j c = rw (← c.self.view_is) (below_all _ _ _ _ c.if-pages-j.true)

pub overflow_mul-result : goal.overflow_mul-result
overflow_mul-result c = omega (arith, c, below_fits c.self.invariant c.args.j (omega arith))

pub returns-then-j-pages : goal.returns-then-j-pages
returns-then-j-pages c = rw (← c.self.view_is, ← c.self.invariant.capacity_is) (below_inner _ _ _ _ c.if-j-pages.true)

pub is_fragmented-requires : goal.is_fragmented-requires
is_fragmented-requires c = omega (arith, c, (counts_of c.self.invariant).under)

pub overflow_sub-result : goal.overflow_sub-result
overflow_sub-result c = some_entry c.self.invariant (omega arith)

pub returns-then-is_fragmented : goal.returns-then-is_fragmented
returns-then-is_fragmented c =
    rw (← c.self.view_is, ← c.self.invariant.capacity_is) (below-fragmented _ _ _ _ (omega arith) (sym c.is_fragmented.ensures ∙ c.if-is_fragmented.true))

pub overflow_mul-result-2 : goal.overflow_mul-result-2
overflow_mul-result-2 c = omega (arith, c, below_fits c.self.invariant c.args.j (omega arith))

pub returns : goal.returns
returns c =
    rw (← c.self.view_is, ← c.self.invariant.capacity_is) (below-head _ _ _ _ (omega arith) (sym c.is_fragmented.ensures ∙ c.if-is_fragmented.false))
