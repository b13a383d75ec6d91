-- `pages_after`: the test says which case of `pages_after` holds.
use Rattle.preallocate.specs.Plan.{pages_after}
use Rattle.preallocate.proofs.list.LentList.pages_after.Goals as goal
use native.Mathlib.Omega.{arith}
use mathlib.Core.Path.{◌∙◌}
use borrow.Author.Tests.{eq-eqb, ne_eqb}
use Rattle.preallocate.proofs.PagesForLaws.{pages_for_ceil}

pub returns-then-popped-eq0 : goal.returns-then-popped-eq0
unfolding pages_after
returns-then-popped-eq0 c = rw (← c.self.view_is, eq-eqb _ _ c.if-popped-eq0.true)

pub returns : goal.returns
unfolding pages_after
returns c =
    rw (← c.self.view_is, ne_eqb _ _ c.if-popped-eq0.false, ← c.self.invariant.capacity_is)
    (c.div_ceil.ensures ∙ pages_for_ceil _ _ (omega (arith, c.self.invariant.capacity_is, c.self.invariant.size.two_entries)))
