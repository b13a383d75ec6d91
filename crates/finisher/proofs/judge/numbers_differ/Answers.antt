-- `numbers_differ` meets its contract: the two parts of the tables hold the numbers that were not handed out.
use Rattle.finisher.proofs.judge.numbers_differ.Goals as goal
use mathlib.Core.Path.{sym}
use native.Mathlib.Omega.{arith}
use lib.Seq.{length-take-le}
use Rattle.finisher.proofs.JudgeLaws.{standing_of, bump-is, room_is, judged_left}

pub slice_bounds-listed-end : goal.slice_bounds-listed-end
slice_bounds-listed-end c = sym (length-take-le _ _ (standing_of (rw (← c.lent.view_is) at c.requires)).pages_fit)

pub slice_bounds-left-length : goal.slice_bounds-left-length
slice_bounds-left-length c = sym (length-take-le _ _ (omega (arith, (standing_of (rw (← c.lent.view_is) at c.requires)).entries_fit)))

pub all_differ-requires : goal.all_differ-requires
all_differ-requires c = room_is (rw (← c.lent.view_is) at c.requires)

pub returns-clause-differ : goal.returns-clause-differ
returns-clause-differ c = rw (← c.lent.view_is) (judged_left (rw (← c.lent.view_is) at c.requires) c.all_differ.ensures.differ)

pub returns-clause-map : goal.returns-clause-map
returns-clause-map c = rw (← bump-is c.requires) c.all_differ.ensures.map
