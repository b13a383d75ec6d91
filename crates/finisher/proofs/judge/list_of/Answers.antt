-- `list_of`: a save that stands has its list in the tables, and the list has the shape.
use Rattle.finisher.proofs.judge.list_of.Goals as goal
use mathlib.Core.Path.{sym}
use lib.Seq.{length-take-le}
use Rattle.allocator.proofs.SaveLaws.{stands}
use Rattle.finisher.proofs.FinishLaws.{list_shape}

pub slice_bounds-new-end : goal.slice_bounds-new-end
slice_bounds-new-end c = sym (length-take-le _ _ (stands _ _ (rw (← c.lent.view_is) at c.requires)).pages_fit)

pub slice_bounds-new-end-2 : goal.slice_bounds-new-end-2
slice_bounds-new-end-2 c = sym (length-take-le _ _ (stands _ _ (rw (← c.lent.view_is) at c.requires)).entries_fit)

pub new-requires : goal.new-requires
new-requires c = list_shape (stands _ _ (rw (← c.lent.view_is) at c.requires))
