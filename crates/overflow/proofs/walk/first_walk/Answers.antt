-- `first_walk` meets its contract: the cell's numbers are queued, and the walk over the pages goes on from there.
use Rattle.overflow.proofs.walk.first_walk.Goals as goal
use mathlib.Core.Path.{refl, ◌∙◌}
use Rattle.overflow.specs.Cells.{cell_count}
use Rattle.overflow.proofs.TableLaws.{first_whole}

pub returns : goal.returns
unfolding cell_count
returns c = c.walk.ensures ∙ first_whole _ _ c.args.table.now _ refl c.queue.ensures
