-- `make_room`: each round of the two turns at least once, and where the room is enough nothing is left to do.
use Rattle.preallocate.proofs.list.LentList.make_room.Goals as goal
use native.Mathlib.Omega.{arith}
use Rattle.preallocate.proofs.StepsLaws.{done}

pub returns : goal.returns
returns c = c.loop-q.invariant.planned _ _ (done _ _ _ _ (omega (arith, c.loop-q-test.false, c.room.ensures)))
