-- `plan`: the first number is popped, and the turns go on from there.
use Rattle.preallocate.proofs.list.LentList.plan.Goals as goal
use Rattle.preallocate.proofs.PlanLaws.{then_made}

pub returns : goal.returns
returns c = then_made _ _ _ _ _ c.first_plan-first.ensures.made c.make_room.ensures
