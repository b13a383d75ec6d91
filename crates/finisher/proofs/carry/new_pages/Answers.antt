-- `new_pages`: the plan is made again, and all its numbers have 32 bits.
use Rattle.finisher.proofs.carry.new_pages.Goals as goal
use Rattle.finisher.proofs.CarryLaws.{poppable, named_again}

pub list_of-requires : goal.list_of-requires
list_of-requires c = c.requires.save.state

pub plan-requires : goal.plan-requires
plan-requires c = rw c.list_of.ensures.list (poppable c.requires)

pub returns : goal.returns
returns c = named_again c.requires c.list_of.ensures.fits (rw c.list_of.ensures.list at c.plan.ensures)
