-- `walk_down`, which calls itself, meets its contract: the measure is the pages still allowed, and a page that is passed leaves the
-- list's size as it was.
use Rattle.free_list.proofs.walk.Walk.+walk_down.Given as goal

abbrev pub decreases-walk_down : goal.decreases-walk_down
decreases-walk_down l = l.self.allowed
