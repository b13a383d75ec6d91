-- What was taken are the numbers of the items so far.
-- Assumes nothing.
use Rattle.std.proofs.Common.{◌≡◌, ◌++◌, map, take}
use Rattle.record_line.proofs.fields.Fields.expect.Given as goal

abbrev pub invariant-loop-item : goal.invariant-loop-item
invariant-loop-item g l = l.fn.self ≡ map g.T.Number.number (take l.item-index l.items) ++ l.self
