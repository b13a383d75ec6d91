-- The items so far are as many as the turns, and each is the filler.
-- Assumes nothing.
use Rattle.std.proofs.Common.{◌≡◌}
use Rattle.std.specs.List.{AllClonesOf}
use Rattle.arrayvec.specs.ArrayVec.{array_vec_len}
use Rattle.record_line.proofs.fields.Fields.blank_into.Given as goal

abbrev pub invariant-loop-i : goal.invariant-loop-i
invariant-loop-i g l =
    (array_vec_len l.items ≡ l._i) × AllClonesOf g.T.Clone.is_clone l.filler l.items.items
