-- What was taken are the count and the numbers of the items so far.
-- Assumes nothing.
use Rattle.std.proofs.Common.{◌≡◌, ◌∷◌, ◌++◌, map}
use Rattle.arrayvec.specs.ArrayVec.{array_vec_len}
use Rattle.record_line.proofs.fields.Fields.array_into.Given as goal

abbrev pub invariant-loop-element : goal.invariant-loop-element
invariant-loop-element g l =
    (array_vec_len l.items ≡ l._element) × (l.fn.self ≡ l.count ∷ (map g.T.Number.number l.items.items ++ l.self))
