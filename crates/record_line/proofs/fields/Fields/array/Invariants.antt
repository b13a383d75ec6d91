-- What was taken are the count and the numbers of the items so far.
-- Assumes nothing.
use Rattle.std.proofs.Common.{◌≡◌, ◌∷◌, ◌++◌, map, vec_len}
use Rattle.record_line.proofs.fields.Fields.array.Given as goal

abbrev pub invariant-loop-i : goal.invariant-loop-i
invariant-loop-i g l =
    (vec_len l.items ≡ l._i) × (l.fn.self ≡ l.length ∷ (map g.T.Number.number l.items.items ++ l.self))
