-- `clear_rest`: of the bytes behind the whole words, the first i are zero.
use Rattle.std.proofs.Common.{◌≡◌, replicate}
use Rattle.std.proofs.lemmas.List.Edits.{sets}
use Rattle.page.proofs.fill.clear_rest.Given as goal

abbrev pub invariant-loop-i : goal.invariant-loop-i
invariant-loop-i l = l.b ≡ sets l.initial.b l.done (replicate l.i 0)
