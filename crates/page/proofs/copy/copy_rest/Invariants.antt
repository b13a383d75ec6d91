-- `copy_rest`: of the bytes behind the whole words, the first i are copied.
use Rattle.std.proofs.Common.{◌≡◌, ◌+◌, drop, take}
use Rattle.std.proofs.lemmas.List.Edits.{sets}
use Rattle.page.proofs.copy.copy_rest.Given as goal

abbrev pub invariant-loop-i : goal.invariant-loop-i
invariant-loop-i l = l.b ≡ sets l.initial.b (l.at + l.done) (take l.i (drop l.done l.a))
