-- `clear_part`: a step is counted for each eight bytes that are made zero.
use Rattle.std.proofs.Common.{◌≡◌, ◌*◌, replicate}
use Rattle.std.proofs.lemmas.List.Edits.{sets}
use Rattle.page.proofs.fill.clear_part.Given as goal

abbrev pub invariant-loop-i : goal.invariant-loop-i
invariant-loop-i l = record {
  counted : l.steps ≡ l.i;
  cleared : l.b ≡ sets l.initial.b 0 (replicate (8 * l.i) 0);
}
