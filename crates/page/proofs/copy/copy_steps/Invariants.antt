-- `copy_steps`: so many words are copied as steps are counted. The measure is the bytes that are left.
use Rattle.std.proofs.Common.{◌≡◌, ◌*◌, ◌-◌, ◌≤◌, length, take}
use Rattle.std.proofs.lemmas.List.Edits.{sets}
use Rattle.page.proofs.copy.copy_steps.Given as goal

abbrev pub invariant-loop-steps : goal.invariant-loop-steps
invariant-loop-steps l = record {
  within : 8 * l.steps ≤ length l.a;
  copied : l.b ≡ sets l.initial.b l.at (take (8 * l.steps) l.a);
}

abbrev pub decreases-loop-steps : goal.decreases-loop-steps
decreases-loop-steps l = length l.a - 8 * l.steps
