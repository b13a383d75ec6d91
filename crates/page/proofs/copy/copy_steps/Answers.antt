use Rattle.std.proofs.Common.{◌≡◌, ◌+◌, ◌*◌, ◌-◌, ◌%◌, length, drop, take}
use Rattle.std.proofs.lemmas.List.Edits.{sets}
use Rattle.std.proofs.Math.Seq.{take-length}
use Rattle.page.proofs.copy.copy_steps.Goals as goal
use mathlib.Core.Path.{◌∙◌, ap}
use lib.ListN.{length-drop}
use native.Mathlib.Nat.{zero-add}
use native.Mathlib.Omega.{arith}
use Rattle.laws.proofs.SetsLaws.{part_copied}

pub loop-steps-preserved : goal.loop-steps-preserved
loop-steps-preserved c =
    let x = c.args in
    let k = c.copy_turn-steps.result in
    let e = c.copy_turn-steps.ensures in
    let done = 8 * c.loop-steps.steps in
    let same : 8 * c.loop-steps.steps + 8 * c.min-n.result - 8 * c.loop-steps.steps ≡ 8 * k = omega (arith, e.0) in
    let more : done + 8 * k ≡ 8 * (c.loop-steps.steps + k) = omega arith in
    record {
      within = omega (arith, e.0, c.min-n.ensures);
      copied =
          rw same at e.1
          ∙ rw more at (simp zero-add at (part_copied x.b.now c.loop-steps.b x.a.now 0 x.at done (8 * k) (omega arith) c.loop-steps.invariant.copied));
    }

pub returns : goal.returns
returns c =
    let x = c.args in
    let done = 8 * c.loop-steps.steps in
    let left = length x.a.now - done in
    let words : length x.a.now - length x.a.now % 8 ≡ done = omega (arith, c.loop-steps.invariant.within) in
    let all : done + left ≡ length x.a.now = omega (arith, c.loop-steps.invariant.within) in
    let rest : take left (drop done x.a.now) ≡ drop done x.a.now = rw (← length-drop done x.a.now) (take-length (drop done x.a.now)) in (
      omega arith,
      rw (words, ← rest) at c.copy_rest.ensures
          ∙ simp zero-add at (part_copied x.b.now c.loop-steps.b x.a.now 0 x.at done left (omega arith) c.loop-steps.invariant.copied)
          ∙ rw all (ap (sets x.b.now x.at) (take-length x.a.now)),
    )
