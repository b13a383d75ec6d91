use Rattle.std.proofs.Common.{◌≡◌, ℕ, ◌+◌, ◌*◌, ◌-◌, ◌%◌, length, replicate}
use Rattle.std.proofs.lemmas.List.Edits.{sets}
use Rattle.page.proofs.fill.clear_part.Goals as goal
use mathlib.Core.Path.{◌∙◌, ap}
use native.Mathlib.Omega.{arith}
use lib.ListN.{length-replicate}
use native.Mathlib.Nat.{zero-add}
use Rattle.laws.proofs.SetsLaws.{sets_whole, zeros_joined}
use Rattle.page.proofs.BytesLaws.{bytes_of_zero}

pub loop-i-preserved : goal.loop-i-preserved
loop-i-preserved c = record {
  counted = omega arith;
  cleared =
      let more : 8 * c.loop-i.i + 8 ≡ 8 * (c.loop-i.i + 1) = omega arith in
      c.write_at.ensures ∙ ap (sets c.loop-i.b (8 * c.loop-i.i)) (bytes_of_zero 8) ∙ rw (zero-add, more) at (zeros_joined c.args.b.now c.loop-i.b 0 (8 * c.loop-i.i) 8 c.loop-i.invariant.cleared);
}

pub returns : goal.returns
returns c =
    let n = length c.args.b.now in
    let done = 8 * c.loop-i.steps in
    let left = n % 8 in
    let words : n - left ≡ done = omega arith in
    let all : done + left ≡ n = omega arith in
    let first = rw (← c.loop-i.invariant.counted) at c.loop-i.invariant.cleared in (
      omega arith,
      rw (c.loop-i.auto.b, words) at c.clear_rest.ensures
          ∙ rw (zero-add, all) at (zeros_joined c.args.b.now c.loop-i.b 0 done left first)
          ∙ sets_whole c.args.b.now (replicate n 0) (length-replicate {A = ℕ} n 0),
    )
