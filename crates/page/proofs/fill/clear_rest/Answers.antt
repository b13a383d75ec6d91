-- `clear_rest` meets its contract: each zero stands behind those before it.
use Rattle.std.proofs.Common.{◌≡◌, ℕ, ◌-◌, ◌%◌, length, replicate}
use Rattle.std.proofs.lemmas.List.Edits.{sets}
use Rattle.page.proofs.fill.clear_rest.Goals as goal
use mathlib.Core.Path.{◌∙◌, ap}
use native.Mathlib.Omega.{arith}
use Rattle.laws.proofs.SetsLaws.{zeros_joined}

pub loop-i-preserved : goal.loop-i-preserved
loop-i-preserved c =
    let n = length c.args.b.now in
    zeros_joined c.args.b.now c.loop-i.b (n - n % 8) c.loop-i.i 1 c.loop-i.invariant

pub returns : goal.returns
returns c =
    let n = length c.args.b.now in
    let all : c.loop-i.i ≡ n % 8 = omega (arith, c.loop-i-test.false, c.loop-i.auto.i-end) in
    c.loop-i.invariant ∙ ap (λ (k : ℕ). sets c.args.b.now (n - n % 8) (replicate {A = ℕ} k 0)) all
