-- `clear_steps` meets its contract: the part is made zero, and it is as long as the places say.
use Rattle.std.proofs.Common.{◌≡◌, ◌-◌, ◌/◌, ℕ, length, replicate, take, drop}
use Rattle.page.proofs.fill.clear_steps.Goals as goal
use mathlib.Core.Path.{ap, ◌∙◌}
use native.Mathlib.Omega.{arith}
use lib.ListN.{length-drop, length-replicate}
use lib.Seq.{length-take-le}
use Rattle.laws.proofs.SetsLaws.{part-written}

pub returns : goal.returns
returns c =
    let x = c.args in
    let n = x.to - x.from in
    let long : length (take n (drop x.from x.b.now)) ≡ n = length-take-le n (drop x.from x.b.now) (omega (arith, length-drop x.from x.b.now)) in (
      c.clear_part.ensures.0 ∙ ap (λ (k : ℕ). k / 8) long,
      rw (c.clear_part.ensures.1, long) (part-written x.b.now x.from n (replicate n 0) (length-replicate {A = ℕ} n 0) (omega arith)),
    )
