-- `clear` meets its contract: the bytes in use are filled, and those behind them stay.
use Rattle.std.proofs.Common.{◌≡◌, ◌+◌, ◌++◌, ℕ, length, drop, replicate}
use Rattle.bit_map.proofs.map.clear.Goals as goal
use mathlib.Core.Path.{sym, ap, ◌∙◌}
use native.Mathlib.Omega.{arith}
use lib.ListN.{length-replicate}
use lib.Seq.{sets-eq, length-take-le}
use borrow.Author.Tests.{leb-true}
use Rattle.bit_map.specs.BitMap.{bytes_in_use, cleared}

pub returns : goal.returns
unfolding cleared
returns c =
    let map = c.args.map.now in
    let n = bytes_in_use c.args.limit in
    let room = leb-true n (length map) c.requires in
    let zeros : c.fill.new.self ≡ replicate n 0 = c.fill.ensures.after (λ y e. e) ∙ rw c.bytes_in_use.ensures (ap (λ (k : ℕ). replicate k 0) (length-take-le n map room)) in
    let whole : 0 + length (replicate {A = ℕ} n 0) ≡ n = omega (arith, length-replicate {A = ℕ} n 0) in
    rw (zeros, c.bytes_in_use.ensures) (sym (sets-eq (replicate n 0) map 0 (omega (arith, length-replicate {A = ℕ} n 0)) ∙ ap (λ (k : ℕ). replicate n 0 ++ drop k map) whole))
