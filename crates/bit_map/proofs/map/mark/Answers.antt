-- `mark` meets its contract: the bit that it sets is one of a byte's.
use Rattle.std.proofs.Common.{◌≡◌, ◌*◌, ◌/◌, ◌%◌, ◌^◌, ◌<◌, ℕ, get_or, set, bit_or}
use Rattle.bit_map.proofs.map.mark.Goals as goal
use mathlib.Core.Path.{ap}
use native.Mathlib.Omega.{arith}
use Rattle.std.proofs.Math.Pow.{pow-lt}
use Rattle.bit_map.specs.BitMap.{with_marked}

pub returns : goal.returns
unfolding with_marked
returns c =
    let n = c.args.n in
    let map = c.args.map.now in
    let small : 2 ^ (n % 8) < 2 ^ 8 = pow-lt {i = n % 8} {j = 8} (omega arith) in
    let whole : 1 * 2 ^ (n % 8) % 256 ≡ 2 ^ (n % 8) = omega (arith, small) in
    ap (λ (bit : ℕ). set map (n / 8) (bit_or (get_or map (n / 8) 0) bit)) whole
