-- `is_marked` meets its contract: the bit is taken by a shift, as the definition takes it.
use Rattle.bit_map.proofs.map.is_marked.Goals as goal
use mathlib.Core.Path.{ap}
use lib.Dec.{eqb}
use Prim.Native.Nat.{ℕ, ◌/◌, ◌%◌}
use lib.ListN.{get_or}
use Rattle.std.proofs.lemmas.Nat.Bits.{shr_and_one}
use Rattle.bit_map.specs.BitMap.{is_marked}

pub returns : goal.returns
unfolding is_marked
returns c = ap (λ (b : ℕ). eqb b 1) (shr_and_one (get_or c.args.map.now (c.args.n / 8) 0) (c.args.n % 8))
