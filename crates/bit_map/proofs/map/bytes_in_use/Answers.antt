-- `bytes_in_use` meets its contract.
use Rattle.bit_map.proofs.map.bytes_in_use.Goals as goal
use native.Mathlib.Omega.{arith}
use Rattle.bit_map.specs.BitMap.{bytes_in_use}

pub returns : goal.returns
unfolding bytes_in_use
returns c = omega (arith, c.div_ceil.ensures)
