-- `zero_byte` meets its contract.
use Rattle.bit_map.proofs.marking.zero_byte.Goals as goal
use mathlib.Core.Path.{refl}
use native.Mathlib.Omega.{arith}
use borrow.Author.Tests.{lt-ltb, le-ltb}
use Rattle.bit_map.specs.Marking.{bytes_zero}
use Rattle.bit_map.proofs.BitMapLaws.{in_map}

pub bounds-map-n : goal.bounds-map-n
bounds-map-n c = in_map c.args.limit c.args.map.now c.args.n c.requires c.if-n-limit.true

pub returns-then-n-limit : goal.returns-then-n-limit
unfolding bytes_zero
returns-then-n-limit c = rw (lt-ltb c.args.n c.args.limit c.if-n-limit.true) refl

pub returns-else-n-limit : goal.returns-else-n-limit
unfolding bytes_zero
returns-else-n-limit c = rw (le-ltb c.args.n c.args.limit (omega (arith, c.if-n-limit.false))) refl
