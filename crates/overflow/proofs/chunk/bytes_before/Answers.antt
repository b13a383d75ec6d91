-- `bytes_before` meets its contract: the sum of the definition in one step, with the numbers before the page known.
use Rattle.std.proofs.Common.{◌-◌}
use Rattle.overflow.proofs.chunk.bytes_before.Goals as goal
use native.Mathlib.Omega.{arith}
use Rattle.page.proofs.PageSizeLaws.{page_least}
use Rattle.overflow.proofs.LayoutLaws.{bytes_before_is, numbers_fit}
use Rattle.overflow.proofs.ChunkLaws.{product_small}

pub overflow_sub-body : goal.overflow_sub-body
overflow_sub-body c = omega (arith, page_least c.bytes-body.ensures.size)

pub overflow_mul-body : goal.overflow_mul-body
overflow_mul-body c =
    let few = rw (← c.bytes-body.ensures.bytes) at c.requires.few in
    omega (arith, product_small (c.bytes-body.result - 4) c.args.index c.bytes-body.ensures.size few c.requires.upto (omega arith))

pub overflow_mul-numbers_before : goal.overflow_mul-numbers_before
overflow_mul-numbers_before c =
    let few = rw (← c.bytes-body.ensures.bytes) at c.requires.few in
    let before = rw (← c.bytes-body.ensures.bytes) at c.numbers_before.ensures in
    omega (arith, product_small (c.bytes-body.result - 4) c.args.index c.bytes-body.ensures.size few c.requires.upto (omega arith), numbers_fit c.args.total c.bytes-body.ensures.size c.args.index)

pub overflow_sub-body-2 : goal.overflow_sub-body-2
overflow_sub-body-2 c =
    let before = rw (← c.bytes-body.ensures.bytes) at c.numbers_before.ensures in
    omega (arith, numbers_fit c.args.total c.bytes-body.ensures.size c.args.index)

pub returns : goal.returns
returns c =
    let before = rw (← c.bytes-body.ensures.bytes) at c.numbers_before.ensures in
    rw (← c.bytes-body.ensures.bytes, bytes_before_is c.args.total c.bytes-body.ensures.size c.args.size c.args.index, ← before) c.min.ensures
