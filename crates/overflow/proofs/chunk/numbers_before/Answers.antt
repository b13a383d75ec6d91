-- `numbers_before` meets its contract: the sum of the definition in one step.
use Rattle.std.proofs.Common.{◌-◌, ◌/◌}
use Rattle.overflow.proofs.chunk.numbers_before.Goals as goal
use native.Mathlib.Omega.{arith}
use Rattle.page.proofs.PageSizeLaws.{page_least}
use Rattle.overflow.proofs.LayoutLaws.{numbers_before_is}
use Rattle.overflow.proofs.ChunkLaws.{product_small}

pub overflow_sub-most : goal.overflow_sub-most
overflow_sub-most c = omega (arith, page_least c.bytes.ensures.size)

pub overflow_mul-most : goal.overflow_mul-most
overflow_mul-most c =
    let few = rw (← c.bytes.ensures.bytes) at c.requires.few in
    omega (arith, product_small ((c.bytes.result - 4) / 4) c.args.index c.bytes.ensures.size few c.requires.upto (omega arith))

pub returns : goal.returns
returns c = rw (← c.bytes.ensures.bytes, numbers_before_is c.args.total c.bytes.ensures.size c.args.index) (omega arith)
