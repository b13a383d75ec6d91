-- `encode_value_page` meets its contract: the counts, the numbers, the bytes and the zeros behind them are the page.
use Rattle.std.proofs.Common.{length}
use Rattle.overflow.proofs.value_page.encode_value_page.Goals as goal
use mathlib.Core.Path.{refl}
use Rattle.std.proofs.lemmas.List.{map-id}
use Rattle.overflow.proofs.ValuePagesLaws.{encoded}

pub returns : goal.returns
returns c =
    encoded (length c.args.page.now) c.args.numbers.now c.args.value.now c.requires.fits c.args.page.now refl refl c.write_at.ensures c.write_at-2.ensures (rw map-id at c.write_numbers.ensures.bytes) c.copy_steps.ensures.1 c.clear_steps.ensures.1
