-- `write_page` meets its contract: the header, the entries and the zeros behind them fill the page.
use Rattle.free_list.proofs.encode.write_page.Goals as goal
use mathlib.Core.Path.{refl}
use Rattle.std.proofs.lemmas.List.{map-id}
use Rattle.free_list.proofs.ListPagesLaws.{encoded}

pub returns : goal.returns
returns c =
    encoded _ c.args.prev.0 c.args.entries.now c.args.page.now _ _ _ _ refl c.requires.0 c.write_at.ensures c.write_at-2.ensures (rw map-id at c.write_numbers.ensures.bytes)
    (c.fill.ensures.after (λ y e. e))
