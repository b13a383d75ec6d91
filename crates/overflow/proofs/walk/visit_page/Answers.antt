-- `visit_page` meets its contract: the numbers that are queued lie on the page.
use Rattle.std.proofs.Common.{length}
use Rattle.overflow.proofs.walk.visit_page.Goals as goal
use mathlib.Core.Path.{◌∙◌}
use native.Mathlib.Omega.{arith}
use Rattle.overflow.specs.Reading.{in_store}
use Rattle.overflow.proofs.ParseLaws.{store_paged}
use Rattle.overflow.proofs.TableLaws.{visit_room, visit_taken}

pub queue-requires : goal.queue-requires
queue-requires c =
    let x = c.args in
    let s = x.store.now.page_size in
    visit_room s (in_store s x.store.now.bytes) (length x.table.now) x.i x.known x.table.now c.in_ok-page.ensures (store_paged s x.store.now.bytes) (c.from.ensures ∙ c.number_count.ensures)

pub returns : goal.returns
returns c =
    let x = c.args in
    let s = x.store.now.page_size in
    visit_taken s (in_store s x.store.now.bytes) (length x.table.now) x.i x.known x.table.now c.in_ok-page.ensures (store_paged s x.store.now.bytes) (c.from.ensures ∙ c.number_count.ensures) (omega (arith, c.if-known-i.false)) c.queue.ensures
