-- `walk` meets its contract: a page ends the walk, stops it, or is taken.
use Rattle.overflow.proofs.walk.walk.Goals as goal
use mathlib.Core.Path.{sym, ◌∙◌}
use native.Mathlib.Omega.{arith}
use Rattle.std.proofs.lemmas.Result.{err_from_is_err_and}
use Rattle.overflow.proofs.TotalsLaws.{max_size_lem}
use Rattle.overflow.proofs.TableLaws.{walking_from, walking_stopped, walking_ended, walking_next, walking_done}

pub loop-i-init : goal.loop-i-init
loop-i-init c = walking_from _ _ _ _ _ c.requires.small

pub returns-in_err-page : goal.returns-in_err-page
returns-in_err-page c =
    let p = err_from_is_err_and c.from_residual.result c.from_residual.ensures.1 in
    rw (p.1, p.2) (walking_stopped c.loop-i.invariant (omega arith) c.in_err-page.ensures)

pub overflow_add-found-in-loop-i : goal.overflow_add-found-in-loop-i
overflow_add-found-in-loop-i c = omega (arith, c.loop-i.invariant.place, c.loop-i.invariant.small.size, c.requires.few, max_size_lem c.args.store.now.page_size)

pub overflow_add-found-in-loop-i-2 : goal.overflow_add-found-in-loop-i-2
overflow_add-found-in-loop-i-2 c = omega (arith, c.loop-i.invariant.place, c.loop-i.invariant.small.numbers, c.requires.few, max_size_lem c.args.store.now.page_size)

pub returns-then-ends_with : goal.returns-then-ends_with
returns-then-ends_with c =
    let numbers = c.from-in-loop-i.ensures ∙ c.number_count.ensures in
    let bytes = c.from.ensures ∙ c.byte_count-bytes.ensures in
    walking_ended c.loop-i.invariant (omega arith) c.in_ok-page.ensures numbers bytes (rw (← c.from.ensures) at (sym c.ends_with.ensures ∙ c.if-ends_with.true))

pub loop-i-preserved : goal.loop-i-preserved
loop-i-preserved c =
    let numbers = c.from-in-loop-i.ensures ∙ c.number_count.ensures in
    let bytes = c.from.ensures ∙ c.byte_count-bytes.ensures in
    walking_next c.loop-i.invariant (omega arith) c.in_ok-page.ensures numbers bytes c.visit_page.auto.table (omega arith) (omega arith) (rw (← c.from.ensures) at (sym c.ends_with.ensures ∙ c.if-ends_with.false))

pub returns : goal.returns
returns c = walking_done c.loop-i.invariant (omega arith)
