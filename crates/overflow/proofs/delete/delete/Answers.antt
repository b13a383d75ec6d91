-- `delete` meets its contract: the cell is refused, or one law for each way in which the walk comes out.
use Rattle.overflow.proofs.delete.delete.Goals as goal
use mathlib.Core.Path.{sym}
use native.Mathlib.Omega.{arith}
use Rattle.std.proofs.lemmas.Result.{err_from_is_err_and}
use Rattle.overflow.proofs.AdmitLaws.{admission}
use Rattle.overflow.proofs.ReadLaws.{part_long, delete_stopped, delete_numbers, delete_all}

pub slice_bounds-first_walk-end : goal.slice_bounds-first_walk-end
slice_bounds-first_walk-end c = (admission _ _ _ _ c.in_ok-needs.ensures.page_size c.in_ok-needs.ensures.needs).numbers_room

pub slice_bounds-first_walk-end-2 : goal.slice_bounds-first_walk-end-2
slice_bounds-first_walk-end-2 c = sym (part_long _ _ c.args.store.now.bytes _ (admission _ _ _ _ c.in_ok-needs.ensures.page_size c.in_ok-needs.ensures.needs))

pub first_walk-requires-clause-cell : goal.first_walk-requires-clause-cell
first_walk-requires-clause-cell c = (admission _ _ _ _ c.in_ok-needs.ensures.page_size c.in_ok-needs.ensures.needs).long

pub first_walk-requires-clause-few : goal.first_walk-requires-clause-few
first_walk-requires-clause-few c =
    let a = (admission _ _ _ _ c.in_ok-needs.ensures.page_size c.in_ok-needs.ensures.needs) in
    omega (arith, a.few, part_long _ _ c.args.store.now.bytes _ a)

pub returns-in_err-found : goal.returns-in_err-found
returns-in_err-found c =
    let p = err_from_is_err_and c.from_residual-in_err-found.result c.from_residual-in_err-found.ensures.1 in
    rw (p.1, p.2) (delete_stopped _ _ _ _ (admission _ _ _ _ c.in_ok-needs.ensures.page_size c.in_ok-needs.ensures.needs) (rw c.page_size.ensures at c.max_overflow_value_size-largest.ensures) c.in_err-found.ensures)

pub returns-then-found-total : goal.returns-then-found-total
returns-then-found-total c =
    delete_numbers _ _ _ _ (admission _ _ _ _ c.in_ok-needs.ensures.page_size c.in_ok-needs.ensures.needs) c.in_ok-needs.ensures.page_size c.in_ok-found.ensures c.counted_total-total.ensures (rw c.page_size.ensures at c.max_overflow_value_size-largest.ensures) c.if-found-total.true

pub returns : goal.returns
returns c =
    delete_all _ _ _ _ (admission _ _ _ _ c.in_ok-needs.ensures.page_size c.in_ok-needs.ensures.needs) c.in_ok-needs.ensures.page_size c.in_ok-found.ensures c.counted_total-total.ensures (rw c.page_size.ensures at c.max_overflow_value_size-largest.ensures) c.if-found-total.false
