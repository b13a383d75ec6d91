-- `read` meets its contract: the cell is refused, or one law for each way in which the two walks come out.
use Rattle.overflow.proofs.read.read.Goals as goal
use mathlib.Core.Path.{refl, sym}
use native.Mathlib.Omega.{arith}
use Rattle.std.proofs.lemmas.Result.{err_from_is_err_and}
use Rattle.overflow.proofs.AdmitLaws.{admission}
use Rattle.overflow.proofs.ReadLaws.{part_long, read_first_stopped, total_few, total_room, part_2_long, small, read_stopped, read_numbers, read_bytes, copyable, read_all}

pub slice_bounds-first_walk-end : goal.slice_bounds-first_walk-end
slice_bounds-first_walk-end c = (admission _ _ _ _ c.in_ok-needs.ensures.page_size c.in_ok-needs.ensures.needs).numbers_room

pub slice_bounds-first_walk-end-2 : goal.slice_bounds-first_walk-end-2
slice_bounds-first_walk-end-2 c = sym (part_long _ _ c.args.store.now.bytes _ (admission _ _ _ _ c.in_ok-needs.ensures.page_size c.in_ok-needs.ensures.needs))

pub first_walk-requires-clause-cell : goal.first_walk-requires-clause-cell
first_walk-requires-clause-cell c = (admission _ _ _ _ c.in_ok-needs.ensures.page_size c.in_ok-needs.ensures.needs).long

pub first_walk-requires-clause-few : goal.first_walk-requires-clause-few
first_walk-requires-clause-few c =
    let a = (admission _ _ _ _ c.in_ok-needs.ensures.page_size c.in_ok-needs.ensures.needs) in
    omega (arith, a.few, part_long _ _ c.args.store.now.bytes _ a)

pub returns-in_err-found : goal.returns-in_err-found
returns-in_err-found c =
    let p = err_from_is_err_and c.from_residual-in_err-found.result c.from_residual-in_err-found.ensures.1 in
    rw (p.1, p.2) (read_first_stopped _ _ _ _ (admission _ _ _ _ c.in_ok-needs.ensures.page_size c.in_ok-needs.ensures.needs) _ refl c.in_err-found.ensures)

pub slice_bounds-table-end : goal.slice_bounds-table-end
slice_bounds-table-end c = total_room _ _ _ _ (admission _ _ _ _ c.in_ok-needs.ensures.page_size c.in_ok-needs.ensures.needs) c.in_ok-needs.ensures.page_size c.in_ok-found.ensures c.counted_total-total.ensures

pub slice_bounds-table-end-2 : goal.slice_bounds-table-end-2
slice_bounds-table-end-2 c = sym (part_2_long _ _ _ _ (admission _ _ _ _ c.in_ok-needs.ensures.page_size c.in_ok-needs.ensures.needs) c.in_ok-needs.ensures.page_size c.in_ok-found.ensures c.counted_total-total.ensures)

pub walk-requires-clause-small : goal.walk-requires-clause-small
walk-requires-clause-small c = small _ _ _ _ (admission _ _ _ _ c.in_ok-needs.ensures.page_size c.in_ok-needs.ensures.needs) c.in_ok-needs.ensures.page_size c.in_ok-found.ensures c.counted_total-total.ensures (omega (arith, c.well_formed))

pub walk-requires-clause-few : goal.walk-requires-clause-few
walk-requires-clause-few c =
    let a = (admission _ _ _ _ c.in_ok-needs.ensures.page_size c.in_ok-needs.ensures.needs) in
    omega (arith, a.few, total_few _ _ _ _ (admission _ _ _ _ c.in_ok-needs.ensures.page_size c.in_ok-needs.ensures.needs) c.in_ok-needs.ensures.page_size c.in_ok-found.ensures c.counted_total-total.ensures, part_2_long _ _ _ _ (admission _ _ _ _ c.in_ok-needs.ensures.page_size c.in_ok-needs.ensures.needs) c.in_ok-needs.ensures.page_size c.in_ok-found.ensures c.counted_total-total.ensures)

pub returns-in_err-found-2 : goal.returns-in_err-found-2
returns-in_err-found-2 c =
    let p = err_from_is_err_and c.from_residual-in_err-found-2.result c.from_residual-in_err-found-2.ensures.1 in
    rw (p.1, p.2) (read_stopped _ _ _ _ (admission _ _ _ _ c.in_ok-needs.ensures.page_size c.in_ok-needs.ensures.needs) c.in_ok-needs.ensures.page_size c.in_ok-found.ensures c.counted_total-total.ensures _ refl c.in_err-found-2.ensures)

pub returns-then-found-total : goal.returns-then-found-total
returns-then-found-total c = read_numbers _ _ _ _ (admission _ _ _ _ c.in_ok-needs.ensures.page_size c.in_ok-needs.ensures.needs) c.in_ok-needs.ensures.page_size c.in_ok-found.ensures c.counted_total-total.ensures _ refl c.in_ok-found-2.ensures c.if-found-total.true

pub returns-then-found-needs : goal.returns-then-found-needs
returns-then-found-needs c = read_bytes _ _ _ _ (admission _ _ _ _ c.in_ok-needs.ensures.page_size c.in_ok-needs.ensures.needs) c.in_ok-needs.ensures.page_size c.in_ok-found.ensures c.counted_total-total.ensures _ refl c.in_ok-found-2.ensures c.if-found-total.false c.if-found-needs.true

pub copy_value-requires : goal.copy_value-requires
copy_value-requires c = copyable _ _ _ _ (admission _ _ _ _ c.in_ok-needs.ensures.page_size c.in_ok-needs.ensures.needs) c.in_ok-needs.ensures.page_size c.in_ok-found.ensures c.counted_total-total.ensures _ refl c.in_ok-found-2.ensures c.if-found-total.false c.if-found-needs.false

pub returns : goal.returns
returns c = read_all _ _ _ _ (admission _ _ _ _ c.in_ok-needs.ensures.page_size c.in_ok-needs.ensures.needs) c.in_ok-needs.ensures.page_size c.in_ok-found.ensures c.counted_total-total.ensures _ refl c.in_ok-found-2.ensures c.if-found-total.false c.if-found-needs.false c.copy_value.ensures
