-- `swap_head` and `take_page`, which call each other: what the inner call turned becomes what the caller did, by the laws of `StepsLaws`.
use Rattle.preallocate.proofs.list.LentList.+swap_head_take_page.Goals as goal
use native.Mathlib.Omega.{arith}
use mathlib.Core.Path.{sym}
use Rattle.preallocate.proofs.StepsLaws.{whole_entries, swapped_ready, along_start, along_due, turned_after, turned_before, turned_taken, turned_swapped}

pub swap_head-top_swapped-swapped-requires : goal.swap_head-top_swapped-swapped-requires
swap_head-top_swapped-swapped-requires t c =
    let d = c.requires.0 in
    (whole_entries d.packed c.requires.1, d.packed.within, omega (arith, d.small))

pub swap_head-take_page-requires : goal.swap_head-take_page-requires
swap_head-take_page-requires t c =
    let d = c.requires.0 in
    let r = swapped_ready d.packed d.short d.small c.requires.1 in
    rw c.top_swapped-swapped.ensures (omega (arith, c.decreases, r.0), r.1)

pub swap_head-returns : goal.swap_head-returns
swap_head-returns t c = turned_swapped c.requires.0 c.requires.1 (rw c.top_swapped-swapped.ensures at c.take_page.ensures)

pub take_page-loop-q-init : goal.take_page-loop-q-init
take_page-loop-q-init t c =
    let f = (turned_taken c.requires.0 c.requires.1 c.take_one-q.ensures c.take_one-q.auto.out).along in
    along_start f.packed f.small

pub take_page-returns-then-nested-eq0 : goal.take_page-returns-then-nested-eq0
take_page-returns-then-nested-eq0 t c =
    turned_before (turned_taken c.requires.0 c.requires.1 c.take_one-q.ensures c.take_one-q.auto.out) c.loop-q.invariant

pub take_page-swap_head-requires : goal.take_page-swap_head-requires
take_page-swap_head-requires t c =
    let first = turned_taken c.requires.0 c.requires.1 c.take_one-q.ensures c.take_one-q.auto.out in (
      omega (arith, c.decreases, first.falls, c.loop-q.invariant.less),
      (along_due c.loop-q.invariant (omega (arith, c.loop-q-test.true, c.room.ensures)), sym c.if-is_whole.ensures),
    )

pub take_page-returns-then-is_whole : goal.take_page-returns-then-is_whole
take_page-returns-then-is_whole t c =
    let first = turned_taken c.requires.0 c.requires.1 c.take_one-q.ensures c.take_one-q.auto.out in
    turned_before first (turned_after c.loop-q.invariant c.swap_head.ensures).along

pub take_page-loop-q-smaller : goal.take_page-loop-q-smaller
take_page-loop-q-smaller t c =
    let due = along_due c.loop-q.invariant (omega (arith, c.loop-q-test.true, c.room.ensures)) in
    (turned_taken due (sym c.if-is_whole.ensures) c.take_one-q-in-loop-q.ensures c.take_one-q-in-loop-q.auto.out).falls

pub take_page-loop-q-preserved : goal.take_page-loop-q-preserved
take_page-loop-q-preserved t c =
    let due = along_due c.loop-q.invariant (omega (arith, c.loop-q-test.true, c.room.ensures)) in
    (turned_after c.loop-q.invariant (turned_taken due (sym c.if-is_whole.ensures) c.take_one-q-in-loop-q.ensures c.take_one-q-in-loop-q.auto.out)).along

pub take_page-returns : goal.take_page-returns
take_page-returns t c =
    turned_before (turned_taken c.requires.0 c.requires.1 c.take_one-q.ensures c.take_one-q.auto.out) c.loop-q.invariant
