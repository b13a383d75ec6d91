-- The page that comes next lies in the store, and its entries stand on it.
use Rattle.std.proofs.Common.{◌≡◌, ◌-◌, ◌+◌, ◌∷◌}
use Rattle.free_list.proofs.repeats.mark_list.Goals as goal
use Rattle.free_list.proofs.repeats.mark_list.Goals.{After-page-bytes}
use mathlib.Core.Path.{refl, sym, ap, ◌∙◌}
use native.Mathlib.Omega.{arith}
use lib.Dec.{leb}
use Rattle.bit_map.specs.BitMap.{bytes_in_use}
use Rattle.bit_map.specs.Marking.{mark_all}
use Rattle.bit_map.proofs.MarkingLaws.{marks_on, marks_off}
use Rattle.free_list.specs.ListPages.{entries_of, prev_within}
use Rattle.free_list.specs.Steps.{chain_numbers}
use Rattle.free_list.proofs.RepeatsLaws.{Next, next_inside, chain_next}

pub loop-init : goal.loop-init
loop-init c =
    let all : c.args.list.pages - 0 ≡ c.args.list.pages = omega arith in
    record { readable = rw all c.requires.readable; room = rw c.page_count-limit.ensures c.requires.room; same = rw all }

pub page-bytes-requires : goal.page-bytes-requires
page-bytes-requires c = next_inside _ _ _ _ (omega (arith, c.loop-test.true)) c.loop.invariant.readable

next : (c : After-page-bytes) → Next c.args.store.now.page_size c.args.store.now.bytes (c.args.list.pages - c.loop.counter) c.loop.page c.page-bytes.result.now
next c = chain_next _ _ _ _ _ c.requires.size (omega (arith, c.loop-test.true)) c.loop.invariant.readable c.page-bytes.ensures

pub mark_page-requires : goal.mark_page-requires
mark_page-requires c = ((next (goal.at.mark_page-requires c).After-page-bytes).room, c.loop.invariant.room)

pub returns-then-not-mark_page : goal.returns-then-not-mark_page
returns-then-not-mark_page c =
    let x = c.args.store.now in
    let n = next (goal.at.returns-then-not-mark_page c).After-page-bytes in
    rw (← c.page_count-limit.ensures)
    (sym (marks_off c.page_count-limit.result c.loop.map (c.loop.page ∷ entries_of c.page-bytes.result.now) (chain_numbers x.page_size x.bytes (c.args.list.pages - c.loop.counter - 1) (prev_within c.page-bytes.result.now)) c.mark_page.ensures c.if-not-mark_page.true)
    ∙ ap (mark_all c.page_count-limit.result c.loop.map) (sym (n.numbers _ refl)) ∙ c.loop.invariant.same)

pub loop-preserved : goal.loop-preserved
loop-preserved c =
    let x = c.args.store.now in
    let n = next (goal.at.loop-preserved c).After-page-bytes in
    let q = c.prev_pn-page.result.0 in
    let before : q ≡ prev_within c.page-bytes.result.now = c.prev_pn-page.ensures ∙ ap (λ r. prev_within r.now) c.new.ensures in
    let one : c.args.list.pages - (c.loop.counter + 1) ≡ c.args.list.pages - c.loop.counter - 1 = omega arith in
    record {
      readable = rw one (n.below q before);
      room = ap (leb (bytes_in_use c.page_count-limit.result)) c.mark_page.auto.map ∙ c.loop.invariant.room;
      same =
          rw one
          (sym (marks_on c.page_count-limit.result c.loop.map (c.loop.page ∷ entries_of c.page-bytes.result.now) (chain_numbers x.page_size x.bytes (c.args.list.pages - c.loop.counter - 1) q) c.mark_page.ensures c.if-not-mark_page.false)
          ∙ ap (mark_all c.page_count-limit.result c.loop.map) (sym (n.numbers q before)) ∙ c.loop.invariant.same);
    }

pub returns : goal.returns
unfolding chain_numbers mark_all
returns c =
    let none : c.args.list.pages - c.loop.counter ≡ 0 = omega (arith, c.loop-test.false) in
    rw (← c.page_count-limit.ensures) (rw none at c.loop.invariant.same)
