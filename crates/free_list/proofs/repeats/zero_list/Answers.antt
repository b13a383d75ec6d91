-- The page that comes next lies in the store, and its entries stand on it.
use Rattle.std.proofs.Common.{◌≡◌, ◌-◌, ◌+◌, ◌∷◌}
use Rattle.free_list.proofs.repeats.zero_list.Goals as goal
use Rattle.free_list.proofs.repeats.zero_list.Goals.{After-page-bytes}
use mathlib.Core.Path.{sym, ap, ◌∙◌}
use native.Mathlib.Omega.{arith}
use lib.Dec.{leb}
use Rattle.bit_map.specs.BitMap.{bytes_in_use}
use Rattle.bit_map.specs.Marking.{bytes_zero}
use Rattle.bit_map.proofs.MarkingLaws.{zero-append}
use Rattle.free_list.specs.ListPages.{entries_of, prev_within}
use Rattle.free_list.specs.Steps.{chain_numbers}
use Rattle.free_list.proofs.RepeatsLaws.{Next, next_inside, chain_next}

pub loop-init : goal.loop-init
loop-init c =
    let all : c.args.list.pages - 0 ≡ c.args.list.pages = omega arith in
    record { readable = rw all c.requires.readable; room = rw c.page_count-limit.ensures c.requires.room; same = rw all }

pub page-bytes-requires : goal.page-bytes-requires
page-bytes-requires c = next_inside _ _ _ _ (omega (arith, c.loop-test.true)) c.loop.invariant.readable

next : (c : After-page-bytes) → Next c.args.store.now.page_size c.args.store.now.bytes (c.args.list.pages - c.loop.counter) c.loop.page c.page-bytes.result.now
next c = chain_next _ _ _ _ _ c.requires.size (omega (arith, c.loop-test.true)) c.loop.invariant.readable c.page-bytes.ensures

pub zero_page-requires : goal.zero_page-requires
zero_page-requires c = ((next (goal.at.zero_page-requires c).After-page-bytes).room, c.loop.invariant.room)

pub loop-preserved : goal.loop-preserved
loop-preserved c =
    let x = c.args.store.now in
    let n = next (goal.at.loop-preserved c).After-page-bytes in
    let q = c.prev_pn-page.result.0 in
    let before : q ≡ prev_within c.page-bytes.result.now = c.prev_pn-page.ensures ∙ ap (λ r. prev_within r.now) c.new.ensures in
    let one : c.args.list.pages - (c.loop.counter + 1) ≡ c.args.list.pages - c.loop.counter - 1 = omega arith in
    record {
      readable = rw one (n.below q before);
      room = ap (leb (bytes_in_use c.page_count-limit.result)) c.zero_page.auto.map ∙ c.loop.invariant.room;
      same =
          rw (one, c.zero_page.ensures)
          (sym (zero-append c.page_count-limit.result c.loop.map (c.loop.page ∷ entries_of c.page-bytes.result.now) (chain_numbers x.page_size x.bytes (c.args.list.pages - c.loop.counter - 1) q))
          ∙ ap (bytes_zero c.page_count-limit.result c.loop.map) (sym (n.numbers q before)) ∙ c.loop.invariant.same);
    }

pub returns : goal.returns
unfolding chain_numbers bytes_zero
returns c =
    let none : c.args.list.pages - c.loop.counter ≡ 0 = omega (arith, c.loop-test.false) in
    rw (← c.page_count-limit.ensures) (rw none at c.loop.invariant.same)
