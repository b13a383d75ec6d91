use Rattle.std.proofs.Common.{◌≡◌, ◌∷◌, []}
use Rattle.free_list.proofs.repeats.mark_page.Goals as goal
use Rattle.free_list.proofs.repeats.mark_page.Goals.{After-from-count}
use mathlib.Core.Path.{sym, ap, ◌∙◌}
use native.Mathlib.Omega.{arith}
use lib.Dec.{leb}
use Rattle.bit_map.specs.BitMap.{bytes_in_use}
use Rattle.bit_map.proofs.MarkingLaws.{marks_on, marks_off, next_on, next_off, none_left}
use Rattle.free_list.specs.ListPages.{count_of, entries_of, count_within}
use Rattle.free_list.proofs.ListPagesLaws.{length-entries_of, count_within_lem}
use Rattle.free_list.proofs.RepeatsLaws.{entry_read}

pub returns-then-not-mark_new : goal.returns-then-not-mark_new
returns-then-not-mark_new c = sym (marks_off c.args.limit c.args.map.now (c.args.page ∷ []) (entries_of c.args.bytes.now) c.mark_new.ensures c.if-not-mark_new.true)

counted : (c : After-from-count) → c.from-count.result ≡ count_of c.args.bytes.now
counted c = c.from-count.ensures ∙ c.item_count.ensures ∙ ap (λ r. count_within r.now) c.new.ensures ∙ count_within_lem c.args.bytes.now (omega (arith, c.requires.0))

pub loop-i-init : goal.loop-i-init
loop-i-init c = record {
  room = ap (leb (bytes_in_use c.args.limit)) c.mark_new.auto.map ∙ c.requires.1;
  same = sym (marks_on c.args.limit c.args.map.now (c.args.page ∷ []) (entries_of c.args.bytes.now) c.mark_new.ensures c.if-not-mark_new.false);
}

pub read_at-requires : goal.read_at-requires
read_at-requires c = omega (arith, c.requires.0, c.loop-i-test.true, counted (goal.at.read_at-requires c).After-from-count)

pub returns-then-not-mark_new-2 : goal.returns-then-not-mark_new-2
returns-then-not-mark_new-2 c =
    let count = counted (goal.at.returns-then-not-mark_new-2 c).After-from-count in
    let ns = entries_of c.args.bytes.now in
    let i = c.loop-i.i in
    let entry = entry_read c.args.bytes.now i c.read_at.result (omega (arith, c.loop-i-test.true, count)) c.read_at.ensures in
    sym (next_off c.args.limit c.loop-i.map ns i (omega (arith, c.loop-i-test.true, count, length-entries_of c.args.bytes.now)) (rw entry at c.mark_new-in-loop-i.ensures) c.if-not-mark_new-2.true)
    ∙ c.loop-i.invariant.same

pub loop-i-preserved : goal.loop-i-preserved
loop-i-preserved c =
    let count = counted (goal.at.loop-i-preserved c).After-from-count in
    let ns = entries_of c.args.bytes.now in
    let i = c.loop-i.i in
    let entry = entry_read c.args.bytes.now i c.read_at.result (omega (arith, c.loop-i-test.true, count)) c.read_at.ensures in
    record {
      room = ap (leb (bytes_in_use c.args.limit)) c.mark_new-in-loop-i.auto.map ∙ c.loop-i.invariant.room;
      same =
          next_on c.args.limit c.loop-i.map ns i (omega (arith, c.loop-i-test.true, count, length-entries_of c.args.bytes.now)) (rw entry at c.mark_new-in-loop-i.ensures) c.if-not-mark_new-2.false
          ∙ c.loop-i.invariant.same;
    }

pub returns : goal.returns
returns c =
    let count = counted (goal.at.returns c).After-from-count in
    sym (none_left c.args.limit c.loop-i.map (entries_of c.args.bytes.now) c.loop-i.i (omega (arith, c.loop-i-test.false, count, length-entries_of c.args.bytes.now))) ∙ c.loop-i.invariant.same
