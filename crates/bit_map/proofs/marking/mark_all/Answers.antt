use Rattle.bit_map.proofs.marking.mark_all.Goals as goal
use mathlib.Core.Path.{sym, ap, ◌∙◌}
use native.Mathlib.Omega.{arith}
use lib.Dec.{leb}
use Rattle.bit_map.specs.BitMap.{bytes_in_use}
use Rattle.bit_map.proofs.MarkingLaws.{next_on, next_off, none_left}

pub returns-then-not-mark_new : goal.returns-then-not-mark_new
returns-then-not-mark_new c =
    sym (next_off c.args.limit c.loop-number.map c.args.numbers.now c.loop-number.number-index c.loop-number-test.true c.mark_new.ensures c.if-not-mark_new.true) ∙ c.loop-number.invariant.same

pub loop-number-preserved : goal.loop-number-preserved
loop-number-preserved c = record {
  room = ap (leb (bytes_in_use c.args.limit)) c.mark_new.auto.map ∙ c.loop-number.invariant.room;
  same = next_on c.args.limit c.loop-number.map c.args.numbers.now c.loop-number.number-index c.loop-number-test.true c.mark_new.ensures c.if-not-mark_new.false ∙ c.loop-number.invariant.same;
}

pub returns : goal.returns
returns c = sym (none_left c.args.limit c.loop-number.map c.args.numbers.now c.loop-number.number-index (omega (arith, c.loop-number-test.false))) ∙ c.loop-number.invariant.same
