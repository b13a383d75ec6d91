use Rattle.bit_map.proofs.marking.zero_bytes.Goals as goal
use mathlib.Core.Path.{sym, ap, ◌∙◌}
use native.Mathlib.Omega.{arith}
use lib.Dec.{leb}
use Rattle.bit_map.specs.BitMap.{bytes_in_use}
use Rattle.bit_map.proofs.MarkingLaws.{next_zero, no_zero_left}

pub loop-number-preserved : goal.loop-number-preserved
loop-number-preserved c = record {
  room = ap (leb (bytes_in_use c.args.limit)) c.zero_byte.auto.map ∙ c.loop-number.invariant.room;
  same = rw c.zero_byte.ensures (next_zero c.args.limit c.loop-number.map c.args.numbers.now c.loop-number.number-index c.loop-number-test.true ∙ c.loop-number.invariant.same);
}

pub returns : goal.returns
returns c = sym (no_zero_left c.args.limit c.loop-number.map c.args.numbers.now c.loop-number.number-index (omega (arith, c.loop-number-test.false))) ∙ c.loop-number.invariant.same
