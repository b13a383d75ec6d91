use Rattle.std.proofs.Common.{◌≡◌, ◌+◌, ◌<◌, length, get_or, map}
use Rattle.page.specs.Bytes.{bytes_of_all}
use Rattle.page.proofs.little_endian.write_numbers.Goals as goal
use mathlib.Core.Path.{refl, ap, sym, ◌∙◌}
use native.Mathlib.Nat.{zero-add}
use native.Mathlib.Omega.{arith}
use Rattle.std.proofs.lemmas.List.{length-map, get_or-map}
use Rattle.std.proofs.Math.Seq.{take-length}
use Rattle.page.proofs.BytesLaws.{bytes_more, number_inside}

pub loop-number-init : goal.loop-number-init
unfolding bytes_of_all
loop-number-init g c = record { counted = refl; written = refl }

pub overflow_mul-WIDTH : goal.overflow_mul-WIDTH
overflow_mul-WIDTH g c =
    omega (arith, number_inside g.T.LittleEndian.WIDTH c.loop-number.written c.args.at (length c.args.table.now) c.WIDTH.ensures c.loop-number.invariant.counted c.loop-number-test.true c.requires, c.well_formed)

pub overflow_add-at : goal.overflow_add-at
overflow_add-at g c =
    omega (arith, number_inside g.T.LittleEndian.WIDTH c.loop-number.written c.args.at (length c.args.table.now) c.WIDTH.ensures c.loop-number.invariant.counted c.loop-number-test.true c.requires, c.well_formed)

pub write_at-requires : goal.write_at-requires
write_at-requires g c =
    rw c.loop-number.auto.b (number_inside g.T.LittleEndian.WIDTH c.loop-number.written c.args.at (length c.args.table.now) c.WIDTH.ensures c.loop-number.invariant.counted c.loop-number-test.true c.requires)

pub overflow_add-written : goal.overflow_add-written
overflow_add-written g c = omega (arith, c.loop-number.invariant.counted, c.loop-number-test.true, c.well_formed)

pub loop-number-preserved : goal.loop-number-preserved
loop-number-preserved g c =
    let x = c.args in
    let w = g.T.LittleEndian.WIDTH in
    let value = g.T.LittleEndian.value in
    let numbers = map value x.table.now in
    let i = c.loop-number.number-index in
    let kept = c.loop-number.invariant in
    let inside : 0 + i < length numbers = rw (zero-add, length-map x.table.now value) c.loop-number-test.true in
    let this : value c.number-item.result ≡ get_or numbers (0 + i) 0 =
    rw zero-add (ap value c.number-item.is ∙ sym (get_or-map value x.table.now i c.number-item.result 0 c.loop-number-test.true)) in
    let written = rw (this, c.WIDTH.ensures, kept.counted) at c.write_at.ensures in
    record { counted = omega (arith, kept.counted); written = bytes_more w x.b.now c.loop-number.b _ numbers 0 x.at i inside kept.written written }

pub returns-clause-count : goal.returns-clause-count
returns-clause-count g c = omega (arith, c.loop-number.invariant.counted, c.loop-number-test.false, c.loop-number.auto.number-index-end)

pub returns-clause-bytes : goal.returns-clause-bytes
returns-clause-bytes g c =
    let numbers = map g.T.LittleEndian.value c.args.table.now in
    let all : c.loop-number.number-index ≡ length numbers =
    (omega (arith, c.loop-number-test.false, c.loop-number.auto.number-index-end)) ∙ sym (length-map c.args.table.now g.T.LittleEndian.value) in
    rw (all, take-length numbers) at c.loop-number.invariant.written
