use Rattle.std.proofs.Common.{◌≡◌, length, map}
use Rattle.page.specs.Bytes.{numbers_at}
use Rattle.page.proofs.little_endian.read_numbers.Goals as goal
use mathlib.Core.Path.{refl, sym, ◌∙◌}
use native.Mathlib.Omega.{arith}
use native.Mathlib.Nat.{zero-add}
use Rattle.std.proofs.lemmas.List.{map-set, length-map}
use Rattle.laws.proofs.SetsLaws.{sets_whole}
use Rattle.page.proofs.BytesLaws.{length-numbers_at, numbers_more}

pub loop-i-init : goal.loop-i-init
unfolding numbers_at
loop-i-init g c = refl

pub loop-i-preserved : goal.loop-i-preserved
loop-i-preserved g c =
    let value = g.T.LittleEndian.value in
    let read = rw c.WIDTH.ensures at c.read_at.ensures in
    map-set value c.loop-i.table c.loop-i.i c.read_at.result
    ∙ rw zero-add at (numbers_more g.T.LittleEndian.WIDTH (map value c.args.table.now) (map value c.loop-i.table) c.args.b.now c.args.at 0 c.loop-i.i _ c.loop-i.invariant read)

pub returns : goal.returns
returns g c =
    let w = g.T.LittleEndian.WIDTH in
    let table = map g.T.LittleEndian.value c.args.table.now in
    let n = length c.args.table.now in
    let e : c.loop-i.i ≡ n = omega arith in
    let long = length-map c.args.table.now g.T.LittleEndian.value in
    rw e at c.loop-i.invariant ∙ sets_whole table (numbers_at w c.args.b.now c.args.at n) (length-numbers_at w c.args.b.now c.args.at n ∙ sym long)
