-- `copy_rest` meets its contract: so many bytes are left behind the whole words as the remainder says.
use Rattle.std.proofs.Common.{◌≡◌, ◌+◌, ◌-◌, ◌<◌, ◌%◌, add-one, length, drop, take, get_or, get_or-drop}
use Rattle.std.proofs.lemmas.List.Edits.{sets}
use Rattle.std.proofs.Math.Seq.{take-suc, take-length}
use Rattle.page.proofs.copy.copy_rest.Goals as goal
use mathlib.Core.Path.{◌∙◌, ap}
use native.Mathlib.Omega.{arith}
use lib.ListN.{length-drop}
use lib.Seq.{length-take-le}
use Rattle.laws.proofs.SetsLaws.{sets-snoc}

pub loop-i-preserved : goal.loop-i-preserved
loop-i-preserved c =
    let x = c.args in
    let i = c.loop-i.i in
    let done = length x.a.now - length x.a.now % 8 in
    let behind = drop done x.a.now in
    let inside : i < length behind = omega (arith, c.loop-i-test.true, length-drop done x.a.now) in
    let first = take i behind in
    rw (add-one, take-suc behind i 0 inside, get_or-drop, sets-snoc x.b.now (x.at + done) first (get_or x.a.now (done + i) 0) i (length-take-le i behind (omega arith)), ← c.loop-i.invariant)

pub returns : goal.returns
returns c =
    let x = c.args in
    let done = length x.a.now - length x.a.now % 8 in
    let behind = drop done x.a.now in
    let all : c.loop-i.i ≡ length behind = omega (arith, c.loop-i-test.false, c.loop-i.auto.i-end, length-drop done x.a.now) in
    c.loop-i.invariant ∙ rw all (ap (sets x.b.now (x.at + done)) (take-length behind))
