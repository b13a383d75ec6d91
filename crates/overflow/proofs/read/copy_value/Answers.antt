-- Each page's bytes go behind those before it.
use Rattle.overflow.proofs.read.copy_value.Goals as goal
use mathlib.Core.Path.{ap}
use native.Mathlib.Omega.{arith}
use Rattle.overflow.proofs.CopyingLaws.{copying_start, copied}

pub loop-number-init : goal.loop-number-init
loop-number-init c = copying_start _ _ _ _

pub copy-requires : goal.copy-requires
copy-requires c = (copied c.requires c.loop-number.invariant c.loop-number-test.true c.page.ensures (ap (λ r. r.now) c.new.ensures) c.bytes-bytes.ensures).room

pub overflow_add-at : goal.overflow_add-at
overflow_add-at c =
    let room = (copied c.requires c.loop-number.invariant c.loop-number-test.true c.page.ensures (ap (λ r. r.now) c.new.ensures) c.bytes-bytes.ensures).room in
    omega (arith, c.well_formed)

pub loop-number-preserved : goal.loop-number-preserved
loop-number-preserved c =
    (copied c.requires c.loop-number.invariant c.loop-number-test.true c.page.ensures (ap (λ r. r.now) c.new.ensures) c.bytes-bytes.ensures).next _ c.copy.ensures
