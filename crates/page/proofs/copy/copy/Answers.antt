-- `copy` meets its contract: the part that is written over is as long as what is copied.
use Rattle.std.proofs.Common.{◌≡◌, ◌+◌, ◌-◌, length}
use Rattle.page.proofs.copy.copy.Goals as goal
use mathlib.Core.Path.{refl}
use native.Mathlib.Omega.{arith}
use Rattle.laws.proofs.SetsLaws.{part-written}

pub returns : goal.returns
returns g c =
    let e : c.args.at + length c.args.a.now - c.args.at ≡ length c.args.a.now = omega arith in
    rw (e, c.copy_from_slice.ensures.after) (part-written c.args.b.now c.args.at (length c.args.a.now) c.args.a.now refl c.requires)
