-- `take_entry`: at each return the test that led there says which case of `taken` and `named` holds.
use Rattle.std.proofs.Common.{ℕ, ◌^◌, ◌<◌, ◌-◌, get_or}
use Rattle.preallocate.specs.Steps.{taken, named}
use Rattle.preallocate.proofs.list.LentList.take_entry.Goals as goal
use native.Mathlib.Omega.{arith}
use mathlib.Core.Path.{refl, ◌∙◌}
use borrow.Author.Tests.{le-leb, eq-eqb, ne_eqb}
use Rattle.preallocate.proofs.StepsLaws.{one_kept, two_kept}

pub returns-then-last-self : goal.returns-then-last-self
unfolding taken named
returns-then-last-self c =
    let last : ℕ = get_or c.self.inside.entries.now (c.args.p.entries - 1) 0 in
    let small : last < 2 ^ 32 = omega (arith, c) in
    rw (← c.self.view_is, ← c.self.invariant.capacity_is, le-leb _ _ c.requires.1, ne_eqb _ _ c.if-last-self.true) (
    record { counted = refl; named = c.put.ensures ∙ one_kept c.args.out.now c.args.p.fresh last small }
    )

pub returns : goal.returns
unfolding taken named
returns c =
    let last : ℕ = get_or c.self.inside.entries.now (c.args.p.entries - 1) 0 in
    let small : last < 2 ^ 32 = omega (arith, c) in
    let top : c.args.p.top < 2 ^ 32 = omega (arith, c) in
    rw (← c.self.view_is, ← c.self.invariant.capacity_is, le-leb _ _ c.requires.1, eq-eqb _ _ c.if-last-self.false) (
    record {
      counted = rw (rw (← c.self.view_is) at c.under_top.ensures);
      named = c.put-2.ensures ∙ rw c.put.ensures (two_kept c.args.out.now c.args.p.fresh last c.args.p.top small top);
    }
    )
