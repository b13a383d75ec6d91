-- `admit`: its tests are those of `admitted`, in order. Each has one law here, which says its value in the definition's terms; a return
-- rewrites with the tests that led to it.
use Rattle.std.proofs.Common.{Option, Some, None, eqb, ◌≡◌, ◌+◌, ◌-◌, ◌<◌, ◌≤◌, leb, ℕ, length, List, Bool, true, false, le-leb, eq-eqb, ne_eqb}
use Rattle.page.specs.PageSize.{IsPageSize}
use Rattle.finisher.specs.Steps.{popped, work_of, Begun, bad_place}
use Rattle.finisher.proofs.judge.admit.Goals as goal
use native.Mathlib.Omega.{arith}
use mathlib.Core.Path.{ap, sym, ◌∙◌}
use borrow.Author.Tests.{lt-leb}
use Rattle.refusal.specs.Outcome.{answer}
use Rattle.bit_map.specs.BitMap.{has_bits}
use Rattle.page.specs.Growth.{max_bump}
use Rattle.allocator.specs.OpenSave.{Save, bumped, state_fits}
use Rattle.allocator.specs.Answers.{SizedSave, save_of}
use Rattle.allocator.proofs.SaveLaws.{stands}
use Rattle.finisher.specs.Finish.{first_bad, finished, admitted}
use Rattle.finisher.specs.declared.judge.Work.{Work}
use Rattle.finisher.proofs.FinishLaws.{bump_raised}
use Rattle.finisher.proofs.JudgeLaws.{work_bump}
use Rattle.finisher.proofs.TablesLaws.{bad_some, bad_none}

-- the bump, of the numbers handed out and of the plan
module _ (s : ℕ) (v : Save) (size : IsPageSize s) (state : state_fits s v ≡ true) where
  begun : {k : ℕ} → k ≡ popped v → v.handed - k ≤ max_bump - v.bump → Begun s v k (v.bump + (v.handed - k))
  begun pops room =
      record {
        size = size;
        state = state;
        pops_are = pops;
        bump_is = omega (arith, pops);
        limit = omega (arith, room, (stands s v state).most);
      }

  module _ (freed : List ℕ) where
    limit-handed : {k : ℕ} → k ≡ popped v → max_bump - v.bump < v.handed - k → leb (finished s v freed).bump max_bump ≡ false
    limit-handed pops past =
        let st = stands s v state in
        lt-leb (finished s v freed).bump max_bump (omega (arith, bump_raised freed size st, pops, past, st.most))

    module _ {w : Work} (is : w ≡ work_of s v freed) where
      bump_is : w.plan.bump ≡ (finished s v freed).bump
      bump_is = ap (λ (x : Work). x.plan.bump) is ∙ work_bump s v freed size state

      limit_past : max_bump < w.plan.bump → leb (finished s v freed).bump max_bump ≡ false
      limit_past h = lt-leb (finished s v freed).bump max_bump (omega (arith, bump_is, h))

      limit_is : w.plan.bump ≤ max_bump → leb (finished s v freed).bump max_bump ≡ true
      limit_is h = le-leb (finished s v freed).bump max_bump (omega (arith, bump_is, h))

-- the freed numbers
module _ (v : Save) (freed : List ℕ) {k : ℕ} (pops : k ≡ popped v) {o : Option ℕ} (found : o ≡ bad_place (v.bump + (v.handed - k)) freed) where
  bumped_is : v.bump + (v.handed - k) ≡ bumped v
  bumped_is = omega (arith, pops)

  bad_is : {i : ℕ} → o ≡ Some i → (first_bad (bumped v) freed ≡ i) × (eqb i (length freed) ≡ false)
  bad_is {i} e =
      let b = bad_some (bumped v) freed (rw bumped_is at found) e in
      (b.0, ne_eqb i (length freed) (omega (arith, b.1)))

  all_good : o ≡ None → eqb (first_bad (bumped v) freed) (length freed) ≡ true
  all_good e = eq-eqb _ _ (bad_none (bumped v) freed (rw bumped_is at found) e)

-- the map
room_is : (v : Save) (k bytes : ℕ) → k ≡ popped v → {q : Bool} → has_bits (v.bump + (v.handed - k)) bytes ≡ q → has_bits (bumped v) bytes ≡ q
room_is v k bytes pops e =
    let same : v.bump + (v.handed - k) ≡ bumped v = omega (arith, pops) in
    rw same at e

-- the state of the save, where the test said that it stands, or not
state_is : {v w : SizedSave} {fits q : Bool} → v ≡ w → fits ≡ state_fits w.page_size w.save → fits ≡ q → state_fits v.page_size v.save ≡ q
state_is e tested is = rw (← e) at (sym tested ∙ is)

pub returns-then-not-state_fits : goal.returns-then-not-state_fits
unfolding admitted
returns-then-not-state_fits c = rw (sym c.state_fits.ensures ∙ c.if-not-state_fits.true)

pub overflow_sub-start : goal.overflow_sub-start
overflow_sub-start c = (stands _ _ (state_is c.lent.view_is c.state_fits.ensures c.if-not-state_fits.false)).most

pub returns-then-past-start : goal.returns-then-past-start
unfolding admitted
returns-then-past-start c =
    let size = rw (← c.lent.view_is) at c.requires in
    let state = state_is c.lent.view_is c.state_fits.ensures c.if-not-state_fits.false in
    rw (← c.lent.view_is, state, limit-handed _ _ size state c.args.freed.now c.min-popped.ensures c.if-past-start.true)

pub measure-work-requires : goal.measure-work-requires
measure-work-requires c =
    let size = rw (← c.lent.view_is) at c.requires in
    let state = state_is c.lent.view_is c.state_fits.ensures c.if-not-state_fits.false in
    rw (← c.lent.view_is) (begun _ _ size state c.min-popped.ensures c.if-past-start.false)

pub returns-then-work : goal.returns-then-work
unfolding admitted
returns-then-work c =
    let size = rw (← c.lent.view_is) at c.requires in
    let state = state_is c.lent.view_is c.state_fits.ensures c.if-not-state_fits.false in
    let work = rw (← c.lent.view_is) at c.measure-work.ensures in
    rw (← c.lent.view_is, state, limit_past _ _ size state c.args.freed.now work c.if-work.true)

pub returns-in-Some : goal.returns-in-Some
unfolding admitted
returns-in-Some c =
    let v = save_of c.lent.inside.save.start c.lent.inside.save.«open» c.lent.inside.pages.now c.lent.inside.entries.now in
    let size = rw (← c.lent.view_is) at c.requires in
    let state = state_is c.lent.view_is c.state_fits.ensures c.if-not-state_fits.false in
    let work = rw (← c.lent.view_is) at c.measure-work.ensures in
    let bad = bad_is v c.args.freed.now c.min-popped.ensures c.first_bad.ensures c.in-Some.is in
    rw (← c.lent.view_is, state, limit_is _ _ size state c.args.freed.now work c.if-work.false, bad.0, bad.1)

pub returns-then-not-has_bits : goal.returns-then-not-has_bits
unfolding admitted
returns-then-not-has_bits c =
    let v = save_of c.lent.inside.save.start c.lent.inside.save.«open» c.lent.inside.pages.now c.lent.inside.entries.now in
    let size = rw (← c.lent.view_is) at c.requires in
    let state = state_is c.lent.view_is c.state_fits.ensures c.if-not-state_fits.false in
    let work = rw (← c.lent.view_is) at c.measure-work.ensures in
    let bits = room_is v _ _ c.min-popped.ensures (sym c.has_bits.ensures ∙ c.if-not-has_bits.true) in
    rw (← c.lent.view_is, state, limit_is _ _ size state c.args.freed.now work c.if-work.false, all_good v c.args.freed.now c.min-popped.ensures c.first_bad.ensures c.in_default.is, bits)

pub returns : goal.returns
unfolding admitted
returns c =
    let v = save_of c.lent.inside.save.start c.lent.inside.save.«open» c.lent.inside.pages.now c.lent.inside.entries.now in
    let size = rw (← c.lent.view_is) at c.requires in
    let state = state_is c.lent.view_is c.state_fits.ensures c.if-not-state_fits.false in
    let work = rw (← c.lent.view_is) at c.measure-work.ensures in
    let bits = room_is v _ _ c.min-popped.ensures (sym c.has_bits.ensures ∙ c.if-not-has_bits.false) in
    rw (← c.lent.view_is, state, limit_is _ _ size state c.args.freed.now work c.if-work.false, all_good v c.args.freed.now c.min-popped.ensures c.first_bad.ensures c.in_default.is, bits)
    (ap answer work)
