-- `measure`: a save that changes nothing keeps all; another's work is counted from its plan.
use Rattle.std.proofs.Common.{◌≡◌, ℕ, List}
use Rattle.page.specs.PageSize.{capacity}
use Rattle.preallocate.specs.Plan.{plan_of}
use Rattle.preallocate.specs.Counts.{counts, Makes}
use Rattle.preallocate.specs.Lists.{SizedList}
use Rattle.preallocate.specs.declared.turns.Plan.{Plan as Counts}
use Rattle.allocator.specs.OpenSave.{list_of}
use Rattle.allocator.specs.Answers.{SizedSave}
use Rattle.finisher.proofs.judge.measure.Goals as goal
use native.Mathlib.Omega.{arith}
use mathlib.Core.Path.{sym, ◌∙◌}
use Rattle.finisher.proofs.JudgeLaws.{begun_poppable, same-work, changed-work, count_small, listed_small}

-- the plan is that of the save's list
planned : {v w : SizedSave} → v ≡ w → {m : SizedList} → m ≡ record { page_size = w.page_size; list = list_of w.save }
    → (k : ℕ) (freed : List ℕ) (bump : ℕ) {before : List ℕ} {r : Counts} {after : List ℕ}
    → Makes (plan_of (capacity m.page_size) m.list k freed bump) before r after → r ≡ counts (plan_of (capacity v.page_size) (list_of v.save) k freed bump)
planned e f k freed bump made = (rw (f, ← e) at made).counted

pub returns-then-is_unchanged : goal.returns-then-is_unchanged
returns-then-is_unchanged c =
    rw (c.nothing_to_do.ensures, ← c.lent.view_is)
    (same-work (rw (← c.lent.view_is) at c.requires) c.args.freed.now (sym c.is_unchanged.ensures ∙ c.if-is_unchanged.true))

pub plan-plan-requires : goal.plan-plan-requires
plan-plan-requires c = rw c.list_of.ensures.list (begun_poppable c.requires)

pub overflow_add-pages : goal.overflow_add-pages
overflow_add-pages c =
    omega (arith, c, count_small (rw (← c.lent.view_is) at c.requires) c.args.freed.now (sym c.is_unchanged.ensures ∙ c.if-is_unchanged.false) (planned c.lent.view_is c.list_of.ensures.list c.args.popped c.args.freed.now c.args.bump c.plan-plan.ensures))

pub overflow_add-result : goal.overflow_add-result
overflow_add-result c =
    omega (arith, c, listed_small (rw (← c.lent.view_is) at c.requires) c.args.freed.now (sym c.is_unchanged.ensures ∙ c.if-is_unchanged.false) (planned c.lent.view_is c.list_of.ensures.list c.args.popped c.args.freed.now c.args.bump c.plan-plan.ensures))

pub returns : goal.returns
returns c =
    rw (c.saturating_sub.ensures, ← c.lent.view_is)
    (changed-work (rw (← c.lent.view_is) at c.requires) c.args.freed.now (sym c.is_unchanged.ensures ∙ c.if-is_unchanged.false) (planned c.lent.view_is c.list_of.ensures.list c.args.popped c.args.freed.now c.args.bump c.plan-plan.ensures))
