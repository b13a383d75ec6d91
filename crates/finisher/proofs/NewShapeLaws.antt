-- The list that a finish makes has the shape.
-- From the room that the plan ends with. Assumes nothing.
use Prim.Native.Nat.{ℕ, ◌+◌, ◌*◌, ◌≤◌}
use native.Mathlib.Nat.{mul-add}
use native.Mathlib.Omega.{arith}
use mathlib.Core.Path.{◌≡◌}
use mathlib.Core.Bool.{true, false, ◌&&◌}
use mathlib.Core.List.{List}
use lib.Dec.{eqb}
use lib.ListN.{length}
use Rattle.free_list.specs.Shape.{FreeList, is_shape}
use Rattle.free_list.proofs.ShapeLaws.{bounds_shape}
use Rattle.preallocate.specs.Plan.{Plan, room, plan_of}
use Rattle.preallocate.proofs.SomeLaws.{plan_some}
use Rattle.preallocate.proofs.PlanLaws.{plan_enough, plan_tight, plan_kept, plan_left, plan_fits}
use Rattle.finisher.specs.Finish.{new_list}
use Rattle.finisher.specs.Theorems.{NewShape}
use Rattle.finisher.proofs.NewListLaws.{length_new_pages, length_new_entries}

module _ (c : ℕ) (l : FreeList) (k : ℕ) (freed : List ℕ) (bump : ℕ) (two : 2 ≤ c)
    (shape : is_shape c (length l.pages) (length l.entries) ≡ true) where
  -- the plan
  abbrev plan : Plan
  plan = plan_of c l k freed bump

  -- the pages and entries of the new list, in the plan's numbers
  pub length_pages_planned : length (new_list l plan).pages ≡ plan.kept + length plan.fresh
  length_pages_planned = length_new_pages l plan (plan_kept c l two shape k freed bump) (plan_left c l two shape k freed bump)

  pub length_entries_planned : length (new_list l plan).entries ≡ plan.left + length plan.pushed
  length_entries_planned = length_new_entries l plan (plan_kept c l two shape k freed bump) (plan_left c l two shape k freed bump)

  -- the entries fit on the pages, and on no fewer than one page less
  pub planned_fits : plan.left + length plan.pushed ≤ c * (plan.kept + length plan.fresh)
  unfolding room
  planned_fits =
      omega (
        arith,
        plan_enough c l two shape k freed bump,
        plan_fits c l two shape k freed bump,
        mul-add c plan.kept (length plan.fresh),
      )

  pub planned_few : c * (plan.kept + length plan.fresh) ≤ plan.left + length plan.pushed + c
  unfolding room
  planned_few = omega (arith, plan_tight c l two shape k freed bump)

  -- Where something was popped or freed, the new list has the shape.
  pub new_shape : k ≤ length l.entries → eqb k 0 && eqb (length freed) 0 ≡ false
      → is_shape c (length (new_list l plan).pages) (length (new_list l plan).entries) ≡ true
  new_shape kL changed =
      rw (length_pages_planned, length_entries_planned)
      (bounds_shape c (plan.kept + length plan.fresh) (plan.left + length plan.pushed)
      (omega (arith, plan_some c l k freed bump (omega arith) shape kL changed)) planned_few planned_fits)

pub shape_kept : (c : ℕ) → NewShape c
shape_kept c two l k freed bump shape = new_shape c l k freed bump two shape
