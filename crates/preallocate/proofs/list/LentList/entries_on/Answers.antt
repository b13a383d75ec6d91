-- `entries_on`: the entries of page j stand between those below it and those below the next.
use Rattle.std.proofs.Common.{◌≡◌, ◌-◌, ◌<◌, length, ℕ, ◌+◌}
use Rattle.page.specs.PageSize.{capacity}
use Rattle.free_list.specs.Shape.{FreeList, entries_below, entries_on}
use Rattle.preallocate.specs.Lists.{SizedList, Shapely}
use Rattle.preallocate.proofs.list.LentList.entries_on.Goals as goal
use native.Mathlib.Omega.{arith}
use lib.ListN.{drop, length-take}
use Rattle.free_list.proofs.BelowLaws.{OnPage}
use Rattle.preallocate.proofs.ShapelyLaws.{page_of}

abbrev below : SizedList → ℕ → ℕ
below m = entries_below (capacity m.page_size) (length m.list.pages) (length m.list.entries)

found : {s c : ℕ} {l : FreeList} {m : SizedList} → record { page_size = s; list = l } ≡ m → Shapely s c l → (j : ℕ) → j < length m.list.pages
    → {from to : ℕ} → from ≡ below m j → to ≡ below m (j + 1) → OnPage c (length l.entries) from to
found e a j inside f t = rw (rw (← e, ← a.capacity_is) at f, rw (← e, ← a.capacity_is) at t) (page_of a j (rw (← e) at inside))

pub offset_bounds-entries-from : goal.offset_bounds-entries-from
offset_bounds-entries-from c =
    omega (arith, c, found c.self.view_is c.self.invariant c.args.j c.requires c.entries_below-from.ensures c.entries_below-to.ensures)

pub slice_bounds-result-count : goal.slice_bounds-result-count
slice_bounds-result-count c =
    (found c.self.view_is c.self.invariant c.args.j c.requires c.entries_below-from.ensures c.entries_below-to.ensures).order

pub slice_bounds-result-start : goal.slice_bounds-result-start
slice_bounds-result-start c =
    (found c.self.view_is c.self.invariant c.args.j c.requires c.entries_below-from.ensures c.entries_below-to.ensures).order

pub slice_bounds-result-end : goal.slice_bounds-result-end
slice_bounds-result-end c =
    (found c.self.view_is c.self.invariant c.args.j c.requires c.entries_below-from.ensures c.entries_below-to.ensures).within

pub returns-clause-they : goal.returns-clause-they
unfolding entries_on
returns-clause-they c = rw (c.entries_below-from.ensures, c.entries_below-to.ensures, ← c.self.view_is)

pub returns-clause-few : goal.returns-clause-few
returns-clause-few c =
    let w = found c.self.view_is c.self.invariant c.args.j c.requires c.entries_below-from.ensures c.entries_below-to.ensures in
    let from = c.entries_below-from.result in
    let to = c.entries_below-to.result in
    rw (← c.self.view_is, ← c.self.invariant.capacity_is)
    (omega (arith, w, length-take (to - from) (drop from c.self.inside.entries.now)))
