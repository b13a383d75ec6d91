-- `first_plan`: at each return the tests that led there say which case of the plan holds, and the push list is as long as is counted.
use Rattle.std.proofs.Common.{◌≡◌, ◌&&◌, ◌*◌, ◌-◌, ◌^◌, ◌≤◌, ◌<◌, eqb, length, ℕ, ◌+◌, true, false, List, get_or}
use Rattle.page.specs.PageSize.{capacity}
use Rattle.free_list.specs.Shape.{FreeList, is_fragmented}
use Rattle.preallocate.specs.Plan.{pages_after, pushed_after, first_plan}
use Rattle.preallocate.specs.Lists.{SizedList, Shapely}
use Rattle.preallocate.specs.Counts.{Poppable, Told, Makes}
use Rattle.preallocate.specs.Steps.{first_popped, first_names, Started}
use Rattle.preallocate.specs.declared.turns.Plan.{Plan as Counts}
use Rattle.preallocate.proofs.list.LentList.first_plan.Goals as goal
use native.Mathlib.Omega.{arith}
use native.Mathlib.Numerals.{add-one}
use mathlib.Core.Path.{refl, sym}
use lib.ListN.{length-append}
use Rattle.free_list.proofs.ShapeLaws.{shaped}
use Rattle.preallocate.proofs.PagesForLaws.{mended_pages}
use Rattle.preallocate.proofs.FirstLaws.{after_fewer, after_some, length_pushed, first_none, first-mends, first_counted, capacity_fits, first_started}

-- the list, and the pages that the pops leave
record Known (s c : ℕ) (l : FreeList) (k bump kept : ℕ) : Type 0 where
  shape : Shapely s c l
  may : Poppable l k bump
  is : kept ≡ pages_after (capacity s) l k

known : {s c : ℕ} {l : FreeList} {k bump kept : ℕ} {m : SizedList} → record { page_size = s; list = l } ≡ m → Shapely s c l → Poppable m.list k bump
    → kept ≡ pages_after (capacity m.page_size) m.list k → Known s c l k bump kept
known e a may is = record { shape = a; may = rw (← e) at may; is = rw (← e) at is }

module _ {s c : ℕ} {l : FreeList} {k bump kept : ℕ} (w : Known s c l k bump kept) where
  two : 2 ≤ capacity s
  two = w.shape.size.two_entries

  fewer : kept ≤ length l.pages
  fewer = omega (arith, w.is, after_fewer (capacity s) l two w.shape.shape k)

  pushes : (freed : List ℕ) → length (pushed_after (capacity s) l k freed) ≡ length freed + (length l.pages - kept)
  pushes freed = omega (arith, w.is, length_pushed (capacity s) l two w.shape.shape k freed)

  product : c * (length l.pages - 1) ≤ length l.entries
  product = rw w.shape.capacity_is (shaped _ _ _ w.shape.shape).under

  -- where the list is not mended, some page is left, and its room is no more than a page above the entries
  left : k < length l.entries → eqb k 0 && is_fragmented c (length l.pages) (length l.entries) ≡ false → (0 < kept) × (c * kept < length l.entries + c)
  left some whole = rw (w.shape.capacity_is) (after_some (capacity s) l two w.shape.shape k w.is some (rw w.shape.capacity_is at whole))

  -- ---- the returns

  module _ (freed : List ℕ) (fits : (length freed < 2 ^ 61) × (length l.pages < 2 ^ 61) × (length l.entries < 2 ^ 61)) where
    -- no number is left
    abbrev none : Counts
    none = record { pages = 0; entries = 0; pushed = length freed + (length l.pages - kept); fresh = 0; bump = bump; top = 0 }

    started : {before : List ℕ} {r : Counts} {after : List ℕ} → Makes (first_plan (capacity s) l k freed bump) before r after
        → Started (capacity s) l (first_plan (capacity s) l k freed bump) before r after
    started made = first_started w.shape w.may freed fits.0 fits.1 fits.2 made

    started_none : {out : List ℕ} → length l.entries ≤ k → Started (capacity s) l (first_plan (capacity s) l k freed bump) out none out
    started_none h = started (rw (first_none (capacity s) l k freed bump h) (record { counted = rw (pushes freed); named = refl }))

    module _ (some : k < length l.entries) where
      started_mended : {out : List ℕ} → eqb k 0 && is_fragmented c (length l.pages) (length l.entries) ≡ true
          → let n = length l.entries - (k + 1) in
          Started (capacity s) l (first_plan (capacity s) l k freed bump) out
          (record { pages = length l.pages - 1; entries = n; pushed = none.pushed + 2; fresh = 0; bump = bump; top = get_or l.entries n 0 }) out
      started_mended e =
          started (rw (first-mends (capacity s) l k freed bump some (rw w.shape.capacity_is at e), ← add-one k)
          (record { counted = rw (length-append, pushes freed); named = refl }))

      started_popped : {out : List ℕ} {r : Counts} {after : List ℕ} → eqb k 0 && is_fragmented c (length l.pages) (length l.entries) ≡ false
          → let n = length l.entries - (k + 1) in
          Told (first_popped (capacity s) l kept n none) 0 (first_names (capacity s) l kept n) out r after
          → Started (capacity s) l (first_plan (capacity s) l k freed bump) out r after
      started_popped e told =
          started (first_counted (capacity s) l k freed bump some (rw w.shape.capacity_is at e) w.is (rw add-one) {none = none} (rw (pushes freed)) told)

pub overflow_sub-none : goal.overflow_sub-none
overflow_sub-none c = fewer (known c.self.view_is c.self.invariant c.requires c.pages_after-kept.ensures)

pub returns-then-entries-popped : goal.returns-then-entries-popped
returns-then-entries-popped c =
    let w = known c.self.view_is c.self.invariant c.requires c.pages_after-kept.ensures in
    rw (← c.self.view_is) (started_none w c.args.freed.now (omega (arith, c)) c.if-entries-popped.true)

pub mends-requires : goal.mends-requires
mends-requires c = omega (arith, c, product (known c.self.view_is c.self.invariant c.requires c.pages_after-kept.ensures))

pub overflow_sub-result : goal.overflow_sub-result
overflow_sub-result c = omega (arith, mended_pages c.self.inside.capacity (length c.self.inside.pages.now) (length c.self.inside.entries.now) c.args.popped (sym c.if-mends.ensures))

pub returns-then-mends : goal.returns-then-mends
returns-then-mends c =
    let w = known c.self.view_is c.self.invariant c.requires c.pages_after-kept.ensures in
    rw (← c.self.view_is) (started_mended w c.args.freed.now (omega (arith, c)) c.if-entries-popped.false (sym c.if-mends.ensures))

pub pop_first-requires : goal.pop_first-requires
pop_first-requires c =
    let w = known c.self.view_is c.self.invariant c.requires c.pages_after-kept.ensures in
    let some = left w c.if-entries-popped.false (sym c.if-mends.ensures) in
    rw (← c.self.view_is, ← c.self.invariant.capacity_is) (
    record {
      some = some.0;
      pages_fit = fewer w;
      entries_fit = omega arith;
      product = omega (arith, c, some.1, capacity_fits w.shape.size, w.shape.capacity_is);
      pushes = omega (arith, c);
    }
    )

pub returns : goal.returns
returns c =
    let w = known c.self.view_is c.self.invariant c.requires c.pages_after-kept.ensures in
    rw (← c.self.view_is) (started_popped w c.args.freed.now (omega (arith, c)) c.if-entries-popped.false (sym c.if-mends.ensures) (rw (← c.self.view_is) at c.pop_first.ensures))
