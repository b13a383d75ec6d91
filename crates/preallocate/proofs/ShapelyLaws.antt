-- A list of the shape: what its counts are, and where the entries of a page stand.
use Prim.Native.Nat.{ℕ, zero, suc, ◌+◌, ◌*◌, ◌-◌, ◌<◌, ◌≤◌}
use native.Mathlib.Nat.{mul-le-mul_left}
use native.Mathlib.Omega.{arith}
use mathlib.Core.Path.{◌≡◌}
use lib.ListN.{length}
use Rattle.page.specs.PageSize.{most_entries}
use Rattle.free_list.specs.Shape.{FreeList, entries_below}
use Rattle.free_list.proofs.ShapeLaws.{Shaped, shaped}
use Rattle.free_list.proofs.BelowLaws.{OnPage, on_page}
use Rattle.preallocate.specs.Lists.{Shapely}
use Rattle.preallocate.proofs.FirstLaws.{capacity_fits}

module _ {s c : ℕ} {l : FreeList} (a : Shapely s c l) where
  pub counts_of : Shaped c (length l.pages) (length l.entries)
  counts_of = rw a.capacity_is (shaped _ _ _ a.shape)

  pub two_entries : 2 ≤ c
  two_entries = rw a.capacity_is a.size.two_entries

  pub few_entries : c ≤ most_entries
  few_entries = rw a.capacity_is (capacity_fits a.size)

  -- where there is a page there is an entry
  pub some_entry : 1 ≤ length l.pages → 1 ≤ length l.entries
  some_entry some = positive (length l.entries) counts_of.none
    where
      positive : (n : ℕ) → (n ≡ 0 → length l.pages ≡ 0) → 1 ≤ n
      positive zero none = absurd (omega (arith, none (omega arith)))
      positive (suc n) none = omega arith

  -- the entries of page j
  pub page_of : (j : ℕ) → j < length l.pages
      → let below = entries_below c (length l.pages) (length l.entries) in OnPage c (length l.entries) (below j) (below (j + 1))
  page_of j inside =
      on_page c (length l.pages) (length l.entries) two_entries (some_entry (omega arith)) counts_of.most counts_of.under j inside

  -- the pages below it are full
  pub below_fits : (j : ℕ) → j < length l.pages → c * j ≤ length l.entries
  below_fits j inside = omega (arith, mul-le-mul_left c (last j inside), counts_of.under)
    where
      last : (j : ℕ) → j < length l.pages → j ≤ length l.pages - 1
      last j h = omega arith
