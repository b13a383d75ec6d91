-- Lists whose tables are lent, as contracts see them.
use Rattle.std.specs.Prelude.{ℕ, ◌≡◌, true, List, length}
use Rattle.page.specs.PageSize.{IsPageSize, capacity}
use Rattle.free_list.specs.Shape.{FreeList, is_shape}

-- a list from its two tables
abbrev pub whole_list : List ℕ → List ℕ → FreeList
whole_list pages entries = record { pages = pages; entries = entries }

-- a list, and how many bytes its pages have
pub record SizedList : Type 0 where
  pub page_size : ℕ
  pub list : FreeList

-- It has the shape of an accepted list, with c entries to a page. Why each is asked:
-- `size`: a page has 2 to `most_entries` entries, so that entries times pages has 64 bits, and a new page makes more room than it takes;
-- `shape`: from it follows which page an entry stands on, by the entry's place.
pub record Shapely (s c : ℕ) (l : FreeList) : Type 0 where
  pub size : IsPageSize s
  pub capacity_is : c ≡ capacity s
  pub shape : is_shape (capacity s) (length l.pages) (length l.entries) ≡ true
