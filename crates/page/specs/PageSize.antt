-- The page size is a parameter s of all definitions. A list page holds `capacity s` numbers.
use Rattle.std.specs.Prelude.{ℕ, ◌+◌, ◌*◌, ◌-◌, ◌/◌, ◌%◌, ◌≤◌, min, ◌≡◌}

-- how many numbers fit a list page: its header has 6 bytes, a number 4
unfoldable pub capacity : ℕ → ℕ
capacity s = (s - 6) / 4

-- a bound on the entries of a list page at every page size
abbrev pub most_entries : ℕ
most_entries = 16384

-- what is asked of a page size
pub record IsPageSize (s : ℕ) : Type 0 where
  pub multiple : s % 4 ≡ 0
  pub two_entries : 2 ≤ capacity s
  pub limit : s ≤ 65536

-- document 01's
abbrev pub standard_page_size : ℕ
standard_page_size = 4096

-- the small panel's, of document 02
abbrev pub panel_page_size : ℕ
panel_page_size = 1024

-- a page of 16 bytes and so many words of four bytes more, up to the limit. So each is a page size, and every page size is one
unfoldable pub page_size_of : ℕ → ℕ
page_size_of words = 16 + 4 * min words 16380
