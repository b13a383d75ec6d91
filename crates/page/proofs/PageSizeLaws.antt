-- What every page size has, and that document 01's and the panel's are two.
use Prim.Native.Nat.{ℕ, ◌+◌, ◌*◌, ◌-◌, ◌/◌, ◌≤◌}
use mathlib.Core.Path.{◌≡◌, refl}
use native.Mathlib.Omega.{arith}
use Rattle.page.specs.PageSize.{capacity, IsPageSize, standard_page_size, panel_page_size, page_size_of}

-- a page has 16 bytes or more
pub page_least : {s : ℕ} → IsPageSize s → 16 ≤ s
unfolding capacity
page_least size = omega (arith, size.multiple, size.two_entries)

-- a list page's header and entries fit the page
pub page-room : {s : ℕ} (n : ℕ) → IsPageSize s → n ≤ capacity s → 6 + 4 * n ≤ s
unfolding capacity
page-room n size h = omega (arith, page_least size)

-- a page is some whole number of 4-byte words
pub page_words : {s : ℕ} → IsPageSize s → 4 * (s / 4) ≡ s
page_words size = omega (arith, size.multiple)

-- document 01's page size is one
pub page-size : IsPageSize standard_page_size
unfolding capacity
page-size = record { multiple = refl; two_entries = omega arith; limit = omega arith }

-- and the panel's
pub panel-size : IsPageSize panel_page_size
unfolding capacity
panel-size = record { multiple = refl; two_entries = omega arith; limit = omega arith }

-- each value of the code's type is one, and each page size is a value of it
pub page-bytes : (words : ℕ) → IsPageSize (page_size_of words)
unfolding capacity page_size_of
page-bytes words = record { multiple = omega arith; two_entries = omega arith; limit = omega arith }

pub every_size : (s : ℕ) → IsPageSize s → page_size_of ((s - 16) / 4) ≡ s
unfolding page_size_of
every_size s size = omega (arith, page_least size, size.multiple, size.limit)

pub standard-bytes : page_size_of ((standard_page_size - 16) / 4) ≡ standard_page_size
unfolding page_size_of
standard-bytes = refl
