-- What the pages of a value hold, at pages of s bytes: the numbers after the cell's fill pages in order, value bytes take the room left.
use Rattle.std.specs.Prelude.{ℕ, zero, suc, ◌+◌, ◌*◌, ◌-◌, ◌/◌, min}
use Rattle.overflow.specs.Totals.{body, cell_numbers}

-- how many numbers a page holds at most
abbrev pub numbers_per_page : ℕ → ℕ
numbers_per_page s = body s / 4

-- how many numbers stand on the pages before page i, and on page i
unfoldable pub numbers_before : ℕ → ℕ → ℕ → ℕ
numbers_before s total zero = 0
numbers_before s total (suc i) =
    let before = numbers_before s total i in
    before + min (numbers_per_page s) (total - cell_numbers - before)

unfoldable pub numbers_on : ℕ → ℕ → ℕ → ℕ
numbers_on s total i = min (numbers_per_page s) (total - cell_numbers - numbers_before s total i)

-- how many bytes of the value stand on the pages before page i, and on page i
unfoldable pub bytes_before : ℕ → ℕ → ℕ → ℕ → ℕ
bytes_before s total size zero = 0
bytes_before s total size (suc i) =
    let before = bytes_before s total size i in
    before + min (body s - 4 * numbers_on s total i) (size - before)

unfoldable pub bytes_on : ℕ → ℕ → ℕ → ℕ → ℕ
bytes_on s total size i = min (body s - 4 * numbers_on s total i) (size - bytes_before s total size i)
