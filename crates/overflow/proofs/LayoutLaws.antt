-- The pages of a value together hold all its numbers after the cell's and all its bytes, and none is empty.
-- The sums up to page i are one minimum each, so that what is taken page by page is known at once.
use Prim.Native.Nat.{ℕ, zero, suc, ◌+◌, ◌*◌, ◌-◌, min, ◌≤◌, ◌<◌}
use mathlib.Core.Path.{◌≡◌, refl}
use native.Mathlib.Nat.{mul-suc, mul-zero, add-zero, add-suc, mul-le-mul_right}
use native.Mathlib.Omega.{arith}
use Rattle.page.specs.PageSize.{IsPageSize}
use Rattle.page.proofs.PageSizeLaws.{page_least, page_words}
use Rattle.overflow.specs.Totals.{cell_numbers, body}
use Rattle.overflow.specs.Layout.{numbers_per_page, numbers_before, numbers_on, bytes_before, bytes_on}

-- taking what is left, up to x and then up to y, takes up to x + y
taken_twice : (size x y : ℕ) → min size x + min y (size - min size x) ≡ min size (x + y)
taken_twice size x y = omega arith

-- where the room of t pages, less one page, is less than what they are to hold, the room r before the last page is less than the bytes
less_than_all : (size t j r bj bt b nj : ℕ) → suc j ≡ t → 1 * j ≤ nj → bj + b ≡ bt → bt < size + 4 * (t - cell_numbers) + b → 4 * min (t - cell_numbers) nj ≤ bj → r ≤ bj - 4 * min (t - cell_numbers) nj → min size r < size
less_than_all size t j r bj bt b nj e many pages tight fit mono = omega arith

module _ {s : ℕ} (total : ℕ) (page : IsPageSize s) where
  -- the numbers before page i in one step
  pub numbers_before_is : (i : ℕ) → numbers_before s total i ≡ min (total - cell_numbers) (numbers_per_page s * i)
  unfolding numbers_before
  numbers_before_is zero = rw mul-zero (omega arith)
  numbers_before_is (suc i) = rw (numbers_before_is i, mul-suc) (omega arith)

  -- all numbers after the cell's stand on the pages
  pub numbers_all : numbers_before s total total ≡ total - cell_numbers
  numbers_all =
      let one : 1 ≤ numbers_per_page s = omega (arith, page_least page) in
      rw numbers_before_is (omega (arith, mul-le-mul_right total one))

  -- the number of page i stands in the cell or on a page before it
  pub number_before : (i : ℕ) → i < total → i < cell_numbers + numbers_before s total i
  number_before i h =
      let one : 1 ≤ numbers_per_page s = omega (arith, page_least page) in
      rw numbers_before_is (omega (arith, mul-le-mul_right i one))

  -- the numbers fit the bodies, on the pages before page i and on page i
  pub numbers_fit : (i : ℕ) → 4 * numbers_before s total i ≤ body s * i
  numbers_fit i =
      let four : 4 * numbers_per_page s ≤ body s = omega arith in
      rw numbers_before_is (omega (arith, mul-le-mul_right i four))

  pub numbers_on_fit : (i : ℕ) → 4 * numbers_on s total i ≤ body s
  unfolding numbers_on
  numbers_on_fit i = omega arith

  pub numbers_before_suc : (i : ℕ) → numbers_before s total (suc i) ≡ numbers_before s total i + numbers_on s total i
  unfolding numbers_before numbers_on
  numbers_before_suc i = refl

  -- the room for bytes grows by what a page's numbers leave
  room_before_suc : (i : ℕ) → body s * suc i - 4 * numbers_before s total (suc i) ≡ body s * i - 4 * numbers_before s total i + (body s - 4 * numbers_on s total i)
  room_before_suc i = rw (mul-suc, numbers_before_suc) (omega (arith, numbers_fit i, numbers_on_fit i))

  -- the bytes before page i in one step
  pub bytes_before_is : (size i : ℕ) → bytes_before s total size i ≡ min size (body s * i - 4 * numbers_before s total i)
  unfolding bytes_before
  bytes_before_is size zero = rw (mul-zero (body s)) (omega arith)
  bytes_before_is size (suc i) = rw (bytes_before_is size i, room_before_suc) (taken_twice size _ _)

  pub bytes_before_suc : (size i : ℕ) → bytes_before s total size (suc i) ≡ bytes_before s total size i + bytes_on s total size i
  unfolding bytes_before bytes_on
  bytes_before_suc size i = refl

  -- what stands on the pages up to page i is no more than there is, and page i has room for its part
  pub numbers_within_lem : (i : ℕ) → numbers_before s total i + numbers_on s total i ≤ total - cell_numbers
  numbers_within_lem i = rw (← numbers_before_suc i, numbers_before_is) (omega arith)

  pub bytes_within_lem : (size i : ℕ) → bytes_before s total size i + bytes_on s total size i ≤ size
  bytes_within_lem size i = rw (← bytes_before_suc size i, bytes_before_is) (omega arith)

  pub page_fits : (size i : ℕ) → 4 * numbers_on s total i + bytes_on s total size i ≤ body s
  unfolding bytes_on
  page_fits size i = omega (arith, numbers_on_fit i)

  -- a page that has not only numbers has the last of them
  numbers_on_rest : (i : ℕ) → 4 * numbers_on s total i < body s → numbers_on s total i ≡ total - cell_numbers - numbers_before s total i
  unfolding numbers_on
  numbers_on_rest i h = omega (arith, page_words page)

  -- so up to a page with value bytes there are all
  pub numbers_done : (size i : ℕ) → 1 ≤ bytes_on s total size i → numbers_before s total (suc i) ≡ total - cell_numbers
  numbers_done size i some =
      let rest = numbers_on_rest i (omega (arith, page_fits size i)) in
      rw numbers_before_suc (omega (arith, numbers_within_lem i))

  -- all bytes stand on the pages, where these have room
  pub bytes_all : (size : ℕ) → size + 4 * (total - cell_numbers) ≤ body s * total → bytes_before s total size total ≡ size
  bytes_all size enough = rw (bytes_before_is size total, numbers_all) (omega arith)

  -- the room before page i is at most that before a later one
  room_mono : (i d : ℕ) → body s * i - 4 * numbers_before s total i ≤ body s * (i + d) - 4 * numbers_before s total (i + d)
  room_mono i zero = rw add-zero (omega arith)
  room_mono i (suc d) = rw (add-suc, room_before_suc) (omega (arith, room_mono i d))

  -- bytes are left for every page, where one page less would not do
  pub bytes_left : (size i : ℕ) → body s * total < size + 4 * (total - cell_numbers) + body s → i < total → bytes_before s total size i < size
  bytes_left size i tight h = last (i + (total - suc i)) (omega arith) (room_mono i (total - suc i))
    where
      last : (j : ℕ) → suc j ≡ total → body s * i - 4 * numbers_before s total i ≤ body s * j - 4 * numbers_before s total j → bytes_before s total size i < size
      last j e mono =
          let one : 1 ≤ numbers_per_page s = omega (arith, page_least page) in
          let pages : body s * j + body s ≡ body s * total = rw (← mul-suc (body s) j, e) in
          rw (bytes_before_is size i)
          (less_than_all size total j _ (body s * j) (body s * total) (body s) (numbers_per_page s * j) e (mul-le-mul_right j one) pages tight (rw numbers_before_is at (numbers_fit j)) (rw (numbers_before_is j) at mono))

  -- so none is empty
  pub page_nonempty : (size i : ℕ) → body s * total < size + 4 * (total - cell_numbers) + body s → i < total → 1 ≤ numbers_on s total i + bytes_on s total size i
  unfolding bytes_on
  page_nonempty size i tight h = omega (arith, bytes_left size i tight h, page_least page)
