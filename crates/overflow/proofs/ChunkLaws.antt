-- Which numbers and bytes a page of a value holds, in the numbers of the code; and writing the page, test by test.
-- The sums of the definition are taken in one step (`LayoutLaws`).
use Prim.Native.Nat.{ℕ, ◌+◌, ◌*◌, ◌-◌, ◌^◌, min, ◌≤◌, ◌<◌}
use native.Mathlib.Nat.{mul-le-mul_right, zero-add}
use native.Mathlib.Numerals.{add-one}
use native.Mathlib.Decide.{dec_lt}
use native.Mathlib.Omega.{arith}
use mathlib.Core.Path.{◌≡◌, sym, ◌∙◌}
use mathlib.Core.List.{List, [], ◌++◌}
use lib.ListN.{length, take, drop}
use lib.Seq.{sets, sets-eq, length-take-le}
use borrow.Author.Tests.{le-leb, lt-leb, lt-ltb, le-ltb, eq-eqb, ne_eqb}
use Rattle.refusal.specs.Outcome.{answer, refused}
use Rattle.refusal.specs.Effect.{effect}
use Rattle.page.specs.PageSize.{IsPageSize}
use Rattle.page.proofs.PageSizeLaws.{page_least}
use Rattle.overflow.specs.Totals.{max_size, cell_numbers}
use Rattle.overflow.specs.Layout.{numbers_before, numbers_on, bytes_before, bytes_on}
use Rattle.overflow.specs.ValuePages.{encode_value_page, value_page, chunk, chunk_into}
use Rattle.overflow.proofs.TotalsLaws.{max_size_lem}
use Rattle.overflow.proofs.LayoutLaws.{numbers_before_suc, bytes_before_suc, numbers_within_lem, bytes_within_lem, page_fits}
use Rattle.overflow.proofs.ValuePagesLaws.{length_value_page}

-- a product with a page's index is far from the limit of the numbers
pub product_small : {s total : ℕ} (b i : ℕ) → IsPageSize s → total ≤ max_size s + 4 → i ≤ total → b ≤ s → b * i ≤ 65536 * (2 ^ 29 + 4)
product_small {s} b i page few upto h =
    let most : b ≤ 65536 = omega (arith, page.limit) in
    omega (arith, mul-le-mul_right i most, max_size_lem s)

-- ---- the parts of a page

-- page i, by the places where its numbers and its bytes begin and end
pub record Parts (s total size i from to start end : ℕ) : Type 0 where
  pub numbers_in_order : from ≤ to
  pub numbers_lent : to ≤ total
  pub bytes_in_order : start ≤ end
  pub bytes_lent : end ≤ size
  pub fits : 4 + 4 * (to - from) + (end - start) ≤ s
  pub large : 16 ≤ s
  pub limit : s ≤ 65536
  pub numbers_from : from ≡ min total cell_numbers + numbers_before s total i
  pub numbers_are : to - from ≡ numbers_on s total i
  pub bytes_from : start ≡ bytes_before s total size i
  pub bytes_are : end - start ≡ bytes_on s total size i

pub page_parts : {s bytes total : ℕ} (size i : ℕ) → bytes ≡ s → IsPageSize bytes → i < total → {cell before through start end : ℕ}
    → cell ≡ min total cell_numbers → before ≡ numbers_before s total i → through ≡ numbers_before s total (i + 1)
    → start ≡ bytes_before s total size i → end ≡ bytes_before s total size (i + 1)
    → Parts s total size i (cell + before) (cell + through) start end
page_parts {s} {total = total} size i same is_size inside e f g h k =
    let page = rw same at is_size in
    let numbers = rw (← add-one i) at (numbers_before_suc total page i) in
    let bytes = rw (← add-one i) at (bytes_before_suc total page size i) in
    record {
      numbers_in_order = omega arith;
      numbers_lent = omega (arith, numbers_within_lem total page i);
      bytes_in_order = omega arith;
      bytes_lent = omega (arith, bytes_within_lem total page size i);
      fits = omega (arith, page_least page, page_fits total page size i);
      large = page_least page;
      limit = page.limit;
      numbers_from = omega arith;
      numbers_are = omega arith;
      bytes_from = h;
      bytes_are = omega arith;
    }

-- the numbers of the page: where the cell has them all there are none
numbers_taken : {s : ℕ} (total i : ℕ) → IsPageSize s → (numbers : List ℕ)
    → take (numbers_on s total i) (drop (min total cell_numbers + numbers_before s total i) numbers)
    ≡ take (numbers_on s total i) (drop (cell_numbers + numbers_before s total i) numbers)
numbers_taken {s} total i page numbers = go (dec_lt total cell_numbers)
  where
    go : Dec (total < cell_numbers)
        → take (numbers_on s total i) (drop (min total cell_numbers + numbers_before s total i) numbers)
        ≡ take (numbers_on s total i) (drop (cell_numbers + numbers_before s total i) numbers)
    go (yes few) = let none : numbers_on s total i ≡ 0 = omega (arith, numbers_within_lem total page i) in rw none
    go (no many) = let at : min total cell_numbers ≡ cell_numbers = omega arith in rw at

-- a page of these parts, put at the start of a buffer
pub page_put : {s bytes total : ℕ} (i : ℕ) → bytes ≡ s → IsPageSize bytes → (value numbers buffer : List ℕ) {page : List ℕ} {from to start end : ℕ}
    → Parts s total (length value) i from to start end → length numbers ≡ total → s ≤ length buffer
    → page ≡ encode_value_page (length (take bytes buffer)) (take (to - from) (drop from numbers)) (take (end - start) (drop start value))
    → page ++ drop bytes buffer ≡ sets buffer 0 (value_page s total value numbers i)
unfolding value_page
page_put {s} {total = total} i same is_size value numbers buffer {page} p whole room e =
    let size = rw same at is_size in
    let this = value_page s total value numbers i in
    let long : length this ≡ s = length_value_page size value numbers whole i in
    let written : page ≡ this =
    e ∙ rw (same, length-take-le s buffer room, p.numbers_are, p.bytes_are, p.numbers_from, p.bytes_from, numbers_taken total i size numbers) in
    rw (written, same) (sym (sets-eq this buffer 0 (omega arith) ∙ rw (zero-add (length this), long)))

-- ---- the tests

module _ (s total : ℕ) (value numbers : List ℕ) (i : ℕ) (buffer : List ℕ) where
  -- a size that no value has
  pub chunk_empty : length value ≡ 0 → effect (refused 10 []) buffer ≡ chunk_into s total value numbers i buffer
  unfolding chunk_into chunk
  chunk_empty e = rw (lt-leb 1 (length value) (omega arith))

  pub chunk_large : max_size s < length value → effect (refused 10 []) buffer ≡ chunk_into s total value numbers i buffer
  unfolding chunk_into chunk
  chunk_large h = rw (le-leb 1 (length value) (omega arith), lt-leb (length value) (max_size s) h)

  module _ (some : 1 ≤ length value) (few : length value ≤ max_size s) where
    -- numbers that are not as many as the pages
    pub chunk-numbers : (length numbers ≡ total → ⊥) → effect (refused 11 []) buffer ≡ chunk_into s total value numbers i buffer
    unfolding chunk_into chunk
    chunk-numbers ne = rw (le-leb 1 (length value) some, le-leb (length value) (max_size s) few, ne_eqb (length numbers) total ne)

    module _ (whole : length numbers ≡ total) where
      -- a page that the value does not have
      pub chunk-index : total ≤ i → effect (refused 11 []) buffer ≡ chunk_into s total value numbers i buffer
      unfolding chunk_into chunk
      chunk-index h = rw (le-leb 1 (length value) some, le-leb (length value) (max_size s) few, eq-eqb (length numbers) total whole, le-ltb i total h)

      module _ (inside : i < total) where
        -- a buffer shorter than a page
        pub chunk-short : length buffer < s → effect (refused 9 []) buffer ≡ chunk_into s total value numbers i buffer
        unfolding chunk_into chunk
        chunk-short h =
            rw (le-leb 1 (length value) some, le-leb (length value) (max_size s) few, eq-eqb (length numbers) total whole, lt-ltb i total inside, lt-leb s (length buffer) h)

        -- the page
        pub chunk-written : IsPageSize s → s ≤ length buffer → effect (answer s) (sets buffer 0 (value_page s total value numbers i)) ≡ chunk_into s total value numbers i buffer
        unfolding chunk_into chunk
        chunk-written page h =
            rw (le-leb 1 (length value) some, le-leb (length value) (max_size s) few, eq-eqb (length numbers) total whole, lt-ltb i total inside, le-leb s (length buffer) h, length_value_page page value numbers whole i)
