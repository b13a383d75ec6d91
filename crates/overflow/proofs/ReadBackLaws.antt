-- A value that was written reads back by its cell, and deleting finds the numbers of its pages.
-- After i pages a walk has found what the layout puts into the cell and on these; by induction over the pages left it finds all.
use Prim.Native.Nat.{ℕ, zero, suc, ◌+◌, ◌*◌, ◌-◌, ◌^◌, ◌<◌, ◌≤◌}
use mathlib.Core.Path.{◌≡◌, refl, sym, ◌∙◌, ap}
use mathlib.Core.Logic.{⊎_elim}
use mathlib.Core.Bool.{Bool, true, false, ◌&&◌, cond}
use mathlib.Core.List.{List, ◌++◌, Memᴰ}
use native.Mathlib.Nat.{add_assoc, zero-add}
use native.Mathlib.Decide.{dec_lt}
use native.Mathlib.Omega.{arith}
use borrow.Author.Tests.{le-leb, eq-eqb, eqb-true, leb-true, leb-false}
use lib.Dec.{leb, eqb}
use lib.ListN.{length, get_or, take, length-take}
use lib.Seq.{sets, take-add, take_all, take-length, get_or-take}
use Rattle.refusal.specs.Outcome.{answer}
use Rattle.refusal.specs.Effect.{effect}
use Rattle.laws.proofs.Tests.{cond_cases}
use Rattle.laws.proofs.PlacesLaws.{at_places, part-mem}
use Rattle.page.specs.PageSize.{IsPageSize}
use Rattle.page.proofs.PagesLaws.{page_count_fits}
use Rattle.overflow.specs.Totals.{cell_numbers, body, new_total, old_total, IsTotal}
use Rattle.overflow.specs.Layout.{numbers_before, bytes_before, bytes_on}
use Rattle.overflow.specs.ValuePages.{value_numbers, value_bytes, value_page}
use Rattle.overflow.specs.Cells.{Cell, hash_size, cell_bytes, decode_cell}
use Rattle.overflow.specs.Reading.{in_store, Found, with_page, in_cell, Walked, ended, stopped, walk, first_walk, value_total, admitted, numbers_room, bytes_room, read_pages, read_cell, read_value_into, delete_pages, delete_cell, delete_into}
use Rattle.overflow.specs.Kept.{Kept, cell_for}
use Rattle.overflow.specs.Theorems.{ReadsBack, DeletesAll, OneTotal}
use Rattle.overflow.proofs.NewTotalLaws.{either_enough, either_tight, either_few, either_positive}
use Rattle.overflow.proofs.LayoutLaws.{number_before, numbers_all, bytes_all, numbers_done, numbers_before_suc, bytes_before_suc}
use Rattle.overflow.proofs.ValuePagesLaws.{byte_count_value_page, value_page_fits, value_page_some, value_numbers_value_page, value_bytes_value_page}
use Rattle.overflow.proofs.CellsLaws.{decode-encoded}
use Rattle.overflow.proofs.ParseLaws.{store_page}
use Rattle.overflow.proofs.WalkLaws.{walk_page}

-- ---- what the walk finds

-- the numbers and the bytes of the cell and of the first i pages
abbrev found_in : ℕ → ℕ → List ℕ → List ℕ → ℕ → Found
found_in s total value numbers i = record { numbers = take (cell_numbers + numbers_before s total i) numbers; bytes = take (bytes_before s total (length value) i) value }

module _ {s total : ℕ} (page : IsPageSize s) {store value numbers : List ℕ} (kept : Kept s store total value numbers) where
  -- the numbers have 32 bits
  numbers_small : (n : ℕ) → Memᴰ n numbers → n < 256 ^ 4
  numbers_small = at_places (λ n. n < 256 ^ 4) numbers (λ i h. omega (arith, (kept.pages i (omega (arith, kept.count))).0, page_count_fits s store))

  -- ---- the cell

  module _ (hash : List ℕ) (long : length hash ≡ hash_size) (some : 1 ≤ total) where
    -- the cell reads back
    pub decode-back : decode_cell s (cell_bytes (cell_for value hash numbers)) ≡ answer (cell_for value hash numbers)
    decode-back =
        decode-encoded s (cell_for value hash numbers) kept.few long (λ n m. numbers_small n (part-mem n cell_numbers 0 numbers m))
        (omega (arith, length-take cell_numbers numbers, kept.count))

    -- and is admitted where there is room
    admitted_back : (room : Cell → Bool) → room (cell_for value hash numbers) ≡ true → admitted s room (cell_bytes (cell_for value hash numbers)) ≡ answer (cell_for value hash numbers)
    unfolding admitted
    admitted_back room r = rw (decode-back, le-leb 1 (length value) kept.size, r)

  -- ---- the walk, where the pages have room for the value and its numbers, and one page less would not

  module _ (enough : length value + 4 * (total - cell_numbers) ≤ body s * total) (tight : body s * total < length value + 4 * (total - cell_numbers) + body s) where
    -- where all numbers stand on the pages before page i, all are found
    numbers_found : (i : ℕ) → numbers_before s total i ≡ total - cell_numbers → (found_in s total value numbers i).numbers ≡ numbers
    numbers_found i e = take_all (cell_numbers + numbers_before s total i) numbers (omega (arith, kept.count))

    -- after all pages, all is found
    found_all : found_in s total value numbers total ≡ record { numbers = numbers; bytes = value }
    found_all =
        let ns = numbers_found total (numbers_all total page) in
        let bs : take (bytes_before s total (length value) total) value ≡ value = rw (bytes_all total page (length value) enough) (take-length value) in
        λ j. record { numbers = ns j; bytes = bs j }

    module _ (i : ℕ) (h : i < total) where
      -- the number of page i is found before it
      number_found : get_or (found_in s total value numbers i).numbers i 0 ≡ get_or numbers i 0
      number_found = get_or-take (cell_numbers + numbers_before s total i) numbers i 0 (number_before total page i h)

      -- so the walk knows it
      number_inside : i < length (found_in s total value numbers i).numbers
      number_inside = omega (arith, length-take (cell_numbers + numbers_before s total i) numbers, number_before total page i h, kept.count)

      -- and what stands there is page i
      page_is : in_store s store i (get_or (found_in s total value numbers i).numbers i 0) ≡ answer (value_page s total value numbers i)
      page_is = rw number_found (store_page s store i (get_or numbers i 0) (kept.pages i h).0 ∙ ap answer (kept.pages i h).1)

      -- the walk finds what is on it
      found_more : with_page (found_in s total value numbers i) (value_page s total value numbers i) ≡ found_in s total value numbers (suc i)
      found_more =
          let before = cell_numbers + numbers_before s total i in
          let ns : take before numbers ++ value_numbers (value_page s total value numbers i) ≡ take (cell_numbers + numbers_before s total (suc i)) numbers =
          rw (value_numbers_value_page page value numbers kept.count i numbers_small, numbers_before_suc total page i, ← add_assoc) (sym (take-add before _ numbers)) in
          let bs : take (bytes_before s total (length value) i) value ++ value_bytes (value_page s total value numbers i) ≡ take (bytes_before s total (length value) (suc i)) value =
          rw (value_bytes_value_page page value numbers kept.count i, bytes_before_suc total page (length value) i) (sym (take-add (bytes_before s total (length value) i) _ value)) in
          λ j. record { numbers = ns j; bytes = bs j }

      -- so it goes on from the next page, or ends there
      walk_more : (to_bytes : Bool) (left : ℕ)
          → walk s (in_store s store) to_bytes (suc left) i (found_in s total value numbers i)
          ≡ cond (to_bytes && leb 1 (bytes_on s total (length value) i)) (ended (suc i) (found_in s total value numbers (suc i))) (walk s (in_store s store) to_bytes left (suc i) (found_in s total value numbers (suc i)))
      walk_more to_bytes left =
          walk_page s (in_store s store) to_bytes left i (found_in s total value numbers i) number_inside page_is (value_page_fits page value numbers kept.count i) (value_page_some page value numbers kept.count i tight h)
          ∙ rw (byte_count_value_page page value numbers kept.count i, found_more)

    -- a reading walk over all pages, from page i on
    reads_on : (left i : ℕ) → i + left ≡ total → walk s (in_store s store) false left i (found_in s total value numbers i) ≡ ended total (record { numbers = numbers; bytes = value })
    unfolding walk
    reads_on zero i e = let last : i ≡ total = omega arith in rw last (ap (ended total) found_all)
    reads_on (suc left) i e = walk_more i (omega arith) false left ∙ reads_on left (suc i) (omega arith)

    -- how a walk to the first bytes comes out: it has found all numbers, and a byte
    pub record AllNumbers (w : Walked) : Type 0 where
      pub at : ℕ
      pub found : Found
      pub ended_is : w ≡ ended at found
      pub numbers_are : found.numbers ≡ numbers
      pub some : 1 ≤ length found.bytes

    -- from page i on, before which there are none, over as many pages as are left, or more
    finds_on : (left i : ℕ) → i ≤ total → total ≤ i + left → bytes_before s total (length value) i ≡ 0 → AllNumbers (walk s (in_store s store) true left i (found_in s total value numbers i))
    finds_on zero i low high none =
        let last : i ≡ total = omega arith in
        absurd (omega (arith, kept.size, none, ap (bytes_before s total (length value)) last, bytes_all total page (length value) enough))
    finds_on (suc left) i low high none = by_place (dec_lt i total) (finds_on left (suc i))
      where
        after : i < total → 1 ≤ bytes_on s total (length value) i → AllNumbers (ended (suc i) (found_in s total value numbers (suc i)))
        after h some =
            record {
              at = suc i;
              found = found_in s total value numbers (suc i);
              ended_is = refl;
              numbers_are = numbers_found (suc i) (numbers_done total page (length value) i some);
              some = omega (arith, some, length-take (bytes_before s total (length value) (suc i)) value, bytes_before_suc total page (length value) i, kept.size);
            }

        by_place : Dec (i < total)
            → (suc i ≤ total → total ≤ suc i + left → bytes_before s total (length value) (suc i) ≡ 0 → AllNumbers (walk s (in_store s store) true left (suc i) (found_in s total value numbers (suc i))))
            → AllNumbers (walk s (in_store s store) true (suc left) i (found_in s total value numbers i))
        by_place (yes h) again =
            rw (walk_more i h true left)
            (cond_cases AllNumbers (leb 1 (bytes_on s total (length value) i)) _ _
            (λ t. after h (leb-true 1 (bytes_on s total (length value) i) t))
            (λ t. again (omega arith) (omega arith) (omega (arith, none, bytes_before_suc total page (length value) i, leb-false 1 (bytes_on s total (length value) i) t))))
        by_place (no h) again =
            let last : i ≡ total = omega arith in
            absurd (omega (arith, kept.size, none, ap (bytes_before s total (length value)) last, bytes_all total page (length value) enough))

    module _ (hash : List ℕ) where
      -- the reading walk from the cell finds the numbers and the value
      walk-back : walk s (in_store s store) false total 0 (in_cell (cell_for value hash numbers)) ≡ ended total (record { numbers = numbers; bytes = value })
      unfolding numbers_before bytes_before
      walk-back = reads_on total 0 (zero-add total)

      -- the one to the first bytes finds the numbers and a byte
      walk_numbers : (left : ℕ) → total ≤ left → AllNumbers (walk s (in_store s store) true left 0 (in_cell (cell_for value hash numbers)))
      unfolding numbers_before bytes_before
      walk_numbers left h = finds_on left 0 (omega arith) (omega arith) refl

-- ---- the total

-- where all numbers are found with the first bytes, the total that is decided is the one that they were written by
module _ (s size total : ℕ) (either : IsTotal s size total) {w : Walked} {at : ℕ} {f : Found} (is : w ≡ ended at f) (count : length f.numbers ≡ total) (some : 1 ≤ length f.bytes) where
  total_back : value_total s size w ≡ total
  unfolding value_total
  total_back = rw (is, le-leb 1 (length f.bytes) some, count) (⊎_elim by_new by_old either)
    where
      by_new : total ≡ new_total s size → cond (eqb total (new_total s size)) (new_total s size) (old_total s size) ≡ total
      by_new e = rw (eq-eqb total (new_total s size) e) (sym e)

      by_old : total ≡ old_total s size → cond (eqb total (new_total s size)) (new_total s size) (old_total s size) ≡ total
      by_old e = cond_cases (λ (t : ℕ). t ≡ total) (eqb total (new_total s size)) _ _ (λ h. sym (eqb-true total (new_total s size) h)) (λ _. sym e)

-- ---- the theorems

module _ {s : ℕ} (page : IsPageSize s) (store : List ℕ) (total : ℕ) (value numbers : List ℕ) (either : IsTotal s (length value) total) (kept : Kept s store total value numbers)
    (hash : List ℕ) (long : length hash ≡ hash_size) where
  abbrev cell : Cell
  cell = cell_for value hash numbers

  enough : length value + 4 * (total - cell_numbers) ≤ body s * total
  enough = either_enough (length value) page kept.size either

  tight : body s * total < length value + 4 * (total - cell_numbers) + body s
  tight = either_tight (length value) page kept.size either

  few : total ≤ old_total s (length value)
  few = either_few (length value) page kept.size either

  some : 1 ≤ total
  some = either_positive (length value) page kept.size either

  -- what the first walk finds, and the total
  first : AllNumbers page kept enough tight (first_walk s (in_store s store) cell)
  first = walk_numbers page kept enough tight hash (old_total s (length value)) few

  decided : value_total s (length value) (first_walk s (in_store s store) cell) ≡ total
  decided = total_back s (length value) total either first.ended_is (ap length first.numbers_are ∙ kept.count) first.some

  read_back : (table buffer : List ℕ) → old_total s (length value) ≤ length table → length value ≤ length buffer
      → read_value_into s (cell_bytes cell) store (record { numbers = table; value = buffer })
      ≡ effect (answer (record { size = length value; numbers = length numbers })) (record { numbers = sets table 0 numbers; value = sets buffer 0 value })
  unfolding read_value_into
  read_back table buffer room fits =
      let walked = walk-back page kept enough tight hash in
      let all : take total numbers ≡ numbers = take_all total numbers (omega (arith, kept.count)) in
      let tests : leb (old_total s (length value)) (length table) && leb (length value) (length buffer) ≡ true =
      rw (le-leb (old_total s (length value)) (length table) room, le-leb (length value) (length buffer) fits) in
      ap (read_cell s store (record { numbers = table; value = buffer })) (admitted_back page kept hash long some (λ c. numbers_room s (length table) c && bytes_room (length buffer) c) tests)
      ∙ rw (decided, walked, all, eq-eqb (length numbers) total kept.count, eq-eqb (length value) (length value) refl)

  delete_back : (table : List ℕ) → old_total s (length value) ≤ length table → delete_into s (cell_bytes cell) store table ≡ effect (answer (length numbers)) (sets table 0 numbers)
  unfolding delete_into
  delete_back table room =
      let all : take total numbers ≡ numbers = take_all total numbers (omega (arith, kept.count)) in
      ap (delete_cell s store table) (admitted_back page kept hash long some (numbers_room s (length table)) (le-leb (old_total s (length value)) (length table) room))
      ∙ rw (decided, first.ended_is, first.numbers_are, all, eq-eqb (length numbers) total kept.count)

pub reads_back : {s : ℕ} → IsPageSize s → ReadsBack s
reads_back page store total value numbers either kept hash long = read_back page store total value numbers either kept hash long

pub deletes_all : {s : ℕ} → IsPageSize s → DeletesAll s
deletes_all page store total value numbers either kept hash long = delete_back page store total value numbers either kept hash long

-- where the two totals are the same, it is this one, however the walk comes out
pub one_total : (s : ℕ) → OneTotal s
unfolding value_total
one_total s store c same = let total = total_is (first_walk s (in_store s store) c) in ((λ lent. ap (read_pages s store lent c) total), (λ table. ap (delete_pages table (first_walk s (in_store s store) c)) total))
  where
    total_is : (w : Walked) → value_total s c.size w ≡ old_total s c.size
    total_is (ended i f) = cond_cases (λ (t : ℕ). t ≡ old_total s c.size) (leb 1 (length f.bytes) && eqb (length f.numbers) (new_total s c.size)) _ _ (λ _. same) (λ _. refl)
    total_is (stopped f n vs) = refl
