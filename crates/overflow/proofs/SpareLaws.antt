-- The spare room is what the pages of a value leave, and no difference in it is cut off.
-- What the first pages hold and what they leave are their bodies, by induction; all pages hold the value and its numbers.
use Prim.Native.Nat.{ℕ, zero, suc, ◌+◌, ◌*◌, ◌-◌, ◌≤◌, ◌<◌}
use mathlib.Core.Path.{◌≡◌, subst}
use mathlib.Core.Bool.{◌&&◌}
use mathlib.Core.List.{List, []}
use native.Mathlib.Nat.{mul-suc, mul-zero}
use native.Mathlib.Omega.{arith}
use borrow.Author.Tests.{ltb-false, leb-true}
use lib.Dec.{leb, ltb}
use lib.ListN.{length}
use Rattle.refusal.specs.Outcome.{answer}
use Rattle.refusal.proofs.OutcomeLaws.{unanswer, check_answer}
use Rattle.laws.proofs.Tests.{cond_cases, and-true}
use Rattle.page.specs.PageSize.{IsPageSize}
use Rattle.page.proofs.PageSizeLaws.{page_least}
use Rattle.overflow.specs.Totals.{max_size, cell_numbers, body, new_total, spare_room, Total, total_of, page_total}
use Rattle.overflow.specs.Layout.{numbers_before, bytes_before}
use Rattle.overflow.specs.ValuePages.{number_count, byte_count, value_page}
use Rattle.overflow.specs.Theorems.{left_on, left_on_pages, SpareIsLeft, PageWhole, BodiesWhole}
use Rattle.overflow.proofs.NewTotalLaws.{new_enough, new_tight}
use Rattle.overflow.proofs.LayoutLaws.{numbers_all, bytes_all, numbers_before_suc, bytes_before_suc}
use Rattle.overflow.proofs.ValuePagesLaws.{length_value_page, number_count_value_page, byte_count_value_page, value_page_fits}

-- ---- from the pages' counts

module _ {s total : ℕ} (page : IsPageSize s) (value numbers : List ℕ) (whole : length numbers ≡ total) where
  -- what a page holds and leaves
  page_whole_of : (i : ℕ) → let p = value_page s total value numbers i in (length p ≡ s) × (4 + 4 * number_count p + byte_count p + left_on p ≡ s)
  unfolding left_on
  page_whole_of i =
      let all = length_value_page page value numbers whole i in
      (all, omega (arith, all, value_page_fits page value numbers whole i, page_least page))

  -- what the first n pages hold and leave
  left-before : (n : ℕ) → left_on_pages s total value numbers n + (bytes_before s total (length value) n + 4 * numbers_before s total n) ≡ body s * n
  unfolding left_on_pages bytes_before numbers_before
  left-before zero = rw mul-zero (omega arith)
  left-before (suc n) =
      rw (mul-suc, numbers_before_suc total page n, bytes_before_suc total page (length value) n)
      (omega (arith, left-before n, (page_whole_of n).1, number_count_value_page page value numbers whole n, byte_count_value_page page value numbers whole n, page_least page))

  -- all pages, where they have room for the value and its numbers
  left_all : length value + 4 * (total - cell_numbers) ≤ body s * total
      → left_on_pages s total value numbers total + (length value + 4 * (total - cell_numbers)) ≡ body s * total
  left_all enough =
      omega (arith, left-before total, numbers_all total page, bytes_all total page (length value) enough)

-- ---- from the definition

-- with such room, the spare room is the rest of the bodies
spare_rest : (s size total : ℕ) → size + 4 * (total - cell_numbers) ≤ body s * total
    → spare_room s size total + (size + 4 * (total - cell_numbers)) ≡ body s * total
unfolding spare_room
spare_rest s size total enough =
    cond_cases (λ (room : ℕ). room + (size + 4 * (total - cell_numbers)) ≡ body s * total) (ltb cell_numbers total) _ _ (λ _. omega arith)
    (λ e. omega (arith, ltb-false cell_numbers total e))

-- of the new total's pages it is less than one body
pub spare_small : {s : ℕ} (size : ℕ) → IsPageSize s → 1 ≤ size → spare_room s size (new_total s size) < body s
spare_small {s} size page some =
    omega (arith, spare_rest s size (new_total s size) (new_enough size page some), new_tight size page some)

-- a property of what is told of a size that a value can have, from that of its total
told : (s size : ℕ) (Q : Total → Type 0) → (1 ≤ size → Q (total_of s size (new_total s size))) → (t : Total) → page_total s size ≡ answer t → Q t
unfolding page_total
told s size Q q t e =
    let c = check_answer (leb 1 size && leb size (max_size s)) 10 [] (answer (total_of s size (new_total s size))) e in
    subst Q (unanswer c.1) (q (leb-true 1 size (and-true (leb 1 size) (leb size (max_size s)) c.0).0))

-- ---- the statements

pub spare_is_left : {s : ℕ} → IsPageSize s → SpareIsLeft s
unfolding total_of
spare_is_left {s} page value numbers =
    let size = length value in
    told s size (λ (t : Total). length numbers ≡ t.total → t.spare ≡ left_on_pages s t.total value numbers t.total)
    (λ some whole. let enough = new_enough size page some in omega (arith, left_all page value numbers whole enough, spare_rest s size (new_total s size) enough))

pub page_whole : {s : ℕ} → IsPageSize s → PageWhole s
page_whole page total value numbers i whole = page_whole_of page value numbers whole i

pub bodies_whole : {s : ℕ} → IsPageSize s → BodiesWhole s
unfolding total_of
bodies_whole {s} page size =
    told s size (λ (t : Total). size + 4 * t.total + t.spare ≡ body s * t.total + 4 * t.cell)
    (λ some. omega (arith, spare_rest s size (new_total s size) (new_enough size page some)))
