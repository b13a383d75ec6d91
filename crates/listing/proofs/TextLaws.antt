-- The text of a line is short, and document 01's example.
use Prim.Native.Nat.{ℕ, suc, ◌+◌, ◌^◌, min, ◌≤◌, ◌<◌}
use mathlib.Core.Path.{◌≡◌, refl}
use mathlib.Core.Bool.{Bool, true, false, ◌&&◌}
use mathlib.Core.List.{List, [], flat_map}
use native.Mathlib.Nat.{pow-le-pow_right}
use native.Mathlib.Omega.{arith}
use lib.Dec.{leb}
use lib.ListN.{length, length-append}
use borrow.Author.Tests.{leb-true}
use Rattle.std.specs.Prelude.{Option, Some, None, codes}
use Rattle.refusal.specs.Outcome.{answer, check}
use Rattle.laws.proofs.Tests.{cond_cases, and-true}
use Rattle.page.specs.PageSize.{standard_page_size}
use Rattle.page.proofs.PageSizeLaws.{page-size}
use Rattle.overflow.specs.Totals.{Total, max_size, cell_numbers, holds, first_from, new_total, raw_pages, old_total, spare_room, total_of, page_total}
use Rattle.overflow.proofs.TotalsLaws.{total_small}
use Rattle.overflow.proofs.NewTotalLaws.{new_within}
use Rattle.overflow.proofs.SpareLaws.{spare_small}
use Rattle.listing.specs.Decimal.{is_digit, all_digits, decimal_after, decimal_of, digits_up_to, digits_of}
use Rattle.listing.specs.Lines.{lines_after, size_of}
use Rattle.listing.specs.Text.{number_text, outcome_text, size_text, line_text, max_text, header, listing}
use Rattle.listing.proofs.DecimalLaws.{digits_few, digits_short, decimal_bound}

-- ---- how long a text is

length-number : (k n : ℕ) → n < 10 ^ suc k → length (number_text n) ≤ suc (suc k)
unfolding number_text
length-number k n h = omega (arith, digits_few n k n h)

-- the numbers told of a size
length_answer : (n : ℕ) → 1 ≤ n → n < 10 ^ 9 → length (outcome_text (answer (total_of standard_page_size n (new_total standard_page_size n)))) ≤ 25
unfolding outcome_text total_of
length_answer n some h =
    let t : ℕ = new_total standard_page_size n in
    let few : t < 10 ^ 10 = omega (arith, new_within page-size n some, total_small n page-size) in
    let spare : spare_room standard_page_size n t < 10 ^ 10 = omega (arith, spare_small n page-size some) in
    simp length-append
    (omega (arith, length-number 9 t few, length-number 1 (min t cell_numbers) (omega arith), length-number 9 (spare_room standard_page_size n t) spare))

length-check : (b : Bool) (t : Total) → (b ≡ true → length (outcome_text (answer t)) ≤ 25) → length (outcome_text (check b 10 [] (answer t))) ≤ 25
unfolding outcome_text number_text digits_up_to
length-check true t h = h refl
length-check false t h = omega arith

-- the text of a size of up to 20 digits
pub length_size : (n : ℕ) → length (digits_of n) ≤ 20 → length (size_text standard_page_size (Some n)) ≤ max_text
unfolding size_text page_total max_size
length_size n few =
    simp length-append
    (omega (arith, length-check (leb 1 n && leb n (max_size standard_page_size)) (total_of standard_page_size n (new_total standard_page_size n)) short))
  where
    short : leb 1 n && leb n (max_size standard_page_size) ≡ true → length (outcome_text (answer (total_of standard_page_size n (new_total standard_page_size n)))) ≤ 25
    short e =
        let both = and-true (leb 1 n) (leb n (max_size standard_page_size)) e in
        length_answer n (leb-true 1 n both.0) (omega (arith, leb-true n (max_size standard_page_size) both.1))

pub length_header : length header ≤ max_text
unfolding header
length_header = omega arith

pub length_bad : length (size_text standard_page_size None) ≤ max_text
unfolding size_text
length_bad = omega arith

-- the text of a line
pub length_line : (line : List ℕ) → length (line_text standard_page_size line) ≤ max_text
unfolding line_text size_of size_text
length_line line =
    cond_cases (λ (size : Option ℕ). length (size_text standard_page_size size) ≤ max_text) (leb 1 (length line) && leb (length line) 9 && all_digits line) (Some (decimal_of line)) None sized (λ _. omega arith)
  where
    sized : leb 1 (length line) && leb (length line) 9 && all_digits line ≡ true → length (size_text standard_page_size (Some (decimal_of line))) ≤ max_text
    sized e =
        let both = and-true (leb 1 (length line) && leb (length line) 9) (all_digits line) e in
        let few : length line ≤ 9 = leb-true (length line) 9 (and-true (leb 1 (length line)) (leb (length line) 9) both.0).1 in
        let most : 10 ^ (0 + length line) ≤ 10 ^ 9 = pow-le-pow_right {n = 10} (omega arith) {i = 0 + length line} {j = 9} (omega arith) in
        length_size (decimal_of line) (digits_short (decimal_of line) (omega (arith, decimal_bound line 0 0 (omega arith) both.1)))

-- ---- document 01's example, with document 02's spare room

-- the last line without its newline
example : listing standard_page_size (codes "1\n61381\n0\n7a")
    ≡ codes "size pages cell spare\n1 1 1 4091\n61381 16 15 4087\n0 refused 10\nbad\n"
unfolding max_size is_digit all_digits decimal_after digits_up_to holds first_from new_total raw_pages old_total spare_room total_of page_total lines_after size_of number_text outcome_text size_text line_text header listing flat_map
example = refl
