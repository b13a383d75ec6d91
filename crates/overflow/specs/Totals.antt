-- How many pages a value takes, at pages of s bytes: the new total, by which values are written, and the old one, which stored values may have.
use Rattle.std.specs.Prelude.{ℕ, zero, suc, ◌+◌, ◌*◌, ◌-◌, ◌/◌, ◌^◌, ◌≡◌, ◌⊎◌, min, Bool, ◌&&◌, ◌||◌, cond, [], leb, ltb, eqb, Result}
use Rattle.refusal.specs.Outcome.{Outcome, answer, check}
use Rattle.refusal.specs.Refusals.{outcome}
use Rattle.refusal.specs.declared.Refusal.{Refusal}
use Rattle.page.specs.PageSize.{panel_page_size}
use Rattle.overflow.specs.declared.total.PageTotal.{PageTotal}
use Rattle.overflow.specs.declared.total.TotalRule.{TotalRule}
use Rattle.overflow.specs.declared.total.TotalRule.TheVariants.{New, Old}

-- the largest value: less at the panel's page size, and the same at all others
unfoldable pub max_size : ℕ → ℕ
max_size s = cond (eqb s panel_page_size) (2 ^ 20) (2 ^ 29)

-- a cell holds the numbers of so many pages
abbrev pub cell_numbers : ℕ
cell_numbers = 15

-- what the header of a value page leaves for numbers and bytes
abbrev pub body : ℕ → ℕ
body s = s - 4

-- ---- the new total

-- whether so many pages have room for a value: its bytes, and the numbers that the cell has no place for
unfoldable pub holds : ℕ → ℕ → ℕ → Bool
holds s size p = leb (size + 4 * (p - cell_numbers)) (body s * p)

-- the first number that passes a test, of `left` from i on; the one behind them where none of these does
unfoldable pub first_from : (ℕ → Bool) → ℕ → ℕ → ℕ
first_from test i zero = i
first_from test i (suc left) = cond (test i) i (first_from test (suc i) left)

-- the least count of pages that has room for the value; as many pages as it has bytes always have (`least` of proofs/NewTotalLaws)
unfoldable pub new_total : ℕ → ℕ → ℕ
new_total s size = first_from (holds s size) 0 size

-- ---- the old total

-- the pages that the bytes alone would take: size / body, rounded up
unfoldable pub raw_pages : ℕ → ℕ → ℕ
raw_pages s size = (size + (body s - 1)) / body s

-- as many, where the cell holds their numbers or the last page has room for those that it does not; else some more
unfoldable pub old_total : ℕ → ℕ → ℕ
old_total s size =
    let r = raw_pages s size in
    let m = size + 4 * (r - cell_numbers) - body s * r in
    cond (leb r cell_numbers || leb (r - cell_numbers) ((body s * r - size) / 4)) r (r + (m + (body s - 3)) / (body s - 4))

-- by the rule that a writer goes by
abbrev pub total_by : TotalRule → ℕ → ℕ → ℕ
total_by New = new_total
total_by Old = old_total

-- one of the two
abbrev pub IsTotal : ℕ → ℕ → ℕ → Type 0
IsTotal s size total = (total ≡ new_total s size) ⊎ (total ≡ old_total s size)

-- ---- what is told of a size

-- what `total` pages leave of their bodies, behind the value's bytes and the numbers that the cell has no place for
unfoldable pub spare_room : ℕ → ℕ → ℕ → ℕ
spare_room s size total =
    cond (ltb cell_numbers total) (body s * total - size - 4 * (total - cell_numbers)) (body s * total - size)

-- the total, how many of the numbers go to the cell, the spare room, and how many numbers a reader's table must have place for: as many as
-- a value of this size may have
pub record Total : Type 0 where
  pub total : ℕ
  pub cell : ℕ
  pub spare : ℕ
  pub room : ℕ

unfoldable pub total_of : ℕ → ℕ → ℕ → Total
total_of s size total = record { total = total; cell = min total cell_numbers; spare = spare_room s size total; room = old_total s size }

-- the same of a size that a value can have, or refusal 10
unfoldable pub page_total : ℕ → ℕ → Outcome Total
page_total s size = check (leb 1 size && leb size (max_size s)) 10 [] (answer (total_of s size (new_total s size)))

-- what the code answers, as an outcome
abbrev pub total_outcome : Result PageTotal Refusal → Outcome Total
total_outcome = outcome (λ t. record { total = t.total; cell = t.cell; spare = t.spare; room = t.room })
