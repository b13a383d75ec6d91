-- The total is enough for the value and the numbers that the cell has no place for, and with one page less there would be bytes left.
-- By the two cases of the rule (`total_cases`), each an inequality of a quotient.
use Prim.Native.Nat.{ℕ, zero, suc, ◌+◌, ◌*◌, ◌-◌, ◌/◌, ◌^◌, ◌≤◌, ◌<◌}
use mathlib.Core.Path.{◌≡◌, sym, subst, subst⁻¹}
use mathlib.Core.Logic.{⊎_elim}
use mathlib.Core.Bool.{true, false, ◌||◌}
use native.Mathlib.Nat.{lt-div-mul-add, div-mul-le_self, mul-le-mul_right, mul-add, mul-suc, mul-zero}
use native.Mathlib.Omega.{arith}
use borrow.Author.Tests.{leb-true, leb-false}
use lib.Dec.{leb, eqb}
use Rattle.laws.proofs.Tests.{cond_cases, or-true, or-false}
use Rattle.page.specs.PageSize.{IsPageSize, panel_page_size}
use Rattle.page.proofs.PageSizeLaws.{page_least}
use Rattle.overflow.specs.Totals.{max_size, cell_numbers, body, raw_pages, old_total}

-- no page size has a larger limit
pub max_size_lem : (s : ℕ) → max_size s ≤ 2 ^ 29
unfolding max_size
max_size_lem s = cond_cases (λ (n : ℕ). n ≤ 2 ^ 29) (eqb s panel_page_size) (2 ^ 20) (2 ^ 29) (λ e. omega arith) (λ e. omega arith)

-- a factor of a positive product
positive_factor : (a n : ℕ) → 0 < a * n → 0 < n
positive_factor a zero h = rw mul-zero at h
positive_factor a (suc n) h = omega arith

-- a count of pages that leaves no page of b bytes unused is not much more than the bytes
few_pages : (b t size : ℕ) → 8 < b → b * t < size + 4 * (t - 15) + b → t ≤ size + 4
few_pages b zero size large tight = omega arith
few_pages b (suc u) size large tight =
    let e : b * suc u ≡ b * u + b = mul-suc b u in
    omega (arith, mul-le-mul_right u large)

-- the bodies of k pages are what these have beside their own numbers, and the numbers
pub pages_room : (b k : ℕ) → 8 < b → b * k ≡ k * (b - 4) + 4 * k
pages_room b k large = let e : b ≡ b - 4 + 4 = omega arith in subst (λ (z : ℕ). z * k ≡ k * (b - 4) + 4 * k) (sym e) (omega arith)

-- k more pages for what is lacking: enough, and not one too many. A page more has room for b bytes less the 4 of its number
module _ (b r size : ℕ) (large : 8 < b) (past : 15 < r) (short : b * r < size + 4 * (r - 15)) where
  extra : ℕ
  extra = (size + 4 * (r - 15) - b * r + (b - 3)) / (b - 4)

  extra_enough : size + 4 * (r + extra - 15) ≤ b * (r + extra)
  unfolding extra
  extra_enough = rw mul-add (omega (arith, pages_room b extra large, lt-div-mul-add {a = size + 4 * (r - 15) - b * r + (b - 3)} {b = b - 4} (omega arith)))

  extra_tight : b * (r + extra) < size + 4 * (r + extra - 15) + b
  unfolding extra
  extra_tight = rw mul-add (omega (arith, pages_room b extra large, div-mul-le_self (size + 4 * (r - 15) - b * r + (b - 3)) (b - 4)))

module _ {s : ℕ} (size : ℕ) (page : IsPageSize s) where
  -- the raw pages hold the bytes
  pub raw_covers : size ≤ body s * raw_pages s size
  unfolding raw_pages
  raw_covers =
      let h = page_least page in
      omega (arith, lt-div-mul-add {a = size + (body s - 1)} {b = body s} (omega arith))

  -- and one less would not
  pub raw_tight : body s * raw_pages s size < size + body s
  unfolding raw_pages
  raw_tight =
      let h = page_least page in
      omega (arith, div-mul-le_self (size + (body s - 1)) (body s))

  -- a property of the total, from the two cases of the rule: the raw pages have room for the numbers that the cell has not, or lack some
  pub total_cases : (Q : ℕ → Type 0)
      → (size + 4 * (raw_pages s size - cell_numbers) ≤ body s * raw_pages s size → Q (raw_pages s size))
      → (cell_numbers < raw_pages s size
      → body s * raw_pages s size < size + 4 * (raw_pages s size - cell_numbers)
      → Q (raw_pages s size + (size + 4 * (raw_pages s size - cell_numbers) - body s * raw_pages s size + (body s - 3)) / (body s - 4)))
      → Q (old_total s size)
  unfolding old_total
  total_cases Q room none =
      let few = leb (raw_pages s size) cell_numbers in
      let fit = leb (raw_pages s size - cell_numbers) ((body s * raw_pages s size - size) / 4) in
      cond_cases Q (few || fit) _ _ (λ e. room (⊎_elim few_room fit_room (or-true few fit e))) (λ e. short (or-false few fit e))
    where
      few_room : leb (raw_pages s size) cell_numbers ≡ true → size + 4 * (raw_pages s size - cell_numbers) ≤ body s * raw_pages s size
      few_room e = omega (arith, leb-true (raw_pages s size) cell_numbers e, raw_covers)

      fit_room : leb (raw_pages s size - cell_numbers) ((body s * raw_pages s size - size) / 4) ≡ true → size + 4 * (raw_pages s size - cell_numbers) ≤ body s * raw_pages s size
      fit_room e = omega (arith, leb-true (raw_pages s size - cell_numbers) ((body s * raw_pages s size - size) / 4) e, raw_covers)

      short : (leb (raw_pages s size) cell_numbers ≡ false) × (leb (raw_pages s size - cell_numbers) ((body s * raw_pages s size - size) / 4) ≡ false)
          → Q (raw_pages s size + (size + 4 * (raw_pages s size - cell_numbers) - body s * raw_pages s size + (body s - 3)) / (body s - 4))
      short e =
          none (leb-false (raw_pages s size) cell_numbers e.0)
          (omega (arith, leb-false (raw_pages s size - cell_numbers) ((body s * raw_pages s size - size) / 4) e.1, raw_covers))

  -- a value of one byte or more has a page
  pub total_positive : 1 ≤ size → 1 ≤ old_total s size
  total_positive h =
      total_cases (λ t. 1 ≤ t) (λ _. positive_factor (body s) (raw_pages s size) (omega (arith, raw_covers))) (λ past _. omega arith)

  -- the pages have room for the bytes and for the numbers that the cell has no place for
  pub total_enough : size + 4 * (old_total s size - cell_numbers) ≤ body s * old_total s size
  unfolding extra
  total_enough =
      total_cases (λ t. size + 4 * (t - cell_numbers) ≤ body s * t) (λ h. h)
      (λ past short. extra_enough (body s) (raw_pages s size) size (omega (arith, page_least page)) past short)

  -- with one page less there would be bytes left
  pub total_tight : body s * old_total s size < size + 4 * (old_total s size - cell_numbers) + body s
  unfolding extra
  total_tight =
      total_cases (λ t. body s * t < size + 4 * (t - cell_numbers) + body s) (λ _. omega (arith, raw_tight))
      (λ past short. extra_tight (body s) (raw_pages s size) size (omega (arith, page_least page)) past short)

  -- the total is not much more than the size, and so than the limit
  pub total_small : old_total s size ≤ size + 4
  total_small = few_pages (body s) (old_total s size) size (omega (arith, page_least page)) total_tight

  pub total_few : size ≤ max_size s → old_total s size ≤ max_size s + 4
  total_few h = omega (arith, total_small)

-- what is known of the raw pages, in the numbers of the code
pub record Raw (s size raw : ℕ) : Type 0 where
  pub large : 16 ≤ s
  pub limit : s ≤ 65536
  pub covers : size ≤ body s * raw
  pub tight : body s * raw < size + body s
  pub few : raw ≤ body s * raw
  pub small : size ≤ 2 ^ 29

pub raw_facts : {s size : ℕ} (raw : ℕ) → raw ≡ raw_pages s size → IsPageSize s → size ≤ max_size s → Raw s size raw
raw_facts {s} {size} raw e page limit =
    let one : 1 ≤ body s = omega (arith, page_least page) in
    subst⁻¹ (λ (r : ℕ). Raw s size r) e
    (record { large = page_least page; limit = page.limit; covers = raw_covers size page; tight = raw_tight size page; few = omega (arith, mul-le-mul_right (raw_pages s size) one); small = omega (arith, max_size_lem s) })
