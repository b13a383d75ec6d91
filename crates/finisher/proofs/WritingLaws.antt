-- Writing the pages of a list to a store: what is written is found, and other pages stay.
use Prim.Native.Nat.{ℕ, zero, suc, ◌+◌, ◌*◌, ◌-◌, ◌/◌, ◌^◌, ◌<◌, ◌≤◌}
use native.Mathlib.Nat.{le-div_iff_mul-le}
use native.Mathlib.Decide.{ℕ_discrete}
use native.Mathlib.Omega.{arith}
use mathlib.Core.Path.{◌≡◌, refl, ◌∙◌, subst}
use mathlib.Core.Logic.{◌≢◌}
use mathlib.Core.List.{List}
use lib.ListN.{length, get_or}
use Rattle.page.specs.Pages.{page_count, page_at, write_page, write_pages}
use Rattle.page.proofs.PagesLaws.{length_written, page_same, page_other}
use Rattle.free_list.specs.Shape.{FreeList}
use Rattle.finisher.specs.Finish.{encoded_page, encoded_pages}

-- a page that lies in the store is one of its pages, where its number is small enough
pub page_inside : (s : ℕ) (store : List ℕ) (p : ℕ) → 0 < s → s * p + s ≤ length store → p < 2 ^ 32 - 1 → p < page_count s store
unfolding page_count
page_inside s store p pos h small =
    let q : suc p ≤ length store / s = (le-div_iff_mul-le {k = s} {x = suc p} {y = length store} pos).1 (omega arith) in
    omega arith

module _ (s : ℕ) (m : FreeList) (long : (j : ℕ) → j < length m.pages → length (encoded_page s m j).bytes ≡ s) where
  -- the store does not shrink
  pub written_longer : (n j : ℕ) (store : List ℕ) → j + n ≤ length m.pages → length store ≤ length (write_pages s store (encoded_pages s m j n))
  unfolding write_pages encoded_pages
  written_longer zero j store h = omega arith
  written_longer (suc n) j store h =
      omega (arith, length_written s store (encoded_page s m j) (long j (omega arith)), written_longer n (suc j) (write_page s store (encoded_page s m j)) (omega arith))

  -- a page with another number than those written stays
  pub written_other : (n j : ℕ) (store : List ℕ) (p : ℕ) → j + n ≤ length m.pages → ((i : ℕ) → j ≤ i → i < j + n → p ≢ get_or m.pages i 0) → s * p + s ≤ length store
      → page_at s (write_pages s store (encoded_pages s m j n)) p ≡ page_at s store p
  unfolding write_pages encoded_pages encoded_page
  written_other zero j store p h ne fits = refl
  written_other (suc n) j store p h ne fits =
      written_other n (suc j) (write_page s store (encoded_page s m j)) p (omega arith) (λ i a b. ne i (omega arith) (omega arith)) (omega (arith, length_written s store (encoded_page s m j) (long j (omega arith))))
      ∙ page_other s store (encoded_page s m j) (long j (omega arith)) p (ne j (omega arith) (omega arith)) fits

  -- a page that is written is found, where no two have one number
  module _ (differ : (i j : ℕ) → i < j → j < length m.pages → get_or m.pages i 0 ≢ get_or m.pages j 0) where
    abbrev Found : List ℕ → ℕ → Type 0
    Found store i = (page_at s store (get_or m.pages i 0) ≡ (encoded_page s m i).bytes) × (s * get_or m.pages i 0 + s ≤ length store)

    found_first : (n j : ℕ) (store : List ℕ) → j + suc n ≤ length m.pages → Found (write_pages s (write_page s store (encoded_page s m j)) (encoded_pages s m (suc j) n)) j
    unfolding encoded_page
    found_first n j store h =
        let w = encoded_page s m j in
        let whole = length_written s store w (long j (omega arith)) in (
          written_other n (suc j) (write_page s store w) (get_or m.pages j 0) (omega arith) (λ i a b. differ j i (omega arith) (omega arith)) whole.1
              ∙ page_same s store w (long j (omega arith)),
          omega (arith, whole.1, written_longer n (suc j) (write_page s store w) (omega arith)),
        )

    pub written-found : (n j : ℕ) (store : List ℕ) → j + n ≤ length m.pages → (i : ℕ) → j ≤ i → i < j + n → Found (write_pages s store (encoded_pages s m j n)) i
    unfolding write_pages encoded_pages
    written-found zero j store h i a b = absurd (omega arith)
    written-found (suc n) j store h i a b = go (ℕ_discrete j i) (written-found n (suc j) (write_page s store (encoded_page s m j)) (omega arith) i)
      where
        go : Dec (j ≡ i) → (suc j ≤ i → i < suc j + n → Found (write_pages s (write_page s store (encoded_page s m j)) (encoded_pages s m (suc j) n)) i)
            → Found (write_pages s (write_page s store (encoded_page s m j)) (encoded_pages s m (suc j) n)) i
        go (yes e) rest = subst (λ (x : ℕ). Found (write_pages s (write_page s store (encoded_page s m j)) (encoded_pages s m (suc j) n)) x) e (found_first n j store h)
        go (no ne) rest = rest (omega arith) (omega arith)
