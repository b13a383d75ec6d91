-- The pages that a finish writes: one that has an old list page's number is the top page kept, full, and encoded as it would have been
-- before. What a store had past the entries of that page is not spoken of: no reader looks there.
use Prim.Native.Nat.{ℕ, ◌+◌, ◌*◌, ◌-◌, ◌<◌, ◌≤◌}
use native.Mathlib.Decide.{ℕ_discrete}
use native.Mathlib.Omega.{arith}
use mathlib.Core.Path.{◌≡◌, ap, subst, ◌∙◌}
use mathlib.Core.Logic.{◌⊎◌, inl, inr}
use mathlib.Core.Bool.{true, false, ◌&&◌, cond}
use mathlib.Core.List.{List, [], ◌∷◌, ◌++◌, Memᴰ}
use lib.Dec.{leb, eqb}
use lib.ListN.{length, get_or, take, length-append}
use lib.Seq.{length-take-le, get_or-append-add}
use borrow.Author.Tests.{leb-true, leb-false}
use Rattle.laws.proofs.Tests.{cond_cases}
use Rattle.page.specs.PageSize.{capacity}
use Rattle.laws.proofs.PlacesLaws.{get_d-mem}
use Rattle.free_list.specs.Shape.{FreeList, is_shape}
use Rattle.preallocate.specs.Plan.{Plan, plan_of}
use Rattle.finisher.specs.Finish.{new_list, left_list}
use Rattle.finisher.proofs.FreshLaws.{new_pages_lem, top_page}
use Rattle.finisher.proofs.NewListLaws.{length_new_pages}
use Rattle.finisher.proofs.KeptPageLaws.{SameKept, number_top, plan_keeps, kept_top}
use Rattle.laws.proofs.CountLaws.{mem-count}
use Rattle.finisher.proofs.NewNumbersLaws.{DistinctBelow}

module _ (s : ℕ) (l : FreeList) (k : ℕ) (freed : List ℕ) (bump : ℕ) (two : 2 ≤ capacity s)
    (shape : is_shape (capacity s) (length l.pages) (length l.entries) ≡ true)
    (kL : k ≤ length l.entries) (changed : eqb k 0 && eqb (length freed) 0 ≡ false) (distinct : DistinctBelow (left_list k l) bump) where
  abbrev t : Plan
  t = plan_of (capacity s) l k freed bump

  -- no list page is an entry that was not handed out, or lies past the bump
  apart : (n : ℕ) → Memᴰ n l.pages → Memᴰ n (left_list k l).entries → ⊥
  apart n p e = omega (arith, distinct.once n, mem-count n l.pages p, mem-count n (left_list k l).entries e)

  under : (n : ℕ) → Memᴰ n l.pages → bump ≤ n → ⊥
  under n p h = omega (arith, distinct.pages_under n p)

  -- the pages past those kept are the new ones
  behind : (j : ℕ) → t.kept ≤ j → get_or (new_list l t).pages j 0 ≡ get_or t.fresh (j - t.kept) 0
  unfolding new_list
  behind j h =
      let keeps = plan_keeps (capacity s) l k freed bump two shape kL changed in
      let kept = cond (leb 1 t.kept) (take (t.kept - 1) l.pages ++ (t.top ∷ [])) [] in
      let long : length kept ≡ t.kept =
      cond_cases (λ (ns : List ℕ). length ns ≡ t.kept) (leb 1 t.kept) (take (t.kept - 1) l.pages ++ (t.top ∷ [])) []
      (λ e. omega (arith, leb-true 1 t.kept e, length-append (take (t.kept - 1) l.pages) (t.top ∷ []), length-take-le (t.kept - 1) l.pages (omega (arith, keeps.kept))))
      (λ e. omega (arith, leb-false 1 t.kept e)) in
      let place : j ≡ length kept + (j - t.kept) = omega (arith, long) in
      ap (λ (i : ℕ). get_or (kept ++ t.fresh) i 0) place ∙ get_or-append-add kept t.fresh (j - t.kept) 0

  -- A page that is written at the number of an old list page is the top page kept. It is full, and its number, its previous number and
  -- its entries are what they were; so it is encoded as the old list's page would be.
  pub written_old : (j : ℕ) → t.kept ≤ j + 1 → j < length (new_list l t).pages → Memᴰ (get_or (new_list l t).pages j 0) l.pages
      → (j + 1 ≡ t.kept) × SameKept s l t j
  written_old j h below m = go (ℕ_discrete (j + 1) t.kept)
    where
      top : (j + 1 ≡ t.kept) → Memᴰ t.top (left_list k l).entries ⊎ ((t.left ≡ capacity s * t.kept) × (t.top ≡ get_or l.pages (t.kept - 1) 0))
          → (j + 1 ≡ t.kept) × SameKept s l t j
      top e (inl x) =
          absurd (apart t.top (subst (λ (n : ℕ). Memᴰ n l.pages) (number_top (plan_keeps (capacity s) l k freed bump two shape kL changed) j e) m) x)
      top e (inr x) =
          let same : t.kept - 1 ≡ j = omega arith in
          (e, subst (SameKept s l t) same (kept_top s l k freed bump two shape kL changed (omega arith) x.0))

      new : (n : ℕ) → Memᴰ n l.pages → Memᴰ n (left_list k l).entries ⊎ (bump ≤ n) → (j + 1 ≡ t.kept) × SameKept s l t j
      new n p (inl x) = absurd (apart n p x)
      new n p (inr x) = absurd (under n p x)

      go : Dec (j + 1 ≡ t.kept) → (j + 1 ≡ t.kept) × SameKept s l t j
      go (yes e) = top e (top_page (capacity s) l k freed bump (omega arith) shape (omega arith))
      go (no ne) =
          let keeps = plan_keeps (capacity s) l k freed bump two shape kL changed in
          let past : t.kept ≤ j = omega arith in
          let inside : j - t.kept < length t.fresh = omega (arith, length_new_pages l t keeps.kept keeps.left) in
          new (get_or t.fresh (j - t.kept) 0) (subst (λ (n : ℕ). Memᴰ n l.pages) (behind j past) m)
          (new_pages_lem (capacity s) l k freed bump (omega arith) shape _ (get_d-mem t.fresh (j - t.kept) inside))
