-- The numbers of the new list: where they come from, that its pages differ, and that they are below the new bump.
use Prim.Native.Nat.{ℕ, zero, suc, ◌+◌, ◌-◌, ◌<◌, ◌≤◌}
use native.Mathlib.Decide.{dec_lt}
use native.Mathlib.Omega.{arith}
use mathlib.Core.Path.{◌≡◌, ap}
use mathlib.Core.Logic.{◌⊎◌, inl, inr, ◌≢◌}
use mathlib.Core.Bool.{true}
use mathlib.Core.List.{List, Memᴰ}
use lib.ListN.{length, get_or, take}
use Rattle.laws.specs.Counting.{count, numbers_from}
use Rattle.laws.proofs.CountLaws.{count-append, count_split, mem-count, count-mem, count_two, count-before, count_once, count_within_lem}
use Rattle.free_list.specs.Shape.{FreeList, is_shape}
use Rattle.preallocate.specs.Plan.{Plan, plan_of}
use Rattle.preallocate.proofs.CasesLaws.{mends}
use Rattle.preallocate.proofs.PlanLaws.{plan_bump}
use Rattle.finisher.specs.Finish.{new_list, left_list}
use Rattle.finisher.proofs.PushLaws.{plan-pushes}
use Rattle.finisher.proofs.CountLaws.{count-push_list, conserved}

-- What new pages need of what is left of a list, and of the bump after the numbers handed out; a finish that answers has seen it.
-- `once`: no number stands in it twice, as a page or as an entry; else a new page could be written over a page that is kept.
-- `pages_under`, `entries_under`: all are below that bump; else a page taken past it could be written over one that is kept.
-- `bump_some`: that bump is not 0, which as a page's number would end the list.
pub record DistinctBelow (l : FreeList) (bump : ℕ) : Type 0 where
  pub once : (x : ℕ) → count x l.pages + count x l.entries ≤ 1
  pub pages_under : (x : ℕ) → Memᴰ x l.pages → x < bump
  pub entries_under : (x : ℕ) → Memᴰ x l.entries → x < bump
  pub bump_some : 1 ≤ bump

module _ (c : ℕ) (l : FreeList) (k : ℕ) (freed : List ℕ) (bump : ℕ) (two : 2 ≤ c)
    (shape : is_shape c (length l.pages) (length l.entries) ≡ true) where
  abbrev plan : Plan
  plan = plan_of c l k freed bump

  -- the push list: freed numbers and old pages
  count_pushed : (x : ℕ) → (count x freed ≤ count x plan.pushed) × (count x plan.pushed ≤ count x freed + count x l.pages)
  count_pushed x =
      let low = length l.pages - (length plan.pushed - length freed) in
      let p = plan-pushes c l k freed bump (omega arith) shape in
      omega (
        arith,
        ap (count x) p.list,
        count-push_list x freed (mends c l k) l.pages low,
        count_split x low l.pages,
      )

  count_new_entries : (x : ℕ) → count x (new_list l plan).entries ≡ count x (take plan.left l.entries) + count x plan.pushed
  unfolding new_list
  count_new_entries x = count-append x (take plan.left l.entries) plan.pushed

  -- a page of the new list was a page of the old one or an entry that was not handed out, or is taken past the bump
  pub count_new_pages : (x : ℕ) → count x (new_list l plan).pages ≤ count x l.pages + count x (left_list k l).entries + count x (numbers_from bump (plan.bump - bump))
  count_new_pages x = omega (arith, conserved c (omega arith) l k freed bump shape x, count_new_entries x, count_pushed x, count_split x (length l.entries - k) l.entries)

  -- An entry of the new list was an entry or a page of the old one, or was freed.
  pub new_entry : (x : ℕ) → Memᴰ x (new_list l plan).entries → Memᴰ x l.entries ⊎ (Memᴰ x l.pages ⊎ Memᴰ x freed)
  new_entry x m = go (dec_lt 0 (count x l.entries)) (dec_lt 0 (count x l.pages))
    where
      go : Dec (0 < count x l.entries) → Dec (0 < count x l.pages) → Memᴰ x l.entries ⊎ (Memᴰ x l.pages ⊎ Memᴰ x freed)
      go (yes y) d = inl (count-mem x l.entries (omega arith))
      go (no n) (yes y) = inr (inl (count-mem x l.pages (omega arith)))
      go (no n) (no o) =
          inr (inr (count-mem x freed (omega (arith, mem-count x (new_list l plan).entries m, count_new_entries x, count_pushed x, count_split x plan.left l.entries))))

  module _ (distinct : DistinctBelow (left_list k l) bump) where
    abbrev left : List ℕ
    left = (left_list k l).entries

    -- where x is not below the bump, it is not in what is left of the list
    none_past : (x : ℕ) → bump ≤ x → count x l.pages + count x left ≡ 0
    none_past x h = go (dec_lt 0 (count x l.pages)) (dec_lt 0 (count x left))
      where
        go : Dec (0 < count x l.pages) → Dec (0 < count x left) → count x l.pages + count x left ≡ 0
        go (yes y) d = absurd (omega (arith, distinct.pages_under x (count-mem x l.pages (omega arith))))
        go (no n) (yes y) = absurd (omega (arith, distinct.entries_under x (count-mem x left (omega arith))))
        go (no n) (no o) = omega arith

    -- The pages of the new list are different.
    pub pages-once : (x : ℕ) → count x (new_list l plan).pages ≤ 1
    pages-once x = go (dec_lt x bump)
      where
        go : Dec (x < bump) → count x (new_list l plan).pages ≤ 1
        go (yes y) = omega (arith, count_new_pages x, distinct.once x, count-before x bump (plan.bump - bump) y)
        go (no n) = omega (arith, count_new_pages x, none_past x (omega arith), count_once x bump (plan.bump - bump))

    -- The pages of the new list are below the new bump.
    pub pages-below : (x : ℕ) → Memᴰ x (new_list l plan).pages → x < plan.bump
    pages-below x m = go (dec_lt x bump)
      where
        up : bump ≤ plan.bump
        up = plan_bump c l two shape k freed bump

        go : Dec (x < bump) → x < plan.bump
        go (yes y) = omega (arith, up)
        go (no n) =
            let past = count_within_lem x bump (plan.bump - bump) (omega (arith, mem-count x (new_list l plan).pages m, count_new_pages x, none_past x (omega arith))) in
            omega (arith, up, past)

    -- None is 0, where none of the old list is.
    pub pages-some : count 0 l.pages + count 0 l.entries ≡ 0 → (x : ℕ) → Memᴰ x (new_list l plan).pages → 1 ≤ x
    pages-some none zero m =
        absurd (omega (arith, mem-count 0 (new_list l plan).pages m, count_new_pages 0, count_split 0 (length l.entries - k) l.entries, count-before 0 bump (plan.bump - bump) distinct.bump_some))
    pages-some none (suc x) m = omega arith

    -- No two pages of the new list have one number.
    pub pages-differ : (i j : ℕ) → i < j → j < length (new_list l plan).pages → get_or (new_list l plan).pages i 0 ≢ get_or (new_list l plan).pages j 0
    pages-differ i j h k e = omega (arith, count_two (new_list l plan).pages i j h k e, pages-once (get_or (new_list l plan).pages j 0))
