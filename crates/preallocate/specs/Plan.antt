-- Which list pages a finish keeps, takes and gives back: `discard` and `preallocate`, with c entries to a list page.
use Rattle.std.specs.Prelude.{ℕ, zero, suc, ◌+◌, ◌*◌, ◌-◌, ◌/◌, true, false, ◌&&◌, cond, List, [], ◌∷◌, ◌++◌, reverse, leb, ltb, eqb, length, get_or, drop}
use Rattle.free_list.specs.Shape.{FreeList, is_fragmented}

-- a finish under way: how many pages and entries of the first list are kept, the number of the top kept page (of no meaning where none is
-- kept), the push list, the new pages, the bump
pub record Plan : Type 0 where
  pub kept : ℕ
  pub left : ℕ
  pub top : ℕ
  pub pushed : List ℕ
  pub fresh : List ℕ
  pub bump : ℕ

-- how many pages of c hold n entries
unfoldable pub pages_for : ℕ → ℕ → ℕ
pages_for c n = (n + (c - 1)) / c

-- the room: free places in the top page, and c for each new page
unfoldable pub room : ℕ → Plan → ℕ
room c t = c * (t.kept + length t.fresh) - t.left

module _ (c : ℕ) (l : FreeList) where
  -- the number of the first list's page i, and its entry i
  abbrev pub page_number : ℕ → ℕ
  page_number i = get_or l.pages i 0

  abbrev pub entry : ℕ → ℕ
  entry i = get_or l.entries i 0

  -- the pages that k pops leave
  unfoldable pub pages_after : ℕ → ℕ
  pages_after k = cond (eqb k 0) (length l.pages) (pages_for c (length l.entries - k))

  -- the push list after k pops: the freed numbers, then the pages *released*, in order of release
  unfoldable pub pushed_after : ℕ → List ℕ → List ℕ
  pushed_after k freed = freed ++ reverse (drop (pages_after k) l.pages)

  -- ---- one number is popped, if any is left: n entries are then left, of those on p pages

  -- none is
  abbrev pub none_left : List ℕ → ℕ → Plan
  none_left pushed bump = record { kept = 0; left = 0; top = 0; pushed = pushed; fresh = []; bump = bump }

  -- its page is not emptied: it becomes that page's number
  abbrev pub renumbered : ℕ → ℕ → List ℕ → ℕ → Plan
  renumbered p n pushed bump = record { kept = p; left = n; top = entry n; pushed = pushed ++ (page_number (p - 1) ∷ []); fresh = []; bump = bump }

  -- its page is emptied, and the page under it lacks one: it becomes the number of the page under
  abbrev pub mended : ℕ → List ℕ → ℕ → Plan
  mended n pushed bump =
      let P = length l.pages in
      record { kept = P - 1; left = n; top = entry n; pushed = pushed ++ (page_number (P - 2) ∷ page_number (P - 1) ∷ []); fresh = []; bump = bump }

  -- its page is emptied otherwise: it is a new page
  abbrev pub emptied : ℕ → ℕ → List ℕ → ℕ → Plan
  emptied p n pushed bump =
      record { kept = p - 1; left = n; top = page_number (p - 2); pushed = pushed ++ (page_number (p - 1) ∷ []); fresh = entry n ∷ []; bump = bump }

  -- after k pops
  unfoldable pub first_plan : ℕ → List ℕ → ℕ → Plan
  first_plan k freed bump =
      let p = pages_after k in
      let n = length l.entries - suc k in
      let pushed = pushed_after k freed in
      cond (leb (length l.entries) k) (none_left pushed bump)
      (cond (eqb k 0 && is_fragmented c (length l.pages) (length l.entries)) (mended n pushed bump)
      (cond (eqb n (c * (p - 1))) (emptied p n pushed bump) (renumbered p n pushed bump)))

  -- ---- while room is short

  -- a whole page has just come to the top: its number joins the push list, and its last entry becomes its number
  abbrev pub swap_top : Plan → Plan
  swap_top t =
      record { kept = t.kept; left = t.left - 1; top = entry (t.left - 1); pushed = t.pushed ++ (t.top ∷ []); fresh = t.fresh; bump = t.bump }

  -- pop one as a new page
  abbrev pub take_entry : Plan → Plan
  take_entry t =
      record { kept = t.kept; left = t.left - 1; top = t.top; pushed = t.pushed; fresh = t.fresh ++ (entry (t.left - 1) ∷ []); bump = t.bump }

  -- the same, and the top page that this empties is the next new page
  abbrev pub take_last : Plan → Plan
  take_last t =
      record {
        kept = t.kept - 1;
        left = t.left - 1;
        top = page_number (t.kept - 2);
        pushed = t.pushed;
        fresh = t.fresh ++ (entry (t.left - 1) ∷ t.top ∷ []);
        bump = t.bump;
      }

  -- with nothing to pop, the bump is a new page
  abbrev pub take_bump : Plan → Plan
  take_bump t = record { kept = t.kept; left = t.left; top = t.top; pushed = t.pushed; fresh = t.fresh ++ (t.bump ∷ []); bump = suc t.bump }

  -- one turn
  unfoldable pub next_plan : Plan → Plan
  next_plan t =
      cond (leb 1 t.kept && eqb t.left (c * t.kept)) (swap_top t)
      (cond (leb 1 t.left) (cond (eqb (t.left - 1) (c * (t.kept - 1))) (take_last t) (take_entry t)) (take_bump t))

  -- turns until the room is enough; `turns` bounds how many
  unfoldable pub enough_room : ℕ → Plan → Plan
  enough_room zero t = t
  enough_room (suc turns) t = elim (ltb (room c t) (length t.pushed)) [ true ↦ enough_room turns (next_plan t) | false ↦ t ]

  -- the plan of a finish after k pops
  unfoldable pub plan_of : ℕ → List ℕ → ℕ → Plan
  plan_of k freed bump =
      let t = first_plan k freed bump in
      enough_room (t.left + length t.pushed) t
