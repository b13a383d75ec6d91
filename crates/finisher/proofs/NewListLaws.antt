-- The new list from its plan: its pages and entries, the numbers of the pages written, and what the tables then hold.
-- By whether a page is kept, and the laws of `sets`. Assumes nothing.
use Prim.Native.Nat.{ℕ, zero, suc, ◌+◌, ◌-◌, ◌≤◌}
use native.Mathlib.Omega.{arith}
use mathlib.Core.Path.{◌≡◌, ap, sym, ◌∙◌}
use mathlib.Core.Bool.{cond}
use mathlib.Core.List.{List, ◌∷◌, ◌++◌, map, append_assoc}
use lib.Dec.{leb}
use lib.ListN.{length, get_or, take, drop, length-append, drop_of_length-le}
use lib.Seq.{sets, length-take-le, take-take, drop_at, drop-cons}
use borrow.Author.Tests.{leb-true, leb-false, le-leb, lt-leb}
use Rattle.laws.proofs.Tests.{cond_cases}
use Rattle.page.specs.Pages.{Write}
use Rattle.laws.proofs.SetsLaws.{sets-kept}
use Rattle.free_list.specs.Shape.{FreeList}
use Rattle.preallocate.specs.Plan.{Plan}
use Rattle.preallocate.specs.Lists.{whole_list}
use Rattle.finisher.specs.Finish.{new_list, encoded_page, encoded_pages}
use Rattle.finisher.specs.Steps.{new_numbers}

-- the numbers of pages from page j up
pub numbers_of_pages : (s : ℕ) (l : FreeList) (j n : ℕ) → j + n ≡ length l.pages → map (λ (w : Write). w.number) (encoded_pages s l j n) ≡ drop j l.pages
unfolding encoded_pages encoded_page
numbers_of_pages s l j zero e = let all : length l.pages ≤ j = omega arith in sym (drop_of_length-le l.pages all)
numbers_of_pages s l j (suc n) e = rw (drop-cons l.pages j 0 (omega arith)) (ap (λ (ns : List ℕ). get_or l.pages j 0 ∷ ns) (numbers_of_pages s l (suc j) n (omega arith)))

module _ (l : FreeList) (t : Plan) (kept : t.kept ≤ length l.pages) (left : t.left ≤ length l.entries) where
  -- the pages below the top stay; the numbers of the pages written stand behind them
  pub new_pages_lem : (new_list l t).pages ≡ take (t.kept - 1) l.pages ++ new_numbers t
  unfolding new_list new_numbers
  new_pages_lem =
      cond_cases (λ (ns : List ℕ). ns ++ t.fresh ≡ take (t.kept - 1) l.pages ++ cond (leb 1 t.kept) (t.top ∷ t.fresh) t.fresh) (leb 1 t.kept) _ _
      (λ e. rw (e, append_assoc)) (λ e. let none : t.kept - 1 ≡ 0 = omega (arith, leb-false 1 t.kept e) in rw (e, none))

  pub length_new_numbers : length (new_numbers t) + (t.kept - 1) ≡ t.kept + length t.fresh
  unfolding new_numbers
  length_new_numbers =
      cond_cases (λ (ns : List ℕ). length ns + (t.kept - 1) ≡ t.kept + length t.fresh) (leb 1 t.kept) (t.top ∷ t.fresh) t.fresh
      (λ e. omega (arith, leb-true 1 t.kept e)) (λ e. omega (arith, leb-false 1 t.kept e))

  pub length_new_pages : length (new_list l t).pages ≡ t.kept + length t.fresh
  length_new_pages = ap length new_pages_lem ∙ length-append (take (t.kept - 1) l.pages) (new_numbers t) ∙ omega (arith, length_new_numbers, length-take-le (t.kept - 1) l.pages (omega arith))

  pub length_new_entries : length (new_list l t).entries ≡ t.left + length t.pushed
  unfolding new_list
  length_new_entries = length-append (take t.left l.entries) t.pushed ∙ ap (λ (n : ℕ). n + length t.pushed) (length-take-le t.left l.entries left)

  -- the pages written are those from the top kept page up
  pub new_written : drop (t.kept - 1) (new_list l t).pages ≡ new_numbers t
  new_written = ap (drop (t.kept - 1)) new_pages_lem ∙ drop_at (take (t.kept - 1) l.pages) (new_numbers t) (t.kept - 1) (length-take-le (t.kept - 1) l.pages (omega arith))

-- what the tables hold, where the list is their first part
module _ (pages entries : List ℕ) (P L : ℕ) (t : Plan) (pages_fit : P ≤ length pages) (entries_fit : L ≤ length entries) (kept : t.kept ≤ P) (left : t.left ≤ L) where
  pub table_pages : sets pages 0 (new_list (whole_list (take P pages) (take L entries)) t).pages ≡ sets pages (t.kept - 1) (new_numbers t)
  table_pages =
      ap (sets pages 0) (new_pages_lem (whole_list (take P pages) (take L entries)) t (rw (length-take-le P pages pages_fit) kept) (rw (length-take-le L entries entries_fit) left))
      ∙ rw (take-take (t.kept - 1) P pages (omega arith)) (sets-kept pages (t.kept - 1) (new_numbers t) (omega arith))

  pub table_entries : sets entries 0 (new_list (whole_list (take P pages) (take L entries)) t).entries ≡ sets entries t.left t.pushed
  unfolding new_list
  table_entries = rw (take-take t.left L entries left) (sets-kept entries t.left t.pushed (omega arith))

-- the numbers of the pages written, with and without a page kept
pub numbers_none : (t : Plan) → t.kept ≡ 0 → new_numbers t ≡ t.fresh
unfolding new_numbers
numbers_none t e = rw (lt-leb 1 t.kept (omega arith))

pub numbers_some : (t : Plan) → (t.kept ≡ 0 → ⊥) → new_numbers t ≡ t.top ∷ t.fresh
unfolding new_numbers
numbers_some t e = rw (le-leb 1 t.kept (omega arith))
