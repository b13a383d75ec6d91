-- The list that a finish makes reads back from the store that its pages were written to.
use Prim.Native.Nat.{ℕ, ◌+◌, ◌-◌, ◌^◌, min, ◌<◌, ◌≤◌}
use native.Mathlib.Decide.{dec_lt}
use native.Mathlib.Omega.{arith}
use mathlib.Core.Path.{◌≡◌, refl, ap, sym, ◌∙◌, subst}
use mathlib.Core.Logic.{◌⊎◌, inl, inr, ◌≢◌}
use mathlib.Core.Bool.{true, false, ◌&&◌}
use mathlib.Core.List.{List, [], Memᴰ}
use lib.Dec.{eqb}
use lib.ListN.{length, get_or}
use Rattle.laws.specs.Counting.{count}
use Rattle.laws.proofs.Tests.{cond_cases}
use Rattle.laws.proofs.PlacesLaws.{get_d-mem, at_places}
use Rattle.laws.proofs.CountLaws.{count-mem, no_more, different_once, once_all_different}
use Rattle.refusal.specs.Outcome.{answer}
use Rattle.page.specs.PageSize.{IsPageSize, capacity}
use Rattle.page.specs.Pages.{page_count, page_at, write_pages}
use Rattle.page.specs.Growth.{max_bump}
use Rattle.page.proofs.PageSizeLaws.{page_least}
use Rattle.page.proofs.PagesLaws.{page_within_lem, page_count_mono, page_count_fits}
use Rattle.free_list.specs.ListPages.{prev_of, entries_of}
use Rattle.free_list.specs.Shape.{FreeList, is_shape, entries_on, head_of, previous}
use Rattle.free_list.specs.StoredList.{Inside, StoredList}
use Rattle.free_list.specs.Reading.{numbers_of, list_from}
use Rattle.free_list.proofs.RepeatsLaws.{read_chained, read_differing}
use Rattle.free_list.proofs.StoredLaws.{read_stored}
use Rattle.free_list.proofs.ReadListLaws.{stored-read, head_read}
use Rattle.preallocate.specs.Plan.{Plan, plan_of}
use Rattle.preallocate.proofs.PlanLaws.{plan_kept}
use Rattle.allocator.specs.OpenSave.{list_of, bumped}
use Rattle.finisher.specs.Finish.{new_list, encoded_page, carried_out, Finished, finish_list, left_list, finished}
use Rattle.finisher.specs.Theorems.{FinishReadsBack}
use Rattle.finisher.proofs.FinishLaws.{Succeeds, succeeds}
use Rattle.finisher.proofs.FinishedLaws.{left_distinct, finish_differs}
use Rattle.finisher.proofs.TablesLaws.{good_freed}
use Rattle.finisher.proofs.NewShapeLaws.{new_shape, length_pages_planned}
use Rattle.finisher.proofs.KeptPageLaws.{SameKept, kept_below}
use Rattle.finisher.proofs.NewNumbersLaws.{DistinctBelow, new_entry, pages-once, pages-below, pages-some, pages-differ}
use Rattle.finisher.proofs.EncodedLaws.{encoded_long, decoded-before, decoded-entries}
use Rattle.finisher.proofs.WritingLaws.{page_inside, written_longer, written_other, written-found}

-- ---- the new list

module _ (s : ℕ) (size : IsPageSize s) (l : FreeList) (k : ℕ) (freed : List ℕ) (bump : ℕ) (store : List ℕ) (stored : StoredList s store l) (distinct : DistinctBelow (left_list k l) bump)
    (kL : k ≤ length l.entries) (changed : eqb k 0 && eqb (length freed) 0 ≡ false) (limit : (plan_of (capacity s) l k freed bump).bump ≤ 2 ^ 32 - 1) where
  abbrev made : Plan
  made = plan_of (capacity s) l k freed bump

  abbrev new : FreeList
  new = new_list l made

  -- A store that holds the old list, and has then the new list's pages from the top kept one up, each as encoded and at its number, while
  -- the pages below that read as they did, holds the new list. Its number of pages has not fallen, and the freed numbers are among them.
  module _ (after : List ℕ) (grew : page_count s store ≤ page_count s after)
      (freed-inside : (n : ℕ) → Memᴰ n freed → Inside (page_count s after) n)
      (kept_same : (j : ℕ) → j + 1 < made.kept
      → (prev_of (page_at s after (get_or l.pages j 0)) ≡ prev_of (page_at s store (get_or l.pages j 0)))
      × (entries_of (page_at s after (get_or l.pages j 0)) ≡ entries_of (page_at s store (get_or l.pages j 0))))
      (found : (j : ℕ) → made.kept ≤ j + 1 → j < length new.pages
      → (page_at s after (get_or new.pages j 0) ≡ (encoded_page s new j).bytes) × (get_or new.pages j 0 < page_count s after)) where
    shape_after : is_shape (capacity s) (length new.pages) (length new.entries) ≡ true
    shape_after = new_shape (capacity s) l k freed bump size.two_entries stored.shape kL changed

    kept_few : made.kept ≤ length l.pages
    kept_few = plan_kept (capacity s) l size.two_entries stored.shape k freed bump

    same_as : (j : ℕ) → j + 1 < made.kept → SameKept s l made j
    same_as = kept_below s l k freed bump size.two_entries stored.shape kL changed

    no_zero : count 0 l.pages + count 0 l.entries ≡ 0
    no_zero = go (dec_lt 0 (count 0 l.pages)) (dec_lt 0 (count 0 l.entries))
      where
        go : Dec (0 < count 0 l.pages) → Dec (0 < count 0 l.entries) → count 0 l.pages + count 0 l.entries ≡ 0
        go (yes y) d = absurd (omega (arith, (at_places (λ (n : ℕ). Inside (page_count s store) n) l.pages stored.inside 0 (count-mem 0 l.pages (omega arith))).0))
        go (no n) (yes y) = absurd (omega (arith, (stored.entries_inside 0 (count-mem 0 l.entries (omega arith))).0))
        go (no n) (no o) = omega arith

    below_bump : (x : ℕ) → Memᴰ x new.pages → x < made.bump
    below_bump = pages-below (capacity s) l k freed bump size.two_entries stored.shape distinct

    more_inside : (x : ℕ) → Inside (page_count s store) x → Inside (page_count s after) x
    more_inside x h = (h.0, omega (arith, h.1))

    new_entries_inside : (x : ℕ) → Memᴰ x new.entries → Inside (page_count s after) x
    new_entries_inside x m = go (new_entry (capacity s) l k freed bump size.two_entries stored.shape x m)
      where
        go : Memᴰ x l.entries ⊎ (Memᴰ x l.pages ⊎ Memᴰ x freed) → Inside (page_count s after) x
        go (inl h) = more_inside x (stored.entries_inside x h)
        go (inr (inl h)) = more_inside x (at_places (λ (n : ℕ). Inside (page_count s store) n) l.pages stored.inside x h)
        go (inr (inr h)) = freed-inside x h

    pages_fit : (x : ℕ) → Memᴰ x new.pages → x < 2 ^ 32
    pages_fit x m = omega (arith, below_bump x m)

    entries_fit : (x : ℕ) → Memᴰ x new.entries → x < 2 ^ 32
    entries_fit x m = omega (arith, new_entries_inside x m, page_count_fits s after)

    -- each page is a kept one or a written one
    module _ (j : ℕ) (h : j < length new.pages) where
      new_inside : Inside (page_count s after) (get_or new.pages j 0)
      new_inside = go (dec_lt (j + 1) made.kept)
        where
          go : Dec (j + 1 < made.kept) → Inside (page_count s after) (get_or new.pages j 0)
          go (yes y) = rw (same_as j y).number (more_inside (get_or l.pages j 0) (stored.inside j (omega (arith, kept_few))))
          go (no n) = (pages-some (capacity s) l k freed bump size.two_entries stored.shape distinct no_zero _ (get_d-mem new.pages j h), (found j (omega arith) h).1)

      new_before : prev_of (page_at s after (get_or new.pages j 0)) ≡ previous new.pages j
      new_before = go (dec_lt (j + 1) made.kept)
        where
          go : Dec (j + 1 < made.kept) → prev_of (page_at s after (get_or new.pages j 0)) ≡ previous new.pages j
          go (yes y) =
              ap (λ (p : ℕ). prev_of (page_at s after p)) (same_as j y).number
              ∙ (kept_same j y).0
              ∙ stored.before j (omega (arith, kept_few))
              ∙ sym (same_as j y).before
          go (no n) = ap prev_of (found j (omega arith) h).0 ∙ decoded-before s size new shape_after j h pages_fit entries_fit

      new_entries : entries_of (page_at s after (get_or new.pages j 0)) ≡ entries_on (capacity s) new j
      new_entries = go (dec_lt (j + 1) made.kept)
        where
          go : Dec (j + 1 < made.kept) → entries_of (page_at s after (get_or new.pages j 0)) ≡ entries_on (capacity s) new j
          go (yes y) =
              ap (λ (p : ℕ). entries_of (page_at s after p)) (same_as j y).number
              ∙ (kept_same j y).1
              ∙ stored.entries j (omega (arith, kept_few))
              ∙ sym (same_as j y).entries
          go (no n) = ap entries_of (found j (omega arith) h).0 ∙ decoded-entries s size new shape_after j h pages_fit entries_fit

    pub new-stored : StoredList s after new
    new-stored =
        record {
          shape = shape_after;
          few = no_more (page_count s after) new.pages (pages-once (capacity s) l k freed bump size.two_entries stored.shape distinct)
              (at_places (λ (n : ℕ). n < page_count s after) new.pages (λ j h. (new_inside j h).1));
          inside = new_inside;
          before = new_before;
          entries = new_entries;
          entries_inside = new_entries_inside;
        }

  -- The new list reads back from the store that its pages were written to, as encoded and each at its number.
  module _ (freed-inside : (n : ℕ) → Memᴰ n freed → Inside (page_count s (write_pages s store (carried_out s l made).written)) n) where
    abbrev after : List ℕ
    after = write_pages s store (carried_out s l made).written

    shape_new : is_shape (capacity s) (length new.pages) (length new.entries) ≡ true
    shape_new = new_shape (capacity s) l k freed bump size.two_entries stored.shape kL changed

    long : (j : ℕ) → j < length new.pages → length (encoded_page s new j).bytes ≡ s
    long = encoded_long s size new shape_new

    differ : (i j : ℕ) → i < j → j < length new.pages → get_or new.pages i 0 ≢ get_or new.pages j 0
    differ = pages-differ (capacity s) l k freed bump size.two_entries stored.shape distinct

    top_within : made.kept - 1 + (length new.pages - (made.kept - 1)) ≡ length new.pages
    top_within = omega (arith, length_pages_planned (capacity s) l k freed bump size.two_entries stored.shape)

    grew : page_count s store ≤ page_count s after
    unfolding carried_out
    grew =
        page_count_mono s store _ (omega (arith, page_least size))
        (written_longer s new long (length new.pages - (made.kept - 1)) (made.kept - 1) store (omega (arith, top_within)))

    kept_same : (j : ℕ) → j + 1 < made.kept → page_at s after (get_or l.pages j 0) ≡ page_at s store (get_or l.pages j 0)
    unfolding carried_out
    kept_same j h =
        let number = (kept_below s l k freed bump size.two_entries stored.shape kL changed j h).number in
        let within = plan_kept (capacity s) l size.two_entries stored.shape k freed bump in
        written_other s new long (length new.pages - (made.kept - 1)) (made.kept - 1) store (get_or l.pages j 0) (omega (arith, top_within))
        (λ i a b. rw (← number) (differ j i (omega arith) (omega (arith, top_within))))
        (page_within_lem s store (get_or l.pages j 0) (omega (arith, page_least size)) (stored.inside j (omega arith)).1)

    found : (j : ℕ) → made.kept ≤ j + 1 → j < length new.pages
        → (page_at s after (get_or new.pages j 0) ≡ (encoded_page s new j).bytes) × (get_or new.pages j 0 < page_count s after)
    unfolding carried_out
    found j h inside =
        let f = written-found s new long differ (length new.pages - (made.kept - 1)) (made.kept - 1) store (omega (arith, top_within)) j (omega arith) (omega (arith, top_within)) in
        let small = pages-below (capacity s) l k freed bump size.two_entries stored.shape distinct (get_or new.pages j 0) (get_d-mem new.pages j inside) in
        (f.0, page_inside s _ (get_or new.pages j 0) (omega (arith, page_least size)) f.1 (omega arith))

    pub new-read : list_from s after false (head_of new) ≡ answer new
    new-read = read_stored s after new size.two_entries (new-stored after grew freed-inside (λ j h. (ap prev_of (kept_same j h), ap entries_of (kept_same j h))) found)

-- ---- what a finish makes reads back

module _ (s : ℕ) (size : IsPageSize s) (l : FreeList) (store : List ℕ) (head : ℕ) (read : list_from s store false head ≡ answer l)
    (bump handed : ℕ) (freed : List ℕ) (distinct : DistinctBelow (left_list (min handed (length l.entries)) l) bump) where
  -- what a finish makes reads back from the store that its pages were written to
  abbrev ReadsBack : Finished → Type 0
  ReadsBack f =
      f.bump ≤ 2 ^ 32 - 1 → ((n : ℕ) → Memᴰ n freed → Inside (page_count s (write_pages s store f.written)) n)
      → list_from s (write_pages s store f.written) false (head_of f.list) ≡ answer f.list

  reads_same : ReadsBack (record { list = l; bump = bump; written = [] })
  unfolding write_pages
  reads_same limit inside = ap (list_from s store false) (sym (head_read s store head l read)) ∙ read

  reads_changed : (k : ℕ) → k ≡ min handed (length l.entries) → eqb k 0 && eqb (length freed) 0 ≡ false → ReadsBack (carried_out s l (plan_of (capacity s) l k freed bump))
  unfolding carried_out
  reads_changed k e changed limit inside =
      let kL : k ≤ length l.entries = omega arith in new-read s size l k freed bump store (stored-read s store head l read) (rw e distinct) kL changed limit inside

  -- After a list was read from a store, and the pages that its finish makes were written there, as encoded and each at its number, reading
  -- from the new head gives the new list. Asked for are a list of which what is left is distinct; a bump that stays a page number, since no store has more
  -- pages; and freed numbers that the store has pages for, since they become entries, and an entry past the store is refused.
  pub finish_reads : (finish_list s l bump handed freed).bump ≤ 2 ^ 32 - 1
      → ((n : ℕ) → Memᴰ n freed → Inside (page_count s (write_pages s store (finish_list s l bump handed freed).written)) n)
      → list_from s (write_pages s store (finish_list s l bump handed freed).written) false (head_of (finish_list s l bump handed freed).list) ≡ answer (finish_list s l bump handed freed).list
  unfolding finish_list
  finish_reads =
      let k = min handed (length l.entries) in
      cond_cases ReadsBack (eqb k 0 && eqb (length freed) 0) _ _ (λ _. reads_same) (reads_changed k refl)

pub finished-reads : (s : ℕ) → IsPageSize s → FinishReadsBack s
unfolding finished
finished-reads s size v store head read freed room f e inside =
    let done = (succeeds s v freed room f e).0 in
    let differs = (finish_differs size v freed room f e).0 in
    read_differing s (write_pages s store f.written) (head_of f.list)
    (subst (λ (g : Finished). g.bump ≤ max_bump → ((n : ℕ) → Memᴰ n freed → n < page_count s (write_pages s store g.written)) → list_from s (write_pages s store g.written) false (head_of g.list) ≡ answer g.list) (sym done.is)
    (λ limit within. finish_reads s size (list_of v) store head (read_chained s store head read) (bumped v) v.handed freed (distinct done) (omega (arith, limit)) (λ n m. ((good_freed (bumped v) freed done.good n m).0, within n m)))
    done.limit inside)
    (once_all_different (numbers_of f.list) (different_once (numbers_of f.list) differs))
  where
    distinct : Succeeds s v freed f → DistinctBelow (left_list (min v.handed (length (list_of v).entries)) (list_of v)) (bumped v)
    distinct done =
        let same : length (list_of v).entries - min v.handed (length (list_of v).entries) ≡ length (list_of v).entries - v.handed = omega arith in
        rw same (left_distinct done)
