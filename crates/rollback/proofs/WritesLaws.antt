-- What a finish writes: whole pages, at numbers that are free in the first list, or a page of the first list as it was.
-- By counting, a page of the new list that is none of the first one was an entry there or lies past the bump.
use Prim.Native.Nat.{ℕ, zero, suc, ◌+◌, ◌-◌, ◌^◌, min, ◌<◌, ◌≤◌}
use mathlib.Core.Path.{◌≡◌, refl, sym, ◌∙◌, ap, subst}
use mathlib.Core.Logic.{◌⊎◌, inl, inr}
use mathlib.Core.Bool.{false, ◌&&◌}
use mathlib.Core.List.Memᴰ
use mathlib.Core.List.{List, ◌∷◌, Memᴰ}
use native.Mathlib.Decide.{dec_lt}
use native.Mathlib.Omega.{arith}
use lib.Dec.{eqb}
use lib.ListN.{length, get_or}
use Rattle.laws.specs.Counting.{count}
use Rattle.laws.proofs.PlacesLaws.{get_d-mem, at_places}
use Rattle.laws.proofs.CountLaws.{mem-count, count-mem, count_split, count_within_lem}
use Rattle.page.specs.PageSize.{IsPageSize, capacity}
use Rattle.page.specs.Pages.{page_count, page_at, Write}
use Rattle.page.proofs.PagesLaws.{page_count_fits}
use Rattle.free_list.specs.ListPages.{prev_of, entries_of}
use Rattle.free_list.specs.Shape.{FreeList}
use Rattle.free_list.specs.StoredList.{Inside, StoredList}
use Rattle.preallocate.specs.Plan.{Plan, plan_of}
use Rattle.preallocate.proofs.PlanLaws.{plan_kept}
use Rattle.allocator.specs.OpenSave.{Save, list_of, bumped}
use Rattle.finisher.specs.Finish.{new_list, left_list, encoded_page, encoded_pages, Finished, carried_out}
use Rattle.finisher.proofs.NewShapeLaws.{new_shape}
use Rattle.finisher.proofs.NewNumbersLaws.{DistinctBelow, count_new_pages}
use Rattle.finisher.proofs.EncodedLaws.{encoded_long, decoded-before, decoded-entries}
use Rattle.finisher.proofs.WrittenLaws.{written_old}
use Rattle.finisher.proofs.FinishLaws.{list_shape, Succeeds, finish_cases}
use Rattle.finisher.proofs.FinishedLaws.{left_distinct}
use Rattle.rollback.proofs.CallsLaws.{Free, OpenedOn}

-- ---- the pages that are carried out

-- what holds of each of n pages of a list holds of each page encoded
all_encoded : (s : ℕ) (m : FreeList) (Q : Write → Type 0) (j n : ℕ) → ((i : ℕ) → j ≤ i → i < j + n → Q (encoded_page s m i))
    → (w : Write) → Memᴰ w (encoded_pages s m j n) → Q w
unfolding encoded_pages
all_encoded s m Q j zero f w h = absurd (Memᴰ.not-nil h)
all_encoded s m Q j (suc n) f w h = go (Memᴰ.cases_cons h) (all_encoded s m Q (suc j) n (λ i a b. f i (omega arith) (omega arith)) w)
  where
    go : (w ≡ encoded_page s m j) ⊎ Memᴰ w (encoded_pages s m (suc j) n) → (Memᴰ w (encoded_pages s m (suc j) n) → Q w) → Q w
    go (inl e) rest = subst Q (sym e) (f j (omega arith) (omega arith))
    go (inr t) rest = rest t

-- each of them is among the encoded ones
mem_encoded : (s : ℕ) (m : FreeList) (j n i : ℕ) → j ≤ i → i < j + n → Memᴰ (encoded_page s m i) (encoded_pages s m j n)
unfolding encoded_pages
mem_encoded s m j zero i a b = absurd (omega arith)
mem_encoded s m j (suc n) i a b = go (dec_lt j i) (mem_encoded s m (suc j) n i)
  where
    go : Dec (j < i) → (suc j ≤ i → i < suc j + n → Memᴰ (encoded_page s m i) (encoded_pages s m (suc j) n))
        → Memᴰ (encoded_page s m i) (encoded_page s m j ∷ encoded_pages s m (suc j) n)
    go (yes y) rest = Memᴰ.tail (rest (omega arith) (omega arith))
    go (no y) rest = let e : i ≡ j = omega arith in Memᴰ.head (ap (encoded_page s m) e)

-- those carried out are the pages of the new list from the top kept one up
module _ (s : ℕ) (l : FreeList) (t : Plan) where
  carried_all : (Q : Write → Type 0) → ((i : ℕ) → t.kept ≤ i + 1 → i < length (new_list l t).pages → Q (encoded_page s (new_list l t) i))
      → (w : Write) → Memᴰ w (carried_out s l t).written → Q w
  unfolding carried_out
  carried_all Q f = all_encoded s (new_list l t) Q (t.kept - 1) (length (new_list l t).pages - (t.kept - 1)) (λ i a b. f i (omega arith) (omega arith))

  pub carried_mem : (i : ℕ) → t.kept ≤ i + 1 → i < length (new_list l t).pages → Memᴰ (encoded_page s (new_list l t) i) (carried_out s l t).written
  unfolding carried_out
  carried_mem i a b = mem_encoded s (new_list l t) (t.kept - 1) (length (new_list l t).pages - (t.kept - 1)) i (omega arith) (omega arith)

-- ---- a finish that succeeds

module _ {s : ℕ} {v : Save} {freed : List ℕ} {f : Finished} (done : Succeeds s v freed f) where
  -- what it writes is whole pages
  pub written_whole : IsPageSize s → (w : Write) → Memᴰ w f.written → length w.bytes ≡ s
  written_whole size =
      let l = list_of v in
      let k = min v.handed (length l.entries) in
      finish_cases done refl (λ (x : Finished). (w : Write) → Memᴰ w x.written → length w.bytes ≡ s) k refl (λ _ _ w m. absurd (Memᴰ.not-nil m))
      (λ changed. carried_all s l _ (λ (w : Write). length w.bytes ≡ s)
      (λ i a b. encoded_long s size _ (new_shape (capacity s) l k freed (bumped v) size.two_entries (list_shape done.stands) (omega arith) changed) i b))

-- ---- where it writes

-- what a reader takes from a list page
pub record SamePage (a b : List ℕ) : Type 0 where
  pub prev : prev_of a ≡ prev_of b
  pub entries : entries_of a ≡ entries_of b

-- at a free number, or over a page of the first list as it was
abbrev pub Apart : ℕ → List ℕ → FreeList → ℕ → Write → Type 0
Apart s store l bump w = Free l bump w.number ⊎ (Memᴰ w.number l.pages × SamePage (page_at s store w.number) w.bytes)

-- a page that may be written
pub record MayWrite (s : ℕ) (store : List ℕ) (l : FreeList) (bump : ℕ) (w : Write) : Type 0 where
  pub whole : length w.bytes ≡ s
  pub apart : Apart s store l bump w

module _ {s : ℕ} (size : IsPageSize s) {store : List ℕ} {l : FreeList} (stored : StoredList s store l) where
  pages_fit : (n : ℕ) → Memᴰ n l.pages → n < 2 ^ 32
  pages_fit n m = omega (arith, (at_places (Inside (page_count s store)) l.pages stored.inside n m).1, page_count_fits s store)

  entries_fit : (n : ℕ) → Memᴰ n l.entries → n < 2 ^ 32
  entries_fit n m = omega (arith, (stored.entries_inside n m).1, page_count_fits s store)

  -- the list's page i as it was encoded reads as it does in the store
  page_encoded : (i : ℕ) → i < length l.pages → SamePage (page_at s store (get_or l.pages i 0)) (encoded_page s l i).bytes
  page_encoded i h =
      record {
        prev = stored.before i h ∙ sym (decoded-before s size l stored.shape i h pages_fit entries_fit);
        entries = stored.entries i h ∙ sym (decoded-entries s size l stored.shape i h pages_fit entries_fit);
      }

  module _ (k : ℕ) (freed : List ℕ) (bump up : ℕ) (raised : bump ≤ up) (distinct : DistinctBelow (left_list k l) up)
      (kL : k ≤ length l.entries) (changed : eqb k 0 && eqb (length freed) 0 ≡ false) where
    abbrev plan : Plan
    plan = plan_of (capacity s) l k freed up

    abbrev new : FreeList
    new = new_list l plan

    -- a page at an old list page's number is as it was
    page-old : (i : ℕ) → plan.kept ≤ i + 1 → i < length new.pages → Memᴰ (get_or new.pages i 0) l.pages
        → SamePage (page_at s store (get_or new.pages i 0)) (encoded_page s new i).bytes
    page-old i h below m =
        let (last, same) = written_old s l k freed up size.two_entries stored.shape kL changed distinct i h below m in
        let within : i < length l.pages = omega (arith, plan_kept (capacity s) l size.two_entries stored.shape k freed up) in
        rw (same.number, same.encoded) (page_encoded i within)

    -- a page at another number is at a free one
    page_new : (n : ℕ) → Memᴰ n new.pages → (0 < count n l.pages → ⊥) → Free l bump n
    page_new n m none = go (dec_lt 0 (count n l.entries))
      where
        go : Dec (0 < count n l.entries) → Free l bump n
        go (yes y) = inl (count-mem n l.entries (omega arith))
        go (no y) =
            let past = count_within_lem n up (plan.bump - up) (omega (arith, mem-count n new.pages m, count_new_pages (capacity s) l k freed up size.two_entries stored.shape n, count_split n (length l.entries - k) l.entries)) in
            inr (omega (arith, past.0))

    page_apart : (i : ℕ) → plan.kept ≤ i + 1 → i < length new.pages → Apart s store l bump (encoded_page s new i)
    unfolding encoded_page
    page_apart i a b = go (dec_lt 0 (count (get_or new.pages i 0) l.pages))
      where
        go : Dec (0 < count (get_or new.pages i 0) l.pages) → Apart s store l bump (encoded_page s new i)
        go (yes y) = let old = count-mem (get_or new.pages i 0) l.pages (omega arith) in inr (old, page-old i a b old)
        go (no y) = inl (page_new (get_or new.pages i 0) (get_d-mem new.pages i b) y)

  -- what a finish of a save of the first list writes: of the list's numbers no more is asked than what it has seen
  pub finish_writes : {bump : ℕ} {v : Save} → OpenedOn l bump v → {freed : List ℕ} {f : Finished} → Succeeds s v freed f → (w : Write) → Memᴰ w f.written → MayWrite s store l bump w
  finish_writes {bump} {v} of {freed} done w m =
      let k = min v.handed (length l.entries) in
      let raised : bump ≤ bumped v = omega (arith, of.start) in
      let pops : length l.entries - v.handed ≡ length l.entries - k = omega arith in
      let distinct : DistinctBelow (left_list k l) (bumped v) = rw pops at (subst (λ (m : FreeList). DistinctBelow (left_list v.handed m) (bumped v)) of.list (left_distinct done)) in
      record {
        whole = written_whole done size w m;
        apart = finish_cases done of.list (λ (x : Finished). Memᴰ w x.written → Apart s store l bump w) k refl (λ _ _ h. absurd (Memᴰ.not-nil h))
            (λ changed. carried_all s l _ (Apart s store l bump) (page_apart k freed bump (bumped v) raised distinct (omega arith) changed) w) m;
      }
