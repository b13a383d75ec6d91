-- Demand 3: what a cut leaves of the first store is all that its readers look at.
-- Each write keeps it so (`Left`), as it goes to a free number or over a list page as that was; the readers look only at list pages and at
-- pages that are not free.
use Prim.Native.Nat.{ℕ, ◌<◌, ◌≤◌}
use mathlib.Core.Path.{◌≡◌, refl, sym, ◌∙◌, ap, subst}
use mathlib.Core.Logic.{◌⊎◌, inl, inr}
use mathlib.Core.Bool.{false}
use mathlib.Core.List.Memᴰ
use mathlib.Core.List.{List, [], ◌∷◌, ◌++◌, Memᴰ}
use native.Mathlib.Decide.{ℕ_discrete}
use native.Mathlib.Omega.{arith}
use lib.ListN.{length, length-append}
use Rattle.laws.proofs.PlacesLaws.{get_d-mem}
use Rattle.laws.specs.Counting.{Different}
use Rattle.laws.proofs.CountLaws.{different_apart, once_different, all_different_once}
use Rattle.refusal.specs.Outcome.{answer}
use Rattle.page.specs.PageSize.{IsPageSize}
use Rattle.page.specs.Pages.{page_count, page_at, Write, write_page, write_pages}
use Rattle.page.proofs.PageSizeLaws.{page_least}
use Rattle.page.proofs.PagesLaws.{page_within_lem, page_count_mono, page_at-grown, length_written, page_same, page_other}
use Rattle.free_list.specs.Shape.{FreeList, head_of}
use Rattle.free_list.specs.StoredList.{StoredList}
use Rattle.free_list.specs.Reading.{numbers_of, list_from, read_list}
use Rattle.free_list.proofs.RepeatsLaws.{read_chained, read_differs, read_differing}
use Rattle.free_list.proofs.StoredLaws.{read_stored}
use Rattle.free_list.proofs.ReadListLaws.{stored-read, head_read}
use Rattle.finisher.proofs.FinishLaws.{succeeds}
use Rattle.finisher.proofs.FinishedLaws.{finish_differs}
use Rattle.rollback.specs.Rollback.{Made, GetsList, Value, GetsValue, State, Good, ToWrite, value_page, list_page, Cut, run_of, Rollback}
use Rattle.rollback.proofs.ReadersLaws.{list_read, gets_list, gets-value}
use Rattle.rollback.proofs.CallsLaws.{Free, handed_free, Ran, run_ran}
use Rattle.rollback.proofs.WritesLaws.{SamePage, Apart, MayWrite, finish_writes}

module _ {s : ℕ} (size : IsPageSize s) {a : State} (first : Good s a) where
  abbrev store : List ℕ
  store = a.store

  abbrev l : FreeList
  l = a.list

  abbrev bump : ℕ
  bump = a.bump

  read : read_list s store a.head ≡ answer l
  read = list_read s store a.head l first.reads

  chained : list_from s store false a.head ≡ answer l
  chained = read_chained s store a.head read

  -- its numbers lie below the bump
  pub below_first : (n : ℕ) → Memᴰ n (numbers_of l) → n < bump
  below_first = by_origin first.below
    where
      by_origin : Made s l bump ⊎ ((n : ℕ) → Memᴰ n (numbers_of l) → n < bump) → (n : ℕ) → Memᴰ n (numbers_of l) → n < bump
      by_origin (inl (v, freed, room, f, made, list, is)) n m =
          omega (arith, is, (finish_differs size v freed room f made).1 n (subst (λ (k : FreeList). Memᴰ n (numbers_of k)) list m))
      by_origin (inr under) n m = under n m

  -- and differ
  pub differ_first : Different (numbers_of l)
  differ_first = once_different (numbers_of l) (all_different_once (numbers_of l) (read_differs s store a.head read))

  pub head_first : a.head ≡ head_of l
  head_first = head_read s store a.head l chained

  pub stored_first : StoredList s store l
  stored_first = stored-read s store a.head l chained

  pos : 0 < s
  pos = omega (arith, page_least size)

  -- ---- what a cut leaves

  -- the first list's pages read alike, and a page that is neither free nor a list page is as it was
  pub record Left (more : List ℕ) : Type 0 where
    pub longer : length store ≤ length more
    pub lists : (p : ℕ) → Memᴰ p l.pages → p < page_count s store → SamePage (page_at s store p) (page_at s more p)
    pub others : (p : ℕ) → (Free l bump p → ⊥) → (Memᴰ p l.pages → ⊥) → p < page_count s store → page_at s more p ≡ page_at s store p

  left_start : (extra : List ℕ) → Left (store ++ extra)
  left_start extra =
      record {
        longer = omega (arith, length-append store extra);
        lists = λ p m h. rw (same p h) (record { prev = refl; entries = refl });
        others = λ p f g h. same p h;
      }
    where
      same : (p : ℕ) → p < page_count s store → page_at s (store ++ extra) p ≡ page_at s store p
      same p h = page_at-grown s store extra p (page_within_lem s store p pos h)

  -- a free number is none of the first list's pages
  free_page : (n : ℕ) → Free l bump n → Memᴰ n l.pages → ⊥
  free_page n (inl e) m = different_apart l.pages l.entries differ_first n m e
  free_page n (inr e) m = omega (arith, below_first n (Memᴰ.append_left l.entries m))

  left-write : (more : List ℕ) (w : Write) → Left more → MayWrite s store l bump w → Left (write_page s more w)
  left-write more w k may =
      record {
        longer = omega (arith, k.longer, length_written s more w may.whole);
        lists = λ p m h. on_list p m h (ℕ_discrete p w.number) may.apart;
        others = λ p f g h. on_other p f g h (ℕ_discrete p w.number) may.apart;
      }
    where
      elsewhere : (p : ℕ) → p < page_count s store → (p ≡ w.number → ⊥) → page_at s (write_page s more w) p ≡ page_at s more p
      elsewhere p h ne = page_other s more w may.whole p ne (omega (arith, k.longer, page_within_lem s store p pos h))

      on_list : (p : ℕ) → Memᴰ p l.pages → p < page_count s store → Dec (p ≡ w.number) → Apart s store l bump w
          → SamePage (page_at s store p) (page_at s (write_page s more w) p)
      on_list p m h (no ne) x = rw (elsewhere p h ne) (k.lists p m h)
      on_list p m h (yes e) (inl f) = absurd (free_page w.number f (Memᴰ.cast (sym e) m))
      on_list p m h (yes e) (inr x) = rw (e, page_same s more w may.whole) x.1

      on_other : (p : ℕ) → (Free l bump p → ⊥) → (Memᴰ p l.pages → ⊥) → p < page_count s store → Dec (p ≡ w.number) → Apart s store l bump w
          → page_at s (write_page s more w) p ≡ page_at s store p
      on_other p f g h (no ne) x = elsewhere p h ne ∙ k.others p f g h
      on_other p f g h (yes e) (inl x) = absurd (f (subst (Free l bump) (sym e) x))
      on_other p f g h (yes e) (inr x) = absurd (g (Memᴰ.cast e x.0))

  left-writes : (more : List ℕ) (ws : List Write) → Left more → ((w : Write) → Memᴰ w ws → MayWrite s store l bump w) → Left (write_pages s more ws)
  unfolding write_pages
  left-writes more [] k may = k
  left-writes more (w ∷ ws) k may = left-writes (write_page s more w) ws (left-write more w k (may w (Memᴰ.head refl))) (λ x m. may x (Memᴰ.tail m))

  module _ {after : List ℕ} (c : Cut s a after) where
    pub cut-ran : Ran s l bump c.start (run_of c)
    cut-ran = run_ran s l bump c.calls c.start

    may_write : (w : Write) → ToWrite s (run_of c) w → MayWrite s store l bump w
    may_write w (value_page m e) = record { whole = e; apart = inl (handed_free l bump _ w.number (cut-ran.numbers w.number m)) }
    may_write w (list_page f h m) =
        let (room, e) = cut-ran.finishes f h in
        finish_writes size stored_first cut-ran.of (succeeds s cut-ran.last _ room f e).0 w m

    pub cut_left : Left after
    cut_left = rw c.leaves (left-writes (store ++ c.extra) c.writes (left_start c.extra) (λ w m. may_write w (c.allowed w m)))

  -- ---- what is read from it

  module _ {more : List ℕ} (k : Left more) where
    pub more-pages : page_count s store ≤ page_count s more
    more-pages = page_count_mono s store more pos k.longer

    -- the first list stands there as it did
    stored_more : StoredList s more l
    stored_more =
        let was = stored_first in
        record {
          shape = was.shape;
          few = omega (arith, was.few, more-pages);
          inside = λ j h. ((was.inside j h).0, omega (arith, (was.inside j h).1, more-pages));
          before = λ j h. sym (k.lists _ (get_d-mem l.pages j h) (was.inside j h).1).prev ∙ was.before j h;
          entries = λ j h. sym (k.lists _ (get_d-mem l.pages j h) (was.inside j h).1).entries ∙ was.entries j h;
          entries_inside = λ n m. ((was.entries_inside n m).0, omega (arith, (was.entries_inside n m).1, more-pages));
        }

    list_survives : GetsList s more a.head l
    list_survives =
        gets_list s more a.head l
        (read_differing s more a.head (ap (list_from s more false) head_first ∙ read_stored s more l size.two_entries stored_more) (read_differs s store a.head read))

    -- a page of a first value is as it was
    value-page : (x : Value) → Memᴰ x a.values → (n : ℕ) → Memᴰ n x.numbers → n < page_count s store → page_at s more n ≡ page_at s store n
    value-page x c n m h = k.others n not_free (λ t. first.values_apart x c n m (Memᴰ.append_left l.entries t)) h
      where
        not_free : Free l bump n → ⊥
        not_free (inl t) = first.values_apart x c n m (Memᴰ.append_right l.pages t)
        not_free (inr t) = omega (arith, first.values_below x c n m)

    value_survives : (x : Value) → Memᴰ x a.values → GetsValue s more x
    value_survives x m =
        gets-value s x store (first.each x m) more more-pages (value-page x m)

-- demand 3, at every page size
pub rollback : {s : ℕ} → IsPageSize s → Rollback s
rollback size a after first c = let k = cut_left size first c in (list_survives size first k, value_survives size first k)
