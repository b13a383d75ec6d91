-- One save after another: a save that was finished, written whole and kept to the rules is as good as the first one was.
-- Numbers are counted with repeats: a finish conserves them, and one that a value has is no longer free before it.
use Prim.Native.Nat.{ℕ, ◌+◌, ◌-◌, min, ◌<◌, ◌≤◌}
use mathlib.Core.Path.{◌≡◌, refl, sym, ◌∙◌, ap, subst}
use mathlib.Core.Logic.{◌⊎◌, inl, inr}
use mathlib.Core.Bool.{true, false, ◌&&◌}
use mathlib.Core.List.Memᴰ
use mathlib.Core.List.{List, [], ◌∷◌, ◌++◌, Memᴰ}
use native.Mathlib.Omega.{arith}
use lib.Dec.{eqb}
use lib.ListN.{length, get_or, drop, length-drop, drop_of_length-le}
use lib.Seq.{get_or-drop}
use Rattle.laws.specs.Counting.{count, numbers_from, Different, all_different}
use Rattle.laws.proofs.PlacesLaws.{get_d-mem}
use Rattle.laws.proofs.CountLaws.{count_none, count-append, mem-count, count-before, different_once, once_all_different, count-absent}
use Rattle.page.specs.PageSize.{IsPageSize, capacity}
use Rattle.page.specs.Pages.{page_count, page_at}
use Rattle.page.specs.Growth.{max_bump}
use Rattle.free_list.specs.ListPages.{prev_of, entries_of}
use Rattle.free_list.specs.Shape.{FreeList, head_of}
use Rattle.free_list.specs.StoredList.{StoredList}
use Rattle.free_list.proofs.RepeatsLaws.{read_differing}
use Rattle.free_list.proofs.StoredLaws.{read_stored}
use Rattle.preallocate.specs.Plan.{Plan, plan_of}
use Rattle.preallocate.proofs.PlanLaws.{plan_bump, plan_kept}
use Rattle.allocator.specs.OpenSave.{Save, bumped}
use Rattle.finisher.specs.Finish.{new_list, left_list, encoded_page, Finished, carried_out}
use Rattle.finisher.proofs.NewNumbersLaws.{DistinctBelow}
use Rattle.finisher.proofs.FreshLaws.{Between}
use Rattle.finisher.proofs.CountLaws.{conserved}
use Rattle.finisher.proofs.TablesLaws.{good_freed}
use Rattle.finisher.proofs.FinishedLaws.{left_distinct, finish_differs}
use Rattle.finisher.proofs.ReadBackLaws.{new-stored}
use Rattle.finisher.proofs.FinishLaws.{Succeeds, succeeds, finish_cases}
use Rattle.rollback.specs.Calls.{Run}
use Rattle.rollback.specs.Rollback.{Made, GetsList, Value, GetsValue, State, Good, Cut, run_of}
use Rattle.rollback.specs.Seasons.{Saved, Season, back, onward, SeasonsGood, EveryCut}
use Rattle.rollback.proofs.ReadersLaws.{gets_list}
use Rattle.rollback.proofs.CallsLaws.{Handed, Ran}
use Rattle.rollback.proofs.WritesLaws.{carried_mem}
use Rattle.rollback.proofs.RollbackLaws.{below_first, differ_first, head_first, stored_first, Left, cut-ran, cut_left, more-pages, rollback}

-- an entry that was handed out is among the last ones
between_last : (ns : List ℕ) (h k n : ℕ) → k ≡ min h (length ns) → Between ns (length ns - h) (length ns) n → 1 ≤ count n (drop (length ns - k) ns)
between_last ns h k n e (i, a, b, q) =
    let d = length ns - k in
    let j = i - d in
    let place : d + j ≡ i = omega arith in
    let same : get_or (drop d ns) j 0 ≡ n = get_or-drop d ns j 0 ∙ ap (λ (x : ℕ). get_or ns x 0) place ∙ sym q in
    mem-count n (drop d ns) (Memᴰ.cast (sym same) (get_d-mem (drop d ns) j (omega (arith, length-drop d ns))))

-- ---- a save that was written whole

module _ {s : ℕ} (size : IsPageSize s) {a b : State} (first : Good s a) (c : Cut s a b.store) {f : Finished} (saved : Saved s a b (run_of c) f) where
  abbrev l : FreeList
  l = a.list

  abbrev after : List ℕ
  after = b.store

  abbrev r : Run
  r = run_of c

  abbrev freed : List ℕ
  freed = r.freed

  ran : Ran s l a.bump c.start r
  ran = cut-ran size first c

  abbrev v : Save
  v = ran.last

  done : Succeeds s v freed f
  done =
      let (room, e) = ran.finishes f (subst (Memᴰ f) (sym saved.finished) (Memᴰ.head refl)) in
      (succeeds s v freed room f e).0

  abbrev L : ℕ
  L = length l.entries

  -- so many entries were handed out
  k : ℕ
  k = min v.handed L

  abbrev up : ℕ
  up = bumped v

  up_is : up ≡ a.bump + (v.handed - L)
  up_is = omega (arith, ran.of.start, ran.of.L)

  stored : StoredList s a.store l
  stored = stored_first size first

  left : Left size first after
  left = cut_left size first c

  -- the list's numbers differ, as it was read; of what is left of it the finish has seen all that its list needs
  once : (x : ℕ) → count x (l.pages ++ l.entries) ≤ 1
  once = different_once (l.pages ++ l.entries) (differ_first size first)

  distinct : DistinctBelow (left_list k l) up
  unfolding k
  distinct =
      let pops : L - v.handed ≡ L - k = omega arith in
      rw pops at (subst (λ (m : FreeList). DistinctBelow (left_list v.handed m) up) ran.of.list (left_distinct done))

  freed_good : (n : ℕ) → Memᴰ n freed → (1 ≤ n) × (n < up)
  freed_good = good_freed up freed done.good

  -- ---- counts in the first list, and among the entries handed out

  abbrev count_listed : ℕ → ℕ
  count_listed x = count x l.pages + count x l.entries

  abbrev count_popped : ℕ → ℕ
  count_popped x = count x (drop (L - k) l.entries)

  not_listed : (x : ℕ) → (Memᴰ x (l.pages ++ l.entries) → ⊥) → count_listed x ≡ 0
  not_listed x none = sym (count-append x l.pages l.entries) ∙ count-absent x (l.pages ++ l.entries) none

  none_past : (x : ℕ) → a.bump ≤ x → count_listed x ≡ 0
  none_past x p = not_listed x (λ m. omega (arith, below_first size first x m))

  -- a number in use: below the bump, and not in the list once the entries handed out are off it
  record Used (x : ℕ) : Type 0 where
    off : count_listed x ≤ count_popped x
    below : x < up

  -- what was handed out is
  handed_used : (x : ℕ) → Handed l a.bump v.handed x → Used x
  unfolding k
  handed_used x (inl t) = record { off = omega (arith, once x, count-append x l.pages l.entries, between_last l.entries v.handed k x refl t); below = under t }
    where
      under : Between l.entries (L - v.handed) L x → x < up
      under (i, p, q, e) = omega (arith, e, up_is, below_first size first _ (Memᴰ.append_right l.pages (get_d-mem l.entries i q)))
  handed_used x (inr t) = record { off = omega (arith, none_past x t.0); below = omega (arith, t.1, up_is) }

  -- so are the values' numbers
  value_used : (x : Value) → Memᴰ x b.values → (n : ℕ) → Memᴰ n x.numbers → Used n
  value_used x m n i = go (saved.values x m)
    where
      go : Memᴰ x a.values ⊎ (GetsValue s after x × ((j : ℕ) → Memᴰ j x.numbers → Memᴰ j r.numbers)) → Used n
      go (inl old) = record { off = omega (arith, not_listed n (first.values_apart x old n i)); below = omega (arith, first.values_below x old n i, up_is) }
      go (inr new) = handed_used n (ran.numbers n (new.1 n i))

  -- ---- what is to be shown of the list that the finish makes

  finish_seen : Different (f.list.pages ++ f.list.entries) × ((x : ℕ) → Memᴰ x (f.list.pages ++ f.list.entries) → x < f.bump)
  finish_seen =
      let (room, e) = ran.finishes f (subst (Memᴰ f) (sym saved.finished) (Memᴰ.head refl)) in
      finish_differs size v freed room f e

  finish_differ : all_different (f.list.pages ++ f.list.entries) ≡ true
  finish_differ = once_all_different (f.list.pages ++ f.list.entries) (different_once (f.list.pages ++ f.list.entries) finish_seen.0)

  -- its list is one that a finish made
  made : Made s b.list b.bump
  made =
      let (room, e) = ran.finishes f (subst (Memᴰ f) (sym saved.finished) (Memᴰ.head refl)) in
      (v, freed, room, f, e, saved.becomes.1, saved.becomes.2)

  record NewGood (m : FreeList) (bump : ℕ) : Type 0 where
    reads : GetsList s after (head_of m) m
    raised : up ≤ bump
    apart : (x : ℕ) → Used x → count x freed ≡ 0 → count x m.pages + count x m.entries ≡ 0

  values_read : (x : Value) → Memᴰ x b.values → GetsValue s after x
  values_read x m = go (saved.values x m)
    where
      go : Memᴰ x a.values ⊎ (GetsValue s after x × ((n : ℕ) → Memᴰ n x.numbers → Memᴰ n r.numbers)) → GetsValue s after x
      go (inl old) = (rollback size a after first c).1 x old
      go (inr new) = new.0

  new_good : NewGood b.list b.bump → Good s b
  new_good g =
      record {
        reads = subst (λ (p : ℕ). GetsList s after p b.list) (sym (saved.becomes.0 ∙ ap head_of (sym saved.becomes.1))) g.reads;
        each = values_read;
        below = inl made;
        values_below = λ x m n i. omega (arith, (value_used x m n i).below, g.raised);
        values_apart = λ x m n i t. omega (
          arith,
          mem-count n (b.list.pages ++ b.list.entries) t,
          counted n,
          g.apart n (value_used x m n i) (count-absent n freed (saved.not_freed x m n i)),
        );
      }
    where
      counted : (x : ℕ) → count x (b.list.pages ++ b.list.entries) ≡ count x b.list.pages + count x b.list.entries
      counted x = count-append x b.list.pages b.list.entries

  -- nothing was popped and nothing freed: the list is the first one
  same_good : k ≡ 0 → NewGood l up
  same_good none =
      let no-entry : drop (L - k) l.entries ≡ [] = drop_of_length-le l.entries {i = L - k} (omega arith) in
      record {
        reads = subst (λ (p : ℕ). GetsList s after p l) (head_first size first) (rollback size a after first c).0;
        raised = omega arith;
        apart = λ x u e. omega (arith, u.off, ap (count x) no-entry, count_none x);
      }

  module _ (changed : eqb k 0 && eqb (length freed) 0 ≡ false) where
    abbrev plan : Plan
    plan = plan_of (capacity s) l k freed up

    abbrev new : FreeList
    new = new_list l plan

    kL : k ≤ L
    unfolding k
    kL = omega arith

    -- the pages of the finish stand in the store
    pages_found : f ≡ carried_out s l plan → (j : ℕ) → plan.kept ≤ j + 1 → j < length new.pages
        → (page_at s after (get_or new.pages j 0) ≡ (encoded_page s new j).bytes) × (get_or new.pages j 0 < page_count s after)
    unfolding encoded_page
    pages_found e j p q =
        let w = saved.written (encoded_page s new j) (subst (λ (g : Finished). Memᴰ (encoded_page s new j) g.written) (sym e) (carried_mem s l plan j p q)) in
        (w.1, w.0)

    -- pages below the top kept one read as they did
    kept_same : (j : ℕ) → j + 1 < plan.kept
        → (prev_of (page_at s after (get_or l.pages j 0)) ≡ prev_of (page_at s a.store (get_or l.pages j 0)))
        × (entries_of (page_at s after (get_or l.pages j 0)) ≡ entries_of (page_at s a.store (get_or l.pages j 0)))
    kept_same j p =
        let within : j < length l.pages = omega (arith, plan_kept (capacity s) l size.two_entries stored.shape k freed up) in
        let same = left.lists _ (get_d-mem l.pages j within) (stored.inside j within).1 in
        (sym same.prev, sym same.entries)

    -- the numbers are conserved
    counted : (x : ℕ) → count x new.pages + count x new.entries + count_popped x ≡ count_listed x + count x freed + count x (numbers_from up (plan.bump - up))
    counted x = conserved (capacity s) (omega (arith, size.two_entries)) l k freed up stored.shape x

    raised : up ≤ plan.bump
    raised = plan_bump (capacity s) l size.two_entries stored.shape k freed up

    -- they all differ
    new_differ : f ≡ carried_out s l plan → all_different (new.pages ++ new.entries) ≡ true
    unfolding carried_out
    new_differ e = subst (λ (g : Finished). all_different (g.list.pages ++ g.list.entries) ≡ true) e finish_differ

    changed_good : f ≡ carried_out s l plan → plan.bump ≤ max_bump → NewGood new plan.bump
    changed_good e limit =
        record {
          reads = gets_list s after (head_of new) new
              (read_differing s after (head_of new)
              (read_stored s after new size.two_entries
              (new-stored s size l k freed up a.store stored distinct kL changed (omega (arith, limit)) after (more-pages size first left)
              (λ n m. ((freed_good n m).0, saved.freed n m)) kept_same (pages_found e)))
              (new_differ e));
          raised = raised;
          apart = λ x u none. omega (arith, counted x, u.off, none, count-before x up (plan.bump - up) u.below);
        }

  finish-good : NewGood f.list f.bump
  unfolding k carried_out
  finish-good =
      finish_cases done ran.of.list (λ (x : Finished). f ≡ x → NewGood x.list x.bump) k refl (λ none _ e. same_good none)
      (λ changed e. changed_good changed e (omega (arith, done.limit, ap (λ (g : Finished). g.bump) e))) refl

  saved_good : Good s b
  saved_good =
      let (_, list, bump) = saved.becomes in
      new_good (subst (λ (m : FreeList). NewGood m b.bump) (sym list) (subst (NewGood f.list) (sym bump) finish-good))

-- ---- seasons

-- a cut leaves the save as good as it was, for its caller to go back to
back_good : {s : ℕ} → IsPageSize s → {a : State} {after : List ℕ} → Good s a → Cut s a after
    → Good s (record { store = after; head = a.head; list = a.list; values = a.values; bump = a.bump })
back_good size {a} {after} first c =
    let r = rollback size a after first c in
    record { reads = r.0; each = r.1; below = first.below; values_below = first.values_below; values_apart = first.values_apart }

-- After each save, cut or whole, the caller stands as at the first one.
pub season_good : {s : ℕ} → IsPageSize s → {a b : State} → Good s a → Season s a b → Good s b
season_good {s} size first (back c e) = subst (Good s) (sym e) (back_good size first c)
season_good size first (onward c f saved) = saved_good size first c saved

-- So in any sequence of saves every one starts well,
pub seasons_good : {s : ℕ} → IsPageSize s → SeasonsGood s
seasons_good {s} size a [] first steps b m = subst (Good s) (sym (Memᴰ.eq_of_singleton m)) first
seasons_good {s} size a (x ∷ bs) first steps b m = go (seasons_good size x bs (season_good size first steps.0) steps.1 b) (Memᴰ.cases_cons m)
  where
    go : (Memᴰ b (x ∷ bs) → Good s b) → (b ≡ a) ⊎ Memᴰ b (x ∷ bs) → Good s b
    go rest (inl e) = subst (Good s) (sym e) first
    go rest (inr h) = rest h

-- and at every cut of every one of them the save before it reads as it did.
pub every_cut : {s : ℕ} → IsPageSize s → EveryCut s
every_cut size a bs first steps b m after c = rollback size b after (seasons_good size a bs first steps b m) c
