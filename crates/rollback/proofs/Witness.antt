-- The small saves meet what is asked, and read as computed.
-- Premises by tests on lists that are written out; all else by computation.
use Prim.Native.Nat.{ℕ, zero, suc, ◌<◌}
use mathlib.Core.Path.{◌≡◌, refl, sym, subst}
use mathlib.Core.Logic.{◌⊎◌, inl, inr}
use mathlib.Core.Bool.{Bool, true, ◌&&◌, not}
use mathlib.Core.List.Memᴰ
use mathlib.Core.List.{List, [], ◌∷◌, Memᴰ}
use native.Mathlib.Decide.{dec_lt}
use native.Mathlib.Omega.{arith}
use lib.Dec.{ltb, eqb}
use lib.ListN.{length, get_or}
use borrow.Author.Tests.{ltb-true, eqb-false, not-true}
use Rattle.refusal.specs.Outcome.{answer, refused}
use Rattle.laws.specs.Counting.{count, all_different, all_below}
use Rattle.bit_map.specs.BitMap.{bytes_in_use, cleared}
use Rattle.laws.proofs.Tests.{and-true}
use Rattle.laws.proofs.PlacesLaws.{get_d-mem}
use Rattle.page.specs.Bytes.{number_at, bytes_of, numbers_at, bytes_of_all}
use Rattle.page.specs.PageSize.{IsPageSize, capacity}
use Rattle.page.specs.Pages.{page_count, page_at, Write, write_page, write_pages}
use Rattle.page.specs.Growth.{rounded_up, grown}
use Rattle.free_list.specs.Shape.{is_shape, is_fragmented, entries_below, entries_on, head_of}
use Rattle.free_list.specs.ListPages.{prev_of, count_of, entries_of, encode_list_page}
use Rattle.free_list.specs.Reading.{count_fits, all_entries_fit, read_from, list_from, read_list, read_list_into}
use Rattle.overflow.specs.Totals.{max_size, holds, first_from, new_total, raw_pages, old_total}
use Rattle.overflow.specs.Layout.{numbers_before, numbers_on, bytes_before, bytes_on}
use Rattle.overflow.specs.ValuePages.{number_count, byte_count, value_numbers, value_bytes, encode_value_page, value_page}
use Rattle.overflow.specs.Cells.{cell_bytes, cell_size, cell_count, cell_of, decode_cell}
use Rattle.overflow.specs.Kept.{Kept}
use Rattle.overflow.specs.Reading.{in_store, parse_page, walk, value_total, admitted, read_value_into}
use Rattle.preallocate.specs.Plan.{pages_for, room, pages_after, pushed_after, first_plan, next_plan, enough_room, plan_of}
use Rattle.allocator.specs.OpenSave.{state_fits, next_number, next_recorded, hand_out}
use Rattle.finisher.specs.Finish.{new_list, encoded_page, encoded_pages, Finished, carried_out, finish_list, first_bad, finished, admitted as admitted_finish, fitted, finish}
use Rattle.rollback.specs.Calls.{open_on, Run, run}
use Rattle.rollback.specs.Rollback.{Value, GetsValue, Good, ToWrite, value_page as any_page, list_page, Cut}
use Rattle.rollback.specs.Seasons.{Saved, Season, onward}
use Rattle.rollback.specs.Witness.{small, list, hash, value_at, list_page_at, value_page_at, own, room_for, bytes, store, first, new_bytes, calls, writes, second, cut_calls, cut_writes, cut_store, long_bytes, long_numbers, long_value, long_pages, long_store, long, Witnessed}
use Rattle.rollback.proofs.ReadersLaws.{gets_list}
use Rattle.rollback.proofs.BridgeLaws.{written-value}

size : IsPageSize small
unfolding capacity
size = record { multiple = refl; two_entries = omega arith; limit = omega arith }

-- ---- membership in lists that are written out, by tests

all_in : (ℕ → Bool) → List ℕ → Bool
all_in p [] = true
all_in p (n ∷ ns) = p n && all_in p ns

all_in_lem : (p : ℕ → Bool) (ns : List ℕ) → all_in p ns ≡ true → (n : ℕ) → Memᴰ n ns → p n ≡ true
unfolding all_in
all_in_lem p [] e n m = absurd (Memᴰ.not-nil m)
all_in_lem p (x ∷ ns) e n m = let t = and-true (p x) (all_in p ns) e in go t.0 (λ k. all_in_lem p ns t.1 n k) (Memᴰ.cases_cons m)
  where
    go : p x ≡ true → (Memᴰ n ns → p n ≡ true) → (n ≡ x) ⊎ Memᴰ n ns → p n ≡ true
    go h f (inl q) = subst (λ (y : ℕ). p y ≡ true) (sym q) h
    go h f (inr k) = f k

below : (bound : ℕ) (ns : List ℕ) → all_in (λ n. ltb n bound) ns ≡ true → (n : ℕ) → Memᴰ n ns → n < bound
below bound ns e n m = ltb-true n bound (all_in_lem (λ x. ltb x bound) ns e n m)

absent : (a : ℕ) (ns : List ℕ) → all_in (λ n. not (eqb n a)) ns ≡ true → Memᴰ a ns → ⊥
absent a ns e m = eqb-false a a (not-true (eqb a a) (all_in_lem (λ x. not (eqb x a)) ns e a m)) refl

-- what holds of the one thing in a list
of_one : {A : Type 0} (x : A) (Q : A → Type 0) → Q x → (y : A) → Memᴰ y (x ∷ []) → Q y
of_one x Q q y m = subst Q (sym (Memᴰ.eq_of_singleton m)) q

-- ---- a value on one page

-- the only index
at_zero : (Q : ℕ → Type 0) → Q 0 → (i : ℕ) → i < 1 → Q i
at_zero Q q zero h = q
at_zero Q q (suc i) h = absurd (omega arith)

kept : Kept small store (new_total small (length bytes)) bytes (4 ∷ [])
unfolding store max_size new_total first_from holds page_count page_at value_page encode_list_page encode_value_page numbers_before numbers_on bytes_before bytes_on bytes_of bytes_of_all
kept =
    record {
      size = omega arith;
      few = omega arith;
      count = refl;
      pages = at_zero (λ i. (get_or (4 ∷ []) i 0 < page_count small store) × (page_at small store (get_or (4 ∷ []) i 0) ≡ value_page small 1 bytes (4 ∷ []) i)) (omega arith, refl);
    }

new_kept : Kept small second.store (new_total small (length new_bytes)) new_bytes (3 ∷ [])
unfolding second store max_size new_total first_from holds page_count page_at write_page write_pages value_page encode_list_page encode_value_page numbers_before numbers_on bytes_before bytes_on bytes_of bytes_of_all
new_kept =
    record {
      size = omega arith;
      few = omega arith;
      count = refl;
      pages = at_zero (λ i. (get_or (3 ∷ []) i 0 < page_count small second.store) × (page_at small second.store (get_or (3 ∷ []) i 0) ≡ value_page small 1 new_bytes (3 ∷ []) i))
          (omega arith, refl);
    }

-- ---- the first save

reads : read_list small store 1 ≡ answer first.list
unfolding store first count all_different list_from read_from page_count page_at capacity prev_of count_of entries_of encode_list_page count_fits all_entries_fit number_at numbers_at bytes_of bytes_of_all encode_value_page
reads = refl

good : Good small first
unfolding first all_in
good =
    record {
      reads = gets_list small store 1 _ reads;
      each = of_one (value_at 4 bytes) (GetsValue small store) (written-value size store (new_total small (length bytes)) bytes (4 ∷ []) (inl refl) kept hash refl);
      below = inr (below 5 (1 ∷ 2 ∷ 3 ∷ []) refl);
      values_below = of_one (value_at 4 bytes) (λ (x : Value). (n : ℕ) → Memᴰ n x.numbers → n < 5) (below 5 (4 ∷ []) refl);
      values_apart = of_one (value_at 4 bytes) (λ (x : Value). (n : ℕ) → Memᴰ n x.numbers → Memᴰ n (1 ∷ 2 ∷ 3 ∷ []) → ⊥) apart;
    }
  where
    apart : (n : ℕ) → Memᴰ n (4 ∷ []) → Memᴰ n (1 ∷ 2 ∷ 3 ∷ []) → ⊥
    apart n m k = omega (arith, below 4 (1 ∷ 2 ∷ 3 ∷ []) refl n k, Memᴰ.eq_of_singleton m)

-- ---- the second

abbrev result : Finished
result = record { list = list (2 ∷ []) (4 ∷ 1 ∷ []); bump = 5; written = list_page_at 2 (4 ∷ 1 ∷ []) ∷ [] }

abbrev made : Run
made = record { numbers = 3 ∷ []; finished = result ∷ []; freed = 4 ∷ [] }

short_map : finish small (open_on first.list first.bump 0 (own [] [])) (4 ∷ []) (room_for 64 4 0) ≡ refused 21 []
unfolding first state_fits is_shape is_fragmented capacity bytes_in_use first_bad new_list carried_out finish_list finished admitted_finish fitted finish pages_for room pages_after pushed_after first_plan next_plan enough_room plan_of
short_map = refl

freed_twice : finish small (open_on first.list first.bump 1 (own [] [])) (4 ∷ 4 ∷ []) (room_for 64 4 1) ≡ refused 22 []
unfolding first state_fits is_shape is_fragmented capacity count all_different all_below bytes_in_use first_bad new_list carried_out finish_list finished admitted_finish fitted finish pages_for room pages_after pushed_after first_plan next_plan enough_room plan_of
freed_twice = refl

short_tables : finish small (open_on first.list first.bump 0 (own [] [])) (4 ∷ []) (room_for 64 4 1) ≡ refused 6 []
unfolding first state_fits is_shape is_fragmented capacity count all_different all_below bytes_in_use first_bad new_list entries_below carried_out finish_list finished admitted_finish fitted finish pages_for room pages_after pushed_after first_plan next_plan enough_room plan_of
short_tables = refl

short_room : finish small (open_on first.list first.bump 1 (own [] [])) (4 ∷ []) (room_for 15 1 1) ≡ refused 9 []
unfolding first state_fits is_shape is_fragmented capacity count all_different all_below bytes_in_use first_bad new_list encoded_pages carried_out finish_list finished admitted_finish fitted finish pages_for room pages_after pushed_after first_plan next_plan enough_room plan_of
short_room = refl

made_so : run small first.list first.bump 0 calls ≡ made
unfolding first run hand_out state_fits is_shape is_fragmented capacity next_number next_recorded grown rounded_up count all_different all_below bytes_in_use first_bad new_list entries_below entries_on encoded_page encoded_pages carried_out finish_list finished admitted_finish fitted finish pages_for room pages_after pushed_after first_plan next_plan enough_room plan_of
made_so = refl

written : Cut small first second.store
unfolding first second encode_value_page bytes_of bytes_of_all
written =
    record {
      start = 0;
      calls = calls;
      extra = [];
      writes = writes;
      allowed = λ w m. subst (λ (r : Run). ToWrite small r w) (sym made_so) (go w (Memᴰ.cases_cons m));
      leaves = refl;
    }
  where
    go : (w : Write) → (w ≡ list_page_at 2 (4 ∷ 1 ∷ [])) ⊎ Memᴰ w (value_page_at 3 new_bytes ∷ []) → ToWrite small made w
    go w (inl e) = subst (ToWrite small made) (sym e) (list_page result (Memᴰ.head refl) (Memᴰ.head refl))
    go w (inr m) = subst (ToWrite small made) (sym (Memᴰ.eq_of_singleton m)) (any_page (Memᴰ.head refl) refl)

saved_made : Saved small first second made result
unfolding first second store all_in head_of page_count page_at write_page write_pages encode_list_page encode_value_page bytes_of bytes_of_all
saved_made =
    record {
      finished = refl;
      becomes = (refl, refl, refl);
      written = of_one (list_page_at 2 (4 ∷ 1 ∷ [])) (λ (w : Write). (w.number < page_count small second.store) × (page_at small second.store w.number ≡ w.bytes)) (omega arith, refl);
      freed = of_one 4 (λ (n : ℕ). n < page_count small second.store) (omega arith);
      values = λ x m. inr (of_one (value_at 3 new_bytes) (λ (y : Value). GetsValue small second.store y × ((n : ℕ) → Memᴰ n y.numbers → Memᴰ n (3 ∷ [])))
          (written-value size second.store (new_total small (length new_bytes)) new_bytes (3 ∷ []) (inl refl) new_kept hash refl, λ n k. k) x m);
      not_freed = of_one (value_at 3 new_bytes) (λ (x : Value). (n : ℕ) → Memᴰ n x.numbers → Memᴰ n (4 ∷ []) → ⊥)
          (λ n m k. omega (arith, Memᴰ.eq_of_singleton m, Memᴰ.eq_of_singleton k));
    }

next : Season small first second
unfolding written
next = onward written result (subst (λ (r : Run). Saved small first second r result) (sym made_so) saved_made)

-- ---- the third

abbrev cut_made : Run
cut_made = record { numbers = 1 ∷ 4 ∷ []; finished = []; freed = [] }

cut-made_so : run small second.list second.bump 0 cut_calls ≡ cut_made
unfolding second run hand_out state_fits is_shape capacity next_number next_recorded grown rounded_up
cut-made_so = refl

cut : Cut small second cut_store
unfolding second cut_store encode_value_page bytes_of bytes_of_all
cut =
    record {
      start = 0;
      calls = cut_calls;
      extra = _;
      writes = cut_writes;
      allowed = λ w m. subst (λ (r : Run). ToWrite small r w) (sym cut-made_so) (go w (Memᴰ.cases_cons m));
      leaves = refl;
    }
  where
    go : (w : Write) → (w ≡ value_page_at 4 (5 ∷ [])) ⊎ Memᴰ w (value_page_at 1 (6 ∷ 6 ∷ []) ∷ []) → ToWrite small cut_made w
    go w (inl e) = subst (ToWrite small cut_made) (sym e) (any_page (Memᴰ.tail (Memᴰ.head refl)) refl)
    go w (inr m) = subst (ToWrite small cut_made) (sym (Memᴰ.eq_of_singleton m)) (any_page (Memᴰ.head refl) refl)

-- ---- the long value

-- what holds of each number below n
Below : (ℕ → Type 0) → ℕ → Type 0
Below Q zero = Unit
Below Q (suc n) = Below Q n × Q n

at_each : (Q : ℕ → Type 0) (n : ℕ) → Below Q n → (i : ℕ) → i < n → Q i
unfolding Below
at_each Q zero b i h = absurd (omega arith)
at_each Q (suc n) b i h = by_place (dec_lt i n) (at_each Q n b.0 i)
  where
    by_place : Dec (i < n) → (i < n → Q i) → Q i
    by_place (yes l) before = before l
    by_place (no l) before = let last : i ≡ n = omega arith in rw last b.1

long_kept : Kept small long_store (new_total small 203) long_bytes long_numbers
unfolding long_store long_pages max_size new_total first_from holds page_count page_at value_page encode_list_page encode_value_page numbers_before numbers_on bytes_before bytes_on bytes_of bytes_of_all Below all_in
long_kept =
    record {
      size = omega arith;
      few = omega arith;
      count = refl;
      pages = λ i h. (below 21 long_numbers refl (get_or long_numbers i 0) (get_d-mem long_numbers i h), at_each (λ i. page_at small long_store (get_or long_numbers i 0) ≡ value_page small 18 long_bytes long_numbers i) 18 each i h);
    }
  where
    each : Below (λ i. page_at small long_store (get_or long_numbers i 0) ≡ value_page small 18 long_bytes long_numbers i) 18
    each = ((((((((((((((((((tt, refl), refl), refl), refl), refl), refl), refl), refl), refl), refl), refl), refl), refl), refl), refl), refl), refl), refl)

long_reads : read_list small long_store 1 ≡ answer long.list
unfolding long_store long_pages long count all_different list_from read_from page_count page_at capacity prev_of count_of entries_of encode_list_page count_fits all_entries_fit number_at numbers_at bytes_of bytes_of_all value_page encode_value_page numbers_before numbers_on bytes_before bytes_on
long_reads = refl

long_good : Good small long
unfolding long all_in
long_good =
    record {
      reads = gets_list small long_store 1 _ long_reads;
      each = of_one long_value (GetsValue small long_store) (written-value size long_store (new_total small 203) long_bytes long_numbers (inl refl) long_kept hash refl);
      below = inr (below 21 (1 ∷ 20 ∷ []) refl);
      values_below = of_one long_value (λ (x : Value). (n : ℕ) → Memᴰ n x.numbers → n < 21) (below 21 long_numbers refl);
      values_apart = of_one long_value (λ (x : Value). (n : ℕ) → Memᴰ n x.numbers → Memᴰ n (1 ∷ 20 ∷ []) → ⊥) apart;
    }
  where
    apart : (n : ℕ) → Memᴰ n long_numbers → Memᴰ n (1 ∷ 20 ∷ []) → ⊥
    apart n m k = go (Memᴰ.cases_cons k)
      where
        go : (n ≡ 1) ⊎ Memᴰ n (20 ∷ []) → ⊥
        go (inl e) = absent 1 long_numbers refl (subst (λ (j : ℕ). Memᴰ j long_numbers) e m)
        go (inr j) = absent 20 long_numbers refl (subst (λ (j : ℕ). Memᴰ j long_numbers) (Memᴰ.eq_of_singleton j) m)

-- ---- all of it

pub witnessed : Witnessed
unfolding cut_store store count all_different bytes_in_use cleared write_pages write_page page_count page_at capacity number_at numbers_at bytes_of bytes_of_all prev_of count_of entries_of encode_list_page count_fits all_entries_fit read_from list_from read_list_into encode_value_page read_value_into admitted decode_cell cell_of cell_size cell_count cell_bytes in_store walk value_total parse_page max_size holds first_from new_total old_total raw_pages long_store long_pages value_page numbers_before numbers_on bytes_before bytes_on number_count byte_count value_numbers value_bytes
witnessed =
    record {
      good = good;
      next = next;
      short_map = short_map;
      short_tables = short_tables;
      freed_twice = freed_twice;
      short_room = short_room;
      cut = cut;
      list_read = refl;
      value_read = refl;
      freed_reused = refl;
      head_in_place = refl;
      new_less = refl;
      old_more = refl;
      long_good = long_good;
      long_short = refl;
      long_read = refl;
    }
