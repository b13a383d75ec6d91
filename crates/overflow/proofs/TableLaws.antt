-- The walk in the numbers of the code is the walk of the definition: its counts and its table say what is found. By induction over the
-- pages left; each page puts its numbers behind those known.
use Prim.Native.Nat.{ℕ, zero, suc, ◌+◌, ◌*◌, ◌-◌, ◌<◌, ◌≤◌}
use mathlib.Core.Path.{◌≡◌, refl, sym, ◌∙◌, ap}
use mathlib.Core.Bool.{Bool, true, false, ◌&&◌, cond}
use mathlib.Core.List.{List, [], ◌∷◌, ◌++◌, append-nil}
use native.Mathlib.Decide.{dec_lt}
use native.Mathlib.Nat.{zero-add, sub-zero}
use native.Mathlib.Numerals.{add-one}
use native.Mathlib.Omega.{arith}
use borrow.Author.Tests.{le-ltb, lt-ltb}
use lib.Dec.{leb, ltb}
use lib.ListN.{length, get_or, take, drop, length-append, length-take, get_or-append}
use lib.Seq.{sets, length-sets, sets-eq, take_all, take-append-le, take-append-add, get_or-take}
use Rattle.refusal.specs.Outcome.{Outcome, answer, refused, check}
use Rattle.refusal.specs.Effect.{Effect, effect, leaves}
use Rattle.refusal.proofs.OutcomeLaws.{check_answer}
use Rattle.page.specs.Bytes.{numbers_at}
use Rattle.page.proofs.BytesLaws.{length-numbers_at}
use Rattle.laws.proofs.SetsLaws.{sets-append}
use Rattle.overflow.specs.ValuePages.{number_count, byte_count, value_numbers, value_bytes, numbers_within, bytes_within}
use Rattle.overflow.specs.Cells.{cell_header, cell_count, cell_of}
use Rattle.overflow.specs.Reading.{Source, in_store, parse_page, Found, with_page, in_cell, Walked, ended, onward, walk, table_after}
use Rattle.overflow.specs.Steps.{visit_into, counts_with, resumed, walk_table, start_counts, walk_counts, SmallCounts, walk_into, first_walk_into}
use Rattle.overflow.specs.declared.walk.WalkCounts.{WalkCounts}
use Rattle.overflow.proofs.ParseLaws.{Fits, Paged, Parsed, length-value_numbers, length-value_bytes, fitting_numbers, fitting_bytes, parse_answer, store_paged}

-- ---- a queue in a table

-- the first n of two lists one after the other
pub take-append : (n : ℕ) (xs ys : List ℕ) → take n (xs ++ ys) ≡ take n xs ++ take (n - length xs) ys
take-append n xs ys = by_length (dec_lt n (length xs))
  where
    by_length : Dec (n < length xs) → take n (xs ++ ys) ≡ take n xs ++ take (n - length xs) ys
    by_length (yes lt) =
        let none : n - length xs ≡ 0 = omega arith in
        rw (none, append-nil (take n xs)) (take-append-le n xs ys (omega arith))
    by_length (no nlt) =
        let e : n ≡ length xs + (n - length xs) = omega arith in
        rw (take_all n xs (omega arith)) (ap (λ (k : ℕ). take k (xs ++ ys)) e ∙ take-append-add xs ys (n - length xs))

-- a table that holds the first n numbers of a queue, with some more put behind them
pub sets_queued : (t xs ys : List ℕ) (n : ℕ) → sets (sets t 0 (take n xs)) (length xs) (take (n - length xs) ys) ≡ sets t 0 (take n (xs ++ ys))
sets_queued t xs ys n = rw (take-append n xs ys, sets-append t 0 (take n xs) (take (n - length xs) ys)) (by_length (dec_lt n (length xs)))
  where
    by_length : Dec (n < length xs)
        → sets (sets t 0 (take n xs)) (length xs) (take (n - length xs) ys) ≡ sets (sets t 0 (take n xs)) (0 + length (take n xs)) (take (n - length xs) ys)
    by_length (yes lt) = let none : n - length xs ≡ 0 = omega arith in rw none
    by_length (no nlt) =
        let e : 0 + length (take n xs) ≡ length xs = rw (take_all n xs (omega arith), zero-add (length xs)) in
        rw e

-- a place of such a table
pub get_d_queued : (t xs : List ℕ) (n i : ℕ) → n ≤ length t → i < n → i < length xs → get_or (sets t 0 (take n xs)) i 0 ≡ get_or xs i 0
get_d_queued t xs n i fits h k =
    let long : length (take n xs) ≤ length t = omega (arith, length-take n xs) in
    rw (sets-eq (take n xs) t 0 (omega arith))
    (get_or-append (take n xs) (drop (0 + length (take n xs)) t) 0 i (omega (arith, length-take n xs)) ∙ get_or-take n xs i 0 h)

-- ---- one page, in the numbers of the code

module _ (s : ℕ) (source : Source) (total i known : ℕ) (table : List ℕ) where
  pub visit_unknown : known ≤ i → effect (refused 14 (i ∷ [])) table ≡ visit_into s source total i known table
  unfolding visit_into
  visit_unknown h = rw (le-ltb i known h)

  pub visit_refused : i < known → {n : ℕ} {vs : List ℕ} → refused n vs ≡ parse_page s source i (get_or table i 0) → effect (refused n vs) table ≡ visit_into s source total i known table
  unfolding visit_into
  visit_refused h e = rw (lt-ltb i known h, ← e)

  module _ {b : List ℕ} (e : answer b ≡ parse_page s source i (get_or table i 0)) (paged : Paged s source) {n : ℕ} (numbers : n ≡ numbers_within b) where
    parsed : Parsed s source i (get_or table i 0) b
    parsed = parse_answer s source i (get_or table i 0) (sym e)

    numbers_are : n ≡ number_count b
    numbers_are = numbers ∙ fitting_numbers b (paged i (get_or table i 0) b parsed.from) parsed.fits

    -- its numbers lie on it
    pub visit_room : 4 + 4 * n ≤ length b
    visit_room = omega (arith, numbers_are, paged i (get_or table i 0) b parsed.from, parsed.fits, parsed.some)

    pub visit_taken : i < known → {next : List ℕ} → next ≡ sets table known (take (total - known) (numbers_at 4 b 4 n)) → effect (answer b) next ≡ visit_into s source total i known table
    unfolding visit_into value_numbers
    visit_taken h queued = rw (lt-ltb i known h, ← e, queued, numbers_are)

-- ---- the walk

module _ {s : ℕ} (source : Source) (paged : Paged s source) (total : ℕ) (table : List ℕ) (room : total ≤ length table) where
  -- what is found before page i, in numbers, and the table that holds it
  abbrev counts_of : ℕ → Found → WalkCounts
  counts_of i f = record { pages = i; size = length f.bytes; numbers = length f.numbers }

  abbrev table_of : Found → List ℕ
  table_of f = sets table 0 (take total f.numbers)

  -- one page more
  counts_more : (i : ℕ) (f : Found) (b : List ℕ) → length b ≡ s → Fits s b → counts_with (counts_of i f) b ≡ counts_of (suc i) (with_page f b)
  counts_more i f b long fits =
      rw (add-one i, length-append f.numbers (value_numbers b), length-append f.bytes (value_bytes b), length-value_numbers b, length-value_bytes b long fits, fitting_numbers b long fits, fitting_bytes b long fits)

  -- the page that is next: from the table, and from what is found
  next-page : (i : ℕ) (f : Found) → i < total
      → check (ltb i (length f.numbers)) 14 (i ∷ []) (parse_page s source i (get_or (table_of f) i 0))
      ≡ check (ltb i (length f.numbers)) 14 (i ∷ []) (parse_page s source i (get_or f.numbers i 0))
  next-page i f h = known (dec_lt i (length f.numbers))
    where
      known : Dec (i < length f.numbers)
          → check (ltb i (length f.numbers)) 14 (i ∷ []) (parse_page s source i (get_or (table_of f) i 0))
          ≡ check (ltb i (length f.numbers)) 14 (i ∷ []) (parse_page s source i (get_or f.numbers i 0))
      known (yes k) = rw (get_d_queued table f.numbers total i room h k)
      known (no k) = let past : length f.numbers ≤ i = omega arith in rw (le-ltb i (length f.numbers) past)

  module _ (to_bytes : Bool) where
    -- the rest of the walk is the same by the table and by what is found
    abbrev Same : ℕ → ℕ → Found → Type 0
    Same left i f =
        let w = walk s source to_bytes left i f in
        walk_table s source to_bytes total left (counts_of i f) (table_of f) ≡ effect (walk_counts w) (table_after total table w)

    -- so it is with one page more to go
    module _ (left i : ℕ) (f : Found) (again : (b : List ℕ) → Same left (suc i) (with_page f b)) where
      abbrev next : List ℕ → Walked
      next b = cond (to_bytes && leb 1 (byte_count b)) (ended (suc i) (with_page f b)) (walk s source to_bytes left (suc i) (with_page f b))

      abbrev resume : List ℕ → List ℕ → Effect WalkCounts (List ℕ)
      resume b t = cond (to_bytes && leb 1 (bytes_within b)) (effect (answer (counts_with (counts_of i f) b)) t) (walk_table s source to_bytes total left (counts_with (counts_of i f) b) t)

      by_test : (b : List ℕ) (last : Bool)
          → let w = cond last (ended (suc i) (with_page f b)) (walk s source to_bytes left (suc i) (with_page f b)) in
          cond last (effect (answer (counts_of (suc i) (with_page f b))) (table_of (with_page f b))) (walk_table s source to_bytes total left (counts_of (suc i) (with_page f b)) (table_of (with_page f b)))
          ≡ effect (walk_counts w) (table_after total table w)
      by_test b true = refl
      by_test b false = again b

      by_page : (o : Outcome (List ℕ)) → ((b : List ℕ) → o ≡ answer b → Parsed s source i (get_or f.numbers i 0) b)
          → let v = leaves (λ b. b) (λ b. sets (table_of f) (length f.numbers) (take (total - length f.numbers) (value_numbers b))) (table_of f) o in
          resumed resume v.outcome v.lent ≡ effect (walk_counts (onward f next o)) (table_after total table (onward f next o))
      by_page (answer b) fits =
          let p = fits b refl in
          let long = paged i (get_or f.numbers i 0) b p.from in
          rw (sets_queued table f.numbers (value_numbers b) total, counts_more i f b long p.fits, fitting_bytes b long p.fits) (by_test b (to_bytes && leb 1 (byte_count b)))
      by_page (refused n vs) fits = refl

    pub table-walk : (left i : ℕ) (f : Found) → i + left ≤ total → Same left i f
    unfolding walk_table walk visit_into
    table-walk zero i f h = refl
    table-walk (suc left) i f h =
        let p = get_or f.numbers i 0 in
        rw (next-page i f (omega arith))
        (by_page left i f (λ b. table-walk left (suc i) (with_page f b) (omega arith)) (check (ltb i (length f.numbers)) 14 (i ∷ []) (parse_page s source i p))
        (λ b e. parse_answer s source i p (check_answer (ltb i (length f.numbers)) 14 (i ∷ []) (parse_page s source i p) e).1))

-- the walk from the numbers of a cell
pub first_whole : (s : ℕ) (store table cell : List ℕ)
    → {known : ℕ} {first : List ℕ} → known ≡ cell_count cell → first ≡ sets table 0 (take (length table - 0) (numbers_at 4 cell cell_header known))
    → walk_into s (in_store s store) true (start_counts known) first ≡ first_walk_into s store cell table
unfolding walk_into first_walk_into cell_of
first_whole s store table cell {known} e t =
    let count = length-numbers_at 4 cell cell_header (cell_count cell) in
    let long = ap length t ∙ length-sets table 0 (take (length table - 0) (numbers_at 4 cell cell_header known)) in
    rw (long, t, e, sub-zero (length table))
    (rw count at (table-walk (in_store s store) (store_paged s store) (length table) table (omega arith) true (length table) 0 (in_cell (cell_of cell)) (omega arith)))

-- ---- the loop

module _ (s : ℕ) (source : Source) (to_bytes : Bool) (total : ℕ) where
  -- a page that stops the walk, one that ends it, and one after which it goes on
  table_stop : (left : ℕ) (f : WalkCounts) (table : List ℕ) {next : List ℕ} {n : ℕ} {vs : List ℕ} → effect (refused n vs) next ≡ visit_into s source total f.pages f.numbers table
      → walk_table s source to_bytes total (suc left) f table ≡ effect (refused n vs) next
  unfolding walk_table
  table_stop left f table e = rw (← e)

  table_end : (left : ℕ) (f : WalkCounts) (table : List ℕ) {b next : List ℕ} → effect (answer b) next ≡ visit_into s source total f.pages f.numbers table → to_bytes && leb 1 (bytes_within b) ≡ true
      → walk_table s source to_bytes total (suc left) f table ≡ effect (answer (counts_with f b)) next
  unfolding walk_table
  table_end left f table e h = rw (← e, h)

  table_step : (left : ℕ) (f : WalkCounts) (table : List ℕ) {b next : List ℕ} → effect (answer b) next ≡ visit_into s source total f.pages f.numbers table → to_bytes && leb 1 (bytes_within b) ≡ false
      → walk_table s source to_bytes total (suc left) f table ≡ walk_table s source to_bytes total left (counts_with f b) next
  unfolding walk_table
  table_step left f table e h = rw (← e, h)

-- where the loop stands before page i: what is left to do is the rest of the walk, and the counts are small
pub record Walking (s : ℕ) (source : Source) (to_bytes : Bool) (from : WalkCounts) (table₀ table : List ℕ) (f : WalkCounts) (i : ℕ) : Type 0 where
  pub long : length table ≡ length table₀
  pub place : f.pages ≡ i
  pub rest : walk_into s source to_bytes from table₀ ≡ walk_table s source to_bytes (length table₀) (length table₀ - i) f table
  pub small : SmallCounts f

-- at its start
pub walking_from : (s : ℕ) (source : Source) (to_bytes : Bool) (from : WalkCounts) (table : List ℕ) → SmallCounts from → Walking s source to_bytes from table table from from.pages
unfolding walk_into
walking_from s source to_bytes from table small = record { long = refl; place = refl; rest = refl; small = small }

module _ {s : ℕ} {source : Source} {to_bytes : Bool} {from : WalkCounts} {table₀ table : List ℕ} {f : WalkCounts} {i : ℕ}
    (w : Walking s source to_bytes from table₀ table f i) where
  -- no page is left
  pub walking_done : length table₀ ≤ i → effect (answer f) table ≡ walk_into s source to_bytes from table₀
  unfolding walk_table
  walking_done h =
      let none : length table₀ - i ≡ 0 = omega arith in
      sym (w.rest ∙ ap (λ (k : ℕ). walk_table s source to_bytes (length table₀) k f table) none)

  module _ (some : i < length table₀) where
    rest_suc : walk_into s source to_bytes from table₀ ≡ walk_table s source to_bytes (length table₀) (suc (length table₀ - (i + 1))) f table
    rest_suc =
        let one : length table₀ - i ≡ suc (length table₀ - (i + 1)) = omega arith in
        w.rest ∙ ap (λ (k : ℕ). walk_table s source to_bytes (length table₀) k f table) one

    -- the next page stops the walk
    pub walking_stopped : {next : List ℕ} {n : ℕ} {vs : List ℕ} → effect (refused n vs) next ≡ visit_into s source (length table) i f.numbers table
        → effect (refused n vs) next ≡ walk_into s source to_bytes from table₀
    walking_stopped e = sym (rest_suc ∙ table_stop s source to_bytes (length table₀) (length table₀ - (i + 1)) f table (rw (w.long, ← w.place) at e))

    module _ {b next : List ℕ} (e : effect (answer b) next ≡ visit_into s source (length table) i f.numbers table)
        {n m : ℕ} (numbers : n ≡ numbers_within b) (bytes : m ≡ bytes_within b) where
      -- the counts with it
      counted : counts_with f b ≡ record { pages = i + 1; size = f.size + m; numbers = f.numbers + n }
      counted = rw (numbers, bytes, w.place)

      -- the next page ends it
      pub walking_ended : to_bytes && leb 1 m ≡ true
          → effect (answer (record { pages = i + 1; size = f.size + m; numbers = f.numbers + n })) next ≡ walk_into s source to_bytes from table₀
      walking_ended h =
          rw (← counted) (sym (rest_suc ∙ table_end s source to_bytes (length table₀) (length table₀ - (i + 1)) f table (rw (w.long, ← w.place) at e) (rw bytes at h)))

      -- the next page is taken
      pub walking_next : length next ≡ length table → n ≤ 65535 → m ≤ 65535 → to_bytes && leb 1 m ≡ false
          → Walking s source to_bytes from table₀ next (record { pages = i + 1; size = f.size + m; numbers = f.numbers + n }) (i + 1)
      walking_next same few short h =
          record {
            long = same ∙ w.long;
            place = refl;
            rest = rw (← counted) (rest_suc ∙ table_step s source to_bytes (length table₀) (length table₀ - (i + 1)) f table (rw (w.long, ← w.place) at e) (rw bytes at h));
            small = record { size = omega (arith, w.small.size, w.place); numbers = omega (arith, w.small.numbers, w.place) };
          }
