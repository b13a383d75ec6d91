-- Reading and deleting, refusal by refusal, in the numbers of the code.
-- The first walk decides the total, and the second goes on to what a reading walk over so many pages comes to (`Came`). A walk that has ended and
-- found all has its numbers in the table and its bytes on their pages (`Visited`).
use Prim.Native.Nat.{ℕ, ◌+◌, ◌-◌, ◌^◌, ◌≤◌}
use mathlib.Core.Path.{◌≡◌, refl, sym, ◌∙◌, ap}
use mathlib.Core.Logic.{◌≢◌}
use mathlib.Core.Bool.{true, false}
use mathlib.Core.List.{List, [], ◌++◌}
use native.Mathlib.Nat.{mul-le-mul_right, mul-zero}
use native.Mathlib.Omega.{arith}
use borrow.Author.Tests.{eq-eqb, ne_eqb}
use lib.ListN.{length, take, drop, length-take}
use lib.Seq.{sets, length-sets, take_all, length-take-le, take-append_seam, drop-append_seam}
use Rattle.laws.proofs.SetsLaws.{sets_whole, part-sets}
use Rattle.refusal.specs.Outcome.{Outcome, answer, refused}
use Rattle.refusal.specs.Effect.{Effect, effect}
use Rattle.refusal.proofs.OutcomeLaws.{unanswer}
use Rattle.page.specs.PageSize.{IsPageSize}
use Rattle.page.proofs.BytesLaws.{length-numbers_at}
use Rattle.overflow.specs.Totals.{max_size, body, new_total, old_total}
use Rattle.overflow.specs.Cells.{cell_header, cell_count, cell_of}
use Rattle.overflow.specs.Reading.{in_store, Found, in_cell, Walked, ended, stopped, found_by, walk, first_walk, table_after, value_total, read_pages, read_value_into, delete_pages, delete_into}
use Rattle.overflow.specs.Steps.{admitted_needs, walk_table, walk_counts, SmallCounts, walk_into, first_walk_into, counted_total, value_bytes_of, Copyable}
use Rattle.overflow.specs.declared.admit.Needs.{Needs}
use Rattle.overflow.specs.declared.walk.WalkCounts.{WalkCounts}
use Rattle.overflow.proofs.NewTotalLaws.{new_within}
use Rattle.overflow.proofs.ParseLaws.{store_paged}
use Rattle.overflow.proofs.WalkLaws.{walk_visited}
use Rattle.overflow.proofs.FirstLaws.{first_stopped, first_came, by_total, pages_few as came_no_further, goes_on}
use Rattle.overflow.proofs.TableLaws.{table-walk}
use Rattle.overflow.proofs.AdmitLaws.{not_admitted, Admission, room_for_largest}

-- ---- before admission

module _ (s : ℕ) (cell store : List ℕ) where
  pub read_refused : (numbers value : List ℕ) {n : ℕ} {vs : List ℕ} → refused n vs ≡ admitted_needs s (length numbers) (length value) cell
      → effect (refused n vs) (record { numbers = numbers; value = value }) ≡ read_value_into s cell store (record { numbers = numbers; value = value })
  unfolding read_value_into
  read_refused numbers value e = rw (not_admitted s cell (length numbers) (length value) e)

  pub delete_refused : (table : List ℕ) {n : ℕ} {vs : List ℕ} → refused n vs ≡ admitted_needs s (length table) (max_size s) cell
      → effect (refused n vs) table ≡ delete_into s cell store table
  unfolding delete_into
  delete_refused table e = rw (← room_for_largest s cell (length table), not_admitted s cell (length table) (max_size s) e)

-- ---- what a walk leaves, of which the counts and the table are known

module _ (w : Walked) where
  -- a walk that has ended
  pub record EndedWith (f : WalkCounts) : Type 0 where
    pub found : Found
    pub ended_is : w ≡ ended f.pages found
    pub numbers_are : length found.numbers ≡ f.numbers
    pub bytes_are : length found.bytes ≡ f.size

  ended_with : {f : WalkCounts} → answer f ≡ walk_counts w → EndedWith f
  ended_with {f} e = by_end w refl e
    where
      by_end : (v : Walked) → w ≡ v → answer f ≡ walk_counts v → EndedWith f
      by_end (ended i g) same e =
          let counts = unanswer e in
          record {
            found = g;
            ended_is = same ∙ ap (λ (k : ℕ). ended k g) (sym (ap (λ (c : WalkCounts). c.pages) counts));
            numbers_are = sym (ap (λ (c : WalkCounts). c.numbers) counts);
            bytes_are = sym (ap (λ (c : WalkCounts). c.size) counts);
          }
      by_end (stopped g n vs) same e = let z : ◌≡◌ {A = ℕ} 0 1 = cc in absurd (omega arith)

  -- a walk that has stopped
  pub record StoppedWith (n : ℕ) (vs : List ℕ) : Type 0 where
    pub found : Found
    pub stopped_is : w ≡ stopped found n vs

  stopped_with : {n : ℕ} {vs : List ℕ} → refused n vs ≡ walk_counts w → StoppedWith n vs
  stopped_with {n} {vs} e = by_end w refl e
    where
      by_end : (v : Walked) → w ≡ v → refused n vs ≡ walk_counts v → StoppedWith n vs
      by_end (ended i f) same e = let z : ◌≡◌ {A = ℕ} 0 1 = cc in absurd (omega arith)
      by_end (stopped g m ws) same e = record { found = g; stopped_is = same ∙ sym cc }

-- the first places of a list to whose start some values were written, no more than these places are, and the places behind them
front : (l xs : List ℕ) (n : ℕ) → length xs ≤ n → n ≤ length l → (take n (sets l 0 xs) ≡ sets (take n l) 0 xs) × (drop n (sets l 0 xs) ≡ drop n l)
front l xs n few long =
    let p = sets (take n l) 0 xs in
    let size : length p ≡ n = length-sets (take n l) 0 xs ∙ length-take-le n l long in
    let is : sets l 0 xs ≡ p ++ drop n l = sym (part-sets l 0 n xs (omega arith) few) in
    (ap (take n) is ∙ ap (λ (k : ℕ). take k (p ++ drop n l)) (sym size) ∙ take-append_seam p (drop n l), ap (drop n) is ∙ ap (λ (k : ℕ). drop k (p ++ drop n l)) (sym size) ∙ drop-append_seam p (drop n l))

-- ---- after admission

-- the walks fill the first places of the number table, which are lent to them and put back before the others
module _ (s : ℕ) (cell store numbers : List ℕ) {bytes : ℕ} {needs : Needs} (a : Admission s cell (length numbers) bytes needs) where
  -- the first walk, and what is lent to it
  abbrev first : Walked
  first = first_walk s (in_store s store) (cell_of cell)

  abbrev part : List ℕ
  part = take needs.totals.old numbers

  abbrev whole : List ℕ → List ℕ
  whole left = left ++ drop needs.totals.old numbers

  -- a reading walk over so many pages
  abbrev reads : ℕ → Walked
  reads total = walk s (in_store s store) false total 0 (in_cell (cell_of cell))

  size_is : (cell_of cell).size ≡ needs.size
  size_is = ap (λ (n : Needs). n.size) a.needs_are

  total_is : old_total s (cell_of cell).size ≡ needs.totals.old
  total_is = ap (λ (n : Needs). n.totals.old) a.needs_are

  new_is : new_total s (cell_of cell).size ≡ needs.totals.new
  new_is = ap (λ (n : Needs). n.totals.new) a.needs_are

  pub part_long : length part ≡ needs.totals.old
  part_long = length-take-le needs.totals.old numbers a.numbers_room

  -- the first walk by its contract
  module _ {o : Outcome WalkCounts} {left : List ℕ} (e : effect o left ≡ first_walk_into s store cell part) where
    first_is : effect o left ≡ effect (walk_counts first) (table_after needs.totals.old part first)
    unfolding first_walk_into
    first_is =
        let same : walk s (in_store s store) true needs.totals.old 0 (in_cell (cell_of cell)) ≡ first = ap (λ (n : ℕ). walk s (in_store s store) true n 0 (in_cell (cell_of cell))) (sym total_is) in
        e ∙ rw part_long (ap (λ (w : Walked). effect (walk_counts w) (table_after needs.totals.old part w)) same)

    counts_are : o ≡ walk_counts first
    counts_are = ap (λ (x : Effect WalkCounts (List ℕ)). x.outcome) first_is

    whole_is : whole left ≡ table_after needs.totals.old numbers first
    whole_is =
        let xs = take needs.totals.old (found_by first).numbers in
        ap (λ (x : Effect WalkCounts (List ℕ)). whole x.lent) first_is
        ∙ part-sets numbers 0 needs.totals.old xs (omega (arith, a.numbers_room)) (omega (arith, length-take needs.totals.old (found_by first).numbers))

  -- what the definitions say of it
  module _ (value : List ℕ) (all : bytes ≡ length value) where
    reading : read_pages s store (record { numbers = numbers; value = value }) (cell_of cell) (value_total s (cell_of cell).size first)
        ≡ read_value_into s cell store (record { numbers = numbers; value = value })
    unfolding read_value_into
    reading = rw (← all, a.is)

    -- it stopped
    pub read_first_stopped : {left : List ℕ} {n : ℕ} {vs : List ℕ} → effect (refused n vs) left ≡ first_walk_into s store cell part
        → effect (refused n vs) (record { numbers = whole left; value = value }) ≡ read_value_into s cell store (record { numbers = numbers; value = value })
    read_first_stopped e =
        let w = stopped_with first (counts_are e) in
        let r = first_stopped s (in_store s store) (cell_of cell) w.stopped_is in
        rw (whole_is e, w.stopped_is) (rw (r.1, r.0 ∙ total_is) at reading)

  module _ (any : bytes ≡ max_size s) where
    deleting : delete_pages numbers first (value_total s (cell_of cell).size first) ≡ delete_into s cell store numbers
    unfolding delete_into
    deleting = rw (← room_for_largest s cell (length numbers), ← any, a.is)

    pub delete_stopped : {left : List ℕ} {n : ℕ} {vs : List ℕ} → effect (refused n vs) left ≡ first_walk_into s store cell part
        → effect (refused n vs) (whole left) ≡ delete_into s cell store numbers
    delete_stopped e =
        let w = stopped_with first (counts_are e) in
        let r = first_stopped s (in_store s store) (cell_of cell) w.stopped_is in
        rw (whole_is e, w.stopped_is) (rw (r.0 ∙ total_is, w.stopped_is) at deleting)

  -- ---- the first walk has ended

  module _ (page : IsPageSize s) {k : WalkCounts} {left : List ℕ} (e : effect (answer k) left ≡ first_walk_into s store cell part)
      {total : ℕ} (t : total ≡ counted_total needs k) where
    w : EndedWith first k
    w = ended_with first (counts_are e)

    -- the total is the value's
    decided : value_total s (cell_of cell).size first ≡ total
    unfolding value_total counted_total
    decided = rw (t, w.ended_is, w.numbers_are, w.bytes_are, new_is, total_is)

    new_few : new_total s (cell_of cell).size ≤ needs.totals.old
    new_few = omega (arith, new_within page needs.size a.some, ap (new_total s) size_is, a.totals.old)

    pub total_few : total ≤ needs.totals.old
    total_few = rw decided at (by_total s (in_store s store) (cell_of cell) w.ended_is (λ n. n ≤ needs.totals.old) (omega (arith, total_is)) (λ _. new_few))

    -- there is room for so many
    pub total_room : total ≤ length (whole left)
    total_room =
        let long = ap length (whole_is e) ∙ length-sets numbers 0 (take needs.totals.old (found_by first).numbers) in
        omega (arith, long, total_few, a.numbers_room)

    -- and the walk has come no further
    pages_few : k.pages ≤ total
    pages_few = rw decided at (came_no_further s (in_store s store) (cell_of cell) w.ended_is)

    -- its table, by that total
    table_is : whole left ≡ sets numbers 0 (take total w.found.numbers)
    table_is =
        whole_is e
        ∙ rw w.ended_is
        (rw decided at
        (by_total s (in_store s store) (cell_of cell) w.ended_is (λ n. sets numbers 0 (take needs.totals.old w.found.numbers) ≡ sets numbers 0 (take n w.found.numbers)) (rw total_is)
        (λ h. ap (sets numbers 0) (take_all needs.totals.old w.found.numbers (omega (arith, h, new_few)) ∙ sym (take_all (new_total s (cell_of cell).size) w.found.numbers (omega (arith, h)))))))

    -- so far from their limits are its counts, for a cell that is a slice
    pub small : length cell ≤ 2 ^ 63 → SmallCounts k
    unfolding cell_of cell_count
    small h =
        let came_to = first_came s (in_store s store) (cell_of cell) w.ended_is in
        let most : body s ≤ 65536 = omega (arith, page.limit) in
        let none = mul-zero (body s) in
        record {
          size = omega (arith, came_to.bytes_few, w.bytes_are, mul-le-mul_right k.pages most, none);
          numbers = omega (arith, h, came_to.numbers_few, w.numbers_are, mul-le-mul_right k.pages most, none, length-numbers_at 4 cell cell_header (cell_count cell));
        }

    -- ---- deleting

    module _ (any : bytes ≡ max_size s) where
      pub delete_numbers : k.numbers ≢ total → effect (refused 17 []) (whole left) ≡ delete_into s cell store numbers
      delete_numbers ne =
          let differ : length w.found.numbers ≢ total = omega (arith, w.numbers_are) in
          rw table_is (rw (decided, w.ended_is, ne_eqb (length w.found.numbers) total differ) at (deleting any))

      pub delete_all : k.numbers ≡ total → effect (answer total) (whole left) ≡ delete_into s cell store numbers
      delete_all same =
          let all : length w.found.numbers ≡ total = w.numbers_are ∙ same in
          rw table_is (rw (decided, w.ended_is, eq-eqb (length w.found.numbers) total all, all) at (deleting any))

    -- ---- the second walk

    abbrev part_2 : List ℕ
    part_2 = take total (whole left)

    abbrev whole_2 : List ℕ → List ℕ
    whole_2 rest = rest ++ drop total (whole left)

    pub part_2_long : length part_2 ≡ total
    part_2_long = length-take-le total (whole left) total_room

    module _ {o : Outcome WalkCounts} {rest : List ℕ} (f : effect o rest ≡ walk_into s (in_store s store) false k part_2) where
      xs_few : length (take total w.found.numbers) ≤ total
      xs_few = omega (arith, length-take total w.found.numbers)

      halves : (take total (sets numbers 0 (take total w.found.numbers)) ≡ sets (take total numbers) 0 (take total w.found.numbers))
          × (drop total (sets numbers 0 (take total w.found.numbers)) ≡ drop total numbers)
      halves = front numbers (take total w.found.numbers) total xs_few (omega (arith, total_few, a.numbers_room))

      part_2_is : part_2 ≡ sets (take total numbers) 0 (take total w.found.numbers)
      part_2_is = ap (take total) table_is ∙ halves.0

      behind : drop total (whole left) ≡ drop total numbers
      behind = ap (drop total) table_is ∙ halves.1

      -- goes on to what a reading walk from the cell comes to
      second_is : effect o rest ≡ effect (walk_counts (reads total)) (table_after total (take total numbers) (reads total))
      unfolding walk_into
      second_is =
          let counts : k ≡ record { pages = k.pages; size = length w.found.bytes; numbers = length w.found.numbers } = rw (w.bytes_are, w.numbers_are) in
          let upto : k.pages + (total - k.pages) ≤ total = omega (arith, pages_few) in
          let long : total ≤ length (take total numbers) = omega (arith, length-take-le total numbers (omega (arith, total_few, a.numbers_room))) in
          let on : walk s (in_store s store) false (total - k.pages) k.pages w.found ≡ reads total = rw decided at (sym (goes_on s (in_store s store) (cell_of cell) w.ended_is)) in
          f ∙ rw (part_2_long, part_2_is)
          (ap (λ (c : WalkCounts). walk_table s (in_store s store) false total (total - k.pages) c (sets (take total numbers) 0 (take total w.found.numbers))) counts
          ∙ table-walk (in_store s store) (store_paged s store) total (take total numbers) long false (total - k.pages) k.pages w.found upto
          ∙ ap (λ (v : Walked). effect (walk_counts v) (table_after total (take total numbers) v)) on)

      counts_2 : o ≡ walk_counts (reads total)
      counts_2 = ap (λ (x : Effect WalkCounts (List ℕ)). x.outcome) second_is

      rest_is : rest ≡ table_after total (take total numbers) (reads total)
      rest_is = ap (λ (x : Effect WalkCounts (List ℕ)). x.lent) second_is

      whole_2_is : whole_2 rest ≡ table_after total numbers (reads total)
      whole_2_is =
          let ys = take total (found_by (reads total)).numbers in
          ap (λ (r : List ℕ). r ++ drop total (whole left)) rest_is
          ∙ ap (λ (d : List ℕ). sets (take total numbers) 0 ys ++ d) behind
          ∙ part-sets numbers 0 total ys (omega (arith, total_few, a.numbers_room)) (omega (arith, length-take total (found_by (reads total)).numbers))

    -- ---- reading

    module _ (value : List ℕ) (all : bytes ≡ length value) where
      reading_is : read_pages s store (record { numbers = numbers; value = value }) (cell_of cell) total ≡ read_value_into s cell store (record { numbers = numbers; value = value })
      reading_is = rw decided at (reading value all)

      pub read_stopped : {rest : List ℕ} {n : ℕ} {vs : List ℕ} → effect (refused n vs) rest ≡ walk_into s (in_store s store) false k part_2
          → effect (refused n vs) (record { numbers = whole_2 rest; value = value }) ≡ read_value_into s cell store (record { numbers = numbers; value = value })
      read_stopped f = let v = stopped_with (reads total) (counts_2 f) in rw (whole_2_is f, v.stopped_is) (rw v.stopped_is at reading_is)

      module _ {c : WalkCounts} {rest : List ℕ} (f : effect (answer c) rest ≡ walk_into s (in_store s store) false k part_2) where
        v : EndedWith (reads total) c
        v = ended_with (reads total) (counts_2 f)

        -- the numbers are not as many as they should be
        pub read_numbers : c.numbers ≢ total
            → effect (refused 17 []) (record { numbers = whole_2 rest; value = value }) ≡ read_value_into s cell store (record { numbers = numbers; value = value })
        read_numbers ne =
            let differ : length v.found.numbers ≢ total = omega (arith, v.numbers_are) in
            rw (whole_2_is f, v.ended_is) (rw (v.ended_is, ne_eqb (length v.found.numbers) total differ) at reading_is)

        module _ (many : c.numbers ≡ total) where
          all_found : length v.found.numbers ≡ total
          all_found = v.numbers_are ∙ many

          -- nor the bytes
          pub read_bytes : c.size ≢ needs.size
              → effect (refused 18 []) (record { numbers = whole_2 rest; value = value }) ≡ read_value_into s cell store (record { numbers = numbers; value = value })
          read_bytes ne =
              let differ : length v.found.bytes ≢ (cell_of cell).size = omega (arith, v.bytes_are, size_is) in
              rw (whole_2_is f, v.ended_is) (rw (v.ended_is, eq-eqb (length v.found.numbers) total all_found, ne_eqb (length v.found.bytes) (cell_of cell).size differ) at reading_is)

          -- the table has all numbers
          rest_all : rest ≡ v.found.numbers
          rest_all =
              rest_is f
              ∙ ap (λ (u : Walked). table_after total (take total numbers) u) v.ended_is
              ∙ ap (sets (take total numbers) 0) (take_all total v.found.numbers (omega (arith, all_found)))
              ∙ sets_whole (take total numbers) v.found.numbers (all_found ∙ sym (length-take-le total numbers (omega (arith, total_few, a.numbers_room))))

          module _ (same : c.size ≡ needs.size) where
            bytes_found : v.found.bytes ≡ value_bytes_of s store rest
            bytes_found =
                let u = walk_visited s store total 0 (in_cell (cell_of cell)) c.pages v.found v.ended_is in
                u.bytes ∙ ap (value_bytes_of s store) (take_all total v.found.numbers (omega (arith, all_found)) ∙ sym rest_all)

            -- so its bytes can be copied
            pub copyable : Copyable s store rest value
            copyable =
                let u = walk_visited s store total 0 (in_cell (cell_of cell)) c.pages v.found v.ended_is in
                record {
                  inside = λ k h. rw rest_all (u.inside k (omega (arith, ap length rest_all, all_found)));
                  room = omega (arith, ap length bytes_found, v.bytes_are, a.bytes_room);
                }

            pub read_all : {written : List ℕ} → written ≡ sets value 0 (value_bytes_of s store rest)
                → effect (answer (record { size = needs.size; numbers = total })) (record { numbers = whole_2 rest; value = written })
                ≡ read_value_into s cell store (record { numbers = numbers; value = value })
            read_all copied =
                let found_size : length v.found.bytes ≡ (cell_of cell).size = v.bytes_are ∙ same ∙ sym size_is in
                let stored : sets value 0 v.found.bytes ≡ sets value 0 (value_bytes_of s store rest) = ap (sets value 0) bytes_found in
                let answered : length v.found.bytes ≡ needs.size = v.bytes_are ∙ same in
                rw (copied, ← stored, whole_2_is f, v.ended_is)
                (rw (v.ended_is, eq-eqb (length v.found.numbers) total all_found, eq-eqb (length v.found.bytes) (cell_of cell).size found_size, all_found, answered) at reading_is)
