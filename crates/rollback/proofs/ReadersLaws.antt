-- What a reader gets, taken apart: the list that was read, and the walk over a value's pages.
-- A list or value that is read into tables of just its own lengths fills them, so what stands there afterwards is what was found.
use Prim.Native.Nat.{ℕ, ◌<◌, ◌≤◌}
use mathlib.Core.Path.{◌≡◌, refl, sym, ◌∙◌, ap}
use mathlib.Core.Bool.{Bool, true, false}
use mathlib.Core.List.{List, [], ◌++◌, Memᴰ}
use native.Mathlib.Omega.{arith}
use borrow.Author.Tests.{le-leb, eqb-true}
use lib.Dec.{leb, eqb}
use lib.ListN.{length, take, replicate, length-append, length-replicate}
use lib.Seq.{sets, take_all}
use Rattle.laws.proofs.SetsLaws.{take-sets}
use Rattle.bit_map.specs.BitMap.{bytes_in_use, has_bits, cleared}
use Rattle.refusal.specs.Outcome.{Outcome, answer, refused, check, with_answer}
use Rattle.refusal.specs.Effect.{Effect, effect, leaves, go_on}
use Rattle.refusal.proofs.OutcomeLaws.{not_refused, unanswer, check_answer, with_answer_answer}
use Rattle.page.specs.Pages.{page_count, page_at}
use Rattle.free_list.specs.Shape.{FreeList}
use Rattle.free_list.specs.Reading.{differing, list_from, read_list, ListSize, size_of, ListLent, list_lent_in, has_room, read_list_into}
use Rattle.free_list.proofs.RepeatsLaws.{read_chained, read_differs}
use Rattle.overflow.specs.Totals.{old_total}
use Rattle.overflow.specs.Cells.{Cell, cell_of, decode_cell}
use Rattle.overflow.specs.Reading.{in_store, Found, in_cell, Walked, ended, stopped, walk, table_after, first_walk, value_total, admitted, whole_value, ValueCounts, value_counts_of, ReadLent, value_stored, read_pages, read_cell, read_value_into}
use Rattle.overflow.proofs.CellsLaws.{decoded}
use Rattle.overflow.proofs.LocalLaws.{walk_local}
use Rattle.overflow.proofs.FirstLaws.{first_local}
use Rattle.rollback.specs.Rollback.{GetsList, Value, GetsValue}

-- ---- effects

-- an effect that answers has an answer behind it
pub record Behind {A B C : Type 0} (told : A → C) (written : A → B) (c : C) (m : B) (o : Outcome A) : Type 0 where
  pub result : A
  pub answered : o ≡ answer result
  pub told_is : told result ≡ c
  pub written_is : written result ≡ m

pub behind : {A B C : Type 0} (told : A → C) (written : A → B) (lent : B) (o : Outcome A) {c : C} {m : B}
    → leaves told written lent o ≡ effect (answer c) m → Behind told written c m o
behind {A} {B} {C} told written lent (answer a) e =
    record { result = a; answered = refl; told_is = unanswer (ap (λ (x : Effect C B). x.outcome) e); written_is = ap (λ (x : Effect C B). x.lent) e }
behind told written lent (refused n vs) e = absurd (not_refused e)

-- a list of the same length that stands at the start of what has room for it, where this one would, is this one
stands : (l xs ys : List ℕ) → length xs ≡ length ys → length ys ≤ length l → sets l 0 xs ≡ sets l 0 ys → xs ≡ ys
stands l xs ys a h e = sym (take-sets l xs (omega (arith, a))) ∙ ap (take (length xs)) e ∙ ap (λ (n : ℕ). take n (sets l 0 ys)) a ∙ take-sets l ys h

-- ---- lists

module _ (s : ℕ) (store : List ℕ) (head : ℕ) (l : FreeList) where
  abbrev count : ℕ
  count = page_count s store

  -- tables of just its own lengths, and a map of just the bytes that are used
  abbrev own : ListLent
  own = record { tables = record { pages = l.pages; entries = l.entries }; map = replicate (bytes_in_use count) 0 }

  own_room : has_room own.tables l ≡ true
  own_room = rw (le-leb (length l.pages) (length l.pages) (omega arith), le-leb (length l.entries) (length l.entries) (omega arith)) refl

  own_bits : has_bits count (length own.map) ≡ true
  own_bits = le-leb (bytes_in_use count) (length own.map) (omega (arith, length-replicate {A = ℕ} (bytes_in_use count) 0))

  -- what reading makes of the chain's outcome
  abbrev judged : FreeList → Outcome FreeList
  judged m = with_answer (λ k. check (has_room own.tables k) 6 [] (answer k)) (differing m)

  abbrev by_chain : Outcome FreeList → Effect ListSize ListLent
  by_chain o =
      go_on own (λ m. leaves size_of (list_lent_in count own) (record { tables = own.tables; map = cleared count own.map }) (judged m))
      (with_answer (λ m. check (has_bits count (length own.map)) 21 [] (answer m)) o)

  -- a list that a reader gets is the one that is read
  pub list_read : GetsList s store head l → read_list s store head ≡ answer l
  unfolding read_list_into
  list_read gets = go (list_from s store false head) (gets own own_room own_bits)
    where
      is : (o : Outcome FreeList) → (b : Behind size_of (list_lent_in count own) (size_of l) (list_lent_in count own l) o) → b.result ≡ l
      is o b =
          let m = b.result in
          let p = stands l.pages m.pages l.pages (ap (λ (x : ListSize). x.P) b.told_is) (omega arith) (ap (λ (x : ListLent). x.tables.pages) b.written_is) in
          let q = stands l.entries m.entries l.entries (ap (λ (x : ListSize). x.L) b.told_is) (omega arith) (ap (λ (x : ListLent). x.tables.entries) b.written_is) in
          λ i. record { pages = p i; entries = q i }

      go : (o : Outcome FreeList) → by_chain o ≡ effect (answer (size_of l)) (list_lent_in count own l) → with_answer differing o ≡ answer l
      go (answer m) e =
          let b = behind size_of (list_lent_in count own) _ (judged m) (rw own_bits at e) in
          let w = with_answer_answer (λ k. check (has_room own.tables k) 6 [] (answer k)) (differing m) b.answered in
          let same : w.0 ≡ b.result = unanswer (check_answer (has_room own.tables w.0) 6 [] (answer w.0) w.2).1 in
          w.1 ∙ ap answer (same ∙ is (judged m) b)
      go (refused n vs) e = absurd (not_refused e)

  pub gets_list : read_list s store head ≡ answer l → GetsList s store head l
  unfolding read_list_into
  gets_list e t room bits = rw (read_chained s store head e, bits, read_differs s store head e, room)

-- ---- values

-- a whole value was found by a walk that has ended, and that found as many numbers as there should be
whole_ended : (total size : ℕ) (w : Walked) (f : Found) → whole_value total size w ≡ answer f → (j : ℕ) × (w ≡ ended j f) × (length f.numbers ≡ total)
whole_ended total size (ended j g) f e =
    let a = check_answer (eqb (length g.numbers) total) 17 [] _ e in
    let b = check_answer (eqb (length g.bytes) size) 18 [] (answer g) a.1 in
    let same : g ≡ f = unanswer b.1 in
    (j, ap (ended j) same, rw (← same) (eqb-true (length g.numbers) total a.0))
whole_ended total size (stopped g n vs) f e =
    let z : ◌≡◌ {A = ℕ} 0 1 = cc in
    absurd (omega arith)

module _ (s : ℕ) (x : Value) where
  abbrev pub cell : Cell
  cell = cell_of x.cell

  -- the total of its cell's value, and the walk over so many pages
  abbrev pub total_in : List ℕ → ℕ
  total_in store = value_total s cell.size (first_walk s (in_store s store) cell)

  abbrev pub walk_of : ℕ → List ℕ → Walked
  walk_of total store = walk s (in_store s store) false total 0 (in_cell cell)

  -- the cell that is admitted is the one that the bytes are
  admitted_cell : (room : Cell → Bool) (c : Cell) → admitted s room x.cell ≡ answer c → c ≡ cell
  unfolding admitted
  admitted_cell room c e =
      let w = with_answer_answer (λ d. check (leb 1 d.size) 10 [] (check (room d) 13 [] (answer d))) (decode_cell s x.cell) e in
      let t = check_answer (leb 1 w.0.size) 10 [] _ w.2 in
      let u = check_answer (room w.0) 13 [] (answer w.0) t.1 in
      sym (unanswer u.1) ∙ (decoded s x.cell w.1).1

  -- where reading answers in one store, it is by the walk in every store
  answers_by_walk : (store : List ℕ) (lent : ReadLent) (room : Cell → Bool) (o : Outcome Cell) → admitted s room x.cell ≡ o → {a : ValueCounts} {m : ReadLent}
      → read_cell s store lent o ≡ effect (answer a) m → (more : List ℕ) → read_cell s more lent o ≡ read_pages s more lent cell (total_in more)
  answers_by_walk store lent room (answer c) e g more = ap (λ (d : Cell). read_cell s more lent (answer d)) (admitted_cell room c e)
  answers_by_walk store lent room (refused n vs) e g more = absurd (not_refused g)

  module _ (store : List ℕ) (gets : GetsValue s store x) where
    abbrev total : ℕ
    total = total_in store

    read_by_walk : (lent : ReadLent) → old_total s (length x.bytes) ≤ length lent.numbers → length x.bytes ≤ length lent.value
        → (more : List ℕ) → read_value_into s x.cell more lent ≡ read_pages s more lent cell (total_in more)
    unfolding read_value_into
    read_by_walk lent h k = answers_by_walk store lent _ _ refl (gets.value lent h k)

    -- a table that has place for the old total, and starts with the numbers
    abbrev table : List ℕ
    table = x.numbers ++ replicate (old_total s (length x.bytes)) 0

    -- a value that a reader gets is what the walk over its pages finds
    pub value-walked : (j : ℕ) × (walk_of total store ≡ ended j (record { numbers = x.numbers; bytes = x.bytes }))
    value-walked =
        let lent : ReadLent = record { numbers = table; value = x.bytes } in
        let room : old_total s (length x.bytes) ≤ length table = omega (arith, length-append x.numbers (replicate (old_total s (length x.bytes)) 0), length-replicate {A = ℕ} (old_total s (length x.bytes)) 0) in
        let after = table_after total table (walk_of total store) in
        let left = sym (read_by_walk lent room (omega arith) store) ∙ gets.value lent room (omega arith) in
        let b = behind value_counts_of (λ (f : Found). record { numbers = after; value = sets x.bytes 0 f.bytes }) (record { numbers = after; value = x.bytes })
        (whole_value total cell.size (walk_of total store)) left in
        let f = b.result in
        let w = whole_ended total cell.size (walk_of total store) f b.answered in
        let numbers : sets table 0 (take total f.numbers) ≡ sets table 0 x.numbers = ap (table_after total table) (sym w.1) ∙ ap (λ (r : ReadLent). r.numbers) b.written_is in
        let all : take total f.numbers ≡ f.numbers = take_all total f.numbers (omega (arith, w.2)) in
        let p = stands table f.numbers x.numbers (ap (λ (k : ValueCounts). k.numbers) b.told_is) (omega (arith, room, length-append x.numbers (replicate (old_total s (length x.bytes)) 0)))
        (ap (sets table 0) (sym all) ∙ numbers) in
        let q = stands x.bytes f.bytes x.bytes (ap (λ (k : ValueCounts). k.size) b.told_is) (omega arith) (ap (λ (r : ReadLent). r.value) b.written_is) in
        (w.0, w.1 ∙ ap (ended w.0) (λ i. record { numbers = p i; bytes = q i }))

    -- a store that is no shorter and has its pages as they were gives the same
    pub gets-value : (more : List ℕ) → page_count s store ≤ page_count s more → ((n : ℕ) → Memᴰ n x.numbers → n < page_count s store → page_at s more n ≡ page_at s store n) → GetsValue s more x
    gets-value more longer same =
        let walked = value-walked.1 in
        let t : total_in more ≡ total = ap (value_total s cell.size) (first_local s store more longer cell walked same) in
        let w : walk_of total more ≡ walk_of total store = walk_local s store more longer false total 0 (in_cell cell) walked same ∙ sym walked in
        record {
          cell = gets.cell;
          value = λ lent h k. read_by_walk lent h k more
              ∙ ap (λ (n : ℕ). read_pages s more lent cell n) t
              ∙ ap (λ (v : Walked). value_stored (table_after total lent.numbers v) lent.value (whole_value total cell.size v)) w
              ∙ sym (read_by_walk lent h k store)
              ∙ gets.value lent h k;
        }
