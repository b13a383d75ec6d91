-- Reading into tables with a map, from the size that the walk found and what the map showed.
use Prim.Native.Nat.{ℕ, ◌<◌, ◌≤◌}
use native.Mathlib.Omega.{arith}
use mathlib.Core.Path.{◌≡◌, refl, ap, sym, ◌∙◌, subst}
use mathlib.Core.Logic.{⊎_elim}
use mathlib.Core.Bool.{Bool, true, false, ◌&&◌}
use mathlib.Core.List.Memᴰ
use mathlib.Core.List.{List, [], Memᴰ}
use lib.Dec.{leb}
use lib.ListN.{length}
use borrow.Author.Tests.{le-leb, lt-leb}
use Rattle.laws.specs.Counting.{all_different, all_below}
use Rattle.laws.proofs.CountLaws.{each_below, count-mem}
use Rattle.bit_map.specs.BitMap.{has_bits, cleared}
use Rattle.refusal.specs.Outcome.{answer, refused}
use Rattle.refusal.specs.Refusals.{refusal}
use Rattle.refusal.specs.declared.Refusal.{Refusal}
use Rattle.refusal.specs.Effect.{effect}
use Rattle.refusal.proofs.OutcomeLaws.{with_answer_answer, with_answer_refused}
use Rattle.page.specs.Pages.{page_count}
use Rattle.free_list.specs.Shape.{FreeList}
use Rattle.free_list.specs.StoredList.{Inside}
use Rattle.free_list.specs.Reading.{numbers_of, list_from, ListSize, size_of, ListLent, list_lent_in, read_list_into}
use Rattle.free_list.specs.Steps.{read_size, chain_from, Readable}
use Rattle.free_list.proofs.ReadingLaws.{read_chain}
use Rattle.free_list.proofs.ShapeLaws.{read_inside}

-- numbers of pages of the store lie below its page count
inside_below : (count : ℕ) (l : FreeList) → ((n : ℕ) → Memᴰ n l.pages → Inside count n) × ((n : ℕ) → Memᴰ n l.entries → Inside count n) → all_below count (numbers_of l) ≡ true
inside_below count l f =
    each_below count (numbers_of l) (λ x h. ⊎_elim (λ m. (f.0 x m).1) (λ m. (f.1 x m).1) (Memᴰ.append_cases l.pages (count-mem x (numbers_of l) h)))

-- the list that has this size
pub record Listed (s : ℕ) (store : List ℕ) (loose : Bool) (head P L : ℕ) : Type 0 where
  pub list : FreeList
  pub reads : list_from s store loose head ≡ answer list
  pub pages : length list.pages ≡ P
  pub entries : length list.entries ≡ L
  pub chain : list ≡ chain_from s store P head
  pub total : length (chain_from s store P head).entries ≡ L
  pub readable : Readable s store P head
  pub below : all_below (page_count s store) (numbers_of list) ≡ true

module _ (s : ℕ) (store : List ℕ) (loose : Bool) (head : ℕ) where
  pub listed : {P L : ℕ} → answer (record { P = P; L = L }) ≡ read_size s store loose head → Listed s store loose head P L
  unfolding read_size list_from
  listed {P} {L} e =
      let w = with_answer_answer (λ l. answer (size_of l)) (list_from s store loose head) (sym e) in
      let pages : length w.0.pages ≡ P = (unsize w.2).0 in
      let entries : length w.0.entries ≡ L = (unsize w.2).1 in
      let c = read_chain s store loose (page_count s store) 0 0 head w.0 w.1 in
      record {
        list = w.0;
        reads = w.1;
        pages = pages;
        entries = entries;
        chain = c.chain ∙ ap (λ (k : ℕ). chain_from s store k head) pages;
        total = sym (ap (λ (m : FreeList). length m.entries) (c.chain ∙ ap (λ (k : ℕ). chain_from s store k head) pages)) ∙ entries;
        readable = subst (λ (k : ℕ). Readable s store k head) pages c.readable;
        below = inside_below (page_count s store) w.0 (read_inside s store loose (page_count s store) 0 0 head w.0 w.1);
      }
    where
      unsize : {x y : ListSize} → answer x ≡ answer y → (x.P ≡ y.P) × (x.L ≡ y.L)
      unsize {x} {y} e = let f : x ≡ y = cc in (ap (λ (z : ListSize). z.P) f, ap (λ (z : ListSize). z.L) f)

  module _ (t : ListLent) where
    abbrev count : ℕ
    count = page_count s store

    -- a refusal of the walk is that of the call
    pub into-refused : {number : ℕ} {values : List ℕ} → refused number values ≡ read_size s store loose head → effect (refused number values) t ≡ read_list_into s store loose head t
    unfolding read_size read_list_into
    into-refused e = rw (with_answer_refused (λ l. size_of l) (list_from s store loose head) (sym e)) refl

    pub into-refusal : (r : Refusal) → refusal r ≡ read_size s store loose head → effect (refusal r) t ≡ read_list_into s store loose head t
    into-refusal r e = into-refused e

    module _ {P L : ℕ} (l : Listed s store loose head P L) where
      -- a map that is too short
      pub into-short-map : has_bits count (length t.map) ≡ false → effect (refused 21 []) t ≡ read_list_into s store loose head t
      unfolding read_list_into
      into-short-map b = rw (l.reads, b) refl

      module _ (bits : has_bits count (length t.map) ≡ true) {differ : Bool}
          (judged : differ ≡ all_below count (numbers_of (chain_from s store P head)) && all_different (numbers_of (chain_from s store P head))) where
        -- the tables as they were, and the map's bytes in use zero
        abbrev unmarked : ListLent
        unmarked = record { tables = t.tables; map = cleared count t.map }

        tested : all_different (numbers_of l.list) ≡ differ
        tested = sym (judged ∙ rw (← l.chain, l.below))

        -- a number stands twice
        pub into-repeat : differ ≡ false → effect (refused 22 []) unmarked ≡ read_list_into s store loose head t
        unfolding read_list_into
        into-repeat e = rw (l.reads, bits, tested ∙ e) refl

        module _ (differs : differ ≡ true) where
          fits_pages : P ≤ length t.tables.pages → leb (length l.list.pages) (length t.tables.pages) ≡ true
          fits_pages k = le-leb (length l.list.pages) (length t.tables.pages) (omega (arith, l.pages))

          -- a table that is shorter than the list
          pub into-short-pages : length t.tables.pages < P → effect (refused 6 []) unmarked ≡ read_list_into s store loose head t
          unfolding read_list_into
          into-short-pages h = rw (l.reads, bits, tested ∙ differs, lt-leb (length l.list.pages) (length t.tables.pages) (omega (arith, l.pages))) refl

          pub into-short-entries : P ≤ length t.tables.pages → length t.tables.entries < L → effect (refused 6 []) unmarked ≡ read_list_into s store loose head t
          unfolding read_list_into
          into-short-entries k h = rw (l.reads, bits, tested ∙ differs, fits_pages k, lt-leb (length l.list.entries) (length t.tables.entries) (omega (arith, l.entries))) refl

          -- room for it
          pub into-read : P ≤ length t.tables.pages → L ≤ length t.tables.entries
              → effect (answer (record { P = P; L = L })) (list_lent_in count t (chain_from s store P head)) ≡ read_list_into s store loose head t
          unfolding read_list_into
          into-read k h =
              rw (l.reads, bits, tested ∙ differs, fits_pages k, le-leb (length l.list.entries) (length t.tables.entries) (omega (arith, l.entries)), l.pages, l.entries, ← l.chain)
