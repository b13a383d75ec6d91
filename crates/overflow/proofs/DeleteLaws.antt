-- Deleting never gives 14. A cell has a number for the first page, and behind a page without bytes there is one more for the next.
use Prim.Native.Nat.{ℕ, zero, suc, ◌+◌, ◌*◌, ◌%◌, ◌<◌}
use native.Mathlib.Omega.{arith}
use mathlib.Core.Path.{◌≡◌, refl, ◌∙◌, ap}
use mathlib.Core.Bool.{Bool, true, ◌&&◌, cond}
use mathlib.Core.List.{List, [], ◌∷◌}
use borrow.Author.Tests.{lt-ltb, leb-false}
use lib.Dec.{leb, ltb, eqb}
use lib.ListN.{length, get_or, length-append}
use Rattle.laws.proofs.Tests.{cond_cases}
use Rattle.refusal.specs.Outcome.{Outcome, answer, refused, check, Never}
use Rattle.refusal.proofs.NeverLaws.{never_answer, never_check, never_with}
use Rattle.page.specs.Pages.{page_count, page_at}
use Rattle.page.proofs.BytesLaws.{length-numbers_at}
use Rattle.overflow.specs.Totals.{max_size, body, old_total}
use Rattle.overflow.specs.ValuePages.{number_count, byte_count, value_numbers}
use Rattle.overflow.specs.Cells.{Cell, cell_header, cell_size, cell_count, cell_of, decode_cell}
use Rattle.overflow.specs.Reading.{in_store, parse_page, Found, with_page, in_cell, Walked, ended, onward, walk, first_walk, value_total, numbers_room, admitted, all_numbers, delete_cell, delete_into}
use Rattle.overflow.specs.Theorems.{DeleteKnows}
use Rattle.overflow.proofs.CellsLaws.{decoded}
use Rattle.overflow.proofs.AdmitLaws.{admitted_decoded}
use Rattle.overflow.proofs.ParseLaws.{length-value_numbers, parse_answer}

-- ---- what comes before the walk gives other refusals

module _ (s : ℕ) (cell : List ℕ) (room : Cell → Bool) where
  admission_never : Never 14 (admitted s room cell)
  unfolding admitted decode_cell
  admission_never =
      never_with (λ c. check (leb 1 c.size) 10 [] (check (room c) 13 [] (answer c))) (decode_cell s cell)
      (never_check (leb (cell_header + 4) (length cell) && eqb (length cell % 4) 0) 12 [] (omega arith)
      (never_check (leb (cell_size cell) (max_size s)) 10 [] (omega arith) (never_answer (cell_of cell))))
      (λ c _. never_check (leb 1 c.size) 10 [] (omega arith) (never_check (room c) 13 [] (omega arith) (never_answer c)))

-- ---- the walk

module _ (s : ℕ) (store : List ℕ) where
  -- page reading gives other refusals
  parsed_never : (i p : ℕ) → Never 14 (parse_page s (in_store s store) i p)
  unfolding parse_page in_store
  parsed_never i p =
      never_with (λ b. check (leb (4 * number_count b + byte_count b) (body s)) 16 (i ∷ []) (check (leb 1 (number_count b + byte_count b)) 25 (i ∷ []) (answer b)))
      (check (ltb p (page_count s store)) 15 (i ∷ []) (answer (page_at s store p)))
      (never_check (ltb p (page_count s store)) 15 (i ∷ []) (omega arith) (never_answer (page_at s store p)))
      (λ b _. never_check (leb (4 * number_count b + byte_count b) (body s)) 16 (i ∷ []) (omega arith) (never_check (leb 1 (number_count b + byte_count b)) 25 (i ∷ []) (omega arith) (never_answer b)))

  -- however many numbers there should be
  abbrev Knows : Walked → Type 0
  Knows w = (total : ℕ) → Never 14 (all_numbers total w)

  by_page : (f : Found) (next : List ℕ → Walked) (o : Outcome (List ℕ)) → Never 14 o → ((b : List ℕ) → o ≡ answer b → Knows (next b)) → Knows (onward f next o)
  by_page f next (answer b) never knows total vs e = knows b refl total vs e
  by_page f next (refused n ws) never knows total vs e = let same : n ≡ 14 = cc in never ws (ap (λ (k : ℕ). refused k ws) same)

  counted : (i : ℕ) (f : Found) → Knows (ended i f)
  counted i f total = never_check (eqb (length f.numbers) total) 17 [] (omega arith) (never_answer (length f.numbers))

  -- a page that is taken: the walk ends with it, or the next number is known
  module _ (left i : ℕ) (f : Found) (h : i < length f.numbers) (again : (b : List ℕ) → suc i < length (with_page f b).numbers → Knows (walk s (in_store s store) true left (suc i) (with_page f b))) where
    taken : (b : List ℕ) → parse_page s (in_store s store) i (get_or f.numbers i 0) ≡ answer b
        → Knows (cond (leb 1 (byte_count b)) (ended (suc i) (with_page f b)) (walk s (in_store s store) true left (suc i) (with_page f b)))
    taken b e =
        let p = parse_answer s (in_store s store) i (get_or f.numbers i 0) e in
        cond_cases Knows (leb 1 (byte_count b)) (ended (suc i) (with_page f b)) (walk s (in_store s store) true left (suc i) (with_page f b))
        (λ _. counted (suc i) (with_page f b))
        (λ none. again b (omega (arith, h, p.some, leb-false 1 (byte_count b) none, length-append f.numbers (value_numbers b), length-value_numbers b)))

  walk_knows : (left i : ℕ) (f : Found) → i < length f.numbers → Knows (walk s (in_store s store) true left i f)
  unfolding walk
  walk_knows zero i f h = counted i f
  walk_knows (suc left) i f h =
      let p = get_or f.numbers i 0 in
      rw (lt-ltb i (length f.numbers) h)
      (by_page f _ (parse_page s (in_store s store) i p) (parsed_never i p) (taken left i f h (λ b k. walk_knows left (suc i) (with_page f b) k)))

-- ---- the whole

pub delete_knows : (s : ℕ) → DeleteKnows s
unfolding delete_into cell_of cell_count
delete_knows s cell store table = by_cell (admitted s (numbers_room s (length table)) cell) (admission_never s cell (numbers_room s (length table))) known
  where
    -- a cell that is admitted has a number
    known : (c : Cell) → admitted s (numbers_room s (length table)) cell ≡ answer c → 0 < length c.numbers
    known c e =
        let d = decoded s cell (admitted_decoded s (numbers_room s (length table)) cell e).0 in
        let few = ap (λ (c : Cell). length c.numbers) d.1 ∙ length-numbers_at 4 cell cell_header (cell_count cell) in
        omega (arith, few, d.0.long)

    by_cell : (o : Outcome Cell) → Never 14 o → ((c : Cell) → o ≡ answer c → 0 < length c.numbers) → Never 14 (delete_cell s store table o).outcome
    by_cell (answer c) never some vs e =
        walk_knows s store (old_total s c.size) 0 (in_cell c) (some c refl) (value_total s c.size (first_walk s (in_store s store) c)) vs e
    by_cell (refused n ws) never some vs e = let same : n ≡ 14 = cc in never ws (ap (λ (k : ℕ). refused k ws) same)
