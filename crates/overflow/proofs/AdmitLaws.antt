-- Admission, test by test, and what is known of a cell that is admitted.
-- The tests are the definition's; a cell that is read has a size that no limit refuses.
use Prim.Native.Nat.{ℕ, ◌+◌, ◌<◌, ◌≤◌}
use mathlib.Core.Path.{◌≡◌, refl, sym, ◌∙◌, ap}
use mathlib.Core.Logic.{◌≢◌}
use mathlib.Core.Bool.{Bool, true, ◌&&◌}
use mathlib.Core.List.{List, []}
use native.Mathlib.Omega.{arith}
use borrow.Author.Tests.{le-leb, lt-leb, leb-true}
use lib.Dec.{leb}
use lib.ListN.{length}
use Rattle.laws.proofs.Tests.{and-true, and-true_right}
use Rattle.refusal.specs.Outcome.{Outcome, answer, refused, check, with_answer}
use Rattle.refusal.proofs.OutcomeLaws.{unanswer, check_answer, with_answer_answer, with_answer_refused}
use Rattle.page.specs.PageSize.{IsPageSize}
use Rattle.overflow.specs.Totals.{max_size, new_total, old_total}
use Rattle.overflow.specs.Cells.{Cell, cell_header, cell_of, decode_cell, CellCounts, cell_counts}
use Rattle.overflow.specs.Reading.{admitted, numbers_room, bytes_room}
use Rattle.overflow.specs.Steps.{needs_of, admitted_needs, IsTotals}
use Rattle.overflow.specs.declared.admit.Needs.{Needs}
use Rattle.overflow.specs.declared.total.Totals.{Totals}
use Rattle.overflow.proofs.TotalsLaws.{total_few}
use Rattle.overflow.proofs.CellsLaws.{Decoding, decoded, not_decoded}

-- a cell that is admitted is the one that was read, and there is room for it
pub admitted_decoded : (s : ℕ) (room : Cell → Bool) (cell : List ℕ) {c : Cell} → admitted s room cell ≡ answer c → (decode_cell s cell ≡ answer c) × (room c ≡ true)
unfolding admitted
admitted_decoded s room cell e =
    let x = with_answer_answer (λ c. check (leb 1 c.size) 10 [] (check (room c) 13 [] (answer c))) (decode_cell s cell) e in
    let y = check_answer (leb 1 x.0.size) 10 [] (check (room x.0) 13 [] (answer x.0)) x.2 in
    let z = check_answer (room x.0) 13 [] (answer x.0) y.1 in
    (x.1 ∙ z.1, ap room (sym (unanswer z.1)) ∙ z.0)

-- and its value has a byte
admitted_some : (s : ℕ) (room : Cell → Bool) (cell : List ℕ) {c : Cell} → admitted s room cell ≡ answer c → 1 ≤ c.size
unfolding admitted
admitted_some s room cell {c} e =
    let x = with_answer_answer (λ c. check (leb 1 c.size) 10 [] (check (room c) 13 [] (answer c))) (decode_cell s cell) e in
    let y = check_answer (leb 1 x.0.size) 10 [] (check (room x.0) 13 [] (answer x.0)) x.2 in
    let z = check_answer (room x.0) 13 [] (answer x.0) y.1 in
    omega (arith, leb-true 1 x.0.size y.0, ap (λ (c : Cell). c.size) (unanswer z.1))

module _ (s : ℕ) (cell : List ℕ) (numbers bytes : ℕ) where
  -- room for so many numbers and bytes
  abbrev room : Cell → Bool
  room c = numbers_room s numbers c && bytes_room bytes c

  -- ---- the tests

  pub admit_undecoded : {n : ℕ} {vs : List ℕ} → refused n vs ≡ cell_counts s cell → refused n vs ≡ admitted_needs s numbers bytes cell
  unfolding admitted_needs admitted
  admit_undecoded e = rw (not_decoded s cell e)

  module _ {k : CellCounts} (d : Decoding s cell k) where
    size_is : (cell_of cell).size ≡ k.size
    size_is = ap (λ (k : CellCounts). k.size) d.counts

    pub decoded_few : k.size ≤ max_size s
    decoded_few = omega (arith, size_is, d.few)

    pub admit_empty : k.size ≡ 0 → refused 10 [] ≡ admitted_needs s numbers bytes cell
    unfolding admitted_needs admitted
    admit_empty z = rw (d.read, size_is, lt-leb 1 k.size (omega arith))

    module _ (some : k.size ≢ 0) {totals : Totals} (t : IsTotals s k.size totals) where
      pub admit_numbers : numbers < totals.old → refused 13 [] ≡ admitted_needs s numbers bytes cell
      unfolding admitted_needs admitted
      admit_numbers h = rw (d.read, size_is, le-leb 1 k.size (omega arith), ← t.old, lt-leb totals.old numbers h)

      pub admit_bytes : totals.old ≤ numbers → bytes < k.size → refused 13 [] ≡ admitted_needs s numbers bytes cell
      unfolding admitted_needs admitted
      admit_bytes h b = rw (d.read, size_is, le-leb 1 k.size (omega arith), ← t.old, le-leb totals.old numbers h, lt-leb k.size bytes b)

      pub admit_all : totals.old ≤ numbers → k.size ≤ bytes → answer (record { size = k.size; totals = totals }) ≡ admitted_needs s numbers bytes cell
      unfolding admitted_needs admitted
      admit_all h b = rw (d.read, size_is, le-leb 1 k.size (omega arith), ← t.old, le-leb totals.old numbers h, le-leb k.size bytes b, t.new, t.old)

  -- ---- what they tell

  pub not_admitted : {n : ℕ} {vs : List ℕ} → refused n vs ≡ admitted_needs s numbers bytes cell → admitted s room cell ≡ refused n vs
  unfolding admitted_needs
  not_admitted e = with_answer_refused (needs_of s) (admitted s room cell) (sym e)

  -- the cell, and what is known of it
  pub record Admission (needs : Needs) : Type 0 where
    pub is : admitted s room cell ≡ answer (cell_of cell)
    pub needs_are : needs_of s (cell_of cell) ≡ needs
    pub long : cell_header ≤ length cell
    pub some : 1 ≤ needs.size
    pub totals : IsTotals s needs.size needs.totals
    pub few : needs.totals.old ≤ max_size s + 4
    pub numbers_room : needs.totals.old ≤ numbers
    pub bytes_room : needs.size ≤ bytes

  pub admission : {needs : Needs} → IsPageSize s → answer needs ≡ admitted_needs s numbers bytes cell → Admission needs
  unfolding admitted_needs
  admission {needs} page e =
      let w = with_answer_answer (λ c. answer (needs_of s c)) (admitted s room cell) (sym e) in
      let a = admitted_decoded s room cell w.1 in
      let d = decoded s cell a.0 in
      let needs_are : needs_of s (cell_of cell) ≡ needs = ap (needs_of s) (sym d.1) ∙ unanswer w.2 in
      let size_is : (cell_of cell).size ≡ needs.size = ap (λ (n : Needs). n.size) needs_are in
      let new_is : new_total s (cell_of cell).size ≡ needs.totals.new = ap (λ (n : Needs). n.totals.new) needs_are in
      let total_is : old_total s (cell_of cell).size ≡ needs.totals.old = ap (λ (n : Needs). n.totals.old) needs_are in
      let both = and-true (numbers_room s numbers (cell_of cell)) (bytes_room bytes (cell_of cell)) (ap room (sym d.1) ∙ a.1) in
      record {
        is = w.1 ∙ ap answer d.1;
        needs_are = needs_are;
        long = omega (arith, d.0.long);
        some = omega (arith, (admitted_some s room cell w.1), ap (λ (c : Cell). c.size) (sym d.1), size_is);
        totals = record { new = sym new_is ∙ ap (new_total s) size_is; old = sym total_is ∙ ap (old_total s) size_is };
        few = omega (arith, total_few (cell_of cell).size page d.0.few, total_is);
        numbers_room = omega (arith, leb-true (old_total s (cell_of cell).size) numbers both.0, total_is);
        bytes_room = omega (arith, leb-true (cell_of cell).size bytes both.1, size_is);
      }

-- where there is room for the largest value, no room is asked for the bytes
pub room_for_largest : (s : ℕ) (cell : List ℕ) (numbers : ℕ) → admitted s (λ c. numbers_room s numbers c && bytes_room (max_size s) c) cell ≡ admitted s (numbers_room s numbers) cell
unfolding admitted
room_for_largest s cell numbers = by_cell (decode_cell s cell) (λ c e. let d = decoded s cell e in omega (arith, ap (λ (c : Cell). c.size) d.1, d.0.few))
  where
    by_cell : (o : Outcome Cell) → ((c : Cell) → o ≡ answer c → c.size ≤ max_size s)
        → with_answer (λ c. check (leb 1 c.size) 10 [] (check (numbers_room s numbers c && bytes_room (max_size s) c) 13 [] (answer c))) o
        ≡ with_answer (λ c. check (leb 1 c.size) 10 [] (check (numbers_room s numbers c) 13 [] (answer c))) o
    by_cell (answer c) few = rw (le-leb c.size (max_size s) (few c refl), and-true_right (numbers_room s numbers c))
    by_cell (refused n vs) few = refl
