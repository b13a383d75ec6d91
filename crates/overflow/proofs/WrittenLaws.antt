-- The writer's pages: one for each index below the total, none of them empty, each taken by page reading.
use Prim.Native.Nat.{ℕ, ◌≤◌}
use mathlib.Core.Path.{◌≡◌, refl, sym}
use mathlib.Core.Bool.{◌&&◌}
use mathlib.Core.List.{List, []}
use native.Mathlib.Omega.{arith}
use borrow.Author.Tests.{ltb-true, ltb-false, eqb-true, leb-true}
use lib.Dec.{leb, ltb, eqb}
use lib.ListN.{length}
use lib.Seq.{sets, sets-eq}
use Rattle.laws.proofs.Tests.{cond_cases, and-true}
use Rattle.refusal.specs.Outcome.{Outcome, answer, refused}
use Rattle.refusal.specs.Effect.{Effect}
use Rattle.refusal.proofs.OutcomeLaws.{unanswer, check_answer}
use Rattle.page.specs.PageSize.{IsPageSize}
use Rattle.page.proofs.BytesLaws.{number_at_append-left}
use Rattle.page.proofs.PageSizeLaws.{page_least}
use Rattle.overflow.specs.Totals.{max_size, IsTotal}
use Rattle.overflow.specs.ValuePages.{number_count, byte_count, value_page, chunk, chunk_into}
use Rattle.refusal.specs.Stored.{stored_in}
use Rattle.overflow.specs.Theorems.{PageForEach, NoneEmpty, NeverEmpty, PageTaken}
use Rattle.overflow.proofs.NewTotalLaws.{either_tight}
use Rattle.overflow.proofs.ValuePagesLaws.{length_value_page, value_page_fits, value_page_some}
use Rattle.overflow.proofs.ChunkLaws.{chunk-index, chunk-written}
use Rattle.overflow.proofs.ParseLaws.{Some, parse_takes}

pub page_for_each : {s : ℕ} → IsPageSize s → PageForEach s
page_for_each {s} page total value numbers buffer i some few whole room =
    sym
    (cond_cases (λ (e : Effect ℕ (List ℕ)). e ≡ chunk_into s total value numbers i buffer) (ltb i total) _ _
    (λ t. chunk-written s total value numbers i buffer some few whole (ltb-true i total t) page room)
    (λ t. chunk-index s total value numbers i buffer some few whole (ltb-false i total t)))

pub none_empty : {s : ℕ} → IsPageSize s → NoneEmpty s
none_empty page total value numbers i some t whole h = value_page_some page value numbers whole i (either_tight (length value) page some t) h

pub page_taken : {s : ℕ} → IsPageSize s → PageTaken s
page_taken {s} page total value numbers i some t whole h source k p e =
    parse_takes s source k p e (value_page_fits page value numbers whole i) (none_empty page total value numbers i some t whole h)

-- ---- a page in a buffer

-- at its start it has its counts there
counts_stand : {s : ℕ} (b buffer : List ℕ) → IsPageSize s → length b ≡ s → s ≤ length buffer → (number_count (sets buffer 0 b) ≡ number_count b) × (byte_count (sets buffer 0 b) ≡ byte_count b)
unfolding number_count byte_count
counts_stand {s} b buffer page long room =
    let stands = sets-eq b buffer 0 (omega arith) in
    let least = page_least page in
    (rw stands (number_at_append-left 2 b _ 0 (omega arith)), rw stands (number_at_append-left 2 b _ 2 (omega arith)))

module _ {s : ℕ} (page : IsPageSize s) (total : ℕ) (value numbers buffer : List ℕ) (i : ℕ) where
  -- what is written is a page, which the buffer has room for, and not empty
  pub record Written (b : List ℕ) : Type 0 where
    pub long : length b ≡ s
    pub room : s ≤ length buffer
    pub some : Some b

  chunk-answered : IsTotal s (length value) total → {b : List ℕ} → chunk s total value numbers i (length buffer) ≡ answer b → Written b
  unfolding chunk
  chunk-answered t {b} e =
      let size = length value in
      let x = check_answer (leb 1 size && leb size (max_size s)) 10 [] _ e in
      let y = check_answer (eqb (length numbers) total && ltb i total) 11 [] _ x.1 in
      let z = check_answer (leb s (length buffer)) 9 [] (answer (value_page s total value numbers i)) y.1 in
      let some = leb-true 1 size (and-true (leb 1 size) (leb size (max_size s)) x.0).0 in
      let both = and-true (eqb (length numbers) total) (ltb i total) y.0 in
      let whole = eqb-true (length numbers) total both.0 in
      let is : value_page s total value numbers i ≡ b = unanswer z.1 in
      record {
        long = rw is at (length_value_page page value numbers whole i);
        room = leb-true s (length buffer) z.0;
        some = rw is at (none_empty page total value numbers i some t whole (ltb-true i total both.1));
      }

  by_outcome : (o : Outcome (List ℕ)) → ((b : List ℕ) → o ≡ answer b → Written b) → (told : ℕ) → (stored_in buffer o).outcome ≡ answer told → Some (stored_in buffer o).lent
  by_outcome (answer b) written told e =
      let w = written b refl in
      let c = counts_stand b buffer page w.long w.room in
      omega (arith, c.0, c.1, w.some)
  by_outcome (refused n vs) written told e = let z : ◌≡◌ {A = ℕ} 0 1 = cc in absurd (omega arith)

pub never_empty : {s : ℕ} → IsPageSize s → NeverEmpty s
unfolding chunk_into
never_empty {s} page total value numbers buffer i told t e =
    by_outcome page total value numbers buffer i (chunk s total value numbers i (length buffer)) (λ b w. chunk-answered page total value numbers buffer i t w) told e
