-- The walk to the first bytes, which decides how many pages a value has: a reading walk over so many pages goes on from where it ended, or stops
-- where it stopped; and both are the same in every store that has the pages whose numbers reading finds.
use Prim.Native.Nat.{ℕ, ◌+◌, ◌-◌, ◌≤◌, ◌<◌}
use mathlib.Core.Path.{◌≡◌, refl, sym, ◌∙◌, subst⁻¹}
use mathlib.Core.Bool.{true, false, ◌&&◌}
use mathlib.Core.List.Memᴰ
use mathlib.Core.List.{List, Memᴰ}
use native.Mathlib.Omega.{arith}
use borrow.Author.Tests.{eqb-true}
use lib.Dec.{leb, eqb}
use lib.ListN.{length}
use Rattle.laws.proofs.Tests.{cond_cases, and-true}
use Rattle.page.specs.Pages.{page_count, page_at}
use Rattle.overflow.specs.Totals.{new_total, old_total}
use Rattle.overflow.specs.Cells.{Cell}
use Rattle.overflow.specs.Reading.{Source, in_store, Found, in_cell, Walked, ended, stopped, walk, first_walk, value_total}
use Rattle.overflow.proofs.WalkLaws.{Came, came, stops_too}
use Rattle.overflow.proofs.LocalLaws.{walk_local}

module _ (s : ℕ) (source : Source) (c : Cell) where
  abbrev total : ℕ
  total = value_total s c.size (first_walk s source c)

  -- it stopped
  pub first_stopped : {g : Found} {n : ℕ} {vs : List ℕ} → first_walk s source c ≡ stopped g n vs → (total ≡ old_total s c.size) × (walk s source false total 0 (in_cell c) ≡ stopped g n vs)
  unfolding value_total
  first_stopped e = (rw e, rw e (stops_too s source (old_total s c.size) 0 (in_cell c) e))

  -- it ended
  module _ {j : ℕ} {g : Found} (e : first_walk s source c ≡ ended j g) where
    abbrev pub first_came : Came s source (old_total s c.size) 0 (in_cell c) j g
    first_came = came s source true (old_total s c.size) 0 (in_cell c) e

    -- there are as many pages as the old total, or as many as numbers, which is the new one
    pub by_total : (Q : ℕ → Type 0) → Q (old_total s c.size) → (length g.numbers ≡ new_total s c.size → Q (new_total s c.size)) → Q total
    unfolding value_total
    by_total Q old new =
        let enough = leb 1 (length g.bytes) in
        let same = eqb (length g.numbers) (new_total s c.size) in
        subst⁻¹ (λ (w : Walked). Q (value_total s c.size w)) e
        (cond_cases Q (enough && same) _ _ (λ h. new (eqb-true (length g.numbers) (new_total s c.size) (and-true enough same h).1)) (λ _. old))

    -- it came no further
    pub pages_few : j ≤ total
    pages_few = by_total (λ n. j ≤ n) (omega (arith, first_came.upto)) (λ h. omega (arith, first_came.known (omega arith), h))

    pub goes_on : walk s source false total 0 (in_cell c) ≡ walk s source false (total - j) j g
    goes_on =
        let same : total - j ≡ 0 + total - j = omega arith in
        rw same (first_came.goes_on total (omega (arith, pages_few)))

-- ---- in another store

module _ (s : ℕ) (store more : List ℕ) (longer : page_count s store ≤ page_count s more) (c : Cell) where
  pub first_local : {j : ℕ} {g : Found} → walk s (in_store s store) false (total s (in_store s store) c) 0 (in_cell c) ≡ ended j g
      → ((n : ℕ) → Memᴰ n g.numbers → n < page_count s store → page_at s more n ≡ page_at s store n)
      → first_walk s (in_store s more) c ≡ first_walk s (in_store s store) c
  first_local {j} {g} read same = by_walk (first_walk s (in_store s store) c) refl
    where
      by_walk : (w : Walked) → first_walk s (in_store s store) c ≡ w → first_walk s (in_store s more) c ≡ first_walk s (in_store s store) c
      by_walk (stopped f n vs) e =
          let z = sym (first_stopped s (in_store s store) c e).1 ∙ read in
          let w : ◌≡◌ {A = ℕ} 0 1 = cc in
          absurd (omega arith)
      by_walk (ended i f) e =
          let source = in_store s store in
          let k = came s source false (total s source c - i) i f (sym (goes_on s source c e) ∙ read) in
          let found : (n : ℕ) → Memᴰ n f.numbers → Memᴰ n g.numbers = λ n m. subst⁻¹ (Memᴰ n) k.numbers (Memᴰ.append_left k.rest m) in
          walk_local s store more longer true (old_total s c.size) 0 (in_cell c) e (λ n m h. same n (found n m) h) ∙ sym e
