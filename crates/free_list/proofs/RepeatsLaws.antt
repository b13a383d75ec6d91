-- The numbers of a list as a walk down comes to them, and a list that is accepted as its numbers differ.
-- By the pages of the chain. Assumes nothing.
use Prim.Native.Nat.{ℕ, zero, suc, ◌+◌, ◌*◌, ◌-◌, ◌/◌, ◌<◌, ◌≤◌}
use native.Mathlib.Nat.{not-suc-le-zero}
use native.Mathlib.Omega.{arith}
use mathlib.Core.Path.{◌≡◌, refl, ap, sym, ◌∙◌}
use mathlib.Core.Logic.{⊎_elim}
use mathlib.Core.Bool.{Bool, true, false, ◌&&◌}
use mathlib.Core.List.Memᴰ
use mathlib.Core.List.{List, [], ◌∷◌, ◌++◌}
use lib.Dec.{leb}
use lib.ListN.{length, get_or, take}
use borrow.Author.Tests.{leb-true}
use Rattle.laws.specs.Counting.{count, all_different, all_below}
use Rattle.laws.proofs.Tests.{and-true}
use Rattle.laws.proofs.SetsLaws.{take-sets}
use Rattle.laws.proofs.CountLaws.{count-append, once_different, all_different_once, same_different, same_below}
use Rattle.refusal.specs.Outcome.{Outcome, answer, refused, check, with_answer}
use Rattle.refusal.specs.Effect.{Effect, effect, leaves, go_on}
use Rattle.refusal.proofs.OutcomeLaws.{not_refused, unanswer, check_answer, with_answer_answer}
use Rattle.page.specs.Bytes.{number_at}
use Rattle.page.specs.PageSize.{IsPageSize, capacity}
use Rattle.page.specs.Pages.{page_count, page_at}
use Rattle.page.proofs.BytesLaws.{get_d-numbers_at}
use Rattle.page.proofs.PageSizeLaws.{page_least}
use Rattle.page.proofs.PagesLaws.{page_within_lem, length-page_at}
use Rattle.free_list.specs.ListPages.{prev_of, count_of, entries_of, prev_within}
use Rattle.free_list.specs.Shape.{FreeList}
use Rattle.free_list.specs.Reading.{numbers_of, differing, list_from, read_list, ListSize, size_of, ListLent, list_lent_in, has_room, read_list_into}
use Rattle.free_list.specs.Theorems.{ReadDiffers, ReadShape}
use Rattle.free_list.proofs.ShapeLaws.{read_accepted}
use Rattle.bit_map.specs.BitMap.{has_bits, cleared}
use Rattle.free_list.specs.Steps.{chain_from, chain_numbers, Readable}
use Rattle.free_list.proofs.ListPagesLaws.{prev_within_lem}
use Rattle.free_list.proofs.ShapeLaws.{read_inside}

-- an entry of a page, as it is read
pub entry_read : (b : List ℕ) (i n : ℕ) → i < count_of b → n ≡ number_at 4 b (6 + 4 * i) → n ≡ get_or (entries_of b) i 0
unfolding entries_of
entry_read b i n h e = e ∙ sym (get_d-numbers_at 4 b 6 (count_of b) i h)

-- the chain's first page, whose bytes are b: it lies in the store, its entries stand on it, and the chain goes on from the page that it names
pub record Next (s : ℕ) (store : List ℕ) (k p : ℕ) (b : List ℕ) : Type 0 where
  pub room : 6 + 4 * count_of b ≤ length b
  pub below : (q : ℕ) → q ≡ prev_within b → Readable s store (k - 1) q
  pub numbers : (q : ℕ) → q ≡ prev_within b → chain_numbers s store k p ≡ (p ∷ entries_of b) ++ chain_numbers s store (k - 1) q

pub next_inside : (s : ℕ) (store : List ℕ) (k p : ℕ) → 0 < k → Readable s store k p → p < page_count s store
next_inside s store zero p h r = absurd (not-suc-le-zero h)
next_inside s store (suc k) p h r = r.0

pub chain_next : (s : ℕ) (store : List ℕ) (k p : ℕ) (b : List ℕ) → IsPageSize s → 0 < k → Readable s store k p → b ≡ page_at s store p → Next s store k p b
unfolding chain_numbers capacity
chain_next s store zero p b size h r e = absurd (not-suc-le-zero h)
chain_next s store (suc k) p b size h r e =
    let one : suc k - 1 ≡ k = omega arith in
    let least = page_least size in
    let long : length b ≡ s = ap length e ∙ length-page_at s store p (page_within_lem s store p (omega (arith, least)) r.0) in
    let few : count_of b ≤ (s - 6) / 4 = rw e r.1 in
    let whole : 6 ≤ length b = omega (arith, long, least) in
    let prev = prev_within_lem b whole in
    record {
      room = omega (arith, few, long, least);
      below = λ q before. rw (one, before ∙ prev, e) r.2;
      numbers = λ q before. rw (one, before ∙ prev, e) refl;
    }

-- they are those of its list, in another order
pub chain_counts : (s : ℕ) (store : List ℕ) (k p x : ℕ) → count x (chain_numbers s store k p) ≡ count x (numbers_of (chain_from s store k p))
unfolding chain_numbers chain_from
chain_counts s store zero p x = refl
chain_counts s store (suc k) p x =
    let b = page_at s store p in
    let below = chain_from s store k (prev_of b) in
    omega (
      arith,
      chain_counts s store k (prev_of b) x,
      count-append x below.pages below.entries,
      count-append x (p ∷ entries_of b) (chain_numbers s store k (prev_of b)),
      count-append x (p ∷ []) (entries_of b),
      count-append x (below.pages ++ (p ∷ [])) (below.entries ++ entries_of b),
      count-append x below.pages (p ∷ []),
      count-append x below.entries (entries_of b),
    )

pub chain_judged : (limit s : ℕ) (store : List ℕ) (k p : ℕ)
    → all_below limit (chain_numbers s store k p) && all_different (chain_numbers s store k p)
    ≡ all_below limit (numbers_of (chain_from s store k p)) && all_different (numbers_of (chain_from s store k p))
chain_judged limit s store k p =
    let walked = chain_numbers s store k p in
    let listed = numbers_of (chain_from s store k p) in
    rw (same_below limit walked listed (chain_counts s store k p), same_different walked listed (chain_counts s store k p))

-- ---- an accepted list

pub read_chained : (s : ℕ) (store : List ℕ) (head : ℕ) {l : FreeList} → read_list s store head ≡ answer l → list_from s store false head ≡ answer l
read_chained s store head {l} e =
    let w = with_answer_answer differing (list_from s store false head) e in
    w.1 ∙ (check_answer (all_different (numbers_of w.0)) 22 [] (answer w.0) w.2).1

pub read_differs : (s : ℕ) (store : List ℕ) (head : ℕ) {l : FreeList} → read_list s store head ≡ answer l → all_different (numbers_of l) ≡ true
read_differs s store head {l} e =
    let w = with_answer_answer differing (list_from s store false head) e in
    let c = check_answer (all_different (numbers_of w.0)) 22 [] (answer w.0) w.2 in
    rw (← unanswer c.1) c.0

pub read_differing : (s : ℕ) (store : List ℕ) (head : ℕ) {l : FreeList} → list_from s store false head ≡ answer l → all_different (numbers_of l) ≡ true → read_list s store head ≡ answer l
read_differing s store head {l} e d = rw (e, d) refl

-- ---- a read that answers

-- the list that it has read
pub record ReadOf (s : ℕ) (store : List ℕ) (loose : Bool) (head : ℕ) (lent after : ListLent) (size : ListSize) : Type 0 where
  pub list : FreeList
  pub reads : list_from s store loose head ≡ answer list
  pub differs : all_different (numbers_of list) ≡ true
  pub fits : has_room lent.tables list ≡ true
  pub told : size_of list ≡ size
  pub written : list_lent_in (page_count s store) lent list ≡ after

module _ (s : ℕ) (store : List ℕ) (loose : Bool) (head : ℕ) (lent after : ListLent) (size : ListSize) where
  abbrev Claim : Type 0
  Claim = ReadOf s store loose head lent after size

  abbrev of_judged : Outcome FreeList → Effect ListSize ListLent
  of_judged o = leaves size_of (list_lent_in (page_count s store) lent) (record { tables = lent.tables; map = cleared (page_count s store) lent.map }) o

  abbrev room : FreeList → Outcome FreeList
  room m = check (has_room lent.tables m) 6 [] (answer m)

  module _ (l : FreeList) (read : list_from s store loose head ≡ answer l) where
    by_room : all_different (numbers_of l) ≡ true → (b : Bool) → has_room lent.tables l ≡ b → of_judged (check b 6 [] (answer l)) ≡ effect (answer size) after → Claim
    by_room d true q e =
        record {
          list = l;
          reads = read;
          differs = d;
          fits = q;
          told = unanswer (ap (λ (x : Effect ListSize ListLent). x.outcome) e);
          written = ap (λ (x : Effect ListSize ListLent). x.lent) e;
        }
    by_room d false q e = absurd (not_refused e)

    by_differ : (b : Bool) → all_different (numbers_of l) ≡ b → of_judged (with_answer room (check b 22 [] (answer l))) ≡ effect (answer size) after → Claim
    by_differ true d e = by_room d (has_room lent.tables l) refl e
    by_differ false d e = absurd (not_refused e)

    by_bits : (b : Bool) → go_on lent (λ m. of_judged (with_answer room (differing m))) (check b 21 [] (answer l)) ≡ effect (answer size) after → Claim
    by_bits true e = by_differ (all_different (numbers_of l)) refl e
    by_bits false e = absurd (not_refused e)

  by_chain : (o : Outcome FreeList) → list_from s store loose head ≡ o
      → go_on lent (λ m. of_judged (with_answer room (differing m))) (with_answer (λ m. check (has_bits (page_count s store) (length lent.map)) 21 [] (answer m)) o) ≡ effect (answer size) after → Claim
  by_chain (answer l) t e = by_bits l t (has_bits (page_count s store) (length lent.map)) e
  by_chain (refused n vs) t e = absurd (not_refused e)

  pub answered_read : read_list_into s store loose head lent ≡ effect (answer size) after → Claim
  unfolding read_list_into
  answered_read e = by_chain (list_from s store loose head) refl e

-- the list stands at the front of the tables
front : (count : ℕ) (l : FreeList) (lent after : ListLent) (size : ListSize) → has_room lent.tables l ≡ true → size_of l ≡ size → list_lent_in count lent l ≡ after
    → (take size.P after.tables.pages ≡ l.pages) × (take size.L after.tables.entries ≡ l.entries)
front count l lent after size fits told written =
    let t = lent.tables in
    let f = and-true (leb (length l.pages) (length t.pages)) _ fits in
    rw (← told, ← written) (take-sets t.pages l.pages (leb-true _ (length t.pages) f.0), take-sets t.entries l.entries (leb-true _ (length t.entries) f.1))

-- so the numbers that stand there differ
pub read_tables_differ : (s : ℕ) → ReadDiffers s
unfolding list_from
read_tables_differ s store loose head lent after size e =
    let r = answered_read s store loose head lent after size e in
    let l = r.list in
    let f = front (page_count s store) l lent after size r.fits r.told r.written in
    let inside = read_inside s store loose (page_count s store) 0 0 head l r.reads in
    rw (f.0, f.1) (
      once_different (numbers_of l) (all_different_once (numbers_of l) r.differs),
      λ x m. ⊎_elim (inside.0 x) (inside.1 x) (Memᴰ.append_cases l.pages m),
    )

-- and what was read strictly has the shape
pub read_shape : (s : ℕ) → ReadShape s
read_shape s store head lent after size e =
    let r = answered_read s store false head lent after size e in
    rw (← r.told) (read_accepted s store head r.list r.reads).shape
