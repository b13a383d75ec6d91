-- List reading, page by page: what a page that is read tells, and what the list is made of.
use Prim.Native.Nat.{ℕ, zero, suc, ◌+◌, ◌*◌, ◌-◌, ◌<◌, ◌≤◌}
use native.Mathlib.Nat.{not-suc-le-zero, add-zero, zero-add}
use native.Mathlib.Numerals.{add-one}
use native.Mathlib.Omega.{arith}
use mathlib.Core.Path.{◌≡◌, refl, ap, ap₂, sym, ◌∙◌, subst}
use mathlib.Core.Logic.{⊎_elim}
use mathlib.Core.Bool.{Bool, true, false, ◌&&◌, ◌||◌, cond}
use mathlib.Core.List.{List, [], ◌∷◌, ◌++◌}
use lib.Dec.{leb, ltb, eqb}
use lib.ListN.{length, length-append}
use borrow.Author.Tests.{lt-ltb, le-ltb, leb-true, ltb-true, eqb-true, ne_eqb}
use Rattle.refusal.specs.Outcome.{Outcome, answer, refused, check, with_answer}
use Rattle.laws.proofs.Tests.{cond_cases, and-true, and-true_right, and-false_right, or-true}
use Rattle.refusal.proofs.OutcomeLaws.{unanswer, check_answer, with_answer_answer}
use Rattle.page.specs.Bytes.{number_at, numbers_at}
use Rattle.page.specs.PageSize.{capacity}
use Rattle.page.proofs.BytesLaws.{numbers_at-snoc}
use Rattle.page.specs.Pages.{page_count, page_at}
use Rattle.free_list.specs.ListPages.{prev_of, count_of, entries_of}
use Rattle.free_list.specs.Shape.{FreeList}
use Rattle.free_list.specs.Reading.{empty_list, on_top, count_fits, all_entries_fit, read_from, list_from, ListSize, size_of}
use Rattle.free_list.specs.Steps.{read_size, size_from, chain_from, Readable}
use Rattle.free_list.specs.declared.walk.Walk.{Walk}
use Rattle.free_list.proofs.ListPagesLaws.{length-entries_of}

-- ---- the tests of a page

-- a count that fits is at most what a page holds
pub count_fits-small : (loose : Bool) (c above entries n : ℕ) → count_fits loose c above entries n ≡ true → n ≤ c
unfolding count_fits
count_fits-small true c above entries n e = leb-true n c e
count_fits-small false c above entries n e =
    cond_cases (λ b. b ≡ true → n ≤ c) (eqb above 0) (leb 1 n && leb n c) (eqb n c || (eqb above 1 && (eqb entries 1 && eqb (n + 1) c)))
    (λ _ h. leb-true n c (and-true (leb 1 n) (leb n c) h).1)
    (λ _ h. ⊎_elim (λ k. omega (arith, eqb-true n c k)) (λ k. omega (arith, eqb-true (n + 1) c (last k))) (or-true (eqb n c) _ h))
    e
  where
    last : eqb above 1 && (eqb entries 1 && eqb (n + 1) c) ≡ true → eqb (n + 1) c ≡ true
    last k = (and-true (eqb entries 1) (eqb (n + 1) c) (and-true (eqb above 1) _ k).1).1

-- one entry more
entries_fit-snoc : (count : ℕ) (ns : List ℕ) (x : ℕ) → all_entries_fit count (ns ++ (x ∷ [])) ≡ all_entries_fit count ns && (leb 1 x && ltb x count)
unfolding all_entries_fit
entries_fit-snoc count [] x = and-true_right (leb 1 x && ltb x count)
entries_fit-snoc count (n ∷ ns) x = rw (entries_fit-snoc count ns x) (grouped (leb 1 n && ltb n count) (all_entries_fit count ns) (leb 1 x && ltb x count))
  where
    grouped : (a b c : Bool) → a && (b && c) ≡ (a && b) && c
    grouped true b c = refl
    grouped false b c = refl

-- entry x at place i, where `bad` of those before it do not fit
pub entries_more : (count : ℕ) (page : List ℕ) (i bad x u : ℕ) → x ≡ number_at 4 page (6 + 4 * i) → u ≡ cond (leb 1 x && ltb x count) 0 1
    → all_entries_fit count (numbers_at 4 page 6 i) ≡ eqb bad 0 → all_entries_fit count (numbers_at 4 page 6 (i + 1)) ≡ eqb (bad + u) 0
entries_more count page i bad x u e f before =
    rw (add-one i, numbers_at-snoc 4 page 6 i, ← e, entries_fit-snoc count (numbers_at 4 page 6 i) x, before, f) (step (leb 1 x && ltb x count))
  where
    step : (b : Bool) → eqb bad 0 && b ≡ eqb (bad + cond b 0 1) 0
    step true = rw (add-zero bad) (and-true_right (eqb bad 0))
    step false = rw (ne_eqb (bad + 1) 0 (omega arith)) (and-false_right (eqb bad 0))

-- ---- a page of a walk

abbrev sizes : ℕ → ℕ → ListSize
sizes pages entries = record { P = pages; L = entries }

-- reading from a page, where more pages are allowed
pub read_from-page : (s : ℕ) (store : List ℕ) (loose : Bool) (allowed above entries p : ℕ) → 1 ≤ allowed → 1 ≤ p
    → read_from s store loose allowed above entries p
    ≡ check (ltb p (page_count s store)) 2 (p ∷ [])
    (check (count_fits loose (capacity s) above entries (count_of (page_at s store p))) 3 (p ∷ [])
    (check (all_entries_fit (page_count s store) (entries_of (page_at s store p))) 4 (p ∷ [])
    (with_answer (λ l. answer (on_top p (entries_of (page_at s store p)) l))
    (read_from s store loose (allowed - 1) (above + 1) (entries + count_of (page_at s store p)) (prev_of (page_at s store p))))))
unfolding read_from
read_from-page s store loose zero above entries p h k = absurd (not-suc-le-zero h)
read_from-page s store loose (suc a) above entries zero h k = absurd (not-suc-le-zero k)
read_from-page s store loose (suc a) above entries (suc q) h k =
    let e : suc a - 1 ≡ a = omega arith in
    rw e

-- number 0 ends the list
pub read_from_end : (s : ℕ) (store : List ℕ) (loose : Bool) (allowed above entries : ℕ) → read_from s store loose allowed above entries 0 ≡ answer empty_list
unfolding read_from
read_from_end s store loose zero above entries = refl
read_from_end s store loose (suc a) above entries = refl

pub size_end : (s : ℕ) (store : List ℕ) (loose : Bool) (w : Walk) → w.page ≡ 0 → answer (sizes w.pages w.entries) ≡ size_from s store loose w
unfolding size_from
size_end s store loose w e = rw (e, read_from_end s store loose w.allowed w.pages w.entries, add-zero w.pages, add-zero w.entries)

-- with no page allowed any other number is one too many
pub size_chain : (s : ℕ) (store : List ℕ) (loose : Bool) (w : Walk) → w.allowed ≡ 0 → (w.page ≡ 0 → ⊥) → refused 5 [] ≡ size_from s store loose w
unfolding size_from read_from
size_chain s store loose w e ne = rw e (last w.page ne)
  where
    last : (p : ℕ) → (p ≡ 0 → ⊥)
        → refused 5 [] ≡ with_answer (λ l. answer (sizes (w.pages + length l.pages) (w.entries + length l.entries))) (read_from s store loose 0 w.pages w.entries p)
    last zero h = absurd (h refl)
    last (suc q) h = refl

-- a page that is passed counts one page and its entries
passed : (pages entries n p : ℕ) (es : List ℕ) → length es ≡ n → (o : Outcome FreeList)
    → with_answer (λ l. answer (sizes (pages + 1 + length l.pages) (entries + n + length l.entries))) o
    ≡ with_answer (λ l. answer (sizes (pages + length l.pages) (entries + length l.entries))) (with_answer (λ l. answer (on_top p es l)) o)
passed pages entries n p es e (answer l) =
    let first : pages + 1 + length l.pages ≡ pages + length (l.pages ++ (p ∷ [])) = omega (arith, length-append l.pages (p ∷ [])) in
    let second : entries + n + length l.entries ≡ entries + length (l.entries ++ es) = omega (arith, length-append l.entries es) in
    ap₂ (λ (x y : ℕ). answer (sizes x y)) first second
passed pages entries n p es e (refused number values) = refl

-- where a walk stands at a page: each refusal of the page is that of the list, and the walk behind the page finds the same list
module _ (s : ℕ) (store : List ℕ) (loose : Bool) (w : Walk) (more : 1 ≤ w.allowed) (page : 1 ≤ w.page) where
  pub size_past : page_count s store ≤ w.page → refused 2 (w.page ∷ []) ≡ size_from s store loose w
  unfolding size_from
  size_past h = rw (read_from-page s store loose w.allowed w.pages w.entries w.page more page, le-ltb _ _ h)

  module _ (inside : w.page < page_count s store) where
    pub size-count : count_fits loose (capacity s) w.pages w.entries (count_of (page_at s store w.page)) ≡ false → refused 3 (w.page ∷ []) ≡ size_from s store loose w
    unfolding size_from
    size-count e = rw (read_from-page s store loose w.allowed w.pages w.entries w.page more page, lt-ltb _ _ inside, e)

    module _ (fits : count_fits loose (capacity s) w.pages w.entries (count_of (page_at s store w.page)) ≡ true) where
      pub size-entry : all_entries_fit (page_count s store) (entries_of (page_at s store w.page)) ≡ false → refused 4 (w.page ∷ []) ≡ size_from s store loose w
      unfolding size_from
      size-entry e = rw (read_from-page s store loose w.allowed w.pages w.entries w.page more page, lt-ltb _ _ inside, fits, e)

      pub size-next : all_entries_fit (page_count s store) (entries_of (page_at s store w.page)) ≡ true
          → size_from s store loose (record { page = prev_of (page_at s store w.page); allowed = w.allowed - 1; pages = w.pages + 1; entries = w.entries + count_of (page_at s store w.page) })
          ≡ size_from s store loose w
      unfolding size_from
      size-next e =
          rw (read_from-page s store loose w.allowed w.pages w.entries w.page more page, lt-ltb _ _ inside, fits, e)
          (passed w.pages w.entries (count_of (page_at s store w.page)) w.page (entries_of (page_at s store w.page)) (length-entries_of (page_at s store w.page))
          (read_from s store loose (w.allowed - 1) (w.pages + 1) (w.entries + count_of (page_at s store w.page)) (prev_of (page_at s store w.page))))

-- ---- a list that was read

-- a page was read: its tests passed, and what lies below was read
pub record PageRead (s : ℕ) (store : List ℕ) (loose : Bool) (allowed above entries p : ℕ) (l : FreeList) : Type 0 where
  pub inside : p < page_count s store
  pub fits : count_fits loose (capacity s) above entries (count_of (page_at s store p)) ≡ true
  pub entries_fit : all_entries_fit (page_count s store) (entries_of (page_at s store p)) ≡ true
  pub below : FreeList
  pub reads : read_from s store loose allowed (above + 1) (entries + count_of (page_at s store p)) (prev_of (page_at s store p)) ≡ answer below
  pub whole : on_top p (entries_of (page_at s store p)) below ≡ l

pub page_read : (s : ℕ) (store : List ℕ) (loose : Bool) (allowed above entries q : ℕ) {l : FreeList} → read_from s store loose (suc allowed) above entries (suc q) ≡ answer l
    → PageRead s store loose allowed above entries (suc q) l
unfolding read_from
page_read s store loose allowed above entries q {l} e =
    let b = page_at s store (suc q) in
    let c₁ = check_answer (ltb (suc q) (page_count s store)) _ _ _ e in
    let c₂ = check_answer (count_fits loose (capacity s) above entries (count_of b)) _ _ _ c₁.1 in
    let c₃ = check_answer (all_entries_fit (page_count s store) (entries_of b)) _ _ _ c₂.1 in
    let c₄ =
    with_answer_answer (λ (m : FreeList). answer (on_top (suc q) (entries_of b) m)) (read_from s store loose allowed (above + 1) (entries + count_of b) (prev_of b)) c₃.1 in
    record { inside = ltb-true _ _ c₁.0; fits = c₂.0; entries_fit = c₃.0; below = c₄.0; reads = c₄.1; whole = unanswer c₄.2 }

-- with no page allowed only nil is read
pub none_allowed : (s : ℕ) (store : List ℕ) (loose : Bool) (above entries q : ℕ) {l : FreeList} → read_from s store loose 0 above entries (suc q) ≡ answer l → ⊥
unfolding read_from
none_allowed s store loose above entries q e = let z : ◌≡◌ {A = ℕ} 0 1 = cc in omega arith

empty_read : (s : ℕ) (store : List ℕ) (loose : Bool) (allowed above entries : ℕ) {l : FreeList} → read_from s store loose allowed above entries 0 ≡ answer l → empty_list ≡ l
empty_read s store loose allowed above entries {l} e = same (sym (read_from_end s store loose allowed above entries) ∙ e)
  where
    same : {x y : FreeList} → answer x ≡ answer y → x ≡ y
    same e = cc

-- what is to be shown of every list that is read, page by page: of the empty one, and of one page more
pub read_elim : (s : ℕ) (store : List ℕ) (loose : Bool) (Q : ℕ → ℕ → ℕ → FreeList → Type 0)
    → ((above entries : ℕ) → Q above entries 0 empty_list)
    → ((above entries p : ℕ) (l : FreeList) → 1 ≤ p → p < page_count s store
    → count_fits loose (capacity s) above entries (count_of (page_at s store p)) ≡ true
    → all_entries_fit (page_count s store) (entries_of (page_at s store p)) ≡ true
    → Q (above + 1) (entries + count_of (page_at s store p)) (prev_of (page_at s store p)) l
    → Q above entries p (on_top p (entries_of (page_at s store p)) l))
    → (allowed above entries p : ℕ) (l : FreeList) → read_from s store loose allowed above entries p ≡ answer l → Q above entries p l
read_elim s store loose Q none more zero above entries zero l e = subst (Q above entries 0) (empty_read s store loose 0 above entries e) (none above entries)
read_elim s store loose Q none more zero above entries (suc q) l e = absurd (none_allowed s store loose above entries q e)
read_elim s store loose Q none more (suc allowed) above entries zero l e = subst (Q above entries 0) (empty_read s store loose (suc allowed) above entries e) (none above entries)
read_elim s store loose Q none more (suc allowed) above entries (suc q) l e =
    let r = page_read s store loose allowed above entries q e in
    subst (Q above entries (suc q)) r.whole
    (more above entries (suc q) r.below (omega arith) r.inside r.fits r.entries_fit (read_elim s store loose Q none more allowed (above + 1) (entries + count_of (page_at s store (suc q))) (prev_of (page_at s store (suc q))) r.below r.reads))

-- the list is the chain of as many pages, and each of these can be read again
pub record Chain (s : ℕ) (store : List ℕ) (p : ℕ) (l : FreeList) : Type 0 where
  pub chain : l ≡ chain_from s store (length l.pages) p
  pub readable : Readable s store (length l.pages) p

pub read_chain : (s : ℕ) (store : List ℕ) (loose : Bool) (allowed above entries p : ℕ) (l : FreeList) → read_from s store loose allowed above entries p ≡ answer l → Chain s store p l
unfolding chain_from
read_chain s store loose =
    read_elim s store loose (λ above entries p l. Chain s store p l) (λ above entries. record { chain = refl; readable = tt }) more
  where
    more : (above entries p : ℕ) (l : FreeList) → 1 ≤ p → p < page_count s store
        → count_fits loose (capacity s) above entries (count_of (page_at s store p)) ≡ true
        → all_entries_fit (page_count s store) (entries_of (page_at s store p)) ≡ true
        → Chain s store (prev_of (page_at s store p)) l
        → Chain s store p (on_top p (entries_of (page_at s store p)) l)
    more above entries p l h inside fits entries_fit c =
        let e : length (l.pages ++ (p ∷ [])) ≡ suc (length l.pages) = length-append l.pages (p ∷ []) ∙ add-one (length l.pages) in
        record {
          chain = rw e (ap (on_top p (entries_of (page_at s store p))) c.chain);
          readable = rw e (inside, count_fits-small loose (capacity s) above entries (count_of (page_at s store p)) fits, c.readable);
        }

-- a walk that has just begun stands before the whole list
pub size_start : (s : ℕ) (store : List ℕ) (loose : Bool) (head : ℕ) → size_from s store loose (record { page = head; allowed = page_count s store; pages = 0; entries = 0 }) ≡ read_size s store loose head
unfolding size_from read_size list_from
size_start s store loose head = none (read_from s store loose (page_count s store) 0 0 head)
  where
    none : (o : Outcome FreeList) → with_answer (λ l. answer (sizes (0 + length l.pages) (0 + length l.entries))) o ≡ with_answer (λ l. answer (size_of l)) o
    none (answer l) = rw (zero-add (length l.pages), zero-add (length l.entries))
    none (refused number values) = refl
