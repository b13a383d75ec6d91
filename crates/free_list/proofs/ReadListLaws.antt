-- A list that was read from a store stands in it, and its head is the page that it was read from.
use Prim.Native.Nat.{ℕ, zero, suc, ◌+◌, ◌*◌, ◌-◌, ◌<◌, ◌≤◌}
use native.Mathlib.Nat.{mul-zero}
use native.Mathlib.Decide.{dec_lt, ℕ_discrete}
use native.Mathlib.Numerals.{add-one}
use native.Mathlib.Omega.{arith}
use mathlib.Core.Path.{◌≡◌, refl, ap, ap₂, sym, ◌∙◌, subst}
use mathlib.Core.Logic.{◌⊎◌, inl, inr}
use mathlib.Core.Bool.{Bool, true, false, ◌&&◌}
use mathlib.Core.List.{List, [], ◌∷◌, ◌++◌}
use lib.Dec.{leb, eqb}
use lib.ListN.{length, get_or, take, drop, length-drop, length-append, get_or-append, get_or-eq_default}
use lib.Seq.{take-length, take-append-le, drop-append-le, drop_at, get_or_at}
use borrow.Author.Tests.{leb-true, eq-eqb, ne_eqb, eqb-true}
use Rattle.laws.proofs.ProductLaws.{times_positive}
use Rattle.laws.proofs.Tests.{and-true, or-true}
use Rattle.laws.proofs.PlacesLaws.{get_d-mem}
use Rattle.refusal.specs.Outcome.{answer}
use Rattle.refusal.proofs.OutcomeLaws.{unanswer}
use Rattle.page.specs.PageSize.{capacity}
use Rattle.page.specs.Pages.{page_count, page_at}
use Rattle.free_list.specs.ListPages.{prev_of, count_of, entries_of}
use Rattle.free_list.specs.Shape.{FreeList, is_fragmented, entries_below, entries_on, head_of, previous}
use Rattle.free_list.specs.StoredList.{StoredList}
use Rattle.free_list.specs.Reading.{empty_list, on_top, count_fits, all_entries_fit, read_from, list_from}
use Rattle.free_list.proofs.ListPagesLaws.{length-entries_of}
use Rattle.free_list.proofs.ReadingLaws.{read_from_end, page_read, none_allowed, read_elim}
use Rattle.free_list.proofs.ShapeLaws.{read_accepted}
use Rattle.free_list.proofs.BelowLaws.{fragmented_is, below_all, below_inner, below-head, below-fragmented}
use Rattle.free_list.proofs.FittingLaws.{not_fragmented}

-- a count that fits says: the head has an entry; a page below it is whole, or lacks one under a head of one
fitting_head : (c above entries m : ℕ) → above ≡ 0 → count_fits false c above entries m ≡ true → 1 ≤ m
unfolding count_fits
fitting_head c above entries m e f = leb-true 1 m (and-true (leb 1 m) (leb m c) (rw (eq-eqb above 0 e) at f)).0

fitting_under : (c above entries m : ℕ) → 1 ≤ above → count_fits false c above entries m ≡ true → (m ≡ c) ⊎ ((above ≡ 1) × (entries ≡ 1) × (m + 1 ≡ c))
unfolding count_fits
fitting_under c above entries m h f = go (or-true (eqb m c) _ (rw (ne_eqb above 0 (omega arith)) at f))
  where
    go : (eqb m c ≡ true) ⊎ (eqb above 1 && (eqb entries 1 && eqb (m + 1) c) ≡ true) → (m ≡ c) ⊎ ((above ≡ 1) × (entries ≡ 1) × (m + 1 ≡ c))
    go (inl e) = inl (eqb-true m c e)
    go (inr e) =
        let t = and-true (eqb above 1) _ e in
        let u = and-true (eqb entries 1) (eqb (m + 1) c) t.1 in
        inr (eqb-true above 1 t.0, eqb-true entries 1 u.0, eqb-true (m + 1) c u.1)

-- n pages with m entries, under `above` pages with `entries` entries
abbrev Under : ℕ → ℕ → ℕ → ℕ → ℕ → Type 0
Under c above entries n m = (2 ≤ above → m ≡ c * n) × (above ≡ 1 → (m ≡ c * n) ⊎ ((m + 1 ≡ c * n) × (entries ≡ 1)))

-- what is above them: no page and no entry, or some of both
abbrev Above : ℕ → ℕ → Type 0
Above above entries = (above ≡ 0 → entries ≡ 0) × (1 ≤ above → 1 ≤ entries)

under_more : (c above entries n m x : ℕ) → count_fits false c above entries x ≡ true → Under c (above + 1) (entries + x) n m → Under c above entries (n + 1) (m + x)
under_more c above entries n m x f below = (λ h. deeper h (fitting_under c above entries x (omega arith) f), λ h. next h (fitting_under c above entries x (omega arith) f))
  where
    deeper : 2 ≤ above → (x ≡ c) ⊎ ((above ≡ 1) × (entries ≡ 1) × (x + 1 ≡ c)) → m + x ≡ c * (n + 1)
    deeper h (inl e) = omega (arith, below.0 (omega arith))
    deeper h (inr t) = absurd (omega (arith, t.0))

    next : above ≡ 1 → (x ≡ c) ⊎ ((above ≡ 1) × (entries ≡ 1) × (x + 1 ≡ c)) → (m + x ≡ c * (n + 1)) ⊎ ((m + x + 1 ≡ c * (n + 1)) × (entries ≡ 1))
    next h (inl e) = inl (omega (arith, below.0 (omega arith)))
    next h (inr t) = inr (omega (arith, below.0 (omega arith), t.2), t.1)

above_more : (c above entries x : ℕ) → count_fits false c above entries x ≡ true → Above above entries → Above (above + 1) (entries + x)
above_more c above entries x f a = (λ h. absurd (omega arith), λ _. go (ℕ_discrete above 0))
  where
    go : Dec (above ≡ 0) → 1 ≤ entries + x
    go (yes e) = omega (arith, fitting_head c above entries x e f)
    go (no ne) = omega (arith, a.1 (omega arith))

-- so many entries stand below their top
under_below : (c above entries n m : ℕ) → Above above entries → Under c above entries n m → entries_below c (above + n) (entries + m) n ≡ m
under_below c above entries n m a u = place (dec_lt above 1) (dec_lt above 2)
  where
    one : above ≡ 1 → (m ≡ c * n) ⊎ ((m + 1 ≡ c * n) × (entries ≡ 1)) → (b : Bool) → is_fragmented c (above + n) (entries + m) ≡ b → entries_below c (above + n) (entries + m) n ≡ m
    one h (inl e) true f =
        let t = fragmented_is c (above + n) (entries + m) f in
        let under : c * (above + n - 1) ≡ c * n = ap (λ (i : ℕ). c * i) last in
        absurd (omega (arith, t.1, a.1 (omega arith)))
      where
        last : above + n - 1 ≡ n
        last = omega arith
    one h (inl e) false f = sym (below-head c (above + n) (entries + m) n (omega arith) f) ∙ sym e
    one h (inr t) true f = sym (below-fragmented c (above + n) (entries + m) n (omega arith) f) ∙ omega (arith, t.1)
    one h (inr t) false f =
        let some : 1 ≤ n = times_positive c n (omega (arith, t.0)) in
        let under : c * (above + n - 1) ≡ c * n = ap (λ (i : ℕ). c * i) last in
        absurd (not_fragmented c (above + n) (entries + m) f (omega arith) (omega (arith, t.0, t.1)))
      where
        last : above + n - 1 ≡ n
        last = omega arith

    place : Dec (above < 1) → Dec (above < 2) → entries_below c (above + n) (entries + m) n ≡ m
    place (yes y) d = sym (below_all c (above + n) (entries + m) n (omega arith)) ∙ omega (arith, a.0 (omega arith))
    place (no n1) (yes y) = one (omega arith) (u.1 (omega arith)) (is_fragmented c (above + n) (entries + m)) refl
    place (no n1) (no n2) = sym (below_inner c (above + n) (entries + m) n (omega arith)) ∙ sym (u.0 (omega arith))

-- the previous numbers of a list with one more page on top
previous-append : (ns : List ℕ) (p j : ℕ) → j ≤ length ns → previous (ns ++ (p ∷ [])) j ≡ previous ns j
previous-append ns p zero h = refl
previous-append ns p (suc j) h =
    let e : suc j - 1 ≡ j = omega arith in
    rw (ne_eqb (suc j) 0 (omega arith), e) (get_or-append ns (p ∷ []) 0 j (omega arith))

previous_last : (ns : List ℕ) (p : ℕ) → previous (ns ++ (p ∷ [])) (length (ns ++ (p ∷ []))) ≡ p
previous_last ns p =
    let e : length (ns ++ (p ∷ [])) ≡ suc (length ns) = length-append ns (p ∷ []) ∙ add-one (length ns) in
    let f : suc (length ns) - 1 ≡ length ns = omega arith in
    rw (e, ne_eqb (suc (length ns)) 0 (omega arith), f) (get_or_at ns p [] 0 (length ns) refl)

part-append : (from n : ℕ) (ns more : List ℕ) → from + n ≤ length ns → take n (drop from (ns ++ more)) ≡ take n (drop from ns)
part-append from n ns more h = rw (drop-append-le from ns more (omega arith), take-append-le n (drop from ns) more (omega (arith, length-drop from ns)))

-- the pages that were read, within a list of P pages and L entries: the number of the page under each, and its entries
record Chained (s : ℕ) (store : List ℕ) (P L p : ℕ) (l : FreeList) : Type 0 where
  top : p ≡ previous l.pages (length l.pages)
  before : (j : ℕ) → j < length l.pages → prev_of (page_at s store (get_or l.pages j 0)) ≡ previous l.pages j
  order : (j : ℕ) → j < length l.pages → entries_below (capacity s) P L j ≤ entries_below (capacity s) P L (j + 1)
  within : (j : ℕ) → j < length l.pages → entries_below (capacity s) P L (j + 1) ≤ length l.entries
  part : (j : ℕ) → j < length l.pages → entries_of (page_at s store (get_or l.pages j 0))
      ≡ take (entries_below (capacity s) P L (j + 1) - entries_below (capacity s) P L j) (drop (entries_below (capacity s) P L j) l.entries)

-- one page more
module _ (s : ℕ) (store : List ℕ) (P L p : ℕ) (l : FreeList) where
  abbrev page : List ℕ
  page = page_at s store p

  abbrev on_it : FreeList
  on_it = on_top p (entries_of page) l

  abbrev up_to : ℕ → ℕ
  up_to n = entries_below (capacity s) P L n

  module _ (c : Chained s store P L (prev_of page) l) (here : up_to (length l.pages) ≡ length l.entries)
      (next : up_to (length l.pages + 1) ≡ length l.entries + count_of page) where
    many : length on_it.pages ≡ length l.pages + 1
    many = length-append l.pages (p ∷ [])

    all : length on_it.entries ≡ length l.entries + count_of page
    all = length-append l.entries (entries_of page) ∙ ap (λ (n : ℕ). length l.entries + n) (length-entries_of page)

    -- what holds of the pages below and of the page on top, holds of all
    each : (Q : ℕ → Type 0) → ((j : ℕ) → j < length l.pages → Q j) → Q (length l.pages) → (j : ℕ) → j < length on_it.pages → Q j
    each Q f q j h = go (ℕ_discrete (length l.pages) j)
      where
        go : Dec (length l.pages ≡ j) → Q j
        go (yes e) = subst Q e q
        go (no ne) = f j (omega (arith, many))

    at_below : (j : ℕ) → j < length l.pages → get_or on_it.pages j 0 ≡ get_or l.pages j 0
    at_below j h = get_or-append l.pages (p ∷ []) 0 j h

    at_top : get_or on_it.pages (length l.pages) 0 ≡ p
    at_top = get_or_at l.pages p [] 0 (length l.pages) refl

    part_top : entries_of page ≡ take (up_to (length l.pages + 1) - up_to (length l.pages)) (drop (up_to (length l.pages)) on_it.entries)
    part_top =
        let few : length l.entries + count_of page - length l.entries ≡ length (entries_of page) = omega (arith, length-entries_of page) in
        rw (next, here, few, drop_at l.entries (entries_of page) (length l.entries) refl) (sym (take-length (entries_of page)))

    chained_more : Chained s store P L p on_it
    chained_more =
        record {
          top = sym (previous_last l.pages p);
          before = each (λ (j : ℕ). prev_of (page_at s store (get_or on_it.pages j 0)) ≡ previous on_it.pages j)
              (λ j h. ap (λ (n : ℕ). prev_of (page_at s store n)) (at_below j h) ∙ c.before j h ∙ sym (previous-append l.pages p j (omega arith)))
              (ap (λ (n : ℕ). prev_of (page_at s store n)) at_top ∙ c.top ∙ sym (previous-append l.pages p (length l.pages) (omega arith)));
          order = each (λ (j : ℕ). up_to j ≤ up_to (j + 1)) c.order (omega arith);
          within = each (λ (j : ℕ). up_to (j + 1) ≤ length on_it.entries) (λ j h. omega (arith, c.within j h, all)) (omega (arith, all));
          part = each (λ (j : ℕ). entries_of (page_at s store (get_or on_it.pages j 0)) ≡ take (up_to (j + 1) - up_to j) (drop (up_to j) on_it.entries))
              (λ j h. ap (λ (n : ℕ). entries_of (page_at s store n)) (at_below j h)
              ∙ c.part j h
              ∙ sym (part-append (up_to j) (up_to (j + 1) - up_to j) l.entries (entries_of page) (omega (arith, c.order j h, c.within j h))))
              (ap (λ (n : ℕ). entries_of (page_at s store n)) at_top ∙ part_top);
        }

-- every list that is read, page by page
abbrev Reads : (s : ℕ) (store : List ℕ) → ℕ → ℕ → ℕ → FreeList → Type 0
Reads s store above entries p l =
    Under (capacity s) above entries (length l.pages) (length l.entries)
    × (Above above entries → (P L : ℕ) → P ≡ above + length l.pages → L ≡ entries + length l.entries → Chained s store P L p l)

module _ (s : ℕ) (store : List ℕ) where
  reads_none : (above entries : ℕ) → Reads s store above entries 0 empty_list
  reads_none above entries = (
    (λ _. sym (mul-zero (capacity s)), λ _. inl (sym (mul-zero (capacity s)))),
    λ a P L e f. record {
      top = refl;
      before = λ j h. absurd (omega arith);
      order = λ j h. absurd (omega arith);
      within = λ j h. absurd (omega arith);
      part = λ j h. absurd (omega arith);
    },
  )

  reads_more : (above entries p : ℕ) (l : FreeList) → 1 ≤ p → p < page_count s store
      → count_fits false (capacity s) above entries (count_of (page_at s store p)) ≡ true
      → all_entries_fit (page_count s store) (entries_of (page_at s store p)) ≡ true
      → Reads s store (above + 1) (entries + count_of (page_at s store p)) (prev_of (page_at s store p)) l
      → Reads s store above entries p (on_top p (entries_of (page_at s store p)) l)
  reads_more above entries p l one inside fits entries_fit below =
      let x = count_of (page_at s store p) in
      let n = length l.pages in
      let m = length l.entries in
      let pages : length (l.pages ++ (p ∷ [])) ≡ n + 1 = length-append l.pages (p ∷ []) in
      let all : length (l.entries ++ entries_of (page_at s store p)) ≡ m + x =
      length-append l.entries (entries_of (page_at s store p)) ∙ ap (λ (i : ℕ). length l.entries + i) (length-entries_of (page_at s store p)) in
      let under : Under (capacity s) above entries (n + 1) (m + x) = under_more (capacity s) above entries n m x fits below.0 in (
        rw (pages, all) under,
        λ a P L e f.
            let more = above_more (capacity s) above entries x fits a in
            let P-is : above + 1 + n ≡ P = omega arith in
            let L-is : entries + x + m ≡ L = omega arith in
            let P-on : above + (n + 1) ≡ P = omega arith in
            let L-on : entries + (m + x) ≡ L = omega arith in
            chained_more s store P L p l (below.1 more P L (sym P-is) (sym L-is))
            (ap₂ (λ (i j : ℕ). entries_below (capacity s) i j n) (sym P-is) (sym L-is) ∙ under_below (capacity s) (above + 1) (entries + x) n m more below.0)
            (ap₂ (λ (i j : ℕ). entries_below (capacity s) i j (n + 1)) (sym P-on) (sym L-on) ∙ under_below (capacity s) above entries (n + 1) (m + x) a under),
      )

  -- no more pages are read than allowed
  none_read : (allowed above entries : ℕ) {l : FreeList} → read_from s store false allowed above entries 0 ≡ answer l → length l.pages ≤ allowed
  none_read allowed above entries {l} e =
      let same : empty_list ≡ l = unanswer (sym (read_from_end s store false allowed above entries) ∙ e) in
      rw (← same) (omega arith)

  read_few : (allowed above entries p : ℕ) (l : FreeList) → read_from s store false allowed above entries p ≡ answer l → length l.pages ≤ allowed
  read_few zero above entries zero l e = none_read zero above entries e
  read_few zero above entries (suc q) l e = absurd (none_allowed s store false above entries q e)
  read_few (suc allowed) above entries zero l e = none_read (suc allowed) above entries e
  read_few (suc allowed) above entries (suc q) l e =
      let r = page_read s store false allowed above entries q e in
      omega (arith, ap (λ (m : FreeList). length m.pages) r.whole, length-append r.below.pages (suc q ∷ []), read_few allowed _ _ _ r.below r.reads)

  -- A list that was read from a store is held by it, and its head is the page that it was read from.
  module _ (head : ℕ) (l : FreeList) (read : list_from s store false head ≡ answer l) where
    chained : Chained s store (length l.pages) (length l.entries) head l
    unfolding list_from
    chained =
        (read_elim s store false (Reads s store) reads_none reads_more (page_count s store) 0 0 head l read).1
        (λ _. refl, λ h. absurd (omega arith)) (length l.pages) (length l.entries) (omega arith) (omega arith)

    chained_few : length l.pages ≤ page_count s store
    unfolding list_from
    chained_few = read_few (page_count s store) 0 0 head l read

    chained_entries : (j : ℕ) → j < length l.pages → entries_of (page_at s store (get_or l.pages j 0)) ≡ entries_on (capacity s) l j
    unfolding entries_on
    chained_entries j h = chained.part j h

    pub stored-read : StoredList s store l
    stored-read =
        let a = read_accepted s store head l read in
        record {
          shape = a.shape;
          few = chained_few;
          inside = λ j h. a.pages_inside (get_or l.pages j 0) (get_d-mem l.pages j h);
          before = chained.before;
          entries = chained_entries;
          entries_inside = a.entries_inside;
        }

    pub head_read : head ≡ head_of l
    unfolding head_of
    head_read = chained.top ∙ go (length l.pages) refl
      where
        go : (n : ℕ) → length l.pages ≡ n → previous l.pages (length l.pages) ≡ get_or l.pages (length l.pages - 1) 0
        go zero e = rw e (sym (get_or-eq_default l.pages 0 (omega arith)))
        go (suc n) e = rw (ne_eqb (length l.pages) 0 (omega arith))
