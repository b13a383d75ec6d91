-- A list that stands in a store is read from its head.
use Prim.Native.Nat.{ℕ, zero, suc, ◌+◌, ◌*◌, ◌-◌, ◌<◌, ◌≤◌}
use native.Mathlib.Nat.{mul-zero}
use native.Mathlib.Decide.{dec_lt}
use native.Mathlib.Numerals.{add-one}
use native.Mathlib.Omega.{arith}
use mathlib.Core.Path.{◌≡◌, refl, ap, ap₂, sym, ◌∙◌, subst}
use mathlib.Core.Bool.{true, false}
use mathlib.Core.List.{List, [], ◌∷◌, ◌++◌}
use lib.ListN.{length, get_or, take, drop, length-drop, get_or-eq_default}
use lib.Seq.{take-suc, take-add, take-length, length-take-le}
use borrow.Author.Tests.{lt-ltb, ne_eqb}
use Rattle.refusal.specs.Outcome.{answer}
use Rattle.page.specs.PageSize.{capacity}
use Rattle.page.specs.Pages.{page_count, page_at}
use Rattle.free_list.specs.ListPages.{count_of}
use Rattle.free_list.specs.Shape.{FreeList, entries_below, entries_on, head_of, previous}
use Rattle.free_list.specs.StoredList.{StoredList}
use Rattle.free_list.specs.Reading.{empty_list, on_top, count_fits, all_entries_fit, read_from, list_from}
use Rattle.free_list.proofs.ListPagesLaws.{length-entries_of}
use Rattle.free_list.proofs.ReadingLaws.{read_from-page, read_from_end}
use Rattle.free_list.proofs.ShapeLaws.{shaped}
use Rattle.free_list.proofs.BelowLaws.{below_all, OnPage, on_page}
use Rattle.free_list.proofs.FittingLaws.{count_fits_lem, below_none, fit_part}

module _ (s : ℕ) (store : List ℕ) (m : FreeList) (two : 2 ≤ capacity s) (stored : StoredList s store m) where
  abbrev c : ℕ
  c = capacity s

  abbrev P : ℕ
  P = length m.pages

  abbrev L : ℕ
  L = length m.entries

  abbrev below : ℕ → ℕ
  below n = entries_below c P L n

  -- the lowest n pages
  abbrev lowest : ℕ → FreeList
  lowest n = record { pages = take n m.pages; entries = take (below n) m.entries }

  some_entries : 1 ≤ P → 1 ≤ L
  some_entries h = go (dec_lt 0 L)
    where
      go : Dec (0 < L) → 1 ≤ L
      go (yes y) = omega arith
      go (no n) = absurd (omega (arith, (shaped c P L stored.shape).none (omega arith)))

  no_entries : P ≡ 0 → L ≡ 0
  no_entries e =
      let none : c * P ≡ 0 = ap (λ (n : ℕ). c * n) e ∙ mul-zero c in
      omega (arith, (shaped c P L stored.shape).most)

  module _ (n : ℕ) (h : n < P) where
    page_of : OnPage c L (below n) (below (n + 1))
    page_of = on_page c P L two (some_entries (omega arith)) (shaped c P L stored.shape).most (shaped c P L stored.shape).under n h

    page_fits : count_fits false c (P - (n + 1)) (L - below (n + 1)) (below (n + 1) - below n) ≡ true
    page_fits = count_fits_lem c P L two (some_entries (omega arith)) (shaped c P L stored.shape).most (shaped c P L stored.shape).under n h

    entries_are : entries_on c m n ≡ take (below (n + 1) - below n) (drop (below n) m.entries)
    unfolding entries_on
    entries_are = refl

    length_entries : length (entries_on c m n) ≡ below (n + 1) - below n
    length_entries =
        let o = page_of in
        ap length entries_are
        ∙ length-take-le (below (n + 1) - below n) (drop (below n) m.entries) (omega (arith, length-drop (below n) m.entries))

    count_is : count_of (page_at s store (get_or m.pages n 0)) ≡ below (n + 1) - below n
    count_is = sym (length-entries_of (page_at s store (get_or m.pages n 0))) ∙ ap length (stored.entries n h) ∙ length_entries

    -- one page more
    lowest_more : on_top (get_or m.pages n 0) (entries_on c m n) (lowest n) ≡ lowest (n + 1)
    lowest_more =
        let o = page_of in
        let pages : take n m.pages ++ (get_or m.pages n 0 ∷ []) ≡ take (n + 1) m.pages =
        sym (take-suc m.pages n 0 h) ∙ ap (λ (i : ℕ). take i m.pages) (sym (add-one n)) in
        let sum : below n + (below (n + 1) - below n) ≡ below (n + 1) = omega arith in
        let entries : take (below n) m.entries ++ entries_on c m n ≡ take (below (n + 1)) m.entries =
        ap (λ (ns : List ℕ). take (below n) m.entries ++ ns) entries_are
        ∙ sym (take-add (below n) (below (n + 1) - below n) m.entries)
        ∙ ap (λ (i : ℕ). take i m.entries) sum in
        λ i. record { pages = pages i; entries = entries i }

    -- reading from it, where the pages below it are read
    read_more : (allowed : ℕ) → 1 ≤ allowed
        → read_from s store false (allowed - 1) (P - n) (L - below n) (previous m.pages n) ≡ answer (lowest n)
        → read_from s store false allowed (P - (n + 1)) (L - below (n + 1)) (get_or m.pages n 0) ≡ answer (lowest (n + 1))
    read_more allowed more under =
        let o = page_of in
        let above : P - (n + 1) + 1 ≡ P - n = omega arith in
        let all : L - below (n + 1) + (below (n + 1) - below n) ≡ L - below n = omega arith in
        let fit : all_entries_fit (page_count s store) (entries_on c m n) ≡ true = rw entries_are (fit_part (page_count s store) (below (n + 1) - below n) (below n) m.entries stored.entries_inside) in
        read_from-page s store false allowed (P - (n + 1)) (L - below (n + 1)) (get_or m.pages n 0) more (stored.inside n h).0
        ∙ rw (
          lt-ltb (get_or m.pages n 0) (page_count s store) (stored.inside n h).1,
          count_is,
          page_fits,
          stored.entries n h,
          fit,
          stored.before n h,
          above,
          all,
          under,
        )
        (ap answer lowest_more)

  previous_suc : (n : ℕ) → previous m.pages (suc n) ≡ get_or m.pages n 0
  previous_suc n =
      let e : suc n - 1 ≡ n = omega arith in
      rw (ne_eqb (suc n) 0 (omega arith), e)

  -- the lowest n pages are read
  read_lowest : (n : ℕ) → n ≤ P → (allowed : ℕ) → n ≤ allowed → read_from s store false allowed (P - n) (L - below n) (previous m.pages n) ≡ answer (lowest n)
  read_lowest zero h allowed enough =
      let e : empty_list ≡ lowest 0 = rw (below_none c P L no_entries) in
      read_from_end s store false allowed (P - 0) (L - below 0) ∙ ap answer e
  read_lowest (suc n) h allowed enough =
      ap (λ (p : ℕ). read_from s store false allowed (P - suc n) (L - below (suc n)) p) (previous_suc n)
      ∙ subst (λ (i : ℕ). read_from s store false allowed (P - i) (L - below i) (get_or m.pages n 0) ≡ answer (lowest i)) (add-one n)
      (read_more n (omega arith) allowed (omega arith) (read_lowest n (omega arith) (allowed - 1) (omega arith)))

  -- all pages are
  lowest_all : lowest P ≡ m
  lowest_all =
      let pages : take P m.pages ≡ m.pages = take-length m.pages in
      let entries : take (below P) m.entries ≡ m.entries = rw (← below_all c P L P (omega arith)) (take-length m.entries) in
      λ i. record { pages = pages i; entries = entries i }

  -- A list that a store holds is read, from its head.
  pub read_stored : list_from s store false (head_of m) ≡ answer m
  unfolding list_from head_of
  read_stored =
      let none : P - P ≡ 0 = omega arith in
      let all : L - below P ≡ 0 = omega (arith, below_all c P L P (omega arith)) in
      ap (λ (p : ℕ). read_from s store false (page_count s store) 0 0 p) (head_is P refl)
      ∙ ap₂ (λ (a e : ℕ). read_from s store false (page_count s store) a e (previous m.pages P)) (sym none) (sym all)
      ∙ read_lowest P (omega arith) (page_count s store) stored.few
      ∙ ap answer lowest_all
    where
      head_is : (n : ℕ) → P ≡ n → get_or m.pages (P - 1) 0 ≡ previous m.pages P
      head_is zero e = get_or-eq_default m.pages 0 (omega arith) ∙ rw e
      head_is (suc n) e = rw (ne_eqb P 0 (omega arith))
