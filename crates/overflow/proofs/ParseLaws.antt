-- A page of a walk: what it is to be taken, and a page of a store, test by test, in the numbers of the code.
use Prim.Native.Nat.{ℕ, ◌+◌, ◌*◌, ◌/◌, ◌<◌, ◌≤◌}
use mathlib.Core.Path.{◌≡◌, sym, ◌∙◌, ap}
use mathlib.Core.Logic.{◌≢◌}
use mathlib.Core.List.{List, [], ◌∷◌}
use native.Mathlib.Nat.{div-zero}
use native.Mathlib.Decide.{dec_lt}
use native.Mathlib.Omega.{arith}
use borrow.Author.Tests.{le-leb, lt-leb, le-ltb, lt-ltb, ltb-true, leb-true}
use lib.Dec.{leb, ltb}
use lib.ListN.{length, drop, length-drop, length-take}
use lib.Seq.{length-take-le}
use Rattle.refusal.specs.Outcome.{answer, refused}
use Rattle.refusal.proofs.OutcomeLaws.{unanswer, check_answer, with_answer_answer}
use Rattle.page.specs.PageSize.{IsPageSize}
use Rattle.page.specs.Pages.{page_count, page_at}
use Rattle.page.proofs.BytesLaws.{length-numbers_at}
use Rattle.page.proofs.PageSizeLaws.{page_least}
use Rattle.page.proofs.PagesLaws.{page_within_lem, length-page_at}
use Rattle.overflow.specs.Totals.{body}
use Rattle.overflow.specs.ValuePages.{number_count, byte_count, value_numbers, value_bytes, numbers_within, bytes_within}
use Rattle.overflow.specs.Reading.{Source, in_store, parse_page}
use Rattle.overflow.proofs.WithinLaws.{number_count_within, number_count_past, byte_count_within, byte_count_past}

-- ---- what a page has

-- numbers and value bytes that fit the body of a page
abbrev pub Fits : ℕ → List ℕ → Type 0
Fits s b = 4 * number_count b + byte_count b ≤ body s

-- and at least one of them
abbrev pub Some : List ℕ → Type 0
Some b = 1 ≤ number_count b + byte_count b

-- a source of pages of s bytes
abbrev pub Paged : ℕ → Source → Type 0
Paged s source = (i p : ℕ) (b : List ℕ) → source i p ≡ answer b → length b ≡ s

pub length-value_numbers : (b : List ℕ) → length (value_numbers b) ≡ number_count b
unfolding value_numbers
length-value_numbers b = length-numbers_at 4 b 4 (number_count b)

-- the value bytes of a page that fits are as many as it says
pub length-value_bytes : {s : ℕ} (b : List ℕ) → length b ≡ s → Fits s b → length (value_bytes b) ≡ byte_count b
unfolding value_bytes
length-value_bytes b long fits =
    length-take-le (byte_count b) (drop (4 + 4 * number_count b) b) (omega (arith, length-drop (4 + 4 * number_count b) b))

-- and never more
pub value_bytes_few : (b : List ℕ) → length (value_bytes b) ≤ byte_count b
unfolding value_bytes
value_bytes_few b = omega (arith, length-take (byte_count b) (drop (4 + 4 * number_count b) b))

-- and such a page has its header
pub fitting_numbers : {s : ℕ} (b : List ℕ) → length b ≡ s → Fits s b → numbers_within b ≡ number_count b
fitting_numbers b long fits = by_header (dec_lt (length b) 4)
  where
    by_header : Dec (length b < 4) → numbers_within b ≡ number_count b
    by_header (yes h) = omega (arith, number_count_past b h)
    by_header (no h) = number_count_within b (omega arith)

pub fitting_bytes : {s : ℕ} (b : List ℕ) → length b ≡ s → Fits s b → bytes_within b ≡ byte_count b
fitting_bytes b long fits = by_header (dec_lt (length b) 4)
  where
    by_header : Dec (length b < 4) → bytes_within b ≡ byte_count b
    by_header (yes h) = omega (arith, byte_count_past b h)
    by_header (no h) = byte_count_within b (omega arith)

-- ---- a page that the walk takes

module _ (s : ℕ) (source : Source) (i p : ℕ) where
  pub record Parsed (b : List ℕ) : Type 0 where
    pub from : source i p ≡ answer b
    pub fits : Fits s b
    pub some : Some b

  pub parse_answer : {b : List ℕ} → parse_page s source i p ≡ answer b → Parsed b
  unfolding parse_page
  parse_answer e =
      let w = with_answer_answer _ (source i p) e in
      let x = check_answer (leb (4 * number_count w.0 + byte_count w.0) (body s)) 16 (i ∷ []) _ w.2 in
      let y = check_answer (leb 1 (number_count w.0 + byte_count w.0)) 25 (i ∷ []) (answer w.0) x.1 in
      record { from = w.1 ∙ y.1; fits = rw (unanswer y.1) at (leb-true _ (body s) x.0); some = rw (unanswer y.1) at (leb-true 1 _ y.0) }

  pub parse_takes : {b : List ℕ} → source i p ≡ answer b → Fits s b → Some b → parse_page s source i p ≡ answer b
  unfolding parse_page
  parse_takes e fits some = rw (e, le-leb _ (body s) fits, le-leb 1 _ some)

-- ---- the pages of a store

module _ (s : ℕ) (store : List ℕ) (i p : ℕ) where
  pub store_page : p < page_count s store → in_store s store i p ≡ answer (page_at s store p)
  unfolding in_store
  store_page h = rw (lt-ltb p (page_count s store) h)

  pub store_answer : {b : List ℕ} → in_store s store i p ≡ answer b → (p < page_count s store) × (page_at s store p ≡ b)
  unfolding in_store
  store_answer e =
      let x = check_answer (ltb p (page_count s store)) 15 (i ∷ []) (answer (page_at s store p)) e in
      (ltb-true p (page_count s store) x.0, unanswer x.1)

module _ (s : ℕ) (store : List ℕ) where
  -- a store has pages only at a size of one byte or more
  some_size : (p : ℕ) → p < page_count s store → 0 < s
  unfolding page_count
  some_size p h = by_size (dec_lt 0 s)
    where
      by_size : Dec (0 < s) → 0 < s
      by_size (yes some) = some
      by_size (no none) =
          let z : s ≡ 0 = omega arith in
          absurd (omega (arith, ap (λ (k : ℕ). length store / k) z ∙ div-zero (length store)))

  pub page_long : (p : ℕ) → p < page_count s store → length (page_at s store p) ≡ s
  page_long p h = length-page_at s store p (page_within_lem s store p (some_size p h) h)

  pub store_paged : Paged s (in_store s store)
  store_paged i p b e = let a = store_answer s store i p e in sym (ap length a.1) ∙ page_long p a.0

-- ---- test by test

module _ (s : ℕ) (store : List ℕ) (i p : ℕ) where
  pub page_missing : page_count s store ≤ p → refused 15 (i ∷ []) ≡ parse_page s (in_store s store) i p
  unfolding parse_page in_store
  page_missing h = rw (le-ltb p (page_count s store) h)

  module _ (size : IsPageSize s) (inside : p < page_count s store) {b : List ℕ} (is : b ≡ page_at s store p)
      {n m : ℕ} (numbers : n ≡ numbers_within b) (bytes : m ≡ bytes_within b) where
    reaches : 4 ≤ length b
    reaches = omega (arith, ap length is, page_long s store p inside, page_least size)

    numbers_are : number_count (page_at s store p) ≡ n
    numbers_are = ap number_count (sym is) ∙ sym (numbers ∙ number_count_within b reaches)

    bytes_are : byte_count (page_at s store p) ≡ m
    bytes_are = ap byte_count (sym is) ∙ sym (bytes ∙ byte_count_within b reaches)

    pub page_unfit : body s < 4 * n + m → refused 16 (i ∷ []) ≡ parse_page s (in_store s store) i p
    unfolding parse_page
    page_unfit h = rw (store_page s store i p inside, numbers_are, bytes_are, lt-leb (4 * n + m) (body s) h)

    module _ (fits : 4 * n + m ≤ body s) where
      pub page_empty : n + m ≡ 0 → refused 25 (i ∷ []) ≡ parse_page s (in_store s store) i p
      unfolding parse_page
      page_empty none = rw (store_page s store i p inside, numbers_are, bytes_are, le-leb (4 * n + m) (body s) fits, none)

      pub page_taken : n + m ≢ 0 → answer b ≡ parse_page s (in_store s store) i p
      unfolding parse_page
      page_taken some =
          rw (store_page s store i p inside, numbers_are, bytes_are, le-leb (4 * n + m) (body s) fits, le-leb 1 (n + m) (omega arith), is)
