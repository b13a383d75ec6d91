-- A list that is read is accepted: it has the shape, its numbers are pages of the store, and none is 0.
use Prim.Native.Nat.{ℕ, zero, suc, ◌+◌, ◌*◌, ◌-◌, ◌<◌, ◌≤◌}
use native.Mathlib.Nat.{mul-suc, mul-zero, zero-sub}
use native.Mathlib.Omega.{arith}
use mathlib.Core.Path.{◌≡◌, refl, sym}
use mathlib.Core.Logic.{◌⊎◌, inl, inr, ⊎_elim}
use mathlib.Core.Bool.{Bool, true, false, ◌&&◌, ◌||◌}
use mathlib.Core.List.Memᴰ
use mathlib.Core.List.{List, [], ◌∷◌, ◌++◌, Memᴰ}
use lib.Dec.{leb, ltb, eqb}
use lib.ListN.{length, length-append}
use borrow.Author.Tests.{le-leb, leb-true, ltb-true, eqb-true, eqb-false}
use Rattle.refusal.specs.Outcome.{answer}
use Rattle.laws.proofs.ProductLaws.{times_less}
use Rattle.laws.proofs.Tests.{cond_cases, and-true, or-true, or_true_right}
use Rattle.page.specs.PageSize.{capacity}
use Rattle.page.specs.Pages.{page_count, page_at}
use Rattle.free_list.specs.ListPages.{count_of, entries_of}
use Rattle.free_list.specs.Shape.{FreeList, is_shape}
use Rattle.free_list.specs.StoredList.{Inside}
use Rattle.free_list.specs.Reading.{count_fits, all_entries_fit, read_from, list_from}
use Rattle.free_list.proofs.ListPagesLaws.{length-entries_of}
use Rattle.free_list.proofs.ReadingLaws.{read_elim}

-- ---- the shape

-- the counts of a list of k pages and n entries below `above` pages with `entries` entries: every page is whole; but the page under
-- a head of one entry may lack one; and the head of the list holds at least one entry
abbrev Counts : ℕ → ℕ → ℕ → ℕ → ℕ → Type 0
Counts c above entries k n =
    (2 ≤ above → n ≡ c * k)
    × (above ≡ 1 → (n ≡ c * k) ⊎ ((n + 1 ≡ c * k) × (entries ≡ 1)))
    × (above ≡ 0 → entries ≡ 0 → ((k ≡ 0) × (n ≡ 0)) ⊎ ((1 ≤ n) × (c * k ≤ n + c) × (n ≤ c * k)))

-- what a count that fits its place says
data Fitting (c above entries m : ℕ) : Type 0 where
  on_head : above ≡ 0 → 1 ≤ m → m ≤ c → Fitting c above entries m
  is_whole : 1 ≤ above → m ≡ c → Fitting c above entries m
  lacks_one : above ≡ 1 → entries ≡ 1 → m + 1 ≡ c → Fitting c above entries m

fitting : (c above entries m : ℕ) → count_fits false c above entries m ≡ true → Fitting c above entries m
unfolding count_fits
fitting c above entries m e =
    cond_cases (λ b. b ≡ true → Fitting c above entries m) (eqb above 0) (leb 1 m && leb m c) (eqb m c || (eqb above 1 && (eqb entries 1 && eqb (m + 1) c)))
    (λ z h. first z (and-true (leb 1 m) (leb m c) h)) (λ z h. later z (or-true (eqb m c) _ h)) e
  where
    first : eqb above 0 ≡ true → (leb 1 m ≡ true) × (leb m c ≡ true) → Fitting c above entries m
    first z t = on_head (eqb-true above 0 z) (leb-true 1 m t.0) (leb-true m c t.1)

    under : (eqb above 1 ≡ true) × (eqb entries 1 && eqb (m + 1) c ≡ true) → Fitting c above entries m
    under t =
        let u = and-true (eqb entries 1) (eqb (m + 1) c) t.1 in
        lacks_one (eqb-true above 1 t.0) (eqb-true entries 1 u.0) (eqb-true (m + 1) c u.1)

    later : eqb above 0 ≡ false → (eqb m c ≡ true) ⊎ (eqb above 1 && (eqb entries 1 && eqb (m + 1) c) ≡ true) → Fitting c above entries m
    later z (inl k) = is_whole (omega (arith, eqb-false above 0 z)) (eqb-true m c k)
    later z (inr k) = under (and-true (eqb above 1) _ k)

-- one page more
counts_more : (c above entries k n m : ℕ) → Fitting c above entries m → Counts c (above + 1) (entries + m) k n → Counts c above entries (k + 1) (n + m)
counts_more c above entries k n m (on_head z one most) below = (λ h. absurd (omega arith), λ h. absurd (omega arith), λ _ e. inr (under e (below.1 (omega arith))))
  where
    under : entries ≡ 0 → (n ≡ c * k) ⊎ ((n + 1 ≡ c * k) × (entries + m ≡ 1)) → (1 ≤ n + m) × (c * (k + 1) ≤ n + m + c) × (n + m ≤ c * (k + 1))
    under e (inl whole) = omega arith
    under e (inr less) = omega arith
counts_more c above entries k n m (is_whole h e) below =
    let n-whole : n ≡ c * k = below.0 (omega arith) in
    (λ _. omega arith, λ _. inl (omega arith), λ z. absurd (omega arith))
counts_more c above entries k n m (lacks_one h one e) below =
    let n-whole : n ≡ c * k = below.0 (omega arith) in
    (λ two. absurd (omega arith), λ _. inr (omega arith, one), λ z. absurd (omega arith))

read_counts : (s : ℕ) (store : List ℕ) (allowed above entries p : ℕ) (l : FreeList) → read_from s store false allowed above entries p ≡ answer l
    → Counts (capacity s) above entries (length l.pages) (length l.entries)
read_counts s store =
    read_elim s store false (λ above entries p l. Counts (capacity s) above entries (length l.pages) (length l.entries)) none more
  where
    none : (above entries : ℕ) → Counts (capacity s) above entries 0 0
    none above entries = (λ _. sym (mul-zero (capacity s)), λ _. inl (sym (mul-zero (capacity s))), λ _ _. inl (refl, refl))

    more : (above entries p : ℕ) (l : FreeList) → 1 ≤ p → p < page_count s store
        → count_fits false (capacity s) above entries (count_of (page_at s store p)) ≡ true
        → all_entries_fit (page_count s store) (entries_of (page_at s store p)) ≡ true
        → Counts (capacity s) (above + 1) (entries + count_of (page_at s store p)) (length l.pages) (length l.entries)
        → Counts (capacity s) above entries (length (l.pages ++ (p ∷ []))) (length (l.entries ++ entries_of (page_at s store p)))
    more above entries p l h inside fits entries_fit below =
        rw (length-append l.pages (p ∷ []), length-append l.entries (entries_of (page_at s store p)), length-entries_of)
        (counts_more (capacity s) above entries (length l.pages) (length l.entries) (count_of (page_at s store p)) (fitting _ _ _ _ fits) below)

-- ---- the numbers

pub entries_fit_inside : (count : ℕ) (ns : List ℕ) → all_entries_fit count ns ≡ true → (n : ℕ) → Memᴰ n ns → Inside count n
unfolding all_entries_fit
entries_fit_inside count [] e n m = absurd (Memᴰ.not-nil m)
entries_fit_inside count (x ∷ xs) e n m =
    let t = and-true (leb 1 x && ltb x count) (all_entries_fit count xs) e in
    let u = and-true (leb 1 x) (ltb x count) t.0 in
    at u.0 u.1 (Memᴰ.cases_cons m) (entries_fit_inside count xs t.1 n)
  where
    at : leb 1 x ≡ true → ltb x count ≡ true → (n ≡ x) ⊎ Memᴰ n xs → (Memᴰ n xs → Inside count n) → Inside count n
    at one below (inl e) rest = rw e (leb-true 1 x one, ltb-true x count below)
    at one below (inr m) rest = rest m

-- every page and every entry of the list
abbrev All : (ℕ → Type 0) → List ℕ → Type 0
All Q ns = (n : ℕ) → Memᴰ n ns → Q n

all_append : (Q : ℕ → Type 0) (ms ns : List ℕ) → All Q ms → All Q ns → All Q (ms ++ ns)
all_append Q ms ns f g n m = ⊎_elim (f n) (g n) (Memᴰ.append_cases ms m)

pub read_inside : (s : ℕ) (store : List ℕ) (loose : Bool) (allowed above entries p : ℕ) (l : FreeList) → read_from s store loose allowed above entries p ≡ answer l
    → All (Inside (page_count s store)) l.pages × All (Inside (page_count s store)) l.entries
read_inside s store loose =
    read_elim s store loose (λ above entries p l. All (Inside (page_count s store)) l.pages × All (Inside (page_count s store)) l.entries)
    (λ above entries. (λ n m. absurd (Memᴰ.not-nil m), λ n m. absurd (Memᴰ.not-nil m)))
    (λ above entries p l one inside fits entries_fit below. (
      all_append _ l.pages (p ∷ []) below.0 (λ n m. rw (Memᴰ.eq_of_singleton m) (one, inside)),
      all_append _ l.entries (entries_of (page_at s store p)) below.1 (entries_fit_inside (page_count s store) (entries_of (page_at s store p)) entries_fit),
    ))

-- ---- the law

-- what document 01 calls accepted
pub record Accepted (s : ℕ) (store : List ℕ) (l : FreeList) : Type 0 where
  pub shape : is_shape (capacity s) (length l.pages) (length l.entries) ≡ true
  pub pages_inside : (n : ℕ) → Memᴰ n l.pages → Inside (page_count s store) n
  pub entries_inside : (n : ℕ) → Memᴰ n l.entries → Inside (page_count s store) n

-- the shape in bounds: the entries fit on the pages, on no fewer than one page less, and with no entries there is no page
pub record Shaped (c P L : ℕ) : Type 0 where
  pub most : L ≤ c * P
  pub least : c * P ≤ L + c
  pub under : c * (P - 1) ≤ L
  pub none : L ≡ 0 → P ≡ 0

pub shaped : (c P L : ℕ) → is_shape c P L ≡ true → Shaped c P L
unfolding is_shape
shaped c P L e = go (or-true (eqb P 0 && eqb L 0) (leb 1 L && (leb (c * (P - 1)) L && leb L (c * P))) e)
  where
    page_more : (p : ℕ) → c * (p - 1) ≤ L → c * p ≤ L + c
    page_more zero h = omega (arith, mul-zero c)
    page_more (suc p) h = omega (arith, times_less c (suc p) (omega arith))

    go : (eqb P 0 && eqb L 0 ≡ true) ⊎ (leb 1 L && (leb (c * (P - 1)) L && leb L (c * P)) ≡ true) → Shaped c P L
    go (inl x) =
        let t = and-true (eqb P 0) (eqb L 0) x in
        let p : P ≡ 0 = eqb-true P 0 t.0 in
        let n : L ≡ 0 = eqb-true L 0 t.1 in
        record { most = omega arith; least = rw (p, mul-zero c) (omega arith); under = rw (p, n, zero-sub 1, mul-zero c) (omega arith); none = λ _. p }
    go (inr y) =
        let t = and-true (leb 1 L) (leb (c * (P - 1)) L && leb L (c * P)) y in
        let u = and-true (leb (c * (P - 1)) L) (leb L (c * P)) t.1 in
        record {
          most = leb-true L (c * P) u.1;
          least = page_more P (leb-true (c * (P - 1)) L u.0);
          under = leb-true (c * (P - 1)) L u.0;
          none = λ z. absurd (omega (arith, leb-true 1 L t.0));
        }

-- some entries, on as few pages as hold them or one more, are the shape
pub bounds_shape : (c P L : ℕ) → 1 ≤ L → c * P ≤ L + c → L ≤ c * P → is_shape c P L ≡ true
unfolding is_shape
bounds_shape c P L some few most = rw (le-leb 1 L some, le-leb (c * (P - 1)) L (page_less P few), le-leb L (c * P) most) (or_true_right (eqb P 0 && eqb L 0))
  where
    page_less : (n : ℕ) → c * n ≤ L + c → c * (n - 1) ≤ L
    page_less zero h = rw (zero-sub 1, mul-zero) (omega arith)
    page_less (suc n) h =
        let e : suc n - 1 ≡ n = omega arith in
        rw e (omega (arith, mul-suc c n))

-- the counts of a whole list are those of the shape
counts_shape : (c P L : ℕ) → ((P ≡ 0) × (L ≡ 0)) ⊎ ((1 ≤ L) × (c * P ≤ L + c) × (L ≤ c * P)) → is_shape c P L ≡ true
unfolding is_shape
counts_shape c P L (inl e) = rw (e.0, e.1)
counts_shape c P L (inr h) = bounds_shape c P L h.0 h.1 h.2

pub read_accepted : (s : ℕ) (store : List ℕ) (head : ℕ) (l : FreeList) → list_from s store false head ≡ answer l → Accepted s store l
unfolding list_from
read_accepted s store head l e =
    let inside = read_inside s store false (page_count s store) 0 0 head l e in
    record {
      shape = counts_shape _ _ _ ((read_counts s store (page_count s store) 0 0 head l e).2 refl refl);
      pages_inside = inside.0;
      entries_inside = inside.1;
    }
