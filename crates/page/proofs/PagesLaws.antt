-- Pages of a store: where they lie, what a longer store has, and what writing a page leaves alone.
use Prim.Native.Nat.{ℕ, suc, ◌+◌, ◌*◌, ◌-◌, ◌/◌, ◌^◌, ◌<◌, ◌≤◌}
use native.Mathlib.Omega.{arith}
use native.Mathlib.Nat.{le-div_iff_mul-le, div-mul-le_self, mul-le-mul_left}
use native.Mathlib.Decide.{dec_lt}
use mathlib.Core.Path.{◌≡◌, ap, sym, ◌∙◌, subst}
use mathlib.Core.Logic.{◌≢◌}
use mathlib.Core.List.{List, ◌++◌}
use lib.ListN.{length, get_or, take, drop, replicate, length-append, length-drop, length-replicate, get_or-append}
use lib.Seq.{get_or-append-add, length-take-le, get_or-take, get_or-drop, ext_get_or, take_at, drop_at}
use Rattle.page.specs.Pages.{page_count, page_at, Write, write_page}

-- ---- where pages lie

-- a page below the page count lies in the store
pub page_within_lem : (s : ℕ) (store : List ℕ) (p : ℕ) → 0 < s → p < page_count s store → s * p + s ≤ length store
unfolding page_count
page_within_lem s store p hs h =
    let q : p < length store / s = omega arith in
    omega (arith, (le-div_iff_mul-le {k = s} {x = suc p} {y = length store} hs).0 q)

-- a page number is one of 32 bits
pub page_count_fits : (s : ℕ) (store : List ℕ) → page_count s store < 2 ^ 32
unfolding page_count
page_count_fits s store = omega arith

-- a longer store has no fewer pages
pub page_count_mono : (s : ℕ) (store more : List ℕ) → 0 < s → length store ≤ length more → page_count s store ≤ page_count s more
unfolding page_count
page_count_mono s store more hs h =
    let q : length store / s ≤ length more / s = (le-div_iff_mul-le hs).1 (omega (arith, div-mul-le_self (length store) s)) in
    omega arith

-- a page that lies in the store has s bytes
pub length-page_at : (s : ℕ) (store : List ℕ) (p : ℕ) → s * p + s ≤ length store → length (page_at s store p) ≡ s
unfolding page_at
length-page_at s store p h = length-take-le s (drop (s * p) store) (omega (arith, length-drop (s * p) store))

-- byte i of page p
pub page_at_byte : (s : ℕ) (store : List ℕ) (p i : ℕ) → i < s → get_or (page_at s store p) i 0 ≡ get_or store (s * p + i) 0
unfolding page_at
page_at_byte s store p i h = get_or-take s (drop (s * p) store) i 0 h ∙ get_or-drop (s * p) store i 0

-- two stores that agree on the bytes of a page have the same page
pub page_at_same : (s : ℕ) (a b : List ℕ) (p : ℕ) → s * p + s ≤ length a → s * p + s ≤ length b
    → ((i : ℕ) → i < s → get_or a (s * p + i) 0 ≡ get_or b (s * p + i) 0) → page_at s a p ≡ page_at s b p
page_at_same s a b p ha hb same =
    ext_get_or 0 (page_at s a p) (page_at s b p) (length-page_at s a p ha ∙ sym (length-page_at s b p hb)) (λ i h. at i (subst (λ (k : ℕ). i < k) (length-page_at s a p ha) h))
  where
    at : (i : ℕ) → i < s → get_or (page_at s a p) i 0 ≡ get_or (page_at s b p) i 0
    at i h = page_at_byte s a p i h ∙ same i h ∙ sym (page_at_byte s b p i h)

-- a store that grew has the pages that it had
pub page_at-grown : (s : ℕ) (store extra : List ℕ) (p : ℕ) → s * p + s ≤ length store → page_at s (store ++ extra) p ≡ page_at s store p
page_at-grown s store extra p h =
    page_at_same s (store ++ extra) store p (omega (arith, length-append store extra)) h (λ i k. get_or-append store extra 0 (s * p + i) (omega arith))

-- ---- writing a page

module _ (s : ℕ) (store : List ℕ) (w : Write) (whole : length w.bytes ≡ s) where
  front : List ℕ
  front = take (s * w.number) (store ++ replicate (s * w.number) 0)

  length_front : length front ≡ s * w.number
  unfolding front
  length_front = length-take-le (s * w.number) (store ++ replicate (s * w.number) 0) (simp (length-append, length-replicate) (omega arith))

  before : (i : ℕ) → i < s * w.number → i < length store → get_or (write_page s store w) i 0 ≡ get_or store i 0
  unfolding write_page front
  before i h k =
      get_or-append front (w.bytes ++ drop (s * w.number + s) store) 0 i (omega (arith, length_front))
      ∙ get_or-take (s * w.number) (store ++ replicate (s * w.number) 0) i 0 h
      ∙ get_or-append store (replicate (s * w.number) 0) 0 i k

  past : (i : ℕ) → s * w.number + s ≤ i → get_or (write_page s store w) i 0 ≡ get_or store i 0
  unfolding write_page front
  past i h =
      let j : ℕ = i - (s * w.number + s) in
      let e : i ≡ length front + (length w.bytes + j) = omega (arith, length_front) in
      ap (λ (k : ℕ). get_or (front ++ (w.bytes ++ drop (s * w.number + s) store)) k 0) e
      ∙ get_or-append-add front (w.bytes ++ drop (s * w.number + s) store) (length w.bytes + j) 0
      ∙ get_or-append-add w.bytes (drop (s * w.number + s) store) j 0
      ∙ get_or-drop (s * w.number + s) store j 0
      ∙ ap (λ (k : ℕ). get_or store k 0) (omega arith)

  -- the store does not shrink, and the page lies in it
  pub length_written : (length store ≤ length (write_page s store w)) × (s * w.number + s ≤ length (write_page s store w))
  unfolding write_page front
  length_written =
      omega (arith, whole, length_front, length-append front (w.bytes ++ drop (s * w.number + s) store), length-append w.bytes (drop (s * w.number + s) store), length-drop (s * w.number + s) store)

  -- the page written is found
  pub page_same : page_at s (write_page s store w) w.number ≡ w.bytes
  unfolding page_at write_page front
  page_same =
      ap (take s) (drop_at front (w.bytes ++ drop (s * w.number + s) store) (s * w.number) length_front)
      ∙ take_at w.bytes (drop (s * w.number + s) store) s whole

  -- another page is as it was
  pub page_other : (p : ℕ) → p ≢ w.number → s * p + s ≤ length store → page_at s (write_page s store w) p ≡ page_at s store p
  page_other p ne h =
      page_at_same s (write_page s store w) store p (omega (arith, length_written)) h (λ i b. byte i b (dec_lt p w.number))
    where
      byte : (i : ℕ) → i < s → Dec (p < w.number) → get_or (write_page s store w) (s * p + i) 0 ≡ get_or store (s * p + i) 0
      byte i b (yes lt) = before (s * p + i) (omega (arith, mul-le-mul_left s lt)) (omega arith)
      byte i b (no nlt) =
          let gt : w.number < p = omega arith in
          past (s * p + i) (omega (arith, mul-le-mul_left s gt))
