-- The pages of a list as encoded: each has as many bytes as a page, and is decoded again.
use Prim.Native.Nat.{ℕ, ◌+◌, ◌-◌, ◌^◌, ◌<◌, ◌≤◌}
use native.Mathlib.Decide.{dec_lt}
use native.Mathlib.Omega.{arith}
use mathlib.Core.Path.{◌≡◌}
use mathlib.Core.Bool.{true}
use mathlib.Core.List.{Memᴰ}
use lib.Dec.{eqb}
use lib.ListN.{length, get_or, drop, length-take}
use Rattle.laws.proofs.Tests.{cond_cases}
use Rattle.laws.proofs.PlacesLaws.{get_d-mem, part-mem}
use Rattle.page.specs.PageSize.{IsPageSize, capacity}
use Rattle.page.proofs.PageSizeLaws.{page-room}
use Rattle.free_list.specs.ListPages.{prev_of, entries_of}
use Rattle.free_list.specs.Shape.{FreeList, is_shape, entries_below, entries_on, previous}
use Rattle.free_list.proofs.ListPagesLaws.{length_encoded, prev-encoded, entries-encoded}
use Rattle.free_list.proofs.ShapeLaws.{shaped}
use Rattle.free_list.proofs.BelowLaws.{on_page}
use Rattle.finisher.specs.Finish.{encoded_page}

page_few : (s n : ℕ) → IsPageSize s → n ≤ capacity s → n < 2 ^ 16
unfolding capacity
page_few s n size h = omega (arith, size.limit)

on_mem : (c : ℕ) (l : FreeList) (j x : ℕ) → Memᴰ x (entries_on c l j) → Memᴰ x l.entries
unfolding entries_on
on_mem c l j x m =
    let below = entries_below c (length l.pages) (length l.entries) in
    part-mem x (below (j + 1) - below j) (below j) l.entries m

module _ (s : ℕ) (size : IsPageSize s) (m : FreeList) (shape : is_shape (capacity s) (length m.pages) (length m.entries) ≡ true) where
  abbrev cap : ℕ
  cap = capacity s

  entries_on_few : (j : ℕ) → j < length m.pages → length (entries_on cap m j) ≤ cap
  unfolding entries_on
  entries_on_few j h =
      let b = shaped cap (length m.pages) (length m.entries) shape in
      let some : 1 ≤ length m.entries = some_of (dec_lt 0 (length m.entries)) in
      let o = on_page cap (length m.pages) (length m.entries) size.two_entries some b.most b.under j h in
      let n = entries_below cap (length m.pages) (length m.entries) (j + 1) - entries_below cap (length m.pages) (length m.entries) j in
      omega (arith, length-take n (drop (entries_below cap (length m.pages) (length m.entries) j) m.entries), o)
    where
      some_of : Dec (0 < length m.entries) → 1 ≤ length m.entries
      some_of (yes y) = omega arith
      some_of (no n) = absurd (omega (arith, (shaped cap (length m.pages) (length m.entries) shape).none (omega arith)))

  -- a page has s bytes
  pub encoded_long : (j : ℕ) → j < length m.pages → length (encoded_page s m j).bytes ≡ s
  unfolding encoded_page
  encoded_long j h = length_encoded s _ (entries_on cap m j) (page-room (length (entries_on cap m j)) size (entries_on_few j h))

  -- it is decoded again
  module _ (j : ℕ) (h : j < length m.pages) (pages_fit : (n : ℕ) → Memᴰ n m.pages → n < 2 ^ 32) (entries_fit : (n : ℕ) → Memᴰ n m.entries → n < 2 ^ 32) where
    prev_fits : previous m.pages j < 2 ^ 32
    prev_fits = cond_cases (λ (n : ℕ). n < 2 ^ 32) (eqb j 0) 0 (get_or m.pages (j - 1) 0) (λ _. omega arith) (λ _. pages_fit _ (get_d-mem m.pages (j - 1) (omega arith)))

    count_small : length (entries_on cap m j) < 2 ^ 16
    count_small = small (length (entries_on cap m j)) (entries_on_few j h)
      where
        small : (n : ℕ) → n ≤ capacity s → n < 2 ^ 16
        small n h = page_few s n size h

    entries_small : (n : ℕ) → Memᴰ n (entries_on cap m j) → n < 2 ^ 32
    entries_small n e = entries_fit n (on_mem cap m j n e)

    pub decoded-before : prev_of (encoded_page s m j).bytes ≡ previous m.pages j
    unfolding encoded_page
    decoded-before = prev-encoded s (previous m.pages j) (entries_on cap m j) prev_fits count_small entries_small

    pub decoded-entries : entries_of (encoded_page s m j).bytes ≡ entries_on cap m j
    unfolding encoded_page
    decoded-entries = entries-encoded s (previous m.pages j) (entries_on cap m j) prev_fits count_small entries_small
