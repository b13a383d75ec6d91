-- List pages: what is encoded is decoded again, and bytes that reach far enough say the same as a page.
use Prim.Native.Nat.{ℕ, ◌+◌, ◌*◌, ◌-◌, ◌^◌, min, ◌<◌, ◌≤◌}
use native.Mathlib.Nat.{zero-add}
use native.Mathlib.Omega.{arith}
use mathlib.Core.Path.{◌≡◌, ap, sym, ◌∙◌}
use mathlib.Core.List.{List, ◌++◌, Memᴰ}
use lib.ListN.{length, get_or, take, drop, length-drop, replicate, length-append, length-replicate}
use borrow.Author.Tests.{le-leb}
use lib.Seq.{sets, length-sets, length-take-le, take_all, get_or-append-add}
use borrow.Rule.Slice.PartMut.{put_mid}
use Rattle.page.specs.PageSize.{capacity, IsPageSize}
use Rattle.page.specs.Bytes.{bytes_of, numbers_at, bytes_of_all}
use Rattle.laws.proofs.SetsLaws.{sets-append, sets_whole, part-written}
use Rattle.page.proofs.PageSizeLaws.{page_least, page-room}
use Rattle.page.proofs.BytesLaws.{number_at_append-left, number_at_append_right, numbers_at_same, number_at_bytes_of, numbers_at-bytes_of_all, length_bytes_of, length-numbers_at, length-bytes_of_all}
use Rattle.free_list.specs.ListPages.{prev_of, count_of, entries_of, encode_list_page, prev_within, count_within, places, page_within}

pub length-entries_of : (b : List ℕ) → length (entries_of b) ≡ count_of b
unfolding entries_of
length-entries_of b = length-numbers_at 4 b 6 (count_of b)

module _ (s prev : ℕ) (es : List ℕ) where
  padding : List ℕ
  padding = replicate (s - (6 + 4 * length es)) 0

  -- a page has s bytes, where the entries fit it
  pub length_encoded : 6 + 4 * length es ≤ s → length (encode_list_page s prev es) ≡ s
  unfolding encode_list_page
  length_encoded h =
      omega (arith, length-append (bytes_of 4 prev) (bytes_of 2 (length es) ++ (bytes_of_all 4 es ++ replicate (s - (6 + 4 * length es)) 0)), length-append (bytes_of 2 (length es)) (bytes_of_all 4 es ++ replicate (s - (6 + 4 * length es)) 0), length-append (bytes_of_all 4 es) (replicate (s - (6 + 4 * length es)) 0), length_bytes_of 4 prev, length_bytes_of 2 (length es), length-bytes_of_all 4 es, length-replicate {A = ℕ} (s - (6 + 4 * length es)) 0)

  -- a page that was written part by part
  pub encoded : (l a b c zeros : List ℕ) → length l ≡ s → 6 + 4 * length es ≤ s
      → a ≡ sets l 0 (bytes_of 4 prev)
      → b ≡ sets a 4 (bytes_of 2 (length es))
      → c ≡ sets b 6 (bytes_of_all 4 es)
      → zeros ≡ replicate (length (take (length c - (6 + 4 * length es)) (drop (6 + 4 * length es) c))) 0
      → put_mid (6 + 4 * length es) (length c - (6 + 4 * length es)) c zeros ≡ encode_list_page s prev es
  unfolding encode_list_page bytes_of
  encoded l a b c zeros long fits p q r t =
      let A = bytes_of 4 prev in
      let B = bytes_of 2 (length es) in
      let C = bytes_of_all 4 es in
      let D : List ℕ = replicate (s - (6 + 4 * length es)) 0 in
      let same : length c ≡ s = omega (arith, ap length r, ap length q, ap length p, long, length-sets b 6 C, length-sets a 4 B, length-sets l 0 A) in
      let rest : length (take (length c - (6 + 4 * length es)) (drop (6 + 4 * length es) c)) ≡ s - (6 + 4 * length es) =
      length-take-le (length c - (6 + 4 * length es)) (drop (6 + 4 * length es) c) (omega (arith, length-drop (6 + 4 * length es) c)) ∙ omega (arith, same) in
      let zero : zeros ≡ D = t ∙ rw rest in
      let whole = sets_whole l (encode_list_page s prev es) (length_encoded fits ∙ sym long) in
      let parts = sets-append l 0 A (B ++ (C ++ D)) ∙ sets-append (sets l 0 A) 4 B (C ++ D) ∙ sets-append (sets (sets l 0 A) 4 B) 6 C D in
      let last = ap (λ (k : ℕ). sets (sets (sets (sets l 0 A) 4 B) 6 C) (6 + k) D) (length-bytes_of_all 4 es) in
      part-written c (6 + 4 * length es) (length c - (6 + 4 * length es)) zeros (ap length zero ∙ length-replicate {A = ℕ} _ 0 ∙ omega (arith, same)) (omega (arith, same))
      ∙ rw (zero, r, q, p) (sym (parts ∙ last) ∙ whole)

  -- what is encoded is decoded again
  module _ (prev_fits : prev < 2 ^ 32) (count_fits_lem : length es < 2 ^ 16) (entries_fit : (n : ℕ) → Memᴰ n es → n < 2 ^ 32) where
    pub prev-encoded : prev_of (encode_list_page s prev es) ≡ prev
    unfolding prev_of encode_list_page
    prev-encoded = number_at_append-left 4 (bytes_of 4 prev) _ 0 (omega (arith, length_bytes_of 4 prev)) ∙ number_at_bytes_of 4 prev prev_fits

    pub count_encoded : count_of (encode_list_page s prev es) ≡ length es
    unfolding count_of encode_list_page bytes_of padding
    count_encoded =
        number_at_append_right 2 (bytes_of 4 prev) (bytes_of 2 (length es) ++ (bytes_of_all 4 es ++ padding)) 0
        ∙ number_at_append-left 2 (bytes_of 2 (length es)) (bytes_of_all 4 es ++ padding) 0 (omega (arith, length_bytes_of 2 (length es)))
        ∙ number_at_bytes_of 2 (length es) count_fits_lem

    pub entries-encoded : entries_of (encode_list_page s prev es) ≡ es
    unfolding entries_of encode_list_page padding
    entries-encoded =
        ap (numbers_at 4 (encode_list_page s prev es) 6) count_encoded
        ∙ numbers_at_same 4 (encode_list_page s prev es) (bytes_of_all 4 es ++ padding) 6 0 (length es) behind
        ∙ numbers_at-bytes_of_all 4 es padding entries_fit
      where
        behind : (k : ℕ) → k < 4 * length es → get_or (encode_list_page s prev es) (6 + k) 0 ≡ get_or (bytes_of_all 4 es ++ padding) (0 + k) 0
        behind k h =
            let rest = bytes_of 2 (length es) ++ (bytes_of_all 4 es ++ padding) in
            let e : 6 + k ≡ length (bytes_of 4 prev) + (length (bytes_of 2 (length es)) + k) = omega (arith, length_bytes_of 4 prev, length_bytes_of 2 (length es)) in
            rw (e, zero-add k)
            (get_or-append-add (bytes_of 4 prev) rest (length (bytes_of 2 (length es)) + k) 0 ∙ get_or-append-add (bytes_of 2 (length es)) (bytes_of_all 4 es ++ padding) k 0)

-- bytes that reach as far as what is read
pub prev_within_lem : (b : List ℕ) → 6 ≤ length b → prev_within b ≡ prev_of b
unfolding prev_within
prev_within_lem b h = rw (le-leb 6 (length b) h)

pub count_within_lem : (b : List ℕ) → 6 ≤ length b → count_within b ≡ count_of b
unfolding count_within
count_within_lem b h = rw (le-leb 6 (length b) h)

-- ---- a page of bytes of any length

-- at a page size, with entries that fit, it is the list page
pub page_within_lem : {s : ℕ} → IsPageSize s → (prev : ℕ) (entries b : List ℕ) → length b ≡ s → length entries ≤ capacity s → page_within prev entries b ≡ encode_list_page s prev entries
unfolding page_within places
page_within_lem {s} size prev entries b e few =
    let limit : capacity s < 2 ^ 16 = omega (arith, page-room (capacity s) size (omega arith), size.limit) in
    rw (e, le-leb 6 s (omega (arith, page_least size)), take_all (min (capacity s) (2 ^ 16 - 1)) entries (omega arith))
