-- Value pages: what is encoded is decoded again, on any page and on the pages of a value. Each part of a page is found behind those
-- before it.
use Prim.Native.Nat.{ℕ, ◌+◌, ◌*◌, ◌-◌, ◌^◌, ◌<◌, ◌≤◌}
use native.Mathlib.Nat.{zero-add}
use native.Mathlib.Omega.{arith}
use mathlib.Core.Path.{◌≡◌, ap, sym, ◌∙◌}
use mathlib.Core.List.{List, ◌++◌, Memᴰ}
use lib.ListN.{length, get_or, take, drop, replicate, length-append, length-replicate, length-drop}
use lib.Seq.{sets, get_or-append-add, drop-append-add, drop-append_seam, take-append_seam, length-take-le}
use Rattle.page.specs.PageSize.{IsPageSize}
use Rattle.page.specs.Bytes.{bytes_of, numbers_at, bytes_of_all}
use Rattle.page.proofs.PageSizeLaws.{page_least}
use Rattle.laws.proofs.PlacesLaws.{part-mem}
use Rattle.laws.proofs.SetsLaws.{sets-append, sets_whole}
use Rattle.page.proofs.BytesLaws.{number_at_append-left, number_at_append_right, numbers_at_same, number_at_bytes_of, numbers_at-bytes_of_all, length_bytes_of, length-bytes_of_all}
use Rattle.overflow.specs.Totals.{cell_numbers, body}
use Rattle.overflow.specs.Layout.{numbers_before, numbers_on, bytes_before, bytes_on}
use Rattle.overflow.specs.ValuePages.{number_count, byte_count, value_numbers, value_bytes, encode_value_page, value_page}
use Rattle.overflow.proofs.LayoutLaws.{numbers_within_lem, bytes_within_lem, page_fits, page_nonempty}

-- ---- one page

module _ (s : ℕ) (ns bs : List ℕ) where
  -- what stands behind the bytes, and behind the counts
  zeros : List ℕ
  zeros = replicate (s - (4 + 4 * length ns + length bs)) 0

  parts : List ℕ
  parts = bytes_of_all 4 ns ++ (bs ++ zeros)

  module _ (fits : 4 + 4 * length ns + length bs ≤ s) where
    -- a page has s bytes
    pub length_encoded : length (encode_value_page s ns bs) ≡ s
    unfolding encode_value_page zeros parts
    length_encoded =
        omega (arith, length-append (bytes_of 2 (length ns)) (bytes_of 2 (length bs) ++ parts), length-append (bytes_of 2 (length bs)) parts, length-append (bytes_of_all 4 ns) (bs ++ zeros), length-append bs zeros, length_bytes_of 2 (length ns), length_bytes_of 2 (length bs), length-bytes_of_all 4 ns, length-replicate {A = ℕ} (s - (4 + 4 * length ns + length bs)) 0)

    -- a page that was written part by part, the last of which is zeros
    pub encoded : (l : List ℕ) {a b c d e : List ℕ} {from : ℕ} → length l ≡ s → from ≡ 4 + 4 * length ns + length bs
        → a ≡ sets l 0 (bytes_of 2 (length ns))
        → b ≡ sets a 2 (bytes_of 2 (length bs))
        → c ≡ sets b 4 (bytes_of_all 4 ns)
        → d ≡ sets c (4 + 4 * length ns) bs
        → e ≡ sets d from (replicate (s - from) 0)
        → e ≡ encode_value_page s ns bs
    unfolding encode_value_page bytes_of zeros parts
    encoded l whole f p q r t u =
        let A = bytes_of 2 (length ns) in
        let B = bytes_of 2 (length bs) in
        let C = bytes_of_all 4 ns in
        let m = sets (sets (sets l 0 A) 2 B) 4 C in
        let parts = sets-append l 0 A (B ++ (C ++ (bs ++ zeros))) ∙ sets-append (sets l 0 A) 2 B (C ++ (bs ++ zeros)) ∙ sets-append (sets (sets l 0 A) 2 B) 4 C (bs ++ zeros) in
        let last = ap (λ (k : ℕ). sets m (4 + k) (bs ++ zeros)) (length-bytes_of_all 4 ns) ∙ sets-append m (4 + 4 * length ns) bs zeros in
        rw (u, f, t, r, q, p) (sym (parts ∙ last)) ∙ sets_whole l (encode_value_page s ns bs) (length_encoded ∙ sym whole)

  module _ (page : IsPageSize s) (fits : 4 + 4 * length ns + length bs ≤ s) where
    -- what is encoded is decoded again
    pub number-count-encoded : number_count (encode_value_page s ns bs) ≡ length ns
    unfolding number_count encode_value_page
    number-count-encoded =
        number_at_append-left 2 (bytes_of 2 (length ns)) _ 0 (omega (arith, length_bytes_of 2 (length ns)))
        ∙ number_at_bytes_of 2 (length ns) (omega (arith, page.limit))

    pub byte-count-encoded : byte_count (encode_value_page s ns bs) ≡ length bs
    unfolding byte_count encode_value_page bytes_of parts zeros
    byte-count-encoded =
        number_at_append_right 2 (bytes_of 2 (length ns)) (bytes_of 2 (length bs) ++ parts) 0
        ∙ number_at_append-left 2 (bytes_of 2 (length bs)) parts 0 (omega (arith, length_bytes_of 2 (length bs)))
        ∙ number_at_bytes_of 2 (length bs) (omega (arith, page.limit))

    pub numbers_encoded : ((n : ℕ) → Memᴰ n ns → n < 256 ^ 4) → value_numbers (encode_value_page s ns bs) ≡ ns
    unfolding value_numbers encode_value_page parts zeros
    numbers_encoded numbers_fit =
        ap (numbers_at 4 (encode_value_page s ns bs) 4) number-count-encoded
        ∙ numbers_at_same 4 (encode_value_page s ns bs) parts 4 0 (length ns) behind
        ∙ numbers_at-bytes_of_all 4 ns (bs ++ zeros) numbers_fit
      where
        behind : (k : ℕ) → k < 4 * length ns → get_or (encode_value_page s ns bs) (4 + k) 0 ≡ get_or parts (0 + k) 0
        behind k h =
            let rest = bytes_of 2 (length bs) ++ parts in
            let e : 4 + k ≡ length (bytes_of 2 (length ns)) + (length (bytes_of 2 (length bs)) + k) = omega (arith, length_bytes_of 2 (length ns), length_bytes_of 2 (length bs)) in
            rw (e, zero-add k)
            (get_or-append-add (bytes_of 2 (length ns)) rest (length (bytes_of 2 (length bs)) + k) 0 ∙ get_or-append-add (bytes_of 2 (length bs)) parts k 0)

    pub bytes-encoded : value_bytes (encode_value_page s ns bs) ≡ bs
    unfolding value_bytes encode_value_page parts zeros
    bytes-encoded =
        let A = bytes_of 2 (length ns) in
        let B = bytes_of 2 (length bs) in
        let C = bytes_of_all 4 ns in
        let e : 4 + 4 * length ns ≡ length A + (length B + length C) = omega (arith, length_bytes_of 2 (length ns), length_bytes_of 2 (length bs), length-bytes_of_all 4 ns) in
        let behind : drop (4 + 4 * length ns) (encode_value_page s ns bs) ≡ bs ++ zeros =
        ap (λ (k : ℕ). drop k (A ++ (B ++ parts))) e ∙ drop-append-add A (B ++ parts) (length B + length C) ∙ drop-append-add B parts (length C) ∙ drop-append_seam C (bs ++ zeros) in
        rw (byte-count-encoded, number-count-encoded, behind) (take-append_seam bs zeros)

-- ---- the pages of a value

-- the numbers and the bytes of page i
abbrev pub numbers_on_page : ℕ → ℕ → List ℕ → ℕ → List ℕ
numbers_on_page s total numbers i = take (numbers_on s total i) (drop (cell_numbers + numbers_before s total i) numbers)

abbrev pub bytes_on_page : ℕ → ℕ → List ℕ → ℕ → List ℕ
bytes_on_page s total value i = take (bytes_on s total (length value) i) (drop (bytes_before s total (length value) i) value)

module _ {s total : ℕ} (page : IsPageSize s) (value numbers : List ℕ) (whole : length numbers ≡ total) (i : ℕ) where
  abbrev ns : List ℕ
  ns = numbers_on_page s total numbers i

  abbrev bs : List ℕ
  bs = bytes_on_page s total value i

  -- they are as many as the layout says, and fit the page
  length-numbers_on_page : length ns ≡ numbers_on s total i
  length-numbers_on_page =
      let before = cell_numbers + numbers_before s total i in
      length-take-le (numbers_on s total i) (drop before numbers) (omega (arith, length-drop before numbers, numbers_within_lem total page i))

  length-bytes_on_page : length bs ≡ bytes_on s total (length value) i
  length-bytes_on_page =
      let before = bytes_before s total (length value) i in
      length-take-le (bytes_on s total (length value) i) (drop before value) (omega (arith, length-drop before value, bytes_within_lem total page (length value) i))

  parts_fit : 4 + 4 * length ns + length bs ≤ s
  parts_fit = rw (length-numbers_on_page, length-bytes_on_page) (omega (arith, page_least page, page_fits total page (length value) i))

  -- what is decoded from page i
  pub length_value_page : length (value_page s total value numbers i) ≡ s
  unfolding value_page
  length_value_page = length_encoded s ns bs parts_fit

  pub number_count_value_page : number_count (value_page s total value numbers i) ≡ numbers_on s total i
  unfolding value_page
  number_count_value_page = number-count-encoded s ns bs page parts_fit ∙ length-numbers_on_page

  pub byte_count_value_page : byte_count (value_page s total value numbers i) ≡ bytes_on s total (length value) i
  unfolding value_page
  byte_count_value_page = byte-count-encoded s ns bs page parts_fit ∙ length-bytes_on_page

  pub value_page_fits : 4 * number_count (value_page s total value numbers i) + byte_count (value_page s total value numbers i) ≤ body s
  value_page_fits = rw (number_count_value_page, byte_count_value_page) (page_fits total page (length value) i)

  -- it is not empty, where one page less would not do
  pub value_page_some : body s * total < length value + 4 * (total - cell_numbers) + body s → i < total
      → 1 ≤ number_count (value_page s total value numbers i) + byte_count (value_page s total value numbers i)
  value_page_some tight h = rw (number_count_value_page, byte_count_value_page) (page_nonempty total page (length value) i tight h)

  pub value_numbers_value_page : ((n : ℕ) → Memᴰ n numbers → n < 256 ^ 4) → value_numbers (value_page s total value numbers i) ≡ ns
  unfolding value_page
  value_numbers_value_page fit =
      numbers_encoded s ns bs page parts_fit (λ n m. fit n (part-mem n (numbers_on s total i) (cell_numbers + numbers_before s total i) numbers m))

  pub value_bytes_value_page : value_bytes (value_page s total value numbers i) ≡ bs
  unfolding value_page
  value_bytes_value_page = bytes-encoded s ns bs page parts_fit
