-- What bytes of any length say as a value page: bytes that reach as far as what is read, and bytes that do not.
-- Each is one branch of the definition.
use Prim.Native.Nat.{ℕ, ◌+◌, ◌*◌, ◌-◌, min, ◌<◌, ◌≤◌}
use native.Mathlib.Decide.{dec_lt}
use native.Mathlib.Omega.{arith}
use mathlib.Core.Path.{◌≡◌, sym, ◌∙◌}
use mathlib.Core.List.{List}
use lib.ListN.{length, take, drop, length-drop, drop_of_length-le}
use lib.Seq.{take_all, take-nil}
use borrow.Author.Tests.{le-leb, lt-leb}
use Rattle.overflow.specs.ValuePages.{number_count, byte_count, value_bytes, numbers_within, bytes_within}

module _ (b : List ℕ) where
  pub number_count_within : 4 ≤ length b → numbers_within b ≡ number_count b
  unfolding numbers_within
  number_count_within h = rw (le-leb 4 (length b) h)

  pub number_count_past : length b < 4 → numbers_within b ≡ 0
  unfolding numbers_within
  number_count_past h = rw (lt-leb 4 (length b) h)

  pub byte_count_within : 4 ≤ length b → bytes_within b ≡ byte_count b
  unfolding bytes_within
  byte_count_within h = rw (le-leb 4 (length b) h)

  pub byte_count_past : length b < 4 → bytes_within b ≡ 0
  unfolding bytes_within
  byte_count_past h = rw (lt-leb 4 (length b) h)

  -- the value bytes, from the end of the numbers or of the page up to their own end or the page's
  pub bytes_part : {n m start end : ℕ} → n ≡ numbers_within b → m ≡ bytes_within b → start ≡ min (4 + 4 * n) (length b) → end ≡ min (start + m) (length b)
      → take (end - start) (drop start b) ≡ value_bytes b
  unfolding value_bytes
  bytes_part {n} {m} {start} {end} numbers bytes e f = by_header (dec_lt (length b) 4)
    where
      -- bytes that are past the page's end
      none : (i j k l : ℕ) → length b ≤ i → length b ≤ k → take j (drop i b) ≡ take l (drop k b)
      none i j k l h g = rw (drop_of_length-le b {i = i} h, drop_of_length-le b {i = k} g, take-nil j, take-nil l)

      by_end : n ≡ number_count b → m ≡ byte_count b → Dec (length b < 4 + 4 * n) → take (end - start) (drop start b) ≡ take (byte_count b) (drop (4 + 4 * number_count b) b)
      by_end p q (yes h) = none start (end - start) (4 + 4 * number_count b) (byte_count b) (omega arith) (omega arith)
      by_end p q (no h) =
          let s : start ≡ 4 + 4 * n = omega arith in
          rw (← p, ← q, s) (by_length (dec_lt (length b) (4 + 4 * n + m)) s)
        where
          by_length : Dec (length b < 4 + 4 * n + m) → start ≡ 4 + 4 * n → take (end - (4 + 4 * n)) (drop (4 + 4 * n) b) ≡ take m (drop (4 + 4 * n) b)
          by_length (yes g) s =
              let rest = drop (4 + 4 * n) b in
              let long = length-drop (4 + 4 * n) b in
              take_all (end - (4 + 4 * n)) rest (omega arith) ∙ sym (take_all m rest (omega arith))
          by_length (no g) s = let d : end - (4 + 4 * n) ≡ m = omega arith in rw d

      by_header : Dec (length b < 4) → take (end - start) (drop start b) ≡ take (byte_count b) (drop (4 + 4 * number_count b) b)
      by_header (yes h) = none start (end - start) (4 + 4 * number_count b) (byte_count b) (omega (arith, number_count_past h)) (omega arith)
      by_header (no h) =
          by_end (numbers ∙ number_count_within (omega arith)) (bytes ∙ byte_count_within (omega arith)) (dec_lt (length b) (4 + 4 * n))
