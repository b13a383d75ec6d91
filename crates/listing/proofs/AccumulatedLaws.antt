-- What is accumulated of a line gives the line's size, however the line is cut into parts.
use Prim.Native.Nat.{ℕ, zero, suc, ◌+◌, ◌*◌, ◌-◌, ◌^◌, ◌≤◌, ◌<◌}
use mathlib.Core.Path.{◌≡◌, refl, sym, ap, ◌∙◌}
use mathlib.Core.Bool.{Bool, true, false, ◌&&◌, cond, and-true, and-false}
use mathlib.Core.List.{List, [], ◌∷◌, ◌++◌}
use native.Mathlib.Nat.{add-zero, zero-add, pow-suc, pow-le-pow_right}
use native.Mathlib.Numerals.{add-one}
use native.Mathlib.Decide.{dec_lt}
use native.Mathlib.Omega.{arith}
use lib.Dec.{leb, eqb}
use lib.ListN.{length}
use borrow.Author.Tests.{lt-ltb, le-leb, lt-leb, ne_eqb}
use Rattle.std.specs.Prelude.{Some, None}
use Rattle.listing.specs.declared.line.Line.{Line}
use Rattle.listing.specs.Decimal.{is_digit, all_digits, decimal_after, decimal_of}
use Rattle.listing.specs.Lines.{size_of}
use Rattle.listing.specs.Accumulated.{no_bytes, no_size, digits_with_byte, with_byte, with_bytes, accumulated_empty, accumulated_size}
use Rattle.listing.proofs.DecimalLaws.{digit_range}

-- ---- one byte

accumulated : ℕ → ℕ → Line
accumulated d v = record { digits = Some (record { count = d; value = v }) }

-- a line that is no size stays so
no_size_stays : (bytes : List ℕ) → with_bytes no_size bytes ≡ no_size
no_size_stays [] = refl
no_size_stays (byte ∷ bytes) = no_size_stays bytes

digit_accumulated : (d v byte : ℕ) → d < 9 → v < 10 ^ d → is_digit byte ≡ true → with_byte (accumulated d v) byte ≡ accumulated (d + 1) (10 * v + (byte - 48))
unfolding digits_with_byte accumulated
digit_accumulated d v byte h small digit =
    rw (lt-ltb d 9 h, lt-ltb v (10 ^ 8) (omega (arith, pow-le-pow_right {n = 10} (omega arith) {i = d} {j = 8} (omega arith))), digit)

other_accumulated : (d v byte : ℕ) → is_digit byte ≡ false → with_byte (accumulated d v) byte ≡ no_size
unfolding digits_with_byte accumulated
other_accumulated d v byte other = rw (other, and-false, and-false)

tenth_accumulated : (v byte : ℕ) → with_byte (accumulated 9 v) byte ≡ no_size
unfolding digits_with_byte accumulated
tenth_accumulated v byte = refl

-- ---- a line

-- what is accumulated of d digits that write v, and of some bytes more
accumulated_after : ℕ → ℕ → List ℕ → Line
accumulated_after d v bytes = cond (leb (d + length bytes) 9 && all_digits bytes) (accumulated (d + length bytes) (decimal_after v bytes)) no_size

bytes-accumulated : (bytes : List ℕ) (d v : ℕ) → d ≤ 9 → v < 10 ^ d → with_bytes (accumulated d v) bytes ≡ accumulated_after d v bytes
unfolding accumulated_after all_digits decimal_after
bytes-accumulated [] d v few small = rw (add-zero d, le-leb d 9 few)
bytes-accumulated (byte ∷ bytes) d v few small = by (dec_lt d 9) (is_digit byte) refl (λ few small. bytes-accumulated bytes (d + 1) (10 * v + (byte - 48)) few small)
  where
    by : Dec (d < 9) → (t : Bool) → is_digit byte ≡ t
        → (d + 1 ≤ 9 → 10 * v + (byte - 48) < 10 ^ (d + 1) → with_bytes (accumulated (d + 1) (10 * v + (byte - 48))) bytes ≡ accumulated_after (d + 1) (10 * v + (byte - 48)) bytes)
        → with_bytes (with_byte (accumulated d v) byte) bytes ≡ cond (leb (d + suc (length bytes)) 9 && (is_digit byte && all_digits bytes)) (accumulated (d + suc (length bytes)) (decimal_after (10 * v + (byte - 48)) bytes)) no_size
    by (yes h) true e rest =
        let next : 10 * v + (byte - 48) < 10 ^ (d + 1) = rw (add-one d, pow-suc) (omega (arith, digit_range byte e)) in
        let n : d + 1 + length bytes ≡ d + suc (length bytes) = omega arith in
        rw (digit_accumulated d v byte h small e, e, rest (omega arith) next, n)
    by (yes h) false e rest = rw (other_accumulated d v byte e, e, and-false, no_size_stays bytes)
    by (no h) t e rest =
        let nine : d ≡ 9 = omega arith in
        rw (lt-leb (d + suc (length bytes)) 9 (omega arith), nine, tenth_accumulated v byte, no_size_stays bytes)

some_or_none : (n v : ℕ) → cond (eqb n 0) None (Some v) ≡ cond (leb 1 n) (Some v) None
some_or_none zero v = refl
some_or_none (suc n) v = rw (ne_eqb (suc n) 0 (λ e. omega arith), le-leb 1 (suc n) (omega arith))

size-or_none : (n v : ℕ) (few digits : Bool) → leb n 9 ≡ few → accumulated_size (cond (few && digits) (accumulated n v) no_size) ≡ cond (leb 1 n && few && digits) (Some v) None
unfolding accumulated
size-or_none n v true true e = simp and-true (some_or_none n v)
size-or_none n v true false e = rw and-false
size-or_none n v false digits e = rw and-false

-- what is accumulated of a line gives its size
pub size-accumulated : (line : List ℕ) → accumulated_size (with_bytes no_bytes line) ≡ size_of line
unfolding size_of accumulated_after accumulated
size-accumulated line =
    ap accumulated_size (bytes-accumulated line 0 0 (omega arith) (omega arith))
    ∙ rw (zero-add (length line)) (size-or_none (length line) (decimal_of line) (leb (length line) 9) (all_digits line) refl)

-- ---- parts

pub with_bytes-append : (line : Line) (a b : List ℕ) → with_bytes line (a ++ b) ≡ with_bytes (with_bytes line a) b
with_bytes-append line [] b = refl
with_bytes-append line (byte ∷ a) b = with_bytes-append (with_byte line byte) a b

some_accumulated : (t : Bool) (n v : ℕ) → accumulated_empty (cond t (accumulated (suc n) v) no_size) ≡ eqb (suc n) 0
unfolding accumulated
some_accumulated true n v = refl
some_accumulated false n v = sym (ne_eqb (suc n) 0 (λ e. omega arith))

-- what is accumulated tells whether the line has a byte
pub empty_accumulated : (line : List ℕ) → accumulated_empty (with_bytes no_bytes line) ≡ eqb (length line) 0
unfolding accumulated_after accumulated
empty_accumulated [] = refl
empty_accumulated (byte ∷ bytes) =
    ap accumulated_empty (bytes-accumulated (byte ∷ bytes) 0 0 (omega arith) (omega arith))
    ∙ rw zero-add (some_accumulated (leb (suc (length bytes)) 9 && all_digits (byte ∷ bytes)) (length bytes) (decimal_of (byte ∷ bytes)))
