-- The digits of a number are those that the library writes; and how many there are, and how large the number is that digits write.
use Prim.Native.Nat.{ℕ, zero, suc, ◌+◌, ◌*◌, ◌-◌, ◌/◌, ◌%◌, ◌^◌, ◌≤◌, ◌<◌}
use mathlib.Core.Path.{◌≡◌, refl, sym, ap, ◌∙◌}
use mathlib.Core.Bool.{true}
use mathlib.Core.List.{List, [], ◌∷◌, ◌++◌}
use native.Mathlib.Nat.{add-zero, pow-suc}
use native.Mathlib.Decide.{dec_lt}
use native.Mathlib.Omega.{arith}
use borrow.Author.Tests.{lt-ltb, le-ltb, leb-true}
use lib.Dec.{leb, ltb}
use lib.ListN.{length, length-append}
use Rattle.std.specs.Char.{is_ascii_digit}
use Rattle.std.specs.Fmt.{decimal}
use Rattle.std.proofs.lemmas.Fmt.{decimal_digit, decimal_step}
use Rattle.laws.proofs.Tests.{cond_cases, and-true}
use Rattle.listing.specs.Decimal.{is_digit, all_digits, decimal_after, digits_up_to, digits_of}

pub digit_range : (byte : ℕ) → is_digit byte ≡ true → (48 ≤ byte) × (byte ≤ 57)
unfolding is_digit
digit_range byte e =
    let both = and-true (leb 48 byte) (leb byte 57) e in
    (leb-true 48 byte both.0, leb-true byte 57 both.1)

-- the library's test of a byte
pub ascii_digit : (byte : ℕ) → is_ascii_digit byte ≡ is_digit byte
unfolding is_digit
ascii_digit byte = refl

one_digit : (more n : ℕ) → n < 10 → digits_up_to more n ≡ (48 + n) ∷ []
unfolding digits_up_to
one_digit zero n h = refl
one_digit (suc more) n h = rw (lt-ltb n 10 h)

more_digits : (more n : ℕ) → 10 ≤ n → digits_up_to (suc more) n ≡ digits_up_to more (n / 10) ++ ((48 + n % 10) ∷ [])
unfolding digits_up_to
more_digits more n h = rw (le-ltb n 10 h)

digits_enough : (more n : ℕ) → n ≤ more → n < 2 ^ 64 → decimal n ≡ digits_up_to more n
digits_enough zero n h small = decimal_digit n (omega arith) ∙ sym (one_digit zero n (omega arith))
digits_enough (suc more) n h small = by (dec_lt n 10) (λ ten. digits_enough more (n / 10) (omega arith) (omega arith))
  where
    by : Dec (n < 10) → (10 ≤ n → decimal (n / 10) ≡ digits_up_to more (n / 10)) → decimal n ≡ digits_up_to (suc more) n
    by (yes one) front = decimal_digit n one ∙ sym (one_digit (suc more) n one)
    by (no several) front =
        let ten : 10 ≤ n = omega arith in
        decimal_step n ten small ∙ ap (λ (digits : List ℕ). digits ++ ((48 + n % 10) ∷ [])) (front ten) ∙ sym (more_digits more n ten)

-- the digits of a number are those that the library writes
pub decimal_digits_of : (n : ℕ) → n < 2 ^ 64 → decimal n ≡ digits_of n
decimal_digits_of n small = digits_enough n n (omega arith) small

-- ---- bounds

-- a number below 10 ^ suc k has at most suc k digits
pub digits_few : (more k n : ℕ) → n < 10 ^ suc k → length (digits_up_to more n) ≤ suc k
unfolding digits_up_to
digits_few zero k n h = omega arith
digits_few (suc more) zero n h = rw (lt-ltb n 10 h) (omega arith)
digits_few (suc more) (suc k) n h =
    cond_cases (λ (digits : List ℕ). length digits ≤ suc (suc k)) (ltb n 10) ((48 + n) ∷ []) (digits_up_to more (n / 10) ++ ((48 + n % 10) ∷ []))
    (λ _. omega arith) (λ _. rw length-append (omega (arith, digits_few more k (n / 10) (omega (arith, pow-suc 10 (suc k))))))

-- a u64 has at most 20
pub digits_short : (n : ℕ) → n < 2 ^ 64 → length (digits_of n) ≤ 20
digits_short n h = digits_few n 19 n (omega arith)

-- digits behind a number below 10 ^ d
pub decimal_bound : (bytes : List ℕ) (d n : ℕ) → n < 10 ^ d → all_digits bytes ≡ true → decimal_after n bytes < 10 ^ (d + length bytes)
unfolding all_digits decimal_after
decimal_bound [] d n h digits = rw add-zero h
decimal_bound (byte ∷ bytes) d n h digits =
    let both = and-true (is_digit byte) (all_digits bytes) digits in
    let next : 10 * n + (byte - 48) < 10 ^ suc d = rw pow-suc (omega (arith, digit_range byte both.0)) in
    let e : d + suc (length bytes) ≡ suc d + length bytes = omega arith in
    rw e (decimal_bound bytes (suc d) (10 * n + (byte - 48)) next both.1)
