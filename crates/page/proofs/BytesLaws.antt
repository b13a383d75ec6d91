-- Laws of numbers in bytes, each for every width.
use Prim.Native.Nat.{ℕ, zero, suc, ◌+◌, ◌*◌, ◌/◌, ◌%◌, ◌^◌, ◌<◌, ◌≤◌}
use mathlib.Core.Path.{◌≡◌, refl, ◌∙◌, ap, ap₂}
use mathlib.Core.List.{List, [], ◌∷◌, ◌++◌, append_assoc, append-nil, Memᴰ}
use native.Mathlib.Nat.{le_of_suc-le-suc, not-suc-le-zero, mul-zero, mul-suc, mul-le-mul_left, zero-add, add-zero, suc-add, add_assoc, pow-zero, pow-suc, pow-succ', div-one, div-div-eq-div-mul, div-lt_iff_lt-mul}
use native.Mathlib.Numerals.{add-one}
use native.Mathlib.Omega.{arith}
use lib.ListN.{length, get_or, take, drop, set, replicate, length-append, get_or-append, length-drop}
use lib.Seq.{sets, drop-cons, take-suc, length-take-le, get_or-take, get_or-drop, get_or-append-add, take-add, drop-drop}
use lib.Arith.{mod-mul}
use Rattle.std.proofs.Math.Seq.{take-length}
use Rattle.std.specs.Int.{byte_at, bytes_low_first}
use Rattle.page.specs.Bytes.{number_at, bytes_of, numbers_at, bytes_of_all}
use Rattle.laws.proofs.SetsLaws.{sets-append, sets-snoc, take-sets}

-- ---- reading

-- a number of several bytes is that of the first ones, and behind it that of the others
pub number_at_add : (v w : ℕ) (b : List ℕ) (i : ℕ) → number_at (v + w) b i ≡ number_at v b i + 256 ^ v * number_at w b (i + v)
unfolding number_at
number_at_add zero w b i = rw (zero-add w, pow-zero, add-zero i) (omega arith)
number_at_add (suc v) w b i =
    let e : i + 1 + v ≡ i + suc v = omega arith in
    rw (suc-add, number_at_add v w b (i + 1), pow-suc, e) (omega arith)

-- what is read depends only on the bytes in use
pub number_at_same : (w : ℕ) (a b : List ℕ) (i j : ℕ) → ((k : ℕ) → k < w → get_or a (i + k) 0 ≡ get_or b (j + k) 0) → number_at w a i ≡ number_at w b j
unfolding number_at
number_at_same zero a b i j same = refl
number_at_same (suc w) a b i j same =
    let first : get_or a i 0 ≡ get_or b j 0 = simp add-zero at (same 0 (omega arith)) in
    let rest : number_at w a (i + 1) ≡ number_at w b (j + 1) = number_at_same w a b (i + 1) (j + 1) (λ k h. next k h) in
    ap₂ (λ (x y : ℕ). x + 256 * y) first rest
  where
    next : (k : ℕ) → k < w → get_or a (i + 1 + k) 0 ≡ get_or b (j + 1 + k) 0
    next k h =
        let e : i + 1 + k ≡ i + suc k = omega arith in
        let f : j + 1 + k ≡ j + suc k = omega arith in
        rw (e, f) (same (suc k) (omega arith))

pub number_at_append_right : (w : ℕ) (p q : List ℕ) (i : ℕ) → number_at w (p ++ q) (length p + i) ≡ number_at w q i
number_at_append_right w p q i = number_at_same w (p ++ q) q (length p + i) i (λ k h. rw add_assoc (get_or-append-add p q (i + k) 0))

pub number_at_append-left : (w : ℕ) (p q : List ℕ) (i : ℕ) → i + w ≤ length p → number_at w (p ++ q) i ≡ number_at w p i
number_at_append-left w p q i fits = number_at_same w (p ++ q) p i i (λ k h. get_or-append p q 0 (i + k) (omega arith))

pub number_at_take : (w n : ℕ) (b : List ℕ) (i : ℕ) → i + w ≤ n → number_at w (take n b) i ≡ number_at w b i
number_at_take w n b i fits = number_at_same w (take n b) b i i (λ k h. get_or-take n b (i + k) 0 (omega arith))

pub number_at_drop : (w n : ℕ) (b : List ℕ) (i : ℕ) → number_at w (drop n b) i ≡ number_at w b (n + i)
number_at_drop w n b i = number_at_same w (drop n b) b i (n + i) (λ k h. rw (get_or-drop, add_assoc))

pow_positive : (w : ℕ) → 0 < 256 ^ w
pow_positive zero = rw pow-zero (omega arith)
pow_positive (suc w) = rw pow-suc (omega (arith, pow_positive w))

-- a number in w bytes is below 256 ^ w
pub number_at_bound : (w : ℕ) (b : List ℕ) (i : ℕ) → ((k : ℕ) → get_or b k 0 < 256) → number_at w b i < 256 ^ w
unfolding number_at
number_at_bound zero b i bytes = rw pow-zero (omega arith)
number_at_bound (suc w) b i bytes = rw pow-succ' (omega (arith, bytes i, number_at_bound w b (i + 1) bytes))

-- ---- writing

pub length_bytes_of : (w n : ℕ) → length (bytes_of w n) ≡ w
unfolding bytes_of
length_bytes_of zero n = refl
length_bytes_of (suc w) n = ap suc (length_bytes_of w (n / 256))

-- std's bytes of a number are its bytes
byte-at : (i n : ℕ) → byte_at i n ≡ n / 256 ^ i % 256
byte-at zero n = rw (pow-zero, div-one)
byte-at (suc i) n = refl

low_first : (i w n : ℕ) → bytes_low_first i w n ≡ bytes_of w (n / 256 ^ i)
unfolding bytes_of
low_first i zero n = refl
low_first i (suc w) n = rw (byte-at i n, low_first (suc i) w n, div-div-eq-div-mul, pow-suc)

pub low_bytes : (w n : ℕ) → bytes_low_first 0 w n ≡ bytes_of w n
low_bytes w n = low_first 0 w n ∙ rw (pow-zero, div-one)

-- the bytes of a number are those of its lower part and then those of its upper part
pub bytes_of_add : (v w n : ℕ) → bytes_of (v + w) n ≡ bytes_of v n ++ bytes_of w (n / 256 ^ v)
unfolding bytes_of
bytes_of_add zero w n = rw (zero-add w, pow-zero, div-one)
bytes_of_add (suc v) w n = rw (suc-add, bytes_of_add v w (n / 256), div-div-eq-div-mul, pow-succ')

-- the bytes see only the part of a number that fits them
pub bytes_of_mod : (w n : ℕ) → bytes_of w (n % 256 ^ w) ≡ bytes_of w n
unfolding bytes_of
bytes_of_mod zero n = refl
bytes_of_mod (suc w) n =
    let x = n / 256 % 256 ^ w in
    let split : n % 256 ^ suc w ≡ x * 256 + n % 256 = rw pow-suc (mod-mul n (pow_positive w) (omega arith)) in
    let low : n % 256 ^ suc w % 256 ≡ n % 256 = rw split (omega arith) in
    let high : n % 256 ^ suc w / 256 ≡ x = rw split (omega arith) in
    ap₂ (λ (x : ℕ) (xs : List ℕ). x ∷ xs) low (ap (bytes_of w) high ∙ bytes_of_mod w (n / 256))

pub bytes_of_zero : (w : ℕ) → bytes_of w 0 ≡ replicate w 0
unfolding bytes_of
bytes_of_zero zero = refl
bytes_of_zero (suc w) = ap (λ (ns : List ℕ). 0 ∷ ns) (bytes_of_zero w)

-- a number that fits is read back
pub number_at_bytes_of : (w n : ℕ) → n < 256 ^ w → number_at w (bytes_of w n) 0 ≡ n
unfolding number_at bytes_of
number_at_bytes_of zero n h = let e : n < 1 = rw pow-zero at h in omega arith
number_at_bytes_of (suc w) n h =
    let small : n / 256 < 256 ^ w = (div-lt_iff_lt-mul {k = 256} (omega arith)).1 (rw pow-suc at h) in
    let rest : number_at w (n % 256 ∷ bytes_of w (n / 256)) 1 ≡ n / 256 = number_at_append_right w (n % 256 ∷ []) (bytes_of w (n / 256)) 0 ∙ number_at_bytes_of w (n / 256) small in
    rw (zero-add, rest) (omega arith)

-- and the bytes of a number that was read are those that it was read from
pub bytes_of_number_at : (w : ℕ) (b : List ℕ) (i : ℕ) → ((k : ℕ) → get_or b k 0 < 256) → i + w ≤ length b → bytes_of w (number_at w b i) ≡ take w (drop i b)
unfolding number_at bytes_of
bytes_of_number_at zero b i bytes h = refl
bytes_of_number_at (suc w) b i bytes h =
    let x = get_or b i 0 in
    let n = number_at w b (i + 1) in
    let low : (x + 256 * n) % 256 ≡ x = omega (arith, bytes i) in
    let high : (x + 256 * n) / 256 ≡ n = omega (arith, bytes i) in
    rw (low, high, drop-cons b i 0 (omega arith), bytes_of_number_at w b (i + 1) bytes (omega arith), add-one i)

-- ---- several numbers

pub length-numbers_at : (w : ℕ) (b : List ℕ) (i n : ℕ) → length (numbers_at w b i n) ≡ n
unfolding numbers_at
length-numbers_at w b i zero = refl
length-numbers_at w b i (suc n) = ap suc (length-numbers_at w b (i + w) n)

-- one number more is the one behind
pub numbers_at-snoc : (w : ℕ) (b : List ℕ) (i n : ℕ) → numbers_at w b i (suc n) ≡ numbers_at w b i n ++ (number_at w b (i + w * n) ∷ [])
unfolding numbers_at
numbers_at-snoc w b i zero = rw (mul-zero, add-zero)
numbers_at-snoc w b i (suc n) =
    let e : i + w + w * n ≡ i + w * suc n = omega (arith, mul-suc w n) in
    rw (numbers_at-snoc w b (i + w) n, e)

-- the k-th of them
pub get_d-numbers_at : (w : ℕ) (b : List ℕ) (i n k : ℕ) → k < n → get_or (numbers_at w b i n) k 0 ≡ number_at w b (i + w * k)
unfolding numbers_at
get_d-numbers_at w b i zero k h = absurd (not-suc-le-zero h)
get_d-numbers_at w b i (suc n) zero h = rw (mul-zero, add-zero)
get_d-numbers_at w b i (suc n) (suc k) h =
    let e : i + w + w * k ≡ i + w * suc k = omega (arith, mul-suc w k) in
    rw (← e) (get_d-numbers_at w b (i + w) n k (le_of_suc-le-suc h))

-- the first k of them
pub take-numbers_at : (w : ℕ) (b : List ℕ) (i n k : ℕ) → k ≤ n → take k (numbers_at w b i n) ≡ numbers_at w b i k
unfolding numbers_at
take-numbers_at w b i n zero h = refl
take-numbers_at w b i zero (suc k) h = absurd (not-suc-le-zero h)
take-numbers_at w b i (suc n) (suc k) h = ap (λ (ns : List ℕ). number_at w b i ∷ ns) (take-numbers_at w b (i + w) n k (le_of_suc-le-suc h))

-- they depend only on the bytes in use
pub numbers_at_same : (w : ℕ) (a b : List ℕ) (i j n : ℕ) → ((k : ℕ) → k < w * n → get_or a (i + k) 0 ≡ get_or b (j + k) 0) → numbers_at w a i n ≡ numbers_at w b j n
unfolding numbers_at
numbers_at_same w a b i j zero same = refl
numbers_at_same w a b i j (suc n) same =
    ap₂ (λ (x : ℕ) (xs : List ℕ). x ∷ xs) (number_at_same w a b i j (λ k h. same k (omega (arith, mul-suc w n)))) (numbers_at_same w a b (i + w) (j + w) n next)
  where
    next : (k : ℕ) → k < w * n → get_or a (i + w + k) 0 ≡ get_or b (j + w + k) 0
    next k h = rw (add_assoc i w k, add_assoc j w k) (same (w + k) (omega (arith, mul-suc w n)))

pub length-bytes_of_all : (w : ℕ) (ns : List ℕ) → length (bytes_of_all w ns) ≡ w * length ns
unfolding bytes_of_all
length-bytes_of_all w [] = rw mul-zero
length-bytes_of_all w (n ∷ ns) = omega (arith, length-append (bytes_of w n) (bytes_of_all w ns), length_bytes_of w n, length-bytes_of_all w ns, mul-suc w (length ns))

-- the bytes of numbers that were read are those that they were read from
pub bytes_of_all-numbers_at : (w : ℕ) (b : List ℕ) (i n : ℕ) → ((k : ℕ) → get_or b k 0 < 256) → i + w * n ≤ length b → bytes_of_all w (numbers_at w b i n) ≡ take (w * n) (drop i b)
unfolding numbers_at bytes_of_all
bytes_of_all-numbers_at w b i zero bytes h = rw mul-zero
bytes_of_all-numbers_at w b i (suc n) bytes h =
    let all : w * suc n ≡ w + w * n = omega (arith, mul-suc w n) in
    rw (bytes_of_number_at w b i bytes (omega (arith, mul-suc w n)), bytes_of_all-numbers_at w b (i + w) n bytes (omega (arith, mul-suc w n)), all, take-add w (w * n) (drop i b), drop-drop w i b)

-- also by way of a table
pub words_copied : (w : ℕ) (b table read : List ℕ) (i n : ℕ) → ((k : ℕ) → get_or b k 0 < 256) → i + w * n ≤ length b → n ≤ length table
    → read ≡ sets table 0 (numbers_at w b i n) → bytes_of_all w (take n read) ≡ take (w * n) (drop i b)
words_copied w b table read i n bytes h fits e =
    let ns = numbers_at w b i n in
    let long : length ns ≡ n = length-numbers_at w b i n in
    let first : take n (sets table 0 ns) ≡ ns = rw long at (take-sets table ns (omega arith)) in
    rw (e, first) (bytes_of_all-numbers_at w b i n bytes h)

pub bytes_of_all-append : (w : ℕ) (ms ns : List ℕ) → bytes_of_all w (ms ++ ns) ≡ bytes_of_all w ms ++ bytes_of_all w ns
unfolding bytes_of_all
bytes_of_all-append w [] ns = refl
bytes_of_all-append w (m ∷ ms) ns = rw (bytes_of_all-append w ms ns, append_assoc)

-- numbers that fit are read back, whatever stands behind them
pub numbers_at-bytes_of_all : (w : ℕ) (ns rest : List ℕ) → ((n : ℕ) → Memᴰ n ns → n < 256 ^ w) → numbers_at w (bytes_of_all w ns ++ rest) 0 (length ns) ≡ ns
unfolding numbers_at bytes_of_all
numbers_at-bytes_of_all w [] rest fit = refl
numbers_at-bytes_of_all w (n ∷ ns) rest fit =
    ap (λ (b : List ℕ). numbers_at w b 0 (suc (length ns))) (append_assoc (bytes_of w n) (bytes_of_all w ns) rest)
    ∙ (ap₂ (λ (x : ℕ) (xs : List ℕ). x ∷ xs)
    (number_at_append-left w (bytes_of w n) (bytes_of_all w ns ++ rest) 0 (omega (arith, length_bytes_of w n)) ∙ number_at_bytes_of w n (fit n (Memᴰ.head refl)))
    (numbers_at_same w (bytes_of w n ++ (bytes_of_all w ns ++ rest)) (bytes_of_all w ns ++ rest) (0 + w) 0 (length ns) behind ∙ numbers_at-bytes_of_all w ns rest (λ m t. fit m (Memᴰ.tail t))))
  where
    behind : (k : ℕ) → k < w * length ns → get_or (bytes_of w n ++ (bytes_of_all w ns ++ rest)) (0 + w + k) 0 ≡ get_or (bytes_of_all w ns ++ rest) (0 + k) 0
    behind k h =
        let e : 0 + w + k ≡ length (bytes_of w n) + k = omega (arith, length_bytes_of w n) in
        rw (e, zero-add k) (get_or-append-add (bytes_of w n) (bytes_of_all w ns ++ rest) k 0)

-- ---- numbers written one after another

-- a table that holds the first i numbers, with one more stored behind them
pub numbers_more : (w : ℕ) (l m b : List ℕ) (at to i x : ℕ) → m ≡ sets l to (numbers_at w b at i) → x ≡ number_at w b (at + w * i)
    → set m (to + i) x ≡ sets l to (numbers_at w b at (i + 1))
numbers_more w l m b at to i x e f =
    rw (add-one, numbers_at-snoc w b at i, sets-snoc l to (numbers_at w b at i) (number_at w b (at + w * i)) i (length-numbers_at w b at i), ← e, f)

-- where n numbers have room, each that comes before the last has
pub number_inside : (w i at n : ℕ) {v j long : ℕ} → v ≡ w → i ≡ j → j < n → at + w * n ≤ long → at + v * i + w ≤ long
number_inside w i at n {j = j} e f h room =
    let upto : w * suc j ≤ w * n = mul-le-mul_left w h in
    rw (e, f) (omega (arith, room, upto, mul-suc w j))

-- bytes that hold the first i numbers of a table, with one more written behind them
pub bytes_more : (w : ℕ) (l m r table : List ℕ) (from at i : ℕ) → from + i < length table → m ≡ sets l at (bytes_of_all w (take i (drop from table)))
    → r ≡ sets m (at + w * i) (bytes_of w (get_or table (from + i) 0)) → r ≡ sets l at (bytes_of_all w (take (i + 1) (drop from table)))
unfolding bytes_of_all
bytes_more w l m r table from at i h e f =
    let first = take i (drop from table) in
    let inside : i < length (drop from table) = omega (arith, length-drop from table) in
    let more : take (i + 1) (drop from table) ≡ first ++ (get_or table (from + i) 0 ∷ []) = rw (add-one, take-suc (drop from table) i 0 inside, get_or-drop) in
    let long : length (bytes_of_all w first) ≡ w * i = rw (length-bytes_of_all, length-take-le i (drop from table) (omega (arith, length-drop from table))) in
    rw (more, bytes_of_all-append w first, append-nil, sets-append l at (bytes_of_all w first), long, ← e) f

-- the words of a turn are the bytes that they were read from
pub turn_copied : (a words : List ℕ) (n k : ℕ) → ((i : ℕ) → get_or a i 0 < 256) → length a ≡ 8 * n → k ≡ n → words ≡ numbers_at 8 a 0 k → bytes_of_all 8 words ≡ a
turn_copied a words n k bytes all same e =
    let whole : take (8 * n) a ≡ a = rw (← all) (take-length a) in
    rw (e, same) (bytes_of_all-numbers_at 8 a 0 n bytes (omega (arith, all)) ∙ whole)
