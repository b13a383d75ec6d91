-- How many pages hold n entries, by division; and what is known of a list that is fragmented, and of one that is not.
use Prim.Native.Nat.{ℕ, zero, suc, ◌+◌, ◌-◌, ◌*◌, ◌/◌, ◌%◌, min, ◌≤◌, ◌<◌}
use native.Mathlib.Nat.{mul_comm, lt-div-mul-add, le-div_iff_mul-le, div-lt_iff_lt-mul, mul-div-le}
use native.Mathlib.Omega.{arith}
use mathlib.Core.Path.{◌≡◌}
use mathlib.Core.Bool.{true, false, ◌&&◌}
use lib.Dec.{eqb}
use Rattle.std.proofs.lemmas.Grind.{div_ceil_times}
use Rattle.laws.proofs.ProductLaws.{times_less}
use Rattle.laws.proofs.Tests.{and-true}
use Rattle.free_list.specs.Shape.{is_fragmented}
use Rattle.free_list.proofs.ShapeLaws.{Shaped}
use Rattle.free_list.proofs.BelowLaws.{fragmented_is}
use Rattle.free_list.proofs.FittingLaws.{not_fragmented}
use Rattle.preallocate.specs.Plan.{pages_for}

-- ---- the pages that hold n entries, and no fewer

pub pages_for_enough : (c n : ℕ) → 1 ≤ c → n ≤ c * pages_for c n
unfolding pages_for
pages_for_enough c n h = omega (arith, lt-div-mul-add {a = n + (c - 1)} {b = c} h)

pub pages_for_tight : (c n : ℕ) → 1 ≤ c → c * pages_for c n < n + c
unfolding pages_for
pages_for_tight c n h = omega (arith, mul-div-le (n + (c - 1)) c)

pub pages_for_least : (c n m : ℕ) → 1 ≤ c → n ≤ c * m → pages_for c n ≤ m
unfolding pages_for
pages_for_least c n m h le =
    let lt : (n + (c - 1)) / c < suc m = (div-lt_iff_lt-mul {k = c} {x = n + (c - 1)} {y = suc m} h).1 (omega arith) in
    omega arith

-- a quotient that is rounded up is that number
pub pages_for_ceil : (c n : ℕ) → 1 ≤ c → n / c + min 1 (n % c) ≡ pages_for c n
unfolding pages_for
pages_for_ceil c n h =
    let x = n / c + min 1 (n % c) in
    let t = div_ceil_times n c h in
    let below : x ≤ (n + (c - 1)) / c = (le-div_iff_mul-le {k = c} {x = x} {y = n + (c - 1)} h).1 (omega (arith, t.1)) in
    omega (arith, below, pages_for_least c n x h (omega (arith, t.0, mul_comm c x)))

-- ---- fragmented lists

-- where nothing is popped from a fragmented list, it has two pages at least
pub mended_pages : (c P L k : ℕ) → eqb k 0 && is_fragmented c P L ≡ true → 2 ≤ P
mended_pages c P L k e = (fragmented_is c P L (and-true (eqb k 0) (is_fragmented c P L) e).1).0

-- one that is not fragmented has an entry on its head page
pub head_some : (c P L : ℕ) → 2 ≤ c → 1 ≤ L → Shaped c P L → is_fragmented c P L ≡ false → c * P < L + c
head_some c zero L two some s e = omega arith
head_some c (suc zero) L two some s e = omega arith
head_some c (suc (suc p)) L two some s e =
    omega (arith, s.least, not_fragmented c (suc (suc p)) L e (omega arith), times_less c (suc (suc p)) (omega arith))
