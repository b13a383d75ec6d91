-- Products of a fixed number c, which `omega` takes as unknowns.
use Prim.Native.Nat.{ℕ, zero, suc, ◌+◌, ◌*◌, ◌-◌, ◌<◌, ◌≤◌}
use native.Mathlib.Nat.{mul-zero, mul-suc}
use native.Mathlib.Omega.{arith}
use mathlib.Core.Path.{◌≡◌}

-- one less
pub times_less : (c n : ℕ) → 0 < n → c * (n - 1) + c ≡ c * n
times_less c zero h = absurd (omega arith)
times_less c (suc n) h =
    let e : suc n - 1 ≡ n = omega arith in
    rw e (omega (arith, mul-suc c n))

-- a product that is positive has a positive factor
pub times_positive : (c n : ℕ) → 0 < c * n → 0 < n
times_positive c zero h = absurd (omega (arith, mul-zero c))
times_positive c (suc n) h = omega arith

-- a product by a positive number is no smaller
pub times_least : (c n : ℕ) → 0 < c → n ≤ c * n
times_least c zero h = omega arith
times_least c (suc n) h = omega (arith, times_least c n h, mul-suc c n)
