-- `grown` is what its words say: the least multiple of 8,192 not below g + 8,191; and it is a page number up to the largest bump.
use Prim.Native.Nat.{ℕ, ◌+◌, ◌*◌, ◌-◌, ◌/◌, ◌^◌, ◌≤◌, ◌<◌}
use native.Mathlib.Nat.{lt-div-mul-add, div-mul-le_self, lt_of_mul-lt-mul_right, mul-le-mul_right}
use native.Mathlib.Omega.{arith}
use Rattle.page.specs.Growth.{max_bump, rounded_up, grown}

-- the multiple of m is not below n
pub rounded_up_above : (m n : ℕ) → 0 < m → n ≤ rounded_up m n
unfolding rounded_up
rounded_up_above m n h = omega (arith, lt-div-mul-add {a = n + (m - 1)} h)

-- and no lesser multiple is
pub rounded_up_least : (m n k : ℕ) → 0 < m → n ≤ k * m → rounded_up m n ≤ k * m
unfolding rounded_up
rounded_up_least m n k h above =
    let q = (n + (m - 1)) / m in
    let few : q * m < k * m + m = omega (arith, div-mul-le_self (n + (m - 1)) m) in
    let less : q < k + 1 = lt_of_mul-lt-mul_right m (omega arith) in
    mul-le-mul_right m (omega arith)

-- up to the largest bump the new length is a page number
pub grown_fits : (g : ℕ) → g ≤ max_bump → grown g < 2 ^ 32
unfolding grown rounded_up
grown_fits g h = omega arith

-- the page itself then lies within the store
pub grown_covers : (g : ℕ) → g < grown g
unfolding grown rounded_up
grown_covers g = omega arith
