-- What is marked after a number is marked, and after all bits in use are cleared.
-- By the bits of a byte. Assumes nothing.
use Prim.Native.Nat.{ℕ, ◌+◌, ◌/◌, ◌%◌, ◌^◌, max, ◌<◌, ◌≤◌}
use native.Mathlib.Decide.{ℕ_discrete}
use native.Mathlib.Nat.{zero-add}
use native.Mathlib.Omega.{arith}
use mathlib.Core.Path.{◌≡◌, refl, ap, ◌∙◌}
use mathlib.Core.Logic.{◌≢◌}
use mathlib.Core.Bool.{true, false}
use mathlib.Core.List.{List}
use lib.Dec.{eqb}
use lib.ListN.{length, get_or, set, length-set, replicate, length-replicate}
use lib.Seq.{length-sets, get_or-set_same, get_or-set_other}
use borrow.Author.Tests.{eq-eqb, leb-true}
use Rattle.std.specs.Int.{bit_at}
use Rattle.std.specs.Int.Bits.{bit_or}
use Rattle.std.proofs.lemmas.Nat.Bits.{bit_at_or, bit_at-pow_same, bit_at-pow_other, bit_at-lt, bit_at-zero}
use Rattle.std.proofs.lemmas.List.{get_or-replicate}
use Rattle.laws.proofs.SetsLaws.{get_d_sets_behind, get_d_sets_in}
use Rattle.bit_map.specs.BitMap.{bytes_in_use, has_bits, is_marked, with_marked, cleared}

-- a number below the limit has its byte among those in use, and so in a map that has its bits
pub in_use : (limit n : ℕ) → n < limit → n / 8 < bytes_in_use limit
unfolding bytes_in_use
in_use limit n h = omega arith

pub in_map : (limit : ℕ) (map : List ℕ) (n : ℕ) → has_bits limit (length map) ≡ true → n < limit → n / 8 < length map
in_map limit map n e h = omega (arith, in_use limit n h, leb-true (bytes_in_use limit) (length map) e)

-- ---- one number

pub length-marked : (map : List ℕ) (n : ℕ) → length (with_marked map n) ≡ length map
unfolding with_marked
length-marked map n = length-set map (n / 8) _

pub marked_same : (map : List ℕ) (n : ℕ) → n / 8 < length map → is_marked (with_marked map n) n ≡ true
unfolding is_marked with_marked
marked_same map n h =
    let b = get_or map (n / 8) 0 in
    rw (get_or-set_same map (n / 8) (bit_or b (2 ^ (n % 8))) 0 h, bit_at_or b (2 ^ (n % 8)) (n % 8), bit_at-pow_same (n % 8))
    (eq-eqb (max (bit_at b (n % 8)) 1) 1 (omega (arith, bit_at-lt b (n % 8))))

-- other bits of the byte stay, and other bytes do
pub marked_other : (map : List ℕ) (n m : ℕ) → n / 8 < length map → m ≢ n → is_marked (with_marked map n) m ≡ is_marked map m
unfolding is_marked with_marked
marked_other map n m h other = go (ℕ_discrete (m / 8) (n / 8))
  where
    go : Dec (m / 8 ≡ n / 8)
        → eqb (bit_at (get_or (set map (n / 8) (bit_or (get_or map (n / 8) 0) (2 ^ (n % 8)))) (m / 8) 0) (m % 8)) 1 ≡ eqb (bit_at (get_or map (m / 8) 0) (m % 8)) 1
    go (yes same) =
        let b = get_or map (n / 8) 0 in
        let apart : m % 8 ≢ n % 8 = λ e. other (omega (arith, same, e)) in
        rw (same, get_or-set_same map (n / 8) (bit_or b (2 ^ (n % 8))) 0 h, bit_at_or b (2 ^ (n % 8)) (m % 8), bit_at-pow_other (n % 8) (m % 8) apart)
        (ap (λ (k : ℕ). eqb k 1) (omega arith))
    go (no ne) = rw (get_or-set_other map (n / 8) (m / 8) (bit_or (get_or map (n / 8) 0) (2 ^ (n % 8))) 0 ne)

-- ---- all bits in use

pub length-cleared : (limit : ℕ) (map : List ℕ) → length (cleared limit map) ≡ length map
unfolding cleared
length-cleared limit map = length-sets map 0 (replicate (bytes_in_use limit) 0)

-- those bytes are zero, and the others as they were
pub cleared_in : (limit : ℕ) (map : List ℕ) (i : ℕ) → has_bits limit (length map) ≡ true → i < bytes_in_use limit → get_or (cleared limit map) i 0 ≡ 0
unfolding cleared
cleared_in limit map i room h =
    let n = bytes_in_use limit in
    let first : 0 + i ≡ i = zero-add i in
    rw first at (get_d_sets_in map 0 (replicate n 0) i 0 (omega (arith, length-replicate {A = ℕ} n 0)) (omega (arith, leb-true n (length map) room)))
    ∙ get_or-replicate n i 0 0 h

pub cleared_behind : (limit : ℕ) (map : List ℕ) (i : ℕ) → bytes_in_use limit ≤ i → get_or (cleared limit map) i 0 ≡ get_or map i 0
unfolding cleared
cleared_behind limit map i h =
    get_d_sets_behind map 0 (replicate (bytes_in_use limit) 0) i 0 (omega (arith, length-replicate {A = ℕ} (bytes_in_use limit) 0))

pub cleared_none : (limit : ℕ) (map : List ℕ) (n : ℕ) → has_bits limit (length map) ≡ true → n < limit → is_marked (cleared limit map) n ≡ false
unfolding is_marked
cleared_none limit map n room h = rw (cleared_in limit map (n / 8) room (in_use limit n h), bit_at-zero (n % 8)) refl
