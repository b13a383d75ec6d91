-- The pages of a list of the shape: how many entries stand below a page, and on it.
use Prim.Native.Nat.{ℕ, ◌+◌, ◌*◌, ◌-◌, ◌<◌, ◌≤◌}
use native.Mathlib.Nat.{mul-le-mul_left}
use native.Mathlib.Decide.{dec_lt}
use native.Mathlib.Omega.{arith}
use mathlib.Core.Path.{◌≡◌, refl, ap, sym, ◌∙◌}
use mathlib.Core.Bool.{Bool, true, false}
use lib.Dec.{leb, eqb}
use borrow.Author.Tests.{le-leb, lt-leb, leb-true, eqb-true, eq-eqb}
use Rattle.laws.proofs.Tests.{and-true, and-false_right}
use Rattle.free_list.specs.Shape.{is_fragmented, entries_below}

-- a fragmented list has just the entries of one page less
pub fragmented_is : (c P L : ℕ) → is_fragmented c P L ≡ true → (2 ≤ P) × (L ≡ c * (P - 1))
unfolding is_fragmented
fragmented_is c P L e =
    let t = and-true (leb 2 P) (eqb L (c * (P - 1))) e in
    (leb-true 2 P t.0, eqb-true L (c * (P - 1)) t.1)

-- and a list that has just these is fragmented
pub is_fragmented_lem : (c P L : ℕ) → 2 ≤ P → L ≡ c * (P - 1) → is_fragmented c P L ≡ true
unfolding is_fragmented
is_fragmented_lem c P L two all = rw (le-leb 2 P two, eq-eqb L (c * (P - 1)) all)

module _ (c P L j : ℕ) where
  pub below_all : P ≤ j → L ≡ entries_below c P L j
  unfolding entries_below
  below_all h = rw (le-leb P j h)

  pub below_inner : j + 1 < P → c * j ≡ entries_below c P L j
  unfolding entries_below
  below_inner h = rw (lt-leb P j (omega arith), lt-leb P (j + 1) h, and-false_right (is_fragmented c P L))

  module _ (head : j + 1 ≡ P) where
    pub below-fragmented : is_fragmented c P L ≡ true → L - 1 ≡ entries_below c P L j
    unfolding entries_below
    below-fragmented e = rw (lt-leb P j (omega arith), e, le-leb P (j + 1) (omega arith))

    pub below-head : is_fragmented c P L ≡ false → c * j ≡ entries_below c P L j
    unfolding entries_below
    below-head e = rw (lt-leb P j (omega arith), e)

-- page j of a list of the shape
pub record OnPage (c L below next : ℕ) : Type 0 where
  pub order : below ≤ next
  pub few : next ≤ below + c
  pub within : next ≤ L

module _ (c P L : ℕ) (pos : 2 ≤ c) (some : 1 ≤ L) (most : L ≤ c * P) (least : c * (P - 1) ≤ L) (j : ℕ) (inside : j < P) where
  -- the head
  on_head_lem : j + 1 ≡ P → (b : Bool) → is_fragmented c P L ≡ b → OnPage c L (entries_below c P L j) (entries_below c P L (j + 1))
  on_head_lem head true e = rw (← below_all c P L (j + 1) (omega arith), ← below-fragmented c P L j head e) (record { order = omega arith; few = omega arith; within = omega arith })
  on_head_lem head false e =
      let under : c * (P - 1) ≡ c * j = ap (λ (k : ℕ). c * k) (omega arith) in
      let whole : c * P ≡ c * j + c = ap (λ (k : ℕ). c * k) (sym head) ∙ omega arith in
      rw (← below_all c P L (j + 1) (omega arith), ← below-head c P L j head e) (record { order = omega arith; few = omega arith; within = omega arith })

  -- the page under it
  on_under : j + 2 ≡ P → (b : Bool) → is_fragmented c P L ≡ b → OnPage c L (entries_below c P L j) (entries_below c P L (j + 1))
  on_under under b e =
      let next : c * (P - 1) ≡ c * j + c = ap (λ (k : ℕ). c * k) (last under) ∙ omega arith in
      at b e next
    where
      last : j + 2 ≡ P → P - 1 ≡ j + 1
      last h = omega arith

      at : (b : Bool) → is_fragmented c P L ≡ b → c * (P - 1) ≡ c * j + c → OnPage c L (entries_below c P L j) (entries_below c P L (j + 1))
      at true e next =
          let all = (fragmented_is c P L e).1 in
          rw (← below_inner c P L j (omega arith), ← below-fragmented c P L (j + 1) (omega arith) e) (record { order = omega arith; few = omega arith; within = omega arith })
      at false e next =
          let more : c * (j + 1) ≡ c * j + c = omega arith in
          rw (← below_inner c P L j (omega arith), ← below-head c P L (j + 1) (omega arith) e) (record { order = omega arith; few = omega arith; within = omega arith })

  -- a deeper one
  on_deeper : j + 2 < P → OnPage c L (entries_below c P L j) (entries_below c P L (j + 1))
  on_deeper h =
      let more : c * (j + 1) ≡ c * j + c = omega arith in
      let under : c * (j + 1) ≤ c * (P - 1) = mul-le-mul_left c (last h) in
      rw (← below_inner c P L j (omega arith), ← below_inner c P L (j + 1) (omega arith)) (record { order = omega arith; few = omega arith; within = omega arith })
    where
      last : j + 2 < P → j + 1 ≤ P - 1
      last h = omega arith

  pub on_page : OnPage c L (entries_below c P L j) (entries_below c P L (j + 1))
  on_page = place (dec_lt (j + 1) P) (dec_lt (j + 2) P)
    where
      place : Dec (j + 1 < P) → Dec (j + 2 < P) → OnPage c L (entries_below c P L j) (entries_below c P L (j + 1))
      place (no n) d = on_head_lem (omega arith) (is_fragmented c P L) refl
      place (yes y) (no n) = on_under (omega arith) (is_fragmented c P L) refl
      place (yes y) (yes z) = on_deeper z
