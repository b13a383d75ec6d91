-- The state of an open save: the shape by division, what a state that stands has, and what handing out leaves.
-- By the tests of the definitions. Assumes nothing.
use Prim.Native.Nat.{ℕ, suc, ◌*◌, ◌-◌, ◌/◌, ◌<◌, ◌≤◌}
use native.Mathlib.Nat.{mul_comm, mul-le-mul_left, lt-div-mul-add, div-mul-le_self, le-div_iff_mul-le}
use native.Mathlib.Omega.{arith}
use mathlib.Core.Path.{◌≡◌, refl, sym, ◌∙◌}
use mathlib.Core.Bool.{Bool, true, false, ◌&&◌, ◌||◌, cond}
use mathlib.Core.List.{List, []}
use lib.Dec.{leb, ltb, eqb}
use borrow.Author.Tests.{le-leb, lt-leb, leb-true, ne_eqb, lt-ltb, le-ltb}
use lib.ListN.{length, get_or}
use Rattle.refusal.specs.Outcome.{answer, refused}
use Rattle.refusal.specs.Effect.{effect}
use Rattle.laws.proofs.Tests.{same_truth, and-true, and-true_right, and-false_right}
use Rattle.page.specs.PageSize.{capacity}
use Rattle.page.specs.Growth.{max_bump, grown, grow}
use Rattle.free_list.specs.Shape.{is_shape}
use Rattle.allocator.specs.Answers.{save_of}
use Rattle.allocator.specs.declared.save.Start.{Start}
use Rattle.allocator.specs.declared.save.OpenSave.{OpenSave}
use Rattle.allocator.specs.OpenSave.{Save, state_fits, bumped, next_number, next_recorded, hand_out, counters, count_up}

-- no entries: no pages
pub shape_none : (c P L : ℕ) → L ≡ 0 → eqb P 0 ≡ is_shape c P L
unfolding is_shape
shape_none c P L e = rw e (only (eqb P 0))
  where
    only : (b : Bool) → b ≡ (b && true) || false
    only true = refl
    only false = refl

module _ (c P L : ℕ) (pos : 2 ≤ c) (some : L ≡ 0 → ⊥) where
  shape_some : is_shape c P L ≡ leb (c * (P - 1)) L && leb L (c * P)
  unfolding is_shape
  shape_some = rw (ne_eqb L 0 some, le-leb 1 L (omega arith)) (only (eqb P 0))
    where
      only : (b : Bool) → (b && false) || (leb (c * (P - 1)) L && leb L (c * P)) ≡ leb (c * (P - 1)) L && leb L (c * P)
      only true = refl
      only false = refl

  -- too few pages
  pub shape_few : P ≤ (L - 1) / c → false ≡ is_shape c P L
  shape_few h =
      let less : c * P < L = omega (arith, mul-le-mul_left c h, div-mul-le_self (L - 1) c) in
      sym (shape_some ∙ rw (lt-leb L (c * P) less) (and-false_right (leb (c * (P - 1)) L)))

  -- enough pages, and not more than one too many
  pub shape_enough : (L - 1) / c < P → leb (P - 1) (L / c) ≡ is_shape c P L
  shape_enough h =
      let most : L ≤ c * P = omega (arith, mul-le-mul_left c h, lt-div-mul-add {a = L - 1} {b = c} (omega arith)) in
      sym (shape_some ∙ rw (le-leb L (c * P) most) (and-true_right (leb (c * (P - 1)) L)) ∙ same_truth (leb (c * (P - 1)) L) (leb (P - 1) (L / c)) down up)
    where
      down : leb (c * (P - 1)) L ≡ true → leb (P - 1) (L / c) ≡ true
      down e = le-leb (P - 1) (L / c) ((le-div_iff_mul-le {k = c} {x = P - 1} {y = L} (omega arith)).1 (rw mul_comm (leb-true (c * (P - 1)) L e)))

      up : leb (P - 1) (L / c) ≡ true → leb (c * (P - 1)) L ≡ true
      up e = le-leb (c * (P - 1)) L (rw mul_comm ((le-div_iff_mul-le {k = c} {x = P - 1} {y = L} (omega arith)).0 (leb-true (P - 1) (L / c) e)))

-- what a state that stands has
pub record Stands (s : ℕ) (v : Save) : Type 0 where
  pub some : 1 ≤ v.bump
  pub most : v.bump ≤ max_bump
  pub shape : is_shape (capacity s) v.P v.L ≡ true
  pub pages_fit : v.P ≤ length v.page_table
  pub entries_fit : v.L ≤ length v.entry_table

pub stands : (s : ℕ) (v : Save) → state_fits s v ≡ true → Stands s v
unfolding state_fits
stands s v e =
    let t = and-true (leb 1 v.bump && leb v.bump max_bump) _ e in
    let b = and-true (leb 1 v.bump) (leb v.bump max_bump) t.0 in
    let u = and-true (is_shape (capacity s) v.P v.L) _ t.1 in
    let f = and-true (leb v.P (length v.page_table)) (leb v.L (length v.entry_table)) u.1 in
    record { some = leb-true _ _ b.0; most = leb-true _ _ b.1; shape = u.0; pages_fit = leb-true _ _ f.0; entries_fit = leb-true _ _ f.1 }

-- the state's tests, with the shape's at the capacity that was told
pub tested : (s P L : ℕ) {c : ℕ} {shape : Bool} → c ≡ capacity s → shape ≡ is_shape c P L → is_shape (capacity s) P L ≡ shape
tested s P L e t = rw (← e) (sym t)

-- the length that a store is grown to, from what `grow` answers
pub grown_is : (page n : ℕ) → page ≤ max_bump → answer n ≡ grow page → n ≡ grown page
unfolding grow
grown_is page n h e = cc (rw (le-leb page max_bump h) at e)

-- up to the largest bump it answers
pub grown_always : (page : ℕ) {n : ℕ} {vs : List ℕ} → page ≤ max_bump → refused n vs ≡ grow page → page ≡ grown page
unfolding grow
grown_always page h e = cc (rw (le-leb page max_bump h) at e)

-- whether a save can go on does not hang on what was counted up
pub counted_otherwise : (s : ℕ) (start : Start) (v w : OpenSave) (pages entries : List ℕ)
    → state_fits s (save_of start v pages entries) ≡ state_fits s (save_of start w pages entries)
unfolding state_fits
counted_otherwise s start v w pages entries = refl

-- ---- handing out

module _ (s : ℕ) (v : Save) where
  pub refused_state : state_fits s v ≡ false → effect (refused 1 []) (counters v) ≡ count_up s v
  unfolding count_up hand_out
  refused_state e = rw e

  module _ (state : state_fits s v ≡ true) where
    -- from the list
    pub handed-listed : v.handed < v.L
        → effect (answer (get_or v.entry_table (v.L - suc v.handed) 0)) (record { handed = suc v.handed; recorded = v.recorded }) ≡ count_up s v
    unfolding count_up hand_out next_number next_recorded
    handed-listed h = rw (state, lt-ltb _ _ h)

    module _ (past : v.L ≤ v.handed) where
      pub refused-limit : max_bump ≤ bumped v → effect (refused 7 []) (counters v) ≡ count_up s v
      unfolding count_up hand_out next_number
      refused-limit h = rw (state, le-ltb _ _ past, le-ltb _ _ h)

      -- past the bump
      pub handed-past : bumped v < max_bump
          → effect (answer (bumped v)) (record { handed = suc v.handed; recorded = cond (ltb (bumped v) v.recorded) v.recorded (grown (bumped v)) }) ≡ count_up s v
      unfolding count_up hand_out next_number next_recorded
      handed-past h = rw (state, le-ltb _ _ past, lt-ltb _ _ h)
