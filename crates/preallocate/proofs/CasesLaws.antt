-- A plan, case by case: what holds after the first pop and is kept by each turn holds of the whole plan (`plan_run`). The plan is not
-- taken apart elsewhere. By the tests of `first_plan` and `next_plan`, and induction over the turns. Assumes nothing.
use Prim.Native.Nat.{ℕ, zero, suc, ◌*◌, ◌-◌, ◌<◌, ◌≤◌}
use native.Mathlib.Omega.{arith}
use mathlib.Core.Path.{◌≡◌, refl, sym, subst}
use mathlib.Core.Logic.{◌⊎◌, inl, inr}
use mathlib.Core.Bool.{Bool, true, false, ◌&&◌, cond}
use mathlib.Core.List.{List}
use lib.Dec.{leb, ltb, eqb}
use lib.ListN.{length}
use borrow.Author.Tests.{leb-true, leb-false, eqb-true, eqb-false}
use Rattle.laws.proofs.Tests.{cond_cases, and-true, and-false}
use Rattle.free_list.specs.Shape.{FreeList, is_shape, is_fragmented}
use Rattle.free_list.proofs.BelowLaws.{fragmented_is}
use Rattle.preallocate.specs.Plan.{Plan, pages_for, room, pages_after, pushed_after, none_left, renumbered, mended, emptied, first_plan, swap_top, take_entry, take_last, take_bump, next_plan, enough_room, plan_of}
use Rattle.laws.proofs.ProductLaws.{times_positive}
use Rattle.free_list.proofs.ShapeLaws.{shaped}
use Rattle.preallocate.proofs.PagesForLaws.{pages_for_enough, pages_for_least}

enough_short : (c : ℕ) (l : FreeList) (n : ℕ) (t : Plan) → ltb (room c t) (length t.pushed) ≡ true → enough_room c l (suc n) t ≡ enough_room c l n (next_plan c l t)
unfolding enough_room
enough_short c l n t e = rw (e, enough_room)

enough_long : (c : ℕ) (l : FreeList) (n : ℕ) (t : Plan) → ltb (room c t) (length t.pushed) ≡ false → enough_room c l (suc n) t ≡ t
unfolding enough_room
enough_long c l n t e = rw (e, enough_room)

-- one turn, where room is short
pub enough_turn : (c : ℕ) (l : FreeList) (n : ℕ) (t : Plan)
    → enough_room c l (suc n) t ≡ cond (ltb (room c t) (length t.pushed)) (enough_room c l n (next_plan c l t)) t
enough_turn c l n t = at (ltb (room c t) (length t.pushed)) refl
  where
    at : (b : Bool) → ltb (room c t) (length t.pushed) ≡ b → enough_room c l (suc n) t ≡ cond b (enough_room c l n (next_plan c l t)) t
    at true e = enough_short c l n t e
    at false e = enough_long c l n t e

-- a finish that pops k numbers mends a fragmented list only where it pops none
abbrev pub mends : ℕ → FreeList → ℕ → Bool
mends c l k = eqb k 0 && is_fragmented c (length l.pages) (length l.entries)

-- what is left fits on the pages kept, and is of what the pops leave
pub record Bounded (c : ℕ) (l : FreeList) (k : ℕ) (t : Plan) : Type 0 where
  pub fits : t.left ≤ c * t.kept
  pub within : t.left ≤ length l.entries - k

module _ (c : ℕ) (l : FreeList) (k : ℕ) (freed : List ℕ) (bump : ℕ) where
  -- the four first plans, p being the pages that the pops leave
  pub record FirstCases (Q : Plan → Type 0) : Type 0 where
    pub none : length l.entries ≤ k → mends c l k ≡ false → pages_after c l k ≡ 0 → Q (none_left c l (pushed_after c l k freed) bump)
    pub mending : k ≡ 0 → 1 ≤ length l.entries → mends c l k ≡ true → 2 ≤ length l.pages → length l.entries ≡ c * (length l.pages - 1)
        → pages_after c l k ≡ length l.pages → Q (mended c l (length l.entries - suc k) (pushed_after c l k freed) bump)
    pub emptying : k < length l.entries → mends c l k ≡ false → 1 ≤ pages_after c l k → pages_after c l k ≤ length l.pages
        → length l.entries - suc k ≡ c * (pages_after c l k - 1)
        → Q (emptied c l (pages_after c l k) (length l.entries - suc k) (pushed_after c l k freed) bump)
    pub renumbering : k < length l.entries → mends c l k ≡ false → 1 ≤ pages_after c l k → pages_after c l k ≤ length l.pages
        → length l.entries - k ≤ c * pages_after c l k
        → Q (renumbered c l (pages_after c l k) (length l.entries - suc k) (pushed_after c l k freed) bump)

  -- the four turns
  pub record TurnCases (Q : Plan → Type 0) : Type 0 where
    pub swapping : (t : Plan) → Bounded c l k t → Q t → 1 ≤ t.kept → t.left ≡ c * t.kept → Q (swap_top c l t)
    pub taking : (t : Plan) → Bounded c l k t → Q t → 1 ≤ t.left → 1 ≤ t.kept → (t.left ≡ c * t.kept → ⊥) → Q (take_entry c l t)
    pub taking-last : (t : Plan) → Bounded c l k t → Q t → 1 ≤ t.left → 1 ≤ t.kept → (t.left ≡ c * t.kept → ⊥)
        → t.left - 1 ≡ c * (t.kept - 1) → Q (take_last c l t)
    pub bumping : (t : Plan) → Bounded c l k t → Q t → Q (take_bump c l t)

  -- what holds of the first plan and is kept by each turn, holds of the plan
  module _ (Q : Plan → Type 0) (pos : 1 ≤ c) (shape : is_shape c (length l.pages) (length l.entries) ≡ true) where
    abbrev P : ℕ
    P = length l.pages

    abbrev L : ℕ
    L = length l.entries

    after_fits : L - k ≤ c * pages_after c l k
    unfolding pages_after
    after_fits =
        cond_cases (λ (p : ℕ). L - k ≤ c * p) (eqb k 0) P (pages_for c (L - k))
        (λ e. omega (arith, (shaped c P L shape).most))
        (λ e. pages_for_enough c (L - k) pos)

    after_most : pages_after c l k ≤ P
    unfolding pages_after
    after_most =
        cond_cases (λ (p : ℕ). p ≤ P) (eqb k 0) P (pages_for c (L - k))
        (λ e. omega arith)
        (λ e. pages_for_least c (L - k) P pos (omega (arith, (shaped c P L shape).most)))

    after_all : k ≡ 0 → pages_after c l k ≡ P
    unfolding pages_after
    after_all e = rw e

    after_none : L ≤ k → pages_after c l k ≡ 0
    unfolding pages_after
    after_none h =
        cond_cases (λ (p : ℕ). p ≡ 0) (eqb k 0) P (pages_for c (L - k))
        (λ e. (shaped c P L shape).none (omega (arith, eqb-true k 0 e)))
        (λ e. omega (arith, pages_for_least c (L - k) 0 pos (omega arith)))

    mends_is : mends c l k ≡ true → (k ≡ 0) × (2 ≤ P) × (L ≡ c * (P - 1))
    mends_is e =
        let t = and-true (eqb k 0) (is_fragmented c P L) e in
        (eqb-true k 0 t.0, (fragmented_is c P L t.1).0, (fragmented_is c P L t.1).1)

    not_mended : L ≤ k → (b : Bool) → mends c l k ≡ b → mends c l k ≡ false
    not_mended h true e =
        let t = mends_is e in
        absurd (omega (arith, t.1, t.0, (shaped c P L shape).none (omega (arith, t.0))))
    not_mended h false e = e

    abbrev Both : Plan → Type 0
    Both t = Bounded c l k t × Q t

    module _ (first : FirstCases Q) (turns : TurnCases Q) where
      both_first : Both (first_plan c l k freed bump)
      unfolding first_plan
      both_first =
          cond_cases Both (leb L k) _ _
          (λ e. let h = leb-true L k e in
          (record { fits = omega arith; within = omega arith }, first.none h (not_mended h (mends c l k) refl) (after_none h)))
          (λ e. let lt : k < L = leb-false L k e in
          let some : 1 ≤ pages_after c l k = times_positive c (pages_after c l k) (omega (arith, after_fits)) in
          cond_cases Both (mends c l k) _ _
          (λ f. let t = mends_is f in
          (record { fits = omega (arith, t.2); within = omega arith }, first.mending t.0 (omega arith) f t.1 t.2 (after_all t.0)))
          (λ f. cond_cases Both (eqb (L - suc k) (c * (pages_after c l k - 1))) _ _
          (λ g. let x = eqb-true _ _ g in (record { fits = omega arith; within = omega arith }, first.emptying lt f some after_most x))
          (λ g. (record { fits = omega (arith, after_fits); within = omega arith }, first.renumbering lt f some after_most after_fits))))

      module _ (t : Plan) (both : Both t) where
        some_kept : 1 ≤ t.left → 1 ≤ t.kept
        some_kept some = times_positive c t.kept (omega (arith, both.0.fits))

        not_whole : 1 ≤ t.left → leb 1 t.kept && eqb t.left (c * t.kept) ≡ false → t.left ≡ c * t.kept → ⊥
        not_whole some e x = go (and-false (leb 1 t.kept) (eqb t.left (c * t.kept)) e)
          where
            go : (leb 1 t.kept ≡ false) ⊎ (eqb t.left (c * t.kept) ≡ false) → ⊥
            go (inl y) = omega (arith, leb-false 1 t.kept y, some_kept some)
            go (inr y) = eqb-false t.left (c * t.kept) y x

        both_next : Both (next_plan c l t)
        unfolding next_plan
        both_next =
            cond_cases Both (leb 1 t.kept && eqb t.left (c * t.kept)) _ _
            (λ e. let b = and-true (leb 1 t.kept) (eqb t.left (c * t.kept)) e in
            let x = eqb-true _ _ b.1 in
            (record { fits = omega (arith, x); within = omega (arith, both.0.within) }, turns.swapping t both.0 both.1 (leb-true _ _ b.0) x))
            (λ e. cond_cases Both (leb 1 t.left) _ _
            (λ f. let some : 1 ≤ t.left = leb-true _ _ f in
            cond_cases Both (eqb (t.left - 1) (c * (t.kept - 1))) _ _
            (λ g. let x = eqb-true _ _ g in
            (record { fits = omega arith; within = omega (arith, both.0.within) }, turns.taking-last t both.0 both.1 some (some_kept some) (not_whole some e) x))
            (λ g. (record { fits = omega (arith, both.0.fits); within = omega (arith, both.0.within) }, turns.taking t both.0 both.1 some (some_kept some) (not_whole some e))))
            (λ f. (record { fits = both.0.fits; within = both.0.within }, turns.bumping t both.0 both.1)))

      both_enough : (n : ℕ) (t : Plan) → Both t → Both (enough_room c l n t)
      unfolding enough_room
      both_enough zero t both = both
      both_enough (suc n) t both =
          subst Both (sym (enough_turn c l n t))
          (cond_cases Both (ltb (room c t) (length t.pushed)) (enough_room c l n (next_plan c l t)) t
          (λ e. both_enough n (next_plan c l t) (both_next t both))
          (λ e. both))

      pub plan_run : Bounded c l k (plan_of c l k freed bump) × Q (plan_of c l k freed bump)
      unfolding plan_of
      plan_run = both_enough _ (first_plan c l k freed bump) both_first
