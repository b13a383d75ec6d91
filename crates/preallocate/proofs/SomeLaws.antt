-- A finish that has something to do pushes something: where a number was popped or freed, the push list is not empty.
-- By the cases of a plan (`plan_run`). Assumes nothing.
use Prim.Native.Nat.{ℕ, ◌+◌, ◌≤◌}
use native.Mathlib.Omega.{arith}
use mathlib.Core.Path.{◌≡◌}
use mathlib.Core.Logic.{◌⊎◌, inl, inr}
use mathlib.Core.Bool.{true, false, ◌&&◌}
use mathlib.Core.List.{List, [], ◌∷◌, ◌++◌, reverse}
use lib.Dec.{eqb}
use lib.ListN.{length, drop, length-append, length-reverse, length-drop}
use borrow.Author.Tests.{eqb-false}
use Rattle.laws.proofs.Tests.{and-false}
use Rattle.free_list.specs.Shape.{FreeList, is_shape}
use Rattle.preallocate.specs.Plan.{Plan, pages_after, pushed_after, plan_of}
use Rattle.laws.proofs.ProductLaws.{times_positive}
use Rattle.free_list.proofs.ShapeLaws.{shaped}
use Rattle.preallocate.proofs.CasesLaws.{FirstCases, TurnCases, plan_run}

-- a list that is made longer at its end
more_after : (ns ms : List ℕ) → 1 ≤ length ms → 1 ≤ length (ns ++ ms)
more_after ns ms h = omega (arith, length-append ns ms)

kept-after : (ns ms : List ℕ) → 1 ≤ length ns → 1 ≤ length (ns ++ ms)
kept-after ns ms h = omega (arith, length-append ns ms)

module _ (c : ℕ) (l : FreeList) (k : ℕ) (freed : List ℕ) (bump : ℕ) (pos : 1 ≤ c)
    (shape : is_shape c (length l.pages) (length l.entries) ≡ true) (kL : k ≤ length l.entries) (changed : eqb k 0 && eqb (length freed) 0 ≡ false) where
  -- there is a freed number, or a list page that the pops may release
  some_number : 1 ≤ length freed + length l.pages
  some_number = go (and-false (eqb k 0) (eqb (length freed) 0) changed)
    where
      go : (eqb k 0 ≡ false) ⊎ (eqb (length freed) 0 ≡ false) → 1 ≤ length freed + length l.pages
      go (inl e) =
          let some : 1 ≤ k = omega (arith, eqb-false k 0 e) in
          omega (arith, times_positive c (length l.pages) (omega (arith, (shaped c (length l.pages) (length l.entries) shape).most)))
      go (inr e) = omega (arith, eqb-false (length freed) 0 e)

  -- where every page is released
  released : pages_after c l k ≡ 0 → 1 ≤ length (pushed_after c l k freed)
  unfolding pushed_after
  released z =
      omega (
        arith,
        some_number,
        length-append freed (reverse (drop (pages_after c l k) l.pages)),
        length-reverse (drop (pages_after c l k) l.pages),
        length-drop (pages_after c l k) l.pages,
      )

  abbrev Some : Plan → Type 0
  Some t = 1 ≤ length t.pushed

  some_first : FirstCases c l k freed bump Some
  some_first =
      record {
        none = λ h e z. released z;
        mending = λ e some f two all z. more_after (pushed_after c l k freed) (_ ∷ _ ∷ []) (omega arith);
        emptying = λ lt e one most x. more_after (pushed_after c l k freed) (_ ∷ []) (omega arith);
        renumbering = λ lt e one most fits. more_after (pushed_after c l k freed) (_ ∷ []) (omega arith);
      }

  some_turns : TurnCases c l k freed bump Some
  some_turns =
      record {
        swapping = λ t b p one x. kept-after t.pushed (t.top ∷ []) p;
        taking = λ t b p some one ne. p;
        taking-last = λ t b p some one ne x. p;
        bumping = λ t b p. p;
      }

  -- Where something was popped or freed, the push list is not empty.
  pub plan_some : 1 ≤ length (plan_of c l k freed bump).pushed
  plan_some = (plan_run c l k freed bump Some pos shape some_first some_turns).1
