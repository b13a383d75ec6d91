-- Conservation: counted with repeats, the pages and entries of a list after a finish, and the entries handed out, are those before,
-- the freed numbers, and what was taken past the bump.
use Prim.Native.Nat.{ℕ, suc, ◌+◌, ◌*◌, ◌-◌, ◌<◌, ◌≤◌}
use native.Mathlib.Nat.{sub_self, mul-le-mul_left}
use native.Mathlib.Decide.{ℕ_discrete}
use native.Mathlib.Omega.{arith}
use mathlib.Core.Path.{◌≡◌, refl, ap, ◌∙◌}
use mathlib.Core.Bool.{Bool, true, false, cond}
use mathlib.Core.List.{List, [], ◌∷◌, ◌++◌, reverse}
use lib.Dec.{leb}
use lib.ListN.{length, get_or, take, drop}
use borrow.Author.Tests.{leb-true, leb-false}
use Rattle.laws.specs.Counting.{count, numbers_from}
use Rattle.laws.proofs.CountLaws.{count_none, count-append, count-cons, count-reverse, count_split, count_last, count_numbers}
use Rattle.laws.proofs.Tests.{cond_cases}
use Rattle.free_list.specs.Shape.{FreeList}
use Rattle.preallocate.specs.Plan.{Plan, swap_top, take_entry, take_last, take_bump, plan_of}
use Rattle.finisher.specs.Finish.{new_list}
use Rattle.finisher.specs.Theorems.{Conserved}
use Rattle.finisher.specs.Steps.{swap_if, push_list}
use Rattle.preallocate.proofs.CasesLaws.{Bounded, FirstCases, TurnCases, mends, plan_run}
use Rattle.finisher.proofs.PushLaws.{Pushes, plan-pushes}

-- ---- the push list

pub count-swap_if : (x : ℕ) (b : Bool) (ns : List ℕ) → count x (swap_if b ns) ≡ count x ns
count-swap_if x true [] = refl
count-swap_if x true (m ∷ []) = refl
count-swap_if x true (m ∷ n ∷ ns) = omega (arith, count-cons x m (n ∷ ns), count-cons x n ns, count-cons x n (m ∷ ns), count-cons x m ns)
count-swap_if x false ns = refl

pub count-push_list : (x : ℕ) (freed : List ℕ) (b : Bool) (pages : List ℕ) (low : ℕ) → count x (push_list freed b pages low) ≡ count x freed + count x (drop low pages)
unfolding push_list
count-push_list x freed b pages low =
    count-append x freed (swap_if b (reverse (drop low pages))) ∙ omega (arith, count-swap_if x b (reverse (drop low pages)), count-reverse x (drop low pages))

-- ---- what a plan takes

module _ (c : ℕ) (l : FreeList) (k bump x : ℕ) where
  -- the numbers that the pops leave and that the finish may take
  abbrev before : Plan → ℕ
  before t = count x l.entries + count x (numbers_from bump (t.bump - bump))

  -- what is left, the new pages and the entries handed out
  abbrev after : Plan → ℕ
  after t = count x (take t.left l.entries) + count x t.fresh + count x (drop (length l.entries - k) l.entries)

  -- with the top page's number where that was taken
  pub record Counted (t : Plan) : Type 0 where
    pub past : bump ≤ t.bump
    pub whole : t.left ≡ c * t.kept → after t ≡ before t
    pub partial : (t.left ≡ c * t.kept → ⊥) → after t + count x (t.top ∷ []) ≡ before t

  no_bump : count x (numbers_from bump (bump - bump)) ≡ 0
  unfolding numbers_from
  no_bump = rw sub_self (count_none x)

  none_taken : length l.entries ≤ k → count x (take 0 l.entries) + count x (drop (length l.entries - k) l.entries) ≡ count x l.entries
  none_taken h =
      ap (λ (n : ℕ). count x (take n l.entries) + count x (drop (length l.entries - k) l.entries)) none
      ∙ count_split x (length l.entries - k) l.entries
    where
      none : 0 ≡ length l.entries - k
      none = omega arith

  one_taken : k < length l.entries
      → count x (take (length l.entries - suc k) l.entries) + count x (get_or l.entries (length l.entries - suc k) 0 ∷ [])
      + count x (drop (length l.entries - k) l.entries)
      ≡ count x l.entries
  one_taken h =
      omega (
        arith,
        count_last x (length l.entries - suc k) (length l.entries - k) l.entries (omega arith) (omega arith),
        count_split x (length l.entries - k) l.entries,
      )

  counted-first : (freed : List ℕ) → FirstCases c l k freed bump Counted
  counted-first freed =
      record {
        none = λ h e z. record { past = omega arith; whole = λ _. omega (arith, none_taken h, no_bump, count_none x); partial = λ ne. absurd (ne (omega arith)) };
        mending = λ e some f two all z. record {
          past = omega arith;
          whole = λ y. absurd (omega arith);
          partial = λ ne. omega (arith, one_taken (omega arith), no_bump, count_none x);
        };
        emptying = λ lt e one most y. record {
          past = omega arith;
          whole = λ _. omega (arith, one_taken lt, no_bump);
          partial = λ ne. absurd (ne y);
        };
        renumbering = λ lt e one most fits. record {
          past = omega arith;
          whole = λ y. absurd (omega arith);
          partial = λ ne. omega (arith, one_taken lt, no_bump, count_none x);
        };
      }

  module _ (t : Plan) (b : Bounded c l k t) (f : Counted t) where
    pop : 1 ≤ t.left → count x (take t.left l.entries) ≡ count x (take (t.left - 1) l.entries) + count x (get_or l.entries (t.left - 1) 0 ∷ [])
    pop some = count_last x (t.left - 1) t.left l.entries (omega arith) (omega (arith, b.within))

    counted_swap : 1 ≤ t.left → t.left ≡ c * t.kept → Counted (swap_top c l t)
    counted_swap some y =
        record {
          past = f.past;
          whole = λ z. absurd (omega arith);
          partial = λ _. omega (arith, pop some, f.whole y);
        }

    counted-take : 1 ≤ t.left → (t.left ≡ c * t.kept → ⊥) → Counted (take_entry c l t)
    counted-take some ne =
        record {
          past = f.past;
          whole = λ z. absurd (omega (arith, b.fits));
          partial = λ _. omega (arith, pop some, f.partial ne, count-append x t.fresh (get_or l.entries (t.left - 1) 0 ∷ []));
        }

    counted_last : 1 ≤ t.left → (t.left ≡ c * t.kept → ⊥) → t.left - 1 ≡ c * (t.kept - 1) → Counted (take_last c l t)
    counted_last some ne y =
        record {
          past = f.past;
          whole = λ _. omega (
            arith,
            pop some,
            f.partial ne,
            count-append x t.fresh (get_or l.entries (t.left - 1) 0 ∷ t.top ∷ []),
            count-cons x (get_or l.entries (t.left - 1) 0) (t.top ∷ []),
          );
          partial = λ z. absurd (z y);
        }

    counted_bump : Counted (take_bump c l t)
    counted_bump =
        record {
          past = omega (arith, f.past);
          whole = λ y. omega (arith, f.whole y, count-append x t.fresh (t.bump ∷ []), bumps);
          partial = λ ne. omega (arith, f.partial ne, count-append x t.fresh (t.bump ∷ []), bumps);
        }
      where
        bumps : count x (numbers_from bump (suc t.bump - bump)) ≡ count x (numbers_from bump (t.bump - bump)) + count x (t.bump ∷ [])
        bumps =
            let more : suc t.bump - bump ≡ suc (t.bump - bump) = omega (arith, f.past) in
            let last : bump + (t.bump - bump) ≡ t.bump = omega (arith, f.past) in
            ap (λ (n : ℕ). count x (numbers_from bump n)) more
            ∙ count_numbers x bump (t.bump - bump)
            ∙ ap (λ (n : ℕ). count x (numbers_from bump (t.bump - bump)) + count x (n ∷ [])) last

  counted_turns : 1 ≤ c → (freed : List ℕ) → TurnCases c l k freed bump Counted
  counted_turns pos freed =
      record {
        swapping = λ t b f one y. counted_swap t b f (omega (arith, mul-le-mul_left c one)) y;
        taking = λ t b f some one ne. counted-take t b f some ne;
        taking-last = λ t b f some one ne y. counted_last t b f some ne y;
        bumping = λ t b f. counted_bump t b f;
      }

-- ---- the new list

-- the pages kept, and those pushed
module _ (x c : ℕ) (l : FreeList) (freed : List ℕ) (mended : Bool) (low : ℕ) (t : Plan) (p : Pushes c l freed mended low t) where
  abbrev kept_pages : List ℕ
  kept_pages = cond (leb 1 t.kept) (take (t.kept - 1) l.pages ++ (t.top ∷ [])) []

  kept_whole : t.left ≡ c * t.kept → count x kept_pages ≡ count x (take low l.pages)
  kept_whole e =
      let same : low ≡ t.kept = p.whole e in
      rw same (cond_cases (λ (ns : List ℕ). count x ns ≡ count x (take t.kept l.pages)) (leb 1 t.kept) (take (t.kept - 1) l.pages ++ (t.top ∷ [])) []
      (λ h. let one : 1 ≤ t.kept = leb-true 1 t.kept h in
      omega (
        arith,
        count-append x (take (t.kept - 1) l.pages) (t.top ∷ []),
        ap (λ (n : ℕ). count x (n ∷ [])) (p.whole_top one e),
        count_last x (t.kept - 1) t.kept l.pages (omega arith) (omega (arith, p.most)),
      ))
      (λ h. let no : t.kept ≡ 0 = omega (arith, leb-false 1 t.kept h) in rw no))

  kept_partial : (t.left ≡ c * t.kept → ⊥) → count x kept_pages ≡ count x (take low l.pages) + count x (t.top ∷ [])
  kept_partial ne =
      cond_cases (λ (ns : List ℕ). count x ns ≡ count x (take low l.pages) + count x (t.top ∷ [])) (leb 1 t.kept) (take (t.kept - 1) l.pages ++ (t.top ∷ [])) []
      (λ h. let last : t.kept - 1 ≡ low = omega (arith, p.partial ne) in
      count-append x (take (t.kept - 1) l.pages) (t.top ∷ []) ∙ ap (λ (n : ℕ). count x (take n l.pages) + count x (t.top ∷ [])) last)
      (λ h. absurd (omega (arith, leb-false 1 t.kept h, p.partial ne)))

  -- the new list has, beside the old pages and the freed numbers, what the plan left and took
  new_counted : (k bump : ℕ) → Counted c l k bump x t
      → count x (new_list l t).pages + count x (new_list l t).entries + count x (drop (length l.entries - k) l.entries)
      ≡ count x l.pages + count x l.entries + count x freed + count x (numbers_from bump (t.bump - bump))
  unfolding new_list
  new_counted k bump f = go (ℕ_discrete t.left (c * t.kept))
    where
      go : Dec (t.left ≡ c * t.kept)
          → count x (kept_pages ++ t.fresh) + count x (take t.left l.entries ++ t.pushed) + count x (drop (length l.entries - k) l.entries)
          ≡ count x l.pages + count x l.entries + count x freed + count x (numbers_from bump (t.bump - bump))
      go (yes e) =
          omega (
            arith,
            count-append x kept_pages t.fresh,
            count-append x (take t.left l.entries) t.pushed,
            kept_whole e,
            f.whole e,
            ap (count x) p.list,
            count-push_list x freed mended l.pages low,
            count_split x low l.pages,
          )
      go (no ne) =
          omega (
            arith,
            count-append x kept_pages t.fresh,
            count-append x (take t.left l.entries) t.pushed,
            kept_partial ne,
            f.partial ne,
            ap (count x) p.list,
            count-push_list x freed mended l.pages low,
            count_split x low l.pages,
          )

pub conserved : (c : ℕ) → Conserved c
conserved c pos l k freed bump shape x =
    new_counted x c l freed (mends c l k) _ (plan_of c l k freed bump) (plan-pushes c l k freed bump pos shape) k bump
    (plan_run c l k freed bump (Counted c l k bump x) pos shape (counted-first c l k bump x freed) (counted_turns c l k bump x pos freed)).1
