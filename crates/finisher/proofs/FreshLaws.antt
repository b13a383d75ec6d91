-- What a finish takes for its list pages: entries that stood above those it leaves, and numbers past the bump; a top page that keeps
-- its old number is a whole one.
use Prim.Native.Nat.{ℕ, suc, ◌*◌, ◌-◌, ◌<◌, ◌≤◌}
use native.Mathlib.Nat.{mul-le-mul_left}
use native.Mathlib.Decide.{ℕ_discrete}
use native.Mathlib.Omega.{arith}
use mathlib.Core.Path.{◌≡◌, refl, sym, ◌∙◌}
use mathlib.Core.Logic.{◌⊎◌, inl, inr}
use mathlib.Core.Bool.{true}
use mathlib.Core.List.Memᴰ
use mathlib.Core.List.{List, [], ◌∷◌, ◌++◌, Memᴰ}
use lib.ListN.{length, get_or, take}
use lib.Seq.{length-take-le, get_or-take}
use Rattle.laws.proofs.PlacesLaws.{get_d-mem}
use Rattle.free_list.specs.Shape.{FreeList, is_shape}
use Rattle.preallocate.specs.Plan.{Plan, pages_after, pushed_after, emptied, swap_top, take_entry, take_last, take_bump, plan_of}
use Rattle.preallocate.proofs.CasesLaws.{Bounded, FirstCases, TurnCases, plan_run}
use Rattle.finisher.specs.Finish.{left_list}
use Rattle.finisher.proofs.PushLaws.{plan-pushes}

-- n stands among these at a place from `from` on, and before `to`
abbrev pub Between : List ℕ → ℕ → ℕ → ℕ → Type 0
Between ns from to n = (i : ℕ) × (from ≤ i) × (i < to) × (n ≡ get_or ns i 0)

pub between_mem : (ns : List ℕ) (from to n : ℕ) → to ≤ length ns → Between ns from to n → Memᴰ n ns
between_mem ns from to n h (i, f, t, e) = Memᴰ.cast e (get_d-mem ns i (omega arith))

-- so it stands among the first `to`
pub between_first : (ns : List ℕ) (from to n : ℕ) → to ≤ length ns → Between ns from to n → Memᴰ n (take to ns)
between_first ns from to n h (i, f, t, e) = Memᴰ.cast (e ∙ sym (get_or-take to ns i 0 t)) (get_d-mem (take to ns) i (omega (arith, length-take-le to ns h)))

-- n was popped for a list page, or is one of the bumps taken for them
abbrev pub Taken : FreeList → ℕ → ℕ → Plan → ℕ → Type 0
Taken l k bump t n = Between l.entries t.left (length l.entries - k) n ⊎ ((bump ≤ n) × (n < t.bump))

-- the new pages were taken, and the top page's number was popped unless the page is whole
pub record Fresh (c : ℕ) (l : FreeList) (k bump : ℕ) (t : Plan) : Type 0 where
  pub news : (n : ℕ) → Memᴰ n t.fresh → Taken l k bump t n
  pub past : bump ≤ t.bump
  pub top : (t.left ≡ c * t.kept → ⊥) → Between l.entries t.left (length l.entries - k) t.top

module _ (c : ℕ) (l : FreeList) (k bump : ℕ) where
  -- what was taken stays taken
  between_more : (from less n : ℕ) → less ≤ from → Between l.entries from (length l.entries - k) n → Between l.entries less (length l.entries - k) n
  between_more from less n h (i, f, t, e) = (i, omega arith, t, e)

  taken_more : (t u : Plan) → u.left ≤ t.left → t.bump ≤ u.bump → (n : ℕ) → Taken l k bump t n → Taken l k bump u n
  taken_more t u a b n (inl x) = inl (between_more t.left u.left n a x)
  taken_more t u a b n (inr x) = inr (x.0, omega (arith, x.1))

  -- the entry popped next
  popped : (t : Plan) → Bounded c l k t → 1 ≤ t.left → Between l.entries (t.left - 1) (length l.entries - k) (get_or l.entries (t.left - 1) 0)
  popped t b some = (t.left - 1, omega arith, omega (arith, b.within), refl)

  module _ (Q : ℕ → Type 0) where
    one_more : (xs : List ℕ) (x : ℕ) → ((n : ℕ) → Memᴰ n xs → Q n) → Q x → (n : ℕ) → Memᴰ n (xs ++ (x ∷ [])) → Q n
    one_more xs x f q n m = go (Memᴰ.append_cases xs m)
      where
        only : (n ≡ x) ⊎ Memᴰ n [] → Q n
        only (inl e) = rw e q
        only (inr h) = absurd (Memᴰ.not-nil h)

        go : Memᴰ n xs ⊎ Memᴰ n (x ∷ []) → Q n
        go (inl h) = f n h
        go (inr h) = only (Memᴰ.cases_cons h)

    two_more : (xs : List ℕ) (x y : ℕ) → ((n : ℕ) → Memᴰ n xs → Q n) → Q x → Q y → (n : ℕ) → Memᴰ n (xs ++ (x ∷ y ∷ [])) → Q n
    two_more xs x y f q r n m = go (Memᴰ.append_cases xs m)
      where
        go : Memᴰ n xs ⊎ Memᴰ n (x ∷ y ∷ []) → Q n
        go (inl h) = f n h
        go (inr h) = one_more (x ∷ []) y (one_more [] x (λ n h. absurd (Memᴰ.not-nil h)) q) r n h

  fresh_first : (freed : List ℕ) → FirstCases c l k freed bump (Fresh c l k bump)
  fresh_first freed =
      record {
        none = λ h e z. record { news = λ n m. absurd (Memᴰ.not-nil m); past = omega arith; top = λ ne. absurd (ne (omega arith)) };
        mending = λ e some f two all z. record {
          news = λ n m. absurd (Memᴰ.not-nil m);
          past = omega arith;
          top = λ ne. (length l.entries - suc k, omega arith, omega arith, refl);
        };
        emptying = λ lt e one most x. record {
          news = one_more (Taken l k bump (emptied c l (pages_after c l k) (length l.entries - suc k) (pushed_after c l k freed) bump)) [] _ (λ n m. absurd (Memᴰ.not-nil m)) (inl (length l.entries - suc k, omega arith, omega arith, refl));
          past = omega arith;
          top = λ ne. absurd (ne x);
        };
        renumbering = λ lt e one most fits. record {
          news = λ n m. absurd (Memᴰ.not-nil m);
          past = omega arith;
          top = λ ne. (length l.entries - suc k, omega arith, omega arith, refl);
        };
      }

  module _ (t : Plan) (b : Bounded c l k t) (f : Fresh c l k bump t) where
    fresh_swap : 1 ≤ t.left → Fresh c l k bump (swap_top c l t)
    fresh_swap some =
        record {
          news = λ n m. taken_more t (swap_top c l t) (omega arith) (omega arith) n (f.news n m);
          past = f.past;
          top = λ ne. popped t b some;
        }

    fresh_take : 1 ≤ t.left → (t.left ≡ c * t.kept → ⊥) → Fresh c l k bump (take_entry c l t)
    fresh_take some ne =
        record {
          news = one_more (Taken l k bump (take_entry c l t)) t.fresh _ (λ n m. taken_more t (take_entry c l t) (omega arith) (omega arith) n (f.news n m)) (inl (popped t b some));
          past = f.past;
          top = λ _. between_more t.left (t.left - 1) t.top (omega arith) (f.top ne);
        }

    fresh_last : 1 ≤ t.left → (t.left ≡ c * t.kept → ⊥) → t.left - 1 ≡ c * (t.kept - 1) → Fresh c l k bump (take_last c l t)
    fresh_last some ne x =
        record {
          news = two_more (Taken l k bump (take_last c l t)) t.fresh _ _ (λ n m. taken_more t (take_last c l t) (omega arith) (omega arith) n (f.news n m)) (inl (popped t b some))
              (inl (between_more t.left (t.left - 1) t.top (omega arith) (f.top ne)));
          past = f.past;
          top = λ y. absurd (y x);
        }

    fresh_bump : Fresh c l k bump (take_bump c l t)
    fresh_bump =
        record {
          news = one_more (Taken l k bump (take_bump c l t)) t.fresh _ (λ n m. taken_more t (take_bump c l t) (omega arith) (omega arith) n (f.news n m)) (inr (f.past, omega arith));
          past = omega (arith, f.past);
          top = f.top;
        }

  fresh_turns : 1 ≤ c → (freed : List ℕ) → TurnCases c l k freed bump (Fresh c l k bump)
  fresh_turns pos freed =
      record {
        swapping = λ t b f one x. fresh_swap t b f (omega (arith, mul-le-mul_left c one));
        taking = λ t b f some one ne. fresh_take t b f some ne;
        taking-last = λ t b f some one ne x. fresh_last t b f some ne x;
        bumping = λ t b f. fresh_bump t b f;
      }

module _ (c : ℕ) (l : FreeList) (k : ℕ) (freed : List ℕ) (bump : ℕ) (pos : 1 ≤ c) (shape : is_shape c (length l.pages) (length l.entries) ≡ true) where
  -- the plan
  abbrev plan : Plan
  plan = plan_of c l k freed bump

  -- Every new page is an entry that stood above those left, and that no pop handed out, or a number from the bump up to the new bump;
  -- a top page that is not whole has such an entry for its number.
  pub plan_fresh : Fresh c l k bump plan
  plan_fresh = (plan_run c l k freed bump (Fresh c l k bump) pos shape (fresh_first c l k bump freed) (fresh_turns c l k bump pos freed)).1

  -- Every new page is an entry that was not handed out, or not below the bump.
  pub new_pages_lem : (n : ℕ) → Memᴰ n plan.fresh → Memᴰ n (left_list k l).entries ⊎ (bump ≤ n)
  new_pages_lem n m = go (plan_fresh.news n m)
    where
      go : Taken l k bump plan n → Memᴰ n (left_list k l).entries ⊎ (bump ≤ n)
      go (inl x) = inl (between_first l.entries _ (length l.entries - k) n (omega arith) x)
      go (inr x) = inr x.0

  -- The top page has such an entry for its number; or it is whole and keeps its own.
  pub top_page : 1 ≤ plan.kept
      → Memᴰ plan.top (left_list k l).entries
      ⊎ ((plan.left ≡ c * plan.kept)
      × (plan.top ≡ get_or l.pages (plan.kept - 1) 0))
  top_page one = go (ℕ_discrete plan.left (c * plan.kept))
    where
      go : Dec (plan.left ≡ c * plan.kept)
          → Memᴰ plan.top (left_list k l).entries
          ⊎ ((plan.left ≡ c * plan.kept)
          × (plan.top ≡ get_or l.pages (plan.kept - 1) 0))
      go (yes e) = inr (e, (plan-pushes c l k freed bump pos shape).whole_top one e)
      go (no ne) = inl (between_first l.entries _ (length l.entries - k) _ (omega arith) (plan_fresh.top ne))
