-- The push list of a plan: the freed numbers, then the old numbers of the pages from the top down, without a gap.
-- By the cases of a plan (`plan_run`). Assumes nothing.
use Prim.Native.Nat.{ℕ, suc, ◌+◌, ◌*◌, ◌-◌, ◌<◌, ◌≤◌}
use native.Mathlib.Nat.{mul-zero, mul-le-mul_left, not-suc-le-zero}
use native.Mathlib.Omega.{arith}
use mathlib.Core.Path.{◌≡◌, refl, ap, ap₂, sym, ◌∙◌, subst}
use mathlib.Core.Bool.{Bool, true, false}
use mathlib.Core.List.{List, [], ◌∷◌, ◌++◌, reverse, reverse-cons, append-nil, append_assoc}
use lib.ListN.{length, get_or, drop, length-append, length-drop, length-reverse, drop_of_length-le}
use lib.Seq.{drop-cons}
use Rattle.free_list.specs.Shape.{FreeList, is_shape}
use Rattle.preallocate.specs.Plan.{Plan, pages_after, pushed_after, none_left, renumbered, mended, emptied, swap_top, take_entry, take_last, take_bump, plan_of}
use Rattle.preallocate.proofs.CasesLaws.{mends, Bounded, FirstCases, TurnCases, plan_run}
use Rattle.finisher.specs.Steps.{swap_if, push_list}

pub length-swap_if : (b : Bool) (ns : List ℕ) → length (swap_if b ns) ≡ length ns
length-swap_if true [] = refl
length-swap_if true (x ∷ []) = refl
length-swap_if true (x ∷ y ∷ ns) = refl
length-swap_if false ns = refl

pub length-push_list : (freed : List ℕ) (b : Bool) (pages : List ℕ) (low : ℕ) → length (push_list freed b pages low) ≡ length freed + (length pages - low)
unfolding push_list
length-push_list freed b pages low =
    length-append freed (swap_if b (reverse (drop low pages))) ∙ rw (length-swap_if, length-reverse, length-drop low pages)

swap_snoc : (b : Bool) (ns : List ℕ) (x : ℕ) → (b ≡ true → 2 ≤ length ns) → swap_if b ns ++ (x ∷ []) ≡ swap_if b (ns ++ (x ∷ []))
swap_snoc true [] x h = absurd (not-suc-le-zero (h refl))
swap_snoc true (y ∷ []) x h = absurd (omega (arith, h refl))
swap_snoc true (y ∷ z ∷ ns) x h = refl
swap_snoc false ns x h = refl

-- one page more
push_next : (freed : List ℕ) (b : Bool) (pages : List ℕ) (j : ℕ) → j < length pages → (b ≡ true → suc j + 2 ≤ length pages)
    → push_list freed b pages (suc j) ++ (get_or pages j 0 ∷ []) ≡ push_list freed b pages j
unfolding push_list
push_next freed b pages j inside two =
    append_assoc freed (swap_if b (reverse (drop (suc j) pages))) (get_or pages j 0 ∷ [])
    ∙ ap (λ (ns : List ℕ). freed ++ ns) (swap_snoc b (reverse (drop (suc j) pages)) (get_or pages j 0) (λ e. rw (length-reverse, length-drop (suc j) pages) (omega (arith, two e)))
    ∙ ap (swap_if b) (sym (reverse-cons (get_or pages j 0) (drop (suc j) pages)) ∙ ap reverse (sym (drop-cons pages j 0 inside))))

-- the last two
two_left : (pages : List ℕ) (a b : ℕ) → suc a ≡ b → suc b ≡ length pages → drop a pages ≡ get_or pages a 0 ∷ get_or pages b 0 ∷ []
two_left pages a b e f =
    drop-cons pages a 0 (omega arith)
    ∙ ap (λ (ns : List ℕ). get_or pages a 0 ∷ ns)
    (ap (λ (n : ℕ). drop n pages) e ∙ drop-cons pages b 0 (omega arith) ∙ ap (λ (ns : List ℕ). get_or pages b 0 ∷ ns) (drop_of_length-le pages {i = suc b} (omega arith)))

push_two : (freed pages : List ℕ) (a b : ℕ) → suc a ≡ b → suc b ≡ length pages → freed ++ (get_or pages a 0 ∷ get_or pages b 0 ∷ []) ≡ push_list freed true pages a
unfolding push_list
push_two freed pages a b e f = rw (two_left pages a b e f)

never : (b : Bool) → b ≡ true → b ≡ false → ⊥
never b x y = let z : ◌≡◌ {A = ℕ} 0 1 = cc in omega arith

-- A plan whose push list is the freed numbers, then the old numbers of the pages from the top down to page `low`. Where the top page
-- kept is whole, it keeps its old number, and is not pushed; where it is not, it is the last one pushed.
pub record Pushes (c : ℕ) (l : FreeList) (freed : List ℕ) (mended : Bool) (low : ℕ) (t : Plan) : Type 0 where
  pub list : t.pushed ≡ push_list freed mended l.pages low
  pub many : length t.pushed ≡ length freed + (length l.pages - low)
  pub most : low ≤ length l.pages
  pub two : mended ≡ true → low + 2 ≤ length l.pages
  pub whole_top : 1 ≤ t.kept → t.left ≡ c * t.kept → t.top ≡ get_or l.pages (t.kept - 1) 0
  pub whole : t.left ≡ c * t.kept → low ≡ t.kept
  pub partial : (t.left ≡ c * t.kept → ⊥) → low + 1 ≡ t.kept
  pub none : t.kept ≡ 0 → low ≡ 0

module _ (c : ℕ) (l : FreeList) (k : ℕ) (freed : List ℕ) (bump : ℕ) (pos : 1 ≤ c) where
  abbrev Pushing : Plan → Type 0
  Pushing t = (low : ℕ) × Pushes c l freed (mends c l k) low t

  counted : (low : ℕ) (ns : List ℕ) → ns ≡ push_list freed (mends c l k) l.pages low → length ns ≡ length freed + (length l.pages - low)
  counted low ns e = ap length e ∙ length-push_list freed (mends c l k) l.pages low

  after_list : mends c l k ≡ false → pushed_after c l k freed ≡ push_list freed (mends c l k) l.pages (pages_after c l k)
  unfolding pushed_after push_list
  after_list e = rw e

  after_next : mends c l k ≡ false → (p low : ℕ) → pages_after c l k ≡ p → suc low ≡ p → p ≤ length l.pages
      → pushed_after c l k freed ++ (get_or l.pages low 0 ∷ []) ≡ push_list freed (mends c l k) l.pages low
  after_next e p low f g h =
      ap (λ (ns : List ℕ). ns ++ (get_or l.pages low 0 ∷ [])) (after_list e ∙ ap (push_list freed (mends c l k) l.pages) (f ∙ sym g))
      ∙ push_next freed (mends c l k) l.pages low (omega arith) (λ x. absurd (never (mends c l k) x e))

  after_two : mends c l k ≡ true → pages_after c l k ≡ length l.pages → (a b : ℕ) → suc a ≡ b → suc b ≡ length l.pages
      → pushed_after c l k freed ++ (get_or l.pages a 0 ∷ get_or l.pages b 0 ∷ []) ≡ push_list freed (mends c l k) l.pages a
  unfolding pushed_after
  after_two e z a b f g =
      ap (λ (ns : List ℕ). ns ++ (get_or l.pages a 0 ∷ get_or l.pages b 0 ∷ [])) nothing
      ∙ push_two freed l.pages a b f g
      ∙ ap (λ (m : Bool). push_list freed m l.pages a) (sym e)
    where
      nothing : freed ++ reverse (drop (pages_after c l k) l.pages) ≡ freed
      nothing = rw (drop_of_length-le l.pages {i = pages_after c l k} (omega arith), append-nil)

  first_none : mends c l k ≡ false → pages_after c l k ≡ 0 → Pushing (none_left c l (pushed_after c l k freed) bump)
  first_none e z =
      let list = after_list e ∙ ap (push_list freed (mends c l k) l.pages) z in (
        0,
        record {
          list = list;
          many = counted 0 _ list;
          most = omega arith;
          two = λ x. absurd (never (mends c l k) x e);
          whole_top = λ one _. absurd (omega arith);
          whole = λ _. refl;
          partial = λ ne. absurd (ne (sym (mul-zero c)));
          none = λ _. refl;
        },
      )

  first_mending : k ≡ 0 → 1 ≤ length l.entries → mends c l k ≡ true → 2 ≤ length l.pages → length l.entries ≡ c * (length l.pages - 1)
      → pages_after c l k ≡ length l.pages → Pushing (mended c l (length l.entries - suc k) (pushed_after c l k freed) bump)
  first_mending e some f two all z =
      let list = after_two f z (length l.pages - 2) (length l.pages - 1) (omega arith) (omega arith) in (
        length l.pages - 2,
        record {
          list = list;
          many = counted (length l.pages - 2) _ list;
          most = omega arith;
          two = λ _. omega arith;
          whole_top = λ one x. absurd (omega arith);
          whole = λ x. absurd (omega arith);
          partial = λ ne. omega (arith);
          none = λ x. omega arith;
        },
      )

  first_emptying : mends c l k ≡ false → (p n : ℕ) → pages_after c l k ≡ p → 1 ≤ p → p ≤ length l.pages → n ≡ c * (p - 1) → Pushing (emptied c l p n (pushed_after c l k freed) bump)
  first_emptying e p n f one most x =
      let list = after_next e p (p - 1) f (omega arith) most in (
        p - 1,
        record {
          list = list;
          many = counted (p - 1) _ list;
          most = omega arith;
          two = λ x. absurd (never (mends c l k) x e);
          whole_top = λ one _. ap (λ (i : ℕ). get_or l.pages i 0) (omega arith);
          whole = λ _. refl;
          partial = λ ne. absurd (ne x);
          none = λ x. x;
        },
      )

  first_renumbering : mends c l k ≡ false → (p n : ℕ) → pages_after c l k ≡ p → 1 ≤ p → p ≤ length l.pages → n < c * p → Pushing (renumbered c l p n (pushed_after c l k freed) bump)
  first_renumbering e p n f one most lt =
      let list = after_next e p (p - 1) f (omega arith) most in (
        p - 1,
        record {
          list = list;
          many = counted (p - 1) _ list;
          most = omega arith;
          two = λ x. absurd (never (mends c l k) x e);
          whole_top = λ one x. absurd (omega arith);
          whole = λ x. absurd (omega arith);
          partial = λ ne. omega arith;
          none = λ x. omega arith;
        },
      )

  pushes_first : FirstCases c l k freed bump Pushing
  pushes_first =
      record {
        none = λ h e z. first_none e z;
        mending = first_mending;
        emptying = λ lt e one most x. first_emptying e _ _ refl one most x;
        renumbering = λ lt e one most fits. first_renumbering e _ _ refl one most (omega arith);
      }

  turn_swap : (t : Plan) → Pushing t → 1 ≤ t.kept → t.left ≡ c * t.kept → Pushing (swap_top c l t)
  turn_swap t (low, p) one x =
      let list : t.pushed ++ (t.top ∷ []) ≡ push_list freed (mends c l k) l.pages (t.kept - 1) =
      ap₂ (λ (ns : List ℕ) (n : ℕ). ns ++ (n ∷ [])) (p.list ∙ ap (push_list freed (mends c l k) l.pages) (p.whole x ∙ omega arith)) (p.whole_top one x)
      ∙ push_next freed (mends c l k) l.pages (t.kept - 1) (omega (arith, p.whole x, p.most)) (λ y. omega (arith, p.two y, p.whole x)) in
      let some : 1 ≤ t.left = omega (arith, mul-le-mul_left c one) in (
        t.kept - 1,
        record {
          list = list;
          many = counted (t.kept - 1) _ list;
          most = omega (arith, p.whole x, p.most);
          two = λ y. omega (arith, p.two y, p.whole x);
          whole_top = λ one y. absurd (omega arith);
          whole = λ y. absurd (omega arith);
          partial = λ ne. omega arith;
          none = λ y. absurd (omega arith);
        },
      )

  turn_take : (t : Plan) → Bounded c l k t → Pushing t → 1 ≤ t.left → (t.left ≡ c * t.kept → ⊥) → Pushing (take_entry c l t)
  turn_take t b (low, p) some ne = (
    low,
    record {
      list = p.list;
      many = p.many;
      most = p.most;
      two = p.two;
      whole_top = λ one y. absurd (omega (arith, b.fits));
      whole = λ y. absurd (omega (arith, b.fits));
      partial = λ _. p.partial ne;
      none = p.none;
    },
  )

  turn_last : (t : Plan) → Pushing t → 1 ≤ t.kept → (t.left ≡ c * t.kept → ⊥) → t.left - 1 ≡ c * (t.kept - 1) → Pushing (take_last c l t)
  turn_last t (low, p) one ne x = (
    low,
    record {
      list = p.list;
      many = p.many;
      most = p.most;
      two = p.two;
      whole_top = λ one _. ap (λ (i : ℕ). get_or l.pages i 0) (omega arith);
      whole = λ _. omega (arith, p.partial ne);
      partial = λ y. absurd (y x);
      none = λ y. omega (arith, p.partial ne);
    },
  )

  turn_bump : (t : Plan) → Pushing t → Pushing (take_bump c l t)
  turn_bump t (low, p) =
      (low, record { list = p.list; many = p.many; most = p.most; two = p.two; whole_top = p.whole_top; whole = p.whole; partial = p.partial; none = p.none })

  pushes_turns : TurnCases c l k freed bump Pushing
  pushes_turns =
      record {
        swapping = λ t b p one x. turn_swap t p one x;
        taking = λ t b p some one ne. turn_take t b p some ne;
        taking-last = λ t b p some one ne x. turn_last t p one ne x;
        bumping = λ t b p. turn_bump t p;
      }

  -- The push list of a finish is the freed numbers, then the old numbers of the pages from the top down to the one that its length
  -- tells, without a gap; a list that was mended has the page under the head first.
  module _ (shape : is_shape c (length l.pages) (length l.entries) ≡ true) where
    pub plan-pushes : Pushes c l freed (mends c l k) (length l.pages - (length (plan_of c l k freed bump).pushed - length freed)) (plan_of c l k freed bump)
    plan-pushes = told (plan_run c l k freed bump Pushing pos shape pushes_first pushes_turns).1
      where
        told : Pushing (plan_of c l k freed bump) → Pushes c l freed (mends c l k) (length l.pages - (length (plan_of c l k freed bump).pushed - length freed)) (plan_of c l k freed bump)
        told (low, p) = subst (λ (n : ℕ). Pushes c l freed (mends c l k) n (plan_of c l k freed bump)) (omega (arith, p.many, p.most)) p

    -- it is no shorter than the freed numbers, and longer by no more than the pages
    pub plan-longer : length freed ≤ length (plan_of c l k freed bump).pushed
    plan-longer = omega (arith, plan-pushes.many)

    pub plan-few : length (plan_of c l k freed bump).pushed - length freed ≤ length l.pages
    plan-few = omega (arith, plan-pushes.many)
