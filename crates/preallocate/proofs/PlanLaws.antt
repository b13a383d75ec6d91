-- The plan of a finish: its turns are those that the code counts, they end with enough room, and what is kept fills its pages.
-- By induction over the turns, from the laws of one turn and of the first plan. Assumes nothing.
use Prim.Native.Nat.{ℕ, zero, suc, ◌+◌, ◌-◌, ◌*◌, ◌≤◌, ◌<◌}
use native.Mathlib.Nat.{zero-add}
use native.Mathlib.Omega.{arith}
use native.Mathlib.Numerals.{add-one}
use mathlib.Core.Path.{◌≡◌, refl, sym, ap, ◌∙◌}
use mathlib.Core.List.{List, [], ◌∷◌, ◌++◌, append-nil, append_assoc}
use mathlib.Core.Bool.{Bool, true, false, cond}
use lib.ListN.{length, length-append}
use lib.Dec.{leb, ltb}
use borrow.Author.Tests.{ltb-true, ltb-false, le-ltb}
use Rattle.free_list.specs.Shape.{FreeList, is_shape}
use Rattle.preallocate.specs.declared.turns.Plan.{Plan as Counts}
use Rattle.preallocate.specs.Plan.{Plan, room, entry, first_plan, swap_top, take_entry, take_last, take_bump, next_plan, enough_room, plan_of}
use Rattle.preallocate.specs.Counts.{counts, Makes}
use Rattle.preallocate.specs.Steps.{room_of, whole_of, last_of, top_swapped, bump_taken, entry_taken, last_taken, taken, named, stepped, step_names, planned, new_pages, work, Packed, Short, Planned}
use Rattle.preallocate.proofs.StepsLaws.{packed_stepped, falls_stepped, near_stepped, planned_enough, planned_more, bump_stepped, narrowed_append}
use Rattle.preallocate.proofs.FirstLaws.{first}

-- ---- the turns of a plan are those in numbers

-- a turn
pub counts-next : (c : ℕ) (l : FreeList) (t : Plan) → counts (next_plan c l t) ≡ stepped c l (counts t)
unfolding next_plan stepped taken
counts-next c l t = go (whole_of c (counts t)) (leb 1 t.left) (last_of c (counts t))
  where
    go : (w s e : Bool)
        → counts (cond w (swap_top c l t) (cond s (cond e (take_last c l t) (take_entry c l t)) (take_bump c l t)))
        ≡ cond w (top_swapped l (counts t)) (cond s (cond e (last_taken l (counts t)) (entry_taken (counts t))) (bump_taken (counts t)))
    go true s e = rw (length-append t.pushed (t.top ∷ []))
    go false true true = rw (length-append t.fresh (entry c l (t.left - 1) ∷ t.top ∷ []))
    go false true false = rw (length-append t.fresh (entry c l (t.left - 1) ∷ []))
    go false false e = rw (length-append t.fresh (t.bump ∷ []), ← add-one t.bump)

-- its new pages
fresh_next : (c : ℕ) (l : FreeList) (t : Plan) → (next_plan c l t).fresh ≡ t.fresh ++ step_names c l (counts t)
unfolding next_plan step_names named
fresh_next c l t = go (whole_of c (counts t)) (leb 1 t.left) (last_of c (counts t))
  where
    go : (w s e : Bool)
        → (cond w (swap_top c l t) (cond s (cond e (take_last c l t) (take_entry c l t)) (take_bump c l t))).fresh
        ≡ t.fresh ++ cond w [] (cond s (cond e (entry c l (t.left - 1) ∷ t.top ∷ []) (entry c l (t.left - 1) ∷ [])) (t.bump ∷ []))
    go true s e = sym (append-nil t.fresh)
    go false true true = refl
    go false true false = refl
    go false false e = refl

-- all turns
pub counts_enough : (c : ℕ) (l : FreeList) (k : ℕ) (t : Plan) → counts (enough_room c l k t) ≡ planned c l k (counts t)
unfolding enough_room planned room
counts_enough c l zero t = refl
counts_enough c l (suc k) t = go (ltb (room_of c (counts t)) (length t.pushed)) (counts_enough c l k (next_plan c l t))
  where
    go : (x : Bool) → counts (enough_room c l k (next_plan c l t)) ≡ planned c l k (counts (next_plan c l t))
        → counts (elim x [ true ↦ enough_room c l k (next_plan c l t) | false ↦ t ])
        ≡ elim x [ true ↦ planned c l k (stepped c l (counts t)) | false ↦ counts t ]
    go true rest = rest ∙ ap (planned c l k) (counts-next c l t)
    go false rest = refl

fresh_enough : (c : ℕ) (l : FreeList) (k : ℕ) (t : Plan) → (enough_room c l k t).fresh ≡ t.fresh ++ new_pages c l k (counts t)
unfolding enough_room new_pages room
fresh_enough c l zero t = sym (append-nil t.fresh)
fresh_enough c l (suc k) t = go (ltb (room_of c (counts t)) (length t.pushed)) (fresh_enough c l k (next_plan c l t))
  where
    go : (x : Bool) → (enough_room c l k (next_plan c l t)).fresh ≡ (next_plan c l t).fresh ++ new_pages c l k (counts (next_plan c l t))
        → (elim x as (λ _. Plan) [ true ↦ enough_room c l k (next_plan c l t) | false ↦ t ]).fresh
        ≡ t.fresh ++ elim x [ true ↦ step_names c l (counts t) ++ new_pages c l k (stepped c l (counts t)) | false ↦ [] ]
    go true rest = rest ∙ rw (counts-next c l t, fresh_next c l t, append_assoc)
    go false rest = sym (append-nil t.fresh)

-- what the code's turns from the first plan on come to
pub then_made : (c : ℕ) (l : FreeList) (k : ℕ) (freed : List ℕ) (bump : ℕ) {q r : Counts} {before mid after : List ℕ}
    → Makes (first_plan c l k freed bump) before q mid → Planned c l q mid r after → Makes (plan_of c l k freed bump) before r after
unfolding Planned plan_of
then_made c l k freed bump {q} {r} {before} t rest =
    let f = first_plan c l k freed bump in
    let turns = f.left + length f.pushed in
    let d = (rw t.counted at rest) turns (omega arith) in
    record {
      counted = d.counted ∙ sym (counts_enough c l turns f);
      named = d.named ∙ rw (t.named, fresh_enough c l turns f) (narrowed_append before 0 f.fresh (new_pages c l turns (counts f)) (sym (zero-add (length f.fresh))));
    }

-- ---- how the turns end

-- the turns end with enough room, and at most c more than is asked
record Ended (c : ℕ) (l : FreeList) (p r : Counts) : Type 0 where
  packed : Packed c l r
  enough : r.pushed ≤ room_of c r
  tight : room_of c r ≤ r.pushed + c
  past : p.bump ≤ r.bump

ended : (c : ℕ) (l : FreeList) (k : ℕ) (p : Counts) → Packed c l p → room_of c p ≤ p.pushed + c → work c p ≤ k → Ended c l p (planned c l k p)
unfolding planned
ended c l zero p packed near h = record { packed = packed; enough = omega arith; tight = near; past = omega arith }
ended c l (suc k) p packed near h =
    go (ltb (room_of c p) p.pushed) refl (λ s. ended c l k (stepped c l p) (packed_stepped packed) (near_stepped packed s) (omega (arith, falls_stepped packed s)))
  where
    go : (x : Bool) → ltb (room_of c p) p.pushed ≡ x
        → (Short c p → Ended c l (stepped c l p) (planned c l k (stepped c l p)))
        → Ended c l p (planned c l (suc k) p)
    go true e next =
        let s = ltb-true (room_of c p) p.pushed e in
        let rest = next s in
        rw (planned_more c l k p s) (record { packed = rest.packed; enough = rest.enough; tight = rest.tight; past = omega (arith, bump_stepped c l p, rest.past) })
    go false e next =
        let n = ltb-false (room_of c p) p.pushed e in
        rw (planned_enough c l (suc k) p n) (record { packed = packed; enough = n; tight = near; past = omega arith })

-- two bounds that are both enough come to the same
enough_same : (c : ℕ) (l : FreeList) (j k : ℕ) (t : Plan) → Packed c l (counts t) → work c (counts t) ≤ j → work c (counts t) ≤ k → enough_room c l j t ≡ enough_room c l k t
unfolding enough_room room
enough_same c l zero zero t packed f g = refl
enough_same c l zero (suc k) t packed f g = rw (le-ltb (room_of c (counts t)) (length t.pushed) (omega arith), enough_room)
enough_same c l (suc j) zero t packed f g = rw (le-ltb (room_of c (counts t)) (length t.pushed) (omega arith), enough_room)
enough_same c l (suc j) (suc k) t packed f g =
    go (ltb (room_of c (counts t)) (length t.pushed)) refl
    (λ s. let less : work c (counts (next_plan c l t)) < work c (counts t) = omega (arith, falls_stepped packed s, ap (work c) (counts-next c l t)) in
    enough_same c l j k (next_plan c l t) (rw (counts-next c l t) (packed_stepped packed)) (omega arith) (omega arith))
  where
    go : (x : Bool) → ltb (room_of c (counts t)) (length t.pushed) ≡ x → (Short c (counts t) → enough_room c l j (next_plan c l t) ≡ enough_room c l k (next_plan c l t))
        → ◌≡◌ {A = Plan} (elim x [ true ↦ enough_room c l j (next_plan c l t) | false ↦ t ]) (elim x [ true ↦ enough_room c l k (next_plan c l t) | false ↦ t ])
    go true e rest = rest (ltb-true _ _ e)
    go false e rest = refl

module _ (c : ℕ) (l : FreeList) (two : 2 ≤ c) (shape : is_shape c (length l.pages) (length l.entries) ≡ true)
    (k : ℕ) (freed : List ℕ) (bump : ℕ) where
  -- the plan
  abbrev plan : Plan
  plan = plan_of c l k freed bump

  plan_ended : Ended c l (counts (first_plan c l k freed bump)) (counts plan)
  unfolding plan_of
  plan_ended =
      let t = first_plan c l k freed bump in
      let f = first c l two shape k freed bump in
      let turns = t.left + length t.pushed in
      rw (counts_enough c l turns t) (ended c l turns (counts t) f.packed f.near (omega arith))

  -- The turns end: the room is at least as long as the push list, so the turns that the definition counts down are enough.
  pub plan_enough : length plan.pushed ≤ room c plan
  unfolding room
  plan_enough = plan_ended.enough

  -- More turns than the definition counts down change nothing.
  pub plan_turns : (turns : ℕ) → (first_plan c l k freed bump).left + length (first_plan c l k freed bump).pushed ≤ turns
      → enough_room c l turns (first_plan c l k freed bump) ≡ plan
  unfolding plan_of
  plan_turns turns h =
      enough_same c l turns _ (first_plan c l k freed bump) (first c l two shape k freed bump).packed (omega arith) (omega arith)

  -- The room is at most c more than the push list is long.
  pub plan_tight : room c plan ≤ length plan.pushed + c
  unfolding room
  plan_tight = plan_ended.tight

  -- No more pages are kept than the list has.
  pub plan_kept : plan.kept ≤ length l.pages
  plan_kept = plan_ended.packed.kept

  -- No more entries are left than the list has.
  pub plan_left : plan.left ≤ length l.entries
  plan_left = plan_ended.packed.within

  -- The entries left fit on the pages kept.
  pub plan_fits : plan.left ≤ c * plan.kept
  plan_fits = plan_ended.packed.most

  -- The pages kept are as few as hold the entries left, so the top one has an entry.
  pub plan_least : c * plan.kept < plan.left + c
  plan_least = plan_ended.packed.least

  -- No page is kept exactly where no entry is left.
  pub plan_none : (plan.kept ≡ 0 → plan.left ≡ 0) × (plan.left ≡ 0 → plan.kept ≡ 0)
  plan_none = go plan.kept plan_fits plan_least
    where
      go : (n : ℕ) {m : ℕ} → m ≤ c * n → c * n < m + c → (n ≡ 0 → m ≡ 0) × (m ≡ 0 → n ≡ 0)
      go zero fits least = (λ _. omega arith, λ _. refl)
      go (suc n) fits least = (λ z. absurd (omega arith), λ z. absurd (omega arith))

  -- The bump does not fall.
  pub plan_bump : bump ≤ plan.bump
  plan_bump = omega (arith, plan_ended.past, (first c l two shape k freed bump).same)
