-- The turns in numbers: what each keeps, that the work falls, and how a turn's numbers join those of the turns after it.
-- By cases of a turn; the products are `omega`'s. Assumes nothing.
use Prim.Native.Nat.{ℕ, zero, suc, ◌+◌, ◌-◌, ◌*◌, ◌^◌, ◌≤◌, ◌<◌}
use native.Mathlib.Omega.{arith}
use native.Mathlib.Numerals.{add-one}
use mathlib.Core.Path.{◌≡◌, refl, sym, ap, ◌∙◌}
use mathlib.Core.Logic.{◌≢◌}
use mathlib.Core.List.{List, [], ◌∷◌, ◌++◌, map, map-append, Memᴰ}
use mathlib.Core.Bool.{Bool, true, false, cond}
use lib.ListN.{length, set, get_or, length-map}
use lib.Seq.{sets}
use lib.Dec.{leb, eqb}
use borrow.Author.Tests.{lt-ltb, le-ltb, le-leb, ne_eqb, leb-true, leb-false, eqb-true, eqb-false}
use Rattle.laws.proofs.Tests.{and-true}
use Rattle.laws.proofs.SetsLaws.{sets-append}
use Rattle.free_list.specs.Shape.{FreeList}
use Rattle.preallocate.specs.declared.turns.Plan.{Plan as Counts}
use Rattle.preallocate.specs.Counts.{narrow}
use Rattle.preallocate.specs.Steps.{room_of, whole_of, last_of, top_swapped, bump_taken, entry_taken, last_taken, taken, named, stepped, step_names, planned, new_pages, work, Packed, Small, Short, Due, Took, Planned, Along, Turned}
use Rattle.laws.proofs.ProductLaws.{times_less, times_positive}

-- ---- the cases of a turn

pub whole_facts : (c : ℕ) (p : Counts) → whole_of c p ≡ true → (0 < p.pages) × (p.entries ≡ c * p.pages)
whole_facts c p e =
    let t = and-true (leb 1 p.pages) (eqb p.entries (c * p.pages)) e in
    (leb-true 1 p.pages t.0, eqb-true p.entries (c * p.pages) t.1)

-- what a turn leaves, both its counts and its numbers, is shown in each case
pub taken_cases : (c : ℕ) (l : FreeList) (p : Counts) (P : Counts → List ℕ → Type 0)
    → (p.entries ≡ 0 → P (bump_taken p) (p.bump ∷ []))
    → (0 < p.entries → p.entries - 1 ≡ c * (p.pages - 1) → P (last_taken l p) (get_or l.entries (p.entries - 1) 0 ∷ p.top ∷ []))
    → (0 < p.entries → p.entries - 1 ≢ c * (p.pages - 1) → P (entry_taken p) (get_or l.entries (p.entries - 1) 0 ∷ []))
    → P (taken c l p) (named c l p)
unfolding taken named
taken_cases c l p P b e o = go (leb 1 p.entries) (last_of c p) refl refl
  where
    go : (s y : Bool) → leb 1 p.entries ≡ s → last_of c p ≡ y
        → P (cond s (cond y (last_taken l p) (entry_taken p)) (bump_taken p)) (cond s (cond y (get_or l.entries (p.entries - 1) 0 ∷ p.top ∷ []) (get_or l.entries (p.entries - 1) 0 ∷ [])) (p.bump ∷ []))
    go true true h y = e (leb-true 1 p.entries h) (eqb-true _ _ y)
    go true false h y = o (leb-true 1 p.entries h) (eqb-false _ _ y)
    go false true h y = b (omega (arith, leb-false 1 p.entries h))
    go false false h y = b (omega (arith, leb-false 1 p.entries h))

pub step_cases : (c : ℕ) (l : FreeList) (p : Counts) (P : Counts → List ℕ → Type 0)
    → (0 < p.pages → p.entries ≡ c * p.pages → P (top_swapped l p) [])
    → (p.entries ≡ 0 → P (bump_taken p) (p.bump ∷ []))
    → (0 < p.entries → p.entries - 1 ≡ c * (p.pages - 1) → P (last_taken l p) (get_or l.entries (p.entries - 1) 0 ∷ p.top ∷ []))
    → (0 < p.entries → p.entries - 1 ≢ c * (p.pages - 1) → P (entry_taken p) (get_or l.entries (p.entries - 1) 0 ∷ []))
    → P (stepped c l p) (step_names c l p)
unfolding stepped step_names
step_cases c l p P s b e o = go (whole_of c p) refl
  where
    go : (x : Bool) → whole_of c p ≡ x → P (cond x (top_swapped l p) (taken c l p)) (cond x [] (named c l p))
    go true h = let w = whole_facts c p h in s w.0 w.1
    go false h = taken_cases c l p P b e o

-- ---- what a turn keeps

module _ {c : ℕ} {l : FreeList} {p : Counts} (packed : Packed c l p) where
  pub pages_positive : 0 < p.entries → 0 < p.pages
  pages_positive h = times_positive c p.pages (omega arith)

  pub whole_entries : whole_of c p ≡ true → 0 < p.entries
  whole_entries w = let f = whole_facts c p w in omega (arith, times_less c p.pages f.0)

  -- the pages with one less
  fewer : 0 < p.entries → c * (p.pages - 1) + c ≡ c * p.pages
  fewer h = times_less c p.pages (pages_positive h)

  packed_swapped : 0 < p.pages → p.entries ≡ c * p.pages → Packed c l (top_swapped l p)
  packed_swapped h w = let f = times_less c p.pages h in omega arith

  packed_emptied : 0 < p.entries → p.entries - 1 ≡ c * (p.pages - 1) → Packed c l (last_taken l p)
  packed_emptied h e = let f = fewer h in omega arith

  packed_shortened : 0 < p.entries → p.entries - 1 ≢ c * (p.pages - 1) → Packed c l (entry_taken p)
  packed_shortened h e = let f = fewer h in omega arith

  pub packed_taken : Packed c l (taken c l p)
  packed_taken = taken_cases c l p (λ q _. Packed c l q) (λ h. omega arith) packed_emptied packed_shortened

  pub packed_stepped : Packed c l (stepped c l p)
  packed_stepped = step_cases c l p (λ q _. Packed c l q) packed_swapped (λ h. omega arith) packed_emptied packed_shortened

  -- the room with one page less and two more
  room_emptied : 0 < p.entries → c * (p.pages - 1 + (p.fresh + 2)) ≡ c * (p.pages + p.fresh) + c
  room_emptied h = let f = fewer h in omega arith

  falls_swapped : 0 < p.pages → p.entries ≡ c * p.pages → work c (top_swapped l p) < work c p
  falls_swapped h w = let f = times_less c p.pages h in omega arith

  pub falls_taken : Short c p → work c (taken c l p) < work c p
  falls_taken s =
      taken_cases c l p (λ q _. work c q < work c p)
      (λ h. omega arith)
      (λ h e. let r = room_emptied h in omega arith)
      (λ h e. omega arith)

  pub falls_stepped : Short c p → work c (stepped c l p) < work c p
  falls_stepped s =
      step_cases c l p (λ q _. work c q < work c p)
      falls_swapped
      (λ h. omega arith)
      (λ h e. let r = room_emptied h in omega arith)
      (λ h e. omega arith)

  -- the room after a turn is at most c more than is asked
  pub near_stepped : Short c p → room_of c (stepped c l p) ≤ (stepped c l p).pushed + c
  near_stepped s =
      step_cases c l p (λ q _. room_of c q ≤ q.pushed + c)
      (λ h w. omega arith)
      (λ h. omega arith)
      (λ h e. let r = room_emptied h in omega arith)
      (λ h e. omega arith)

  -- ---- the sums have 64 bits

  module _ (small : Small c p) (s : Short c p) where
    pub small-swapped : 0 < p.pages → p.entries ≡ c * p.pages → Small c (top_swapped l p)
    small-swapped h w = let f = times_less c p.pages h in omega arith

    pub small-taken : Small c (taken c l p)
    small-taken =
        taken_cases c l p (λ q _. Small c q)
        (λ h. omega arith)
        (λ h e. let r = room_emptied h in omega arith)
        (λ h e. omega arith)

-- ---- how a turn's numbers join those of the turns after it

fresh_taken : (c : ℕ) (l : FreeList) (p : Counts) → (taken c l p).fresh ≡ p.fresh + length (named c l p)
fresh_taken c l p = taken_cases c l p (λ q xs. q.fresh ≡ p.fresh + length xs) (λ h. refl) (λ h e. refl) (λ h e. refl)

-- where the room is enough nothing is left to do
pub planned_enough : (c : ℕ) (l : FreeList) (k : ℕ) (p : Counts) → p.pushed ≤ room_of c p → planned c l k p ≡ p
unfolding planned
planned_enough c l zero p h = refl
planned_enough c l (suc k) p h = rw (le-ltb (room_of c p) p.pushed h, planned)

pub new_enough : (c : ℕ) (l : FreeList) (k : ℕ) (p : Counts) → p.pushed ≤ room_of c p → new_pages c l k p ≡ []
unfolding new_pages
new_enough c l zero p h = refl
new_enough c l (suc k) p h = rw (le-ltb (room_of c p) p.pushed h, new_pages)

-- where it is short a turn is taken
pub planned_more : (c : ℕ) (l : FreeList) (k : ℕ) (p : Counts) → Short c p → planned c l (suc k) p ≡ planned c l k (stepped c l p)
unfolding planned
planned_more c l k p h = rw (lt-ltb (room_of c p) p.pushed h, planned)

pub new_more : (c : ℕ) (l : FreeList) (k : ℕ) (p : Counts) → Short c p → new_pages c l (suc k) p ≡ step_names c l p ++ new_pages c l k (stepped c l p)
unfolding new_pages
new_more c l k p h = rw (lt-ltb (room_of c p) p.pushed h, new_pages)

-- the bump does not fall
pub bump_stepped : (c : ℕ) (l : FreeList) (p : Counts) → p.bump ≤ (stepped c l p).bump
bump_stepped c l p = step_cases c l p (λ q _. p.bump ≤ q.bump) (λ h w. omega arith) (λ h. omega arith) (λ h e. omega arith) (λ h e. omega arith)

-- ---- what the code's calls say, joined

-- numbers of 32 bits are kept
pub narrow_same : (n : ℕ) → n < 2 ^ 32 → narrow n ≡ n
narrow_same n h = rw (lt-ltb n (2 ^ 32) h)

pub one_kept : (out : List ℕ) (i x : ℕ) → x < 2 ^ 32 → set out i x ≡ sets out i (map narrow (x ∷ []))
one_kept out i x h = rw (narrow_same x h)

pub two_kept : (out : List ℕ) (i x y : ℕ) → x < 2 ^ 32 → y < 2 ^ 32 → set (set out i x) (i + 1) y ≡ sets out i (map narrow (x ∷ y ∷ []))
two_kept out i x y h k = rw (narrow_same x h, narrow_same y k, add-one i)

pub all_kept_lem : (ns : List ℕ) → ((n : ℕ) → Memᴰ n ns → n < 2 ^ 32) → map narrow ns ≡ ns
all_kept_lem [] fits = refl
all_kept_lem (n ∷ ns) fits = rw (narrow_same n (fits n (Memᴰ.head refl)), all_kept_lem ns (λ m i. fits m (Memᴰ.tail i)))

-- numbers put behind numbers
pub narrowed_append : (before : List ℕ) (at : ℕ) (xs ys : List ℕ) {to : ℕ} → to ≡ at + length xs
    → sets (sets before at (map narrow xs)) to (map narrow ys) ≡ sets before at (map narrow (xs ++ ys))
narrowed_append before at xs ys e = rw (e, map-append narrow xs ys, sets-append before at (map narrow xs) (map narrow ys), length-map xs narrow)

-- nothing is left to do
pub done : (c : ℕ) (l : FreeList) (p : Counts) (before : List ℕ) → p.pushed ≤ room_of c p → Planned c l p before p before
unfolding Planned
done c l p before h k e =
    record { counted = sym (planned_enough c l k p h); named = ap (λ (xs : List ℕ). sets before p.fresh (map narrow xs)) (sym (new_enough c l k p h)) }

module _ {c : ℕ} {l : FreeList} {p : Counts} (packed : Packed c l p) (s : Short c p) where
  -- a swap, and what is done after it
  pub then_swapped : (before : List ℕ) (r : Counts) (after : List ℕ) → whole_of c p ≡ true
      → Planned c l (top_swapped l p) before r after → Planned c l p before r after
  unfolding Planned stepped step_names
  then_swapped before r after w rest zero e = absurd (omega arith)
  then_swapped before r after w rest (suc k) e =
      let f = whole_facts c p w in
      let d = falls_swapped packed f.0 f.1 in
      rw (planned_more c l k p s, new_more c l k p s, w) (rest k (omega arith))

  -- a page taken, and what is done after it
  then_taken : (before mid : List ℕ) (q r : Counts) (after : List ℕ) → whole_of c p ≡ false → Took c l p before q mid
      → Planned c l q mid r after → Planned c l p before r after
  unfolding Planned stepped step_names
  then_taken before mid q r after w t rest zero e = absurd (omega arith)
  then_taken before mid q r after w t rest (suc k) e =
      let d = falls_taken packed s in
      let o = (rw t.counted at rest) k (omega arith) in
      rw (planned_more c l k p s, new_more c l k p s, w) (
      record {
        counted = o.counted;
        named = o.named ∙ rw t.named (narrowed_append before p.fresh (named c l p) (new_pages c l k (taken c l p)) (fresh_taken c l p));
      }
      )

  -- after a swap less work is left, no whole page is at the top, and the room is as short as before
  pub swapped_ready : Small c p → whole_of c p ≡ true → (work c (top_swapped l p) < work c p) × (Due c l (top_swapped l p) × (whole_of c (top_swapped l p) ≡ false))
  swapped_ready small w =
      let f = whole_facts c p w in
      let n = times_less c p.pages f.0 in (
        falls_swapped packed f.0 f.1,
        (
          record { packed = packed_swapped packed f.0 f.1; small = small-swapped packed small s f.0 f.1; short = omega arith },
          rw (le-leb 1 p.pages f.0, ne_eqb (p.entries - 1) (c * p.pages) (omega arith)),
        ),
      )

-- ---- a part of a run, from the counts p and their buffer to the counts q and their own

pub along_start : {c : ℕ} {l : FreeList} {q : Counts} {out : List ℕ} → Packed c l q → Small c q → Along c l q out q out
along_start packed small = record { packed = packed; small = small; less = omega arith; same = refl; planned = λ r after h. h }

module _ {c : ℕ} {l : FreeList} {p q r : Counts} {before mid after : List ℕ} where
  -- two parts, one after another
  pub along_joined : Along c l p before q mid → Along c l q mid r after → Along c l p before r after
  along_joined a b =
      record {
        packed = b.packed;
        small = b.small;
        less = omega (arith, a.less, b.less);
        same = b.same ∙ a.same;
        planned = λ last out h. a.planned last out (b.planned last out h);
      }

  -- of which the second takes a turn
  pub turned_after : Along c l p before q mid → Turned c l q mid r after → Turned c l p before r after
  turned_after a t = record { falls = omega (arith, a.less, t.falls); along = along_joined a t.along }

  -- or the first
  pub turned_before : Turned c l p before q mid → Along c l q mid r after → Turned c l p before r after
  turned_before t a = record { falls = omega (arith, t.falls, a.less); along = along_joined t.along a }

-- where the room is still short a turn is due
pub along_due : {c : ℕ} {l : FreeList} {p q : Counts} {before mid : List ℕ} → Along c l p before q mid → Short c q → Due c l q
along_due a s = record { packed = a.packed; small = a.small; short = s }

-- a page that is taken is such a part
pub turned_taken : {c : ℕ} {l : FreeList} {p r : Counts} {before after : List ℕ} → Due c l p → whole_of c p ≡ false → Took c l p before r after
    → length after ≡ length before → Turned c l p before r after
turned_taken {c} {l} {p} {r} {before} {after} d w t n =
    let e = t.counted in
    let falls : work c r < work c p = rw e (falls_taken d.packed d.short) in
    record {
      falls = falls;
      along =
          record {
            packed = rw e (packed_taken d.packed);
            small = rw e (small-taken d.packed d.small d.short);
            less = omega arith;
            same = n;
            planned = λ last out h. then_taken d.packed d.short before after r last out w t h;
          };
    }

-- so is a swap with what is done after it
pub turned_swapped : {c : ℕ} {l : FreeList} {p r : Counts} {before after : List ℕ} → Due c l p → whole_of c p ≡ true
    → Turned c l (top_swapped l p) before r after → Turned c l p before r after
turned_swapped {c} {l} {p} {r} {before} {after} d w t =
    let f = (swapped_ready d.packed d.short d.small w).0 in
    record {
      falls = omega (arith, f, t.falls);
      along =
          record {
            packed = t.along.packed;
            small = t.along.small;
            less = omega (arith, f, t.falls);
            same = t.along.same;
            planned = λ last out h. then_swapped d.packed d.short before last out w (t.along.planned last out h);
          };
    }
