-- The plan after the first number is popped: what is kept is packed, and its room is at most a page more than is asked.
-- By its four cases; on the pages that are left see `after_facts`. Assumes nothing.
use Prim.Native.Nat.{ℕ, zero, suc, ◌+◌, ◌-◌, ◌*◌, ◌^◌, ◌≤◌, ◌<◌}
use native.Mathlib.Nat.{div-mul-le_self}
use native.Mathlib.Omega.{arith}
use mathlib.Core.Path.{◌≡◌, refl, ◌∙◌}
use mathlib.Core.Logic.{◌≢◌}
use mathlib.Core.List.{List, [], ◌∷◌, reverse}
use mathlib.Core.Bool.{Bool, true, false, ◌&&◌, cond}
use lib.ListN.{length, drop, length-append, length-drop, length-reverse}
use lib.Dec.{leb, eqb}
use borrow.Author.Tests.{leb-false, le-leb, lt-leb, eqb-true, eqb-false}
use Rattle.laws.proofs.Tests.{cond_cases, and-true}
use Rattle.page.specs.PageSize.{most_entries, IsPageSize, capacity}
use Rattle.page.specs.Growth.{max_bump}
use Rattle.free_list.specs.Shape.{FreeList, is_shape, is_fragmented}
use Rattle.free_list.proofs.BelowLaws.{fragmented_is}
use Rattle.preallocate.specs.Plan.{Plan, page_number, entry, pages_after, pushed_after, none_left, renumbered, mended, emptied, first_plan}
use Rattle.preallocate.specs.declared.turns.Plan.{Plan as Counts}
use Rattle.preallocate.specs.Lists.{Shapely}
use Rattle.preallocate.specs.Counts.{counts, Poppable, Told, Makes}
use Rattle.preallocate.specs.Steps.{first_popped, first_names, room_of, Packed, Small, Started}
use Rattle.laws.proofs.ProductLaws.{times_less, times_positive}
use Rattle.free_list.proofs.ShapeLaws.{shaped}
use Rattle.preallocate.proofs.PagesForLaws.{pages_for_enough, pages_for_tight, pages_for_least, head_some}

-- ---- the pages that are left

module _ (c : ℕ) (l : FreeList) (two : 2 ≤ c) (shape : is_shape c (length l.pages) (length l.entries) ≡ true) (k : ℕ) where
  -- they are pages of the list
  pub after_fewer : pages_after c l k ≤ length l.pages
  unfolding pages_after
  after_fewer =
      let s = shaped c _ _ shape in
      cond_cases (λ p. p ≤ length l.pages) (eqb k 0) _ _
      (λ e. omega arith)
      (λ e. pages_for_least c (length l.entries - k) (length l.pages) (omega arith) (omega (arith, s.most)))

  -- unless the list is fragmented and nothing was popped, they are as few as hold the entries that are left
  pub after_facts : k < length l.entries → eqb k 0 && is_fragmented c (length l.pages) (length l.entries) ≡ false
      → (length l.entries - k ≤ c * pages_after c l k) × (c * pages_after c l k < length l.entries - k + c)
  unfolding pages_after
  after_facts some whole =
      let s = shaped c _ _ shape in
      cond_cases (λ p. (length l.entries - k ≤ c * p) × (c * p < length l.entries - k + c)) (eqb k 0) _ _
      (λ e. let z = eqb-true k 0 e in let t = head_some c _ _ two (omega arith) s (rw e at whole) in (omega (arith, s.most), omega arith))
      (λ e. (pages_for_enough c (length l.entries - k) (omega arith), pages_for_tight c (length l.entries - k) (omega arith)))

  -- there is one, and their room is no more than a page above the entries
  pub after_some : {r : ℕ} → r ≡ pages_after c l k → k < length l.entries → eqb k 0 && is_fragmented c (length l.pages) (length l.entries) ≡ false
      → (0 < r) × (c * r < length l.entries + c)
  after_some e some whole =
      let a = after_facts some whole in
      rw e (times_positive c (pages_after c l k) (omega arith), omega arith)

  pub length_pushed : (freed : List ℕ) → length (pushed_after c l k freed) ≡ length freed + (length l.pages - pages_after c l k)
  unfolding pushed_after
  length_pushed freed =
      let rest = drop (pages_after c l k) l.pages in
      omega (arith, length-append freed (reverse rest), length-reverse rest, length-drop (pages_after c l k) l.pages)

-- ---- the first plan, by its cases

module _ (c : ℕ) (l : FreeList) (k : ℕ) (freed : List ℕ) (bump : ℕ) where
  pub first_none : length l.entries ≤ k → first_plan c l k freed bump ≡ none_left c l (pushed_after c l k freed) bump
  unfolding first_plan
  first_none h = rw (le-leb _ _ h)

  module _ (some : k < length l.entries) where
    pub first-mends : eqb k 0 && is_fragmented c (length l.pages) (length l.entries) ≡ true
        → first_plan c l k freed bump ≡ mended c l (length l.entries - suc k) (pushed_after c l k freed) bump
    unfolding first_plan
    first-mends e = rw (lt-leb _ _ some, e)

-- ---- the first plan

-- what it has, where `pushed` is the push list before it
pub record First (c : ℕ) (l : FreeList) (pushed : List ℕ) (bump : ℕ) (t : Plan) : Type 0 where
  pub packed : Packed c l (counts t)
  pub near : room_of c (counts t) ≤ length t.pushed + c
  pub few : length t.fresh ≤ 1
  pub pushes : length t.pushed ≤ length pushed + 2
  pub same : t.bump ≡ bump

module _ (c : ℕ) (l : FreeList) (two : 2 ≤ c) (shape : is_shape c (length l.pages) (length l.entries) ≡ true) (k : ℕ) (freed : List ℕ) (bump : ℕ) where
  abbrev L : ℕ
  L = length l.entries

  abbrev P : ℕ
  P = length l.pages

  first_mended : k < L → eqb k 0 && is_fragmented c P L ≡ true → First c l (pushed_after c l k freed) bump (mended c l (L - suc k) (pushed_after c l k freed) bump)
  first_mended some e =
      let t = and-true (eqb k 0) (is_fragmented c P L) e in
      let z = eqb-true k 0 t.0 in
      let f = fragmented_is c P L t.1 in
      let n = length-append (pushed_after c l k freed) (page_number c l (P - 2) ∷ page_number c l (P - 1) ∷ []) in
      record {
        packed = omega arith;
        near = omega arith;
        few = omega arith;
        pushes = omega arith;
        same = refl;
      }

  first_emptied : k < L → eqb k 0 && is_fragmented c P L ≡ false → L - suc k ≡ c * (pages_after c l k - 1)
      → First c l (pushed_after c l k freed) bump (emptied c l (pages_after c l k) (L - suc k) (pushed_after c l k freed) bump)
  first_emptied some e last =
      let a = after_facts c l two shape k some e in
      let fewer = after_fewer c l two shape k in
      let n = length-append (pushed_after c l k freed) (page_number c l (pages_after c l k - 1) ∷ []) in
      record {
        packed = omega arith;
        near = omega arith;
        few = omega arith;
        pushes = omega arith;
        same = refl;
      }

  first_renumbered : k < L → eqb k 0 && is_fragmented c P L ≡ false → L - suc k ≢ c * (pages_after c l k - 1)
      → First c l (pushed_after c l k freed) bump (renumbered c l (pages_after c l k) (L - suc k) (pushed_after c l k freed) bump)
  first_renumbered some e last =
      let a = after_facts c l two shape k some e in
      let fewer = after_fewer c l two shape k in
      let one = times_less c (pages_after c l k) (times_positive c (pages_after c l k) (omega arith)) in
      let n = length-append (pushed_after c l k freed) (page_number c l (pages_after c l k - 1) ∷ []) in
      record {
        packed = omega arith;
        near = omega arith;
        few = omega arith;
        pushes = omega arith;
        same = refl;
      }

  pub first : First c l (pushed_after c l k freed) bump (first_plan c l k freed bump)
  unfolding first_plan
  first =
      let Q = First c l (pushed_after c l k freed) bump in
      cond_cases Q (leb L k) _ _
      (λ e. record { packed = omega arith; near = omega arith; few = omega arith; pushes = omega arith; same = refl })
      (λ e. let some : k < L = leb-false L k e in
      cond_cases Q (eqb k 0 && is_fragmented c P L) _ _
      (first_mended some)
      (λ f. cond_cases Q (eqb (L - suc k) (c * (pages_after c l k - 1))) _ _
      (λ g. first_emptied some f (eqb-true _ _ g))
      (λ g. first_renumbered some f (eqb-false _ _ g))))

  -- its sums have 64 bits
  pub first_small : c ≤ most_entries → length freed < 2 ^ 61 → P < 2 ^ 61 → L < 2 ^ 61 → bump ≤ max_bump → Small c (counts (first_plan c l k freed bump))
  first_small fits f p n b =
      let t = first in
      let s = t.packed in
      let h = length_pushed c l two shape k freed in
      let few = room_few (first_plan c l k freed bump).kept (length (first_plan c l k freed bump).fresh) t.few in
      omega arith
    where
      room_few : (kept fresh : ℕ) → fresh ≤ 1 → c * (kept + fresh) ≤ c * kept + c
      room_few kept zero h = omega arith
      room_few kept (suc zero) h = omega arith
      room_few kept (suc (suc n)) h = absurd (omega arith)

-- ---- what the code's calls ask

pub capacity_fits : {s : ℕ} → IsPageSize s → capacity s ≤ most_entries
unfolding capacity
capacity_fits {s} size = omega (arith, size.limit, div-mul-le_self (s - 6) 4)

-- turns may follow the first pop
pub first_started : {s c : ℕ} {l : FreeList} {k bump : ℕ} → Shapely s c l → Poppable l k bump → (freed : List ℕ)
    → length freed < 2 ^ 61 → length l.pages < 2 ^ 61 → length l.entries < 2 ^ 61
    → {before : List ℕ} {r : Counts} {after : List ℕ} → Makes (first_plan (capacity s) l k freed bump) before r after
    → Started (capacity s) l (first_plan (capacity s) l k freed bump) before r after
first_started {s} {c} {l} {k} {bump} a may freed f p n made =
    record {
      made = made;
      packed = rw made.counted (first (capacity s) l a.size.two_entries a.shape k freed bump).packed;
      small = rw made.counted (first_small (capacity s) l a.size.two_entries a.shape k freed bump (capacity_fits a.size) f p n may.bumps);
    }

-- the two cases of a list that is not mended, in numbers
pub first_counted : (c : ℕ) (l : FreeList) (k : ℕ) (freed : List ℕ) (bump : ℕ) {p n : ℕ} → k < length l.entries
    → eqb k 0 && is_fragmented c (length l.pages) (length l.entries) ≡ false → p ≡ pages_after c l k → n ≡ length l.entries - suc k
    → {none : Counts} → none ≡ counts (none_left c l (pushed_after c l k freed) bump)
    → {before : List ℕ} {r : Counts} {after : List ℕ} → Told (first_popped c l p n none) 0 (first_names c l p n) before r after
    → Makes (first_plan c l k freed bump) before r after
unfolding first_plan
first_counted c l k freed bump {p} {n} some whole kept left {none} is {before} {r} {after} told =
    rw (lt-leb _ _ some, whole, ← kept, ← left) (go (eqb n (c * (p - 1))) (rw is at told))
  where
    pushed : List ℕ
    pushed = pushed_after c l k freed

    go : (b : Bool)
        → Told (cond b (record { pages = p - 1; entries = n; pushed = length pushed + 1; fresh = 1; bump = bump; top = page_number c l (p - 2) })
        (record { pages = p; entries = n; pushed = length pushed + 1; fresh = 0; bump = bump; top = entry c l n })) 0 (cond b (entry c l n ∷ []) []) before r after
        → Makes (cond b (emptied c l p n pushed bump) (renumbered c l p n pushed bump)) before r after
    go true t = record { counted = t.counted ∙ rw (length-append pushed (page_number c l (p - 1) ∷ [])); named = t.named }
    go false t = record { counted = t.counted ∙ rw (length-append pushed (page_number c l (p - 1) ∷ [])); named = t.named }
