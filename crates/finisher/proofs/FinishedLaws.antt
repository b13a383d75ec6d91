-- What is shown of plans, of a finish that answers: its list has the shape, its numbers are conserved, and all differ and lie below the bump.
-- By its two ways. Assumes nothing.
use Prim.Native.Nat.{ℕ, ◌+◌, ◌-◌, min, ◌<◌, ◌≤◌}
use native.Mathlib.Decide.{dec_lt}
use mathlib.Core.Path.{◌≡◌, refl}
use mathlib.Core.Bool.{true}
use mathlib.Core.List.{List, [], ◌∷◌, ◌++◌, Memᴰ}
use native.Mathlib.Omega.{arith}
use lib.ListN.{length, drop, length-drop}
use Rattle.laws.specs.Counting.{count, numbers_from}
use Rattle.laws.proofs.CountLaws.{count_none, count-append, count_split, mem-count, count-mem, count-before, count_once, count_within_lem, once_different, below_each, all_different_once}
use Rattle.page.specs.PageSize.{IsPageSize, capacity}
use Rattle.free_list.specs.Shape.{is_shape}
use Rattle.allocator.specs.OpenSave.{Save, list_of, bumped}
use Rattle.free_list.specs.Reading.{numbers_of}
use Rattle.finisher.specs.Finish.{Finished, carried_out, left_list, left_numbers}
use Rattle.finisher.specs.Steps.{popped}
use Rattle.finisher.specs.Theorems.{FinishShape, FinishConserves, FinishDiffers}
use Rattle.finisher.proofs.NewNumbersLaws.{DistinctBelow}
use Rattle.finisher.proofs.TablesLaws.{good_freed}
use Rattle.finisher.proofs.FinishLaws.{bump_raised, entries_listed, list_shape, Succeeds, succeeds, finish_cases}
use Rattle.finisher.proofs.NewShapeLaws.{new_shape}
use Rattle.finisher.proofs.CountLaws.{conserved}

module _ {s : ℕ} (size : IsPageSize s) {v : Save} {freed : List ℕ} {f : Finished} (done : Succeeds s v freed f) where
  pops : popped v ≡ min v.handed (length (list_of v).entries)
  pops = rw (entries_listed done.stands)

  new_list_shape : is_shape (capacity s) (length f.list.pages) (length f.list.entries) ≡ true
  unfolding carried_out
  new_list_shape =
      finish_cases done refl (λ (g : Finished). is_shape (capacity s) (length g.list.pages) (length g.list.entries) ≡ true) (popped v) pops (λ _ _. list_shape done.stands)
      (λ changed. new_shape (capacity s) (list_of v) (popped v) freed (bumped v) size.two_entries (list_shape done.stands) (omega (arith, pops)) changed)

  numbers_conserved : (x : ℕ)
      → count x f.list.pages + count x f.list.entries + count x (drop (v.L - popped v) (list_of v).entries)
      ≡ count x (list_of v).pages + count x (list_of v).entries + count x freed + count x (numbers_from (bumped v) (f.bump - bumped v))
  unfolding carried_out numbers_from
  numbers_conserved x =
      finish_cases done refl
      (λ (g : Finished). count x g.list.pages + count x g.list.entries + count x (drop (v.L - popped v) (list_of v).entries)
      ≡ count x (list_of v).pages + count x (list_of v).entries + count x freed + count x (numbers_from (bumped v) (g.bump - bumped v)))
      (popped v) pops same
      (λ changed. rw (entries_listed done.stands) at (conserved (capacity s) (omega (arith, size.two_entries)) (list_of v) (popped v) freed (bumped v) (list_shape done.stands) x))
    where
      empty : (ns : List ℕ) → length ns ≡ 0 → count x ns ≡ 0
      empty [] e = count_none x
      empty (n ∷ ns) e = absurd (omega arith)

      same : popped v ≡ 0 → length freed ≡ 0
          → count x (list_of v).pages + count x (list_of v).entries + count x (drop (v.L - popped v) (list_of v).entries)
          ≡ count x (list_of v).pages + count x (list_of v).entries + count x freed + count x (numbers_from (bumped v) (bumped v - bumped v))
      same none no-freed =
          let left : length (drop (v.L - popped v) (list_of v).entries) ≡ 0 = omega (arith, length-drop (v.L - popped v) (list_of v).entries, entries_listed done.stands) in
          let no_bump : bumped v - bumped v ≡ 0 = omega arith in
          let raised : count x (numbers_from (bumped v) (bumped v - bumped v)) ≡ 0 = rw no_bump (count_none x) in
          omega (arith, empty freed no-freed, empty (drop (v.L - popped v) (list_of v).entries) left, raised)

pub finish_shape : {s : ℕ} → IsPageSize s → FinishShape s
finish_shape {s} size v freed room f e = new_list_shape size (succeeds s v freed room f e).0

pub finish_conserves : {s : ℕ} → IsPageSize s → FinishConserves s
finish_conserves {s} size v freed room f e x = numbers_conserved size (succeeds s v freed room f e).0 x

-- ---- the numbers of the new list

-- what a finish that answers has seen of what is left of its list
pub left_distinct : {s : ℕ} {v : Save} {freed : List ℕ} {f : Finished} → Succeeds s v freed f → DistinctBelow (left_list v.handed (list_of v)) (bumped v)
left_distinct {s} {v} {freed} done =
    let l = left_list v.handed (list_of v) in
    let once = all_different_once (left_numbers v ++ freed) done.differ in
    let under = below_each (bumped v) (left_numbers v) done.below in
    record {
      once = λ x. omega (arith, once x, count-append x (left_numbers v) freed, count-append x l.pages l.entries);
      pages_under = λ x m. under x (omega (arith, mem-count x l.pages m, count-append x l.pages l.entries));
      entries_under = λ x m. under x (omega (arith, mem-count x l.entries m, count-append x l.pages l.entries));
      bump_some = omega (arith, done.stands.some);
    }

module _ {s : ℕ} (size : IsPageSize s) {v : Save} {freed : List ℕ} {f : Finished} (done : Succeeds s v freed f) where
  abbrev bumps : List ℕ
  bumps = numbers_from (bumped v) (f.bump - bumped v)

  -- what is left, what was freed, and the numbers taken past the bump
  new_numbers : (x : ℕ) → count x (numbers_of f.list) ≡ count x (left_numbers v ++ freed) + count x bumps
  new_numbers x =
      let l = list_of v in
      let pops : v.L - popped v ≡ length l.entries - v.handed = omega (arith, entries_listed done.stands) in
      omega (
        arith,
        rw pops at (numbers_conserved size done x),
        count-append x f.list.pages f.list.entries,
        count-append x (left_numbers v) freed,
        count-append x l.pages (left_list v.handed l).entries,
        count_split x (length l.entries - v.handed) l.entries,
      )

  -- none of the former lies past the bump
  none_past : (x : ℕ) → bumped v ≤ x → count x (left_numbers v ++ freed) ≡ 0
  none_past x h = go (dec_lt 0 (count x (left_numbers v))) (dec_lt 0 (count x freed))
    where
      go : Dec (0 < count x (left_numbers v)) → Dec (0 < count x freed) → count x (left_numbers v ++ freed) ≡ 0
      go (yes y) d = absurd (omega (arith, h, below_each (bumped v) (left_numbers v) done.below x (omega arith)))
      go (no n) (yes y) = absurd (omega (arith, h, (good_freed (bumped v) freed done.good x (count-mem x freed (omega arith))).1))
      go (no n) (no o) = omega (arith, count-append x (left_numbers v) freed)

  new_once : (x : ℕ) → count x (numbers_of f.list) ≤ 1
  new_once x = go (dec_lt x (bumped v))
    where
      go : Dec (x < bumped v) → count x (numbers_of f.list) ≤ 1
      go (yes y) = omega (arith, new_numbers x, all_different_once (left_numbers v ++ freed) done.differ x, count-before x (bumped v) (f.bump - bumped v) y)
      go (no n) = omega (arith, new_numbers x, none_past x (omega arith), count_once x (bumped v) (f.bump - bumped v))

  new_below : (x : ℕ) → Memᴰ x (numbers_of f.list) → x < f.bump
  new_below x m = go (dec_lt x (bumped v))
    where
      raised : bumped v ≤ f.bump
      raised = rw done.is (bump_raised freed size done.stands)

      go : Dec (x < bumped v) → x < f.bump
      go (yes y) = omega (arith, y, raised)
      go (no n) =
          omega (arith, raised, count_within_lem x (bumped v) (f.bump - bumped v) (omega (arith, mem-count x (numbers_of f.list) m, new_numbers x, none_past x (omega arith))))

pub finish_differs : {s : ℕ} → IsPageSize s → FinishDiffers s
finish_differs {s} size v freed room f e =
    let done = (succeeds s v freed room f e).0 in
    (once_different (numbers_of f.list) (new_once size done), new_below size done)
