-- What a finish comes to in numbers: the work of a save that changes nothing, and that of a save with a plan, which stays far below the
-- machine's limits; and the answer. From the counts of `CarryLaws`. Assumes nothing.
use Prim.Native.Nat.{ℕ, ◌+◌, ◌-◌, ◌*◌, ◌≤◌}
use native.Mathlib.Nat.{mul-le-mul_right}
use native.Mathlib.Omega.{arith}
use mathlib.Core.Path.{◌≡◌, refl, ap, sym, ◌∙◌}
use mathlib.Core.Bool.{Bool, true, false, ◌&&◌, cond}
use mathlib.Core.List.{List, [], ◌++◌, append_assoc}
use lib.Dec.{eqb, leb}
use lib.ListN.{length, take}
use borrow.Author.Tests.{eqb-true}
use Rattle.laws.proofs.Tests.{and-true, and-true_right}
use Rattle.laws.proofs.CountLaws.{count-mem, each_below, below-append}
use lib.Seq.{sets, take-take}
use Rattle.refusal.specs.Outcome.{Outcome, answer, refused}
use Rattle.refusal.specs.Effect.{Effect, effect, leaves, go_on}
use Rattle.laws.specs.Counting.{all_below, all_different}
use Rattle.bit_map.specs.BitMap.{has_bits, cleared}
use Rattle.refusal.proofs.OutcomeLaws.{unanswer, with_answer_answer, with_answer_refused}
use Rattle.laws.proofs.SetsLaws.{take-sets}
use Rattle.page.specs.PageSize.{most_entries, IsPageSize, capacity}
use Rattle.page.specs.Growth.{max_bump}
use Rattle.preallocate.specs.Plan.{plan_of}
use Rattle.preallocate.specs.Counts.{counts, Poppable}
use Rattle.preallocate.specs.declared.turns.Plan.{Plan as Counts}
use Rattle.preallocate.proofs.FirstLaws.{capacity_fits}
use Rattle.allocator.specs.OpenSave.{Save, list_of, bumped, state_fits}
use Rattle.allocator.proofs.SaveLaws.{Stands, stands}
use Rattle.free_list.specs.Shape.{head_of}
use Rattle.finisher.specs.Finish.{Finished, FinishAnswer, finish_answer, tables_of, finished, left_list, left_numbers, admitted, fitted, finish, FinishRoom, FinishLent, stored, finish_into}
use Rattle.finisher.specs.Steps.{unchanged, plan_for, all_kept, work_of, same_work, room_of, work_told, judged, answer_of, Begun, Admitted, Goes, Changed}
use Rattle.finisher.specs.declared.judge.Work.{Work}
use Rattle.finisher.specs.declared.judge.Room.{Room as RoomStruct}
use Rattle.finisher.proofs.TablesLaws.{good_freed}
use Rattle.finisher.proofs.FinishLaws.{pages_listed, entries_listed, finished_same, Admits, admits, Succeeds, Room, succeeds, into-answered}
use Rattle.finisher.proofs.CarryLaws.{bounds, bump_planned, pages_count, entries_count, written_count, save_poppable}

-- the work's bump is the finish's
pub work_bump : (s : ℕ) (v : Save) (freed : List ℕ) → IsPageSize s → state_fits s v ≡ true → (work_of s v freed).plan.bump ≡ (finished s v freed).bump
work_bump s v freed size state = go (unchanged v freed) refl
  where
    go : (q : Bool) → unchanged v freed ≡ q → (cond q (all_kept v.P v.L (bumped v)) (counts (plan_for s v freed))).bump ≡ (finished s v freed).bump
    go true e = rw (finished_same (stands s v state) freed e)
    go false e = sym (bump_planned (record { size = size; state = state; changed = e }))

-- ---- the work

module _ {s : ℕ} {v : Save} {pops bump : ℕ} (b : Begun s v pops bump) where
  standing : Stands s v
  standing = stands s v b.state

  -- a plan can be made
  pub begun_poppable : Poppable (list_of v) pops bump
  begun_poppable = rw (b.pops_are, b.bump_is) (save_poppable standing (omega (arith, b.limit, b.bump_is)))

  module _ (freed : List ℕ) where
    same_test : {q : Bool} → eqb pops 0 && eqb (length freed) 0 ≡ q → unchanged v freed ≡ q
    same_test e = rw (← b.pops_are) e

    -- nothing was popped and nothing freed
    pub same-work : eqb pops 0 && eqb (length freed) 0 ≡ true → same_work (record { bump = v.bump; pages = v.P; entries = v.L }) bump ≡ work_of s v freed
    same-work e =
        let none = eqb-true pops 0 (and-true (eqb pops 0) (eqb (length freed) 0) e).0 in
        rw (b.bump_is, same_test e, finished_same standing freed (same_test e), pages_listed standing, entries_listed standing, sym b.pops_are ∙ none)

    module _ (e : eqb pops 0 && eqb (length freed) 0 ≡ false) {r : Counts} (is : r ≡ counts (plan_of (capacity s) (list_of v) pops freed bump)) where
      changed : Changed s v freed
      changed = record { size = b.size; state = b.state; changed = same_test e }

      is_planned : r ≡ counts (plan_for s v freed)
      is_planned = rw (b.pops_are, b.bump_is) at is

      -- the list is planned anew
      pub changed-work : ◌≡◌ {A = Work}
          (record { popped = pops; bump = bump; plan = r; pages = r.pages + r.fresh; entries = r.entries + r.pushed; written = r.pages + r.fresh - (r.pages - 1) })
          (work_of s v freed)
      changed-work =
          rw (b.pops_are, b.bump_is, is_planned, same_test e, written_count changed, pages_count changed, entries_count changed)

      pub count_small : r.pages + r.fresh ≤ length v.page_table + length v.entry_table + length freed + most_entries
      count_small =
          let l = bounds changed in
          let t = plan_for s v freed in
          rw is_planned
          (omega (arith, l.tight, l.left, l.longer, l.few, standing.pages_fit, standing.entries_fit, capacity_fits b.size, mul-le-mul_right (t.kept + length t.fresh) b.size.two_entries))

      pub listed_small : r.entries + r.pushed ≤ length v.page_table + length v.entry_table + length freed
      listed_small =
          let l = bounds changed in
          rw is_planned (omega (arith, l.left, l.longer, l.few, standing.pages_fit, standing.entries_fit))

-- ---- what was judged is the outcome

-- an answer is no refusal
apart : {A : Type 0} {a : A} {n : ℕ} {vs : List ℕ} → answer a ≡ refused n vs → ⊥
apart e = let never : ⊥ = cc in never

-- a refusal before the map is written is that of the whole
pub admit_refused : (s : ℕ) (v : Save) (freed : List ℕ) (room : RoomStruct) (map : List ℕ) {n : ℕ} {vs : List ℕ} → refused n vs ≡ work_told s v freed (admitted s v freed (length map))
    → effect (refused n vs) map ≡ judged s v freed room map
admit_refused s v freed room map e =
    rw (with_answer_refused (λ (f : Finished). work_of s v freed) (admitted s v freed (length map)) (sym e)) refl

-- and an answer says what the finish is
pub admit_answered : (s : ℕ) (v : Save) (freed : List ℕ) (map : ℕ) {work : Work} → answer work ≡ work_told s v freed (admitted s v freed map) → Admitted s v freed work map
admit_answered s v freed map e =
    let a = with_answer_answer (λ (f : Finished). answer (work_of s v freed)) (admitted s v freed map) (sym e) in
    record { admits = a.1 ∙ ap answer (sym (admits s v freed map a.0 a.1).is); is = sym (unanswer a.2) }

-- of such a save the code sees the parts of its tables, and the freed numbers lie below the bump
module _ {s : ℕ} {v : Save} {freed : List ℕ} {work : Work} {map : ℕ} (a : Admitted s v freed work map) where
  admitting : Admits s v freed map (finished s v freed)
  admitting = admits s v freed map (finished s v freed) a.admits

  pub standing_of : Stands s v
  standing_of = stands s v admitting.state

  pub bump-is : work.bump ≡ bumped v
  bump-is = ap (λ (w : Work). w.bump) a.is

  pub room_is : has_bits work.bump map ≡ true
  room_is = rw bump-is admitting.bits

  freed_below : all_below (bumped v) freed ≡ true
  freed_below = each_below (bumped v) freed (λ x h. (good_freed (bumped v) freed admitting.good x (count-mem x freed h)).1)

  left-entries : take (v.L - work.popped) v.entry_table ≡ (left_list v.handed (list_of v)).entries
  left-entries =
      let pops : v.L - work.popped ≡ length (list_of v).entries - v.handed = omega (arith, ap (λ (w : Work). w.popped) a.is, entries_listed standing_of) in
      rw pops (sym (take-take (length (list_of v).entries - v.handed) v.L v.entry_table (omega (arith, entries_listed standing_of))))

  pub judged_left : {differ : Bool}
      → (let ns = take v.P v.page_table ++ (take (v.L - work.popped) v.entry_table ++ freed) in differ ≡ all_below work.bump ns && all_different ns)
      → differ ≡ all_below (bumped v) (left_numbers v) && all_different (left_numbers v ++ freed)
  judged_left e =
      let left = left_list v.handed (list_of v) in
      rw (bump-is, left-entries, ← append_assoc left.pages left.entries freed, below-append (bumped v) (left_numbers v) freed, freed_below, and-true_right (all_below (bumped v) (left_numbers v))) at e

-- behind that it is what is judged of the finish
pub judged_admitted : {s : ℕ} {v : Save} {freed : List ℕ} {work : Work} (room : RoomStruct) (map : List ℕ) → Admitted s v freed work (length map)
    → judged s v freed room map ≡ effect (work_told s v freed (fitted s v freed (room_of room (length map)) (finished s v freed))) (cleared (bumped v) map)
judged_admitted room map a = rw (a.admits) refl

-- test by test: what the code found of the numbers and of the room decides it
module _ {s : ℕ} {v : Save} {freed : List ℕ} {work : Work} (room : RoomStruct) (map : List ℕ) (a : Admitted s v freed work (length map)) where
  abbrev differing : Bool
  differing = all_below (bumped v) (left_numbers v) && all_different (left_numbers v ++ freed)

  pub judged-repeat : differing ≡ false → effect (refused 22 []) (cleared (bumped v) map) ≡ judged s v freed room map
  unfolding fitted
  judged-repeat e = rw (judged_admitted room map a, e) refl

  module _ (differ : differing ≡ true) where
    abbrev tables : Bool
    tables = leb work.pages (length v.page_table) && leb work.entries (length v.entry_table)

    abbrev pages : Bool
    pages = leb (s * work.written) room.bytes && leb work.written room.numbers

    tables_are : {q : Bool} → tables ≡ q → leb (length (finished s v freed).list.pages) (length v.page_table) && leb (length (finished s v freed).list.entries) (length v.entry_table) ≡ q
    tables_are e = ap (λ (x : Work). leb x.pages (length v.page_table) && leb x.entries (length v.entry_table)) (sym a.is) ∙ e

    pages_are : {q : Bool} → pages ≡ q → leb (s * length (finished s v freed).written) room.bytes && leb (length (finished s v freed).written) room.numbers ≡ q
    pages_are e = ap (λ (x : Work). leb (s * x.written) room.bytes && leb x.written room.numbers) (sym a.is) ∙ e

    pub judged-tables : tables ≡ false → effect (refused 6 []) (cleared (bumped v) map) ≡ judged s v freed room map
    unfolding fitted
    judged-tables e = rw (judged_admitted room map a, differ, tables_are e) refl

    pub judged-buffer : tables ≡ true → pages ≡ false → effect (refused 9 []) (cleared (bumped v) map) ≡ judged s v freed room map
    unfolding fitted
    judged-buffer t e = rw (judged_admitted room map a, differ, tables_are t, pages_are e) refl

    pub judged-all : tables ≡ true → pages ≡ true → effect (answer work) (cleared (bumped v) map) ≡ judged s v freed room map
    unfolding fitted
    judged-all t e = rw (judged_admitted room map a, differ, tables_are t, pages_are e, a.is) refl

-- the effect of the whole finish, from what was judged
module _ (s : ℕ) (v : Save) (freed buffer numbers map : List ℕ) where
  abbrev room : RoomStruct
  room = record { bytes = length buffer; numbers = length numbers }

  abbrev lent : FinishRoom
  lent = record { buffer = buffer; numbers = numbers; map = map }

  abbrev with_map : List ℕ → FinishLent
  with_map m = record { tables = tables_of v; room = record { buffer = buffer; numbers = numbers; map = m } }

  abbrev open_map : FinishLent
  open_map = with_map (cleared (bumped v) map)

  abbrev of_finish : Finished → Outcome Finished
  of_finish f = fitted s v freed (room_of room (length map)) f

  abbrev of_work : Outcome Finished → Effect Work (List ℕ)
  of_work o = go_on map (λ f. effect (work_told s v freed (of_finish f)) (cleared (bumped v) map)) o

  abbrev of_save : Outcome Finished → Effect FinishAnswer FinishLent
  of_save o = go_on (with_map map) (λ f. leaves (finish_answer v) (stored open_map) open_map (of_finish f)) o

  -- a refusal is the same, and leaves the same map
  pub judged_refused : {n : ℕ} {vs m : List ℕ} → effect (refused n vs) m ≡ judged s v freed room map → effect (refused n vs) (with_map m) ≡ finish_into s v freed lent
  unfolding finish_into
  judged_refused {n} {vs} {m} e = by_admitted (admitted s v freed (length map)) e
    where
      same_number : {A : Type 0} {k : ℕ} {us : List ℕ} → ◌≡◌ {A = Outcome A} (refused n vs) (refused k us) → n ≡ k
      same_number e = cc

      same_values : {A : Type 0} {k : ℕ} {us : List ℕ} → ◌≡◌ {A = Outcome A} (refused n vs) (refused k us) → vs ≡ us
      same_values e = cc

      by_fitted : (o : Outcome Finished) → effect (refused n vs) m ≡ effect (work_told s v freed o) (cleared (bumped v) map)
          → effect (refused n vs) (with_map m) ≡ leaves (finish_answer v) (stored open_map) open_map o
      by_fitted (answer g) e = absurd (apart (sym (ap (λ (x : Effect Work (List ℕ)). x.outcome) e)))
      by_fitted (refused k us) e =
          let t = ap (λ (x : Effect Work (List ℕ)). x.outcome) e in
          rw (same_number t, same_values t, ap (λ (x : Effect Work (List ℕ)). x.lent) e) refl

      by_admitted : (o : Outcome Finished) → effect (refused n vs) m ≡ of_work o → effect (refused n vs) (with_map m) ≡ of_save o
      by_admitted (answer f) e = by_fitted (of_finish f) e
      by_admitted (refused k us) e =
          let t = ap (λ (x : Effect Work (List ℕ)). x.outcome) e in
          rw (same_number t, same_values t, ap (λ (x : Effect Work (List ℕ)). x.lent) e) refl

  -- what an answer tells: the finish goes, the map's bytes in use are zero, and the work is stored
  pub record Answered (work : Work) (m : List ℕ) : Type 0 where
    pub goes : Goes s v freed work buffer numbers
    pub map_is : m ≡ cleared (bumped v) map
    pub into : finish_into s v freed lent ≡ effect (answer (finish_answer v (finished s v freed))) (stored open_map (finished s v freed))

  pub judged_answered : {work : Work} {m : List ℕ} → IsPageSize s → effect (answer work) m ≡ judged s v freed room map → Answered work m
  unfolding finish
  judged_answered {work} {m} size e = by_admitted (admitted s v freed (length map)) refl e
    where
      by_fitted : (f : Finished) → admitted s v freed (length map) ≡ answer f → (o : Outcome Finished) → of_finish f ≡ o
          → effect (answer work) m ≡ effect (work_told s v freed o) (cleared (bumped v) map) → Answered work m
      by_fitted f t (refused k us) u e = absurd (apart (ap (λ (x : Effect Work (List ℕ)). x.outcome) e))
      by_fitted f t (answer g) u e =
          let out : finish s v freed (room_of room (length map)) ≡ answer g = rw t u in
          let is : g ≡ finished s v freed = (succeeds s v freed (room_of room (length map)) g out).0.is in
          record {
            goes =
                record {
                  size = size;
                  map = length map;
                  answers = out ∙ ap answer is;
                  is = unanswer (ap (λ (x : Effect Work (List ℕ)). x.outcome) e);
                };
            map_is = ap (λ (x : Effect Work (List ℕ)). x.lent) e;
            into = into-answered s v freed lent (finished s v freed) (out ∙ ap answer is);
          }

      by_admitted : (o : Outcome Finished) → admitted s v freed (length map) ≡ o → effect (answer work) m ≡ of_work o → Answered work m
      by_admitted (answer f) t e = by_fitted f t (of_finish f) refl e
      by_admitted (refused k us) t e = absurd (apart (ap (λ (x : Effect Work (List ℕ)). x.outcome) e))

module _ {s : ℕ} {v : Save} {freed : List ℕ} {work : Work} {buffer numbers : List ℕ} (g : Goes s v freed work buffer numbers) where
  did : Succeeds s v freed (finished s v freed) × Room s v (finished s v freed) (record { bytes = length buffer; numbers = length numbers; map = g.map })
  did = succeeds s v freed (record { bytes = length buffer; numbers = length numbers; map = g.map }) (finished s v freed) g.answers

  bump_is : work.plan.bump ≡ (finished s v freed).bump
  bump_is = ap (λ (w : Work). w.plan.bump) g.is ∙ work_bump s v freed g.size did.0.state

  -- its answer is made of the new bump and the new page table
  pub goes_limit : work.plan.bump ≤ max_bump
  goes_limit = omega (arith, bump_is, did.0.limit)

  pub goes_pages : work.pages ≤ length v.page_table
  goes_pages = omega (arith, ap (λ (w : Work). w.pages) g.is, did.1.pages)

  pub goes_answer : {pages : List ℕ} → pages ≡ sets v.page_table 0 (finished s v freed).list.pages → answer_of v.recorded work pages ≡ finish_answer v (finished s v freed)
  unfolding finish_answer head_of
  goes_answer e =
      rw (bump_is, ap (λ (w : Work). w.pages) g.is, ap (λ (w : Work). w.entries) g.is, ap (λ (w : Work). w.written) g.is, e)
      (rw (take-sets v.page_table (finished s v freed).list.pages did.1.pages))
