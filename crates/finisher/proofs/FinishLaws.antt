-- The finish: its two ways, and what one that answers has passed.
-- By its tests, one after another. Assumes nothing.
use Prim.Native.Nat.{ℕ, ◌*◌, min, ◌≤◌}
use mathlib.Core.Path.{◌≡◌, refl, sym, ◌∙◌, ap, subst}
use mathlib.Core.Bool.{true, false, ◌&&◌}
use mathlib.Core.List.{List, [], ◌∷◌, ◌++◌}
use lib.Dec.{leb, eqb}
use lib.ListN.{length}
use lib.Seq.{length-take-le}
use native.Mathlib.Omega.{arith}
use borrow.Author.Tests.{leb-true, eqb-true}
use Rattle.refusal.specs.Outcome.{Outcome, answer, refused, with_answer}
use Rattle.refusal.specs.Effect.{effect, leaves, go_on}
use Rattle.refusal.proofs.OutcomeLaws.{unanswer, check_answer, with_answer_answer}
use Rattle.laws.specs.Counting.{all_different, all_below}
use Rattle.bit_map.specs.BitMap.{has_bits}
use Rattle.laws.proofs.Tests.{cond_cases, and-true}
use Rattle.page.specs.PageSize.{IsPageSize, capacity}
use Rattle.page.specs.Growth.{max_bump}
use Rattle.free_list.specs.Shape.{FreeList, is_shape}
use Rattle.preallocate.specs.Plan.{plan_of}
use Rattle.preallocate.proofs.PlanLaws.{plan_bump}
use Rattle.allocator.specs.OpenSave.{Save, list_of, bumped, state_fits}
use Rattle.allocator.proofs.SaveLaws.{Stands, stands as standing}
use Rattle.finisher.specs.Finish.{Finished, first_bad, carried_out, finish_list, finish_answer, tables_of, finished, left_numbers, RoomLent, admitted, fitted, finish, FinishRoom, FinishLent, room_in, stored, unmarked, finish_into}
use Rattle.finisher.specs.Steps.{popped, unchanged, plan_for}

-- ---- the two ways of a finish

module _ {s : ℕ} {v : Save} (st : Stands s v) where
  -- the list has as many pages and entries as its save says, and the shape
  pub pages_listed : length (list_of v).pages ≡ v.P
  pages_listed = length-take-le v.P v.page_table st.pages_fit

  pub entries_listed : length (list_of v).entries ≡ v.L
  entries_listed = length-take-le v.L v.entry_table st.entries_fit

  pub list_shape : is_shape (capacity s) (length (list_of v).pages) (length (list_of v).entries) ≡ true
  list_shape = rw (pages_listed, entries_listed) st.shape

  pops_are : min v.handed (length (list_of v).entries) ≡ popped v
  pops_are = rw entries_listed

  pub finished_same : (freed : List ℕ) → unchanged v freed ≡ true → finished s v freed ≡ record { list = list_of v; bump = bumped v; written = [] }
  unfolding finished finish_list
  finished_same freed e = rw (pops_are, e)

  pub finished_changed : (freed : List ℕ) → unchanged v freed ≡ false → finished s v freed ≡ carried_out s (list_of v) (plan_for s v freed)
  unfolding finished finish_list
  finished_changed freed e = rw (pops_are, e)

-- the bump is not lowered
pub bump_raised : {s : ℕ} {v : Save} (freed : List ℕ) → IsPageSize s → Stands s v → bumped v ≤ (finished s v freed).bump
unfolding finished finish_list carried_out
bump_raised {s} {v} freed size st =
    let k = min v.handed (length (list_of v).entries) in
    cond_cases (λ (f : Finished). bumped v ≤ f.bump) (eqb k 0 && eqb (length freed) 0) _ _ (λ e. omega arith)
    (λ e. plan_bump (capacity s) (list_of v) size.two_entries (list_shape st) k freed (bumped v))

-- ---- a finish that succeeds

-- what is judged before the map is written
pub record Admits (s : ℕ) (v : Save) (freed : List ℕ) (map : ℕ) (f : Finished) : Type 0 where
  pub state : state_fits s v ≡ true
  pub is : finished s v freed ≡ f
  pub limit : (finished s v freed).bump ≤ max_bump
  pub good : first_bad (bumped v) freed ≡ length freed
  pub bits : has_bits (bumped v) map ≡ true

pub admits : (s : ℕ) (v : Save) (freed : List ℕ) (map : ℕ) (f : Finished) → admitted s v freed map ≡ answer f → Admits s v freed map f
unfolding admitted
admits s v freed map f e =
    let g = finished s v freed in
    let bad = first_bad (bumped v) freed in
    let a = check_answer (state_fits s v) 1 [] _ e in
    let b = check_answer (leb g.bump max_bump) 7 [] _ a.1 in
    let c = check_answer (eqb bad (length freed)) 8 (bad ∷ []) _ b.1 in
    let d = check_answer (has_bits (bumped v) map) 21 [] (answer g) c.1 in
    record { state = a.0; is = unanswer d.1; limit = leb-true g.bump max_bump b.0; good = eqb-true bad (length freed) c.0; bits = d.0 }

-- what its refusals tell
pub record Succeeds (s : ℕ) (v : Save) (freed : List ℕ) (f : Finished) : Type 0 where
  pub state : state_fits s v ≡ true
  pub stands : Stands s v
  pub is : f ≡ finished s v freed
  pub limit : f.bump ≤ max_bump
  pub good : first_bad (bumped v) freed ≡ length freed
  pub below : all_below (bumped v) (left_numbers v) ≡ true
  pub differ : all_different (left_numbers v ++ freed) ≡ true

-- and the room that it was lent
pub record Room (s : ℕ) (v : Save) (f : Finished) (room : RoomLent) : Type 0 where
  pub bytes : s * length f.written ≤ room.bytes
  pub numbers : length f.written ≤ room.numbers
  pub pages : length f.list.pages ≤ length v.page_table
  pub entries : length f.list.entries ≤ length v.entry_table

pub succeeds : (s : ℕ) (v : Save) (freed : List ℕ) (room : RoomLent) (f : Finished) → finish s v freed room ≡ answer f
    → Succeeds s v freed f × Room s v f room
unfolding finish fitted
succeeds s v freed room f e =
    let w = with_answer_answer (fitted s v freed room) (admitted s v freed room.map) e in
    let g = w.0 in
    let first = admits s v freed room.map g w.1 in
    let c = check_answer (all_below (bumped v) (left_numbers v) && all_different (left_numbers v ++ freed)) 22 [] _ w.2 in
    let d = check_answer (leb (length g.list.pages) (length v.page_table) && leb (length g.list.entries) (length v.entry_table)) 6 [] _ c.1 in
    let h = check_answer (leb (s * length g.written) room.bytes && leb (length g.written) room.numbers) 9 [] (answer g) d.1 in
    let r = and-true (all_below (bumped v) (left_numbers v)) _ c.0 in
    let t = and-true (leb (length g.list.pages) (length v.page_table)) _ d.0 in
    let u = and-true (leb (s * length g.written) room.bytes) _ h.0 in
    let same : g ≡ f = unanswer h.1 in
    subst (λ (x : Finished). Succeeds s v freed x × Room s v x room) same (
      record {
        state = first.state;
        stands = standing s v first.state;
        is = sym first.is;
        limit = subst (λ (x : Finished). x.bump ≤ max_bump) first.is first.limit;
        good = first.good;
        below = r.0;
        differ = r.1;
      },
      record {
        bytes = leb-true _ room.bytes u.0;
        numbers = leb-true _ room.numbers u.1;
        pages = leb-true _ (length v.page_table) t.0;
        entries = leb-true _ (length v.entry_table) t.1;
      },
    )

-- ---- what the call leaves, by its outcome

module _ (s : ℕ) (v : Save) (freed : List ℕ) (room : FinishRoom) where
  -- what is lent, once no number is marked in the map
  abbrev pub lent_unmarked : FinishLent
  lent_unmarked = unmarked (bumped v) (record { tables = tables_of v; room = room })

  pub into-answered : (f : Finished) → finish s v freed (room_in room) ≡ answer f → finish_into s v freed room ≡ effect (answer (finish_answer v f)) (stored lent_unmarked f)
  unfolding finish finish_into
  into-answered f e =
      let w = with_answer_answer (fitted s v freed (room_in room)) (admitted s v freed (length room.map)) e in
      rw (w.1, w.2) refl

  pub into-refused : {n : ℕ} {vs : List ℕ} → finish s v freed (room_in room) ≡ refused n vs → (finish_into s v freed room).outcome ≡ refused n vs
  unfolding finish finish_into
  into-refused {n} {vs} e = by_admitted (admitted s v freed (length room.map)) e
    where
      lent : FinishLent
      lent = record { tables = tables_of v; room = room }

      same_number : {k : ℕ} {us : List ℕ} → ◌≡◌ {A = Outcome Finished} (refused k us) (refused n vs) → k ≡ n
      same_number e = cc

      same_values : {k : ℕ} {us : List ℕ} → ◌≡◌ {A = Outcome Finished} (refused k us) (refused n vs) → us ≡ vs
      same_values e = cc

      by_fitted : (o : Outcome Finished) → o ≡ refused n vs → (leaves (finish_answer v) (stored lent_unmarked) lent_unmarked o).outcome ≡ refused n vs
      by_fitted (answer g) e = let never : ⊥ = cc in absurd never
      by_fitted (refused k us) e = rw (same_number e, same_values e) refl

      by_admitted : (o : Outcome Finished) → with_answer (fitted s v freed (room_in room)) o ≡ refused n vs
          → (go_on lent (λ f. leaves (finish_answer v) (stored lent_unmarked) lent_unmarked (fitted s v freed (room_in room) f)) o).outcome ≡ refused n vs
      by_admitted (answer f) e = by_fitted (fitted s v freed (room_in room) f) e
      by_admitted (refused k us) e = rw (same_number e, same_values e) refl

-- it has left the list, or carried out the plan
pub finish_cases : {s : ℕ} {v : Save} {freed : List ℕ} {f : Finished} → Succeeds s v freed f → {l : FreeList} → list_of v ≡ l
    → (Q : Finished → Type 0) (k : ℕ) → k ≡ min v.handed (length l.entries)
    → (k ≡ 0 → length freed ≡ 0 → Q (record { list = l; bump = bumped v; written = [] }))
    → (eqb k 0 && eqb (length freed) 0 ≡ false → Q (carried_out s l (plan_of (capacity s) l k freed (bumped v)))) → Q f
unfolding finished finish_list
finish_cases {s} {v} {freed} {f} done {l} of Q k e same changed =
    let is : f ≡ finish_list s l (bumped v) v.handed freed = done.is ∙ ap (λ (m : FreeList). finish_list s m (bumped v) v.handed freed) of in
    subst Q (sym is) (rw (← e) (cond_cases Q (eqb k 0 && eqb (length freed) 0) _ _ (λ t. stays (and-true (eqb k 0) _ t)) changed))
  where
    stays : (eqb k 0 ≡ true) × (eqb (length freed) 0 ≡ true) → Q (record { list = l; bump = bumped v; written = [] })
    stays t = same (eqb-true k 0 t.0) (eqb-true (length freed) 0 t.1)
