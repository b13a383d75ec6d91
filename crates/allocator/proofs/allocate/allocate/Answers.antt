-- `allocate`: its tests are the definition's, in order; the state bounds what is read and added.
use Rattle.std.proofs.Common.{◌+◌, ◌<◌, get_or, ◌≡◌, ℕ, ◌-◌, Bool, true}
use Rattle.allocator.proofs.allocate.allocate.Goals as goal
use Prim.Native.Nat.{suc}
use mathlib.Core.Path.{sym, ◌∙◌}
use native.Mathlib.Numerals.{add-one}
use native.Mathlib.Omega.{arith}
use Rattle.refusal.specs.Outcome.{answer}
use Rattle.refusal.specs.Effect.{effect}
use Rattle.allocator.specs.OpenSave.{Save, state_fits, count_up}
use Rattle.allocator.specs.Answers.{SizedSave}
use Rattle.allocator.proofs.SaveLaws.{stands, refused_state, handed-listed, refused-limit, handed-past}

-- the state of the save, where the test said that it stands
standing : {m w : SizedSave} {fits : Bool} → m ≡ w → fits ≡ state_fits w.page_size w.save → fits ≡ true → state_fits m.page_size m.save ≡ true
standing e tested is = rw (← e) at (sym tested ∙ is)

-- an entry is handed out: the one at this place
listed : (s : ℕ) (v : Save) → state_fits s v ≡ true → v.handed < v.L → {place : ℕ} → place ≡ v.L - suc v.handed
    → effect (answer (get_or v.entry_table place 0)) (record { handed = v.handed + 1; recorded = v.recorded }) ≡ count_up s v
listed s v state h e = rw (e, add-one) (handed-listed s v state h)

pub returns-then-not-state_fits : goal.returns-then-not-state_fits
returns-then-not-state_fits c = refused_state _ _ (sym c.state_fits.ensures ∙ c.if-not-state_fits.true)

pub offset_bounds-entries-last : goal.offset_bounds-entries-last
offset_bounds-entries-last c = let h = stands _ _ (standing c.lent.view_is c.state_fits.ensures c.if-not-state_fits.false) in omega (arith, c)

pub bounds-entries-last : goal.bounds-entries-last
bounds-entries-last c = let h = stands _ _ (standing c.lent.view_is c.state_fits.ensures c.if-not-state_fits.false) in omega arith

pub returns-then-handed-start : goal.returns-then-handed-start
returns-then-handed-start c =
    rw (← c.lent.view_is, c.counted_up.ensures)
    (listed _ _ (standing c.lent.view_is c.state_fits.ensures c.if-not-state_fits.false) c.if-handed-start.true (omega arith))

pub overflow_sub-room : goal.overflow_sub-room
overflow_sub-room c = (stands _ _ (standing c.lent.view_is c.state_fits.ensures c.if-not-state_fits.false)).most

pub returns-then-room-past : goal.returns-then-room-past
returns-then-room-past c =
    let state = standing c.lent.view_is c.state_fits.ensures c.if-not-state_fits.false in
    rw (← c.lent.view_is) (refused-limit _ _ state c.if-handed-start.false (omega (arith, (stands _ _ state).most)))

pub counted_up-requires-2 : goal.counted_up-requires-2
counted_up-requires-2 c = let h = stands _ _ (standing c.lent.view_is c.state_fits.ensures c.if-not-state_fits.false) in omega arith

pub returns : goal.returns
returns c =
    let state = standing c.lent.view_is c.state_fits.ensures c.if-not-state_fits.false in
    rw (← c.lent.view_is, c.counted_up-2.ensures, c.recorded_for.ensures, add-one)
    (handed-past _ _ state c.if-handed-start.false (omega (arith, (stands _ _ state).most)))
