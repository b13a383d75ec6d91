-- A save that changes the list: the numbers of its plan stay in bounds and are those of its work, and the parts that are written make
-- the new list. From the laws of the plan. Assumes nothing.
use Prim.Native.Nat.{ℕ, zero, suc, ◌+◌, ◌*◌, ◌-◌, ◌^◌, ◌<◌, ◌≤◌}
use native.Mathlib.Nat.{mul-zero}
use native.Mathlib.Omega.{arith}
use mathlib.Core.Path.{◌≡◌, refl, ap, sym, ◌∙◌}
use mathlib.Core.Logic.{inl, inr}
use mathlib.Core.Bool.{Bool, true, false, ◌&&◌}
use mathlib.Core.List.{List, [], map, append-nil, Memᴰ}
use lib.Dec.{eqb}
use lib.ListN.{length, get_or, take, drop, length-drop}
use lib.Seq.{sets, length-take-le}
use Rattle.std.proofs.lemmas.List.{drop-take}
use Rattle.page.specs.PageSize.{capacity}
use Rattle.page.specs.Growth.{max_bump}
use Rattle.page.specs.Pages.{Write}
use Rattle.laws.proofs.SetsLaws.{take-sets, sets-kept}
use Rattle.free_list.specs.Shape.{FreeList, is_shape, is_fragmented}
use Rattle.free_list.proofs.ShapeLaws.{bounds_shape}
use Rattle.preallocate.specs.Plan.{Plan, plan_of}
use Rattle.preallocate.specs.Lists.{whole_list}
use Rattle.preallocate.specs.Counts.{counts, Poppable, Makes}
use Rattle.preallocate.specs.declared.turns.Plan.{Plan as Counts}
use Rattle.preallocate.proofs.StepsLaws.{all_kept_lem}
use Rattle.preallocate.proofs.SomeLaws.{plan_some}
use Rattle.preallocate.proofs.PlanLaws.{plan_kept, plan_left}
use Rattle.allocator.specs.OpenSave.{Save, list_of, bumped}
use Rattle.allocator.proofs.SaveLaws.{Stands, stands}
use Rattle.free_list.specs.Reading.{list_in, ListTables}
use Rattle.finisher.specs.Finish.{Finished, new_list, encoded_pages, carried_out, tables_of, finished, bytes_of_pages, with_pages, with_numbers}
use Rattle.finisher.specs.Steps.{popped, unchanged, plan_for, new_numbers, new_tables, push_list, bytes_from, Pushable, Goes, Changed, Doable}
use Rattle.finisher.specs.declared.judge.Work.{Work}
use Rattle.finisher.proofs.EncodeLaws.{length-encoded_pages}
use Rattle.finisher.proofs.FinishLaws.{pages_listed, entries_listed, list_shape, finished_same, finished_changed, bump_raised, Succeeds, Room, succeeds}
use Rattle.finisher.proofs.TablesLaws.{push_list_part}
use Rattle.finisher.proofs.PushLaws.{Pushes, plan-pushes, plan-longer, plan-few}
use Rattle.finisher.proofs.FreshLaws.{Taken, plan_fresh}
use Rattle.finisher.proofs.NewListLaws.{numbers_of_pages, length_new_numbers, length_new_pages, new_written, table_pages, table_entries}
use Rattle.finisher.proofs.NewShapeLaws.{length_pages_planned, length_entries_planned, planned_fits, planned_few}

-- what the code does with a plan's numbers stays in bounds
pub record Bounds (c P L freed : ℕ) (t : Plan) : Type 0 where
  pub kept : t.kept ≤ P
  pub left : t.left ≤ L
  pub some : 1 ≤ length t.pushed
  pub longer : freed ≤ length t.pushed
  pub few : length t.pushed - freed ≤ P
  pub enough : t.left + length t.pushed ≤ c * (t.kept + length t.fresh)
  pub tight : c * (t.kept + length t.fresh) ≤ t.left + length t.pushed + c

module _ {s : ℕ} {v : Save} {freed : List ℕ} (h : Changed s v freed) where
  -- the plan, and what is made by it
  abbrev plan : Plan
  plan = plan_for s v freed

  abbrev made : Finished
  made = finished s v freed

  pub standing : Stands s v
  standing = stands s v h.state

  many : length (list_of v).pages ≡ v.P
  many = pages_listed standing

  all : length (list_of v).entries ≡ v.L
  all = entries_listed standing

  shape : is_shape (capacity s) (length (list_of v).pages) (length (list_of v).entries) ≡ true
  shape = list_shape standing

  pub bounds : Bounds (capacity s) v.P v.L (length freed) plan
  bounds =
      let two = h.size.two_entries in
      let k = popped v in
      record {
        kept = omega (arith, plan_kept (capacity s) (list_of v) two shape k freed (bumped v), many);
        left = omega (arith, plan_left (capacity s) (list_of v) two shape k freed (bumped v), all);
        some = plan_some (capacity s) (list_of v) k freed (bumped v) (omega arith) shape (omega (arith, all)) h.changed;
        longer = plan-longer (capacity s) (list_of v) k freed (bumped v) (omega arith) shape;
        few = omega (arith, plan-few (capacity s) (list_of v) k freed (bumped v) (omega arith) shape, many);
        enough = planned_fits (capacity s) (list_of v) k freed (bumped v) two shape;
        tight = planned_few (capacity s) (list_of v) k freed (bumped v) two shape;
      }

  kept_fits : plan.kept ≤ length (list_of v).pages
  kept_fits = omega (arith, bounds.kept, many)

  left_fits : plan.left ≤ length (list_of v).entries
  left_fits = omega (arith, bounds.left, all)

  is : made ≡ carried_out s (list_of v) plan
  is = finished_changed standing freed h.changed

  -- ---- its numbers

  pub bump_planned : made.bump ≡ plan.bump
  unfolding carried_out
  bump_planned = rw is

  pub pages_count : length made.list.pages ≡ plan.kept + length plan.fresh
  unfolding carried_out
  pages_count = rw is (length_pages_planned (capacity s) (list_of v) (popped v) freed (bumped v) h.size.two_entries shape)

  pub entries_count : length made.list.entries ≡ plan.left + length plan.pushed
  unfolding carried_out
  entries_count = rw is (length_entries_planned (capacity s) (list_of v) (popped v) freed (bumped v) h.size.two_entries shape)

  written_is : made.written
      ≡ encoded_pages s made.list (plan.kept - 1) (length made.list.pages - (plan.kept - 1))
  unfolding carried_out
  written_is = rw is

  pub written_count : length made.written ≡ length made.list.pages - (plan.kept - 1)
  written_count = ap length written_is ∙ length-encoded_pages s _ (plan.kept - 1) _

  -- some page is written
  pub written_some : 1 ≤ length made.written
  written_some = omega (arith, written_count, pages_count, positive (plan.kept + length plan.fresh) bounds.enough)
    where
      positive : (n : ℕ) → plan.left + length plan.pushed ≤ capacity s * n → 1 ≤ n
      positive zero e = absurd (omega (arith, mul-zero (capacity s), bounds.some))
      positive (suc n) e = omega arith

  -- ---- its parts

  -- the number list
  pub numbers_are : map (λ (x : Write). x.number) made.written ≡ new_numbers plan
  unfolding carried_out
  numbers_are =
      let m = new_list (list_of v) plan in
      rw is
      (numbers_of_pages s m (plan.kept - 1) (length m.pages - (plan.kept - 1)) (omega (arith, length_new_pages (list_of v) plan kept_fits left_fits))
      ∙ new_written (list_of v) plan kept_fits left_fits)

  pub numbers_count : length (new_numbers plan) ≡ length made.written
  numbers_count = omega (arith, length_new_numbers (list_of v) plan kept_fits left_fits, written_count, pages_count)

  -- the push list, as it is written
  pub pushes : Pushes (capacity s) (list_of v) freed (eqb (popped v) 0 && is_fragmented (capacity s) v.P v.L)
      (v.P - (length plan.pushed - length freed)) plan
  pushes = rw (many, all) at (plan-pushes (capacity s) (list_of v) (popped v) freed (bumped v) (omega (arith, h.size.two_entries)) shape)

  pub pushes_two : eqb (popped v) 0 && is_fragmented (capacity s) v.P v.L ≡ true → v.P - (length plan.pushed - length freed) + 2 ≤ v.P
  pushes_two e = omega (arith, pushes.two e, many)

  -- the tables: the pages written behind the pages kept, the push list behind the entries left
  pub pages_written : sets v.page_table 0 made.list.pages ≡ sets v.page_table (plan.kept - 1) (new_numbers plan)
  unfolding carried_out
  pages_written =
      rw is (table_pages v.page_table v.entry_table v.P v.L plan standing.pages_fit standing.entries_fit bounds.kept bounds.left)

  pub entries_written : sets v.entry_table 0 made.list.entries ≡ sets v.entry_table plan.left plan.pushed
  unfolding carried_out
  entries_written =
      rw is (table_entries v.page_table v.entry_table v.P v.L plan standing.pages_fit standing.entries_fit bounds.kept bounds.left)

  -- the new list has the shape
  pub new_shape : is_shape (capacity s) (length made.list.pages) (length made.list.entries) ≡ true
  new_shape = rw (pages_count, entries_count) (bounds_shape (capacity s) _ _ (omega (arith, bounds.some)) bounds.tight bounds.enough)

-- ---- the work's numbers are those of the plan

-- a plan can be made of the pops and the bump of a save
pub save_poppable : {s : ℕ} {v : Save} → Stands s v → bumped v ≤ max_bump → Poppable (list_of v) (popped v) (bumped v)
save_poppable st limit = record { pops = omega (arith, entries_listed st); bumps = limit }

module _ {s : ℕ} {v : Save} {freed : List ℕ} {work : Work} (h : Doable s v freed work) where
  pub plan_is : work.plan ≡ counts (plan_for s v freed)
  plan_is = ap (λ (w : Work). w.plan) h.is ∙ rw h.save.changed

  pub pops_are : work.popped ≡ popped v
  pops_are = ap (λ (w : Work). w.popped) h.is

  pub bump_is : work.bump ≡ bumped v
  bump_is = ap (λ (w : Work). w.bump) h.is

  -- the plan can be made again
  pub poppable : Poppable (list_of v) work.popped work.bump
  poppable = rw (pops_are, bump_is) (save_poppable (standing h.save) (omega (arith, h.limit, bump_raised freed h.save.size (standing h.save))))

  -- its new pages are entries, or numbers below the bump, which was judged: so they have 32 bits
  fresh_fits : ((i : ℕ) → get_or (list_of v).entries i 0 < 2 ^ 32) → (n : ℕ) → Memᴰ n (plan_for s v freed).fresh → n < 2 ^ 32
  fresh_fits fits n m =
      go ((plan_fresh (capacity s) (list_of v) (popped v) freed (bumped v) (omega (arith, h.save.size.two_entries)) (shape h.save)).news n m)
    where
      go : Taken (list_of v) (popped v) (bumped v) (plan_for s v freed) n → n < 2 ^ 32
      go (inl (i, _, below, e)) = rw e (fits i)
      go (inr (_, below)) = omega (arith, below, bump_planned h.save, h.limit)

  pub named_again : ((i : ℕ) → get_or (list_of v).entries i 0 < 2 ^ 32) → {before : List ℕ} {r : Counts} {after : List ℕ}
      → Makes (plan_of (capacity s) (list_of v) work.popped freed work.bump) before r after → after ≡ sets before 0 (plan_for s v freed).fresh
  named_again fits {before} m = (rw (pops_are, bump_is) at m).named ∙ ap (sets before 0) (all_kept_lem (plan_for s v freed).fresh (fresh_fits fits))

  pub kept_is : work.plan.pages ≡ (plan_for s v freed).kept
  kept_is = ap (λ (p : Counts). p.pages) plan_is

  left_is : work.plan.entries ≡ (plan_for s v freed).left
  left_is = ap (λ (p : Counts). p.entries) plan_is

  pub pushed_is : work.plan.pushed ≡ length (plan_for s v freed).pushed
  pushed_is = ap (λ (p : Counts). p.pushed) plan_is

  pages_are : work.pages ≡ length (finished s v freed).list.pages
  pages_are = ap (λ (w : Work). w.pages) h.is

  entries_are : work.entries ≡ length (finished s v freed).list.entries
  entries_are = ap (λ (w : Work). w.entries) h.is

  pub written_are : work.written ≡ length (finished s v freed).written
  written_are = ap (λ (w : Work). w.written) h.is

  -- the new list has room in the tables
  pub tables_room : (work.pages ≤ length v.page_table) × (work.entries ≤ length v.entry_table)
  tables_room = (omega (arith, pages_are, h.pages_fit), omega (arith, entries_are, h.entries_fit))

  -- ---- what is written

  -- the pages released are those from page `low` on
  abbrev low : ℕ
  low = v.P - (work.plan.pushed - length freed)

  abbrev released : List ℕ
  released = take (v.P - low) (drop low v.page_table)

  released_is : released ≡ drop low (take v.P v.page_table)
  released_is = let e : low + (v.P - low) ≡ v.P = omega arith in rw (← drop-take low (v.P - low) v.page_table, e)

  length-released : length released ≡ v.P - low
  length-released = length-take-le (v.P - low) (drop low v.page_table) (omega (arith, length-drop low v.page_table, (standing h.save).pages_fit))

  -- the push list has room behind the entries left
  pub pushable : {mended : Bool} → mended ≡ eqb work.popped 0 && is_fragmented (capacity s) v.P v.L
      → Pushable freed released mended v.entry_table work.plan.entries
  pushable m =
      let b = bounds h.save in
      record {
        entries_fit = omega (arith, length-released, b.longer, b.few, h.entries_fit, entries_count h.save, left_is, pushed_is);
        two = λ e. let two = rw (← pushed_is) at (pushes_two h.save (rw (← pops_are) (sym m ∙ e))) in omega (arith, length-released, two);
      }

  pub entries_carried : {mended : Bool} {r : List ℕ} → mended ≡ eqb work.popped 0 && is_fragmented (capacity s) v.P v.L
      → r ≡ sets v.entry_table work.plan.entries (push_list freed mended released 0) → r ≡ (new_tables s v freed).entries
  entries_carried {mended} m e =
      e ∙ ap (sets v.entry_table work.plan.entries) (push_list_part freed mended (take v.P v.page_table) low released_is)
      ∙ rw (m, pops_are, pushed_is, left_is, ← (pushes h.save).list) (sym (entries_written h.save))

  -- the numbers of the pages written have room behind the pages kept
  pub pages_room : work.plan.pages - 1 + work.written ≤ length v.page_table
  pages_room = omega (arith, kept_is, written_are, written_count h.save, pages_count h.save, h.pages_fit)

  pub pages_carried : (numbers : List ℕ) {first : ℕ} {r : List ℕ} → first ≡ work.plan.pages - 1 → take work.written numbers ≡ new_numbers (plan_for s v freed)
      → r ≡ sets v.page_table first (take work.written numbers) → r ≡ (new_tables s v freed).pages
  pages_carried numbers f n e = e ∙ rw (f, n, kept_is) (sym (pages_written h.save))

  -- the number list
  pub numbers_filled : (numbers : List ℕ) {r : List ℕ} → work.written ≤ length numbers → r ≡ sets numbers 0 (new_numbers (plan_for s v freed))
      → take work.written r ≡ new_numbers (plan_for s v freed)
  numbers_filled numbers fit e =
      rw (e, written_are, ← numbers_count h.save) (take-sets numbers (new_numbers (plan_for s v freed)) (omega (arith, numbers_count h.save, written_are)))

  pub numbers_carried : (numbers : List ℕ) {r : List ℕ} → r ≡ sets numbers 0 (new_numbers (plan_for s v freed)) → r ≡ sets numbers 0 (map (λ (w : Write). w.number) (finished s v freed).written)
  numbers_carried numbers e = e ∙ ap (sets numbers 0) (sym (numbers_are h.save))

  -- the pages, from the tables with the new list
  module _ {t : ListTables} (is-new : t ≡ new_tables s v freed) where
    pub list_is : whole_list (take work.pages t.pages) (take work.entries t.entries) ≡ (finished s v freed).list
    list_is =
        let m = (finished s v freed).list in
        let p : take work.pages t.pages ≡ m.pages = rw (is-new, pages_are) (take-sets v.page_table m.pages h.pages_fit) in
        let q : take work.entries t.entries ≡ m.entries = rw (is-new, entries_are) (take-sets v.entry_table m.entries h.entries_fit) in
        λ i. record { pages = p i; entries = q i }

    pub shape_is : is_shape (capacity s) (length (take work.pages t.pages)) (length (take work.entries t.entries)) ≡ true
    shape_is = ap (λ (m : FreeList). is_shape (capacity s) (length m.pages) (length m.entries)) list_is ∙ new_shape h.save

  module _ {first : ℕ} (f : first ≡ work.plan.pages - 1) {m : FreeList} (new : m ≡ (finished s v freed).list) where
    -- they have room in the buffer
    pub encodable : {bytes_lent : ℕ} → s * work.written ≤ bytes_lent
        → (first ≤ length m.pages) × (s * (length m.pages - first) ≤ bytes_lent)
    encodable fit = rw new (omega (arith, f, kept_is, pages_count h.save), rw (f, kept_is, ← written_count h.save, ← written_are) fit)

    pub buffer-carried : (buffer : List ℕ) {r : List ℕ}
        → r ≡ sets buffer 0 (bytes_from s m first (length m.pages - first)) → r ≡ sets buffer 0 (bytes_of_pages (finished s v freed).written)
    buffer-carried buffer e =
        e ∙ ap (λ (ws : List Write). sets buffer 0 (bytes_of_pages ws)) (rw (new, f, kept_is) (sym (written_is h.save)))

-- ---- a finish that answers

module _ {s : ℕ} {v : Save} {freed : List ℕ} {work : Work} {buffer numbers : List ℕ} (g : Goes s v freed work buffer numbers) where
  did : Succeeds s v freed (finished s v freed) × Room s v (finished s v freed) (record { bytes = length buffer; numbers = length numbers; map = g.map })
  did = succeeds s v freed (record { bytes = length buffer; numbers = length numbers; map = g.map }) (finished s v freed) g.answers

  work-written : work.written ≡ length (finished s v freed).written
  work-written = ap (λ (w : Work). w.written) g.is

  pub bytes_enough : s * work.written ≤ length buffer
  bytes_enough = rw work-written did.1.bytes

  pub numbers_enough : work.written ≤ length numbers
  numbers_enough = omega (arith, work-written, did.1.numbers)

  changed_of : unchanged v freed ≡ false → Changed s v freed
  changed_of e = record { size = g.size; state = did.0.state; changed = e }

  -- where some page is written the list changes
  pub goes_doable : (work.written ≡ 0 → ⊥) → Doable s v freed work
  goes_doable some = go (unchanged v freed) refl
    where
      go : (q : Bool) → unchanged v freed ≡ q → Doable s v freed work
      go true e = absurd (some (work-written ∙ rw (finished_same did.0.stands freed e)))
      go false e =
          record {
            save = changed_of e;
            is = g.is;
            limit = did.0.limit;
            pages_fit = did.1.pages;
            entries_fit = did.1.entries;
          }

  -- where none is, nothing does
  same : work.written ≡ 0 → finished s v freed ≡ record { list = list_of v; bump = bumped v; written = [] }
  same none = go (unchanged v freed) refl
    where
      go : (q : Bool) → unchanged v freed ≡ q → finished s v freed ≡ record { list = list_of v; bump = bumped v; written = [] }
      go true e = finished_same did.0.stands freed e
      go false e = absurd (omega (arith, written_some (changed_of e), work-written, none))

  filled : (l : List ℕ) (n : ℕ) → n ≤ length l → sets l 0 (take n l) ≡ l
  filled l n h = ap (sets l 0) (sym (append-nil (take n l))) ∙ sets-kept l n [] h

  pub same-tables : work.written ≡ 0 → tables_of v ≡ list_in (tables_of v) (finished s v freed).list
  same-tables none = rw (same none, filled v.page_table v.P did.0.stands.pages_fit, filled v.entry_table v.L did.0.stands.entries_fit)

  pub same-buffer : work.written ≡ 0 → buffer ≡ with_pages buffer (finished s v freed)
  unfolding bytes_of_pages
  same-buffer none = rw (same none)

  pub same-numbers : work.written ≡ 0 → numbers ≡ with_numbers numbers (finished s v freed)
  same-numbers none = rw (same none)
