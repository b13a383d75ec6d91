-- `write_tables` meets its contract: the push list behind the entries left and the numbers behind the pages kept make the new list.
use Rattle.std.proofs.Common.{◌≡◌, ◌≤◌, length, ℕ, ◌-◌, ◌*◌, Bool}
use Rattle.finisher.proofs.carry.write_tables.Goals as goal
use mathlib.Core.Path.{ap, ◌∙◌}
use mathlib.Core.Bool.{◌&&◌}
use native.Mathlib.Omega.{arith}
use lib.Dec.{eqb}
use lib.ListN.{take, length-take}
use Rattle.page.specs.PageSize.{capacity}
use Rattle.free_list.specs.Shape.{is_fragmented}
use Rattle.free_list.proofs.ShapeLaws.{shaped}
use Rattle.finisher.proofs.CarryLaws.{standing, bounds, pushed_is, pushable, entries_carried, pages_room, pages_carried}

-- the test of the mended list, at the capacity
mended_is : (s popped P L : ℕ) {c : ℕ} {mended : Bool} → c ≡ capacity s → mended ≡ eqb popped 0 && is_fragmented c P L
    → mended ≡ eqb popped 0 && is_fragmented (capacity s) P L
mended_is s popped P L capped tested = tested ∙ ap (λ (k : ℕ). eqb popped 0 && is_fragmented k P L) capped

pub mends-mended-requires : goal.mends-mended-requires
mends-mended-requires c =
    let st = standing c.requires.fillable.doable.save in
    omega (arith, c, st.entries_fit, (shaped _ _ _ st.shape).under, ap (λ (k : ℕ). k * (c.args.save.start.pages - 1)) c.max_pns_per_page-c.ensures.entries)

pub overflow_sub-low : goal.overflow_sub-low
overflow_sub-low c = let h = c.requires.fillable.doable in omega (arith, (bounds h.save).longer, pushed_is h)

pub overflow_sub-low-2 : goal.overflow_sub-low-2
overflow_sub-low-2 c = let h = c.requires.fillable.doable in omega (arith, (bounds h.save).few, pushed_is h)

pub write_pushes-requires : goal.write_pushes-requires
write_pushes-requires c = pushable c.requires.fillable.doable (mended_is c.args.page_size c.args.work.popped c.args.save.start.pages c.args.save.start.entries c.max_pns_per_page-c.ensures.entries c.mends-mended.ensures)

pub offset_bounds-pages-low : goal.offset_bounds-pages-low
offset_bounds-pages-low c = omega (arith, c, (standing c.requires.fillable.doable.save).pages_fit)

pub slice_bounds-released-end : goal.slice_bounds-released-end
slice_bounds-released-end c = (standing c.requires.fillable.doable.save).pages_fit

pub copy-requires : goal.copy-requires
copy-requires c =
    let few : length (take c.args.work.written c.args.numbers.now) ≤ c.args.work.written = omega (arith, length-take c.args.work.written c.args.numbers.now) in
    omega (arith, few, pages_room c.requires.fillable.doable, c.saturating_sub-first.ensures)

pub returns : goal.returns
returns c =
    let pages = pages_carried c.requires.fillable.doable c.args.numbers.now c.saturating_sub-first.ensures c.requires.numbers_are c.copy.ensures in
    let entries = entries_carried c.requires.fillable.doable (mended_is c.args.page_size c.args.work.popped c.args.save.start.pages c.args.save.start.entries c.max_pns_per_page-c.ensures.entries c.mends-mended.ensures) c.write_pushes.ensures in
    λ i. record { pages = pages i; entries = entries i }
