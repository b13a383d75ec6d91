-- `fill_numbers` meets its contract: the plan's new pages, behind the top page's number where one is kept.
use Rattle.std.proofs.Common.{◌≡◌, ℕ, ◌-◌, ◌≤◌, length, List, ◌∷◌}
use Rattle.std.proofs.lemmas.List.Edits.{sets}
use Rattle.finisher.specs.Steps.{Numberable, plan_for}
use Rattle.finisher.proofs.carry.fill_numbers.Goals as goal
use Prim.Native.Nat.{suc}
use mathlib.Core.Path.{ap, sym, ◌∙◌}
use native.Mathlib.Omega.{arith}
use borrow.Rule.Slice.PartMut.{put_mid}
use lib.ListN.{take, drop, set, length-set}
use Rattle.laws.proofs.SetsLaws.{part-sets}
use Rattle.preallocate.specs.declared.turns.Plan.{Plan as Counts}
use Rattle.allocator.specs.OpenSave.{Save}
use Rattle.finisher.specs.declared.judge.Work.{Work}
use Rattle.finisher.proofs.CarryLaws.{plan_is, kept_is, written_are, written_some, numbers_count}
use Rattle.finisher.proofs.NewListLaws.{numbers_none, numbers_some}

-- a first number, and others written to the part behind it
behind : (l : List ℕ) (x : ℕ) (m vs : List ℕ) → suc (length vs) ≤ length l → m ≡ sets (take (length (set l 0 x) - 1) (drop 1 (set l 0 x))) 0 vs
    → put_mid 1 (length (set l 0 x) - 1) (set l 0 x) m ≡ sets l 0 (x ∷ vs)
behind l x m vs h e = ap (put_mid 1 (length (set l 0 x) - 1) (set l 0 x)) e ∙ part-sets (set l 0 x) 1 (length (set l 0 x) - 1) vs (omega (arith, length-set l 0 x)) (omega (arith, length-set l 0 x))

-- there is a place for the first number
place : {s : ℕ} {v : Save} {freed : List ℕ} {work : Work} {numbers : List ℕ} → Numberable s v freed work numbers → 1 ≤ length numbers
place n = omega (arith, n.numbers_fit, written_are n.doable, written_some n.doable.save)

pub returns-then-work-eq0 : goal.returns-then-work-eq0
returns-then-work-eq0 c = c.new_pages.ensures ∙ ap (sets c.args.numbers.now 0) (sym (numbers_none (plan_for c.args.lent.now.page_size c.args.lent.now.save c.args.freed.now) (sym (kept_is c.requires.doable) ∙ c.if-work-eq0.true)))

pub bounds-numbers-0 : goal.bounds-numbers-0
bounds-numbers-0 c = place c.requires

pub slice_bounds-new_pages-count : goal.slice_bounds-new_pages-count
slice_bounds-new_pages-count c = simp length-set (place c.requires)

pub slice_bounds-new_pages-start : goal.slice_bounds-new_pages-start
slice_bounds-new_pages-start c = simp length-set (place c.requires)

pub returns : goal.returns
returns c =
    let t = plan_for c.args.lent.now.page_size c.args.lent.now.save c.args.freed.now in
    let some : t.kept ≡ 0 → ⊥ = λ z. c.if-work-eq0.false (kept_is c.requires.doable ∙ z) in
    let room : suc (length t.fresh) ≤ length c.args.numbers.now =
    omega (arith, c.requires.numbers_fit, written_are c.requires.doable, numbers_count c.requires.doable.save, ap length (numbers_some t some)) in
    behind c.args.numbers.now c.args.work.plan.top _ t.fresh room c.new_pages-2.ensures
    ∙ ap (sets c.args.numbers.now 0) (ap (λ (x : ℕ). x ∷ t.fresh) (ap (λ (p : Counts). p.top) (plan_is c.requires.doable)) ∙ sym (numbers_some t some))
