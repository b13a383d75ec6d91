-- A walk that comes back to a page it has passed, passing on its way only pages that fit wherever they stand, goes round until no page is allowed.
use Prim.Native.Nat.{ℕ, zero, suc, ◌+◌, ◌-◌, ◌≤◌}
use native.Mathlib.Omega.{arith}
use mathlib.Core.Path.{◌≡◌, refl, sym, ap, ◌∙◌, subst}
use mathlib.Core.Bool.{Bool, true, false}
use mathlib.Core.List.{List, []}
use lib.Dec.{eqb}
use borrow.Author.Tests.{lt-ltb, ne_eqb, eqb-true}
use Rattle.refusal.specs.Outcome.{refused}
use Rattle.std.specs.Prelude.{Option, Some, None}
use Rattle.std.specs.Option.{option_eq}
use Rattle.page.specs.PageSize.{capacity}
use Rattle.page.specs.Pages.{page_count, page_at}
use Rattle.free_list.specs.ListPages.{prev_of, count_of}
use Rattle.free_list.specs.Reading.{count_fits, read_from}
use Rattle.free_list.specs.Steps.{size_from, Passable, Trail, Marked, Passed}
use Rattle.free_list.specs.declared.walk.Walk.{Walk}
use Rattle.free_list.proofs.ReadingLaws.{read_from-page}

-- below the second page of a list the place of a page does not matter
pub fits_deep : (loose : Bool) (c above entries n : ℕ) → 2 ≤ above → count_fits loose c above entries n ≡ count_fits loose c 2 0 n
unfolding count_fits
fits_deep true c above entries n h = refl
fits_deep false c above entries n h = rw (ne_eqb above 0 (omega arith), ne_eqb above 1 (omega arith))

module _ (s : ℕ) (store : List ℕ) (loose : Bool) where
  -- one page more
  pub trail_more : (n p q : ℕ) → Trail s store loose n p q → Passable s store loose q → Trail s store loose (suc n) p (prev_of (page_at s store q))
  trail_more zero p q t w = (subst (Passable s store loose) (sym t) w, ap (λ (x : ℕ). prev_of (page_at s store x)) t)
  trail_more (suc n) p q t w = (t.0, trail_more n (prev_of (page_at s store p)) q t.1 w)

  -- reading from such a page, where the page under it is refused with 5
  passable_chain : (allowed above entries p : ℕ) → 1 ≤ allowed → Passable s store loose p
      → read_from s store loose (allowed - 1) (above + 1) (entries + count_of (page_at s store p)) (prev_of (page_at s store p)) ≡ refused 5 []
      → 2 ≤ above → read_from s store loose allowed above entries p ≡ refused 5 []
  passable_chain allowed above entries p more w under h =
      read_from-page s store loose allowed above entries p more w.some
      ∙ rw (lt-ltb p (page_count s store) w.inside, fits_deep loose (capacity s) above entries (count_of (page_at s store p)) h, w.fits, w.entries_fit, under)

  -- with no page allowed
  none_left : (above entries p : ℕ) → 1 ≤ p → read_from s store loose 0 above entries p ≡ refused 5 []
  unfolding read_from
  none_left above entries zero h = absurd (omega arith)
  none_left above entries (suc p) h = refl

  -- one page fewer is allowed
  fewer : (a above entries p : ℕ) → read_from s store loose a above entries p ≡ refused 5 [] → read_from s store loose (suc a - 1) above entries p ≡ refused 5 []
  fewer a above entries p e = let one : suc a - 1 ≡ a = omega arith in rw one e

  -- A page from which a walk comes back to it by such pages is on a chain that does not end, and so is every page on the way.
  module _ (n p : ℕ) (round : Trail s store loose (suc n) p p) where
    on_the_way : (allowed m q above entries : ℕ) → Trail s store loose m q p → 2 ≤ above → read_from s store loose allowed above entries q ≡ refused 5 []
    on_the_way zero zero q above entries t h = none_left above entries q (rw t round.0.some)
    on_the_way zero (suc m) q above entries t h = none_left above entries q t.0.some
    on_the_way (suc allowed) zero q above entries t h =
        subst (λ (x : ℕ). read_from s store loose (suc allowed) above entries x ≡ refused 5 []) (sym t)
        (passable_chain (suc allowed) above entries p (omega arith) round.0 (fewer allowed _ _ _ (on_the_way allowed n (prev_of (page_at s store p)) (above + 1) (entries + count_of (page_at s store p)) round.1 (omega arith))) h)
    on_the_way (suc allowed) (suc m) q above entries t h =
        passable_chain (suc allowed) above entries q (omega arith) t.0 (fewer allowed _ _ _ (on_the_way allowed m (prev_of (page_at s store q)) (above + 1) (entries + count_of (page_at s store q)) t.1 (omega arith))) h

  -- ---- the code's walk

  -- a walk that has come back to its mark
  pub size_round : (w n : Walk) (mark : Option ℕ) → Marked s store loose mark w → Passed s store loose w n → option_eq eqb mark (Some n.page) ≡ true → refused 5 [] ≡ size_from s store loose n
  unfolding size_from
  size_round w n None marked p e = cc
  size_round w n (Some mark) (k, deep, trail) p e =
      let same : mark ≡ n.page = eqb-true mark n.page e in
      let round : Trail s store loose (suc k) mark mark =
      subst (λ (x : ℕ). Trail s store loose (suc k) mark x) (sym p.before ∙ sym same) (trail_more k mark w.page trail (p.passable deep)) in
      let ends = on_the_way k mark round n.allowed (suc k) mark n.pages n.entries round (omega (arith, p.more)) in
      rw (← same, ends)

  -- a walk that goes on
  pub marked_next : (w n : Walk) (mark : Option ℕ) → Marked s store loose mark w → Passed s store loose w n → Marked s store loose mark n
  marked_next w n None marked p = tt
  marked_next w n (Some mark) (k, deep, trail) p =
      (suc k, omega (arith, p.more), subst (λ (x : ℕ). Trail s store loose (suc k) mark x) (sym p.before) (trail_more k mark w.page trail (p.passable deep)))
