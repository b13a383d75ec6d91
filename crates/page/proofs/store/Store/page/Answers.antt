-- `page` meets its contract: a page below the page count lies in the store.
use Rattle.std.proofs.Common.{◌≡◌, ◌+◌, ◌-◌, ◌*◌, ◌<◌, ◌≤◌, length}
use mathlib.Core.Path.{subst, sym}
use Rattle.page.specs.Pages.{page_at, page_count}
use Rattle.page.proofs.PageSizeLaws.{page_least}
use Rattle.page.proofs.PagesLaws.{page_within_lem}
use Rattle.page.proofs.store.Store.page.Goals as goal
use native.Mathlib.Omega.{arith}

pub slice_bounds-result-end : goal.slice_bounds-result-end
slice_bounds-result-end c =
    let v = c.self.inside in
    let s = c.bytes-size.result in
    let below : c.args.page < page_count v.page_size v.bytes.now = subst (λ w. c.args.page < page_count w.page_size w.bytes) (sym c.self.view_is) c.requires in
    let inside : s * c.args.page + s ≤ length v.bytes.now =
    page_within_lem s v.bytes.now c.args.page (omega (arith, page_least c.bytes-size.ensures.size)) (rw (← c.bytes-size.ensures.bytes) at below) in
    omega arith

pub returns : goal.returns
unfolding page_at
returns c =
    let s = c.bytes-size.result in
    let e : s * c.args.page + s - s * c.args.page ≡ s = omega arith in
    rw (e, c.bytes-size.ensures.bytes, ← c.self.view_is)
