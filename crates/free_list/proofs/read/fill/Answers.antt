use Rattle.std.proofs.Common.{◌≡◌, length, ℕ, ◌+◌, ◌-◌, ◌*◌, ◌<◌, ◌≤◌, List, take, drop}
use Rattle.free_list.proofs.read.fill.Goals as goal
use Rattle.free_list.proofs.read.fill.Goals.{After-from-n}
use mathlib.Core.Path.{sym, ap, subst, ◌∙◌}
use native.Mathlib.Omega.{arith}
use borrow.Rule.Slice.PartMut.{put_mid}
use lib.ListN.{set, length-drop}
use lib.Seq.{sets, length-take-le}
use Rattle.std.proofs.lemmas.List.{map-id}
use Rattle.laws.proofs.SetsLaws.{part-written}
use Rattle.page.specs.Bytes.{numbers_at}
use Rattle.page.specs.PageSize.{capacity}
use Rattle.page.specs.Pages.{page_at}
use Rattle.page.proofs.BytesLaws.{length-numbers_at}
use Rattle.page.proofs.PageSizeLaws.{page_least}
use Rattle.page.proofs.PagesLaws.{page_within_lem, length-page_at}
use Rattle.free_list.specs.ListPages.{count_of, entries_of, prev_within, count_within}
use Rattle.free_list.proofs.ListPagesLaws.{prev_within_lem, count_within_lem}
use Rattle.free_list.proofs.FillingLaws.{Filling, filled, filling_done}

-- the page that is written next: its bytes are b, n its count, and its entries go to a part of the table
module _ (entries : List ℕ) (at n : ℕ) where
  abbrev part : List ℕ
  part = take (at - n + n - (at - n)) (drop (at - n) entries)

  abbrev with_part : List ℕ → List ℕ
  with_part written = put_mid (at - n) (at - n + n - (at - n)) entries written

record Page (s : ℕ) (store pages₀ entries₀ : List ℕ) (head left₀ : ℕ) (pages entries : List ℕ) (page left at n : ℕ) (b : List ℕ) : Type 0 where
  enough : n ≤ at
  long : length (part entries at n) ≡ n
  room : 6 + 4 * length (part entries at n) ≤ length b
  next : (q : ℕ) (written : List ℕ) → written ≡ numbers_at 4 b 6 (length (part entries at n)) → q ≡ prev_within b
      → Filling s store pages₀ entries₀ head left₀ (set pages (left - 1) page) (with_part entries at n written) q (left - 1) (at - n)

the_page : {s : ℕ} {store pages₀ entries₀ : List ℕ} {head left₀ : ℕ} {pages entries : List ℕ} {page left at n : ℕ} {b : List ℕ}
    → 0 < left → Filling s store pages₀ entries₀ head left₀ pages entries page left at → b ≡ page_at s store page → n ≡ count_within b
    → Page s store pages₀ entries₀ head left₀ pages entries page left at n b
unfolding capacity entries_of
the_page {s} {store} {pages₀} {entries₀} {head} {left₀} {pages} {entries} {page} {left} {at} {n} {b} some f bytes header =
    let this = filled s store pages₀ entries₀ head left₀ pages entries page left at some f in
    let least = page_least f.size in
    let size : length b ≡ s = ap length bytes ∙ length-page_at s store page (page_within_lem s store page (omega (arith, least)) this.inside) in
    let whole : 6 ≤ length b = omega (arith, size) in
    let count : n ≡ count_of b = header ∙ count_within_lem b whole in
    let same : n ≡ count_of (page_at s store page) = count ∙ ap count_of bytes in
    let enough : n ≤ at = omega (arith, this.enough) in
    let width : at - n + n - (at - n) ≡ n = omega arith in
    let long : length (part entries at n) ≡ n = rw width (length-take-le n (drop (at - n) entries) (omega (arith, length-drop (at - n) entries, f.entries_fit))) in
    record {
      enough = enough;
      long = long;
      room = omega (arith, long, size, this.few);
      next = λ q written e before.
          let read : written ≡ numbers_at 4 b 6 n = e ∙ ap (numbers_at 4 b 6) long in
          let put : with_part entries at n written ≡ sets entries (at - n) written =
          ap (λ (k : ℕ). put_mid (at - n) k entries written) width ∙ part-written entries (at - n) n written (ap length read ∙ length-numbers_at 4 b 6 n) (omega (arith, f.entries_fit)) in
          subst (λ (es : List ℕ). Filling s store pages₀ entries₀ head left₀ (set pages (left - 1) page) es q (left - 1) (at - n)) (sym put)
          (rw (read, before, prev_within_lem b whole, count, bytes) this.next);
    }

reached : (c : After-from-n) → Page c.args.store.now.page_size c.args.store.now.bytes c.args.tables.pages.now c.args.tables.entries.now c.args.head c.args.list.pages c.loop-left.pages c.loop-left.entries c.loop-left.page c.loop-left.left c.loop-left.at c.from-n.result c.page-bytes.result.now
reached c = the_page c.loop-left-test.true c.loop-left.invariant c.page-bytes.ensures (c.from-n.ensures ∙ c.item_count.ensures ∙ ap (λ r. count_within r.now) c.new-list_page.ensures)

pub overflow_sub-at : goal.overflow_sub-at
overflow_sub-at c = (reached (goal.at.overflow_sub-at c).After-from-n).enough

pub slice_bounds-read_numbers-end : goal.slice_bounds-read_numbers-end
slice_bounds-read_numbers-end c = omega (arith, (reached c).enough, c.loop-left.invariant.entries_fit)

pub read_numbers-requires : goal.read_numbers-requires
read_numbers-requires c = (reached (goal.at.read_numbers-requires c).After-from-n).room

pub loop-left-preserved : goal.loop-left-preserved
loop-left-preserved c =
    (reached (goal.at.loop-left-preserved c).After-from-n).next _ _ (rw map-id at c.read_numbers.ensures) (c.prev_pn-page.ensures ∙ ap (λ r. prev_within r.now) c.new-list_page.ensures)

pub returns : goal.returns
returns c = filling_done c.loop-left.invariant (omega arith)
