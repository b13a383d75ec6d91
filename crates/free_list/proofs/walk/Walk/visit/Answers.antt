-- `visit` meets its contract: its tests are those of the definition, in order.
use Rattle.std.proofs.Common.{◌≡◌, ◌+◌, ◌*◌, ◌<◌, ◌≤◌, length, ℕ, ◌-◌, Bool, true, false, List, [], ◌∷◌, Ok}
use Rattle.page.specs.Bytes.{numbers_at}
use Rattle.free_list.specs.Reading.{is_loose, count_fits, all_entries_fit}
use Rattle.free_list.specs.Steps.{MayVisit, Visits}
use Rattle.free_list.proofs.walk.Walk.visit.Goals as goal
use Rattle.free_list.proofs.walk.Walk.visit.Goals.{After-count_fits, After-entries_fit}
use mathlib.Core.Path.{refl, sym, ◌∙◌, ap}
use native.Mathlib.Omega.{arith}
use Rattle.refusal.specs.Outcome.{refused}
use Rattle.page.specs.PageSize.{capacity}
use Rattle.page.specs.Pages.{page_count, page_at}
use Rattle.page.proofs.PageSizeLaws.{page_least}
use Rattle.page.proofs.PagesLaws.{page_within_lem, length-page_at}
use Rattle.free_list.specs.ListPages.{prev_of, count_of, entries_of, prev_within, count_within}
use Rattle.free_list.specs.Steps.{size_from}
use Rattle.free_list.specs.declared.walk.Walk.{Walk}
use Rattle.free_list.proofs.ListPagesLaws.{prev_within_lem, count_within_lem}
use Rattle.free_list.proofs.ReadingLaws.{count_fits-small, size_chain, size_past, size-count, size-entry, size-next}
use Rattle.free_list.proofs.RoundLaws.{fits_deep}

-- what is known once the count was tested: b are the bytes of the page, n its count, and `fits` the answer of the test
record Counted (s : ℕ) (store : List ℕ) (loose : Bool) (most : ℕ) (w : Walk) (b : List ℕ) (n : ℕ) (fits : Bool) : Type 0 where
  may : MayVisit s most w
  allowed : 1 ≤ w.allowed
  inside : w.page < page_count s store
  bytes : b ≡ page_at s store w.page
  long : length b ≡ s
  counted : n ≡ count_of b
  tested : count_fits loose (capacity s) w.pages w.entries (count_of (page_at s store w.page)) ≡ fits

counted : {s : ℕ} {store : List ℕ} {loose : Bool} {most : ℕ} {w : Walk} {b : List ℕ} {n : ℕ} {fits : Bool} → MayVisit s most w → (w.allowed ≡ 0 → ⊥) → w.page < page_count s store
    → b ≡ page_at s store w.page → n ≡ count_within b → fits ≡ count_fits loose most w.pages w.entries n → Counted s store loose most w b n fits
counted {s} {store} {loose} {most} {w} {b} {n} may some inside bytes header tested =
    let long = ap length bytes ∙ length-page_at s store w.page (page_within_lem s store w.page (omega (arith, page_least may.size)) inside) in
    let counts : n ≡ count_of b = header ∙ count_within_lem b (omega (arith, page_least may.size)) in
    record { may = may; allowed = omega (arith, some); inside = inside; bytes = bytes; long = long; counted = counts; tested = sym (tested ∙ rw (may.capped, counts, bytes)) }

module _ {s : ℕ} {store : List ℕ} {loose : Bool} {most : ℕ} {w : Walk} {b : List ℕ} {n : ℕ} {fits : Bool} (f : Counted s store loose most w b n fits) where
  count-unfit : fits ≡ false → refused 3 (w.page ∷ []) ≡ size_from s store loose w
  count-unfit e = size-count s store loose w f.allowed f.may.some f.inside (f.tested ∙ e)

  small : fits ≡ true → n ≤ capacity s
  small e = rw (f.counted, f.bytes) (count_fits-small loose (capacity s) w.pages w.entries _ (f.tested ∙ e))

  room : fits ≡ true → 6 + 4 * n ≤ length b
  unfolding capacity
  room e = omega (arith, small e, f.long, page_least f.may.size)

  few : fits ≡ true → n < 65536
  unfolding capacity
  few e = omega (arith, small e, f.may.size.limit)

  module _ (fit : fits ≡ true) {entries : Bool} (listed : entries ≡ all_entries_fit (page_count s store) (numbers_at 4 b 6 n)) where
    entries_of_lem : {r : Bool} → entries ≡ r → all_entries_fit (page_count s store) (entries_of (page_at s store w.page)) ≡ r
    unfolding entries_of
    entries_of_lem e = rw (← f.bytes, ← f.counted) (sym listed ∙ e)

    entry-unfit : entries ≡ false → refused 4 (w.page ∷ []) ≡ size_from s store loose w
    entry-unfit e = size-entry s store loose w f.allowed f.may.some f.inside (f.tested ∙ fit) (entries_of_lem e)

    -- the page is passed
    next : {q : ℕ} → q ≡ prev_within b → entries ≡ true
        → Visits s store loose w (Ok (record { page = q; allowed = w.allowed - 1; pages = w.pages + 1; entries = w.entries + n }))
    unfolding capacity
    next before e =
        let under = before ∙ prev_within_lem b (omega (arith, f.long, page_least f.may.size)) ∙ ap prev_of f.bytes in
        record {
          size = rw (under, f.counted, f.bytes) (size-next s store loose w f.allowed f.may.some f.inside (f.tested ∙ fit) (entries_of_lem e));
          advanced =
              record {
                fewer = omega (arith, f.allowed);
                fits = record { few = omega (arith, f.may.fits.few, f.allowed); few_entries = omega (arith, f.may.fits.few_entries, small fit, f.may.size.limit) };
                more = refl;
                before = under;
                passable = λ h. record { some = f.may.some; inside = f.inside; fits = sym (fits_deep loose (capacity s) w.pages w.entries _ h) ∙ f.tested ∙ fit; entries_fit = entries_of_lem e };
              };
        }

pub returns-then-self-eq0 : goal.returns-then-self-eq0
returns-then-self-eq0 c = record { size = size_chain _ _ _ _ c.if-self-eq0.true (λ e. omega (arith, c.requires.some, e)); advanced = tt }

pub returns-then-count-page : goal.returns-then-count-page
returns-then-count-page c =
    record { size = size_past _ _ _ _ (omega (arith, c.if-self-eq0.false)) c.requires.some (omega (arith, c.page_count-count.ensures, c.if-count-page.true)); advanced = tt }

tested : (c : After-count_fits) → Counted c.args.store.now.page_size c.args.store.now.bytes (is_loose c.args.reading) c.args.most c.args.self c.page-bytes.result.now c.from-n.result c.count_fits.result
tested c =
    counted c.requires c.if-self-eq0.false (omega (arith, c.page_count-count.ensures, c.if-count-page.false)) c.page-bytes.ensures
    (c.from-n.ensures ∙ c.item_count.ensures ∙ ap (λ r. count_within r.now) c.new-list_page.ensures) c.count_fits.ensures

listed : (c : After-entries_fit) → c.entries_fit.result ≡ all_entries_fit (page_count c.args.store.now.page_size c.args.store.now.bytes) (numbers_at 4 c.page-bytes.result.now 6 c.from-n.result)
listed c = c.entries_fit.ensures ∙ rw c.page_count-count.ensures

pub returns-then-not-count_fits : goal.returns-then-not-count_fits
returns-then-not-count_fits c = record { size = count-unfit (tested (goal.at.returns-then-not-count_fits c).After-count_fits) c.if-not-count_fits.true; advanced = tt }

pub entries_fit-requires : goal.entries_fit-requires
entries_fit-requires c =
    let f = tested (goal.at.entries_fit-requires c).After-count_fits in
    (few f c.if-not-count_fits.false, room f c.if-not-count_fits.false)

pub returns-then-not-entries_fit : goal.returns-then-not-entries_fit
returns-then-not-entries_fit c =
    let at = goal.at.returns-then-not-entries_fit c in
    record { size = entry-unfit (tested at.After-count_fits) c.if-not-count_fits.false (listed at.After-entries_fit) c.if-not-entries_fit.true; advanced = tt }

pub returns : goal.returns
returns c =
    let at = goal.at.returns c in
    next (tested at.After-count_fits) c.if-not-count_fits.false (listed at.After-entries_fit) (c.prev_pn.ensures ∙ ap (λ r. prev_within r.now) c.new-list_page.ensures) c.if-not-entries_fit.false
