-- The new total is the old one, or one page less where these hold the value.
-- A count that holds it is least if the one below does not: with a page more there is always room for its own number.
use Prim.Native.Nat.{ℕ, zero, suc, ◌+◌, ◌*◌, ◌-◌, ◌/◌, ◌<◌, ◌≤◌}
use mathlib.Core.Path.{◌≡◌, refl, sym, ◌∙◌, ap, subst, subst⁻¹}
use mathlib.Core.Logic.{⊎_elim}
use mathlib.Core.Bool.{Bool, true, false, cond}
use native.Mathlib.Decide.{dec_lt}
use native.Mathlib.Nat.{lt-div-mul-add, div-mul-le_self, div-eq_of_lt-le, add-mul, one-mul, mul-add, mul-suc, mul-zero, mul-le-mul_right}
use native.Mathlib.Omega.{arith}
use borrow.Author.Tests.{le-leb, lt-leb, leb-true, leb-false}
use Rattle.laws.proofs.Tests.{cond_cases}
use Rattle.page.specs.PageSize.{IsPageSize}
use Rattle.page.proofs.PageSizeLaws.{page_least}
use Rattle.overflow.specs.Totals.{max_size, cell_numbers, body, holds, first_from, new_total, raw_pages, old_total, total_by, IsTotal}
use Rattle.overflow.specs.Steps.{IsTotals, Room, total_of_rule}
use Rattle.overflow.specs.declared.total.Totals.{Totals}
use Rattle.overflow.specs.declared.total.TotalRule.{TotalRule}
use Rattle.overflow.specs.declared.total.TotalRule.TheVariants.{New, Old}
use Rattle.overflow.specs.Theorems.{Least, OneLess}
use Rattle.overflow.proofs.TotalsLaws.{max_size_lem, pages_room, raw_covers, raw_tight, total_enough, total_tight, total_small, total_few}

-- the first number that passes a test is the one that does and below which none does
pub first_is : (test : ℕ → Bool) (c i left : ℕ) → i ≤ c → c ≤ i + left → test c ≡ true → ((k : ℕ) → i ≤ k → k < c → test k ≡ false) → first_from test i left ≡ c
unfolding first_from
first_is test c i zero low high passes none = omega arith
first_is test c i (suc left) low high passes none = by_place (dec_lt i c) (λ h. first_is test c (suc i) left h (omega arith) passes (λ k l u. none k (omega arith) u))
  where
    by_place : Dec (i < c) → (i < c → first_from test (suc i) left ≡ c) → cond (test i) i (first_from test (suc i) left) ≡ c
    by_place (yes h) later = rw (none i (omega arith) h) (later h)
    by_place (no h) later = let here : i ≡ c = omega arith in rw (here, passes)

-- and below the one that is found none does
pub first_least : (test : ℕ → Bool) (i left k : ℕ) → i ≤ k → k < first_from test i left → test k ≡ false
unfolding first_from
first_least test i zero k low high = absurd (omega arith)
first_least test i (suc left) k low high = by_test (test i) refl high (first_least test (suc i) left k)
  where
    by_test : (b : Bool) → test i ≡ b → k < cond b i (first_from test (suc i) left) → (suc i ≤ k → k < first_from test (suc i) left → test k ≡ false) → test k ≡ false
    by_test true e h later = absurd (omega arith)
    by_test false e h later = by_place (dec_lt i k)
      where
        by_place : Dec (i < k) → test k ≡ false
        by_place (yes l) = later l h
        by_place (no l) = let here : k ≡ i = omega arith in rw here e

module _ {s : ℕ} (size : ℕ) (page : IsPageSize s) where
  -- what holds the value, in numbers
  abbrev Enough : ℕ → Type 0
  Enough p = size + 4 * (p - cell_numbers) ≤ body s * p

  holds_is : (p : ℕ) → Enough p → holds s size p ≡ true
  unfolding holds
  holds_is p h = le-leb _ (body s * p) h

  holds_not : (p : ℕ) → body s * p < size + 4 * (p - cell_numbers) → holds s size p ≡ false
  unfolding holds
  holds_not p h = lt-leb _ (body s * p) h

  enough_of : (p : ℕ) → holds s size p ≡ true → Enough p
  unfolding holds
  enough_of p e = leb-true _ (body s * p) e

  short_of : (p : ℕ) → holds s size p ≡ false → body s * p < size + 4 * (p - cell_numbers)
  unfolding holds
  short_of p e = leb-false _ (body s * p) e

  -- with more pages there is room as well
  more_hold : (p m : ℕ) → Enough p → Enough (p + m)
  more_hold p zero h = let same : p + 0 ≡ p = omega arith in rw same h
  more_hold p (suc m) h =
      let before : Enough (p + m) = more_hold p m h in
      let next : p + suc m ≡ suc (p + m) = omega arith in
      rw next (omega (arith, before, mul-suc (body s) (p + m), page_least page))

  -- so below a count that does not hold it none does
  none_below : (p k : ℕ) → holds s size p ≡ false → k ≤ p → holds s size k ≡ false
  none_below p k short h = holds_not k (by_room (dec_lt (body s * k) (size + 4 * (k - cell_numbers))))
    where
      by_room : Dec (body s * k < size + 4 * (k - cell_numbers)) → body s * k < size + 4 * (k - cell_numbers)
      by_room (yes l) = l
      by_room (no l) =
          let same : k + (p - k) ≡ p = omega arith in
          let room : Enough p = subst Enough same (more_hold k (p - k) (omega arith)) in
          absurd (omega (arith, room, short_of p short))

  module _ (some : 1 ≤ size) where
    -- a page for each byte is enough
    bytes_hold : Enough size
    bytes_hold = let h : 12 ≤ body s = omega (arith, page_least page) in omega (arith, mul-le-mul_right size h)

    -- a count that holds it, where the one below does not, is the least
    least_is : (c : ℕ) → Enough (suc c) → holds s size c ≡ false → new_total s size ≡ suc c
    unfolding new_total
    least_is c room short = first_is (holds s size) (suc c) 0 size (omega arith) (fits (dec_lt size (suc c))) (holds_is (suc c) room) (λ k _ h. none_below c k short (omega arith))
      where
        fits : Dec (size < suc c) → suc c ≤ 0 + size
        fits (yes h) = absurd (omega (arith, bytes_hold, short_of size (none_below c size short (omega arith))))
        fits (no h) = omega arith

    -- a count that holds it, while a whole page would be left of it with one less, is the least or one more
    one_less_of : (old : ℕ) → Enough old → body s * old < size + 4 * (old - cell_numbers) + body s → new_total s size ≡ cond (holds s size (old - 1)) (old - 1) old
    one_less_of zero room tight = absurd (omega (arith, room, mul-zero (body s)))
    one_less_of (suc c) room tight = let below : suc c - 1 ≡ c = omega arith in rw below (by_test (holds s size c) refl)
      where
        two : (d : ℕ) → c ≡ suc d → body s * d < size + 4 * (d - cell_numbers)
        two d e = omega (arith, e, tight, mul-suc (body s) c, ap (λ (k : ℕ). body s * k) e, mul-suc (body s) d, page_least page)

        by_test : (b : Bool) → holds s size c ≡ b → new_total s size ≡ cond b c (suc c)
        by_test true e = below c refl (enough_of c e)
          where
            below : (k : ℕ) → c ≡ k → Enough k → new_total s size ≡ c
            below zero e h = absurd (omega (arith, h, mul-zero (body s)))
            below (suc d) e h = least_is d h (holds_not d (two d e)) ∙ sym e
        by_test false e = least_is c room e

pub one_less : {s : ℕ} → IsPageSize s → OneLess s
one_less page size some = one_less_of size page some (old_total _ size) (total_enough size page) (total_tight size page)

-- so it is never more, and at most one less
pub new_within : {s : ℕ} → IsPageSize s → (size : ℕ) → 1 ≤ size → new_total s size ≤ old_total s size
new_within {s} page size some =
    rw (one_less page size some) (cond_cases (λ (t : ℕ). t ≤ old_total s size) (holds s size (old_total s size - 1)) _ _ (λ _. omega arith) (λ _. omega arith))

pub least : {s : ℕ} → IsPageSize s → Least s
unfolding new_total
least {s} page size some = (rw (one_less page size some) (cond_cases (λ (t : ℕ). holds s size t ≡ true) (holds s size (old_total s size - 1)) _ _ (λ e. e) (λ _. holds_is size page (old_total s size) (total_enough size page))), no_less)
  where
    no_less : (p : ℕ) → holds s size p ≡ true → first_from (holds s size) 0 size ≤ p
    no_less p e = by_place (dec_lt p (first_from (holds s size) 0 size))
      where
        by_place : Dec (p < first_from (holds s size) 0 size) → first_from (holds s size) 0 size ≤ p
        by_place (yes h) = let z : ◌≡◌ {A = Bool} true false = sym e ∙ first_least (holds s size) 0 size p (omega arith) h in (let w : ◌≡◌ {A = ℕ} 0 1 = cc in absurd (omega arith))
        by_place (no h) = omega arith

-- ---- either total

module _ {s : ℕ} (size : ℕ) (page : IsPageSize s) (some : 1 ≤ size) where
  -- the new total has room for the value and its numbers, and with one page less there would be bytes left
  pub new_enough : size + 4 * (new_total s size - cell_numbers) ≤ body s * new_total s size
  unfolding holds
  new_enough = leb-true _ (body s * new_total s size) (least page size some).0

  pub new_tight : body s * new_total s size < size + 4 * (new_total s size - cell_numbers) + body s
  new_tight = one_below (new_total s size) refl
    where
      -- with one page less the value would have room
      one_below : (p : ℕ) → new_total s size ≡ p → body s * new_total s size < size + 4 * (new_total s size - cell_numbers) + body s
      one_below zero e = rw e (omega (arith, mul-zero (body s), some))
      one_below (suc p) e = rw e (by_room (dec_lt (body s * p) (size + 4 * (p - cell_numbers))))
        where
          by_room : Dec (body s * p < size + 4 * (p - cell_numbers)) → body s * suc p < size + 4 * (suc p - cell_numbers) + body s
          by_room (yes h) = omega (arith, mul-suc (body s) p)
          by_room (no h) = absurd (omega (arith, e, (least page size some).1 p (holds_is size page p (omega arith))))

  module _ {total : ℕ} (t : IsTotal s size total) where
    pub either_enough : size + 4 * (total - cell_numbers) ≤ body s * total
    either_enough = ⊎_elim (λ (e : total ≡ new_total s size). rw e new_enough) (λ (e : total ≡ old_total s size). rw e (total_enough size page)) t

    pub either_tight : body s * total < size + 4 * (total - cell_numbers) + body s
    either_tight = ⊎_elim (λ (e : total ≡ new_total s size). rw e new_tight) (λ (e : total ≡ old_total s size). rw e (total_tight size page)) t

    pub either_few : total ≤ old_total s size
    either_few = ⊎_elim (λ (e : total ≡ new_total s size). rw e (new_within page size some)) (λ (e : total ≡ old_total s size). omega arith) t

    pub either_positive : 1 ≤ total
    either_positive = some_pages total either_enough
      where
        some_pages : (p : ℕ) → size + 4 * (p - cell_numbers) ≤ body s * p → 1 ≤ p
        some_pages zero h = absurd (omega (arith, mul-zero (body s), some))
        some_pages (suc p) h = omega arith

-- the bodies of so many pages hold the value and its numbers, and are not much more
pub new_room : {s size : ℕ} (total : ℕ) → total ≡ new_total s size → IsPageSize s → 1 ≤ size → size ≤ max_size s → Room s size total
new_room {s} {size} total e page some few =
    subst⁻¹ (λ (t : ℕ). Room s size t) e
    (record {
      enough = new_enough size page some;
      small = omega (arith, new_tight size page some, new_within page size some, total_small size page, page.limit, max_size_lem s);
    })

-- ---- both totals in the numbers of the code

-- k more pages for what is lacking, rounded up: enough, and with one less there would not be
abbrev more : ℕ → ℕ → ℕ → ℕ
more b r size = (size + 4 * (r - 15) - b * r + (b - 5)) / (b - 4)

module _ (b r size : ℕ) (large : 8 < b) (past : 15 < r) (short : b * r < size + 4 * (r - 15)) where
  enough_for : size + 4 * (r - 15) ≤ b * r + more b r size * (b - 4)
  enough_for = omega (arith, lt-div-mul-add {a = size + 4 * (r - 15) - b * r + (b - 5)} {b = b - 4} (omega arith))

  more_enough : size + 4 * (r + more b r size - 15) ≤ b * (r + more b r size)
  more_enough = rw mul-add (omega (arith, pages_room b (more b r size) large, enough_for))

  more_least : (k : ℕ) → more b r size ≡ suc k → b * (r + k) < size + 4 * (r + k - 15)
  more_least k e =
      let most = div-mul-le_self (size + 4 * (r - 15) - b * r + (b - 5)) (b - 4) in
      let product : more b r size * (b - 4) ≡ k * (b - 4) + (b - 4) = ap (λ (n : ℕ). n * (b - 4)) e ∙ omega arith in
      rw mul-add (omega (arith, pages_room b k large, most, product))

-- the pages that are more than the raw ones, and those by the old rule, which rounds up two bytes sooner
module _ (m b : ℕ) (large : 8 < b) where
  abbrev needed : ℕ
  needed = (m + (b - 5)) / (b - 4)

  abbrev sooner : ℕ
  sooner = (m + (b - 3)) / (b - 4)

  needed_enough : m ≤ needed * (b - 4)
  needed_enough = omega (arith, lt-div-mul-add {a = m + (b - 5)} {b = b - 4} (omega arith))

  pub sooner_more : (b - 4) * needed ≤ m + 1 → needed + 1 ≡ sooner
  sooner_more h =
      sym (div-eq_of_lt-le {k = needed + 1} (b - 4) {m = m + (b - 3)} (rw (add-mul needed 1 (b - 4), one-mul (b - 4)) (omega (arith, h)))
      (rw (add-mul (needed + 1) 1 (b - 4), add-mul needed 1 (b - 4), one-mul (b - 4)) (omega (arith, needed_enough))))

  pub sooner_same : m + 1 < (b - 4) * needed → needed ≡ sooner
  sooner_same h =
      sym (div-eq_of_lt-le {k = needed} (b - 4) {m = m + (b - 3)} (omega (arith, div-mul-le_self (m + (b - 5)) (b - 4)))
      (rw (add-mul needed 1 (b - 4), one-mul (b - 4)) (omega (arith, h))))

module _ {s size raw : ℕ} (e : raw ≡ raw_pages s size) (page : IsPageSize s) (some : 1 ≤ size) (few : size ≤ max_size s) where
  -- what is told of them
  pub record Told (totals : Totals) : Type 0 where
    pub are : IsTotals s size totals
    pub room : Room s size totals.new

  told : (totals : Totals) → IsTotals s size totals → Told totals
  told totals are = record { are = are; room = new_room totals.new are.new page some few }

  covers : size ≤ body s * raw
  covers = rw e (raw_covers size page)

  tight : body s * raw < size + body s
  tight = rw e (raw_tight size page)

  -- where the pages that the bytes take have room for the numbers, these are the new total
  new_raw : size + 4 * (raw - cell_numbers) ≤ body s * raw → raw ≡ new_total s size
  new_raw room = by_count raw refl
    where
      by_count : (r : ℕ) → raw ≡ r → raw ≡ new_total s size
      by_count zero z = absurd (omega (arith, covers, ap (λ (k : ℕ). body s * k) z, mul-zero (body s)))
      by_count (suc c) z =
          let pages = ap (λ (k : ℕ). body s * k) z ∙ mul-suc (body s) c in
          z ∙ sym (least_is size page some c (rw z at room) (holds_not size page c (omega (arith, tight, pages))))

  pub told_few : raw ≤ cell_numbers → Told (record { new = raw; old = raw })
  unfolding old_total
  told_few h = told (record { new = raw; old = raw }) (record { new = new_raw (omega (arith, covers)); old = rw (← e, le-leb raw cell_numbers h) })

  module _ (past : cell_numbers < raw) where
    pub told_fits : raw - cell_numbers ≤ (body s * raw - size) / 4 → Told (record { new = raw; old = raw })
    unfolding old_total
    told_fits h =
        told (record { new = raw; old = raw })
        (record { new = new_raw (omega (arith, covers)); old = rw (← e, lt-leb raw cell_numbers past, le-leb (raw - cell_numbers) ((body s * raw - size) / 4) h) })

    -- some more are needed; by the old total it is one more yet, where the last of them has at most a byte left
    abbrev lacking : ℕ
    lacking = size + 4 * (raw - cell_numbers) - body s * raw

    told_as : (body s * raw - size) / 4 < raw - cell_numbers → (old : ℕ) → old ≡ raw + (lacking + (body s - 3)) / (body s - 4) → Told (record { new = raw + more (body s) raw size; old = old })
    unfolding old_total
    told_as h old is = told _ (record { new = by_count (more (body s) raw size) refl; old = is ∙ rw (← e, lt-leb raw cell_numbers past, lt-leb (raw - cell_numbers) ((body s * raw - size) / 4) h) })
      where
        large : 8 < body s
        large = omega (arith, page_least page)

        short : body s * raw < size + 4 * (raw - cell_numbers)
        short = omega (arith, covers, h)

        by_count : (k : ℕ) → more (body s) raw size ≡ k → raw + more (body s) raw size ≡ new_total s size
        by_count zero z = absurd (omega (arith, short, enough_for (body s) raw size large past short, ap (λ (n : ℕ). n * (body s - 4)) z))
        by_count (suc k) z =
            let one : raw + more (body s) raw size ≡ suc (raw + k) = omega (arith, z) in
            rw one (sym (least_is size page some (raw + k) (rw one at (more_enough (body s) raw size large past short)) (holds_not size page (raw + k) (more_least (body s) raw size large past short k z))))

    pub told_more : (body s * raw - size) / 4 < raw - cell_numbers → (body s - 4) * more (body s) raw size ≤ lacking + 1
        → Told (record { new = raw + more (body s) raw size; old = raw + more (body s) raw size + 1 })
    told_more h l = told_as h (raw + more (body s) raw size + 1) (omega (arith, sooner_more lacking (body s) (omega (arith, page_least page)) l))

    pub told_same : (body s * raw - size) / 4 < raw - cell_numbers → lacking + 1 < (body s - 4) * more (body s) raw size
        → Told (record { new = raw + more (body s) raw size; old = raw + more (body s) raw size })
    told_same h l = told_as h (raw + more (body s) raw size) (omega (arith, sooner_same lacking (body s) (omega (arith, page_least page)) l))

-- the total of a rule is not much more than the limit
pub rule_few : {s size : ℕ} (rule : TotalRule) → IsPageSize s → 1 ≤ size → size ≤ max_size s → total_by rule s size ≤ max_size s + 4
rule_few {s} {size} New page some few = omega (arith, new_within page size some, total_few size page few)
rule_few {s} {size} Old page some few = total_few size page few

pub rule_total : {s size : ℕ} (rule : TotalRule) {totals : Totals} → IsTotals s size totals → total_of_rule rule totals ≡ total_by rule s size
rule_total New are = are.new
rule_total Old are = are.old
