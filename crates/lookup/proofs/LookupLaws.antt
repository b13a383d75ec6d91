-- The first place of a number, and what each answer and refusal of `find` tells.
use Prim.Native.Nat.{ℕ, suc, ◌+◌, ◌*◌, ◌-◌, ◌/◌, ◌<◌, ◌≤◌}
use native.Mathlib.Nat.{mul_comm, mul-suc, le-div_iff_mul-le, div-lt_iff_lt-mul, mul-le-mul_left}
use native.Mathlib.Omega.{arith}
use mathlib.Core.Path.{◌≡◌, refl, sym, ◌∙◌, ap, subst}
use mathlib.Core.Bool.{Bool, true, false, ◌||◌, cond}
use mathlib.Core.List.{List, [], ◌∷◌}
use lib.Dec.{leb, ltb}
use lib.ListN.{length, take, drop}
use borrow.Author.Tests.{le-leb, lt-leb, lt-ltb, le-ltb, ltb-true, ltb-false, leb-true}
use Rattle.std.specs.Prelude.{◌==◌, Some, None, position}
use Rattle.std.proofs.lemmas.List.Recursion.{is_position_or_len}
use Rattle.refusal.specs.Outcome.{answer, refused}
use Rattle.laws.proofs.Tests.{cond_cases}
use Rattle.refusal.proofs.OutcomeLaws.{unanswer, check_answer}
use Rattle.page.specs.PageSize.{IsPageSize}
use Rattle.page.specs.Pages.{page_count, page_at}
use Rattle.page.proofs.PageSizeLaws.{page_least}
use Rattle.lookup.specs.Lookup.{first_of, Place, pending_at, store_at, find, lookup}

-- ---- the first place of a number

-- the library's search finds the place of the definition
module _ (page : ℕ) (ns : List ℕ) where
  position_is : position (λ n. n == page) ns ≡ cond (ltb (first_of page ns) (length ns)) (Some (first_of page ns)) None
  unfolding first_of
  position_is = rw (is_position_or_len (first_of page) (λ n. n == page) refl (λ x xs. by_test x xs) ns)
    where
      by_test : (x : ℕ) (xs : List ℕ) → first_of page (x ∷ xs) ≡ cond (x == page) 0 (1 + first_of page xs)
      by_test x xs = let more : suc (first_of page xs) ≡ 1 + first_of page xs = omega arith in ap (cond (x == page) 0) more

  pub first_found : {i : ℕ} → Some i ≡ position (λ n. n == page) ns → (i < length ns) × (i ≡ first_of page ns)
  first_found {i} e = by_test (ltb (first_of page ns) (length ns)) refl (e ∙ position_is)
    where
      by_test : (b : Bool) → ltb (first_of page ns) (length ns) ≡ b → Some i ≡ cond b (Some (first_of page ns)) None → (i < length ns) × (i ≡ first_of page ns)
      by_test true t e = let same : i ≡ first_of page ns = cc in (omega (arith, ltb-true _ _ t), same)
      by_test false t e = let none : ⊥ = cc in absurd none

  pub first_missing : None ≡ position (λ n. n == page) ns → length ns ≤ first_of page ns
  first_missing e = by_test (ltb (first_of page ns) (length ns)) refl (e ∙ position_is)
    where
      by_test : (b : Bool) → ltb (first_of page ns) (length ns) ≡ b → None ≡ cond b (Some (first_of page ns)) None → length ns ≤ first_of page ns
      by_test true t e = let none : ⊥ = cc in absurd none
      by_test false t e = ltb-false _ _ t

-- ---- where a page lies: a law for each way out, by the tests of the code

-- the room for n pages in b bytes: the quotient and the product say the same
room_short : (s n b : ℕ) → 0 < s → b / s < n → b < s * n
room_short s n b hs h = omega (arith, (div-lt_iff_lt-mul {k = s} {x = b} {y = n} hs).0 h, mul_comm s n)

room_enough : (s n b : ℕ) → 0 < s → n ≤ b / s → s * n ≤ b
room_enough s n b hs h = omega (arith, (le-div_iff_mul-le {k = s} {x = n} {y = b} hs).0 h, mul_comm s n)

-- page i of n, in b bytes that hold them
within_pages : (s i n b : ℕ) → i < n → s * n ≤ b → s * i + s ≤ b
within_pages s i n b h room = omega (arith, mul-le-mul_left s h, mul-suc s i)

module _ {s : ℕ} (size : IsPageSize s) where
  pub page_some : 0 < s
  page_some = omega (arith, page_least size)

  module _ (numbers pages store : List ℕ) (page : ℕ) where
    -- refusal 9
    pub find_short : length pages / s < length numbers → refused 9 [] ≡ find s numbers pages store page
    unfolding find
    find_short h = rw (lt-leb _ _ (room_short s (length numbers) (length pages) page_some h))

    module _ (room : length numbers ≤ length pages / s) where
      enough : leb (s * length numbers) (length pages) ≡ true
      enough = le-leb _ _ (room_enough s (length numbers) (length pages) page_some room)

      -- a pending page
      pub find_pending : {i : ℕ} → Some i ≡ position (λ n. n == page) numbers → answer (pending_at (s * i)) ≡ find s numbers pages store page
      unfolding find
      find_pending place =
          let f = first_found page numbers place in
          rw (enough, ← f.1, lt-ltb _ _ f.0)

      module _ (none : None ≡ position (λ n. n == page) numbers) where
        -- refusal 15
        pub find_missing : page_count s store ≤ page → refused 15 (page ∷ []) ≡ find s numbers pages store page
        unfolding find
        find_missing h = rw (enough, le-ltb _ _ (first_missing page numbers none), le-ltb _ _ h)

        -- a page of the store
        pub find_stored : page < page_count s store → answer (store_at (s * page)) ≡ find s numbers pages store page
        unfolding find
        find_stored h = rw (enough, le-ltb _ _ (first_missing page numbers none), lt-ltb _ _ h)

module _ (s : ℕ) (numbers pages store : List ℕ) (page : ℕ) where
  -- ---- the other way: what was found lies in its slice

  abbrev Within : Place → Type 0
  Within (pending_at at) = at + s ≤ length pages
  Within (store_at at) = (page < page_count s store) × (at ≡ s * page)

  found_within : {place : Place} → answer place ≡ find s numbers pages store page → Within place
  unfolding find
  found_within e =
      let i = first_of page numbers in
      let is_pending = ltb i (length numbers) in
      let is_stored = ltb page (page_count s store) in
      let room = check_answer (leb (s * length numbers) (length pages)) 9 [] _ (sym e) in
      let found = check_answer (is_pending || is_stored) 15 (page ∷ []) _ room.1 in
      subst Within (unanswer found.1)
      (cond_cases Within is_pending (pending_at (s * i)) (store_at (s * page))
      (λ t. within_pages s i (length numbers) (length pages) (ltb-true _ _ t) (leb-true _ _ room.0))
      (λ t. (ltb-true _ _ (subst (λ (b : Bool). b || is_stored ≡ true) t found.0), refl)))

  pub pending_within : {at : ℕ} → answer (pending_at at) ≡ find s numbers pages store page → at + s ≤ length pages
  pending_within e = found_within e

  pub stored_within : {at : ℕ} → answer (store_at at) ≡ find s numbers pages store page → page < page_count s store
  stored_within e = (found_within e).0

  -- ---- the bytes of what was found

  pub lookup_pending : {at : ℕ} → answer (pending_at at) ≡ find s numbers pages store page → take (at + s - at) (drop at pages) ≡ lookup s numbers pages store page
  unfolding lookup
  lookup_pending {at} e = let d : at + s - at ≡ s = omega arith in rw (← e, d)

  pub lookup_stored : {at : ℕ} → answer (store_at at) ≡ find s numbers pages store page → page_at s store page ≡ lookup s numbers pages store page
  unfolding lookup page_at
  lookup_stored {at} e = rw (← e, (found_within e).1)

  pub lookup_refused : {number : ℕ} {values : List ℕ} → refused number values ≡ find s numbers pages store page → [] ≡ lookup s numbers pages store page
  unfolding lookup
  lookup_refused e = rw (← e)
