-- Filling the tables from their ends down: what is written so far and what is still to be written make the whole list.
use Prim.Native.Nat.{ℕ, zero, suc, ◌+◌, ◌-◌, ◌<◌, ◌≤◌}
use native.Mathlib.Nat.{not-suc-le-zero}
use native.Mathlib.Numerals.{add-one}
use native.Mathlib.Omega.{arith}
use mathlib.Core.Path.{◌≡◌, refl, ap, sym, ◌∙◌}
use mathlib.Core.List.{List, [], ◌∷◌, ◌++◌}
use lib.ListN.{length, set, length-append, length-set}
use lib.Seq.{sets, length-sets}
use Rattle.page.specs.PageSize.{IsPageSize, capacity}
use Rattle.page.specs.Pages.{page_count, page_at}
use Rattle.laws.proofs.SetsLaws.{sets-append, sets_comm}
use Rattle.free_list.specs.ListPages.{prev_of, count_of, entries_of}
use Rattle.free_list.specs.Reading.{ListTables, list_in}
use Rattle.free_list.specs.Steps.{chain_from, Readable}
use Rattle.free_list.proofs.ListPagesLaws.{length-entries_of}

-- a chain has as many pages as were asked for
pub length_chain : (s : ℕ) (store : List ℕ) (k p : ℕ) → length (chain_from s store k p).pages ≡ k
unfolding chain_from
length_chain s store zero p = refl
length_chain s store (suc k) p =
    length-append (chain_from s store k (prev_of (page_at s store p))).pages (p ∷ []) ∙ add-one _ ∙ ap suc (length_chain s store k (prev_of (page_at s store p)))

-- the tables while they are filled: the list of `left` pages from `page` down, with `at` entries, is still to be written
pub record Filling (s : ℕ) (store pages₀ entries₀ : List ℕ) (head left₀ : ℕ) (pages entries : List ℕ) (page left at : ℕ) : Type 0 where
  pub size : IsPageSize s
  pub readable : Readable s store left page
  pub count : length (chain_from s store left page).entries ≡ at
  pub pages_fit : left ≤ length pages
  pub entries_fit : at ≤ length entries
  pub pages_long : length pages ≡ length pages₀
  pub entries_long : length entries ≡ length entries₀
  pub pages_are : sets pages 0 (chain_from s store left page).pages ≡ sets pages₀ 0 (chain_from s store left₀ head).pages
  pub entries_are : sets entries 0 (chain_from s store left page).entries ≡ sets entries₀ 0 (chain_from s store left₀ head).entries

-- a list whose last part is written first
last_first : (l xs ys : List ℕ) (n : ℕ) → length xs ≡ n → sets (sets l n ys) 0 xs ≡ sets l 0 (xs ++ ys)
last_first l xs ys n e =
    sets_comm l 0 xs n ys (omega arith) ∙ sym (sets-append l 0 xs ys ∙ ap (λ (k : ℕ). sets (sets l 0 xs) k ys) (omega arith))

-- the page that is written next lies in the store and has no more entries than are left; behind it less is to be written
pub record Filled (s : ℕ) (store pages₀ entries₀ : List ℕ) (head left₀ : ℕ) (pages entries : List ℕ) (page left at : ℕ) : Type 0 where
  pub inside : page < page_count s store
  pub few : count_of (page_at s store page) ≤ capacity s
  pub enough : count_of (page_at s store page) ≤ at
  pub next : Filling s store pages₀ entries₀ head left₀ (set pages (left - 1) page)
      (sets entries (at - count_of (page_at s store page)) (entries_of (page_at s store page))) (prev_of (page_at s store page)) (left - 1) (at - count_of (page_at s store page))

pub filled : (s : ℕ) (store pages₀ entries₀ : List ℕ) (head left₀ : ℕ) (pages entries : List ℕ) (page left at : ℕ) → 0 < left
    → Filling s store pages₀ entries₀ head left₀ pages entries page left at → Filled s store pages₀ entries₀ head left₀ pages entries page left at
unfolding chain_from
filled s store pages₀ entries₀ head left₀ pages entries page zero at h f = absurd (not-suc-le-zero h)
filled s store pages₀ entries₀ head left₀ pages entries page (suc k) at h f =
    let b = page_at s store page in
    let below = chain_from s store k (prev_of b) in
    let one : suc k - 1 ≡ k = omega arith in
    let total : length below.entries + count_of b ≡ at = sym (length-append below.entries (entries_of b) ∙ ap (λ (n : ℕ). length below.entries + n) (length-entries_of b)) ∙ f.count in
    let rest : length below.entries ≡ at - count_of b = omega arith in
    record {
      inside = f.readable.0;
      few = f.readable.1;
      enough = omega arith;
      next = rw one
          (record {
            size = f.size;
            readable = f.readable.2;
            count = rest;
            pages_fit = omega (arith, f.pages_fit, length-set pages k page);
            entries_fit = omega (arith, f.entries_fit, length-sets entries (at - count_of b) (entries_of b));
            pages_long = length-set pages k page ∙ f.pages_long;
            entries_long = length-sets entries (at - count_of b) (entries_of b) ∙ f.entries_long;
            pages_are = last_first pages below.pages (page ∷ []) k (length_chain s store k (prev_of b)) ∙ f.pages_are;
            entries_are = last_first entries below.entries (entries_of b) (at - count_of b) rest ∙ f.entries_are;
          });
    }

-- with no page left the list stands in the tables
pub filling_done : {s : ℕ} {store pages₀ entries₀ : List ℕ} {head left₀ : ℕ} {pages entries : List ℕ} {page left at : ℕ}
    → Filling s store pages₀ entries₀ head left₀ pages entries page left at → left ≡ 0
    → ◌≡◌ {A = ListTables} (record { pages = pages; entries = entries }) (list_in (record { pages = pages₀; entries = entries₀ }) (chain_from s store left₀ head))
unfolding chain_from
filling_done f e = rw (← (rw e at f.pages_are), ← (rw e at f.entries_are))
