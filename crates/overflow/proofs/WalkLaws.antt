-- The walk over the pages of a value: one step, and a walk that has ended.
-- A step is a case of the definition; a walk that has ended is taken apart page by page.
use Prim.Native.Nat.{ℕ, zero, suc, ◌+◌, ◌*◌, ◌-◌, ◌<◌, ◌≤◌}
use mathlib.Core.Path.{◌≡◌, refl, sym, ◌∙◌, ap, subst}
use mathlib.Core.Bool.{Bool, true, false, ◌&&◌, cond}
use mathlib.Core.List.{List, [], ◌∷◌, ◌++◌, append-nil, append_assoc}
use native.Mathlib.Nat.{le_of_suc-le-suc, not-suc-le-zero, mul-suc}
use native.Mathlib.Omega.{arith}
use borrow.Author.Tests.{lt-ltb, ltb-true}
use lib.Dec.{leb, ltb}
use lib.ListN.{length, get_or, take, drop, length-append, get_or-append}
use lib.Seq.{drop-cons}
use Rattle.refusal.specs.Outcome.{Outcome, answer, refused}
use Rattle.refusal.proofs.OutcomeLaws.{check_answer}
use Rattle.page.specs.Pages.{page_count}
use Rattle.overflow.specs.Totals.{body}
use Rattle.overflow.specs.ValuePages.{byte_count, value_numbers, value_bytes}
use Rattle.overflow.specs.Reading.{Source, in_store, parse_page, Found, with_page, Walked, ended, stopped, onward, walk}
use Rattle.overflow.specs.Steps.{value_bytes_of}
use Rattle.overflow.proofs.ParseLaws.{Fits, Some, length-value_numbers, value_bytes_few, parse_answer, parse_takes, store_answer}

-- two walks that ended alike
pub ended_index : {i j : ℕ} {f g : Found} → ended i f ≡ ended j g → i ≡ j
ended_index e = cc

pub ended_found : {i j : ℕ} {f g : Found} → ended i f ≡ ended j g → f ≡ g
ended_found e = cc

module _ (s : ℕ) (source : Source) where
  -- ---- one step

  pub walk_page : (to_bytes : Bool) (left i : ℕ) (f : Found) {b : List ℕ} → i < length f.numbers → source i (get_or f.numbers i 0) ≡ answer b → Fits s b → Some b
      → walk s source to_bytes (suc left) i f ≡ cond (to_bytes && leb 1 (byte_count b)) (ended (suc i) (with_page f b)) (walk s source to_bytes left (suc i) (with_page f b))
  unfolding walk
  walk_page to_bytes left i f h e fits some = rw (lt-ltb i (length f.numbers) h, parse_takes s source i (get_or f.numbers i 0) e fits some)

  -- ---- a walk that has ended

  onward-ended : (f : Found) (next : List ℕ → Walked) (o : Outcome (List ℕ)) {j : ℕ} {g : Found} → onward f next o ≡ ended j g → (b : List ℕ) × (o ≡ answer b) × (next b ≡ ended j g)
  onward-ended f next (answer b) e = (b, refl, e)
  onward-ended f next (refused n vs) e = let z : ◌≡◌ {A = ℕ} 0 1 = cc in absurd (omega arith)

  -- its next page is accepted, and the rest has ended
  pub record Stepped (to_bytes : Bool) (left i : ℕ) (f : Found) (j : ℕ) (g : Found) : Type 0 where
    pub inside : i < length f.numbers
    pub page : List ℕ
    pub from : source i (get_or f.numbers i 0) ≡ answer page
    pub fits : Fits s page
    pub some : Some page
    pub rest : cond (to_bytes && leb 1 (byte_count page)) (ended (suc i) (with_page f page)) (walk s source to_bytes left (suc i) (with_page f page)) ≡ ended j g

  pub walk_stepped : (to_bytes : Bool) (left i : ℕ) (f : Found) {j : ℕ} {g : Found} → walk s source to_bytes (suc left) i f ≡ ended j g → Stepped to_bytes left i f j g
  unfolding walk
  walk_stepped to_bytes left i f e =
      let o = onward-ended f _ _ e in
      let c = check_answer (ltb i (length f.numbers)) 14 (i ∷ []) (parse_page s source i (get_or f.numbers i 0)) o.1 in
      let p = parse_answer s source i (get_or f.numbers i 0) c.1 in
      record { inside = ltb-true i (length f.numbers) c.0; page = o.0; from = p.from; fits = p.fits; some = p.some; rest = o.2 }

  -- its end: how far it has come, what it has found behind what it began with, and that a reading walk of any length that comes as far goes on
  -- from there
  pub record Came (left i : ℕ) (f : Found) (j : ℕ) (g : Found) : Type 0 where
    pub from : i ≤ j
    pub upto : j ≤ i + left
    pub rest : List ℕ
    pub numbers : g.numbers ≡ f.numbers ++ rest
    pub known : i ≤ length f.numbers → j ≤ length g.numbers
    pub numbers_few : length g.numbers + body s * i ≤ length f.numbers + body s * j
    pub bytes_few : length g.bytes + body s * i ≤ length f.bytes + body s * j
    pub goes_on : (m : ℕ) → j ≤ i + m → walk s source false m i f ≡ walk s source false (i + m - j) j g

  came_at : {left i : ℕ} {f : Found} {j k : ℕ} {g h : Found} → j ≡ k → g ≡ h → Came left i f j g → Came left i f k h
  came_at {left} {i} {f} {j} {k} {g} {h} e d c = subst (λ (n : ℕ). Came left i f n h) e (subst (λ (x : Found). Came left i f j x) d c)

  -- no page was left
  came_here : (left i : ℕ) (f : Found) → Came left i f i f
  came_here left i f =
      record {
        from = omega arith;
        upto = omega arith;
        rest = [];
        numbers = sym (append-nil f.numbers);
        known = λ h. h;
        numbers_few = omega arith;
        bytes_few = omega arith;
        goes_on = λ m h. let same : i + m - i ≡ m = omega arith in rw same;
      }

  -- or one more than from the next page on
  came_further : {to_bytes : Bool} {left i : ℕ} {f : Found} {j : ℕ} {g : Found} (w : Stepped to_bytes left i f j g) → Came left (suc i) (with_page f w.page) j g → Came (suc left) i f j g
  came_further {left = left} {i} {f} {j} {g} w k =
      let b = w.page in
      let more = mul-suc (body s) i in
      record {
        from = omega (arith, k.from);
        upto = omega (arith, k.upto);
        rest = value_numbers b ++ k.rest;
        numbers = k.numbers ∙ append_assoc f.numbers (value_numbers b) k.rest;
        known = λ _. k.known (omega (arith, w.inside, length-append f.numbers (value_numbers b)));
        numbers_few = omega (arith, more, k.numbers_few, w.fits, length-append f.numbers (value_numbers b), length-value_numbers b);
        bytes_few = omega (arith, more, k.bytes_few, w.fits, length-append f.bytes (value_bytes b), value_bytes_few b);
        goes_on = λ m h. onto m (omega (arith, k.from)) h;
      }
    where
      onto : (m : ℕ) → i < j → j ≤ i + m → walk s source false m i f ≡ walk s source false (i + m - j) j g
      onto zero low high = absurd (omega arith)
      onto (suc m) low high =
          let same : i + suc m - j ≡ suc i + m - j = omega arith in
          rw same (walk_page false m i f w.inside w.from w.fits w.some ∙ k.goes_on m (omega arith))

  pub came : (to_bytes : Bool) (left i : ℕ) (f : Found) {j : ℕ} {g : Found} → walk s source to_bytes left i f ≡ ended j g → Came left i f j g
  unfolding walk
  came to_bytes zero i f e = came_at (ended_index e) (ended_found e) (came_here zero i f)
  came to_bytes (suc left) i f {j} {g} e =
      let w = walk_stepped to_bytes left i f e in
      came_further w (by_test w.page (to_bytes && leb 1 (byte_count w.page)) w.rest (came to_bytes left (suc i) (with_page f w.page)))
    where
      by_test : (b : List ℕ) (last : Bool) → cond last (ended (suc i) (with_page f b)) (walk s source to_bytes left (suc i) (with_page f b)) ≡ ended j g
          → (walk s source to_bytes left (suc i) (with_page f b) ≡ ended j g → Came left (suc i) (with_page f b) j g) → Came left (suc i) (with_page f b) j g
      by_test b true e again = came_at (ended_index e) (ended_found e) (came_here left (suc i) _)
      by_test b false e again = again e

  -- ---- a walk to the first bytes that stopped: a reading walk stops there too
  pub stops_too : (left i : ℕ) (f : Found) {g : Found} {n : ℕ} {vs : List ℕ} → walk s source true left i f ≡ stopped g n vs → walk s source false left i f ≡ stopped g n vs
  unfolding walk
  stops_too zero i f e = let z : ◌≡◌ {A = ℕ} 0 1 = cc in absurd (omega arith)
  stops_too (suc left) i f {g} {n} {vs} e = by_page _ e (λ b. by_test b (leb 1 (byte_count b)) (stops_too left (suc i) (with_page f b)))
    where
      by_test : (b : List ℕ) (last : Bool) → (walk s source true left (suc i) (with_page f b) ≡ stopped g n vs → walk s source false left (suc i) (with_page f b) ≡ stopped g n vs)
          → cond last (ended (suc i) (with_page f b)) (walk s source true left (suc i) (with_page f b)) ≡ stopped g n vs → walk s source false left (suc i) (with_page f b) ≡ stopped g n vs
      by_test b true again e = let z : ◌≡◌ {A = ℕ} 0 1 = cc in absurd (omega arith)
      by_test b false again e = again e

      by_page : {next other : List ℕ → Walked} (o : Outcome (List ℕ)) → onward f next o ≡ stopped g n vs → ((b : List ℕ) → next b ≡ stopped g n vs → other b ≡ stopped g n vs) → onward f other o ≡ stopped g n vs
      by_page (answer b) e again = again b e
      by_page (refused number values) e again = e

-- ---- a reading walk over the pages of a store

module _ (s : ℕ) (store : List ℕ) where
  -- what it has found: the numbers from i on are of pages of the store, and their bytes are those found
  pub record Visited (left i : ℕ) (f g : Found) : Type 0 where
    pub rest : List ℕ
    pub numbers : g.numbers ≡ f.numbers ++ rest
    pub enough : left ≤ length (drop i g.numbers)
    pub inside : (k : ℕ) → k < left → get_or (drop i g.numbers) k 0 < page_count s store
    pub bytes : g.bytes ≡ f.bytes ++ value_bytes_of s store (take left (drop i g.numbers))

  pub walk_visited : (left i : ℕ) (f : Found) (j : ℕ) (g : Found) → walk s (in_store s store) false left i f ≡ ended j g → Visited left i f g
  unfolding walk value_bytes_of
  walk_visited zero i f j g e =
      let same : f ≡ g = ended_found e in
      record {
        rest = [];
        numbers = sym (ap (λ (h : Found). h.numbers) same) ∙ sym (append-nil f.numbers);
        enough = omega arith;
        inside = λ k h. absurd (not-suc-le-zero h);
        bytes = sym (ap (λ (h : Found). h.bytes) same) ∙ sym (append-nil f.bytes);
      }
  walk_visited (suc left) i f j g e =
      let w = walk_stepped s (in_store s store) false left i f e in
      let p = get_or f.numbers i 0 in
      let a = store_answer s store i p w.from in
      let b = w.page in
      let v = walk_visited left (suc i) (with_page f b) j g w.rest in
      let numbers : g.numbers ≡ f.numbers ++ (value_numbers b ++ v.rest) = v.numbers ∙ append_assoc f.numbers (value_numbers b) v.rest in
      let this : get_or g.numbers i 0 ≡ p = rw numbers (get_or-append f.numbers (value_numbers b ++ v.rest) 0 i w.inside) in
      let long : i < length g.numbers = omega (arith, w.inside, ap length numbers, length-append f.numbers (value_numbers b ++ v.rest)) in
      let next : drop i g.numbers ≡ p ∷ drop (suc i) g.numbers = drop-cons g.numbers i 0 long ∙ ap (λ (n : ℕ). n ∷ drop (suc i) g.numbers) this in
      record {
        rest = value_numbers b ++ v.rest;
        numbers = numbers;
        enough = rw next (le_suc v.enough);
        inside = rw next (λ k h. at p (drop (suc i) g.numbers) k h a.0 v.inside);
        bytes = rw (next, a.1) (v.bytes ∙ append_assoc f.bytes (value_bytes b) (value_bytes_of s store (take left (drop (suc i) g.numbers))));
      }
    where
      le_suc : {m n : ℕ} → m ≤ n → suc m ≤ suc n
      le_suc h = omega arith

      at : (p : ℕ) (ps : List ℕ) (k : ℕ) → k < suc left → p < page_count s store → ((j : ℕ) → j < left → get_or ps j 0 < page_count s store) → get_or (p ∷ ps) k 0 < page_count s store
      at p ps zero h first others = first
      at p ps (suc k) h first others = others k (le_of_suc-le-suc h)
