-- How often a number occurs in lists, in their parts, and in numbers one after another.
use Prim.Native.Nat.{ℕ, zero, suc, ◌+◌, ◌<◌, ◌≤◌}
use native.Mathlib.Nat.{add-zero}
use native.Mathlib.Decide.{dec_lt, ℕ_discrete}
use native.Mathlib.Omega.{arith}
use mathlib.Core.Path.{◌≡◌, refl, ap, sym, ◌∙◌}
use mathlib.Core.Logic.{◌⊎◌, inl, inr}
use mathlib.Core.Bool.{Bool, true, false, ◌&&◌, cond, and_assoc}
use mathlib.Core.List.Memᴰ
use mathlib.Core.List.{List, [], ◌∷◌, ◌++◌, reverse, reverse-cons, Memᴰ}
use lib.Dec.{eqb, ltb}
use lib.ListN.{length, get_or, take, drop, take-append-drop}
use lib.Seq.{take-suc}
use borrow.Author.Tests.{eq-eqb, ne_eqb, eqb-true, ltb-true, lt-ltb}
use Rattle.laws.specs.Counting.{count, numbers_from, Different, all_different, all_below}
use Rattle.laws.proofs.Tests.{and-true, same_truth}
use Rattle.laws.proofs.PlacesLaws.{get_d-mem}

-- ---- lists and their parts

pub count_none : (x : ℕ) → count x [] ≡ 0
unfolding count
count_none x = refl

pub count-append : (x : ℕ) (ms ns : List ℕ) → count x (ms ++ ns) ≡ count x ms + count x ns
unfolding count
count-append x [] ns = omega arith
count-append x (m ∷ ms) ns = omega (arith, count-append x ms ns)

pub count-cons : (x n : ℕ) (ns : List ℕ) → count x (n ∷ ns) ≡ count x (n ∷ []) + count x ns
count-cons x n ns = count-append x (n ∷ []) ns

pub count-reverse : (x : ℕ) (ns : List ℕ) → count x (reverse ns) ≡ count x ns
count-reverse x [] = refl
count-reverse x (n ∷ ns) =
    ap (count x) (reverse-cons n ns) ∙ count-append x (reverse ns) (n ∷ []) ∙ omega (arith, count-reverse x ns, count-cons x n ns)

pub count_split : (x i : ℕ) (ns : List ℕ) → count x (take i ns) + count x (drop i ns) ≡ count x ns
count_split x i ns = sym (count-append x (take i ns) (drop i ns)) ∙ ap (count x) (take-append-drop i ns)

-- the first i, and the last of them by itself
pub count_last : (x i j : ℕ) (ns : List ℕ) → suc i ≡ j → j ≤ length ns → count x (take j ns) ≡ count x (take i ns) + count x (get_or ns i 0 ∷ [])
count_last x i j ns e h =
    ap (λ (n : ℕ). count x (take n ns)) (sym e) ∙ ap (count x) (take-suc ns i 0 (omega arith)) ∙ count-append x (take i ns) (get_or ns i 0 ∷ [])

pub count_numbers : (x b n : ℕ) → count x (numbers_from b (suc n)) ≡ count x (numbers_from b n) + count x ((b + n) ∷ [])
unfolding numbers_from
count_numbers x b zero = rw add-zero (omega (arith, count_none x))
count_numbers x b (suc n) =
    let more : suc b + n ≡ b + suc n = omega arith in
    omega (arith, count_numbers x (suc b) n, count-cons x b (numbers_from (suc b) (suc n)), count-cons x b (numbers_from (suc b) n), ap (λ (m : ℕ). count x (m ∷ [])) more)

-- ---- what is counted is there

pub mem-count : (x : ℕ) (ns : List ℕ) → Memᴰ x ns → 1 ≤ count x ns
unfolding count
mem-count x [] m = absurd (Memᴰ.not-nil m)
mem-count x (n ∷ ns) m = go (Memᴰ.cases_cons m) (mem-count x ns)
  where
    go : (x ≡ n) ⊎ Memᴰ x ns → (Memᴰ x ns → 1 ≤ count x ns) → 1 ≤ cond (eqb x n) 1 0 + count x ns
    go (inl e) rest = rw (eq-eqb x n e) (omega arith)
    go (inr h) rest = omega (arith, rest h)

pub count-mem : (x : ℕ) (ns : List ℕ) → 1 ≤ count x ns → Memᴰ x ns
unfolding count
count-mem x [] h = absurd (omega arith)
count-mem x (n ∷ ns) h = go (eqb x n) refl (count-mem x ns)
  where
    go : (b : Bool) → eqb x n ≡ b → (1 ≤ count x ns → Memᴰ x ns) → Memᴰ x (n ∷ ns)
    go true e rest = Memᴰ.head (eqb-true x n e)
    go false e rest =
        let none : ◌≡◌ {A = ℕ} (cond (eqb x n) 1 0) 0 = rw e in
        Memᴰ.tail (rest (omega arith))

-- a number at two places occurs twice
pub count_two : (ns : List ℕ) (i j : ℕ) → i < j → j < length ns → get_or ns i 0 ≡ get_or ns j 0 → 2 ≤ count (get_or ns j 0) ns
unfolding count
count_two [] i j h k e = absurd (omega arith)
count_two (n ∷ ns) i zero h k e = absurd (omega arith)
count_two (n ∷ ns) zero (suc j) h k e =
    rw (eq-eqb (get_or ns j 0) n (sym e)) (omega (arith, mem-count (get_or ns j 0) ns (get_d-mem ns j (omega arith))))
count_two (n ∷ ns) (suc i) (suc j) h k e = omega (arith, count_two ns i j (omega arith) (omega arith) e)

-- numbers one after another, each once
pub count-before : (x b n : ℕ) → x < b → count x (numbers_from b n) ≡ 0
unfolding count numbers_from
count-before x b zero h = refl
count-before x b (suc n) h = rw (ne_eqb x b (omega arith)) (omega (arith, count-before x (suc b) n (omega arith)))

pub count_once : (x b n : ℕ) → count x (numbers_from b n) ≤ 1
unfolding count numbers_from
count_once x b zero = omega arith
count_once x b (suc n) = go (eqb x b) refl (count_once x (suc b) n)
  where
    go : (t : Bool) → eqb x b ≡ t → count x (numbers_from (suc b) n) ≤ 1 → cond (eqb x b) 1 0 + count x (numbers_from (suc b) n) ≤ 1
    go true e rest =
        let same = eqb-true x b e in
        rw e (omega (arith, count-before x (suc b) n (omega arith)))
    go false e rest = rw e (omega arith)

pub count_within_lem : (x b n : ℕ) → 1 ≤ count x (numbers_from b n) → (b ≤ x) × (x < b + n)
unfolding count numbers_from
count_within_lem x b zero h = absurd (omega arith)
count_within_lem x b (suc n) h = go (eqb x b) refl (count_within_lem x (suc b) n)
  where
    go : (t : Bool) → eqb x b ≡ t → (1 ≤ count x (numbers_from (suc b) n) → (suc b ≤ x) × (x < suc b + n)) → (b ≤ x) × (x < b + suc n)
    go true e rest = omega (arith, eqb-true x b e)
    go false e rest =
        let none : ◌≡◌ {A = ℕ} (cond (eqb x b) 1 0) 0 = rw e in
        omega (arith, rest (omega arith))

-- how often the numbers below n occur
total : ℕ → List ℕ → ℕ
total zero ns = 0
total (suc n) ns = total n ns + count n ns

total_most : (n : ℕ) (ns : List ℕ) → ((x : ℕ) → count x ns ≤ 1) → total n ns ≤ n
unfolding total
total_most zero ns f = omega arith
total_most (suc n) ns f = omega (arith, total_most n ns f, f n)

total_past : (n x : ℕ) (ns : List ℕ) → n ≤ x → total n (x ∷ ns) ≡ total n ns
unfolding total count
total_past zero x ns h = refl
total_past (suc n) x ns h = rw (ne_eqb n x (omega arith)) (omega (arith, total_past n x ns (omega arith)))

total-cons : (n x : ℕ) (ns : List ℕ) → x < n → total n (x ∷ ns) ≡ suc (total n ns)
unfolding total count
total-cons zero x ns h = absurd (omega arith)
total-cons (suc n) x ns h = go (ℕ_discrete n x) (total-cons n x ns)
  where
    go : Dec (n ≡ x) → (x < n → total n (x ∷ ns) ≡ suc (total n ns)) → total n (x ∷ ns) + (cond (eqb n x) 1 0 + count n ns) ≡ suc (total n ns + count n ns)
    go (yes e) rest = rw (eq-eqb n x e) (omega (arith, total_past n x ns (omega arith)))
    go (no ne) rest = rw (ne_eqb n x ne) (omega (arith, rest (omega arith)))

total_none : (n : ℕ) → total n [] ≡ 0
unfolding total
total_none zero = refl
total_none (suc n) = omega (arith, total_none n, count_none n)

total_all : (n : ℕ) (ns : List ℕ) → ((x : ℕ) → Memᴰ x ns → x < n) → total n ns ≡ length ns
total_all n [] f = total_none n
total_all n (x ∷ ns) f = total-cons n x ns (f x (Memᴰ.head refl)) ∙ ap suc (total_all n ns (λ y m. f y (Memᴰ.tail m)))

-- numbers below n, each once, are no more than n
pub no_more : (n : ℕ) (ns : List ℕ) → ((x : ℕ) → count x ns ≤ 1) → ((x : ℕ) → Memᴰ x ns → x < n) → length ns ≤ n
no_more n ns once f = omega (arith, total_most n ns once, total_all n ns f)

-- ---- numbers that differ

-- a number that stands twice is counted twice, so one that does not is counted once at most
pub different_once : (ns : List ℕ) → Different ns → (x : ℕ) → count x ns ≤ 1
unfolding count
different_once [] d x = omega arith
different_once (n ∷ ns) d x = go (eqb x n) refl (different_once ns d.1 x) (dec_lt 0 (count x ns))
  where
    go : (b : Bool) → eqb x n ≡ b → count x ns ≤ 1 → Dec (0 < count x ns) → cond (eqb x n) 1 0 + count x ns ≤ 1
    go true e h (yes y) = absurd (d.0 (Memᴰ.cast (sym (eqb-true x n e)) (count-mem x ns (omega arith))))
    go true e h (no y) = rw e (omega arith)
    go false e h c = rw e (omega arith)

-- and numbers that are each counted once at most are different
pub once_different : (ns : List ℕ) → ((x : ℕ) → count x ns ≤ 1) → Different ns
unfolding count
once_different [] f = tt
once_different (n ∷ ns) f = (λ m. twice m, once_different ns (λ x. omega (arith, f x)))
  where
    twice : Memᴰ n ns → ⊥
    twice m =
        let one : ◌≡◌ {A = ℕ} (cond (eqb n n) 1 0) 1 = rw (eq-eqb n n refl) in
        omega (arith, f n, mem-count n ns m)

-- what stands in the front of a list of different numbers does not stand in the rest
pub different_apart : (xs ys : List ℕ) → Different (xs ++ ys) → (n : ℕ) → Memᴰ n xs → Memᴰ n ys → ⊥
different_apart [] ys d n m k = elim m [ ]
different_apart (x ∷ xs) ys d n m k = go (λ t. different_apart xs ys d.1 n t k) (Memᴰ.cases_cons m)
  where
    go : (Memᴰ n xs → ⊥) → (n ≡ x) ⊎ Memᴰ n xs → ⊥
    go f (inl e) = d.0 (Memᴰ.append_right xs (Memᴰ.cast (sym e) k))
    go f (inr t) = f t

-- a number that does not stand in a list is not counted
pub count-absent : (x : ℕ) (ns : List ℕ) → (Memᴰ x ns → ⊥) → count x ns ≡ 0
count-absent x ns f = go (dec_lt 0 (count x ns))
  where
    go : Dec (0 < count x ns) → count x ns ≡ 0
    go (yes y) = absurd (f (count-mem x ns (omega arith)))
    go (no n) = omega arith

-- ---- the tests of a whole list

-- a number that is counted in a list with one more in front is that one, or is counted in the list
pub counted_first : (x n : ℕ) (ns : List ℕ) → 1 ≤ count x (n ∷ ns) → (x ≡ n) ⊎ (1 ≤ count x ns)
unfolding count
counted_first x n ns h = go (eqb x n) refl
  where
    go : (b : Bool) → eqb x n ≡ b → (x ≡ n) ⊎ (1 ≤ count x ns)
    go true e = inl (eqb-true x n e)
    go false e =
        let none : ◌≡◌ {A = ℕ} (cond (eqb x n) 1 0) 0 = rw e in
        inr (omega arith)

pub count_first : (n : ℕ) (ns : List ℕ) → count n (n ∷ ns) ≡ suc (count n ns)
unfolding count
count_first n ns = rw (eq-eqb n n refl) (omega arith)

pub count_other : (x n : ℕ) (ns : List ℕ) → (x ≡ n → ⊥) → count x (n ∷ ns) ≡ count x ns
unfolding count
count_other x n ns other = rw (ne_eqb x n other) (omega arith)

pub count_more : (x n : ℕ) (ns : List ℕ) → count x ns ≤ count x (n ∷ ns)
count_more x n ns = omega (arith, count-cons x n ns)

pub below_each : (limit : ℕ) (ns : List ℕ) → all_below limit ns ≡ true → (x : ℕ) → 1 ≤ count x ns → x < limit
unfolding all_below
below_each limit [] e x h = absurd (omega (arith, count_none x))
below_each limit (n ∷ ns) e x h =
    let t = and-true (ltb n limit) (all_below limit ns) e in
    go t.0 (below_each limit ns t.1 x) (counted_first x n ns h)
  where
    go : ltb n limit ≡ true → (1 ≤ count x ns → x < limit) → (x ≡ n) ⊎ (1 ≤ count x ns) → x < limit
    go t rest (inl same) = omega (arith, same, ltb-true n limit t)
    go t rest (inr more) = rest more

pub each_below : (limit : ℕ) (ns : List ℕ) → ((x : ℕ) → 1 ≤ count x ns → x < limit) → all_below limit ns ≡ true
unfolding all_below
each_below limit [] f = refl
each_below limit (n ∷ ns) f =
    rw (lt-ltb n limit (f n (omega (arith, count_first n ns))), each_below limit ns (λ x h. f x (omega (arith, h, count_more x n ns)))) refl

pub all_different_once : (ns : List ℕ) → all_different ns ≡ true → (x : ℕ) → count x ns ≤ 1
unfolding all_different
all_different_once [] e x = omega (arith, count_none x)
all_different_once (n ∷ ns) e x =
    let t = and-true (eqb (count n ns) 0) (all_different ns) e in
    go (ℕ_discrete x n) (eqb-true (count n ns) 0 t.0) (all_different_once ns t.1 x)
  where
    go : Dec (x ≡ n) → count n ns ≡ 0 → count x ns ≤ 1 → count x (n ∷ ns) ≤ 1
    go (yes same) none rest = rw same (omega (arith, count_first n ns, none))
    go (no other) none rest = omega (arith, rest, count_other x n ns other)

pub once_all_different : (ns : List ℕ) → ((x : ℕ) → count x ns ≤ 1) → all_different ns ≡ true
unfolding all_different
once_all_different [] f = refl
once_all_different (n ∷ ns) f =
    rw (eq-eqb (count n ns) 0 (omega (arith, f n, count_first n ns)), once_all_different ns (λ x. omega (arith, f x, count_more x n ns))) refl

-- they are decided by how often each number is counted
pub same_different : (ms ns : List ℕ) → ((x : ℕ) → count x ms ≡ count x ns) → all_different ms ≡ all_different ns
same_different ms ns f =
    same_truth (all_different ms) (all_different ns) (λ e. once_all_different ns (λ x. omega (arith, f x, all_different_once ms e x)))
    (λ e. once_all_different ms (λ x. omega (arith, f x, all_different_once ns e x)))

pub same_below : (limit : ℕ) (ms ns : List ℕ) → ((x : ℕ) → count x ms ≡ count x ns) → all_below limit ms ≡ all_below limit ns
same_below limit ms ns f =
    same_truth (all_below limit ms) (all_below limit ns) (λ e. each_below limit ns (λ x h. below_each limit ms e x (omega (arith, h, f x))))
    (λ e. each_below limit ms (λ x h. below_each limit ns e x (omega (arith, h, f x))))

pub below-append : (limit : ℕ) (ms ns : List ℕ) → all_below limit (ms ++ ns) ≡ all_below limit ms && all_below limit ns
unfolding all_below
below-append limit [] ns = refl
below-append limit (m ∷ ms) ns = ap (λ (b : Bool). ltb m limit && b) (below-append limit ms ns) ∙ sym (and_assoc (ltb m limit) (all_below limit ms) (all_below limit ns))
