-- Values written to a list one after another, from a place on.
use Prim.Native.Nat.{ℕ, zero, suc, ◌+◌, ◌-◌, ◌≤◌, ◌<◌}
use mathlib.Core.Path.{◌≡◌, refl, sym, ◌∙◌, ap}
use mathlib.Core.Logic.{◌≢◌}
use mathlib.Core.List.{List, [], ◌∷◌, ◌++◌, append-nil, append_assoc}
use native.Mathlib.Nat.{le_of_suc-le-suc, not-suc-le-zero, add-zero, zero-add, suc-add, add-suc}
use native.Mathlib.Omega.{arith}
use borrow.Rule.Slice.PartMut.{put_mid}
use lib.ListN.{length, get_or, take, drop, set, length-set, length-drop, take-append-drop, replicate, length-replicate, replicate-append-replicate, drop_of_length-le}
use lib.Seq.{sets, sets-eq, drop-drop, drop-append-le, set-set, set_comm, get_or-set_same, get_or-set_other, length-take-le, take_at, drop_at, take-add}

-- in two parts
pub sets-append : (l : List ℕ) (i : ℕ) (xs ys : List ℕ) → sets l i (xs ++ ys) ≡ sets (sets l i xs) (i + length xs) ys
sets-append l i [] ys = rw add-zero
sets-append l i (x ∷ xs) ys = rw (sets-append (set l i x) (suc i) xs ys, suc-add, add-suc)

-- one value more, behind the others
pub sets-snoc : (l : List ℕ) (i : ℕ) (xs : List ℕ) (x n : ℕ) → length xs ≡ n → sets l i (xs ++ (x ∷ [])) ≡ set (sets l i xs) (i + n) x
sets-snoc l i xs x n e = rw (sets-append l i xs (x ∷ []), e)

-- zeros from place `from` up to i, with one more stored
pub zeros_more : (l m : List ℕ) (from i : ℕ) → from ≤ i → m ≡ sets l from (replicate (i - from) 0) → set m i 0 ≡ sets l from (replicate (i + 1 - from) 0)
zeros_more l m from i h e =
    let n = i - from in
    let one : i + 1 - from ≡ n + 1 = omega arith in
    let last : from + n ≡ i = omega arith in
    rw (one, ← replicate-append-replicate {A = ℕ} n 1 0, sets-snoc l from (replicate n 0) 0 n (length-replicate {A = ℕ} n 0), last, ← e)

-- zeros, with k more behind them
pub zeros_joined : (l m : List ℕ) (from i k : ℕ) → m ≡ sets l from (replicate i 0) → sets m (from + i) (replicate k 0) ≡ sets l from (replicate (i + k) 0)
zeros_joined l m from i k e =
    rw (← replicate-append-replicate {A = ℕ} i k 0, sets-append l from (replicate i 0) (replicate k 0), length-replicate {A = ℕ} i 0, ← e)

-- a part more
pub part_copied : (l m a : List ℕ) (from to i n : ℕ) → from + i ≤ length a → m ≡ sets l to (take i (drop from a)) → sets m (to + i) (take n (drop (from + i) a)) ≡ sets l to (take (i + n) (drop from a))
part_copied l m a from to i n h e =
    let first = take i (drop from a) in
    let long : length first ≡ i = length-take-le i (drop from a) (omega (arith, length-drop from a)) in
    rw (take-add i n (drop from a), drop-drop i from a, sets-append l to first (take n (drop (from + i) a)), long, ← e)

-- all places
pub sets_whole : (l vs : List ℕ) → length vs ≡ length l → sets l 0 vs ≡ vs
sets_whole l vs e =
    let all : length l ≤ length vs = omega arith in
    sets-eq vs l 0 (omega arith) ∙ rw (zero-add (length vs), drop_of_length-le l all, append-nil vs)

-- a list that was written to a table is the part there, and where it begins at the table's start its first part
pub part-taken : (l : List ℕ) (i : ℕ) (vs : List ℕ) → i + length vs ≤ length l → take (length vs) (drop i (sets l i vs)) ≡ vs
part-taken l i vs h =
    rw (sets-eq vs l i h, append_assoc (take i l) vs (drop (i + length vs) l), drop_at (take i l) (vs ++ drop (i + length vs) l) i (length-take-le i l (omega arith)))
    (take_at vs (drop (i + length vs) l) (length vs) refl)

pub take-sets : (l vs : List ℕ) → length vs ≤ length l → take (length vs) (sets l 0 vs) ≡ vs
take-sets l vs h = part-taken l 0 vs (rw (zero-add (length vs)) h)

-- a store before the places of the others
set-sets : (l : List ℕ) (i : ℕ) (xs : List ℕ) (j x : ℕ) → i + length xs ≤ j → sets (set l j x) i xs ≡ set (sets l i xs) j x
set-sets l i [] j x h = refl
set-sets l i (y ∷ ys) j x h =
    let ne : j ≢ i = omega arith in
    rw (set_comm l j i x y ne) (set-sets (set l i y) (suc i) ys j x (omega arith))

-- two parts that do not meet, in either order
pub sets_comm : (l : List ℕ) (i : ℕ) (xs : List ℕ) (j : ℕ) (ys : List ℕ) → i + length xs ≤ j → sets (sets l j ys) i xs ≡ sets (sets l i xs) j ys
sets_comm l i xs j [] h = refl
sets_comm l i xs j (y ∷ ys) h =
    sets_comm (set l j y) i xs (suc j) ys (omega arith) ∙ ap (λ (m : List ℕ). sets m (suc j) ys) (set-sets l i xs j y h)

-- a place before those that are written
pub get_d_sets_before : (l : List ℕ) (i : ℕ) (xs : List ℕ) (j d : ℕ) → j < i → get_or (sets l i xs) j d ≡ get_or l j d
get_d_sets_before l i [] j d h = refl
get_d_sets_before l i (x ∷ xs) j d h =
    let ne : j ≢ i = omega arith in
    get_d_sets_before (set l i x) (suc i) xs j d (omega arith) ∙ get_or-set_other l i j x d ne

-- a place behind those that are written, and one of them
pub get_d_sets_behind : (l : List ℕ) (i : ℕ) (xs : List ℕ) (j d : ℕ) → i + length xs ≤ j → get_or (sets l i xs) j d ≡ get_or l j d
get_d_sets_behind l i [] j d h = refl
get_d_sets_behind l i (x ∷ xs) j d h =
    let ne : j ≢ i = omega arith in
    get_d_sets_behind (set l i x) (suc i) xs j d (omega arith) ∙ get_or-set_other l i j x d ne

pub get_d_sets_in : (l : List ℕ) (i : ℕ) (xs : List ℕ) (k d : ℕ) → k < length xs → i + k < length l → get_or (sets l i xs) (i + k) d ≡ get_or xs k d
get_d_sets_in l i [] k d h room = absurd (not-suc-le-zero h)
get_d_sets_in l i (x ∷ xs) zero d h room =
    let here : i + 0 ≡ i = omega arith in
    rw here (get_d_sets_before (set l i x) (suc i) xs i d (omega arith) ∙ get_or-set_same l i x d (omega arith))
get_d_sets_in l i (x ∷ xs) (suc k) d h room =
    let next : i + suc k ≡ suc i + k = omega arith in
    rw next (get_d_sets_in (set l i x) (suc i) xs k d (omega arith) (omega (arith, length-set l i x)))

pub set-sets-before : (l : List ℕ) (i : ℕ) (xs : List ℕ) (j x : ℕ) → j < i → set (sets l i xs) j x ≡ sets (set l j x) i xs
set-sets-before l i [] j x h = refl
set-sets-before l i (y ∷ ys) j x h =
    let ne : i ≢ j = omega arith in
    set-sets-before (set l i y) (suc i) ys j x (omega arith) ∙ ap (λ (m : List ℕ). sets m (suc i) ys) (set_comm l i j y x ne)

-- what was written before is written over
pub sets_over : (l : List ℕ) (i : ℕ) (xs ys : List ℕ) → length xs ≤ length ys → sets (sets l i xs) i ys ≡ sets l i ys
sets_over l i [] ys h = refl
sets_over l i (x ∷ xs) [] h = absurd (not-suc-le-zero h)
sets_over l i (x ∷ xs) (y ∷ ys) h =
    rw (set-sets-before (set l i x) (suc i) xs i y (omega arith), set-set l i x y) (sets_over (set l i y) (suc i) xs ys (le_of_suc-le-suc h))

-- the first two of those that are written change places
pub sets_swapped : (l : List ℕ) (i x y : ℕ) (ns : List ℕ) → suc i < length l
    → set (set (sets l i (x ∷ y ∷ ns)) i (get_or (sets l i (x ∷ y ∷ ns)) (suc i) 0)) (suc i) (get_or (sets l i (x ∷ y ∷ ns)) i 0) ≡ sets l i (y ∷ x ∷ ns)
sets_swapped l i x y ns h =
    let m = set (set l i x) (suc i) y in
    let ne : i ≢ suc i = omega arith in
    let en : suc i ≢ i = omega arith in
    let first : get_or (sets m (suc (suc i)) ns) i 0 ≡ x =
    get_d_sets_before m (suc (suc i)) ns i 0 (omega arith) ∙ get_or-set_other (set l i x) (suc i) i y 0 ne ∙ get_or-set_same l i x 0 (omega arith) in
    let second : get_or (sets m (suc (suc i)) ns) (suc i) 0 ≡ y =
    get_d_sets_before m (suc (suc i)) ns (suc i) 0 (omega arith) ∙ get_or-set_same (set l i x) (suc i) y 0 (omega (arith, length-set l i x)) in
    rw (first, second, set-sets-before m (suc (suc i)) ns i y (omega arith), set-sets-before (set m i y) (suc (suc i)) ns (suc i) x (omega arith))
    (ap (λ (z : List ℕ). sets z (suc (suc i)) ns) (ap (λ (z : List ℕ). set z (suc i) x) (set_comm (set l i x) (suc i) i y y en ∙ ap (λ (z : List ℕ). set z (suc i) y) (set-set l i x y)) ∙ set-set (set l i y) (suc i) y x))

-- values that stand there already, and others behind them
pub sets-kept : (l : List ℕ) (i : ℕ) (xs : List ℕ) → i ≤ length l → sets l 0 (take i l ++ xs) ≡ sets l i xs
sets-kept l i xs h =
    let long : length (take i l) ≡ i = length-take-le i l h in
    let same : sets l 0 (take i l) ≡ l = sets-eq (take i l) l 0 (omega arith) ∙ rw (zero-add (length (take i l)), long) (take-append-drop i l) in
    sets-append l 0 (take i l) xs ∙ rw (same, zero-add (length (take i l)), long)

-- a part that was lent and has come back, said of the whole
pub part-written : {A : Type 0} (l : List A) (i n : ℕ) (vs : List A) → length vs ≡ n → i + n ≤ length l → put_mid i n l vs ≡ sets l i vs
part-written l i n vs e h = rw drop-drop (sym (sets-eq vs l i (omega arith) ∙ rw (e, append_assoc)))

-- values written to the start of a part
pub part-sets : (l : List ℕ) (i n : ℕ) (vs : List ℕ) → i + n ≤ length l → length vs ≤ n → put_mid i n l (sets (take n (drop i l)) 0 vs) ≡ sets l i vs
part-sets l i n vs h k =
    let d = drop i l in
    let long : length (take n d) ≡ n = length-take-le n d (omega (arith, length-drop i l)) in
    let written : sets (take n d) 0 vs ≡ vs ++ drop (length vs) (take n d) = sets-eq vs (take n d) 0 (omega arith) ∙ rw (zero-add (length vs)) in
    let rest : drop (length vs) (take n d) ++ drop n d ≡ drop (i + length vs) l =
    sym (drop-append-le (length vs) (take n d) (drop n d) (omega arith)) ∙ rw (take-append-drop n d, drop-drop) in
    rw (written, append_assoc vs (drop (length vs) (take n d)) (drop n d), rest) (sym (sets-eq vs l i (omega arith) ∙ rw append_assoc))
