-- The numbers of a list, and its places.
use Prim.Native.Nat.{ℕ, zero, suc, ◌+◌, ◌≤◌, ◌<◌}
use mathlib.Core.Path.{◌≡◌, refl, subst}
use mathlib.Core.Logic.{◌⊎◌, inl, inr}
use mathlib.Core.List.Memᴰ
use mathlib.Core.List.{List, [], ◌∷◌, Memᴰ}
use native.Mathlib.Nat.{le_of_suc-le-suc, not-suc-le-zero}
use native.Mathlib.Omega.{arith}
use lib.ListN.{length, get_or, take, drop, take-append-drop}
use lib.Seq.{take-take}

-- what stands at a place is a number of the list
pub get_d-mem : (ns : List ℕ) (i : ℕ) → i < length ns → Memᴰ (get_or ns i 0) ns
get_d-mem [] i h = absurd (not-suc-le-zero h)
get_d-mem (n ∷ ns) zero h = Memᴰ.head refl
get_d-mem (n ∷ ns) (suc i) h = Memᴰ.tail (get_d-mem ns i (le_of_suc-le-suc h))

-- a part that ends within the first n
pub part_of_first : (from n : ℕ) (l : List ℕ) (m : ℕ) → from + m ≤ n → take m (drop from (take n l)) ≡ take m (drop from l)
part_of_first zero n l m h = take-take m n l (omega arith)
part_of_first (suc from) zero l m h = absurd (omega arith)
part_of_first (suc from) (suc n) [] m h = refl
part_of_first (suc from) (suc n) (x ∷ l) m h = part_of_first from n l m (omega arith)

-- a number of a part is one of the whole
pub part-mem : (x a b : ℕ) (ns : List ℕ) → Memᴰ x (take a (drop b ns)) → Memᴰ x ns
part-mem x a b ns m =
    subst (Memᴰ x) (take-append-drop b ns) (Memᴰ.append_right (take b ns) (subst (Memᴰ x) (take-append-drop a (drop b ns)) (Memᴰ.append_left (drop a (drop b ns)) m)))

-- a number of a list stands at some place
pub mem_place : (x : ℕ) (ns : List ℕ) → Memᴰ x ns → (i : ℕ) × (i < length ns) × (x ≡ get_or ns i 0)
mem_place x [] m = absurd (Memᴰ.not-nil m)
mem_place x (n ∷ ns) m = go (Memᴰ.cases_cons m) (mem_place x ns)
  where
    next : (i : ℕ) × (i < length ns) × (x ≡ get_or ns i 0) → (i : ℕ) × (i < suc (length ns)) × (x ≡ get_or (n ∷ ns) i 0)
    next (i, h, e) = (suc i, omega arith, e)

    go : (x ≡ n) ⊎ Memᴰ x ns → (Memᴰ x ns → (i : ℕ) × (i < length ns) × (x ≡ get_or ns i 0)) → (i : ℕ) × (i < suc (length ns)) × (x ≡ get_or (n ∷ ns) i 0)
    go (inl e) rest = (0, omega arith, e)
    go (inr h) rest = next (rest h)

-- all numbers of a list have what its places have
pub at_places : (Q : ℕ → Type 0) (ns : List ℕ) → ((j : ℕ) → j < length ns → Q (get_or ns j 0)) → (x : ℕ) → Memᴰ x ns → Q x
at_places Q ns f x m = go (mem_place x ns m)
  where
    go : (i : ℕ) × (i < length ns) × (x ≡ get_or ns i 0) → Q x
    go (i, h, e) = rw e (f i h)
