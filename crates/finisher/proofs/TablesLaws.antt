-- What the code puts into the tables, and the first bad number. By the laws of `sets`. Assumes nothing.
use Prim.Native.Nat.{ℕ, suc, ◌+◌, ◌<◌, ◌≤◌}
use native.Mathlib.Nat.{not-suc-le-zero}
use native.Mathlib.Numerals.{add-one}
use native.Mathlib.Omega.{arith}
use mathlib.Core.Path.{◌≡◌, refl, ap, sym, ◌∙◌}
use mathlib.Core.Bool.{Bool, true, false, ◌&&◌, ◌||◌, cond}
use mathlib.Core.Logic.{◌⊎◌, inl, inr}
use mathlib.Core.List.Memᴰ
use mathlib.Core.List.{List, [], ◌∷◌, reverse, Memᴰ}
use lib.Dec.{leb, ltb, eqb}
use lib.ListN.{length, get_or, take, drop, set, length-reverse}
use borrow.Rule.Slice.PartMut.{put_mid}
use lib.Seq.{sets, length-sets}
use Rattle.std.specs.Prelude.{Option, Some, None}
use Rattle.std.specs.List.{position_or_len, swap}
use borrow.Author.Tests.{leb-true, ltb-true, ltb-false}
use Rattle.laws.proofs.Tests.{cond_cases, and-true}
use Rattle.std.proofs.lemmas.List.Edits.{swap_is}
use Rattle.std.proofs.lemmas.Bool.Decides.{nat_tests}
use Rattle.std.proofs.lemmas.List.Recursion.{is_position_or_len}
use Rattle.laws.proofs.SetsLaws.{sets-append, sets_over, part-taken, part-written, sets_swapped}
use Rattle.finisher.specs.Finish.{first_bad}
use Rattle.finisher.specs.Steps.{swap_if, bad_place, push_list}

-- ---- the first bad number

bad_or_good : (limit n k : ℕ) → cond (leb 1 n && ltb n limit) (suc k) 0 ≡ cond (eqb n 0 || leb limit n) 0 (1 + k)
bad_or_good limit n k = grind (arith, nat_tests)

-- it is the first of those that are 0 or not below the limit
pub bad_found : (limit : ℕ) (ns : List ℕ) → first_bad limit ns ≡ position_or_len (λ n. eqb n 0 || leb limit n) ns
unfolding first_bad
bad_found limit ns = is_position_or_len (first_bad limit) (λ n. eqb n 0 || leb limit n) refl (λ n ns. bad_or_good limit n (first_bad limit ns)) ns

bad_within : (limit : ℕ) (ns : List ℕ) → first_bad limit ns ≤ length ns
unfolding first_bad
bad_within limit [] = omega arith
bad_within limit (n ∷ ns) =
    let rest = bad_within limit ns in
    cond_cases (λ (k : ℕ). k ≤ suc (length ns)) (leb 1 n && ltb n limit) _ _ (λ e. omega arith) (λ e. omega arith)

-- the place that is found, or none
module _ (limit : ℕ) (ns : List ℕ) where
  abbrev found : ℕ
  found = position_or_len (λ n. eqb n 0 || leb limit n) ns

  pub bad_some : {o : Option ℕ} {i : ℕ} → o ≡ bad_place limit ns → o ≡ Some i → (first_bad limit ns ≡ i) × (i < length ns)
  bad_some {o} {i} e f = go (ltb found (length ns)) refl (sym e ∙ f)
    where
      go : (b : Bool) → ltb found (length ns) ≡ b → cond b (Some found) None ≡ Some i → (first_bad limit ns ≡ i) × (i < length ns)
      go true t g = let same : found ≡ i = cc in (bad_found limit ns ∙ same, omega (arith, ltb-true found (length ns) t, same))
      go false t g = let never : ⊥ = cc in absurd never

  pub bad_none : {o : Option ℕ} → o ≡ bad_place limit ns → o ≡ None → first_bad limit ns ≡ length ns
  bad_none {o} e f = go (ltb found (length ns)) refl (sym e ∙ f)
    where
      go : (b : Bool) → ltb found (length ns) ≡ b → cond b (Some found) None ≡ None → first_bad limit ns ≡ length ns
      go true t g = let never : ⊥ = cc in absurd never
      go false t g = omega (arith, bad_found limit ns, ltb-false found (length ns) t, bad_within limit ns)

-- none of the freed numbers is bad
pub good_freed : (limit : ℕ) (ns : List ℕ) → first_bad limit ns ≡ length ns → (n : ℕ) → Memᴰ n ns → (1 ≤ n) × (n < limit)
unfolding first_bad
good_freed limit [] e n m = absurd (Memᴰ.not-nil m)
good_freed limit (x ∷ ns) e n m = go (leb 1 x && ltb x limit) refl (good_freed limit ns)
  where
    this : leb 1 x && ltb x limit ≡ true → (1 ≤ x) × (x < limit)
    this t = let u = and-true (leb 1 x) (ltb x limit) t in (leb-true 1 x u.0, ltb-true x limit u.1)

    at : leb 1 x && ltb x limit ≡ true → (n ≡ x) ⊎ Memᴰ n ns → (Memᴰ n ns → (1 ≤ n) × (n < limit)) → (1 ≤ n) × (n < limit)
    at t (inl f) rest = rw f (this t)
    at t (inr h) rest = rest h

    go : (b : Bool) → leb 1 x && ltb x limit ≡ b → (first_bad limit ns ≡ length ns → (n : ℕ) → Memᴰ n ns → (1 ≤ n) × (n < limit)) → (1 ≤ n) × (n < limit)
    go true t rest =
        let more : suc (first_bad limit ns) ≡ suc (length ns) = rw t at e in
        at t (Memᴰ.cases_cons m) (rest (omega arith) n)
    go false t rest =
        let none : 0 ≡ suc (length ns) = rw t at e in
        absurd (omega arith)

-- ---- the pages, from the last to the first

-- a list that was written to a part, turned round there
pub written_reversed : (l m vs : List ℕ) (at n : ℕ) {r : List ℕ} → at + length vs ≤ length l → n ≡ length vs → m ≡ sets l at vs
    → r ≡ reverse (take n (drop at m)) → put_mid at n m r ≡ sets l at (reverse vs)
written_reversed l m vs at n {r} fits e f g =
    let whole : take n (drop at m) ≡ vs = rw (e, f) (part-taken l at vs fits) in
    let turned : r ≡ reverse vs = g ∙ ap reverse whole in
    let long : length r ≡ n = rw (turned, e, length-reverse) in
    let room : at + n ≤ length m = rw (f, e) (simp length-sets fits) in
    part-written m at n r long room ∙ rw (turned, f, sets_over l at vs (reverse vs) (rw length-reverse (omega arith)))

-- ---- the push list

module _ (l a b freed released : List ℕ) (at : ℕ) (first : a ≡ sets l at freed) (second : b ≡ sets a (at + length freed) (reverse released)) where
  both : b ≡ sets (sets l at freed) (at + length freed) (reverse released)
  both = second ∙ ap (λ (m : List ℕ). sets m (at + length freed) (reverse released)) first

  pub pushes_ordinary : b ≡ sets l at (push_list freed false released 0)
  unfolding push_list
  pushes_ordinary = both ∙ sym (sets-append l at freed (reverse released))

  pub pushes_mended : {r : List ℕ} → 2 ≤ length released → at + length freed + length released ≤ length l
      → r ≡ swap b (at + length freed) (at + length freed + 1) → r ≡ sets l at (push_list freed true released 0)
  unfolding push_list
  pushes_mended two fits e =
      let long : length b ≡ length l = rw both (simp length-sets) in
      e ∙ sym (swap_is b (at + length freed) (at + length freed + 1) 0 (omega arith) (omega arith))
      ∙ rw (add-one (at + length freed), both, sets-append l at freed (swap_if true (reverse released)))
      (turned (reverse released) (rw length-reverse two))
    where
      turned : (ns : List ℕ) → 2 ≤ length ns
          → set (set (sets (sets l at freed) (at + length freed) ns) (at + length freed) (get_or (sets (sets l at freed) (at + length freed) ns) (suc (at + length freed)) 0))
          (suc (at + length freed)) (get_or (sets (sets l at freed) (at + length freed) ns) (at + length freed) 0)
          ≡ sets (sets l at freed) (at + length freed) (swap_if true ns)
      turned [] h = absurd (not-suc-le-zero h)
      turned (x ∷ []) h = absurd (omega arith)
      turned (x ∷ y ∷ ns) h = sets_swapped (sets l at freed) (at + length freed) x y ns (omega (arith, length-sets l at freed))

-- of a part of the pages
pub push_list_part : (freed : List ℕ) (mended : Bool) {part : List ℕ} (pages : List ℕ) (low : ℕ) → part ≡ drop low pages
    → push_list freed mended part 0 ≡ push_list freed mended pages low
unfolding push_list
push_list_part freed mended pages low e = rw e
