-- The tests of a reader, passed by the pages of a list of the shape.
use Prim.Native.Nat.{ℕ, zero, suc, ◌+◌, ◌*◌, ◌-◌, ◌<◌, ◌≤◌}
use native.Mathlib.Nat.{mul-zero}
use native.Mathlib.Decide.{dec_lt}
use native.Mathlib.Omega.{arith}
use mathlib.Core.Path.{◌≡◌, refl, ap, sym, ◌∙◌}
use mathlib.Core.Bool.{Bool, true, false}
use mathlib.Core.List.{List, [], ◌∷◌, Memᴰ}
use lib.ListN.{length, get_or, take, drop, length-take, length-drop}
use lib.Seq.{get_or-take, get_or-drop}
use borrow.Author.Tests.{le-leb, lt-ltb, eq-eqb, ne_eqb}
use Rattle.laws.proofs.PlacesLaws.{get_d-mem}
use Rattle.free_list.specs.Shape.{is_fragmented, entries_below}
use Rattle.free_list.specs.StoredList.{Inside}
use Rattle.free_list.specs.Reading.{count_fits, all_entries_fit}
use Rattle.free_list.proofs.BelowLaws.{fragmented_is, is_fragmented_lem, below_all, below_inner, below-head, below-fragmented}

-- the head, a whole page, and the page that lacks one
fits_head : (c above entries m : ℕ) → above ≡ 0 → 1 ≤ m → m ≤ c → count_fits false c above entries m ≡ true
unfolding count_fits
fits_head c above entries m e some most = rw (eq-eqb above 0 e, le-leb 1 m some, le-leb m c most)

fits_whole : (c above entries m : ℕ) → 1 ≤ above → m ≡ c → count_fits false c above entries m ≡ true
unfolding count_fits
fits_whole c above entries m h e = rw (ne_eqb above 0 (omega arith), eq-eqb m c e)

fits_lacking : (c above entries m : ℕ) → above ≡ 1 → entries ≡ 1 → m + 1 ≡ c → count_fits false c above entries m ≡ true
unfolding count_fits
fits_lacking c above entries m e one lacks =
    rw (ne_eqb above 0 (omega arith), ne_eqb m c (omega arith), eq-eqb above 1 e, eq-eqb entries 1 one, eq-eqb (m + 1) c lacks)

-- a list that is not fragmented has not just the entries of one page less
pub not_fragmented : (c P L : ℕ) → is_fragmented c P L ≡ false → 2 ≤ P → L ≡ c * (P - 1) → ⊥
not_fragmented c P L e two all =
    let f = is_fragmented_lem c P L two all in
    let z : ◌≡◌ {A = ℕ} 0 1 = cc in
    omega arith

-- the head of a list that is not fragmented has an entry
some_on_head : (c P L j : ℕ) → j + 1 ≡ P → 1 ≤ L → c * (P - 1) ≤ L → is_fragmented c P L ≡ false → c * j < L
some_on_head c P L zero head some least e = omega (arith, mul-zero c)
some_on_head c P L (suc j) head some least e =
    let under : c * (P - 1) ≡ c * suc j = ap (λ (n : ℕ). c * n) last in
    omega (arith, not_fragmented c P L e (omega arith))
  where
    last : P - 1 ≡ suc j
    last = omega arith

module _ (c P L : ℕ) (pos : 2 ≤ c) (some : 1 ≤ L) (most : L ≤ c * P) (least : c * (P - 1) ≤ L) (j : ℕ) (inside : j < P) where
  -- page j of a list of the shape has a count that fits, with the pages and entries above it
  abbrev Fits : Type 0
  Fits = count_fits false c (P - (j + 1)) (L - entries_below c P L (j + 1)) (entries_below c P L (j + 1) - entries_below c P L j) ≡ true

  fits_on_head : j + 1 ≡ P → (b : Bool) → is_fragmented c P L ≡ b → Fits
  fits_on_head head true e =
      rw (← below_all c P L (j + 1) (omega arith), ← below-fragmented c P L j head e)
      (fits_head c (P - (j + 1)) (L - L) (L - (L - 1)) (omega arith) (omega arith) (omega arith))
  fits_on_head head false e =
      let more = some_on_head c P L j head some least e in
      let whole : c * P ≡ c * j + c = ap (λ (k : ℕ). c * k) (sym head) ∙ omega arith in
      rw (← below_all c P L (j + 1) (omega arith), ← below-head c P L j head e)
      (fits_head c (P - (j + 1)) (L - L) (L - c * j) (omega arith) (omega arith) (omega arith))

  fits_under : j + 2 ≡ P → (b : Bool) → is_fragmented c P L ≡ b → Fits
  fits_under under true e =
      let all = (fragmented_is c P L e).1 in
      let next : c * (P - 1) ≡ c * j + c = ap (λ (k : ℕ). c * k) last ∙ omega arith in
      rw (← below_inner c P L j (omega arith), ← below-fragmented c P L (j + 1) (omega arith) e)
      (fits_lacking c (P - (j + 1)) (L - (L - 1)) (L - 1 - c * j) (omega arith) (omega arith) (omega arith))
    where
      last : P - 1 ≡ j + 1
      last = omega arith
  fits_under under false e =
      let next : c * (j + 1) ≡ c * j + c = omega arith in
      rw (← below_inner c P L j (omega arith), ← below-head c P L (j + 1) (omega arith) e)
      (fits_whole c (P - (j + 1)) (L - c * (j + 1)) (c * (j + 1) - c * j) (omega arith) (omega arith))

  fits_deeper : j + 2 < P → Fits
  fits_deeper h =
      let next : c * (j + 1) ≡ c * j + c = omega arith in
      rw (← below_inner c P L j (omega arith), ← below_inner c P L (j + 1) (omega arith))
      (fits_whole c (P - (j + 1)) (L - c * (j + 1)) (c * (j + 1) - c * j) (omega arith) (omega arith))

  pub count_fits_lem : Fits
  count_fits_lem = place (dec_lt (j + 1) P) (dec_lt (j + 2) P)
    where
      place : Dec (j + 1 < P) → Dec (j + 2 < P) → Fits
      place (no n) d = fits_on_head (omega arith) (is_fragmented c P L) refl
      place (yes y) (no n) = fits_under (omega arith) (is_fragmented c P L) refl
      place (yes y) (yes z) = fits_deeper z

-- below the bottom page stands nothing
pub below_none : (c P L : ℕ) → (P ≡ 0 → L ≡ 0) → entries_below c P L 0 ≡ 0
below_none c P L none = place (dec_lt 1 P)
  where
    head : 0 + 1 ≡ P → (b : Bool) → is_fragmented c P L ≡ b → entries_below c P L 0 ≡ 0
    head e true f = absurd (omega (arith, (fragmented_is c P L f).0))
    head e false f = sym (below-head c P L 0 e f) ∙ mul-zero c

    bottom : (n : ℕ) → P ≡ n → (1 < P → ⊥) → entries_below c P L 0 ≡ 0
    bottom zero e n = sym (below_all c P L 0 (omega arith)) ∙ none e
    bottom (suc m) e n = head (omega arith) (is_fragmented c P L) refl

    place : Dec (1 < P) → entries_below c P L 0 ≡ 0
    place (yes y) = sym (below_inner c P L 0 (omega arith)) ∙ mul-zero c
    place (no n) = bottom P refl n

-- entries that are all pages of the store pass their test
pub fit_entries : (count : ℕ) (ns : List ℕ) → ((i : ℕ) → i < length ns → Inside count (get_or ns i 0)) → all_entries_fit count ns ≡ true
unfolding all_entries_fit
fit_entries count [] f = refl
fit_entries count (n ∷ ns) f =
    let h : Inside count n = f 0 (omega arith) in
    rw (le-leb 1 n h.0, lt-ltb n count h.1, fit_entries count ns (λ i k. f (suc i) (omega arith)))

-- the same of a part of them
pub fit_part : (count a b : ℕ) (ns : List ℕ) → ((n : ℕ) → Memᴰ n ns → Inside count n) → all_entries_fit count (take a (drop b ns)) ≡ true
fit_part count a b ns f = fit_entries count (take a (drop b ns)) at
  where
    at : (i : ℕ) → i < length (take a (drop b ns)) → Inside count (get_or (take a (drop b ns)) i 0)
    at i h =
        let long : (i < a) × (b + i < length ns) = omega (arith, length-take a (drop b ns), length-drop b ns) in
        let e = get_or-take a (drop b ns) i 0 long.0 ∙ get_or-drop b ns i 0 in
        rw e (f (get_or ns (b + i) 0) (get_d-mem ns (b + i) long.1))
