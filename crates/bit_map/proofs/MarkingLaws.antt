-- Numbers marked one after another from a map with none marked: whether all are, and what the map is once it is cleared again.
-- By the set of numbers that the map has (`Holds`), and by its bytes, place by place. Assumes nothing.
use Prim.Native.Nat.{ℕ, ◌+◌, ◌/◌, ◌<◌, ◌≤◌}
use native.Mathlib.Decide.{ℕ_discrete, dec_lt}
use native.Mathlib.Omega.{arith}
use mathlib.Core.Path.{◌≡◌, refl, ap, sym, ◌∙◌}
use mathlib.Core.Logic.{◌⊎◌, inl, inr}
use mathlib.Core.Bool.{Bool, true, false, ◌&&◌, ◌||◌, cond, not}
use mathlib.Core.List.{List, [], ◌∷◌, ◌++◌}
use lib.Dec.{eqb, ltb}
use lib.ListN.{length, get_or, set, length-set, drop, drop_of_length-le}
use lib.Seq.{get_or-set_same, get_or-set_other}
use borrow.Author.Tests.{eq-eqb, eqb-true, lt-ltb, ltb-true}
use Rattle.std.proofs.lemmas.List.{ext_get_or, drop_more}
use Rattle.laws.specs.Counting.{count, all_different, all_below}
use Rattle.laws.proofs.Tests.{cond_cases, and-true, same_truth, or-true, or-false, not_both}
use Rattle.laws.proofs.CountLaws.{count_none, count_first, count_other, count_more, below_each, each_below, all_different_once, once_all_different}
use Rattle.bit_map.specs.BitMap.{bytes_in_use, has_bits, is_marked, with_marked, cleared}
use Rattle.bit_map.specs.Marking.{Marking, mark_all, bytes_zero}
use Rattle.bit_map.proofs.BitMapLaws.{in_use, in_map, length-marked, marked_same, marked_other, length-cleared, cleared_in, cleared_behind, cleared_none}

module _ (limit : ℕ) where
  -- ---- the steps

  abbrev goes : List ℕ → ℕ → Bool
  goes map n = ltb n limit && not (is_marked map n)

  pub mark-append : (map xs ys : List ℕ) → mark_all limit map (xs ++ ys)
      ≡ cond (mark_all limit map xs).all (mark_all limit (mark_all limit map xs).map ys) (mark_all limit map xs)
  unfolding mark_all
  mark-append map [] ys = refl
  mark-append map (n ∷ xs) ys = go (goes map n) refl (mark-append (with_marked map n) xs ys)
    where
      go : (b : Bool) → goes map n ≡ b
          → mark_all limit (with_marked map n) (xs ++ ys)
          ≡ cond (mark_all limit (with_marked map n) xs).all (mark_all limit (mark_all limit (with_marked map n) xs).map ys) (mark_all limit (with_marked map n) xs)
          → mark_all limit map (n ∷ (xs ++ ys)) ≡ cond (mark_all limit map (n ∷ xs)).all (mark_all limit (mark_all limit map (n ∷ xs)).map ys) (mark_all limit map (n ∷ xs))
      go true e rest = rw e rest
      go false e rest = rw e refl

  -- where some were marked, and with what is left: it goes on where all were, and ends there where not all were
  module _ (map xs ys : List ℕ) {all : Bool} {after : List ℕ} (e : ◌≡◌ {A = Marking} (record { all = all; map = after }) (mark_all limit map xs)) where
    pub marks_on : all ≡ true → mark_all limit map (xs ++ ys) ≡ mark_all limit after ys
    marks_on t = mark-append map xs ys ∙ rw (← e, t) refl

    pub marks_off : all ≡ false → mark_all limit map (xs ++ ys) ≡ record { all = false; map = after }
    marks_off t = mark-append map xs ys ∙ rw (← e, t) refl

  -- the same of a table of which the first i were marked
  module _ (map ns : List ℕ) (i : ℕ) (inside : i < length ns) {all : Bool} {after : List ℕ}
      (e : ◌≡◌ {A = Marking} (record { all = all; map = after }) (mark_all limit map (get_or ns i 0 ∷ []))) where
    pub next_on : all ≡ true → mark_all limit after (drop (i + 1) ns) ≡ mark_all limit map (drop i ns)
    next_on t = sym (marks_on map (get_or ns i 0 ∷ []) (drop (i + 1) ns) e t) ∙ ap (mark_all limit map) (sym (drop_more ns i 0 inside))

    pub next_off : all ≡ false → mark_all limit map (drop i ns) ≡ record { all = false; map = after }
    next_off t = ap (mark_all limit map) (drop_more ns i 0 inside) ∙ marks_off map (get_or ns i 0 ∷ []) (drop (i + 1) ns) e t

  -- none is left
  pub none_left : (map ns : List ℕ) (i : ℕ) → length ns ≤ i → mark_all limit map (drop i ns) ≡ record { all = true; map = map }
  unfolding mark_all
  none_left map ns i h = rw (drop_of_length-le ns h) refl

  abbrev zeroed : List ℕ → ℕ → List ℕ
  zeroed map n = cond (ltb n limit) (set map (n / 8) 0) map

  pub zero-append : (map xs ys : List ℕ) → bytes_zero limit map (xs ++ ys) ≡ bytes_zero limit (bytes_zero limit map xs) ys
  unfolding bytes_zero
  zero-append map [] ys = refl
  zero-append map (n ∷ xs) ys = zero-append (zeroed map n) xs ys

  pub next_zero : (map ns : List ℕ) (i : ℕ) → i < length ns → bytes_zero limit (bytes_zero limit map (get_or ns i 0 ∷ [])) (drop (i + 1) ns) ≡ bytes_zero limit map (drop i ns)
  next_zero map ns i inside = sym (zero-append map (get_or ns i 0 ∷ []) (drop (i + 1) ns)) ∙ ap (bytes_zero limit map) (sym (drop_more ns i 0 inside))

  pub no_zero_left : (map ns : List ℕ) (i : ℕ) → length ns ≤ i → bytes_zero limit map (drop i ns) ≡ map
  unfolding bytes_zero
  no_zero_left map ns i h = rw (drop_of_length-le ns h) refl

  pub length-mark_all : (map ns : List ℕ) → length (mark_all limit map ns).map ≡ length map
  unfolding mark_all
  length-mark_all map [] = refl
  length-mark_all map (n ∷ ns) = go (goes map n) refl (length-mark_all (with_marked map n) ns)
    where
      go : (b : Bool) → goes map n ≡ b → length (mark_all limit (with_marked map n) ns).map ≡ length (with_marked map n) → length (mark_all limit map (n ∷ ns)).map ≡ length map
      go true e rest = rw e (rest ∙ length-marked map n)
      go false e rest = rw e refl

  pub length-bytes_zero : (map ns : List ℕ) → length (bytes_zero limit map ns) ≡ length map
  unfolding bytes_zero
  length-bytes_zero map [] = refl
  length-bytes_zero map (n ∷ ns) = length-bytes_zero (zeroed map n) ns ∙ cond_cases (λ (m : List ℕ). length m ≡ length map) (ltb n limit) _ _ (λ _. length-set map (n / 8) 0) (λ _. refl)

  -- ---- what is marked

  -- of the numbers below the limit just these are marked
  record Holds (map seen : List ℕ) : Type 0 where
    room : has_bits limit (length map) ≡ true
    marked : (n : ℕ) → n < limit → 1 ≤ count n seen → is_marked map n ≡ true
    others : (n : ℕ) → n < limit → count n seen ≡ 0 → is_marked map n ≡ false

  holds_none : (map : List ℕ) → has_bits limit (length map) ≡ true → Holds (cleared limit map) []
  holds_none map room = record {
    room = rw (length-cleared limit map) room;
    marked = λ n h some. absurd (omega (arith, some, count_none n));
    others = λ n h _. cleared_none limit map n room h;
  }

  holds_more : {map seen : List ℕ} (n : ℕ) → n < limit → Holds map seen → Holds (with_marked map n) (n ∷ seen)
  holds_more {map} {seen} n h k = record {
    room = rw (length-marked map n) k.room;
    marked = λ m below some. yes_marked m below some (ℕ_discrete m n);
    others = λ m below none. not_marked m below none (ℕ_discrete m n);
  }
    where
      here : n / 8 < length map
      here = in_map limit map n k.room h

      yes_marked : (m : ℕ) → m < limit → 1 ≤ count m (n ∷ seen) → Dec (m ≡ n) → is_marked (with_marked map n) m ≡ true
      yes_marked m below some (yes same) = rw same (marked_same map n here)
      yes_marked m below some (no other) = marked_other map n m here other ∙ k.marked m below (omega (arith, some, count_other m n seen other))

      not_marked : (m : ℕ) → m < limit → count m (n ∷ seen) ≡ 0 → Dec (m ≡ n) → is_marked (with_marked map n) m ≡ false
      not_marked m below none (yes same) = absurd (omega (arith, none, count_first n seen, ap (λ (x : ℕ). count x (n ∷ seen)) same))
      not_marked m below none (no other) = marked_other map n m here other ∙ k.others m below (omega (arith, none, count_other m n seen other))

  -- one that is not marked is none of those seen
  goes_new : {map seen : List ℕ} (n : ℕ) → Holds map seen → goes map n ≡ true → (n < limit) × (count n seen ≡ 0)
  goes_new {map} {seen} n k e =
      let t = and-true (ltb n limit) (not (is_marked map n)) e in
      let below = ltb-true n limit t.0 in
      (below, none below t.1 (dec_lt 0 (count n seen)))
    where
      none : n < limit → not (is_marked map n) ≡ true → Dec (0 < count n seen) → count n seen ≡ 0
      none below fresh (yes some) = absurd (not_both (not (is_marked map n)) fresh (ap not (k.marked n below (omega arith))))
      none below fresh (no h) = omega arith

  new_goes : {map seen : List ℕ} (n : ℕ) → Holds map seen → n < limit → count n seen ≡ 0 → goes map n ≡ true
  new_goes {map} {seen} n k below none = rw (lt-ltb n limit below, k.others n below none) refl

  -- all are marked: so each is below the limit, none was seen, and none comes twice
  marked_new : (map seen ns : List ℕ) → Holds map seen → (mark_all limit map ns).all ≡ true → (x : ℕ) → 1 ≤ count x ns → (x < limit) × (count x seen ≡ 0) × (count x ns ≤ 1)
  unfolding mark_all
  marked_new map seen [] k e x some = absurd (omega (arith, some, count_none x))
  marked_new map seen (n ∷ ns) k e x some = go (goes map n) refl (λ h. marked_new (with_marked map n) (n ∷ seen) ns h)
    where
      by_first : (n < limit) × (count n seen ≡ 0) → ((y : ℕ) → 1 ≤ count y ns → (y < limit) × (count y (n ∷ seen) ≡ 0) × (count y ns ≤ 1))
          → Dec (x ≡ n) → (x < limit) × (count x seen ≡ 0) × (count x (n ∷ ns) ≤ 1)
      by_first new rest (yes same) = rw same (new.0, new.1, once (dec_lt 0 (count n ns)))
        where
          once : Dec (0 < count n ns) → count n (n ∷ ns) ≤ 1
          once (yes twice) = absurd (omega (arith, (rest n (omega arith)).1, count_first n seen))
          once (no h) = omega (arith, count_first n ns)
      by_first new rest (no other) =
          let r = rest x (omega (arith, some, count_other x n ns other)) in
          (r.0, omega (arith, r.1, count_other x n seen other), omega (arith, r.2, count_other x n ns other))

      go : (b : Bool) → goes map n ≡ b
          → (Holds (with_marked map n) (n ∷ seen) → (mark_all limit (with_marked map n) ns).all ≡ true → (x : ℕ) → 1 ≤ count x ns → (x < limit) × (count x (n ∷ seen) ≡ 0) × (count x ns ≤ 1))
          → (x < limit) × (count x seen ≡ 0) × (count x (n ∷ ns) ≤ 1)
      go false t rest = absurd (not_both false (rw t at e) refl)
      go true t rest =
          let new = goes_new n k t in
          by_first new (rest (holds_more n new.0 k) (rw t at e)) (ℕ_discrete x n)

  new_marked : (map seen ns : List ℕ) → Holds map seen → ((x : ℕ) → 1 ≤ count x ns → (x < limit) × (count x seen ≡ 0)) → ((x : ℕ) → count x ns ≤ 1)
      → (mark_all limit map ns).all ≡ true
  unfolding mark_all
  new_marked map seen [] k new once = refl
  new_marked map seen (n ∷ ns) k new once =
      let first = new n (omega (arith, count_first n ns)) in
      rw (new_goes n k first.0 first.1)
      (new_marked (with_marked map n) (n ∷ seen) ns (holds_more n first.0 k)
      (λ x h. let more = new x (omega (arith, h, count_more x n ns)) in (more.0, omega (arith, more.1, count_other x n seen (λ same. twice x h same))))
      (λ x. omega (arith, once x, count_more x n ns)))
    where
      twice : (x : ℕ) → 1 ≤ count x ns → x ≡ n → ⊥
      twice x h same = absurd (omega (arith, h, once x, ap (λ (y : ℕ). count y (n ∷ ns)) same, count_first n ns, ap (λ (y : ℕ). count y ns) same))

  -- from a map with none marked: whether all are below the limit and differ
  pub judged : (map ns : List ℕ) → has_bits limit (length map) ≡ true → (mark_all limit (cleared limit map) ns).all ≡ all_below limit ns && all_different ns
  judged map ns room = same_truth (mark_all limit (cleared limit map) ns).all (all_below limit ns && all_different ns) told tells
    where
      told : (mark_all limit (cleared limit map) ns).all ≡ true → all_below limit ns && all_different ns ≡ true
      told e =
          let new = marked_new (cleared limit map) [] ns (holds_none map room) e in
          rw (each_below limit ns (λ x h. (new x h).0), once_all_different ns (λ x. at_most x (λ h. (new x h).2) (dec_lt 0 (count x ns)))) refl
        where
          at_most : (x : ℕ) → (1 ≤ count x ns → count x ns ≤ 1) → Dec (0 < count x ns) → count x ns ≤ 1
          at_most x f (yes h) = f (omega arith)
          at_most x f (no h) = omega arith

      tells : all_below limit ns && all_different ns ≡ true → (mark_all limit (cleared limit map) ns).all ≡ true
      tells e =
          let t = and-true (all_below limit ns) (all_different ns) e in
          new_marked (cleared limit map) [] ns (holds_none map room) (λ x h. (below_each limit ns t.0 x h, count_none x)) (all_different_once ns t.1)

  -- ---- the bytes

  -- does a number that is below the limit have this byte?
  hits : List ℕ → ℕ → Bool
  hits [] i = false
  hits (n ∷ ns) i = (ltb n limit && eqb (n / 8) i) || hits ns i

  hits_used : (ns : List ℕ) (i : ℕ) → hits ns i ≡ true → i < bytes_in_use limit
  unfolding hits
  hits_used [] i e = absurd (not_both false e refl)
  hits_used (n ∷ ns) i e = go (or-true (ltb n limit && eqb (n / 8) i) (hits ns i) e) (hits_used ns i)
    where
      go : (ltb n limit && eqb (n / 8) i ≡ true) ⊎ (hits ns i ≡ true) → (hits ns i ≡ true → i < bytes_in_use limit) → i < bytes_in_use limit
      go (inl h) rest =
          let t = and-true (ltb n limit) (eqb (n / 8) i) h in
          omega (arith, eqb-true (n / 8) i t.1, in_use limit n (ltb-true n limit t.0))
      go (inr h) rest = rest h

  marks_elsewhere : (map ns : List ℕ) (i : ℕ) → hits ns i ≡ false → get_or (mark_all limit map ns).map i 0 ≡ get_or map i 0
  unfolding mark_all hits with_marked
  marks_elsewhere map [] i e = refl
  marks_elsewhere map (n ∷ ns) i e =
      let t = or-false (ltb n limit && eqb (n / 8) i) (hits ns i) e in
      go (goes map n) refl t.0 (marks_elsewhere (with_marked map n) ns i t.1)
    where
      go : (b : Bool) → goes map n ≡ b → ltb n limit && eqb (n / 8) i ≡ false
          → get_or (mark_all limit (with_marked map n) ns).map i 0 ≡ get_or (with_marked map n) i 0 → get_or (mark_all limit map (n ∷ ns)).map i 0 ≡ get_or map i 0
      go false g t rest = rw g refl
      go true g t rest = rw g (rest ∙ get_or-set_other map (n / 8) i _ 0 (λ same. not_both (ltb n limit && eqb (n / 8) i) (rw ((and-true (ltb n limit) _ g).0, eq-eqb (n / 8) i (sym same)) refl) t))

  zeros_elsewhere : (map ns : List ℕ) (i : ℕ) → hits ns i ≡ false → get_or (bytes_zero limit map ns) i 0 ≡ get_or map i 0
  unfolding bytes_zero hits
  zeros_elsewhere map [] i e = refl
  zeros_elsewhere map (n ∷ ns) i e =
      let t = or-false (ltb n limit && eqb (n / 8) i) (hits ns i) e in
      zeros_elsewhere (zeroed map n) ns i t.1
      ∙ cond_cases (λ (m : List ℕ). get_or m i 0 ≡ get_or map i 0) (ltb n limit) _ _
      (λ below. get_or-set_other map (n / 8) i 0 0 (λ same. not_both (ltb n limit && eqb (n / 8) i) (rw (below, eq-eqb (n / 8) i (sym same)) refl) t.0)) (λ _. refl)

  zeros_here : (map ns : List ℕ) (i : ℕ) → i < length map → hits ns i ≡ true → get_or (bytes_zero limit map ns) i 0 ≡ 0
  unfolding bytes_zero hits
  zeros_here map [] i room e = absurd (not_both false e refl)
  zeros_here map (n ∷ ns) i room e = go (hits ns i) refl (zeros_here (zeroed map n) ns i (omega (arith, length-bytes_zero map (n ∷ []), room)))
    where
      this : (b : Bool) → b || false ≡ true → b ≡ true
      this true e = refl
      this false e = e

      go : (b : Bool) → hits ns i ≡ b → (hits ns i ≡ true → get_or (bytes_zero limit (zeroed map n) ns) i 0 ≡ 0) → get_or (bytes_zero limit (zeroed map n) ns) i 0 ≡ 0
      go true h rest = rest h
      go false h rest =
          let t = and-true (ltb n limit) (eqb (n / 8) i) (this _ (rw h at e)) in
          let at : n / 8 ≡ i = eqb-true (n / 8) i t.1 in
          zeros_elsewhere (zeroed map n) ns i h ∙ rw (t.0, at) (get_or-set_same map i 0 0 room)

  module _ (map ns : List ℕ) (room : has_bits limit (length map) ≡ true) where
    abbrev marks : List ℕ
    marks = (mark_all limit (cleared limit map) ns).map

    length-marks : length marks ≡ length map
    length-marks = length-mark_all (cleared limit map) ns ∙ length-cleared limit map

    -- where the bytes of all these numbers are made zero, or all bytes in use are, none is marked again
    pub zeroed_again : bytes_zero limit marks ns ≡ cleared limit map
    zeroed_again =
        ext_get_or 0 _ _ (length-bytes_zero marks ns ∙ length-marks ∙ sym (length-cleared limit map))
        (λ i h. go i (omega (arith, h, length-bytes_zero marks ns)) (hits ns i) refl)
      where
        go : (i : ℕ) → i < length marks → (b : Bool) → hits ns i ≡ b → get_or (bytes_zero limit marks ns) i 0 ≡ get_or (cleared limit map) i 0
        go i h true e = zeros_here marks ns i h e ∙ sym (cleared_in limit map i room (hits_used ns i e))
        go i h false e = zeros_elsewhere marks ns i e ∙ marks_elsewhere (cleared limit map) ns i e

    pub cleared_again : cleared limit marks ≡ cleared limit map
    cleared_again = ext_get_or 0 _ _ (length-cleared limit marks ∙ length-marks ∙ sym (length-cleared limit map)) (λ i h. go i (dec_lt i (bytes_in_use limit)))
      where
        outside : (i : ℕ) → bytes_in_use limit ≤ i → (b : Bool) → hits ns i ≡ b → get_or marks i 0 ≡ get_or (cleared limit map) i 0
        outside i h true e = absurd (omega (arith, h, hits_used ns i e))
        outside i h false e = marks_elsewhere (cleared limit map) ns i e

        go : (i : ℕ) → Dec (i < bytes_in_use limit) → get_or (cleared limit marks) i 0 ≡ get_or (cleared limit map) i 0
        go i (yes h) = cleared_in limit marks i (rw length-marks room) h ∙ sym (cleared_in limit map i room h)
        go i (no h) = cleared_behind limit marks i (omega arith) ∙ outside i (omega arith) (hits ns i) refl
