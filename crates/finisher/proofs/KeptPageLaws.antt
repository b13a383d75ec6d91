-- The pages that a finish keeps: those below the top one, and the top one where it keeps its old number, are full before and after,
-- and have the same number, the same previous number and the same entries. So a page that is written at an old number is unchanged.
use Prim.Native.Nat.{ℕ, zero, suc, ◌+◌, ◌*◌, ◌-◌, ◌<◌, ◌≤◌}
use native.Mathlib.Nat.{mul-suc, mul-le-mul_left}
use native.Mathlib.Decide.{dec_lt}
use native.Mathlib.Omega.{arith}
use mathlib.Core.Path.{◌≡◌, refl, ap, ap₂, sym, ◌∙◌}
use mathlib.Core.Bool.{Bool, true, false, ◌&&◌}
use mathlib.Core.List.{List, [], ◌∷◌, ◌++◌}
use lib.Dec.{eqb}
use lib.ListN.{length, get_or, take, drop, length-append, length-drop, get_or-append}
use lib.Seq.{length-take-le, get_or-take, get_or_at, take-append-le, drop-append-le}
use borrow.Author.Tests.{le-leb, ne_eqb}
use Rattle.page.specs.PageSize.{capacity}
use Rattle.laws.proofs.PlacesLaws.{part_of_first}
use Rattle.free_list.specs.ListPages.{encode_list_page}
use Rattle.free_list.specs.Shape.{previous, FreeList, is_shape, is_fragmented, entries_below, entries_on}
use Rattle.free_list.proofs.BelowLaws.{fragmented_is, below_inner, below-head}
use Rattle.preallocate.specs.Plan.{Plan, plan_of}
use Rattle.preallocate.proofs.PlanLaws.{plan_kept, plan_left, plan_fits, plan_least}
use Rattle.finisher.specs.Finish.{new_list, encoded_page}
use Rattle.free_list.proofs.ShapeLaws.{shaped}
use Rattle.preallocate.proofs.CasesLaws.{FirstCases, TurnCases, plan_run}
use Rattle.preallocate.proofs.SomeLaws.{plan_some}
use Rattle.finisher.proofs.PushLaws.{plan-pushes}
use Rattle.finisher.proofs.NewListLaws.{length_new_pages, length_new_entries}
use Rattle.finisher.proofs.NewShapeLaws.{planned_fits}

-- ---- full pages

-- of two products with one factor the smaller has the smaller other factor
less_factor : (c i P : ℕ) → c * i < c * P → i < P
less_factor c i P h = go (dec_lt i P)
  where
    go : Dec (i < P) → i < P
    go (yes y) = y
    go (no n) = absurd (omega (arith, mul-le-mul_left c (not_less n)))
      where
        not_less : (i < P → ⊥) → P ≤ i
        not_less n = omega arith

-- where more than c * i entries are there, c * i stand below page i
pub below_full : (c P L i : ℕ) → c * i < L → L ≤ c * P → entries_below c P L i ≡ c * i
below_full c P L i more most = place (less_factor c i P (omega arith)) (dec_lt (i + 1) P)
  where
    head : i + 1 ≡ P → (b : Bool) → is_fragmented c P L ≡ b → entries_below c P L i ≡ c * i
    head e true f =
        let under : c * (P - 1) ≡ c * i = ap (λ (n : ℕ). c * n) (last e) in
        absurd (omega (arith, (fragmented_is c P L f).1))
      where
        last : i + 1 ≡ P → P - 1 ≡ i
        last e = omega arith
    head e false f = sym (below-head c P L i e f)

    place : i < P → Dec (i + 1 < P) → entries_below c P L i ≡ c * i
    place h (yes y) = sym (below_inner c P L i y)
    place h (no n) = head (omega arith) (is_fragmented c P L) refl

-- so page j is full, where more than c * (j + 1) are there
full_page : (c : ℕ) (l : FreeList) (j : ℕ) → 1 ≤ c → c * (j + 1) < length l.entries → length l.entries ≤ c * length l.pages
    → entries_on c l j ≡ take c (drop (c * j) l.entries)
unfolding entries_on
full_page c l j pos more most =
    let next : c * (j + 1) ≡ c * j + c = omega arith in
    rw (below_full c (length l.pages) (length l.entries) j (omega arith) most, below_full c (length l.pages) (length l.entries) (j + 1) more most)
    (ap (λ (n : ℕ). take n (drop (c * j) l.entries)) rest)
  where
    rest : c * (j + 1) - c * j ≡ c
    rest = omega arith

-- a part that ends within the first n, whatever stands behind these
part_of_kept : (from n m : ℕ) (ns more : List ℕ) → from + m ≤ n → n ≤ length ns → take m (drop from (take n ns ++ more)) ≡ take m (drop from ns)
part_of_kept from n m ns more h fits =
    let long = length-take-le n ns fits in
    rw (drop-append-le from (take n ns) more (omega arith), take-append-le m (drop from (take n ns)) more (omega (arith, length-drop from (take n ns))))
    (part_of_first from n ns m h)

-- ---- a plan that keeps pages

-- what is asked of a plan: what is left lies on the pages kept and is less than what the list has; a whole top page keeps its number;
-- something is pushed, and there is room for it
pub record Keeps (c : ℕ) (l : FreeList) (t : Plan) : Type 0 where
  pub two : 2 ≤ c
  pub most : length l.entries ≤ c * length l.pages
  pub kept : t.kept ≤ length l.pages
  pub left : t.left ≤ length l.entries
  pub less : 1 ≤ t.left → t.left < length l.entries
  pub fits : t.left ≤ c * t.kept
  pub least : c * t.kept < t.left + c
  pub top : 1 ≤ t.kept → t.left ≡ c * t.kept → t.top ≡ get_or l.pages (t.kept - 1) 0
  pub some : 1 ≤ length t.pushed
  pub enough : t.left + length t.pushed ≤ c * (t.kept + length t.fresh)

module _ {c : ℕ} {l : FreeList} {t : Plan} (p : Keeps c l t) where
  -- the number of a page below the top kept one
  number-below : (j : ℕ) → j + 1 < t.kept → get_or (new_list l t).pages j 0 ≡ get_or l.pages j 0
  unfolding new_list
  number-below j h =
      let long = length-take-le (t.kept - 1) l.pages (omega (arith, p.kept)) in
      rw (le-leb 1 t.kept (omega arith))
      (get_or-append (take (t.kept - 1) l.pages ++ (t.top ∷ [])) t.fresh 0 j (omega (arith, length-append (take (t.kept - 1) l.pages) (t.top ∷ [])))
      ∙ get_or-append (take (t.kept - 1) l.pages) (t.top ∷ []) 0 j (omega arith)
      ∙ get_or-take (t.kept - 1) l.pages j 0 (omega arith))

  -- the number of the top kept page
  pub number_top : (j : ℕ) → j + 1 ≡ t.kept → get_or (new_list l t).pages j 0 ≡ t.top
  unfolding new_list
  number_top j h =
      let long = length-take-le (t.kept - 1) l.pages (omega (arith, p.kept)) in
      rw (le-leb 1 t.kept (omega arith))
      (get_or-append (take (t.kept - 1) l.pages ++ (t.top ∷ [])) t.fresh 0 j (omega (arith, length-append (take (t.kept - 1) l.pages) (t.top ∷ [])))
      ∙ get_or_at (take (t.kept - 1) l.pages) t.top [] 0 j (omega arith))

  -- a page that is full of what is left
  module _ (j : ℕ) (full : c * (j + 1) ≤ t.left) where
    under_top : j + 1 ≤ t.kept
    under_top = let h = less_factor c j t.kept (omega (arith, p.fits, p.two)) in omega arith

    -- It keeps its number.
    pub same_number : get_or (new_list l t).pages j 0 ≡ get_or l.pages j 0
    same_number = place (dec_lt (j + 1) t.kept)
      where
        place : Dec (j + 1 < t.kept) → get_or (new_list l t).pages j 0 ≡ get_or l.pages j 0
        place (yes y) = number-below j y
        place (no n) =
            let e : j + 1 ≡ t.kept = omega (arith, under_top) in
            let all : c * (j + 1) ≡ c * t.kept = ap (λ (i : ℕ). c * i) e in
            number_top j e ∙ p.top (omega arith) (omega (arith, p.fits)) ∙ ap (λ (i : ℕ). get_or l.pages i 0) (omega arith)

    -- It keeps its previous number.
    pub same-previous : previous (new_list l t).pages j ≡ previous l.pages j
    same-previous = go j under_top
      where
        go : (i : ℕ) → i + 1 ≤ t.kept → previous (new_list l t).pages i ≡ previous l.pages i
        go zero h = refl
        go (suc i) h =
            let e : suc i - 1 ≡ i = omega arith in
            rw (e, ne_eqb (suc i) 0 (omega arith)) (number-below i (omega arith))

    same_part : take c (drop (c * j) (new_list l t).entries) ≡ take c (drop (c * j) l.entries)
    unfolding new_list
    same_part = part_of_kept (c * j) t.left c l.entries t.pushed (omega arith) p.left

    -- It keeps its entries.
    pub same_entries : entries_on c (new_list l t) j ≡ entries_on c l j
    same_entries =
        let next : c * (j + 1) ≡ c * j + c = omega arith in
        let two = p.two in
        let less = p.less (omega arith) in
        full_page c (new_list l t) j (omega arith)
        (omega (arith, length_new_entries l t p.kept p.left, p.some))
        (omega (arith, length_new_entries l t p.kept p.left, ap (λ (n : ℕ). c * n) (length_new_pages l t p.kept p.left), p.enough))
        ∙ same_part
        ∙ sym (full_page c l j (omega arith) (omega arith) p.most)

    -- It is full.
    pub full-entries : length (entries_on c l j) ≡ c
    full-entries =
        let next : c * (j + 1) ≡ c * j + c = omega arith in
        let two = p.two in
        let less = p.less (omega arith) in
        ap length (full_page c l j (omega arith) (omega arith) p.most)
        ∙ length-take-le c (drop (c * j) l.entries) (omega (arith, length-drop (c * j) l.entries))

-- Its page as encoded is unchanged.
pub same_encoded : (s : ℕ) {l : FreeList} {t : Plan} → Keeps (capacity s) l t → (j : ℕ) → capacity s * (j + 1) ≤ t.left → encoded_page s (new_list l t) j ≡ encoded_page s l j
unfolding encoded_page
same_encoded s {l} {t} p j full =
    let number = same_number p j full in
    let bytes = ap₂ (encode_list_page s) (same-previous p j full) (same_entries p j full) in
    λ i. record { number = number i; bytes = bytes i }

-- ---- the plan of a finish

module _ (c : ℕ) (l : FreeList) (k : ℕ) (freed : List ℕ) (bump : ℕ) (two : 2 ≤ c)
    (shape : is_shape c (length l.pages) (length l.entries) ≡ true) where
  -- the plan
  abbrev plan : Plan
  plan = plan_of c l k freed bump

  abbrev Less : Plan → Type 0
  Less t = 1 ≤ t.left → t.left < length l.entries

  -- A finish leaves fewer entries than there were.
  pub plan_less : 1 ≤ plan.left → plan.left < length l.entries
  plan_less = (plan_run c l k freed bump Less (omega arith) shape first turns).1
    where
      first : FirstCases c l k freed bump Less
      first =
          record {
            none = λ h e z some. absurd (omega arith);
            mending = λ e some f two all z _. omega arith;
            emptying = λ lt e one most x _. omega arith;
            renumbering = λ lt e one most fits _. omega arith;
          }

      turns : TurnCases c l k freed bump Less
      turns =
          record {
            swapping = λ t b q one x some. omega (arith, q (omega arith));
            taking = λ t b q some one ne _. omega (arith, q some);
            taking-last = λ t b q some one ne x _. omega (arith, q some);
            bumping = λ t b q. q;
          }

  -- The plan of a finish that changes the list is one that keeps pages.
  pub plan_keeps : k ≤ length l.entries → eqb k 0 && eqb (length freed) 0 ≡ false → Keeps c l plan
  plan_keeps kL changed =
      record {
        two = two;
        most = (shaped c (length l.pages) (length l.entries) shape).most;
        kept = plan_kept c l two shape k freed bump;
        left = plan_left c l two shape k freed bump;
        less = plan_less;
        fits = plan_fits c l two shape k freed bump;
        least = plan_least c l two shape k freed bump;
        top = (plan-pushes c l k freed bump (omega arith) shape).whole_top;
        some = plan_some c l k freed bump (omega arith) shape kL changed;
        enough = planned_fits c l k freed bump two shape;
      }

-- a page below the top kept one, and a top one that is whole, are full of what is left
module _ {c : ℕ} {l : FreeList} {t : Plan} (p : Keeps c l t) where
  pub below_top_full : (j : ℕ) → j + 1 < t.kept → c * (j + 1) ≤ t.left
  below_top_full j h =
      let up : c * suc (j + 1) ≤ c * t.kept = mul-le-mul_left c h in
      omega (arith, p.least, mul-suc c (j + 1))

  pub whole_top_full : 1 ≤ t.kept → t.left ≡ c * t.kept → c * (t.kept - 1 + 1) ≤ t.left
  whole_top_full one e =
      let same : c * (t.kept - 1 + 1) ≡ c * t.kept = ap (λ (n : ℕ). c * n) (omega arith) in
      omega arith

-- what a page of the old list and the same of the new one have in common
pub record SameKept (s : ℕ) (l : FreeList) (t : Plan) (j : ℕ) : Type 0 where
  pub number : get_or (new_list l t).pages j 0 ≡ get_or l.pages j 0
  pub before : previous (new_list l t).pages j ≡ previous l.pages j
  pub entries : entries_on (capacity s) (new_list l t) j ≡ entries_on (capacity s) l j
  pub full : length (entries_on (capacity s) l j) ≡ capacity s
  pub encoded : encoded_page s (new_list l t) j ≡ encoded_page s l j

same_kept : (s : ℕ) {l : FreeList} {t : Plan} → Keeps (capacity s) l t → (j : ℕ) → capacity s * (j + 1) ≤ t.left → SameKept s l t j
same_kept s p j full =
    record { number = same_number p j full; before = same-previous p j full; entries = same_entries p j full; full = full-entries p j full; encoded = same_encoded s p j full }

module _ (s : ℕ) (l : FreeList) (k : ℕ) (freed : List ℕ) (bump : ℕ) (two : 2 ≤ capacity s)
    (shape : is_shape (capacity s) (length l.pages) (length l.entries) ≡ true)
    (kL : k ≤ length l.entries) (changed : eqb k 0 && eqb (length freed) 0 ≡ false) where
  -- Every page below the top kept one has the number, the previous number and the entries that it had, and is full.
  pub kept_below : (j : ℕ) → j + 1 < (plan_of (capacity s) l k freed bump).kept → SameKept s l (plan_of (capacity s) l k freed bump) j
  kept_below j h =
      let p = plan_keeps (capacity s) l k freed bump two shape kL changed in
      same_kept s p j (below_top_full p j h)

  -- A top kept page that is whole is written at its old number, and unchanged: its number, its previous number, its entries, and how it is encoded.
  pub kept_top : 1 ≤ (plan_of (capacity s) l k freed bump).kept → (plan_of (capacity s) l k freed bump).left ≡ capacity s * (plan_of (capacity s) l k freed bump).kept
      → SameKept s l (plan_of (capacity s) l k freed bump) ((plan_of (capacity s) l k freed bump).kept - 1)
  kept_top one whole =
      let p = plan_keeps (capacity s) l k freed bump two shape kL changed in
      same_kept s p _ (whole_top_full p one whole)
