-- Encoding the pages of a list: page by page, one behind the other. By induction over the pages. Assumes nothing.
use Prim.Native.Nat.{ℕ, zero, suc, ◌+◌, ◌*◌, ◌-◌, ◌<◌, ◌≤◌}
use native.Mathlib.Nat.{mul-le-mul_left, zero-add, add-zero, add-suc, suc-add, mul-zero, mul-suc}
use native.Mathlib.Omega.{arith}
use mathlib.Core.Path.{◌≡◌, refl, ap, sym, ◌∙◌}
use mathlib.Core.List.{List, [], ◌∷◌, ◌++◌, append-nil, append_assoc}
use lib.ListN.{length, length-append}
use borrow.Rule.Slice.PartMut.{put_mid}
use lib.Seq.{sets}
use Rattle.page.specs.PageSize.{IsPageSize, capacity}
use Rattle.page.specs.Pages.{Write}
use Rattle.laws.proofs.SetsLaws.{sets-append, part-written}
use Rattle.free_list.specs.ListPages.{page_within}
use Rattle.free_list.specs.Shape.{FreeList, entries_on, previous}
use Rattle.free_list.proofs.ListPagesLaws.{page_within_lem}
use Rattle.finisher.specs.Finish.{encoded_page, encoded_pages, bytes_of_pages}

-- page j, as encoded from the number of the page under it and from its entries
pub page_encoded : {s : ℕ} (l : FreeList) (j : ℕ) {prev : ℕ} {entries : List ℕ} (b : List ℕ) {x : List ℕ} → IsPageSize s → length b ≡ s → length entries ≤ capacity s
    → prev ≡ previous l.pages j → entries ≡ entries_on (capacity s) l j → x ≡ page_within prev entries b → x ≡ (encoded_page s l j).bytes
unfolding encoded_page
page_encoded l j {prev} {entries} b size long few under they e =
    rw (← under, ← they) (e ∙ page_within_lem size prev entries b long few)

-- ---- several pages

pub encoded_pages-snoc : (s : ℕ) (l : FreeList) (j n : ℕ) → encoded_pages s l j (suc n) ≡ encoded_pages s l j n ++ (encoded_page s l (j + n) ∷ [])
unfolding encoded_pages
encoded_pages-snoc s l j zero = rw add-zero
encoded_pages-snoc s l j (suc n) = ap (λ (ws : List Write). encoded_page s l j ∷ ws) (encoded_pages-snoc s l (suc j) n ∙ rw (suc-add, add-suc))

pub bytes_of_pages-append : (vs ws : List Write) → bytes_of_pages (vs ++ ws) ≡ bytes_of_pages vs ++ bytes_of_pages ws
unfolding bytes_of_pages
bytes_of_pages-append [] ws = refl
bytes_of_pages-append (v ∷ vs) ws = rw (bytes_of_pages-append vs ws, append_assoc)

pub length-encoded_pages : (s : ℕ) (l : FreeList) (j n : ℕ) → length (encoded_pages s l j n) ≡ n
unfolding encoded_pages
length-encoded_pages s l j zero = refl
length-encoded_pages s l j (suc n) = ap suc (length-encoded_pages s l (suc j) n)

-- the first n pages from page `first` up stand in the buffer b, one behind the other
pub record Encoded (s : ℕ) (l : FreeList) (first n : ℕ) (m b : List ℕ) : Type 0 where
  pub long : length (bytes_of_pages (encoded_pages s l first n)) ≡ s * n
  pub written : b ≡ sets m 0 (bytes_of_pages (encoded_pages s l first n))

pub encoded_none : (s : ℕ) (l : FreeList) (first : ℕ) {n : ℕ} (m : List ℕ) → n ≡ 0 → Encoded s l first n m m
unfolding encoded_pages bytes_of_pages
encoded_none s l first m e = rw e (record { long = rw mul-zero; written = refl })

-- one page more behind the others
pub encoded_more : (s : ℕ) (l : FreeList) (first n : ℕ) (m b : List ℕ) → Encoded s l first n m b → {r : List ℕ}
    → length (encoded_page s l (first + n)).bytes ≡ s → r ≡ sets b (s * n) (encoded_page s l (first + n)).bytes → Encoded s l first (suc n) m r
unfolding bytes_of_pages
encoded_more s l first n m b done {r} whole e =
    let this = bytes_of_pages (encoded_pages s l first n) in
    let next = (encoded_page s l (first + n)).bytes in
    let joined : bytes_of_pages (encoded_pages s l first (suc n)) ≡ this ++ next =
    ap bytes_of_pages (encoded_pages-snoc s l first n) ∙ rw (bytes_of_pages-append, append-nil) in
    record {
      long = ap length joined ∙ rw (length-append this next, done.long, whole, mul-suc);
      written = e ∙ rw (joined, sets-append m 0 this next, done.long, zero-add (s * n), ← done.written);
    }

-- page j behind those from `first` up, written to its part x of the buffer b
pub encoded_next : (s : ℕ) (l : FreeList) (first j : ℕ) (m b x : List ℕ) → first ≤ j → Encoded s l first (j - first) m b → {at n : ℕ}
    → at ≡ s * (j - first) → n ≡ s → at + n ≤ length b → length x ≡ n → x ≡ (encoded_page s l j).bytes → Encoded s l first (j + 1 - first) m (put_mid at n b x)
encoded_next s l first j m b x order done {at} {n} here size fits long e =
    let this : first + (j - first) ≡ j = omega arith in
    let more : j + 1 - first ≡ suc (j - first) = omega arith in
    rw more
    (encoded_more s l first (j - first) m b done (rw this (ap length (sym e) ∙ long ∙ size))
    (part-written b at n x long fits ∙ rw (this, ← e, ← here)))

-- it has room there
pub page_fits : (s first count j long : ℕ) → first ≤ j → j < count → s * (count - first) ≤ long → s * (j - first) + s ≤ long
page_fits s first count j long order inside room =
    let within : suc (j - first) ≤ count - first = omega arith in
    omega (arith, mul-le-mul_left s within, mul-suc s (j - first))
