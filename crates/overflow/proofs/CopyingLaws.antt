-- Copying the value bytes of pages, one page after another: after i pages those of the first i stand in the buffer.
-- One page more joins its bytes to these.
use Prim.Native.Nat.{ℕ, suc, ◌+◌, ◌-◌, ◌<◌, ◌≤◌}
use mathlib.Core.Path.{◌≡◌, refl, ◌∙◌, ap}
use mathlib.Core.List.{List, [], ◌∷◌, ◌++◌, append_assoc, append-nil}
use native.Mathlib.Numerals.{add-one}
use native.Mathlib.Omega.{arith}
use lib.ListN.{length, get_or, take, drop, length-append}
use lib.Seq.{sets, length-sets, take-add, take-suc, take-length}
use Rattle.page.specs.Pages.{page_at}
use Rattle.laws.proofs.SetsLaws.{sets-append}
use Rattle.overflow.specs.ValuePages.{value_bytes}
use Rattle.overflow.specs.Steps.{value_bytes_of, Copyable}

module _ (s : ℕ) (store : List ℕ) where
  pub value_bytes_of_append : (ps qs : List ℕ) → value_bytes_of s store (ps ++ qs) ≡ value_bytes_of s store ps ++ value_bytes_of s store qs
  unfolding value_bytes_of
  value_bytes_of_append [] qs = refl
  value_bytes_of_append (p ∷ ps) qs = rw (value_bytes_of_append ps qs, append_assoc)

  -- one page more
  pub value_bytes_of_more : (ps : List ℕ) (i : ℕ) → i < length ps
      → value_bytes_of s store (take (suc i) ps) ≡ value_bytes_of s store (take i ps) ++ value_bytes (page_at s store (get_or ps i 0))
  unfolding value_bytes_of
  value_bytes_of_more ps i h = rw (take-suc ps i 0 h, value_bytes_of_append (take i ps) (get_or ps i 0 ∷ []), append-nil (value_bytes (page_at s store (get_or ps i 0))))

  -- the first pages have no more bytes than all
  pub value_bytes_of_few : (ps : List ℕ) (i d : ℕ) → length (value_bytes_of s store (take i ps)) ≤ length (value_bytes_of s store (take (i + d) ps))
  value_bytes_of_few ps i d =
      rw (take-add i d ps, value_bytes_of_append (take i ps) (take d (drop i ps))) (omega (arith, length-append (value_bytes_of s store (take i ps)) (value_bytes_of s store (take d (drop i ps)))))

-- where the copying stands after i pages
pub record Copying (s : ℕ) (store numbers value₀ value : List ℕ) (i at : ℕ) : Type 0 where
  pub at_is : length (value_bytes_of s store (take i numbers)) ≡ at
  pub long : length value ≡ length value₀
  pub value_is : value ≡ sets value₀ 0 (value_bytes_of s store (take i numbers))

pub copying_start : (s : ℕ) (store numbers value : List ℕ) → Copying s store numbers value value 0 0
unfolding value_bytes_of
copying_start s store numbers value = record { at_is = refl; long = refl; value_is = refl }

-- what is copied next, the bytes b, and what stands in the buffer then
pub record Copied (s : ℕ) (store numbers value₀ value : List ℕ) (i at : ℕ) (b : List ℕ) : Type 0 where
  pub room : at + length b ≤ length value
  pub next : (written : List ℕ) → written ≡ sets value at b → Copying s store numbers value₀ written (i + 1) (at + length b)

module _ {s : ℕ} {store numbers value₀ value : List ℕ} {i at : ℕ}
    (can : Copyable s store numbers value₀) (k : Copying s store numbers value₀ value i at) (h : i < length numbers) where
  pub copied : {page p b : List ℕ} → page ≡ page_at s store (get_or numbers i 0) → p ≡ page → b ≡ value_bytes p → Copied s store numbers value₀ value i at b
  copied {b = b} found ref held =
      let bytes : b ≡ value_bytes (page_at s store (get_or numbers i 0)) = held ∙ ap value_bytes (ref ∙ found) in
      let before = value_bytes_of s store (take i numbers) in
      let more : value_bytes_of s store (take (i + 1) numbers) ≡ before ++ b = rw (add-one, bytes) (value_bytes_of_more s store numbers i h) in
      let at_next : length (value_bytes_of s store (take (i + 1) numbers)) ≡ at + length b = rw (more, length-append before b, k.at_is) in
      let sum : i + 1 + (length numbers - (i + 1)) ≡ length numbers = omega arith in
      let all : length (value_bytes_of s store (take (i + 1) numbers)) ≤ length (value_bytes_of s store numbers) =
      rw (sum, take-length numbers) at (value_bytes_of_few s store numbers (i + 1) (length numbers - (i + 1))) in
      record {
        room = omega (arith, k.long, can.room);
        next = λ written set. record {
          at_is = at_next;
          long = ap length set ∙ length-sets value at b ∙ k.long;
          value_is = rw (more, sets-append value₀ 0 before b, ← k.value_is, zero_plus before, k.at_is) set;
        };
      }
    where
      zero_plus : (l : List ℕ) → 0 + length l ≡ length l
      zero_plus l = omega arith
