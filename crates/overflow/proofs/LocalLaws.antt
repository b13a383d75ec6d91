-- Reading a value depends only on the pages whose numbers it finds: a walk that has ended finds the same in every store that has them.
-- By induction over the pages left.
use Prim.Native.Nat.{ℕ, zero, suc, ◌<◌, ◌≤◌}
use mathlib.Core.Path.{◌≡◌, sym, ◌∙◌, ap, subst}
use mathlib.Core.Bool.{Bool, true, false, ◌&&◌, cond}
use mathlib.Core.List.{List, Memᴰ}
use native.Mathlib.Omega.{arith}
use lib.Dec.{leb}
use lib.ListN.{get_or}
use Rattle.refusal.specs.Outcome.{answer}
use Rattle.page.specs.Pages.{page_count, page_at}
use Rattle.laws.proofs.PlacesLaws.{get_d-mem}
use Rattle.overflow.specs.ValuePages.{byte_count}
use Rattle.overflow.specs.Reading.{in_store, Found, with_page, ended, walk}
use Rattle.overflow.proofs.ParseLaws.{store_page, store_answer}
use Rattle.overflow.proofs.WalkLaws.{walk_page, walk_stepped, came}

module _ (s : ℕ) (store more : List ℕ) (longer : page_count s store ≤ page_count s more) where
  pub walk_local : (to_bytes : Bool) (left i : ℕ) (f : Found) {j : ℕ} {g : Found} → walk s (in_store s store) to_bytes left i f ≡ ended j g
      → ((n : ℕ) → Memᴰ n g.numbers → n < page_count s store → page_at s more n ≡ page_at s store n)
      → walk s (in_store s more) to_bytes left i f ≡ ended j g
  unfolding walk
  walk_local to_bytes zero i f e same = e
  walk_local to_bytes (suc left) i f {j} {g} e same =
      let w = walk_stepped s (in_store s store) to_bytes left i f e in
      let v = came s (in_store s store) to_bytes (suc left) i f e in
      let p = get_or f.numbers i 0 in
      let a = store_answer s store i p w.from in
      let found : Memᴰ p g.numbers = subst (Memᴰ p) (sym v.numbers) (mathlib.Core.List.Memᴰ.append_left v.rest (get_d-mem f.numbers i w.inside)) in
      let there : in_store s more i p ≡ answer w.page = store_page s more i p (omega (arith, a.0)) ∙ ap answer (same p found a.0 ∙ a.1) in
      walk_page s (in_store s more) to_bytes left i f w.inside there w.fits w.some
      ∙ by_test w.page (to_bytes && leb 1 (byte_count w.page)) w.rest (λ e. walk_local to_bytes left (suc i) (with_page f w.page) e same)
    where
      by_test : (b : List ℕ) (last : Bool) → cond last (ended (suc i) (with_page f b)) (walk s (in_store s store) to_bytes left (suc i) (with_page f b)) ≡ ended j g
          → (walk s (in_store s store) to_bytes left (suc i) (with_page f b) ≡ ended j g → walk s (in_store s more) to_bytes left (suc i) (with_page f b) ≡ ended j g)
          → cond last (ended (suc i) (with_page f b)) (walk s (in_store s more) to_bytes left (suc i) (with_page f b)) ≡ ended j g
      by_test b true e again = e
      by_test b false e again = again e
