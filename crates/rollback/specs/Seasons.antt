-- One save after another: what the caller of a save keeps to, so that the next save starts as this one did.
use Rattle.std.specs.Prelude.{ℕ, ◌<◌, ◌≡◌, ◌⊎◌}
use mathlib.Core.List.{List, [], ◌∷◌, Memᴰ}
use Rattle.page.specs.Pages.{page_count, page_at, Write}
use Rattle.free_list.specs.Shape.{head_of}
use Rattle.finisher.specs.Finish.{Finished}
use Rattle.rollback.specs.Calls.{Run}
use Rattle.rollback.specs.Rollback.{Value, GetsValue, State, Good, Cut, run_of, StillReads}

-- The save was finished, and its list pages are in the store. Freed are pages of the store; that they differ, and that none is a list page or an entry
-- that was not handed out, the finish has seen. The values left are first ones, and new ones that read and whose pages were handed out; none of
-- their pages is freed.
pub record Saved (s : ℕ) (a b : State) (r : Run) (f : Finished) : Type 0 where
  pub finished : r.finished ≡ f ∷ []
  pub becomes : (b.head ≡ head_of f.list) × (b.list ≡ f.list) × (b.bump ≡ f.bump)
  pub written : (w : Write) → Memᴰ w f.written → (w.number < page_count s b.store) × (page_at s b.store w.number ≡ w.bytes)
  pub freed : (n : ℕ) → Memᴰ n r.freed → n < page_count s b.store
  pub values : (x : Value) → Memᴰ x b.values → Memᴰ x a.values ⊎ (GetsValue s b.store x × ((n : ℕ) → Memᴰ n x.numbers → Memᴰ n r.numbers))
  pub not_freed : (x : Value) → Memᴰ x b.values → (n : ℕ) → Memᴰ n x.numbers → Memᴰ n r.freed → ⊥

-- a save is cut, and its caller goes back; or it is finished and written whole, and its caller goes on
pub data Season (s : ℕ) (a b : State) : Type 0 where
  back : Cut s a b.store → b ≡ record { store = b.store; head = a.head; list = a.list; values = a.values; bump = a.bump } → Season s a b
  onward : (c : Cut s a b.store) (f : Finished) → Saved s a b (run_of c) f → Season s a b

-- any sequence of them
abbrev pub Seasons : ℕ → State → List State → Type 0
Seasons s a [] = Unit {0}
Seasons s a (b ∷ bs) = Season s a b × Seasons s b bs

-- the claims: in any sequence of saves the caller stands before each of them as before the first,
abbrev pub SeasonsGood : ℕ → Type 0
SeasonsGood s = (a : State) (bs : List State) → Good s a → Seasons s a bs → (b : State) → Memᴰ b (a ∷ bs) → Good s b

-- and wherever the next save is cut, what the caller stands on reads as it did
abbrev pub EveryCut : ℕ → Type 0
EveryCut s = (a : State) (bs : List State) → Good s a → Seasons s a bs → (b : State) → Memᴰ b (a ∷ bs) → (after : List ℕ) → Cut s b after → StillReads s b after
