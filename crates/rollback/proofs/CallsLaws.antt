-- The calls of a save: every number that is handed out is an entry of the first list or lies past its bump, and the save stays one of
-- the first list until a finish succeeds. By induction over the calls.
use Prim.Native.Nat.{ℕ, suc, ◌+◌, ◌-◌, ◌<◌, ◌≤◌}
use mathlib.Core.Path.{◌≡◌, refl, sym, ◌∙◌, ap, subst}
use mathlib.Core.Logic.{◌⊎◌, inl, inr}
use mathlib.Core.Bool.{◌||◌}
use mathlib.Core.List.Memᴰ
use mathlib.Core.List.{List, [], ◌∷◌, Memᴰ}
use native.Mathlib.Omega.{arith}
use borrow.Author.Tests.{ltb-true, ltb-false}
use lib.Dec.{ltb}
use lib.ListN.{length, get_or}
use lib.Seq.{take_at, get_or-take}
use Rattle.refusal.specs.Outcome.{Outcome, answer, refused}
use Rattle.laws.proofs.Tests.{cond_cases}
use Rattle.refusal.proofs.OutcomeLaws.{unanswer, check_answer}
use Rattle.page.specs.Growth.{max_bump}
use Rattle.free_list.specs.Shape.{FreeList}
use Rattle.allocator.specs.OpenSave.{Save, list_of, bumped, state_fits, next_number, next_save, HandedOut, hand_out}
use Rattle.finisher.specs.Finish.{Finished, finish, RoomLent}
use Rattle.finisher.proofs.FreshLaws.{Between, between_mem}
use Rattle.rollback.specs.Calls.{Own, open_on, Call, hand_out_call, finish_call, Run, after_hand_out, after_finish, run}

-- a number that is free at the start of the save: an entry of the first list, or one past its bump
abbrev pub Free : FreeList → ℕ → ℕ → Type 0
Free l bump n = Memᴰ n l.entries ⊎ (bump ≤ n)

-- the numbers that a save with a count of h was handed out: the last entries, and past the list the numbers from the bump on
abbrev pub Handed : FreeList → ℕ → ℕ → ℕ → Type 0
Handed l bump h n = Between l.entries (length l.entries - h) (length l.entries) n ⊎ ((bump ≤ n) × (n < bump + (h - length l.entries)))

pub handed_free : (l : FreeList) (bump h n : ℕ) → Handed l bump h n → Free l bump n
handed_free l bump h n (inl b) = inl (between_mem l.entries (length l.entries - h) (length l.entries) n (omega arith) b)
handed_free l bump h n (inr b) = inr b.0

handed_more : (l : FreeList) (bump h k n : ℕ) → h ≤ k → Handed l bump h n → Handed l bump k n
handed_more l bump h k n le (inl (i, a, b, e)) = inl (i, omega arith, b, e)
handed_more l bump h k n le (inr b) = inr (b.0, omega (arith, b.1))

-- a save of this list and bump: the list stands at the front of its tables
pub record OpenedOn (l : FreeList) (bump : ℕ) (v : Save) : Type 0 where
  pub list : list_of v ≡ l
  pub P : v.P ≡ length l.pages
  pub L : v.L ≡ length l.entries
  pub start : v.bump ≡ bump

module _ (s : ℕ) (l : FreeList) (bump : ℕ) where
  -- so is each on which a call is made
  pub opened_on : (n : ℕ) (own : Own) → OpenedOn l bump (open_on l bump n own)
  opened_on n own =
      let p = take_at l.pages own.behind.pages (length l.pages) refl in
      let q = take_at l.entries own.behind.entries (length l.entries) refl in
      record { list = λ i. record { pages = p i; entries = q i }; P = refl; L = refl; start = refl }

  -- the next number is handed out with one more in the count
  next-handed : (v : Save) → OpenedOn l bump v → Handed l bump (suc v.handed) (next_number v)
  unfolding next_number
  next-handed v o =
      cond_cases (Handed l bump (suc v.handed)) (ltb v.handed v.L) (get_or v.entry_table (v.L - suc v.handed) 0) (bumped v)
      (λ e. listed (ltb-true v.handed v.L e))
      (λ e. let past = ltb-false v.handed v.L e in inr (omega (arith, o.start), omega (arith, o.start, o.L)))
    where
      listed : v.handed < v.L → Handed l bump (suc v.handed) (get_or v.entry_table (v.L - suc v.handed) 0)
      listed h =
          let i = v.L - suc v.handed in
          let same : get_or v.entry_table i 0 ≡ get_or l.entries i 0 =
          sym (get_or-take v.L v.entry_table i 0 (omega arith)) ∙ ap (λ (m : FreeList). get_or m.entries i 0) o.list in
          inl (i, omega (arith, o.L), omega (arith, o.L), same)

  -- what a number handed out leaves
  pub record Next (v : Save) (a : HandedOut) : Type 0 where
    pub number : Handed l bump (suc v.handed) a.number
    pub count : a.save.handed ≡ suc v.handed

  hand_out_lem : (v : Save) (a : HandedOut) → OpenedOn l bump v → hand_out s v ≡ answer a → Next v a
  unfolding hand_out
  hand_out_lem v a o e =
      let c = check_answer (state_fits s v) 1 [] _ e in
      let d = check_answer (ltb v.handed v.L || ltb (next_number v) max_bump) 7 [] (answer (record { number = next_number v; save = next_save v })) c.1 in
      subst (Next v) (unanswer d.1) (record { number = next-handed v o; count = refl })

  -- a finish that has succeeded was one of this save
  abbrev pub Finishes : Save → Run → Type 0
  Finishes v r = (f : Finished) → Memᴰ f r.finished → (room : RoomLent) × (finish s v r.freed room ≡ answer f)

  -- what the calls leave: the last state of the save, which the numbers handed out and the finish are of
  pub record Ran (n : ℕ) (r : Run) : Type 0 where
    pub last : Save
    pub of : OpenedOn l bump last
    pub later : n ≤ last.handed
    pub numbers : (x : ℕ) → Memᴰ x r.numbers → Handed l bump last.handed x
    pub finishes : Finishes last r

  after_hand_out_lem : (v : Save) (next : ℕ → Run) (stay : Run) (o : Outcome HandedOut) → OpenedOn l bump v → hand_out s v ≡ o
      → ((m : ℕ) → Ran m (next m)) → Ran v.handed stay → Ran v.handed (after_hand_out next stay o)
  after_hand_out_lem v next stay (answer a) o e more r =
      let n = hand_out_lem v a o e in
      let q = more a.save.handed in
      record {
        last = q.last;
        of = q.of;
        later = omega (arith, n.count, q.later);
        numbers = λ m h. go m n q (Memᴰ.cases_cons h);
        finishes = q.finishes;
      }
    where
      go : (m : ℕ) → Next v a → (q : Ran a.save.handed (next a.save.handed)) → (m ≡ a.number) ⊎ Memᴰ m (next a.save.handed).numbers
          → Handed l bump q.last.handed m
      go m n q (inl e) = rw e (handed_more l bump (suc v.handed) q.last.handed a.number (omega (arith, n.count, q.later)) n.number)
      go m n q (inr h) = q.numbers m h
  after_hand_out_lem v next stay (refused n vs) o e more r = r

  after_finish_lem : (v : Save) (freed : List ℕ) (room : RoomLent) (stay : Run) (o : Outcome Finished) → OpenedOn l bump v
      → finish s v freed room ≡ o → Ran v.handed stay → Ran v.handed (after_finish freed stay o)
  after_finish_lem v freed room stay (answer f) o e r =
      record { last = v; of = o; later = omega arith; numbers = λ n m. absurd (Memᴰ.not-nil m); finishes = λ g m. (room, e ∙ ap answer (sym (only m))) }
    where
      only : {g : Finished} → Memᴰ g (f ∷ []) → g ≡ f
      only m = Memᴰ.eq_of_singleton m
  after_finish_lem v freed room stay (refused n vs) o e r = r

  -- every list of calls
  pub run_ran : (calls : List Call) (n : ℕ) → Ran n (run s l bump n calls)
  unfolding run
  run_ran [] n =
      let own : Own = record { recorded = 0; behind = record { pages = []; entries = [] } } in
      record {
        last = open_on l bump n own;
        of = opened_on n own;
        later = omega arith;
        numbers = λ x m. absurd (Memᴰ.not-nil m);
        finishes = λ f m. absurd (Memᴰ.not-nil m);
      }
  run_ran (hand_out_call own ∷ calls) n =
      let v = open_on l bump n own in
      after_hand_out_lem v (λ (m : ℕ). run s l bump m calls) (run s l bump n calls) (hand_out s v) (opened_on n own) refl (λ m. run_ran calls m) (run_ran calls n)
  run_ran (finish_call own freed room ∷ calls) n =
      let v = open_on l bump n own in
      after_finish_lem v freed room (run s l bump n calls) (finish s v freed room) (opened_on n own) refl (run_ran calls n)
