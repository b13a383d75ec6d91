-- The numbers handed out in one save differ: each is the number of its count, and each count is handed out once.
-- By induction over the calls. Assumes nothing.
use Prim.Native.Nat.{ℕ, suc, ◌+◌, ◌-◌, ◌<◌, ◌≤◌}
use native.Mathlib.Decide.{dec_lt}
use native.Mathlib.Omega.{arith}
use mathlib.Core.Path.{◌≡◌, refl, sym, ap, ◌∙◌, subst}
use mathlib.Core.Bool.{◌||◌, cond}
use mathlib.Core.List.Memᴰ
use mathlib.Core.List.{List, [], ◌∷◌, ◌++◌, Memᴰ}
use mathlib.Core.Logic.{◌⊎◌, inl, inr}
use lib.Dec.{ltb}
use lib.ListN.{length, get_or}
use lib.Seq.{get_or-take}
use borrow.Author.Tests.{lt-ltb, le-ltb}
use Rattle.laws.specs.Counting.{count, Different}
use Rattle.laws.proofs.PlacesLaws.{get_d-mem}
use Rattle.laws.proofs.CountLaws.{count-append, count_two, different_once, all_different_once}
use Rattle.refusal.specs.Outcome.{Outcome, answer, refused}
use Rattle.refusal.proofs.OutcomeLaws.{unanswer, check_answer}
use Rattle.page.specs.PageSize.{IsPageSize}
use Rattle.page.specs.Growth.{max_bump}
use Rattle.free_list.specs.Shape.{FreeList}
use Rattle.free_list.proofs.RepeatsLaws.{read_differs}
use Rattle.allocator.specs.OpenSave.{Save, bumped, state_fits, next_number, next_save, HandedOut, hand_out}
use Rattle.finisher.specs.Finish.{Finished, finish}
use Rattle.finisher.proofs.FinishedLaws.{finish_differs}
use Rattle.rollback.specs.Calls.{open_on, Call, hand_out_call, finish_call, Run, after_hand_out, after_finish, run}
use Rattle.rollback.specs.HandedOut.{HandsOut, ReadHandsOut, FinishHandsOut}
use Rattle.rollback.proofs.ReadersLaws.{list_read}
use Rattle.rollback.proofs.CallsLaws.{OpenedOn, opened_on}
use Rattle.rollback.proofs.BridgeLaws.{code_runs}

module _ (s : ℕ) (l : FreeList) (bump : ℕ) where
  abbrev L : ℕ
  L = length l.entries

  -- the number that is handed out where h were before it
  abbrev number_of : ℕ → ℕ
  number_of h = cond (ltb h L) (get_or l.entries (L - suc h) 0) (bump + (h - L))

  next_is : (v : Save) → OpenedOn l bump v → next_number v ≡ number_of v.handed
  unfolding next_number
  next_is v o = go (dec_lt v.handed L)
    where
      go : Dec (v.handed < L) → cond (ltb v.handed v.L) (get_or v.entry_table (v.L - suc v.handed) 0) (bumped v) ≡ number_of v.handed
      go (yes h) =
          let i = v.L - suc v.handed in
          let place : i ≡ L - suc v.handed = omega (arith, o.L) in
          rw (lt-ltb v.handed v.L (omega (arith, o.L)), lt-ltb v.handed L h)
          (sym (get_or-take v.L v.entry_table i 0 (omega (arith, o.L))) ∙ ap (λ (m : FreeList). get_or m.entries i 0) o.list ∙ ap (λ (k : ℕ). get_or l.entries k 0) place)
      go (no h) = rw (le-ltb v.handed v.L (omega (arith, o.L)), le-ltb v.handed L (omega arith)) (omega (arith, o.start, o.L))

  handed : (v : Save) (a : HandedOut) → OpenedOn l bump v → hand_out s v ≡ answer a → (a.number ≡ number_of v.handed) × (a.save.handed ≡ suc v.handed)
  unfolding hand_out
  handed v a o e =
      let c = check_answer (state_fits s v) 1 [] _ e in
      let d = check_answer (ltb v.handed v.L || ltb (next_number v) max_bump) 7 [] (answer (record { number = next_number v; save = next_save v })) c.1 in
      subst (λ (h : HandedOut). (h.number ≡ number_of v.handed) × (h.save.handed ≡ suc v.handed)) (unanswer d.1) (next_is v o, refl)

  -- a number of a count from n on
  abbrev Later : ℕ → ℕ → Type 0
  Later n x = (h : ℕ) × (n ≤ h) × (x ≡ number_of h)

  -- the calls on a save with a count of n hand out such numbers, which differ
  module _ (differ : (x : ℕ) → count x l.entries ≤ 1) (below : (x : ℕ) → Memᴰ x l.entries → x < bump) where
    -- two counts have two numbers
    apart : (g h : ℕ) → g < h → number_of g ≡ number_of h → ⊥
    apart g h less e = go (dec_lt g L) (dec_lt h L)
      where
        entry : (k : ℕ) → k < L → number_of k ≡ get_or l.entries (L - suc k) 0
        entry k i = rw (lt-ltb k L i) refl

        past : (k : ℕ) → (k < L → ⊥) → number_of k ≡ bump + (k - L)
        past k i = rw (le-ltb k L (omega arith)) refl

        go : Dec (g < L) → Dec (h < L) → ⊥
        go (yes p) (yes q) =
            let same : get_or l.entries (L - suc h) 0 ≡ get_or l.entries (L - suc g) 0 = sym (sym (entry g p) ∙ e ∙ entry h q) in
            omega (arith, count_two l.entries (L - suc h) (L - suc g) (omega arith) (omega arith) same, differ (get_or l.entries (L - suc g) 0))
        go (yes p) (no q) = omega (arith, below (get_or l.entries (L - suc g) 0) (get_d-mem l.entries (L - suc g) (omega arith)), entry g p, e, past h q)
        go (no p) (yes q) = omega arith
        go (no p) (no q) = omega (arith, past g p, e, past h q)

    record Hands (n : ℕ) (r : Run) : Type 0 where
      later : (x : ℕ) → Memᴰ x r.numbers → Later n x
      differs : Different r.numbers

    after_hand_out_lem : (v : Save) (next : ℕ → Run) (stay : Run) (o : Outcome HandedOut) → OpenedOn l bump v → hand_out s v ≡ o
        → ((m : ℕ) → Hands m (next m)) → Hands v.handed stay → Hands v.handed (after_hand_out next stay o)
    after_hand_out_lem v next stay (refused n vs) o e more r = r
    after_hand_out_lem v next stay (answer a) o e more r =
        let n = handed v a o e in
        let q = more a.save.handed in
        record {
          later = λ x m. go n q x (Memᴰ.cases_cons m);
          differs = (λ m. first n (q.later a.number m), q.differs);
        }
      where
        first : (a.number ≡ number_of v.handed) × (a.save.handed ≡ suc v.handed) → Later a.save.handed a.number → ⊥
        first n (h, more, e) = apart v.handed h (omega (arith, n.1, more)) (sym n.0 ∙ e)

        go : (a.number ≡ number_of v.handed) × (a.save.handed ≡ suc v.handed) → Hands a.save.handed (next a.save.handed) → (x : ℕ) → (x ≡ a.number) ⊎ Memᴰ x (next a.save.handed).numbers
            → Later v.handed x
        go n q x (inl e) = (v.handed, omega arith, e ∙ n.0)
        go n q x (inr m) = let (h, more, e) = q.later x m in (h, omega (arith, n.1, more), e)

    after_finish_lem : (n : ℕ) (freed : List ℕ) (stay : Run) (o : Outcome Finished) → Hands n stay → Hands n (after_finish freed stay o)
    after_finish_lem n freed stay (answer f) r = record { later = λ x m. absurd (Memᴰ.not-nil m); differs = tt }
    after_finish_lem n freed stay (refused number values) r = r

    hands : (calls : List Call) (n : ℕ) → Hands n (run s l bump n calls)
    unfolding run
    hands [] n = record { later = λ x m. absurd (Memᴰ.not-nil m); differs = tt }
    hands (hand_out_call own ∷ calls) n =
        let v = open_on l bump n own in
        after_hand_out_lem v (λ (m : ℕ). run s l bump m calls) (run s l bump n calls) (hand_out s v) (opened_on s l bump n own) refl (λ m. hands calls m) (hands calls n)
    hands (finish_call own freed room ∷ calls) n =
        after_finish_lem n freed (run s l bump n calls) (finish s (open_on l bump n own) freed room) (hands calls n)

    hands_out : IsPageSize s → HandsOut s l bump
    hands_out size = record {
      run = λ n calls. (hands calls n).differs;
      told = λ n made follows. let (calls, is) = code_runs size l bump n made follows in subst Different is.numbers (hands calls n).differs;
    }

-- entries of a list whose numbers differ do
entries_once : (l : FreeList) → ((x : ℕ) → count x (l.pages ++ l.entries) ≤ 1) → (x : ℕ) → count x l.entries ≤ 1
entries_once l once x = omega (arith, once x, count-append x l.pages l.entries)

pub read_hands_out : {s : ℕ} → IsPageSize s → ReadHandsOut s
read_hands_out {s} size store head l gets bump below =
    hands_out s l bump (entries_once l (all_different_once (l.pages ++ l.entries) (read_differs s store head (list_read s store head l gets)))) below size

pub finish_hands_out : {s : ℕ} → IsPageSize s → FinishHandsOut s
finish_hands_out {s} size v freed room f e =
    let (differ, below) = finish_differs size v freed room f e in
    hands_out s f.list f.bump (entries_once f.list (different_once (f.list.pages ++ f.list.entries) differ)) (λ x m. below x (Memᴰ.append_right f.list.pages m)) size
