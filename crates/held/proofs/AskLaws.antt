-- Functions with plain parameters above a struct that holds one slice: the struct is made in a local and asked, once (`ask_meets`), once
-- with a place (`place_ask_meets`), or twice (`ask_both_meets`).
-- Each law is a walk of the function's MIR, by hand. All that it knows of `new` and of the methods is that they meet their contracts.
-- Assumes nothing.
use mathlib.Core.Path.{◌≡◌, refl, subst}
use Prim.Native.Nat.{ℕ, ◌<◌, ◌^◌}
use mathlib.Core.List.{List, [], ◌∷◌}
use lib.Dec.{T as Holds}
use seplogic.Ra.Ura.{Ura}
use mir.Syntax.{Callee, named, erased, ty_int, w64, Fn, local, value_local, seq, assign, place, rv_opd, aggregate, copy, call, return}
use mir.Val.{Val, WT, has_ty, vint, vstruct, vcons, vnil}
use base.Logic.{SProp, ent, emp, via, fst∗, snd∗, ex_e, id⊢}
use base.Fml.{Lft, Share, Fml, ftrue, flft}
use prog.Wp.{Calls, Loops, WpFn, Tables}
use types.Logic.{Logic, sem}
use contract.Lifetimes.{Lfts}
use contract.Monad.{fact}
use types.Kit.{‵, raw, ◌⊛◌, ⋆, some, later, ◌$◌, ◌∵◌, !, qed, by, move, drop, use1, use2, split, join, pick, fsplit, fjoin, suffices, frame, await, done}
use types.Part.{agg}
use types.Run.{look, init, forget, stop, from, load, of_opd, and_then, no_more, assigns, land, returns, enter, alloc1, alloc0, params1, pass1, pass0, free1, free0}
use sound.WpLaws.{FmC, fm_of, WpFn-mono}
use denote.RattleType.{owns}
use denote.Laws.{Is, Makes, shows}
use denote.Plain.{uint_Makes, uint_vals, uint_Tells}
use denote.Builtin.{u8, usize}
use denote.Ref.{Bor, NamedLft}
use denote.Signature.{plain}
use denote.Slice.{shr_slice_vals, shr_slice_Tells, shr_slice_Lawful}
use denote.Steps.{owned, peeks, heard, nothing}
use denote.Struct.Laws as LL
use denote.Triple.Statement.{Triple}
use denote.Triple.Call.{calls_at}
use denote.Triple.Entry.{on_entry}
use denote.Triple.Spec.{Meets}
use denote.Triple.Walked.{says, Stays, stay_dropped, walk_of, Goes-dropped, ends_at, walked, walk_Meets}
use denote.Exit.{yes}
use denote.Triple.Clauses.{closing, ensured, lasts}
use Rattle.held.proofs.Holders.{Holder, Answer, Says, SaysAt, slice_ty, held_ty, held, laws, copies, α, held_row, slice_row, of_slice, of_slice_at, of_held, of_held_at, makes_held, slice_says, slice_says_at, held_says, held_says_at, new_says, OfHeld, OfHeldAt, MakesHeld}
use Rattle.held.proofs.HeldLaws.{slice_is}

-- `S::new(page).m()`
abbrev pub ask_code : Holder → Answer → Callee → Callee → Fn
ask_code S R n m = record {
  lifetimes = 1;
  outlives = [];
  ty_params = [];
  givens = 0;
  params = 1;
  locals = local R.mir value_local ∷ local (slice_ty (named 0)) value_local ∷ local (held_ty S erased) value_local ∷ [];
  body = seq (call n (copy (place 1 []) ∷ []) (place 2 [])) (seq (call m (copy (place 2 []) ∷ []) (place 0 [])) return);
}

-- `S::new(page).m(i)`
abbrev pub place_ask_code : Holder → Answer → Callee → Callee → Fn
place_ask_code S R n m = record {
  lifetimes = 1;
  outlives = [];
  ty_params = [];
  givens = 0;
  params = 2;
  locals = local R.mir value_local ∷ local (slice_ty (named 0)) value_local ∷ local (ty_int w64) value_local ∷ local (held_ty S erased) value_local ∷ [];
  body = seq (call n (copy (place 1 []) ∷ []) (place 3 [])) (seq (call m (copy (place 3 []) ∷ copy (place 2 []) ∷ []) (place 0 [])) return);
}

-- a struct of two answers, both plain data
pub record Pair (R Q : Answer) : Type 2 where
  pub whole : Answer
  pub pair : (κs : Lfts 1) → (R.row κs).Denot → (Q.row κs).Denot → (whole.row κs).Denot
  pub is : (κs : Lfts 1) (r : (R.row κs).Denot) (t : (Q.row κs).Denot) (u v : Val) → Is (R.row κs) r (u ∷ []) → Is (Q.row κs) t (v ∷ []) → Is (whole.row κs) (pair κs r t) (vstruct (vcons u (vcons v vnil)) ∷ [])
  pub made : {M : Type 1} {𝓤 : Ura M} (𝓛 : Logic 𝓤) (κs : Lfts 1) → Makes 𝓛 (whole.row κs) (Is (whole.row κs))

-- `let p = S::new(page); P { .. p.m(), .. p.k() }`
abbrev pub ask_both_code : (S : Holder) (R Q : Answer) → Pair R Q → Callee → Callee → Callee → Fn
ask_both_code S R Q P n m k = record {
  lifetimes = 1;
  outlives = [];
  ty_params = [];
  givens = 0;
  params = 1;
  locals =
      local P.whole.mir value_local ∷ local (slice_ty (named 0)) value_local ∷ local (held_ty S erased) value_local ∷ local R.mir value_local
      ∷ local (held_ty S erased) value_local ∷ local Q.mir value_local ∷ local (held_ty S erased) value_local ∷ [];
  body =
      seq (call n (copy (place 1 []) ∷ []) (place 2 []))
      (seq (assign (place 4 []) (rv_opd (copy (place 2 []))))
      (seq (call m (copy (place 4 []) ∷ []) (place 3 []))
      (seq (assign (place 6 []) (rv_opd (copy (place 2 []))))
      (seq (call k (copy (place 6 []) ∷ []) (place 5 []))
      (seq (assign (place 0 []) (aggregate (copy (place 3 []) ∷ copy (place 5 []) ∷ []))) return)))));
}

abbrev ask_stayed : (R : Answer) → Stays (of_slice R).signature.params (of_slice R).kept
ask_stayed R = (stay_dropped (plain slice_row) yes, tt)

abbrev place_stayed : (R : Answer) → Stays (of_slice_at R).signature.params (of_slice_at R).kept
place_stayed R = (stay_dropped (plain slice_row) yes, (stay_dropped (plain (λ κs. usize)) yes, tt))

module _ {M : Type 1} {𝓤 : Ura M} (𝓛 : Logic 𝓤) (S : Holder) (κ : Lft) (q : Share) (s : Bor (List ℕ)) where
  open 𝓛 use {H}

  abbrev κs : Lfts 1
  κs = (κ, tt)

  -- the struct's type as a local of a body has it
  abbrev αᵉ : NamedLft
  αᵉ = record { mir = erased; lft = κ }

  abbrev Own : S.D → Val → Fml
  Own d u = (held_row S κs).own_val d (u ∷ [])

  held_typed : (d : S.D) (u : Val) → Is (held_row S κs) d (u ∷ []) → Holds (has_ty (held_ty S erased) u) × WT u
  held_typed d u is = ((LL.lawful (held S αᵉ) (laws S αᵉ) 𝓛).typed d _ is).0

  slice_typed : Is (slice_row κs) s (slice_is s ∷ []) → Holds (has_ty (slice_ty (named 0)) (slice_is s)) × WT (slice_is s)
  slice_typed p = ((shr_slice_Lawful 𝓛 (named 0) κ u8).typed s (slice_is s ∷ []) p).0

  -- the call of `new`: what it is passed, and of what it ensures the clause alone
  abbrev to_new : (MakesHeld 𝓤 𝓛 S).Ghost
  to_new = ((κs, (q, tt), tt, (s, tt), (slice_is s ∷ [], tt)), tt)

  abbrev NewEnsured : S.D → SProp 𝓤
  NewEnsured d = ensured 𝓛 (makes_held S) (new_says 𝓤 S) κs (s, tt) tt d

  new_said : (d : S.D) → ent 𝓤 (NewEnsured d) (fact 𝓤 (S.page d ≡ s))
  new_said d = ex_e 𝓤 _ (λ ws. snd∗ 𝓤 (sem 𝓛 (lasts (makes_held S) κs (s, tt) ws)) (fact 𝓤 (S.page d ≡ s)))

  -- the call of a method, on the struct d with the machine value u
  module _ (R : Answer) (φ : Says R) where
    abbrev to_method : S.D → Val → (OfHeld 𝓤 𝓛 S R φ).Ghost
    to_method d u = ((κs, (q, tt), tt, (d, tt), (u ∷ [], tt)), tt)

    goes_method : (d : S.D) (u : Val) → ent 𝓤 (⋆ 𝓛 (‵ (Own d u) ∷ (‵ (flft κ q) ⊛ ‵ ftrue) ∷ [])) ((OfHeld 𝓤 𝓛 S R φ).pre (to_method d u))
    goes_method d u = qed 𝓛 (‵ (Own d u) ∷ (‵ (flft κ q) ⊛ ‵ ftrue) ∷ []) ∵ nothing ! $ move ! (1 ∷ 0 ∷ []) $ fjoin ! $ move ! (1 ∷ 0 ∷ []) $ join ! $ frame ! $ done !

    abbrev Clause : S.D → (R.row κs).Denot → Type 0
    Clause d r = φ κs (S.page d).now r

    abbrev Ensured : S.D → (R.row κs).Denot → SProp 𝓤
    Ensured d r = ensured 𝓛 (of_held S R) (held_says 𝓤 S R φ) κs (d, tt) tt r

    method_said : (d : S.D) (r : (R.row κs).Denot) → ent 𝓤 (Ensured d r) (fact 𝓤 (Clause d r))
    method_said d r = ex_e 𝓤 _ (λ ws. snd∗ 𝓤 (sem 𝓛 (lasts (of_held S R) κs (d, tt) ws)) (fact 𝓤 (Clause d r)))

    -- the function's own entry and exit
    abbrev ask_entry : SProp 𝓤
    ask_entry = on_entry 𝓛 (of_slice R).signature κs (q, tt) (s, tt) (slice_is s ∷ [], tt)

    abbrev ask_post : Val → SProp 𝓤
    ask_post = (walk_of 𝓛 (of_slice R) (ask_stayed R) (slice_says 𝓤 R φ)).post ((κs, (q, tt), tt, (s, tt), (slice_is s ∷ [], tt)), tt)

    ask_exits : (r : (R.row κs).Denot) (u : Val) → φ κs s.now r → ent 𝓤 (⋆ 𝓛 (‵ ((R.row κs).own_val r (u ∷ [])) ∷ (‵ (flft κ q) ⊛ ‵ ftrue) ∷ [])) (ask_post u)
    ask_exits r u e =
        qed 𝓛 (‵ ((R.row κs).own_val r (u ∷ [])) ∷ (‵ (flft κ q) ⊛ ‵ ftrue) ∷ []) ∵
        suffices ! _ (ends_at 𝓛 (of_slice R) (ask_stayed R) (slice_says 𝓤 R φ) ((κs, (q, tt), tt, (s, tt), (slice_is s ∷ [], tt)), tt) u r (tt, tt) (tt, tt)) $ says ! e $
        move ! (1 ∷ []) $ frame ! $ nothing ! $ nothing ! $ fjoin ! $ done !

    ask_walk : (C : Calls 𝓤 H) (Λ : Loops 𝓤 H) (n m : Callee) → FmC 𝓤 H 𝓛.laws C → Triple 𝓤 (C n) (MakesHeld 𝓤 𝓛 S) → Triple 𝓤 (C m) (OfHeld 𝓤 𝓛 S R φ) → Is (slice_row κs) s (slice_is s ∷ [])
        → ent 𝓤 ask_entry (WpFn 𝓤 H C Λ (ask_code S R n m) (slice_is s ∷ []) ask_post)
    ask_walk C Λ n m fm known-new known p =
        qed 𝓛 (raw ask_entry ∷ []) ∵ enter ! C Λ (ask_code S R n m) (slice_is s ∷ []) _ $
        alloc1 ! (λ l₀. alloc1 ! (λ l₁. alloc1 ! (λ l₂. alloc0 ! $ params1 ! $ pass1 ! (init ! 2 refl (slice_typed p)) $ pass0 ! $
        nothing ! $ move ! (7 ∷ 0 ∷ []) $ use2 𝓛 (raw ((MakesHeld 𝓤 𝓛 S).pre to_new)) (id⊢ 𝓤 _) $
        calls_at ! fm (MakesHeld 𝓤 𝓛 S) known-new to_new (and_then ! (load ! (from ! (stop !)) (look ! 3 refl)) (no_more !)) (λ u.
        use1 𝓛 (later (some (λ (d : S.D). ((‵ (flft κ q) ⊛ ‵ ftrue) ⊛ ‵ (Own d u)) ⊛ raw (NewEnsured d)))) (id⊢ 𝓤 _) $ await ! tt $ pick ! (λ d.
        split ! $ move ! (1 ∷ []) $ use1 𝓛 (raw (fact 𝓤 (S.page d ≡ s))) (new_said d) $ heard ! (S.page d ≡ s) (λ same. split ! $ move ! (1 ∷ []) $
        -- [what the struct owns; the token; room for _2; …; _1; …; room for _0; …]
        peeks ! (held_row S κs) (Is (held_row S κs)) (shows 𝓛 (held_row S κs)) d (u ∷ []) (λ is.
        land ! (from ! (stop !)) (init ! 2 refl (held_typed d u is)) $
        use2 𝓛 (raw ((OfHeld 𝓤 𝓛 S R φ).pre (to_method d u))) (goes_method d u) $
        calls_at ! fm (OfHeld 𝓤 𝓛 S R φ) known (to_method d u) (and_then ! (load ! (from ! (stop !)) (look ! 1 refl)) (no_more !)) (λ v.
        use1 𝓛 (later (some (λ (r : (R.row κs).Denot). ((‵ (flft κ q) ⊛ ‵ ftrue) ⊛ ‵ ((R.row κs).own_val r (v ∷ []))) ⊛ raw (Ensured d r)))) (id⊢ 𝓤 _) $ await ! tt $ pick ! (λ r.
        split ! $ move ! (1 ∷ []) $ use1 𝓛 (raw (fact 𝓤 (Clause d r))) (method_said d r) $ heard ! (Clause d r) (λ e. split ! $ move ! (1 ∷ []) $
        -- [the result; the token; _2; …; _1; …; room for _0; …]
        peeks ! (R.row κs) (Is (R.row κs)) (shows 𝓛 (R.row κs)) r (v ∷ []) (λ is-r.
        land ! (from ! (stop !)) (init ! 6 refl (R.typed 𝓛 κs r v is-r)) $
        returns ! (look ! 6 refl) $ forget ! 2 refl $ forget ! 4 refl $ forget ! 6 refl $ move ! (6 ∷ 7 ∷ []) $ free1 ! $ move ! (4 ∷ 5 ∷ []) $ free1 ! $ move ! (2 ∷ 3 ∷ []) $ free1 ! $ free0 ! $
        by ! (ask_exits r v (subst (λ (x : Bor (List ℕ)). φ κs x.now r) same e)))))))))))))

  -- the same with a place
  module _ (R : Answer) (φ : SaysAt R) (i : ℕ) where
    abbrev to_place_method : S.D → Val → (OfHeldAt 𝓤 𝓛 S R φ).Ghost
    to_place_method d u = ((κs, (q, tt), tt, (d, (i, tt)), (u ∷ [], (vint w64 i ∷ [], tt))), tt)

    goes_place_method : (d : S.D) (u : Val) → i < 2 ^ 64 → ent 𝓤 (⋆ 𝓛 (‵ (Own d u) ∷ (‵ (flft κ q) ⊛ ‵ ftrue) ∷ [])) ((OfHeldAt 𝓤 𝓛 S R φ).pre (to_place_method d u))
    goes_place_method d u fits =
        qed 𝓛 (‵ (Own d u) ∷ (‵ (flft κ q) ⊛ ‵ ftrue) ∷ []) ∵
        nothing ! $ owned ! usize (Is usize) (uint_Makes 𝓛 w64) i _ (refl, fits) $ fjoin ! $ move ! (1 ∷ 0 ∷ []) $ fjoin ! $ move ! (1 ∷ 0 ∷ []) $ join ! $ frame ! $ done !

    abbrev PlaceClause : S.D → (R.row κs).Denot → Type 0
    PlaceClause d r = φ κs (S.page d).now i r

    abbrev PlaceEnsured : S.D → (R.row κs).Denot → SProp 𝓤
    PlaceEnsured d r = ensured 𝓛 (of_held_at S R) (held_says_at 𝓤 S R φ) κs (d, (i, tt)) tt r

    place_method_said : (d : S.D) (r : (R.row κs).Denot) → ent 𝓤 (PlaceEnsured d r) (fact 𝓤 (PlaceClause d r))
    place_method_said d r = ex_e 𝓤 _ (λ ws. snd∗ 𝓤 (sem 𝓛 (lasts (of_held_at S R) κs (d, (i, tt)) ws)) (fact 𝓤 (PlaceClause d r)))

    abbrev place_vals : List Val × (List Val × Unit {0})
    place_vals = (slice_is s ∷ [], (vint w64 i ∷ [], tt))

    abbrev place_entry : SProp 𝓤
    place_entry = on_entry 𝓛 (of_slice_at R).signature κs (q, tt) (s, (i, tt)) place_vals

    abbrev place_post : Val → SProp 𝓤
    place_post = (walk_of 𝓛 (of_slice_at R) (place_stayed R) (slice_says_at 𝓤 R φ)).post ((κs, (q, tt), tt, (s, (i, tt)), place_vals), tt)

    goes_new : ent 𝓤 place_entry ((MakesHeld 𝓤 𝓛 S).pre to_new)
    goes_new =
        qed 𝓛 ((‵ (flft κ q) ⊛ ‵ ftrue) ∷ ‵ (owns (slice_row κs ∷ usize ∷ []) (s, (i, tt)) place_vals) ∷ []) ∵ move ! (1 ∷ []) $ fsplit ! $ move ! (1 ∷ []) $ drop ! $
        nothing ! $ move ! (1 ∷ 0 ∷ []) $ fjoin ! $ move ! (1 ∷ 0 ∷ []) $ join ! $ frame ! $ done !

    place_exits : (r : (R.row κs).Denot) (u : Val) → φ κs s.now i r → ent 𝓤 (⋆ 𝓛 (‵ ((R.row κs).own_val r (u ∷ [])) ∷ (‵ (flft κ q) ⊛ ‵ ftrue) ∷ [])) (place_post u)
    place_exits r u e =
        qed 𝓛 (‵ ((R.row κs).own_val r (u ∷ [])) ∷ (‵ (flft κ q) ⊛ ‵ ftrue) ∷ []) ∵
        suffices ! _ (ends_at 𝓛 (of_slice_at R) (place_stayed R) (slice_says_at 𝓤 R φ) ((κs, (q, tt), tt, (s, (i, tt)), place_vals), tt) u r (tt, (tt, tt)) (tt, (tt, tt))) $ says ! e $
        move ! (1 ∷ []) $ frame ! $ nothing ! $ nothing ! $ fjoin ! $ nothing ! $ fjoin ! $ done !

    place_ask_walk : (C : Calls 𝓤 H) (Λ : Loops 𝓤 H) (n m : Callee) → FmC 𝓤 H 𝓛.laws C → Triple 𝓤 (C n) (MakesHeld 𝓤 𝓛 S) → Triple 𝓤 (C m) (OfHeldAt 𝓤 𝓛 S R φ) → Is (slice_row κs) s (slice_is s ∷ []) → i < 2 ^ 64
        → ent 𝓤 place_entry (WpFn 𝓤 H C Λ (place_ask_code S R n m) (slice_is s ∷ vint w64 i ∷ []) place_post)
    place_ask_walk C Λ n m fm known-new known p fits =
        qed 𝓛 (raw place_entry ∷ []) ∵ enter ! C Λ (place_ask_code S R n m) (slice_is s ∷ vint w64 i ∷ []) _ $
        alloc1 ! (λ l₀. alloc1 ! (λ l₁. alloc1 ! (λ l₂. alloc1 ! (λ l₃. alloc0 ! $ params1 ! $ pass1 ! (init ! 4 refl (slice_typed p)) $ pass1 ! (init ! 2 refl (tt, record { fits = fits })) $ pass0 ! $
        move ! (8 ∷ []) $ use1 𝓛 (raw ((MakesHeld 𝓤 𝓛 S).pre to_new)) goes_new $
        calls_at ! fm (MakesHeld 𝓤 𝓛 S) known-new to_new (and_then ! (load ! (from ! (stop !)) (look ! 5 refl)) (no_more !)) (λ u.
        use1 𝓛 (later (some (λ (d : S.D). ((‵ (flft κ q) ⊛ ‵ ftrue) ⊛ ‵ (Own d u)) ⊛ raw (NewEnsured d)))) (id⊢ 𝓤 _) $ await ! tt $ pick ! (λ d.
        split ! $ move ! (1 ∷ []) $ use1 𝓛 (raw (fact 𝓤 (S.page d ≡ s))) (new_said d) $ heard ! (S.page d ≡ s) (λ same. split ! $ move ! (1 ∷ []) $
        -- [what the struct owns; the token; room for _3; …; _2; …; _1; …; room for _0; …]
        peeks ! (held_row S κs) (Is (held_row S κs)) (shows 𝓛 (held_row S κs)) d (u ∷ []) (λ is.
        land ! (from ! (stop !)) (init ! 2 refl (held_typed d u is)) $
        use2 𝓛 (raw ((OfHeldAt 𝓤 𝓛 S R φ).pre (to_place_method d u))) (goes_place_method d u fits) $
        calls_at ! fm (OfHeldAt 𝓤 𝓛 S R φ) known (to_place_method d u) (and_then ! (load ! (from ! (stop !)) (look ! 1 refl)) (and_then ! (load ! (from ! (stop !)) (look ! 3 refl)) (no_more !))) (λ v.
        use1 𝓛 (later (some (λ (r : (R.row κs).Denot). ((‵ (flft κ q) ⊛ ‵ ftrue) ⊛ ‵ ((R.row κs).own_val r (v ∷ []))) ⊛ raw (PlaceEnsured d r)))) (id⊢ 𝓤 _) $ await ! tt $ pick ! (λ r.
        split ! $ move ! (1 ∷ []) $ use1 𝓛 (raw (fact 𝓤 (PlaceClause d r))) (place_method_said d r) $ heard ! (PlaceClause d r) (λ e. split ! $ move ! (1 ∷ []) $
        -- [the result; the token; _3; …; _2; …; _1; …; room for _0; …]
        peeks ! (R.row κs) (Is (R.row κs)) (shows 𝓛 (R.row κs)) r (v ∷ []) (λ is-r.
        land ! (from ! (stop !)) (init ! 8 refl (R.typed 𝓛 κs r v is-r)) $
        returns ! (look ! 8 refl) $ forget ! 2 refl $ forget ! 4 refl $ forget ! 6 refl $ forget ! 8 refl $
        move ! (8 ∷ 9 ∷ []) $ free1 ! $ move ! (6 ∷ 7 ∷ []) $ free1 ! $ move ! (4 ∷ 5 ∷ []) $ free1 ! $ move ! (2 ∷ 3 ∷ []) $ free1 ! $ free0 ! $
        by ! (place_exits r v (subst (λ (x : Bor (List ℕ)). φ κs x.now i r) same e))))))))))))))

  -- two methods, one after the other: the struct is copied for the first
  module _ (R Q : Answer) (P : Pair R Q) (φ : Says R) (ψ : Says Q) (χ : Says P.whole) where
    abbrev both : Val → Val → Val
    both u v = vstruct (vcons u (vcons v vnil))

    ask_both_walk : (C : Calls 𝓤 H) (Λ : Loops 𝓤 H) (n m k : Callee) → FmC 𝓤 H 𝓛.laws C → Triple 𝓤 (C n) (MakesHeld 𝓤 𝓛 S) → Triple 𝓤 (C m) (OfHeld 𝓤 𝓛 S R φ) → Triple 𝓤 (C k) (OfHeld 𝓤 𝓛 S Q ψ)
        → ((b : List ℕ) (r : (R.row κs).Denot) (t : (Q.row κs).Denot) → φ κs b r → ψ κs b t → χ κs b (P.pair κs r t)) → Is (slice_row κs) s (slice_is s ∷ [])
        → ent 𝓤 (ask_entry P.whole χ) (WpFn 𝓤 H C Λ (ask_both_code S R Q P n m k) (slice_is s ∷ []) (ask_post P.whole χ))
    ask_both_walk C Λ n m k fm known-new known known' told p =
        qed 𝓛 (raw (ask_entry P.whole χ) ∷ []) ∵ enter ! C Λ (ask_both_code S R Q P n m k) (slice_is s ∷ []) _ $
        alloc1 ! (λ l₀. alloc1 ! (λ l₁. alloc1 ! (λ l₂. alloc1 ! (λ l₃. alloc1 ! (λ l₄. alloc1 ! (λ l₅. alloc1 ! (λ l₆. alloc0 ! $ params1 ! $ pass1 ! (init ! 10 refl (slice_typed p)) $ pass0 ! $
        nothing ! $ move ! (15 ∷ 0 ∷ []) $ use2 𝓛 (raw ((MakesHeld 𝓤 𝓛 S).pre to_new)) (id⊢ 𝓤 _) $
        calls_at ! fm (MakesHeld 𝓤 𝓛 S) known-new to_new (and_then ! (load ! (from ! (stop !)) (look ! 11 refl)) (no_more !)) (λ u.
        use1 𝓛 (later (some (λ (d : S.D). ((‵ (flft κ q) ⊛ ‵ ftrue) ⊛ ‵ (Own d u)) ⊛ raw (NewEnsured d)))) (id⊢ 𝓤 _) $ await ! tt $ pick ! (λ d.
        split ! $ move ! (1 ∷ []) $ use1 𝓛 (raw (fact 𝓤 (S.page d ≡ s))) (new_said d) $ heard ! (S.page d ≡ s) (λ same. split ! $ move ! (1 ∷ []) $
        -- [what the struct owns; the token; room for _6; …; _5 and so on down to room for _0; …]
        peeks ! (held_row S κs) (Is (held_row S κs)) (shows 𝓛 (held_row S κs)) d (u ∷ []) (λ is.
        land ! (from ! (stop !)) (init ! 10 refl (held_typed d u is)) $
        assigns ! (of_opd ! (load ! (from ! (stop !)) (look ! 10 refl))) (from ! (stop !)) (init ! 6 refl (held_typed d u is)) $
        use1 𝓛 (‵ (Own d u) ⊛ ‵ (Own d u)) ((LL.copy (held S (α κs)) (copies S (α κs)) 𝓛).twice d (u ∷ [])) $ split ! $ move ! (0 ∷ 2 ∷ []) $
        use2 𝓛 (raw ((OfHeld 𝓤 𝓛 S R φ).pre (to_method R φ d u))) (goes_method R φ d u) $
        calls_at ! fm (OfHeld 𝓤 𝓛 S R φ) known (to_method R φ d u) (and_then ! (load ! (from ! (stop !)) (look ! 6 refl)) (no_more !)) (λ v.
        use1 𝓛 (later (some (λ (r : (R.row κs).Denot). ((‵ (flft κ q) ⊛ ‵ ftrue) ⊛ ‵ ((R.row κs).own_val r (v ∷ []))) ⊛ raw (Ensured R φ d r)))) (id⊢ 𝓤 _) $ await ! tt $ pick ! (λ r.
        split ! $ move ! (1 ∷ []) $ use1 𝓛 (raw (fact 𝓤 (Clause R φ d r))) (method_said R φ d r) $ heard ! (Clause R φ d r) (λ e. split ! $ move ! (1 ∷ []) $
        -- [the first answer; the token; what the struct owns; _6; …]
        peeks ! (R.row κs) (Is (R.row κs)) (shows 𝓛 (R.row κs)) r (v ∷ []) (λ is-r.
        land ! (from ! (stop !)) (init ! 9 refl (R.typed 𝓛 κs r v is-r)) $
        assigns ! (of_opd ! (load ! (from ! (stop !)) (look ! 11 refl))) (from ! (stop !)) (init ! 3 refl (held_typed d u is)) $
        drop ! $ move ! (1 ∷ 0 ∷ []) $ use2 𝓛 (raw ((OfHeld 𝓤 𝓛 S Q ψ).pre (to_method Q ψ d u))) (goes_method Q ψ d u) $
        calls_at ! fm (OfHeld 𝓤 𝓛 S Q ψ) known' (to_method Q ψ d u) (and_then ! (load ! (from ! (stop !)) (look ! 1 refl)) (no_more !)) (λ v'.
        use1 𝓛 (later (some (λ (t : (Q.row κs).Denot). ((‵ (flft κ q) ⊛ ‵ ftrue) ⊛ ‵ ((Q.row κs).own_val t (v' ∷ []))) ⊛ raw (Ensured Q ψ d t)))) (id⊢ 𝓤 _) $ await ! tt $ pick ! (λ t.
        split ! $ move ! (1 ∷ []) $ use1 𝓛 (raw (fact 𝓤 (Clause Q ψ d t))) (method_said Q ψ d t) $ heard ! (Clause Q ψ d t) (λ e'. split ! $ move ! (1 ∷ []) $
        -- [the second answer; the token; _6; …]
        peeks ! (Q.row κs) (Is (Q.row κs)) (shows 𝓛 (Q.row κs)) t (v' ∷ []) (λ is-t. let is-both = P.is κs r t v v' is-r is-t in
        land ! (from ! (stop !)) (init ! 4 refl (Q.typed 𝓛 κs t v' is-t)) $
        assigns ! (agg ! (and_then ! (load ! (from ! (stop !)) (look ! 8 refl)) (and_then ! (load ! (from ! (stop !)) (look ! 4 refl)) (no_more !)))) (from ! (stop !)) (init ! 14 refl (P.whole.typed 𝓛 κs (P.pair κs r t) (both v v') is-both)) $
        drop ! $ owned ! (P.whole.row κs) (Is (P.whole.row κs)) (P.made 𝓛 κs) (P.pair κs r t) _ is-both $
        returns ! (look ! 14 refl) $ forget ! 2 refl $ forget ! 4 refl $ forget ! 6 refl $ forget ! 8 refl $ forget ! 10 refl $ forget ! 12 refl $ forget ! 14 refl $
        move ! (14 ∷ 15 ∷ []) $ free1 ! $ move ! (12 ∷ 13 ∷ []) $ free1 ! $ move ! (10 ∷ 11 ∷ []) $ free1 ! $ move ! (8 ∷ 9 ∷ []) $ free1 ! $ move ! (6 ∷ 7 ∷ []) $ free1 ! $ move ! (4 ∷ 5 ∷ []) $ free1 ! $ move ! (2 ∷ 3 ∷ []) $ free1 ! $ free0 ! $
        by ! (ask_exits P.whole χ (P.pair κs r t) (both v v') (subst (λ (x : Bor (List ℕ)). χ κs x.now (P.pair κs r t)) same (told (S.page d).now r t e e'))))))))))))))))))))))

module _ {M : Type 1} {𝓤 : Ura M} (𝓛 : Logic 𝓤) (S : Holder) where
  open 𝓛 use {H}

  pub ask_meets : (R : Answer) (φ : Says R) (n m : Callee) (𝓣 : Tables 𝓤 H) → Triple 𝓤 (𝓣.C n) (MakesHeld 𝓤 𝓛 S) → Triple 𝓤 (𝓣.C m) (OfHeld 𝓤 𝓛 S R φ)
      → Meets 𝓛 (of_slice R).signature (WpFn 𝓤 H 𝓣.C 𝓣.Λ (ask_code S R n m)) (closing 𝓛 (of_slice R) (slice_says 𝓤 R φ))
  ask_meets R φ n m 𝓣 known-new known =
      walk_Meets 𝓛 (of_slice R) (ask_stayed R) (Goes-dropped 𝓛 1 (plain slice_row) yes (λ κs x f. refl), tt) (slice_says 𝓤 R φ) _ (WpFn-mono 𝓤 H 𝓛.laws 𝓣 (ask_code S R n m))
      (walked 𝓛 (of_slice R) (ask_stayed R) (slice_says 𝓤 R φ) (WpFn 𝓤 H 𝓣.C 𝓣.Λ (ask_code S R n m)) (λ κs. (shr_slice_vals, tt)) (λ κs. (shr_slice_Tells (named 0) κs.0 u8, tt))
      (λ κs qs bounds a g are. via 𝓤 _ (fst∗ 𝓤 _ (emp 𝓤)) (ask_walk 𝓛 S κs.0 qs.0 a.0 R φ 𝓣.C 𝓣.Λ n m (fm_of 𝓤 H 𝓛.laws 𝓣) known-new known are.0)))

  pub place_ask_meets : (R : Answer) (φ : SaysAt R) (n m : Callee) (𝓣 : Tables 𝓤 H) → Triple 𝓤 (𝓣.C n) (MakesHeld 𝓤 𝓛 S) → Triple 𝓤 (𝓣.C m) (OfHeldAt 𝓤 𝓛 S R φ)
      → Meets 𝓛 (of_slice_at R).signature (WpFn 𝓤 H 𝓣.C 𝓣.Λ (place_ask_code S R n m)) (closing 𝓛 (of_slice_at R) (slice_says_at 𝓤 R φ))
  place_ask_meets R φ n m 𝓣 known-new known =
      walk_Meets 𝓛 (of_slice_at R) (place_stayed R) (Goes-dropped 𝓛 1 (plain slice_row) yes (λ κs x f. refl), (Goes-dropped 𝓛 1 (plain (λ κs. usize)) yes (λ κs x f. refl), tt)) (slice_says_at 𝓤 R φ) _ (WpFn-mono 𝓤 H 𝓛.laws 𝓣 (place_ask_code S R n m))
      (walked 𝓛 (of_slice_at R) (place_stayed R) (slice_says_at 𝓤 R φ) (WpFn 𝓤 H 𝓣.C 𝓣.Λ (place_ask_code S R n m)) (λ κs. (shr_slice_vals, (uint_vals w64, tt))) (λ κs. (shr_slice_Tells (named 0) κs.0 u8, (uint_Tells w64, tt)))
      (λ κs qs bounds a g are. via 𝓤 _ (fst∗ 𝓤 _ (emp 𝓤)) (place_ask_walk 𝓛 S κs.0 qs.0 a.0 R φ a.1.0 𝓣.C 𝓣.Λ n m (fm_of 𝓤 H 𝓛.laws 𝓣) known-new known are.0 are.1.0.1)))

  pub ask_both_meets : (R Q : Answer) (P : Pair R Q) (φ : Says R) (ψ : Says Q) (χ : Says P.whole) → ((κs : Lfts 1) (b : List ℕ) (r : (R.row κs).Denot) (t : (Q.row κs).Denot) → φ κs b r → ψ κs b t → χ κs b (P.pair κs r t))
      → (n m k : Callee) (𝓣 : Tables 𝓤 H) → Triple 𝓤 (𝓣.C n) (MakesHeld 𝓤 𝓛 S) → Triple 𝓤 (𝓣.C m) (OfHeld 𝓤 𝓛 S R φ) → Triple 𝓤 (𝓣.C k) (OfHeld 𝓤 𝓛 S Q ψ)
      → Meets 𝓛 (of_slice P.whole).signature (WpFn 𝓤 H 𝓣.C 𝓣.Λ (ask_both_code S R Q P n m k)) (closing 𝓛 (of_slice P.whole) (slice_says 𝓤 P.whole χ))
  ask_both_meets R Q P φ ψ χ told n m k 𝓣 known-new known known' =
      walk_Meets 𝓛 (of_slice P.whole) (ask_stayed P.whole) (Goes-dropped 𝓛 1 (plain slice_row) yes (λ κs x f. refl), tt) (slice_says 𝓤 P.whole χ) _ (WpFn-mono 𝓤 H 𝓛.laws 𝓣 (ask_both_code S R Q P n m k))
      (walked 𝓛 (of_slice P.whole) (ask_stayed P.whole) (slice_says 𝓤 P.whole χ) (WpFn 𝓤 H 𝓣.C 𝓣.Λ (ask_both_code S R Q P n m k)) (λ κs. (shr_slice_vals, tt)) (λ κs. (shr_slice_Tells (named 0) κs.0 u8, tt))
      (λ κs qs bounds a g are. via 𝓤 _ (fst∗ 𝓤 _ (emp 𝓤)) (ask_both_walk 𝓛 S κs.0 qs.0 a.0 R Q P φ ψ χ 𝓣.C 𝓣.Λ n m k (fm_of 𝓤 H 𝓛.laws 𝓣) known-new known known' (told κs) are.0)))
