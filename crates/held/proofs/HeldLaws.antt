-- Functions over a struct that holds one slice, each proved once for every such struct: the struct is made (`new_meets`), and a method
-- takes it apart and calls a function on the slice (`method_meets`, with a place `place_method_meets`).
-- Each law is a walk of the function's MIR, by hand. All that it knows of the function that is called is that it meets its contract.
-- Assumes nothing.
use mathlib.Core.Path.{◌≡◌, refl, sym, subst}
use Prim.Native.Nat.{ℕ, ◌<◌, ◌^◌}
use mathlib.Core.List.{List, [], ◌∷◌}
use lib.Dec.{T as Holds}
use lib.ListN.{length}
use seplogic.Ra.Ura.{Ura}
use mir.Syntax.{Callee, named, erased, ty_int, w64, Fn, local, value_local, seq, assign, place, rv_opd, aggregate, copy, field, call, return}
use mir.Val.{Val, WT, has_ty, vint, vstruct, vcons, vnil}
use base.Logic.{SProp, ent, emp, via, fst∗, snd∗, ex_e, id⊢}
use base.Fml.{Lft, Share, Fml, ftrue, flft}
use prog.Wp.{Calls, Loops, WpFn, Tables}
use types.Logic.{Logic, sem}
use contract.Monad.{fact}
use types.Kit.{‵, raw, ◌⊛◌, given, ⋆, some, later, ◌$◌, ◌∵◌, !, qed, by, move, drop, use1, split, join, learn, pick, fsplit, fjoin, suffices, frame, await, done}
use types.Part.{agg, whole, sub, look_in}
use types.Run.{look, init, forget, stop, fld, from, load, of_opd, and_then, no_more, assigns, land, returns, enter, alloc1, alloc0, params1, pass1, pass0, free1, free0}
use sound.WpLaws.{FmC, fm_of, WpFn-mono}
use denote.RattleType.{owns}
use denote.Laws.{Is, shows}
use denote.Plain.{uint_vals, uint_Tells}
use denote.Builtin.{u8, usize}
use denote.Ref.{Bor}
use denote.Signature.{plain}
use denote.Slice.{slice_val, shr_slice_vals, shr_slice_Tells, shr_slice_Lawful}
use denote.Steps.{peeks, heard, nothing}
use denote.Struct.Declared.{shape}
use denote.Struct.Struct.{Struct}
use denote.Struct.Laws as LL
use denote.Struct.Rest.{all_own, own_open, own_shut}
use denote.Triple.Statement.{Triple}
use denote.Triple.Call.{calls_at}
use denote.Triple.Entry.{on_entry}
use denote.Triple.Spec.{Meets}
use denote.Triple.Walked.{says, Stays, stay_dropped, walk_of, Goes-dropped, ends_at, walked, walk_Meets}
use denote.Exit.{yes}
use denote.Triple.Clauses.{closing, ensured, lasts}
use Rattle.held.proofs.Holders.{Holder, Answer, Says, SaysAt, slice_ty, held_ty, held, laws, α, held_row, slice_row, of_slice, of_slice_at, of_held, of_held_at, makes_held, slice_says, slice_says_at, held_says, held_says_at, new_says, OfSlice, OfSliceAt}

-- the machine values of a slice, and of a struct that holds it
abbrev pub slice_is : Bor (List ℕ) → Val
slice_is s = slice_val s.ref_ptr (length s.now)

abbrev held_is : (S : Holder) → S.D → Val
held_is S d = vstruct (vcons (slice_is (S.page d)) vnil)

-- ---- the struct is made: `S(page)`

abbrev pub new_code : Holder → Fn
new_code S = record {
  lifetimes = 1;
  outlives = [];
  ty_params = [];
  givens = 0;
  params = 1;
  locals = local (held_ty S (named 0)) value_local ∷ local (slice_ty (named 0)) value_local ∷ [];
  body = seq (assign (place 0 []) (aggregate (copy (place 1 []) ∷ []))) return;
}

module _ {M : Type 1} {𝓤 : Ura M} (𝓛 : Logic 𝓤) (S : Holder) where
  open 𝓛 use {H}

  abbrev new_stayed : Stays (makes_held S).signature.params (makes_held S).kept
  new_stayed = (stay_dropped (plain slice_row) yes, tt)

  module _ (κ : Lft) (q : Share) (s : Bor (List ℕ)) where
    abbrev made : Val
    made = vstruct (vcons (slice_is s) vnil)

    abbrev new_entry : SProp 𝓤
    new_entry = on_entry 𝓛 (makes_held S).signature (κ, tt) (q, tt) (s, tt) (slice_is s ∷ [], tt)

    abbrev new_post : Val → SProp 𝓤
    new_post = (walk_of 𝓛 (makes_held S) new_stayed (new_says 𝓤 S)).post (((κ, tt), (q, tt), tt, (s, tt), (slice_is s ∷ [], tt)), tt)

    abbrev slice_owns : Fml
    slice_owns = owns (slice_row (κ, tt) ∷ []) (s, tt) (slice_is s ∷ [], tt)

    -- what the slice owns is what the struct owns
    shut : ent 𝓤 (sem 𝓛 slice_owns) (sem 𝓛 ((held_row S (κ, tt)).own_val (S.make s) (made ∷ [])))
    shut =
        subst (λ (x : Bor (List ℕ)). ent 𝓤 (sem 𝓛 slice_owns) (sem 𝓛 ((Struct (shape (held S (α (κ, tt))))).own_val (x, tt) (made ∷ [])))) (sym (S.kept s))
        (own_shut 𝓛 (held S (α (κ, tt))) (laws S (α (κ, tt))) (s, tt))

    new_exits : ent 𝓤 new_entry (new_post made)
    new_exits =
        qed 𝓛 ((‵ (flft κ q) ⊛ ‵ ftrue) ∷ ‵ slice_owns ∷ []) ∵
        suffices ! _ (ends_at 𝓛 (makes_held S) new_stayed (new_says 𝓤 S) (((κ, tt), (q, tt), tt, (s, tt), (slice_is s ∷ [], tt)), tt) made (S.make s) (tt, tt) (tt, tt)) $ says ! (S.kept s) $
        frame ! $ nothing ! $ nothing ! $ fjoin ! $ frame ! $ by ! shut

    new_walk : (C : Calls 𝓤 H) (Λ : Loops 𝓤 H) → Is (slice_row (κ, tt)) s (slice_is s ∷ []) → ent 𝓤 new_entry (WpFn 𝓤 H C Λ (new_code S) (slice_is s ∷ []) new_post)
    new_walk C Λ p =
        let wt = ((shr_slice_Lawful 𝓛 (named 0) κ u8).typed s (slice_is s ∷ []) p).0 in
        qed 𝓛 (raw new_entry ∷ []) ∵ enter ! C Λ (new_code S) (slice_is s ∷ []) _ $
        alloc1 ! (λ l₀. alloc1 ! (λ l₁. alloc0 ! $ params1 ! $ pass1 ! (init ! 0 refl wt) $ pass0 ! $
        assigns ! (agg ! (and_then ! (load ! (from ! (stop !)) (look ! 0 refl)) (no_more !))) (from ! (stop !)) (init ! 2 refl (tt, (wt.1, tt))) $
        returns ! (look ! 2 refl) $ forget ! 0 refl $ forget ! 2 refl $ move ! (2 ∷ 3 ∷ []) $ free1 ! $ free1 ! $ free0 ! $ by ! new_exits))

  pub new_meets : (𝓣 : Tables 𝓤 H) → Meets 𝓛 (makes_held S).signature (WpFn 𝓤 H 𝓣.C 𝓣.Λ (new_code S)) (closing 𝓛 (makes_held S) (new_says 𝓤 S))
  new_meets 𝓣 =
      walk_Meets 𝓛 (makes_held S) new_stayed (Goes-dropped 𝓛 1 (plain slice_row) yes (λ κs x f. refl), tt) (new_says 𝓤 S) _ (WpFn-mono 𝓤 H 𝓛.laws 𝓣 (new_code S))
      (walked 𝓛 (makes_held S) new_stayed (new_says 𝓤 S) (WpFn 𝓤 H 𝓣.C 𝓣.Λ (new_code S)) (λ κs. (shr_slice_vals, tt)) (λ κs. (shr_slice_Tells (named 0) κs.0 u8, tt))
      (λ κs qs bounds a g are. via 𝓤 _ (fst∗ 𝓤 _ (emp 𝓤)) (new_walk κs.0 qs.0 a.0 𝓣.C 𝓣.Λ are.0)))

-- ---- a method: `f(self.0)`

abbrev pub method_code : Holder → Answer → Callee → Fn
method_code S R f = record {
  lifetimes = 1;
  outlives = [];
  ty_params = [];
  givens = 0;
  params = 1;
  locals = local R.mir value_local ∷ local (held_ty S (named 0)) value_local ∷ local (slice_ty erased) value_local ∷ [];
  body = seq (assign (place 2 []) (rv_opd (copy (place 1 (field 0 ∷ []))))) (seq (call f (copy (place 2 []) ∷ []) (place 0 [])) return);
}

module _ {M : Type 1} {𝓤 : Ura M} (𝓛 : Logic 𝓤) (S : Holder) (R : Answer) (φ : Says R) (f : Callee) where
  open 𝓛 use {H}

  abbrev method_stayed : Stays (of_held S R).signature.params (of_held S R).kept
  method_stayed = (stay_dropped (plain (held_row S)) yes, tt)

  module _ (κ : Lft) (q : Share) (d : S.D) where
    abbrev method_entry : SProp 𝓤
    method_entry = on_entry 𝓛 (of_held S R).signature (κ, tt) (q, tt) (d, tt) (held_is S d ∷ [], tt)

    abbrev method_post : Val → SProp 𝓤
    method_post = (walk_of 𝓛 (of_held S R) method_stayed (held_says 𝓤 S R φ)).post (((κ, tt), (q, tt), tt, (d, tt), (held_is S d ∷ [], tt)), tt)

    -- what the callee is passed; what it asks is what the struct owns
    abbrev to : (OfSlice 𝓤 𝓛 R φ).Ghost
    to = (((κ, tt), (q, tt), tt, (S.page d, tt), (slice_is (S.page d) ∷ [], tt)), tt)

    apart : ent 𝓤 method_entry ((OfSlice 𝓤 𝓛 R φ).pre to)
    apart =
        qed 𝓛 ((‵ (flft κ q) ⊛ ‵ ftrue) ∷ ‵ (owns (held_row S (κ, tt) ∷ []) (d, tt) (held_is S d ∷ [], tt)) ∷ []) ∵ move ! (1 ∷ []) $ fsplit ! $ move ! (1 ∷ []) $ drop ! $
        use1 𝓛 (given (held_is S d ∷ [] ≡ held_is S d ∷ []) (‵ (all_own (held S (α (κ, tt))).parts (laws S (α (κ, tt))) (S.page d, tt)))) (own_open 𝓛 (held S (α (κ, tt))) (laws S (α (κ, tt))) (S.page d, tt) (held_is S d)) $ learn ! (λ _.
        move ! (1 ∷ 0 ∷ []) $ join ! $ frame ! $ done !)

    -- of what the callee ensures, the clause alone
    abbrev Clause : (R.row (κ, tt)).Denot → Type 0
    Clause r = φ (κ, tt) (S.page d).now r

    abbrev Ensured : (R.row (κ, tt)).Denot → SProp 𝓤
    Ensured r = ensured 𝓛 (of_slice R) (slice_says 𝓤 R φ) (κ, tt) (S.page d, tt) tt r

    said : (r : (R.row (κ, tt)).Denot) → ent 𝓤 (Ensured r) (fact 𝓤 (Clause r))
    said r = ex_e 𝓤 _ (λ ws. snd∗ 𝓤 (sem 𝓛 (lasts (of_slice R) (κ, tt) (S.page d, tt) ws)) (fact 𝓤 (Clause r)))

    method_exits : (r : (R.row (κ, tt)).Denot) (u : Val) → Clause r → ent 𝓤 (⋆ 𝓛 (‵ ((R.row (κ, tt)).own_val r (u ∷ [])) ∷ (‵ (flft κ q) ⊛ ‵ ftrue) ∷ [])) (method_post u)
    method_exits r u e =
        qed 𝓛 (‵ ((R.row (κ, tt)).own_val r (u ∷ [])) ∷ (‵ (flft κ q) ⊛ ‵ ftrue) ∷ []) ∵
        suffices ! _ (ends_at 𝓛 (of_held S R) method_stayed (held_says 𝓤 S R φ) (((κ, tt), (q, tt), tt, (d, tt), (held_is S d ∷ [], tt)), tt) u r (tt, tt) (tt, tt)) $ says ! e $
        move ! (1 ∷ []) $ frame ! $ nothing ! $ nothing ! $ fjoin ! $ done !

    method_walk : (C : Calls 𝓤 H) (Λ : Loops 𝓤 H) → FmC 𝓤 H 𝓛.laws C → Triple 𝓤 (C f) (OfSlice 𝓤 𝓛 R φ) → Holds (has_ty (held_ty S (named 0)) (held_is S d)) × WT (held_is S d)
        → ent 𝓤 method_entry (WpFn 𝓤 H C Λ (method_code S R f) (held_is S d ∷ []) method_post)
    method_walk C Λ fm known wt =
        qed 𝓛 (raw method_entry ∷ []) ∵ enter ! C Λ (method_code S R f) (held_is S d ∷ []) _ $
        alloc1 ! (λ l₀. alloc1 ! (λ l₁. alloc1 ! (λ l₂. alloc0 ! $ params1 ! $ pass1 ! (init ! 2 refl wt) $ pass0 ! $
        assigns ! (of_opd ! (load ! (from ! (fld ! refl (stop !))) (look_in ! 2 (sub ! 0 refl (whole !))))) (from ! (stop !)) (init ! 0 refl (tt, wt.1.0)) $
        move ! (6 ∷ []) $ use1 𝓛 (raw ((OfSlice 𝓤 𝓛 R φ).pre to)) apart $
        calls_at ! fm (OfSlice 𝓤 𝓛 R φ) known to (and_then ! (load ! (from ! (stop !)) (look ! 1 refl)) (no_more !)) (λ u.
        use1 𝓛 (later (some (λ (r : (R.row (κ, tt)).Denot). ((‵ (flft κ q) ⊛ ‵ ftrue) ⊛ ‵ ((R.row (κ, tt)).own_val r (u ∷ []))) ⊛ raw (Ensured r)))) (id⊢ 𝓤 _) $ await ! tt $ pick ! (λ r.
        split ! $ move ! (1 ∷ []) $ use1 𝓛 (raw (fact 𝓤 (Clause r))) (said r) $ heard ! (Clause r) (λ e. split ! $ move ! (1 ∷ []) $
        -- [the result; the token; _2; …; _1; …; room for _0; …]
        peeks ! (R.row (κ, tt)) (Is (R.row (κ, tt))) (shows 𝓛 (R.row (κ, tt))) r (u ∷ []) (λ is.
        land ! (from ! (stop !)) (init ! 6 refl (R.typed 𝓛 (κ, tt) r u is)) $
        returns ! (look ! 6 refl) $ forget ! 2 refl $ forget ! 4 refl $ forget ! 6 refl $
        move ! (6 ∷ 7 ∷ []) $ free1 ! $ move ! (4 ∷ 5 ∷ []) $ free1 ! $ move ! (2 ∷ 3 ∷ []) $ free1 ! $ free0 ! $ by ! (method_exits r u e))))))))

  pub method_meets : (𝓣 : Tables 𝓤 H) → Triple 𝓤 (𝓣.C f) (OfSlice 𝓤 𝓛 R φ)
      → Meets 𝓛 (of_held S R).signature (WpFn 𝓤 H 𝓣.C 𝓣.Λ (method_code S R f)) (closing 𝓛 (of_held S R) (held_says 𝓤 S R φ))
  method_meets 𝓣 known =
      walk_Meets 𝓛 (of_held S R) method_stayed (Goes-dropped 𝓛 1 (plain (held_row S)) yes (λ κs x f. refl), tt) (held_says 𝓤 S R φ) _ (WpFn-mono 𝓤 H 𝓛.laws 𝓣 (method_code S R f))
      (walked 𝓛 (of_held S R) method_stayed (held_says 𝓤 S R φ) (WpFn 𝓤 H 𝓣.C 𝓣.Λ (method_code S R f)) (λ κs. (LL.vals (held S (α κs)) (laws S (α κs)), tt)) (λ κs. (LL.tells (held S (α κs)) (laws S (α κs)), tt))
      (λ κs qs bounds a g are. via 𝓤 _ (fst∗ 𝓤 _ (emp 𝓤))
      (method_walk κs.0 qs.0 a.0 𝓣.C 𝓣.Λ (fm_of 𝓤 H 𝓛.laws 𝓣) known ((LL.lawful (held S (α κs)) (laws S (α κs)) 𝓛).typed a.0 _ are.0).0)))

-- ---- a method with a place: `f(self.0, i)`

abbrev pub place_method_code : Holder → Answer → Callee → Fn
place_method_code S R f = record {
  lifetimes = 1;
  outlives = [];
  ty_params = [];
  givens = 0;
  params = 2;
  locals = local R.mir value_local ∷ local (held_ty S (named 0)) value_local ∷ local (ty_int w64) value_local ∷ local (slice_ty erased) value_local ∷ [];
  body = seq (assign (place 3 []) (rv_opd (copy (place 1 (field 0 ∷ []))))) (seq (call f (copy (place 3 []) ∷ copy (place 2 []) ∷ []) (place 0 [])) return);
}

module _ {M : Type 1} {𝓤 : Ura M} (𝓛 : Logic 𝓤) (S : Holder) (R : Answer) (φ : SaysAt R) (f : Callee) where
  open 𝓛 use {H}

  abbrev place_stayed : Stays (of_held_at S R).signature.params (of_held_at S R).kept
  place_stayed = (stay_dropped (plain (held_row S)) yes, (stay_dropped (plain (λ κs. usize)) yes, tt))

  module _ (κ : Lft) (q : Share) (d : S.D) (i : ℕ) where
    abbrev place_vals : List Val × (List Val × Unit {0})
    place_vals = (held_is S d ∷ [], (vint w64 i ∷ [], tt))

    abbrev place_entry : SProp 𝓤
    place_entry = on_entry 𝓛 (of_held_at S R).signature (κ, tt) (q, tt) (d, (i, tt)) place_vals

    abbrev place_post : Val → SProp 𝓤
    place_post = (walk_of 𝓛 (of_held_at S R) place_stayed (held_says_at 𝓤 S R φ)).post (((κ, tt), (q, tt), tt, (d, (i, tt)), place_vals), tt)

    abbrev to_place : (OfSliceAt 𝓤 𝓛 R φ).Ghost
    to_place = (((κ, tt), (q, tt), tt, (S.page d, (i, tt)), (slice_is (S.page d) ∷ [], (vint w64 i ∷ [], tt))), tt)

    place_apart : ent 𝓤 place_entry ((OfSliceAt 𝓤 𝓛 R φ).pre to_place)
    place_apart =
        qed 𝓛 ((‵ (flft κ q) ⊛ ‵ ftrue) ∷ ‵ (owns (held_row S (κ, tt) ∷ usize ∷ []) (d, (i, tt)) place_vals) ∷ []) ∵ move ! (1 ∷ []) $ fsplit ! $
        use1 𝓛 (given (held_is S d ∷ [] ≡ held_is S d ∷ []) (‵ (all_own (held S (α (κ, tt))).parts (laws S (α (κ, tt))) (S.page d, tt)))) (own_open 𝓛 (held S (α (κ, tt))) (laws S (α (κ, tt))) (S.page d, tt) (held_is S d)) $ learn ! (λ _.
        -- [what the slice owns; true; what i owns; the token]
        fsplit ! $ move ! (1 ∷ []) $ drop ! $ fjoin ! $ move ! (1 ∷ 0 ∷ []) $ join ! $ frame ! $ done !)

    abbrev PlaceClause : (R.row (κ, tt)).Denot → Type 0
    PlaceClause r = φ (κ, tt) (S.page d).now i r

    abbrev PlaceEnsured : (R.row (κ, tt)).Denot → SProp 𝓤
    PlaceEnsured r = ensured 𝓛 (of_slice_at R) (slice_says_at 𝓤 R φ) (κ, tt) (S.page d, (i, tt)) tt r

    place_said : (r : (R.row (κ, tt)).Denot) → ent 𝓤 (PlaceEnsured r) (fact 𝓤 (PlaceClause r))
    place_said r = ex_e 𝓤 _ (λ ws. snd∗ 𝓤 (sem 𝓛 (lasts (of_slice_at R) (κ, tt) (S.page d, (i, tt)) ws)) (fact 𝓤 (PlaceClause r)))

    place_exits : (r : (R.row (κ, tt)).Denot) (u : Val) → PlaceClause r → ent 𝓤 (⋆ 𝓛 (‵ ((R.row (κ, tt)).own_val r (u ∷ [])) ∷ (‵ (flft κ q) ⊛ ‵ ftrue) ∷ [])) (place_post u)
    place_exits r u e =
        qed 𝓛 (‵ ((R.row (κ, tt)).own_val r (u ∷ [])) ∷ (‵ (flft κ q) ⊛ ‵ ftrue) ∷ []) ∵
        suffices ! _ (ends_at 𝓛 (of_held_at S R) place_stayed (held_says_at 𝓤 S R φ) (((κ, tt), (q, tt), tt, (d, (i, tt)), place_vals), tt) u r (tt, (tt, tt)) (tt, (tt, tt))) $ says ! e $
        move ! (1 ∷ []) $ frame ! $ nothing ! $ nothing ! $ fjoin ! $ nothing ! $ fjoin ! $ done !

    place_walk : (C : Calls 𝓤 H) (Λ : Loops 𝓤 H) → FmC 𝓤 H 𝓛.laws C → Triple 𝓤 (C f) (OfSliceAt 𝓤 𝓛 R φ) → Holds (has_ty (held_ty S (named 0)) (held_is S d)) × WT (held_is S d) → i < 2 ^ 64
        → ent 𝓤 place_entry (WpFn 𝓤 H C Λ (place_method_code S R f) (held_is S d ∷ vint w64 i ∷ []) place_post)
    place_walk C Λ fm known wt fits =
        qed 𝓛 (raw place_entry ∷ []) ∵ enter ! C Λ (place_method_code S R f) (held_is S d ∷ vint w64 i ∷ []) _ $
        alloc1 ! (λ l₀. alloc1 ! (λ l₁. alloc1 ! (λ l₂. alloc1 ! (λ l₃. alloc0 ! $ params1 ! $ pass1 ! (init ! 4 refl wt) $ pass1 ! (init ! 2 refl (tt, record { fits = fits })) $ pass0 ! $
        assigns ! (of_opd ! (load ! (from ! (fld ! refl (stop !))) (look_in ! 4 (sub ! 0 refl (whole !))))) (from ! (stop !)) (init ! 0 refl (tt, wt.1.0)) $
        move ! (8 ∷ []) $ use1 𝓛 (raw ((OfSliceAt 𝓤 𝓛 R φ).pre to_place)) place_apart $
        calls_at ! fm (OfSliceAt 𝓤 𝓛 R φ) known to_place (and_then ! (load ! (from ! (stop !)) (look ! 1 refl)) (and_then ! (load ! (from ! (stop !)) (look ! 3 refl)) (no_more !))) (λ u.
        use1 𝓛 (later (some (λ (r : (R.row (κ, tt)).Denot). ((‵ (flft κ q) ⊛ ‵ ftrue) ⊛ ‵ ((R.row (κ, tt)).own_val r (u ∷ []))) ⊛ raw (PlaceEnsured r)))) (id⊢ 𝓤 _) $ await ! tt $ pick ! (λ r.
        split ! $ move ! (1 ∷ []) $ use1 𝓛 (raw (fact 𝓤 (PlaceClause r))) (place_said r) $ heard ! (PlaceClause r) (λ e. split ! $ move ! (1 ∷ []) $
        -- [the result; the token; _3; …; _2; …; _1; …; room for _0; …]
        peeks ! (R.row (κ, tt)) (Is (R.row (κ, tt))) (shows 𝓛 (R.row (κ, tt))) r (u ∷ []) (λ is.
        land ! (from ! (stop !)) (init ! 8 refl (R.typed 𝓛 (κ, tt) r u is)) $
        returns ! (look ! 8 refl) $ forget ! 2 refl $ forget ! 4 refl $ forget ! 6 refl $ forget ! 8 refl $
        move ! (8 ∷ 9 ∷ []) $ free1 ! $ move ! (6 ∷ 7 ∷ []) $ free1 ! $ move ! (4 ∷ 5 ∷ []) $ free1 ! $ move ! (2 ∷ 3 ∷ []) $ free1 ! $ free0 ! $ by ! (place_exits r u e)))))))))

  pub place_method_meets : (𝓣 : Tables 𝓤 H) → Triple 𝓤 (𝓣.C f) (OfSliceAt 𝓤 𝓛 R φ)
      → Meets 𝓛 (of_held_at S R).signature (WpFn 𝓤 H 𝓣.C 𝓣.Λ (place_method_code S R f)) (closing 𝓛 (of_held_at S R) (held_says_at 𝓤 S R φ))
  place_method_meets 𝓣 known =
      walk_Meets 𝓛 (of_held_at S R) place_stayed (Goes-dropped 𝓛 1 (plain (held_row S)) yes (λ κs x f. refl), (Goes-dropped 𝓛 1 (plain (λ κs. usize)) yes (λ κs x f. refl), tt)) (held_says_at 𝓤 S R φ) _ (WpFn-mono 𝓤 H 𝓛.laws 𝓣 (place_method_code S R f))
      (walked 𝓛 (of_held_at S R) place_stayed (held_says_at 𝓤 S R φ) (WpFn 𝓤 H 𝓣.C 𝓣.Λ (place_method_code S R f)) (λ κs. (LL.vals (held S (α κs)) (laws S (α κs)), (uint_vals w64, tt))) (λ κs. (LL.tells (held S (α κs)) (laws S (α κs)), (uint_Tells w64, tt)))
      (λ κs qs bounds a g are. via 𝓤 _ (fst∗ 𝓤 _ (emp 𝓤))
      (place_walk κs.0 qs.0 a.0 a.1.0 𝓣.C 𝓣.Λ (fm_of 𝓤 H 𝓛.laws 𝓣) known ((LL.lawful (held S (α κs)) (laws S (α κs)) 𝓛).typed a.0 _ are.0).0 are.1.0.1)))
