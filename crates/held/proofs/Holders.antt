-- Structs that hold one lent slice of bytes, the types of what their methods answer, and the contracts of the functions over them.
-- Assumes nothing: these are definitions.
use mathlib.Core.Path.{◌≡◌, refl}
use Prim.Native.Nat.{ℕ}
use mathlib.Core.List.{List, [], ◌∷◌}
use lib.Dec.{T as Holds}
use seplogic.Ra.Ura.{Ura}
use mir.Syntax.{Sym, Lifetime, named, imm, Width, Ty, ty_int, ty_ref, ty_struct, tnil, tcons, w8, w64}
use mir.Val.{Val, WT, has_ty}
use base.Logic.{emp}
use types.Logic.{Logic}
use contract.Lifetimes.{Lfts}
use contract.Monad.{fact}
use denote.RattleType.{RattleType}
use denote.Laws.{Is}
use denote.Plain.{UInt, uint_row_laws, uint_Lawful}
use denote.Builtin.{u8, usize, SliceRefOf}
use denote.Ref.{Bor, NamedLft}
use denote.Signature.{plain, named_lft}
use denote.Slice.{ShrSlice, shr_slice_Lawful}
use denote.Struct.Declared.{Declared, row, shape}
use denote.Struct.Struct.{layout}
use denote.Struct.Field.{shr_slice_field}
use denote.Struct.Laws as LL
use denote.Triple.Statement.{Contract}
use denote.Triple.Spec.{triple_of}
use denote.Triple.Clauses.{Ended, Clauses, closing}
use denote.Exit.{yes}

-- ---- the struct

-- a struct whose one field is a `&'a [u8]`: its name, its record, the field, the record that is made of a field, and that a record has
-- nothing else
pub record Holder : Type 1 where
  pub name : Sym
  pub D : Type 0
  pub page : D → Bor (List ℕ)
  pub make : Bor (List ℕ) → D
  pub kept : (x : Bor (List ℕ)) → page (make x) ≡ x
  pub one : NamedLft → (x y : D) → ◌≡◌ {A = Bor (List ℕ) × Unit {0}} (page x, tt) (page y, tt) → x ≡ y

-- the MIR types of `&'a [u8]` and of the struct
abbrev pub slice_ty : Lifetime → Ty
slice_ty ℓ = ty_struct (38 ∷ 91 ∷ 93 ∷ []) (tcons (ty_ref ℓ imm (ty_int w8)) (tcons (ty_int w64) tnil))

abbrev pub held_ty : Holder → Lifetime → Ty
held_ty S ℓ = ty_struct S.name (tcons (slice_ty ℓ) tnil)

-- the struct's type, its laws, and that it can be copied
abbrev pub held : Holder → NamedLft → Declared
held S a = record {
  name = S.name;
  args = a.mir ∷ [];
  types = [];
  parts = shr_slice_field a u8 tt ∷ [];
  D = S.D;
  to = λ d. (S.page d, tt);
  to_one = S.one a;
  as_values = λ d. (S.page d, tt);
  to_is = λ d. refl;
  cover = record {
    Ghost = λ v. Unit {0};
    ghosts = λ d. tt;
    make = λ v g. S.make v.0;
    eta = λ d. S.one a (S.make (S.page d)) d (λ i. (S.kept (S.page d) i, tt));
    beta = λ v g i. (S.kept v.0 i, tt);
  };
  propositions = λ v x y. refl;
}

abbrev pub laws : (S : Holder) (a : NamedLft) → LL.Laws (held S a)
laws S a = (LL.shr_slice_laws a u8 tt, tt)

abbrev pub copies : (S : Holder) (a : NamedLft) → LL.Copyables (held S a).parts
copies S a = (LL.shr_slice_copy a u8 tt (uint_row_laws w8), tt)

-- a signature's one lifetime, and at it the struct's row and the slice's
abbrev pub α : Lfts 1 → NamedLft
α κs = named_lft 1 0 tt κs

abbrev pub held_row : Holder → Lfts 1 → RattleType
held_row S κs = row (held S (α κs))

abbrev pub slice_row : Lfts 1 → RattleType
slice_row κs = ShrSlice (named 0) κs.0 u8

-- ---- the answers

-- the type of an answer: its row, its MIR type, and that a value of the one is of the other
pub record Answer : Type 2 where
  pub row : Lfts 1 → RattleType
  pub mir : Ty
  pub typed : {M : Type 1} {𝓤 : Ura M} (𝓛 : Logic 𝓤) → (κs : Lfts 1) (r : (row κs).Denot) (u : Val) → Is (row κs) r (u ∷ []) → Holds (has_ty mir u) × WT u

-- a number, a struct of plain data, and a part of the slice
abbrev pub number_answer : Width → Answer
number_answer w = record { row = λ κs. UInt w; mir = ty_int w; typed = λ 𝓛 κs r u is. ((uint_Lawful 𝓛 w).typed r _ is).0 }

abbrev pub struct_answer : (N : Declared) → LL.Laws N → Answer
struct_answer N L = record { row = λ κs. row N; mir = layout (shape N); typed = λ 𝓛 κs r u is. ((LL.lawful N L 𝓛).typed r _ is).0 }

abbrev pub slice_answer : Answer
slice_answer = record { row = slice_row; mir = slice_ty (named 0); typed = λ 𝓛 κs r u is. ((shr_slice_Lawful 𝓛 (named 0) κs.0 u8).typed r _ is).0 }

-- what is said of an answer, over the bytes of the slice; and over a place too
abbrev pub Says : Answer → Type 1
Says R = (κs : Lfts 1) → List ℕ → (R.row κs).Denot → Type 0

abbrev pub SaysAt : Answer → Type 1
SaysAt R = (κs : Lfts 1) → List ℕ → ℕ → (R.row κs).Denot → Type 0

-- ---- the contracts: no function asks anything

-- `fn f(page: &[u8]) -> R`, and with a place `i: usize`
abbrev pub of_slice : Answer → Ended
of_slice R = record {
  signature = record { lifetimes = 1; outlives = []; params = SliceRefOf (0 ∷ []) tt (plain (λ κs. u8)) (λ κs. tt) ∷ []; result = plain R.row };
  kept = (yes, tt);
}

abbrev pub of_slice_at : Answer → Ended
of_slice_at R = record {
  signature = record { lifetimes = 1; outlives = []; params = SliceRefOf (0 ∷ []) tt (plain (λ κs. u8)) (λ κs. tt) ∷ plain (λ κs. usize) ∷ []; result = plain R.row };
  kept = (yes, (yes, tt));
}

-- `fn m(self) -> R`, and with a place
abbrev pub of_held : Holder → Answer → Ended
of_held S R = record { signature = record { lifetimes = 1; outlives = []; params = plain (held_row S) ∷ []; result = plain R.row }; kept = (yes, tt) }

abbrev pub of_held_at : Holder → Answer → Ended
of_held_at S R = record { signature = record { lifetimes = 1; outlives = []; params = plain (held_row S) ∷ plain (λ κs. usize) ∷ []; result = plain R.row }; kept = (yes, (yes, tt)) }

-- `fn new(page: &'a [u8]) -> S<'a>`
abbrev pub makes_held : Holder → Ended
makes_held S = record {
  signature = record { lifetimes = 1; outlives = []; params = SliceRefOf (0 ∷ []) tt (plain (λ κs. u8)) (λ κs. tt) ∷ []; result = plain (held_row S) };
  kept = (yes, tt);
}

module _ {M : Type 1} (𝓤 : Ura M) where
  abbrev pub slice_says : (R : Answer) → Says R → Clauses 𝓤 (of_slice R)
  slice_says R φ κs args = record { ghost = Unit {0}; requires = λ g. emp 𝓤; ensures = λ g r e. fact 𝓤 (φ κs args.0.now r) }

  abbrev pub slice_says_at : (R : Answer) → SaysAt R → Clauses 𝓤 (of_slice_at R)
  slice_says_at R φ κs args = record { ghost = Unit {0}; requires = λ g. emp 𝓤; ensures = λ g r e. fact 𝓤 (φ κs args.0.now args.1.0 r) }

  abbrev pub held_says : (S : Holder) (R : Answer) → Says R → Clauses 𝓤 (of_held S R)
  held_says S R φ κs args = record { ghost = Unit {0}; requires = λ g. emp 𝓤; ensures = λ g r e. fact 𝓤 (φ κs (S.page args.0).now r) }

  abbrev pub held_says_at : (S : Holder) (R : Answer) → SaysAt R → Clauses 𝓤 (of_held_at S R)
  held_says_at S R φ κs args = record { ghost = Unit {0}; requires = λ g. emp 𝓤; ensures = λ g r e. fact 𝓤 (φ κs (S.page args.0).now args.1.0 r) }

  abbrev pub new_says : (S : Holder) → Clauses 𝓤 (makes_held S)
  new_says S κs args = record { ghost = Unit {0}; requires = λ g. emp 𝓤; ensures = λ g r e. fact 𝓤 (S.page r ≡ args.0) }

  module _ (𝓛 : Logic 𝓤) where
    abbrev pub OfSlice : (R : Answer) → Says R → Contract 𝓤
    OfSlice R φ = triple_of 𝓛 (of_slice R).signature (closing 𝓛 (of_slice R) (slice_says R φ))

    abbrev pub OfSliceAt : (R : Answer) → SaysAt R → Contract 𝓤
    OfSliceAt R φ = triple_of 𝓛 (of_slice_at R).signature (closing 𝓛 (of_slice_at R) (slice_says_at R φ))

    abbrev pub OfHeld : (S : Holder) (R : Answer) → Says R → Contract 𝓤
    OfHeld S R φ = triple_of 𝓛 (of_held S R).signature (closing 𝓛 (of_held S R) (held_says S R φ))

    abbrev pub OfHeldAt : (S : Holder) (R : Answer) → SaysAt R → Contract 𝓤
    OfHeldAt S R φ = triple_of 𝓛 (of_held_at S R).signature (closing 𝓛 (of_held_at S R) (held_says_at S R φ))

    abbrev pub MakesHeld : Holder → Contract 𝓤
    MakesHeld S = triple_of 𝓛 (makes_held S).signature (closing 𝓛 (makes_held S) (new_says S))
