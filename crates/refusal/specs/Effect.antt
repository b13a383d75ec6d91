-- What a call leaves: its outcome, and what was lent to it, as it is afterwards.
use Rattle.std.specs.Prelude.{ℕ, List}
use denote.Triple.Both.{Both}
use Rattle.std.specs.Borrow.{Bor, MutBor}
use Rattle.std.proofs.lemmas.List.Edits.{sets}
use Rattle.refusal.specs.Outcome.{Outcome, answer, refused}

-- ---- what is lent

-- a slice or an array that is lent to be read, as a contract sees it
abbrev pub Lent : Type 0
Lent = Both (Bor (List ℕ)) (Bor (List ℕ))

abbrev pub given : Lent → List ℕ
given x = x.entry.now

-- one that may be written: before the call and after it
abbrev pub LentMut : Type 0
LentMut = Both (MutBor (List ℕ)) (MutBor (List ℕ))

abbrev pub before : LentMut → List ℕ
before x = x.entry.now

abbrev pub after : LentMut → List ℕ
after x = x.exit.now

-- where nothing is lent
abbrev pub nothing : Unit {0}
nothing = tt

-- ---- what an operation leaves

pub record Effect (A B : Type 0) : Type 0 where
  pub outcome : Outcome A
  pub lent : B

abbrev pub effect : {A B : Type 0} → Outcome A → B → Effect A B
effect outcome lent = record { outcome = outcome; lent = lent }

-- an answer leaves what `written` makes of it; a refusal leaves all as it was
abbrev pub leaves : {A B C : Type 0} → (A → C) → (A → B) → B → Outcome A → Effect C B
leaves told written lent (answer a) = effect (answer (told a)) (written a)
leaves told written lent (refused number values) = effect (refused number values) lent

-- a refusal leaves all as it was, and behind an answer it goes on
abbrev pub go_on : {A B C : Type 0} → B → (A → Effect C B) → Outcome A → Effect C B
go_on lent next (answer a) = next a
go_on lent next (refused number values) = effect (refused number values) lent

-- ---- what a function of the C interface leaves: what it returns, its `out`, and what was lent beside that

pub record Called (B : Type 0) : Type 0 where
  pub status : ℕ
  pub out : List ℕ
  pub lent : B

-- 0 with an answer, else the refusal's number
abbrev pub status : {A : Type 0} → Outcome A → ℕ
status (answer a) = 0
status (refused number values) = number

-- the values of an answer, or of a refusal
abbrev pub told : {A : Type 0} → (A → List ℕ) → Outcome A → List ℕ
told values (answer a) = values a
told values (refused number vs) = vs

-- the values stand in `out` from place 0 on, whose other places stay
abbrev pub called : {A B : Type 0} → (A → List ℕ) → List ℕ → Effect A B → Called B
called values out e = record { status = status e.outcome; out = sets out 0 (told values e.outcome); lent = e.lent }

-- what such a function has left, as its contract sees it
abbrev pub left : {B : Type 0} → ℕ → LentMut → B → Called B
left r out lent = record { status = r; out = after out; lent = lent }

-- the same of a function that has no `out`
pub record Returned (B : Type 0) : Type 0 where
  pub status : ℕ
  pub lent : B

abbrev pub returned : {A B : Type 0} → Effect A B → Returned B
returned e = record { status = status e.outcome; lent = e.lent }
