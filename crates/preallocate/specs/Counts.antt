-- What the code keeps of a plan, and what it asks of the list that is planned for.
use Rattle.std.specs.Prelude.{ℕ, ◌^◌, ◌≤◌, ◌≡◌, cond, List, map, ltb, length}
use Rattle.std.proofs.lemmas.List.Edits.{sets}
use Rattle.page.specs.Growth.{max_bump}
use Rattle.free_list.specs.Shape.{FreeList}
use Rattle.preallocate.specs.Plan.{Plan}
use Rattle.preallocate.specs.declared.turns.Plan.{Plan as Counts}

-- a plan in numbers: its push list and its new pages only counted
abbrev pub counts : Plan → Counts
counts t =
    record { pages = t.kept; entries = t.left; pushed = length t.pushed; fresh = length t.fresh; bump = t.bump; top = t.top }

-- ---- contracts

-- So many entries of a list may be popped, from this bump on. Why each is asked:
-- `pops`: no more was popped than the list has;
-- `bumps`: a save whose own bump is past the limit is refused before it is planned; the bump is raised by one for each new page at most,
-- of which there are no more than numbers pushed, so that it has 64 bits too.
pub record Poppable (l : FreeList) (popped bump : ℕ) : Type 0 where
  pub pops : popped ≤ length l.entries
  pub bumps : bump ≤ max_bump

-- a number as a place of 32 bits keeps it: one that has more is 0 there. Only a bump past its limit has more, and the plan is then refused
abbrev pub narrow : ℕ → ℕ
narrow n = cond (ltb n (2 ^ 32)) n 0

-- the code has come to these counts, and put these numbers of new pages into `out` from place `at` on, as far as it reaches
pub record Told (q : Counts) (at : ℕ) (names before : List ℕ) (r : Counts) (after : List ℕ) : Type 0 where
  pub counted : r ≡ q
  pub named : after ≡ sets before at (map narrow names)

-- it has made a plan
abbrev pub Makes : Plan → List ℕ → Counts → List ℕ → Type 0
Makes t before r after = Told (counts t) 0 t.fresh before r after
