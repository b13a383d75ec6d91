-- From the code to the statement: any sequence of calls of the code is a run, the pages that a finish leaves are its writes, its tables and
-- those that a list was read into open the next save, and a value that was written is one that its reader gets.
-- By induction over the calls; what a definition has put into a lent slice is taken out of it again.
use Prim.Native.Nat.{ℕ, suc, ◌+◌, ◌*◌, ◌<◌, ◌≤◌}
use mathlib.Core.Path.{◌≡◌, refl, sym, ◌∙◌, ap, ap₂, subst}
use mathlib.Core.Bool.{false}
use mathlib.Core.List.Memᴰ
use mathlib.Core.List.{List, [], ◌∷◌, ◌++◌, map, append_assoc, Memᴰ}
use native.Mathlib.Nat.{mul-suc, mul-zero}
use native.Mathlib.Omega.{arith}
use borrow.Author.Tests.{leb-true, ltb-false}
use lib.Dec.{leb, ltb}
use lib.ListN.{length, get_or, take, drop, length-append, length-map}
use lib.Seq.{sets, sets-eq, take_at, drop_at, get_or_at}
use Rattle.laws.proofs.Tests.{and-true, cond_cases}
use Rattle.refusal.specs.Outcome.{Outcome, answer, refused}
use Rattle.refusal.specs.Effect.{Effect, effect}
use Rattle.page.specs.PageSize.{IsPageSize}
use Rattle.page.specs.Pages.{page_at, Write}
use Rattle.page.specs.Growth.{grown}
use Rattle.page.proofs.GrowthLaws.{grown_covers}
use Rattle.free_list.specs.Shape.{FreeList}
use Rattle.free_list.specs.Reading.{ListSize, ListTables, ListLent, list_in}
use Rattle.overflow.specs.Cells.{decode_cell_into}
use Rattle.overflow.specs.Kept.{cell_for}
use Rattle.overflow.proofs.NewTotalLaws.{either_positive}
use Rattle.overflow.proofs.CellsLaws.{count_encoded}
use Rattle.overflow.proofs.ReadBackLaws.{decode-back, reads_back}
use Rattle.allocator.specs.OpenSave.{Save, bumped, HandedOut, hand_out}
use Rattle.finisher.specs.Finish.{Finished, FinishAnswer, finish_answer, finish, FinishRoom, FinishLent, bytes_of_pages, lent_pages, stored, finish_into, room_in}
use Rattle.finisher.proofs.FinishLaws.{Succeeds, succeeds, bump_raised, lent_unmarked, into-answered, into-refused}
use Rattle.finisher.proofs.TablesLaws.{good_freed}
use Rattle.rollback.specs.Calls.{in_front, open_on, Call, hand_out_call, finish_call, Run, after_hand_out, after_finish, run}
use Rattle.rollback.specs.Rollback.{ToWrite, value_page as value_page_at, list_page as list_page_at}
use Rattle.rollback.specs.CodeCalls.{CodeCall, hand_out_made, finish_made, OpenOn, if_answered, Follows, answers, numbers_told, FinishTold, told_with, finish_told, pages_left, Tells, FinishIs, IsRun, CodeRuns, ReadGets, ReadOpens, WrittenReads, FromCode, value_page, list_page, CodeRollback}
use Rattle.free_list.proofs.RepeatsLaws.{answered_read, read_differing}
use Rattle.rollback.proofs.ReadersLaws.{gets_list}
use Rattle.rollback.proofs.WritesLaws.{written_whole}
use Rattle.rollback.proofs.RollbackLaws.{rollback}

-- ---- the writes

abbrev Whole : ℕ → List Write → Type 0
Whole s ws = (w : Write) → Memᴰ w ws → length w.bytes ≡ s

abbrev numbers_of : List Write → List ℕ
numbers_of ws = map (λ (w : Write). w.number) ws

-- pages one after another in a buffer, behind j others, with their numbers
lent_behind : (s : ℕ) (ws : List Write) (before numbers rest more : List ℕ) (j : ℕ) → Whole s ws → length before ≡ s * j → length numbers ≡ j
    → lent_pages s (before ++ (bytes_of_pages ws ++ rest)) (numbers ++ (numbers_of ws ++ more)) j (length ws) ≡ ws
unfolding lent_pages bytes_of_pages page_at
lent_behind s [] before numbers rest more j whole a b = refl
lent_behind s (w ∷ ws) before numbers rest more j whole a b =
    let buffer = before ++ ((w.bytes ++ bytes_of_pages ws) ++ rest) in
    let list = numbers ++ (w.number ∷ (numbers_of ws ++ more)) in
    let number : get_or list j 0 ≡ w.number = get_or_at numbers w.number (numbers_of ws ++ more) 0 j b in
    let bytes : take s (drop (s * j) buffer) ≡ w.bytes =
    rw (append_assoc w.bytes (bytes_of_pages ws) rest, drop_at before (w.bytes ++ (bytes_of_pages ws ++ rest)) (s * j) a)
    (take_at w.bytes (bytes_of_pages ws ++ rest) s (whole w (Memᴰ.head refl))) in
    let first : ◌≡◌ {A = Write} (record { number = get_or list j 0; bytes = take s (drop (s * j) buffer) }) w = λ i. record { number = number i; bytes = bytes i } in
    let next = lent_behind s ws (before ++ w.bytes) (numbers ++ (w.number ∷ [])) rest more (suc j) (λ x m. whole x (Memᴰ.tail m))
    (omega (arith, length-append before w.bytes, mul-suc s j, whole w (Memᴰ.head refl))) (omega (arith, length-append numbers (w.number ∷ []))) in
    let joined = ap (λ (b : List ℕ). before ++ b) (append_assoc w.bytes (bytes_of_pages ws) rest) ∙ sym (append_assoc before w.bytes (bytes_of_pages ws ++ rest)) in
    let listed = sym (append_assoc numbers (w.number ∷ []) (numbers_of ws ++ more)) in
    ap₂ (λ (x : Write) (xs : List Write). x ∷ xs) first (ap₂ (λ (b ns : List ℕ). lent_pages s b ns (suc j) (length ws)) joined listed ∙ next)

-- so many bytes
length-pages : (s : ℕ) (ws : List Write) → Whole s ws → length (bytes_of_pages ws) ≡ s * length ws
unfolding bytes_of_pages
length-pages s [] whole = sym (mul-zero s)
length-pages s (w ∷ ws) whole =
    omega (arith, length-append w.bytes (bytes_of_pages ws), whole w (Memᴰ.head refl), length-pages s ws (λ x m. whole x (Memᴰ.tail m)), mul-suc s (length ws))

-- pages that were put into a buffer and a number list
lent_all : (s : ℕ) (ws : List Write) (buffer numbers : List ℕ) → Whole s ws → s * length ws ≤ length buffer → length ws ≤ length numbers
    → lent_pages s (sets buffer 0 (bytes_of_pages ws)) (sets numbers 0 (numbers_of ws)) 0 (length ws) ≡ ws
lent_all s ws buffer numbers whole room places =
    rw (sets-eq (bytes_of_pages ws) buffer 0 (omega (arith, length-pages s ws whole)), sets-eq (numbers_of ws) numbers 0 (omega (arith, length-map ws (λ (w : Write). w.number))))
    (lent_behind s ws [] [] _ _ 0 whole (sym (mul-zero s)) refl)

-- ---- tables

-- those that a list was put into have it at the front
list_front : (t : ListTables) (l : FreeList) → length l.pages ≤ length t.pages → length l.entries ≤ length t.entries
    → (behind : ListTables) × (list_in t l ≡ in_front l behind)
list_front t l h k =
    let p = sets-eq l.pages t.pages 0 (omega arith) in
    let q = sets-eq l.entries t.entries 0 (omega arith) in (
      record { pages = drop (0 + length l.pages) t.pages; entries = drop (0 + length l.entries) t.entries },
      λ i. record { pages = p i; entries = q i },
    )

-- one read that answers is a read of its list
pub read_gets : (s : ℕ) → ReadGets s
read_gets s store head lent after size e =
    let r = answered_read s store false head lent after size e in
    let l = r.list in
    let fits = and-true (leb (length l.pages) (length lent.tables.pages)) _ r.fits in
    let (behind, front) = list_front lent.tables l (leb-true _ (length lent.tables.pages) fits.0) (leb-true _ (length lent.tables.entries) fits.1) in
    (l, gets_list s store head l (read_differing s store head r.reads r.differs), sym r.told, behind, ap (λ (x : ListLent). x.tables) (sym r.written) ∙ front)

-- so do those that it was read into
pub read_opens : (s : ℕ) → ReadOpens s
read_opens s store head l gets t room bits =
    let fits = and-true (leb (length l.pages) (length t.tables.pages)) _ room in
    let (behind, e) = list_front t.tables l (leb-true _ (length t.tables.pages) fits.0) (leb-true _ (length t.tables.entries) fits.1) in
    (behind, ap (λ (x : Effect ListSize ListLent). x.lent.tables) (gets t room bits) ∙ e)

-- ---- a finish that answers

module _ {s : ℕ} (size : IsPageSize s) (v : Save) (freed : List ℕ) (room : FinishRoom) where
  -- what was lent, once the map was used
  abbrev before : FinishLent
  before = lent_unmarked s v freed room

  -- what the call leaves where it answers
  abbrev left_by : Finished → Effect FinishAnswer FinishLent
  left_by f = effect (answer (finish_answer v f)) (stored before f)

  -- the recorded length is not below the bump, and so past all numbers freed
  freed_covered : {f : Finished} → Succeeds s v freed f → (n : ℕ) → Memᴰ n freed → n < (finish_answer v f).recorded
  unfolding finish_answer
  freed_covered {f} done n m =
      let under : n < f.bump = omega (arith, (good_freed (bumped v) freed done.good n m).1, bump_raised freed size done.stands, ap (λ (g : Finished). g.bump) done.is) in
      cond_cases (λ (r : ℕ). n < r) (ltb v.recorded f.bump) (grown f.bump) v.recorded
      (λ e. omega (arith, grown_covers f.bump)) (λ e. omega (arith, ltb-false v.recorded f.bump e))

  stored_tells : (f : Finished) → finish s v freed (room_in room) ≡ answer f → Tells s f (told_with freed (stored before f) (finish_answer v f))
  unfolding finish_answer
  stored_tells f e =
      let (done, fits) = succeeds s v freed (room_in room) f e in
      record {
        head = refl;
        bump = refl;
        P = refl;
        L = refl;
        writes = lent_all s f.written room.buffer room.numbers (written_whole done size) fits.bytes fits.numbers;
        opens = list_front before.tables f.list fits.pages fits.entries;
        covers = freed_covered done;
      }

-- ---- any sequence of calls

module _ {s : ℕ} (size : IsPageSize s) (l : FreeList) (bump : ℕ) where
  -- some calls of the statement that these are
  abbrev Runs : ℕ → List CodeCall → Type 0
  Runs n made = (calls : List Call) × IsRun s made (run s l bump n calls)

  -- the claim for the calls behind the first
  abbrev Rest : List CodeCall → Type 0
  Rest made = (n : ℕ) → Follows s l bump n made → Runs n made

  after_hand_out_lem : (made : List CodeCall) → Rest made → (n : ℕ) (v : Save) (o : Outcome HandedOut) → o ≡ hand_out s v
      → if_answered (λ (h : HandedOut). OpenOn l bump n v × Follows s l bump h.save.handed made) (Follows s l bump n made) o
      → Runs n (hand_out_made v o ∷ made)
  unfolding run numbers_told finish_told
  after_hand_out_lem made rest n v (answer h) e ((own, given), follows) =
      let (calls, is) = rest h.save.handed follows in
      let out : hand_out s (open_on l bump n own) ≡ answer h = ap (hand_out s) (sym given) ∙ sym e in (
        hand_out_call own ∷ calls,
        subst (λ (x : Outcome HandedOut). IsRun s (hand_out_made v (answer h) ∷ made) (after_hand_out (λ (m : ℕ). run s l bump m calls) (run s l bump n calls) x)) (sym out)
            (record { numbers = ap (λ (ns : List ℕ). h.number ∷ ns) is.numbers; finish = is.finish }),
      )
  after_hand_out_lem made rest n v (refused number vs) e follows =
      let (calls, is) = rest n follows in
      (calls, record { numbers = is.numbers; finish = is.finish })

  after_finish_lem : (made : List CodeCall) → Rest made → (n : ℕ) (v : Save) (freed : List ℕ) (room : FinishRoom) (o : Outcome Finished) → finish s v freed (room_in room) ≡ o
      → (e : Effect FinishAnswer FinishLent) → e ≡ finish_into s v freed room
      → if_answered (λ (a : FinishAnswer). OpenOn l bump n v × (made ≡ [])) (Follows s l bump n made) e.outcome → Runs n (finish_made v freed room e ∷ made)
  unfolding run numbers_told finish_told
  after_finish_lem made rest n v freed room (answer f) done e q follows =
      subst
      (λ (x : Effect FinishAnswer FinishLent). if_answered (λ (a : FinishAnswer). OpenOn l bump n v × (made ≡ [])) (Follows s l bump n made) x.outcome → Runs n (finish_made v freed room x ∷ made))
      (sym (q ∙ into-answered s v freed room f done))
      answered
      follows
    where
      answered : OpenOn l bump n v × (made ≡ []) → Runs n (finish_made v freed room (left_by size v freed room f) ∷ made)
      answered ((own, given), ends) =
          let out : finish s (open_on l bump n own) freed (room_in room) ≡ answer f = ap (λ (w : Save). finish s w freed (room_in room)) (sym given) ∙ done in (
            finish_call own freed (room_in room) ∷ [],
            subst (λ (x : Outcome Finished). IsRun s (finish_made v freed room (left_by size v freed room f) ∷ made) (after_finish freed (run s l bump n []) x)) (sym out)
                (record { numbers = sym (ap numbers_told ends); finish = (ap finish_told ends, refl, f, refl, stored_tells size v freed room f done) }),
          )
  after_finish_lem made rest n v freed room (refused number vs) done e q follows =
      let out = ap (λ (x : Effect FinishAnswer FinishLent). x.outcome) q ∙ into-refused s v freed room done in
      let (calls, is) = rest n (subst (λ (o : Outcome FinishAnswer). if_answered (λ (a : FinishAnswer). OpenOn l bump n v × (made ≡ [])) (Follows s l bump n made) o) out follows) in
      let r = run s l bump n calls in (
        calls,
        record {
          numbers = is.numbers;
          finish = subst (λ (o : Outcome FinishAnswer). FinishIs s r.finished r.freed (map (told_with freed e.lent) (answers o) ++ finish_told made)) (sym out) is.finish;
        },
      )

  runs : (made : List CodeCall) → Rest made
  unfolding run numbers_told finish_told finish_into
  runs [] n follows = ([], record { numbers = refl; finish = refl })
  runs (hand_out_made v o ∷ made) n follows = after_hand_out_lem made (runs made) n v o follows.0 follows.1
  runs (finish_made v freed room e ∷ made) n follows = after_finish_lem made (runs made) n v freed room (finish s v freed (room_in room)) refl e follows.0 follows.1

pub code_runs : {s : ℕ} → IsPageSize s → CodeRuns s
code_runs size l bump n made follows = runs size l bump made n follows

-- ---- demand 3

-- a page that the calls let a caller write is one that may be written
to_write : {s : ℕ} {made : List CodeCall} {r : Run} {w : Write} → IsRun s made r → FromCode s made w → ToWrite s r w
to_write is (value_page m e) = value_page_at (subst (Memᴰ _) (sym is.numbers) m) e
to_write {s} {made} {r} {w} is (list_page t m k) = go (finish_told made) is.finish m
  where
    go : (ts : List FinishTold) → FinishIs s r.finished r.freed ts → Memᴰ t ts → ToWrite s r w
    go [] f i = absurd (Memᴰ.not-nil i)
    go (x ∷ ts) (none, _, f, e, tells) i =
        let same : t ≡ x = Memᴰ.eq_of_singleton (subst (λ (us : List FinishTold). Memᴰ t (x ∷ us)) none i) in
        list_page_at f (subst (Memᴰ f) (sym e) (Memᴰ.head refl)) (subst (Memᴰ w) (ap (pages_left s) same ∙ tells.writes) k)

pub code_rollback : {s : ℕ} → IsPageSize s → CodeRollback s
code_rollback size a good n made follows extra writes allowed =
    let (calls, is) = code_runs size a.list a.bump n made follows in
    rollback size a _ good (record {
      start = n;
      calls = calls;
      extra = extra;
      writes = writes;
      allowed = λ w m. to_write is (allowed w m);
      leaves = refl;
    })

-- ---- values

-- what the writer wrote is read
pub written-value : {s : ℕ} → IsPageSize s → WrittenReads s
unfolding decode_cell_into
written-value {s} size store total value numbers either kept hash long =
    let decoded = decode-back size kept hash long (either_positive (length value) size kept.size either) in
    record {
      cell = λ h. rw (decoded, count_encoded s (cell_for value hash numbers) kept.few long);
      value = λ lent. reads_back size store total value numbers either kept hash long lent.numbers lent.value;
    }
