-- Laws about a line that is read byte by byte: its parts, the digits of a number, and what a byte more makes of what is read.
-- Assumes nothing.
use Rattle.std.proofs.Common.{arith, ℕ, ◌≡◌, ◌+◌, ◌*◌, ◌^◌, ◌<◌, ◌≤◌, ◌==◌, ◌≢◌, Bool, true, false, cond, List, [], ◌∷◌, ◌++◌, All, length, Option, Some, None, Ok, Err, unwrap_or, refl, sym, ap, subst, ◌∙◌, append_assoc, append-nil, length-append, ne_eqb}
use Rattle.std.specs.Char.{digit_value}
use Rattle.std.specs.List.{onto_first}
use Rattle.std.specs.Str.Parse.{AllDigits, digits_value}
use Rattle.std.proofs.lemmas.List.{map-append, length-map, take_at}
use Rattle.std.proofs.lemmas.List.Elements.{All-nil, All-cons, All-head, All-tail, All-push}
use Rattle.std.proofs.lemmas.List.Splits.{slice_split-cons_no, slice_split_none, length-slice_split}
use Rattle.std.proofs.lemmas.Result.{MatchResult-at_ok, MatchResult-at_err}
use Rattle.std.proofs.lemmas.Int.Digits.{digits_value_push, digits_push}
use Rattle.std.proofs.lemmas.Str.Parse.{digit_from_value, digits_value-take-le}
use Rattle.record_line.specs.declared.fault.Fault.{Fault}
use Rattle.record_line.specs.declared.fault.Fault.TheVariants.{Wrong, OutOfMemory}
use Rattle.record_line.specs.declared.TheConstants.{MOST}
use Rattle.record_line.specs.declared.reading.Reading.{Reading}
use Rattle.record_line.specs.Text.{IsNumber, IsLine, numbers_of, parts_of}
use Rattle.record_line.specs.Reading.{Writes, ReadsNumbers, Fails, Reads}

-- ---- lists

all_front : {X : Type 0} (P : X → Type 0) (xs ys : List X) → All P (xs ++ ys) → All P xs
all_front P [] ys all = All-nil P
all_front P (x ∷ xs) ys all = All-cons P x xs (All-head P x (xs ++ ys) all) (all_front P xs ys (All-tail P x (xs ++ ys) all))

all_back : {X : Type 0} (P : X → Type 0) (xs ys : List X) → All P (xs ++ ys) → All P ys
all_back P [] ys all = all
all_back P (x ∷ xs) ys all = all_back P xs ys (All-tail P x (xs ++ ys) all)

-- ---- the parts of a line

onto_first-append : {X : Type 0} (x : X) (front back : List (List X)) → 0 < length front → onto_first x (front ++ back) ≡ onto_first x front ++ back
onto_first-append x [] back some = absurd (omega arith)
onto_first-append x (part ∷ parts) back some = refl

parts_more : (space : Bool) (b : ℕ) (whole front back : List (List ℕ)) → whole ≡ front ++ back → 0 < length front
    → cond space ([] ∷ whole) (onto_first b whole) ≡ cond space ([] ∷ front) (onto_first b front) ++ back
parts_more true b whole front back same some = ap (λ (parts : List (List ℕ)). [] ∷ parts) same
parts_more false b whole front back same some = ap (onto_first b) same ∙ onto_first-append b front back some

some_part : (bytes : List ℕ) → 0 < length (parts_of bytes)
some_part bytes = omega (arith, length-slice_split (λ b. b == 32) bytes)

-- a space parts a line
parts_joined : (bytes more : List ℕ) → parts_of (bytes ++ 32 ∷ more) ≡ parts_of bytes ++ parts_of more
parts_joined [] more = refl
parts_joined (b ∷ bytes) more = parts_more (b == 32) b (parts_of (bytes ++ 32 ∷ more)) (parts_of bytes) (parts_of more) (parts_joined bytes more) (some_part bytes)

abbrev NoSpace : ℕ → Type 0
NoSpace b = (b == 32) ≡ false

-- bytes without a space begin a part
part_begins : (bytes more : List ℕ) → All NoSpace bytes → (first : List ℕ) × (rest : List (List ℕ)) × (parts_of (bytes ++ more) ≡ (bytes ++ first) ∷ rest)
part_begins [] more none = first_part (parts_of more) (some_part more)
  where
    first_part : (parts : List (List ℕ)) → 0 < length parts → (first : List ℕ) × (rest : List (List ℕ)) × (parts ≡ first ∷ rest)
    first_part [] some = absurd (omega arith)
    first_part (first ∷ rest) some = (first, rest, refl)
part_begins (b ∷ bytes) more none =
    let (first, rest, begins) = part_begins bytes more (All-tail NoSpace b bytes none) in
    (first, rest, slice_split-cons_no (λ b. b == 32) b (bytes ++ more) (All-head NoSpace b bytes none) ∙ ap (onto_first b) begins)

-- ---- the digits of a number

digit_no_space : (b : ℕ) → digit_value b < 10 → NoSpace b
digit_no_space b digit = let range = digit_from_value b digit in ne_eqb b 32 (λ same. absurd (omega (arith, range.0)))

digits_no_space : (digits : List ℕ) → AllDigits 10 digits → All NoSpace digits
digits_no_space [] are = All-nil NoSpace
digits_no_space (b ∷ digits) are = All-cons NoSpace b digits (digit_no_space b are.0) (digits_no_space digits are.1)

digits_front : (digits more : List ℕ) → AllDigits 10 (digits ++ more) → AllDigits 10 digits
digits_front [] more are = tt
digits_front (b ∷ digits) more are = (are.0, digits_front digits more are.1)

digits_back : (digits more : List ℕ) → AllDigits 10 (digits ++ more) → AllDigits 10 more
digits_back [] more are = are
digits_back (b ∷ digits) more are = digits_back digits more are.1

value_front : (digits more : List ℕ) → digits_value 10 digits ≤ digits_value 10 (digits ++ more)
value_front digits more =
    let least = digits_value-take-le 10 (digits ++ more) (length digits) (omega arith) in
    rw (take_at digits more (length digits) refl) at least

-- a number's first bytes, the last of which is a digit
number_front : (digits more : List ℕ) (b : ℕ) → IsNumber ((digits ++ b ∷ []) ++ more) → (digit_value b < 10) × (digits_value 10 digits * 10 + digit_value b < 2 ^ 64)
number_front digits more b number =
    let last = digits_back digits (b ∷ []) (digits_front (digits ++ b ∷ []) more number.0.1) in
    (last.0, omega (arith, value_front (digits ++ b ∷ []) more, digits_value_push 10 digits b, number.1))

-- ---- why a line fails

-- what fails where it ends, fails whatever stands behind a space
pub fails_behind : (fault : Fault) (bytes : List ℕ) → Fails fault bytes → (more : List ℕ) → Fails fault ((bytes ++ 32 ∷ []) ++ more)
fails_behind fault bytes fails more = subst (Fails fault) (sym (append_assoc bytes (32 ∷ []) more)) (behind fault fails)
  where
    behind : (fault : Fault) → Fails fault bytes → Fails fault (bytes ++ 32 ∷ more)
    behind Wrong wrong = λ line. wrong (all_front IsNumber (parts_of bytes) (parts_of more) (subst (All IsNumber) (parts_joined bytes more) line))
    behind OutOfMemory many = omega (arith, ap length (parts_joined bytes more), length-append (parts_of bytes) (parts_of more))

-- ---- what is read

pub reads_none : ReadsNumbers [] None []
reads_none = record { ended = []; digits = []; right = All-nil IsNumber; values = refl; writes = refl; parts = λ more. refl }

written : (last : Option ℕ) (digits : List ℕ) → Writes last digits → AllDigits 10 digits × (digits_value 10 digits ≡ unwrap_or last 0)
written None digits writes = let P : List ℕ → Type 0 = λ ds. AllDigits 10 ds × (digits_value 10 ds ≡ 0) in subst P (sym writes) (tt, refl)
written (Some number) digits writes = (writes.0.0.1, writes.1)

module _ {numbers : List ℕ} {last : Option ℕ} {bytes : List ℕ} (reads : ReadsNumbers numbers last bytes) where
  digits_read : AllDigits 10 reads.digits × (digits_value 10 reads.digits ≡ unwrap_or last 0)
  digits_read = written last reads.digits reads.writes

  -- the parts where the line ends
  parts_read : parts_of bytes ≡ reads.ended ++ reads.digits ∷ []
  parts_read =
      let last-part = slice_split_none (λ b. b == 32) reads.digits (digits_no_space reads.digits digits_read.0) in
      rw (append-nil bytes, append-nil reads.digits, last-part) at (reads.parts [])

  pub end_full : length numbers ≡ MOST → MOST < length (parts_of bytes)
  end_full full =
      omega (arith, ap length parts_read, length-append reads.ended (reads.digits ∷ []), ap length reads.values, length-map reads.ended (digits_value 10))

  parts_on : (b : ℕ) (more : List ℕ) → parts_of ((bytes ++ b ∷ []) ++ more) ≡ reads.ended ++ parts_of ((reads.digits ++ b ∷ []) ++ more)
  parts_on b more = rw (append_assoc bytes (b ∷ []) more, append_assoc reads.digits (b ∷ []) more) (reads.parts (b ∷ more))

  pub after_digit : (b : ℕ) → digit_value b < 10 → unwrap_or last 0 * 10 + digit_value b < 2 ^ 64
      → ReadsNumbers numbers (Some (unwrap_or last 0 * 10 + digit_value b)) (bytes ++ b ∷ [])
  after_digit b digit fits =
      let value = rw digits_read.1 at (digits_value_push 10 reads.digits b) in
      let begun : 0 < length (reads.digits ++ b ∷ []) = omega (arith, length-append reads.digits (b ∷ [])) in
      record {
        ended = reads.ended;
        digits = reads.digits ++ b ∷ [];
        right = reads.right;
        values = reads.values;
        writes = (((begun, digits_push 10 reads.digits b digits_read.0 digit), rw value fits), value);
        parts = parts_on b;
      }

  -- a byte that is no space and makes no number of the digits
  pub after_other : (b : ℕ) → b ≢ 32 → ¬ ((digit_value b < 10) × (unwrap_or last 0 * 10 + digit_value b < 2 ^ 64))
      → (more : List ℕ) → Fails Wrong ((bytes ++ b ∷ []) ++ more)
  after_other b no-space other more line =
      let part = reads.digits ++ b ∷ [] in
      let (first, rest, begins) = part_begins part more (All-push NoSpace reads.digits b (digits_no_space reads.digits digits_read.0) (ne_eqb b 32 no-space)) in
      let behind = all_back IsNumber reads.ended (parts_of (part ++ more)) (subst (All IsNumber) (parts_on b more) line) in
      let number = number_front reads.digits first b (All-head IsNumber (part ++ first) rest (subst (All IsNumber) begins behind)) in
      other (rw digits_read.1 at number)

module _ {numbers : List ℕ} {bytes : List ℕ} where
  pub end_number : {number : ℕ} → ReadsNumbers numbers (Some number) bytes → IsLine bytes × (numbers ++ number ∷ [] ≡ numbers_of bytes)
  end_number {number} reads =
      let line = All-push IsNumber reads.ended reads.digits reads.right reads.writes.0 in
      let same = map-append (digits_value 10) reads.ended (reads.digits ∷ []) in
      (subst (All IsNumber) (sym (parts_read reads)) line, rw (parts_read reads, same, ← reads.values, reads.writes.1))

  pub end_no_number : ReadsNumbers numbers None bytes → ¬ (IsLine bytes)
  end_no_number reads line =
      let last = all_back IsNumber reads.ended (reads.digits ∷ []) (subst (All IsNumber) (parts_read reads) line) in
      omega (arith, (All-head IsNumber reads.digits [] last).0.0, ap length reads.writes)

pub after_space : {numbers : List ℕ} (bytes : List ℕ) → IsLine bytes → numbers ≡ numbers_of bytes → ReadsNumbers numbers None (bytes ++ 32 ∷ [])
after_space bytes line same =
    record {
      ended = parts_of bytes;
      digits = [];
      right = line;
      values = same;
      writes = refl;
      parts = λ more. rw (append_assoc bytes (32 ∷ []) more) (parts_joined bytes more);
    }

-- ---- what is read, in the words of the contracts

pub reads_on : (reading : Reading) (bytes : List ℕ) {last : Option ℕ} → reading.last ≡ Ok last → Reads reading bytes → ReadsNumbers reading.numbers.items last bytes
reads_on reading bytes is reads =
    MatchResult-at_ok (λ last. ReadsNumbers reading.numbers.items last bytes) (λ fault. (more : List ℕ) → Fails fault (bytes ++ more)) _ is reads

pub fails_read : (reading : Reading) (bytes : List ℕ) {fault : Fault} → reading.last ≡ Err fault → Reads reading bytes → Fails fault bytes
fails_read reading bytes {fault} is reads =
    let fails = MatchResult-at_err (λ last. ReadsNumbers reading.numbers.items last bytes) (λ fault. (more : List ℕ) → Fails fault (bytes ++ more)) fault is reads in
    subst (Fails fault) (append-nil bytes) (fails [])
