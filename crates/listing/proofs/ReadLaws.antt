-- Reading an input in parts, as `sizing` does, prints its listing: what a part adds, line by line, and what all parts make.
use Prim.Native.Nat.{ℕ, suc, ◌+◌, ◌<◌}
use mathlib.Core.Path.{◌≡◌, refl, sym, ap, ◌∙◌}
use mathlib.Core.Bool.{Bool, true, false, cond}
use mathlib.Core.List.{List, [], ◌∷◌, ◌++◌, append_assoc, flat_map}
use native.Mathlib.Omega.{arith}
use lib.Dec.{eqb, ltb}
use lib.ListN.{length, take, drop}
use borrow.Author.Tests.{ltb-true, ltb-false}
use Rattle.std.specs.Prelude.{Some, None, position, ◌==◌}
use Rattle.listing.specs.declared.line.Line.{Line}
use Rattle.listing.specs.Lines.{newline, line_length, lines_after, size_of}
use Rattle.listing.specs.Text.{size_text, line_text, header, listing}
use Rattle.listing.specs.Accumulated.{no_bytes, with_byte, with_bytes, accumulated_size}
use Rattle.listing.specs.Read.{lines_text, line_after, last_text}
use Rattle.listing.proofs.LinesLaws.{line_length_within, prefix-line_length}
use Rattle.listing.proofs.AccumulatedLaws.{size-accumulated, with_bytes-append, empty_accumulated}
use Rattle.listing.proofs.ListingLaws.{left, left_last}

-- ---- where the first newline is

position-line_length : (bytes : List ℕ) → position (λ byte. byte == newline) bytes ≡ cond (ltb (line_length bytes) (length bytes)) (Some (line_length bytes)) None
position-line_length bytes = rw (prefix-line_length bytes)

found-line_length : (bytes : List ℕ) (i : ℕ) → position (λ byte. byte == newline) bytes ≡ Some i → (i ≡ line_length bytes) × (line_length bytes < length bytes)
found-line_length bytes i found = by (ltb (line_length bytes) (length bytes)) refl (sym (position-line_length bytes) ∙ found)
  where
    by : (t : Bool) → ltb (line_length bytes) (length bytes) ≡ t → cond t (Some (line_length bytes)) None ≡ Some i → (i ≡ line_length bytes) × (line_length bytes < length bytes)
    by true e same = (cc, ltb-true _ _ e)
    by false e same = cc

none-line_length : (bytes : List ℕ) → position (λ byte. byte == newline) bytes ≡ None → line_length bytes ≡ length bytes
none-line_length bytes none = by (ltb (line_length bytes) (length bytes)) refl (sym (position-line_length bytes) ∙ none)
  where
    by : (t : Bool) → ltb (line_length bytes) (length bytes) ≡ t → cond t (Some (line_length bytes)) None ≡ None → line_length bytes ≡ length bytes
    by true e same = cc
    by false e same = omega (arith, ltb-false (line_length bytes) (length bytes) e, line_length_within bytes)

-- ---- a part, line by line

-- what is printed of a part whose first newline is at place i
pub record Ended (s : ℕ) (line : Line) (bytes : List ℕ) (i : ℕ) : Type 0 where
  pub text : lines_text s line bytes ≡ size_text s (accumulated_size (with_bytes line (take i bytes))) ++ lines_text s no_bytes (drop (i + 1) bytes)
  pub behind : line_after line bytes ≡ line_after no_bytes (drop (i + 1) bytes)

part-ended : (s : ℕ) (line : Line) (bytes : List ℕ) → line_length bytes < length bytes → Ended s line bytes (line_length bytes)
unfolding line_length lines_text line_after
part-ended s line [] h = absurd (omega arith)
part-ended s line (byte ∷ bytes) h = by (eqb byte newline) refl (λ line h. part-ended s line bytes h)
  where
    by : (t : Bool) → eqb byte newline ≡ t → ((line : Line) → line_length bytes < length bytes → Ended s line bytes (line_length bytes)) → Ended s line (byte ∷ bytes) (line_length (byte ∷ bytes))
    by true e rest = record { text = rw e; behind = rw e }
    by false e rest =
        let next = rest (with_byte line byte) (omega (arith, rw e at h)) in
        let n : suc (line_length bytes) + 1 ≡ suc (line_length bytes + 1) = omega arith in
        record { text = rw (e, n) next.text; behind = rw (e, n) next.behind }

pub part_ended : (s : ℕ) (line : Line) (bytes : List ℕ) (i : ℕ) → position (λ byte. byte == newline) bytes ≡ Some i → Ended s line bytes i
part_ended s line bytes i found =
    let at = found-line_length bytes i found in
    rw at.0 (part-ended s line bytes at.1)

-- what is printed of a part with none
pub record More (s : ℕ) (line : Line) (bytes : List ℕ) : Type 0 where
  pub text : lines_text s line bytes ≡ []
  pub behind : line_after line bytes ≡ with_bytes line bytes

part-more : (s : ℕ) (line : Line) (bytes : List ℕ) → line_length bytes ≡ length bytes → More s line bytes
unfolding line_length lines_text line_after
part-more s line [] h = record { text = refl; behind = refl }
part-more s line (byte ∷ bytes) h = by (eqb byte newline) refl (λ line h. part-more s line bytes h)
  where
    by : (t : Bool) → eqb byte newline ≡ t → ((line : Line) → line_length bytes ≡ length bytes → More s line bytes) → More s line (byte ∷ bytes)
    by true e rest = absurd (omega (arith, rw e at h))
    by false e rest =
        let next = rest (with_byte line byte) (omega (arith, rw e at h)) in
        record { text = rw e next.text; behind = rw e next.behind }

pub part_more : (s : ℕ) (line : Line) (bytes : List ℕ) → position (λ byte. byte == newline) bytes ≡ None → More s line bytes
part_more s line bytes none = part-more s line bytes (none-line_length bytes none)

-- ---- one part behind another

pub line_after-append : (line : Line) (a b : List ℕ) → line_after line (a ++ b) ≡ line_after (line_after line a) b
unfolding line_after
line_after-append line [] b = refl
line_after-append line (byte ∷ a) b = line_after-append (cond (eqb byte newline) no_bytes (with_byte line byte)) a b

pub lines_text-append : (s : ℕ) (line : Line) (a b : List ℕ) → lines_text s line (a ++ b) ≡ lines_text s line a ++ lines_text s (line_after line a) b
unfolding lines_text line_after
lines_text-append s line [] b = refl
lines_text-append s line (byte ∷ a) b = by (eqb byte newline) (λ line. lines_text-append s line a b)
  where
    by : (t : Bool) → ((line : Line) → lines_text s line (a ++ b) ≡ lines_text s line a ++ lines_text s (line_after line a) b)
        → cond t (size_text s (accumulated_size line) ++ lines_text s no_bytes (a ++ b)) (lines_text s (with_byte line byte) (a ++ b))
        ≡ cond t (size_text s (accumulated_size line) ++ lines_text s no_bytes a) (lines_text s (with_byte line byte) a) ++ lines_text s (line_after (cond t no_bytes (with_byte line byte)) a) b
    by true rest = rw (rest no_bytes) (sym (append_assoc (size_text s (accumulated_size line)) (lines_text s no_bytes a) (lines_text s (line_after no_bytes a) b)))
    by false rest = rest (with_byte line byte)

-- ---- all of the input

-- what is left to print where `line` was read already
left-read : (s : ℕ) (line bytes : List ℕ) → left s line bytes ≡ lines_text s (with_bytes no_bytes line) bytes ++ last_text s (line_after (with_bytes no_bytes line) bytes)
unfolding left lines_after flat_map line_text lines_text line_after
left-read s line [] = left_last s line ∙ rw (empty_accumulated line)
left-read s line (byte ∷ bytes) = by (eqb byte newline) (λ line. left-read s line bytes)
  where
    by : (t : Bool)
        → ((line : List ℕ) → left s line bytes ≡ lines_text s (with_bytes no_bytes line) bytes ++ last_text s (line_after (with_bytes no_bytes line) bytes))
        → flat_map (line_text s) (cond t (line ∷ lines_after [] bytes) (lines_after (line ++ (byte ∷ [])) bytes))
        ≡ cond t (size_text s (accumulated_size (with_bytes no_bytes line)) ++ lines_text s no_bytes bytes) (lines_text s (with_byte (with_bytes no_bytes line) byte) bytes)
        ++ last_text s (line_after (cond t no_bytes (with_byte (with_bytes no_bytes line) byte)) bytes)
    by true rest =
        rw (size-accumulated line, rest [])
        (sym (append_assoc (size_text s (size_of line)) (lines_text s no_bytes bytes) (last_text s (line_after no_bytes bytes))))
    by false rest = rw (with_bytes-append no_bytes line (byte ∷ [])) at (rest (line ++ (byte ∷ [])))

-- the listing of an input is what its lines print, and its last line
pub listing_read : (s : ℕ) (input : List ℕ) → listing s input ≡ header ++ (lines_text s no_bytes input ++ last_text s (line_after no_bytes input))
unfolding listing left
listing_read s input = ap (λ (text : List ℕ). header ++ text) (left-read s [] input)
