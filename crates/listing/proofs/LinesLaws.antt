-- Where a line ends, how the search for it goes, and what it makes of the lines of an input.
use Prim.Native.Nat.{ℕ, suc, ◌+◌, ◌≤◌, ◌<◌}
use mathlib.Core.Path.{◌≡◌, refl}
use mathlib.Core.Bool.{Bool, true, false, not, cond}
use mathlib.Core.List.{List, [], ◌∷◌, ◌++◌, append_assoc, append-nil}
use native.Mathlib.Nat.{add-zero}
use native.Mathlib.Omega.{arith}
use lib.Dec.{eqb, ltb}
use borrow.Author.Tests.{ltb-false}
use lib.ListN.{length, take, drop, length-drop, drop_of_length-le}
use Rattle.std.specs.Prelude.{Some, None, position, unwrap_or, ◌==◌}
use Rattle.std.specs.List.{position_or_len}
use Rattle.laws.proofs.Tests.{cond_cases}
use Rattle.listing.specs.Lines.{newline, line_length, end_of_line, lines_after}

pub line_length_within : (bytes : List ℕ) → line_length bytes ≤ length bytes
unfolding line_length
line_length_within [] = omega arith
line_length_within (byte ∷ bytes) =
    cond_cases (λ n. n ≤ suc (length bytes)) (eqb byte newline) 0 (suc (line_length bytes)) (λ _. omega arith) (λ _. omega (arith, line_length_within bytes))

-- the end is at or after the place where the search begins, and within the bytes
pub end_after : (bytes : List ℕ) (from : ℕ) → from ≤ end_of_line bytes from
unfolding end_of_line
end_after bytes from = omega arith

pub end_within : (bytes : List ℕ) (from : ℕ) → from ≤ length bytes → end_of_line bytes from ≤ length bytes
unfolding end_of_line
end_within bytes from h = omega (arith, line_length_within (drop from bytes), length-drop from bytes)

-- the search for the end: the library's word for the bytes before a newline, and past the bytes
pub prefix-line_length : (bytes : List ℕ) → position_or_len (λ byte. byte == newline) bytes ≡ line_length bytes
unfolding line_length
prefix-line_length [] = refl
prefix-line_length (byte ∷ bytes) = by (eqb byte newline) (prefix-line_length bytes)
  where
    by : (t : Bool) → position_or_len (λ byte. byte == newline) bytes ≡ line_length bytes
        → cond (not t) (1 + position_or_len (λ byte. byte == newline) bytes) 0 ≡ cond t 0 (suc (line_length bytes))
    by true e = refl
    by false e = omega arith

pub line_length_found : (bytes : List ℕ) → unwrap_or (position (λ byte. byte == newline) bytes) (length bytes) ≡ line_length bytes
line_length_found bytes = rw (prefix-line_length bytes) (by (ltb (line_length bytes) (length bytes)) refl)
  where
    by : (t : Bool) → ltb (line_length bytes) (length bytes) ≡ t → unwrap_or (cond t (Some (line_length bytes)) None) (length bytes) ≡ line_length bytes
    by true e = refl
    by false e = let past : length bytes ≤ line_length bytes = ltb-false _ _ e in omega (arith, line_length_within bytes)

pub end_past : (bytes : List ℕ) (from : ℕ) → length bytes ≤ from → end_of_line bytes from ≡ from
unfolding end_of_line line_length
end_past bytes from h = rw (drop_of_length-le bytes h, add-zero)

-- ---- the lines of an input, read part by part

-- a part with a newline: the line so far ends there, and the next begins behind it
pub lines-ended : (line bytes more : List ℕ) → line_length bytes < length bytes
    → lines_after line (bytes ++ more) ≡ (line ++ take (line_length bytes) bytes) ∷ lines_after [] (drop (line_length bytes + 1) bytes ++ more)
unfolding line_length lines_after
lines-ended line [] more h = absurd (omega arith)
lines-ended line (byte ∷ bytes) more h = by (eqb byte newline) refl (λ line h. lines-ended line bytes more h)
  where
    by : (t : Bool) → eqb byte newline ≡ t
        → ((line : List ℕ) → line_length bytes < length bytes → lines_after line (bytes ++ more) ≡ (line ++ take (line_length bytes) bytes) ∷ lines_after [] (drop (line_length bytes + 1) bytes ++ more))
        → lines_after line (byte ∷ (bytes ++ more)) ≡ (line ++ take (line_length (byte ∷ bytes)) (byte ∷ bytes)) ∷ lines_after [] (drop (line_length (byte ∷ bytes) + 1) (byte ∷ bytes) ++ more)
    by true e rest = rw (e, append-nil)
    by false e rest =
        let s : suc (line_length bytes) + 1 ≡ suc (line_length bytes + 1) = omega arith in
        rw (e, s) (rw (append_assoc line (byte ∷ []) (take (line_length bytes) bytes)) at (rest (line ++ (byte ∷ [])) (omega (arith, rw e at h))))

-- a part without one is more of the line
pub lines_more : (line bytes more : List ℕ) → line_length bytes ≡ length bytes → lines_after line (bytes ++ more) ≡ lines_after (line ++ bytes) more
unfolding line_length lines_after
lines_more line [] more h = rw append-nil
lines_more line (byte ∷ bytes) more h = by (eqb byte newline) refl (λ line h. lines_more line bytes more h)
  where
    by : (t : Bool) → eqb byte newline ≡ t
        → ((line : List ℕ) → line_length bytes ≡ length bytes → lines_after line (bytes ++ more) ≡ lines_after (line ++ bytes) more)
        → lines_after line (byte ∷ (bytes ++ more)) ≡ lines_after (line ++ (byte ∷ bytes)) more
    by true e rest = absurd (omega (arith, rw e at h))
    by false e rest = rw e (rw (append_assoc line (byte ∷ []) bytes) at (rest (line ++ (byte ∷ [])) (omega (arith, rw e at h))))
