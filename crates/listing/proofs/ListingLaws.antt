-- Reading an input in parts prints its listing: what each turn puts, and what is left to print.
use Prim.Native.Nat.{ℕ, suc}
use mathlib.Core.Path.{◌≡◌, refl}
use mathlib.Core.Bool.{cond}
use mathlib.Core.List.{List, [], ◌∷◌, flat_map, append-nil}
use native.Mathlib.Omega.{arith}
use lib.Dec.{eqb}
use lib.ListN.{length}
use borrow.Author.Tests.{ne_eqb}
use Rattle.listing.specs.Lines.{lines_after}
use Rattle.listing.specs.Text.{size_text, line_text}
use Rattle.listing.specs.Accumulated.{no_bytes, with_bytes, accumulated_size}
use Rattle.listing.proofs.AccumulatedLaws.{size-accumulated}

-- what is to be printed for an input, where `line` was read already
unfoldable pub left : ℕ → List ℕ → List ℕ → List ℕ
left s line input = flat_map (line_text s) (lines_after line input)

-- at the end of the input: the line that was read, if it has a byte
pub left_last : (s : ℕ) (line : List ℕ) → left s line [] ≡ cond (eqb (length line) 0) [] (size_text s (accumulated_size (with_bytes no_bytes line)))
unfolding left lines_after flat_map line_text
left_last s [] = refl
left_last s (byte ∷ line) = rw (append-nil, ne_eqb (suc (length line)) 0 (λ e. omega arith), size-accumulated (byte ∷ line))
