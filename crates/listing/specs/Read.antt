-- What is printed for an input that is read in parts, by what is accumulated of the line that a part does not end.
use Rattle.std.specs.Prelude.{ℕ, cond, List, [], ◌∷◌, ◌++◌, eqb}
use Rattle.listing.specs.declared.line.Line.{Line}
use Rattle.listing.specs.Lines.{newline}
use Rattle.listing.specs.Text.{size_text}
use Rattle.listing.specs.Accumulated.{no_bytes, with_byte, accumulated_empty, accumulated_size}

-- the text of the lines that end in a part, the first of which goes on from `line`
unfoldable pub lines_text : ℕ → Line → List ℕ → List ℕ
lines_text s line [] = []
lines_text s line (byte ∷ bytes) =
    let ended : List ℕ = size_text s (accumulated_size line) ++ lines_text s no_bytes bytes in
    cond (eqb byte newline) ended (lines_text s (with_byte line byte) bytes)

-- what is accumulated behind a part
unfoldable pub line_after : Line → List ℕ → Line
line_after line [] = line
line_after line (byte ∷ bytes) = line_after (cond (eqb byte newline) no_bytes (with_byte line byte)) bytes

-- the text of the last line, which lacks its newline, if it has a byte
abbrev pub last_text : ℕ → Line → List ℕ
last_text s line = cond (accumulated_empty line) [] (size_text s (accumulated_size line))
