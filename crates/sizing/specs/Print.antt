-- What a printer has printed, the bytes that its writer holds, where these are known, and those that wait; and what was read for it.
use Rattle.std.specs.Prelude.{◌≡◌, ℕ, List, take, Option}
use Rattle.std.specs.Io.KnownBytes.{append_known, Appends, Consumes}
use Rattle.page.specs.PageSize.{standard_page_size}
use Rattle.listing.specs.declared.line.Line.{Line}
use Rattle.listing.specs.declared.text.Output.{Output}
use Rattle.sizing.specs.declared.printer.Printer.{Printer}
use Rattle.listing.specs.Text.{listing}
use Rattle.listing.specs.Accumulated.{no_bytes}
use Rattle.listing.specs.Read.{lines_text, line_after}

abbrev pub printed : Option (List ℕ) → Output → Option (List ℕ)
printed held output = append_known held (take output.next output.buffer.now)

-- `text` is printed behind what was
abbrev pub PrintsOn : Option (List ℕ) → Output → List ℕ → Option (List ℕ) → Output → Type 0
PrintsOn held output text held-after output-after = Appends (printed held output) (printed held-after output-after) text

-- what was read of an input is taken from it, and its lines are printed; `line` is what is accumulated of the last one, which lacks its newline
pub record ReadsLinesOn (left-before left held-before : Option (List ℕ)) (before : Output) (held : Option (List ℕ)) (after : Output) (line : Line) : Type 0 where
  pub read : List ℕ
  pub consumes : Consumes left-before left read
  pub prints : PrintsOn held-before before (lines_text standard_page_size no_bytes read) held after
  pub behind : line ≡ line_after no_bytes read

-- the listing of what was read of an input is printed, and none of it waits
pub record PrintsListingOn (left-before left held-before : Option (List ℕ)) (before : Output) (held : Option (List ℕ)) : Type 0 where
  pub read : List ℕ
  pub consumes : Consumes left-before left read
  pub prints : Appends (printed held-before before) held (listing standard_page_size read)

-- ---- of printers, and of what their writers hold

abbrev pub Prints : {W : Type 0} → (W → Option (List ℕ)) → Printer W → List ℕ → Printer W → Type 0
Prints contents before text after = PrintsOn (contents before.writer) before.output text (contents after.writer) after.output

abbrev pub ReadsLines : {W : Type 0} → (W → Option (List ℕ)) → Option (List ℕ) → Printer W → Line → Option (List ℕ) → Printer W → Type 0
ReadsLines contents left-before before line left after =
    ReadsLinesOn left-before left (contents before.writer) before.output (contents after.writer) after.output line

abbrev pub PrintsListing : {W : Type 0} → (W → Option (List ℕ)) → Option (List ℕ) → Printer W → Option (List ℕ) → Printer W → Type 0
PrintsListing contents left-before before left after = PrintsListingOn left-before left (contents before.writer) before.output (contents after.writer)
