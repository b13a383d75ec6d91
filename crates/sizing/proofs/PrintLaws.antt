-- Laws about what is printed: nothing, one text behind another, and what a put and a write leave.
use Prim.Native.Nat.{ℕ, ◌+◌, ◌≤◌}
use mathlib.Core.Path.{◌≡◌, refl, sym, ◌∙◌}
use mathlib.Core.List.{List, [], ◌++◌, append_assoc, append-nil}
use lib.ListN.{length, take, drop}
use native.Mathlib.Omega.{arith}
use Rattle.std.specs.Prelude.{Option, Some, None, Result, Ok, Err, OnOk, position, ◌==◌}
use Rattle.std.specs.Io.KnownBytes.{Appends, Consumes, Keeps}
use Rattle.listing.specs.declared.text.Output.{Output}
use Rattle.listing.specs.declared.line.Line.{Line}
use Rattle.page.specs.PageSize.{standard_page_size}
use Rattle.listing.specs.Lines.{newline}
use Rattle.listing.specs.Text.{max_text, header, size_text}
use Rattle.listing.specs.Accumulated.{no_bytes, with_bytes, accumulated_size}
use Rattle.listing.specs.Read.{lines_text, line_after, last_text}
use Rattle.listing.proofs.ReadLaws.{part_ended, part_more, lines_text-append, line_after-append, listing_read}
use Rattle.listing.specs.Put.{Puts}
use Rattle.listing.proofs.PutLaws.{put_whole}
use Rattle.sizing.specs.Print.{printed, PrintsOn, ReadsLinesOn, PrintsListingOn}

pub appends_nothing : (held : Option (List ℕ)) → Appends held held []
appends_nothing None = tt
appends_nothing (Some bytes) = sym (append-nil bytes)

pub appends_then : (a b c : Option (List ℕ)) (xs ys : List ℕ) → Appends a b xs → Appends b c ys → Appends a c (xs ++ ys)
appends_then None b c xs ys first second = tt
appends_then (Some bytes) None c xs ys first second = absurd first
appends_then (Some bytes) (Some more) None xs ys first second = absurd second
appends_then (Some bytes) (Some more) (Some most) xs ys first second = second ∙ rw first (append_assoc bytes xs ys)

-- a text that has room is printed whole
pub put_prints : (held : Option (List ℕ)) {before after : Output} {text : List ℕ} → Puts before text after → before.next + length text ≤ length before.buffer.now → PrintsOn held before text held after
put_prints None puts h = tt
put_prints (Some bytes) {before} {after} {text} puts h =
    rw ((put_whole puts.put h).1) (sym (append_assoc bytes (take before.next before.buffer.now) text))

-- what waited is written, and nothing more is printed
pub write_prints : (held written : Option (List ℕ)) (before after : Output) → Appends held written (take before.next before.buffer.now) → after.next ≡ 0 → PrintsOn held before [] written after
write_prints None written before after appends empty = tt
write_prints (Some bytes) None before after appends empty = absurd appends
write_prints (Some bytes) (Some more) before after appends empty = rw empty (simp append-nil appends)

-- a text that there was made room for
pub print_text : (held-before held : Option (List ℕ)) (before : Output) {ready after : Output} {text : List ℕ}
    → PrintsOn held-before before [] held ready → ready.next + max_text ≤ length ready.buffer.now → Puts ready text after → length text ≤ max_text → PrintsOn held-before before text held after
print_text held-before held before {ready} {after} {text} made room puts short =
    appends_then (printed held-before before) (printed held ready) (printed held after) [] text made (put_prints held puts (omega arith))

-- a text, and nothing more behind it
pub prints_more : (held-before held held-after : Option (List ℕ)) (before now after : Output) (text : List ℕ)
    → PrintsOn held-before before text held now → PrintsOn held now [] held-after after → PrintsOn held-before before text held-after after
prints_more held-before held held-after before now after text prints nothing =
    let all = appends_then (printed held-before before) (printed held now) (printed held-after after) text [] prints nothing in
    rw (append-nil text) at all

pub on_ok_both : {T E P Q S : Type 0} (r : Result T E) → (P → Q → S) → OnOk r P → OnOk r Q → OnOk r S
on_ok_both (Ok x) f p q = f p q
on_ok_both (Err e) f p q = tt

-- ---- a part of the input, line by line

-- what was printed of the lines of a part, and what is left of it
pub record Lists (held-before : Option (List ℕ)) (before : Output) (first : Line) (bytes : List ℕ) (held : Option (List ℕ)) (now : Output) (line : Line) (rest : List ℕ) : Type 0 where
  pub text : List ℕ
  pub prints : PrintsOn held-before before text held now
  pub texts : text ++ lines_text standard_page_size line rest ≡ lines_text standard_page_size first bytes
  pub lines : line_after line rest ≡ line_after first bytes

module _ {held-before held : Option (List ℕ)} {before now : Output} {first line : Line} {bytes rest : List ℕ} (lists : Lists held-before before first bytes held now line rest) where
  -- a line more
  pub lists_line : (i : ℕ) (held-after : Option (List ℕ)) (after : Output) → position (λ byte. byte == newline) rest ≡ Some i
      → PrintsOn held now (size_text standard_page_size (accumulated_size (with_bytes line (take i rest)))) held-after after
      → Lists held-before before first bytes held-after after no_bytes (drop (i + 1) rest)
  lists_line i held-after after found prints =
      let text : List ℕ = size_text standard_page_size (accumulated_size (with_bytes line (take i rest))) in
      let ended = part_ended standard_page_size line rest i found in
      record {
        text = lists.text ++ text;
        prints = appends_then (printed held-before before) (printed held now) (printed held-after after) lists.text text lists.prints prints;
        texts = append_assoc lists.text text (lines_text standard_page_size no_bytes (drop (i + 1) rest)) ∙ rw (← ended.text) lists.texts;
        lines = sym ended.behind ∙ lists.lines;
      }

  -- no line more
  pub lists_rest : position (λ byte. byte == newline) rest ≡ None
      → (with_bytes line rest ≡ line_after first bytes) × PrintsOn held-before before (lines_text standard_page_size first bytes) held now
  lists_rest none =
      let more = part_more standard_page_size line rest none in
      let all : lists.text ≡ lines_text standard_page_size first bytes = sym (append-nil lists.text) ∙ rw (← more.text) lists.texts in
      (sym more.behind ∙ lists.lines, rw (← all) lists.prints)

-- ---- the input, part by part

consumes_then : (a b c : Option (List ℕ)) (xs ys : List ℕ) → Consumes a b xs → Consumes b c ys → Consumes a c (xs ++ ys)
consumes_then None b c xs ys first second = tt
consumes_then (Some bytes) None c xs ys first second = absurd first
consumes_then (Some bytes) (Some more) None xs ys first second = absurd second
consumes_then (Some bytes) (Some more) (Some most) xs ys first second = first ∙ rw second (sym (append_assoc xs ys most))

pub consumes_nothing : (left : Option (List ℕ)) → Consumes left left []
consumes_nothing None = tt
consumes_nothing (Some bytes) = refl

-- nothing was read yet
pub reads_none : (left held : Option (List ℕ)) (before : Output) → ReadsLinesOn left left held before held before no_bytes
unfolding lines_text line_after
reads_none left held before =
    record { read = []; consumes = consumes_nothing left; prints = appends_nothing (printed held before); behind = refl }

module _ {left-before left held-before held : Option (List ℕ)} {before now : Output} {line : Line} (reads : ReadsLinesOn left-before left held-before before held now line) where
  -- a part more
  pub reads_part : (part : List ℕ) (left-after held-after : Option (List ℕ)) (after : Output) (behind : Line) → Consumes left left-after part
      → PrintsOn held now (lines_text standard_page_size line part) held-after after → behind ≡ line_after line part
      → ReadsLinesOn left-before left-after held-before before held-after after behind
  reads_part part left-after held-after after behind consumes prints is =
      let text : List ℕ = lines_text standard_page_size no_bytes reads.read in
      let more = rw reads.behind at prints in
      let all = lines_text-append standard_page_size no_bytes reads.read part in
      record {
        read = reads.read ++ part;
        consumes = consumes_then left-before left left-after reads.read part reads.consumes consumes;
        prints = rw all (appends_then (printed held-before before) (printed held now) (printed held-after after) text (lines_text standard_page_size (line_after no_bytes reads.read) part) reads.prints more);
        behind = is ∙ rw (reads.behind, line_after-append no_bytes reads.read part);
      }

  -- nothing more
  pub reads_end : (left-after : Option (List ℕ)) → Consumes left left-after [] → ReadsLinesOn left-before left-after held-before before held now line
  unfolding lines_text line_after
  reads_end left-after consumes = reads_part [] left-after held now line consumes (appends_nothing (printed held now)) refl

-- ---- all of the input

-- what was printed is what the writer holds, once all that waited is written
written_appends : (held-before held written : Option (List ℕ)) (before now : Output) (text : List ℕ) → PrintsOn held-before before text held now
    → Appends held written (take now.next now.buffer.now) → Appends (printed held-before before) written text
written_appends None held written before now text prints appends = tt
written_appends (Some bytes) None written before now text prints appends = absurd prints
written_appends (Some bytes) (Some more) None before now text prints appends = absurd appends
written_appends (Some bytes) (Some more) (Some all) before now text prints appends = appends ∙ prints

pub prints_listing : {left-before left : Option (List ℕ)} (held-before : Option (List ℕ)) (before : Output) {held-headed held-read : Option (List ℕ)} {headed behind : Output} {line : Line} (held-last : Option (List ℕ)) (last : Output) (held : Option (List ℕ))
    → PrintsOn held-before before header held-headed headed → ReadsLinesOn left-before left held-headed headed held-read behind line
    → PrintsOn held-read behind (last_text standard_page_size line) held-last last → Appends held-last held (take last.next last.buffer.now)
    → PrintsListingOn left-before left held-before before held
prints_listing held-before before {held-headed} {held-read} {headed} {behind} {line} held-last last held headed-is reads last-is written =
    let lines : List ℕ = lines_text standard_page_size no_bytes reads.read in
    let ending : List ℕ = last_text standard_page_size line in
    let input = appends_then (printed held-headed headed) (printed held-read behind) (printed held-last last) lines ending reads.prints last-is in
    let all = appends_then (printed held-before before) (printed held-headed headed) (printed held-last last) header (lines ++ ending) headed-is input in
    record {
      read = reads.read;
      consumes = reads.consumes;
      prints = rw (listing_read standard_page_size reads.read, ← reads.behind) (written_appends held-before held-last held before last (header ++ (lines ++ ending)) all written);
    }
