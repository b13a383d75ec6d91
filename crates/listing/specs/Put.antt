-- Bytes put at a place of a buffer, as far as it goes.
use Rattle.std.specs.Prelude.{ℕ, ◌+◌, ◌-◌, min, ◌≡◌, List, length}
use Rattle.std.proofs.lemmas.List.Edits.{sets}
use Rattle.listing.specs.declared.text.Output.{Output}

-- what `before` is with `text` at `at`, and the place behind it
pub record Put (before : List ℕ) (at : ℕ) (text after : List ℕ) (next : ℕ) : Type 0 where
  pub bytes : after ≡ sets before at text
  pub place : next ≡ at + min (length text) (length before - at)

-- `text` put at the place of an output, whose buffer stays the one that was lent
pub record Puts (before : Output) (text : List ℕ) (after : Output) : Type 0 where
  pub same_buffer : after.buffer.ghost_name ≡ before.buffer.ghost_name
  pub put : Put before.buffer.now before.next text after.buffer.now after.next
