-- Columns before storage, and back.
use Rattle.std.specs.Prelude.{ℕ, ◌≡◌, List}
use Rattle.refusal.specs.Effect.{Lent, LentMut, given, before, after, Returned, returned}
use Rattle.columns.specs.Columns.{rearrange_into}

-- of either way the status is returned, and not the count of bytes
abbrev pub Rearranges : (List ℕ → List ℕ) → Lent → LentMut → ℕ → Type 0
Rearranges way from buffer r =
    ◌≡◌ {A = Returned (List ℕ)} (record { status = r; lent = after buffer }) (returned (rearrange_into way (given from) (before buffer)))
