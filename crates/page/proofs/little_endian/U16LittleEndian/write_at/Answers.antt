-- `write_at` meets its contract: std's bytes of a number are its bytes.
use Rattle.std.proofs.lemmas.List.Edits.{sets}
use mathlib.Core.Path.{ap, ◌∙◌}
use Rattle.page.proofs.little_endian.U16LittleEndian.write_at.Goals as goal
use Rattle.page.proofs.BytesLaws.{low_bytes}

pub returns : goal.returns
returns c = c.copy.ensures ∙ ap (sets c.args.b.now c.args.at) (c.to_le_bytes.ensures ∙ low_bytes 2 c.args.self)
