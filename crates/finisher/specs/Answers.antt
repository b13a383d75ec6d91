-- The code's saves and answers, as the definitions have them.
use Rattle.std.specs.Prelude.{Result}
use Rattle.refusal.specs.Outcome.{Outcome}
use Rattle.refusal.specs.Refusals.{outcome}
use Rattle.refusal.specs.Effect.{LentMut, before, after}
use Rattle.free_list.specs.Reading.{ListTables, LentTables, tables_before, tables_after}
use Rattle.refusal.specs.declared.Refusal.{Refusal}
use Rattle.allocator.specs.OpenSave.{Save}
use Rattle.allocator.specs.Answers.{save_of}
use Rattle.allocator.specs.declared.save.Save.{Save as SaveStruct}
use Rattle.finisher.specs.Finish.{FinishAnswer, FinishLent, finish_room}
use Rattle.finisher.specs.declared.finish.StoreMeta.{StoreMeta}

-- a whole save and its two tables
abbrev pub save_with : SaveStruct → ListTables → Save
save_with v t = save_of v.start v.«open» t.pages t.entries

-- what is lent to a finish, before the call and after it
abbrev pub lent_before : LentTables → LentMut → LentMut → LentMut → FinishLent
lent_before t buffer numbers map = record { tables = tables_before t; room = finish_room before buffer numbers map }

abbrev pub lent_after : LentTables → LentMut → LentMut → LentMut → FinishLent
lent_after t buffer numbers map = record { tables = tables_after t; room = finish_room after buffer numbers map }

abbrev pub meta_answer : StoreMeta → FinishAnswer
meta_answer m = record { head = m.head.0; bump = m.bump; recorded = m.length; P = m.pages; L = m.entries; count = m.written }

abbrev pub finish_outcome : Result StoreMeta Refusal → Outcome FinishAnswer
finish_outcome = outcome meta_answer
