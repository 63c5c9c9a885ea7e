use Rattle.std.proofs.Common.{◌≡◌, ℕ, List, None, take}
use Rattle.std.specs.Fn.{FnReturnsAt}
use Rattle.gq_row.specs.declared.schema.Column.{Column}
use Rattle.gq_engine.specs.Databases.{Database, table_at}
use Rattle.gq_engine.specs.Engines.{database, setting_of}
use Rattle.gq_infer.specs.declared.word.TableWord.{TableWord}
use Rattle.gq_tables.specs.Files.{Knows}
use Rattle.gq_tables.specs.Made.{of_name}
use Rattle.gq_tables.specs.Steps.{IsEmpty, IsFilled, IsWith}
use Rattle.gq_tables.proofs.table.load_files.Given as goal

abbrev pub invariant-loop-word : goal.invariant-loop-word
invariant-loop-word g l = record {
  setting : setting_of g.S.RunStore.runs l.engine ≡ setting_of g.S.RunStore.runs l.fn.engine;
  filled : (contents : List ℕ → List ℕ) (first : TableWord) (before : Database) (columns : List Column) (key : List (List ℕ))
      → Knows g.R.Read.remaining (λ name opened. FnReturnsAt g.F.Fn l.files.opener.now name opened) l.files l.at contents first
      → table_at before first.name ≡ None → IsWith before first.name (IsEmpty columns key) (database l.fn.engine)
      → IsWith before first.name (IsFilled contents l.files.short (setting_of g.S.RunStore.runs l.fn.engine).limits columns key (of_name first.name (take l.word l.files.words.now))) (database l.engine);
}
