-- The steps of drop, load and show, one after the other.
use Rattle.std.proofs.Common.{◌≡◌, ◌⊎◌, inl, inr, ℕ, false, not, IsTrue, List, length, ap, ◌∙◌, Some, None}
use Rattle.std.specs.Prelude.{Ok, Err, remove}
use Rattle.gq_row.specs.declared.value.Value.{Value}
use Rattle.gq_row.specs.declared.limits.Bounds.{Bounds}
use Rattle.gq_row.specs.Tables.{PlainTable}
use Rattle.gq_load.specs.declared.short_records.Short.{Short}
use Rattle.gq_command.specs.Commands.{Bytes, column_names}
use Rattle.gq_command.specs.declared.command.Payload.{Payload}
use Rattle.gq_command.specs.declared.command.Payload.TheVariants as payload
use Rattle.gq_reply.specs.declared.refusal.Refusal.TheVariants.{NoTable, Memory}
use Rattle.gq_reply.specs.declared.refusal.Refused.{Refused}
use Rattle.gq_reply.specs.declared.reply.Reply.TheVariants as reply
use Rattle.gq_reply.specs.Refusals.{unnumbered}
use Rattle.gq_query.specs.Answers.{rows_shown}
use Rattle.gq_engine.specs.Databases.{Database, IsTableAt, table_at, with_table, without_table, names_differ}
use Rattle.gq_engine.specs.Loading.{payload_bytes, is_lost, csv_rows}
use Rattle.gq_engine.specs.Refusing.{put_all_within}
use Rattle.gq_engine.specs.Steps.{drop_table, with_rows, load_table, show_table}
use Rattle.gq_engine.proofs.MapLemmas.{without_at}
use Rattle.gq_reply.proofs.StepLemmas.{passes, finds, misses, gives, stops}

module _ (db : Database) (name : List ℕ) where
  pub drop_takes : (table : PlainTable) → table_at db name ≡ Some table → drop_table db name ≡ Ok (without_table db name, reply.Done 0)
  drop_takes table h = finds NoTable (table_at db name) table _ h

  pub show_none : table_at db name ≡ None → show_table db name ≡ Err (unnumbered NoTable)
  show_none h = misses NoTable (table_at db name) _ h

  pub show_gives : (table : PlainTable) → table_at db name ≡ Some table → show_table db name ≡ Ok (db, reply.Rows (column_names table.schema.columns) (rows_shown table))
  show_gives table h = finds NoTable (table_at db name) table _ h

module _ (limits : Bounds) (db : Database) (name : List ℕ) where
  pub rows_refused : (new : List (List Value)) (table : PlainTable) (why : Refused) → table_at db name ≡ Some table → put_all_within limits table new ≡ Err why → with_rows limits db name new ≡ Err why
  rows_refused new table why h k = finds NoTable (table_at db name) table _ h ∙ stops (put_all_within limits table new) why _ k

  pub rows_put : (new rows : List (List Value)) (table : PlainTable) → table_at db name ≡ Some table → put_all_within limits table new ≡ Ok rows
      → with_rows limits db name new ≡ Ok (with_table db name (record table { rows = rows }))
  rows_put new rows table h k = finds NoTable (table_at db name) table _ h ∙ gives (put_all_within limits table new) rows _ k

module _ (short : Short) (limits : Bounds) (db : Database) (name : List ℕ) where
  pub load_none : (carried : Payload) → is_lost carried ≡ false → table_at db name ≡ None → load_table short limits db name carried ≡ Err (unnumbered NoTable)
  load_none carried lost h = passes Memory (not (is_lost carried)) _ (ap not lost) ∙ misses NoTable (table_at db name) _ h

  module _ (table : PlainTable) (found : table_at db name ≡ Some table) where
    pub load_untold : (carried : Payload) (why : Refused) → is_lost carried ≡ false → payload_bytes carried ≡ Err why → load_table short limits db name carried ≡ Err why
    load_untold carried why lost h =
        passes Memory (not (is_lost carried)) _ (ap not lost) ∙ finds NoTable (table_at db name) table _ found ∙ stops (payload_bytes carried) why _ h

    pub load_told : (carried : Payload) (bytes : Bytes) (why : Refused) → is_lost carried ≡ false → payload_bytes carried ≡ Ok bytes → csv_rows short limits table.schema bytes ≡ Err why → load_table short limits db name carried ≡ Err why
    load_told carried bytes why lost h k =
        passes Memory (not (is_lost carried)) _ (ap not lost) ∙ finds NoTable (table_at db name) table _ found ∙ gives (payload_bytes carried) bytes _ h ∙ stops (csv_rows short limits table.schema bytes) why _ k

    pub load_faulted : (carried : Payload) (bytes : Bytes) (why : Refused) → is_lost carried ≡ false → payload_bytes carried ≡ Ok bytes → (why ≡ unnumbered Memory) ⊎ (csv_rows short limits table.schema bytes ≡ Err why)
        → (why ≡ unnumbered Memory) ⊎ (load_table short limits db name carried ≡ Err why)
    load_faulted carried bytes why lost h (inl e) = inl e
    load_faulted carried bytes why lost h (inr e) = inr (load_told carried bytes why lost h e)

    pub load_faulty : (bytes : Bytes) (why : Refused) → csv_rows short limits table.schema bytes ≡ Err why → load_table short limits db name (payload.Bytes bytes) ≡ Err why
    load_faulty bytes why h = finds NoTable (table_at db name) table _ found ∙ stops (csv_rows short limits table.schema bytes) why _ h

    pub load_refused : (bytes : Bytes) (rows : List (List Value)) (why : Refused) → csv_rows short limits table.schema bytes ≡ Ok rows → with_rows limits db name rows ≡ Err why
        → load_table short limits db name (payload.Bytes bytes) ≡ Err why
    load_refused bytes rows why h k =
        finds NoTable (table_at db name) table _ found ∙ gives (csv_rows short limits table.schema bytes) rows _ h ∙ stops (with_rows limits db name rows) why _ k

    pub load_puts : (bytes : Bytes) (rows : List (List Value)) (new : Database) → csv_rows short limits table.schema bytes ≡ Ok rows → with_rows limits db name rows ≡ Ok new
        → load_table short limits db name (payload.Bytes bytes) ≡ Ok (new, reply.Done (length rows))
    load_puts bytes rows new h k =
        finds NoTable (table_at db name) table _ found ∙ gives (csv_rows short limits table.schema bytes) rows _ h ∙ gives (with_rows limits db name rows) new _ k

-- without the table at a place
pub dropped_at : (db : Database) (name : List ℕ) (i : ℕ) → IsTableAt db name i → IsTrue (names_differ db) → without_table db name ≡ remove db i
dropped_at db name i s differ = without_at db name i s.entry s.within s.here s.named differ
