-- The tables that words of a command line ask for.
use Rattle.std.specs.Prelude.{◌≡◌, List, [], ◌∷◌, All, IsPermutation, bytes_eq, filter, flat_map, map, Option, Some, None, Ok}
use Rattle.gq_row.specs.declared.limits.Bounds.{Bounds}
use Rattle.gq_row.specs.declared.value.Value.{Value}
use Rattle.gq_row.specs.Schemas.{PlainSchema, positions_of}
use Rattle.gq_row.specs.Repeats.{without_repeats}
use Rattle.gq_row.specs.Tables.{PlainTable, put_all}
use Rattle.gq_load.specs.declared.short_records.Short.{Short}
use Rattle.gq_load.specs.Payloads.{load}
use Rattle.gq_command.specs.Commands.{Bytes}
use Rattle.gq_engine.specs.Databases.{Database}
use Rattle.gq_infer.specs.declared.word.TableWord.{TableWord}
use Rattle.gq_infer.specs.Files.{table_columns}
use Rattle.gq_infer.specs.Words.{Given}

-- the words with a name, in their order
abbrev pub of_name : Bytes → List TableWord → List TableWord
of_name name words = filter (λ (word : TableWord). bytes_eq word.name name) words

-- the bytes of their files
abbrev pub files_of : (Bytes → Bytes) → List TableWord → List Bytes
files_of contents words = map (λ (word : TableWord). contents word.file.now) words

-- the columns and the key that were given; or those that files have, and no key
abbrev pub HasSchema : Option Given → List Bytes → PlainSchema → Type 0
HasSchema (Some given) files schema = (schema.columns ≡ given.columns) × (positions_of given.columns given.key ≡ Some schema.key)
HasSchema None [] schema = ⊥
HasSchema None (first ∷ others) schema = schema ≡ record { columns = table_columns first others; key = [] }

-- a table has the rows of files, put one after the other: each file's as a load reads it
pub record HasRowsOf (short : Short) (limits : Bounds) (files : List Bytes) (table : PlainTable) : Type 0 where
  pub parts : List (List (List Value))
  pub read : map (load short table.schema limits) files ≡ map Ok parts
  pub put : IsPermutation (put_all table.schema.key [] (flat_map (λ rows. rows) parts)) table.rows

-- the table that words ask for, of which only the first may give columns
abbrev pub IsTableOf : (Bytes → Bytes) → Short → Bounds → List TableWord → PlainTable → Type 0
IsTableOf contents short limits [] table = ⊥
IsTableOf contents short limits (first ∷ others) table =
    HasSchema first.columns (files_of contents (first ∷ others)) table.schema × All (λ (word : TableWord). word.columns ≡ None) others
    × HasRowsOf short limits (files_of contents (first ∷ others)) table

-- A database has a table for each name of words, in the order in which the names come first, and no other: the one that the words with that name ask for.
pub record AreTablesOf (contents : Bytes → Bytes) (short : Short) (limits : Bounds) (words : List TableWord) (db : Database) : Type 0 where
  pub names : map (λ (entry : Bytes × PlainTable). entry.0) db ≡ without_repeats bytes_eq (map (λ (word : TableWord). word.name) words)
  pub tables : All (λ (entry : Bytes × PlainTable). IsTableOf contents short limits (of_name entry.0 words) entry.1) db
