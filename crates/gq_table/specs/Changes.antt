-- What a change makes of a table: what it makes of a list of rows, up to their order.
use Rattle.std.specs.Prelude.{◌≡◌, List, map, IsPermutation}
use Rattle.gq_row.specs.declared.value.Value.{Value}
use Rattle.gq_row.specs.Folding.{folded}
use Rattle.gq_row.specs.Tables.{PlainTable, put, put_all, delete}

-- a table after a row was put
pub record IsPut (old : PlainTable) (row : List Value) (new : PlainTable) : Type 0 where
  pub schema : new.schema ≡ old.schema
  pub rows : IsPermutation (put old.schema.key old.rows row) new.rows

-- a table after rows were put in order
pub record IsLoaded (old : PlainTable) (loaded : List (List Value)) (new : PlainTable) : Type 0 where
  pub schema : new.schema ≡ old.schema
  pub rows : IsPermutation (put_all old.schema.key old.rows loaded) new.rows

-- the key that values name: the fold of each
abbrev pub named_key : List Value → List Value
named_key values = map folded values

-- a table after the row with a key was deleted
pub record IsDeleted (old : PlainTable) (key : List Value) (new : PlainTable) : Type 0 where
  pub schema : new.schema ≡ old.schema
  pub rows : IsPermutation (delete old.schema.key old.rows key) new.rows
