-- What a row store holds once a mutable reference to one of its rows ends.
use Rattle.std.specs.Prelude.{ℕ, List}
use Rattle.std.specs.Borrow.{Fml, MutBor, Array, Lends}
use Rattle.gq_row.specs.declared.value.Value.{Value}
use Rattle.gq_row.specs.contracts.value.Value.{the_row as value_row}
use Rattle.gq_table.specs.contracts.row_store.RowStore.{the_row}
use Rattle.gq_table.specs.RowStores.{with_row}

-- a row is borrowed from a store, and when the borrow ends the store has what was written last
abbrev pub lends_row : MutBor (List (List Value)) → ℕ → MutBor (List Value) → Fml
lends_row rows position row = Lends the_row (Array value_row 0) rows row (with_row rows.now position)
