-- The rows that a selection is about.
use Rattle.std.specs.Prelude.{List, [], Option, None, Some, option_copied}
use Rattle.gq_row.specs.declared.value.Value.{Value}
use Rattle.gq_row.specs.declared.schema.Column.{Column}
use Rattle.gq_row.specs.Tables.{PlainTable}
use Rattle.gq_select.specs.Asking.{CanMatch}
use Rattle.gq_query.specs.declared.selection.Selection.{Selection}
use Rattle.gq_query.specs.Answers.{rows_kept}

-- the rows and the columns of another table; without one there are none
abbrev pub other_rows : Option PlainTable → List (List Value)
other_rows None = []
other_rows (Some table) = table.rows

abbrev pub other_columns : Option PlainTable → List Column
other_columns None = []
other_columns (Some table) = table.schema.columns

-- the columns that a selection's match compares, if there is one, are columns of its two tables
abbrev pub CanSelect : {H : Type 0} → Selection H → Type 0
CanSelect s = CanMatch s.table.now.schema.columns (other_columns (option_copied s.others)) (option_copied s.matching)

-- the rows of a selection's table that its condition keeps and that have the match
abbrev pub rows_selected : {H : Type 0} → Selection H → List (List Value)
rows_selected s = rows_kept s.condition.now.tests (option_copied s.matching) (other_rows (option_copied s.others)) s.table.now.rows
