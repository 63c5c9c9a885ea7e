-- Keys as their rows spell them.
use Rattle.std.specs.Prelude.{ℕ, Bool, true, false, List, map}
use Rattle.std.specs.List.{list_any}
use Rattle.gq_row.specs.declared.schema.Column.{Column}
use Rattle.gq_row.specs.declared.schema.Kind.{Kind}
use Rattle.gq_row.specs.declared.schema.Kind.TheVariants as kind
use Rattle.gq_agg.specs.declared.kind.AggKind.TheVariants.{Min}
use Rattle.gq_select.specs.Asking.{kind_at}
use Rattle.gq_select.specs.declared.output_column.OutputColumn.{OutputColumn}
use Rattle.gq_select.specs.declared.output_column.OutputColumn.TheVariants.{Aggregate}

abbrev pub is_nocase : Kind → Bool
is_nocase kind.Int = false
is_nocase kind.Text = false
is_nocase kind.NoCase = true

-- whether a key in these columns can have more than one spelling: one of the columns has texts without case
abbrev pub has_spellings : List Column → List ℕ → Bool
has_spellings columns by = list_any (λ column. is_nocase (kind_at columns column)) by

-- the minimum of each column of a key
abbrev pub least_shown : List ℕ → List OutputColumn
least_shown by = map (λ column. Aggregate Min column) by
