-- The header of a `group`.
use Rattle.std.specs.Prelude.{Bool, true, false, List, [], ◌∷◌, ◌++◌, map, codes}
use Rattle.gq_command.specs.Commands.{Bytes}
use Rattle.gq_command.specs.declared.command.By.{By}
use Rattle.gq_clause.specs.declared.aggregate.Aggregate.{Aggregate}
use Rattle.gq_clause.specs.declared.aggregate.Aggregate.TheVariants.{CountAll, Count, CountDistinct, Sum, Min, Max}

-- a word of the grammar, a name, and a closing parenthesis
abbrev pub called : Bytes → Bytes → Bytes
called word name = word ++ name ++ codes ")"

-- an aggregate's text in a header
abbrev pub text_of : Aggregate → Bytes
text_of CountAll = codes "count(*)"
text_of (Count name) = called (codes "count(") name
text_of (CountDistinct name) = called (codes "count(distinct ") name
text_of (Sum name) = called (codes "sum(") name
text_of (Min name) = called (codes "min(") name
text_of (Max name) = called (codes "max(") name

-- the header of a rollup's levels
abbrev pub level_header : Bool → List Bytes
level_header false = []
level_header true = codes "level" ∷ []

-- the header: `level` for a rollup, the names of the `by` columns, and then the texts of the aggregates
abbrev pub group_header : By → List Aggregate → List Bytes
group_header by aggregates = level_header by.rollup ++ (by.columns ++ map text_of aggregates)
