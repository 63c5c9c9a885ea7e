-- Where operands are looked up.
use Rattle.std.specs.Prelude.{◌+◌, ℕ, length, position, bytes_eq, Option, None, option_map}
use Rattle.gq_row.specs.Schemas.{position_of}
use Rattle.gq_command.specs.Commands.{Bytes}
use Rattle.gq_clause.specs.declared.aggregate.Aggregate.{Aggregate}
use Rattle.gq_clause.specs.declared.condition.Operand.{Operand as NamedOperand}
use Rattle.gq_select.specs.declared.condition.Operand.{Operand}
use Rattle.gq_plan.specs.declared.places.Scope.{Scope}
use Rattle.gq_plan.specs.declared.places.Scope.TheVariants.{Rows, Groups}
use Rattle.gq_plan.specs.Places.{in_row, in_result, same_aggregate}

-- the position of an operand in the rows of a scope
abbrev pub place_in : Scope → NamedOperand → Option Operand
place_in (Rows schema) = in_row schema.now.columns
place_in (Groups by shown) = in_result by.now shown.now

-- the position of a name
abbrev pub name_in : Scope → Bytes → Option ℕ
name_in (Rows schema) name = position_of schema.now.columns name
name_in (Groups by shown) name = position (λ other. bytes_eq other name) by.now

-- the position of an aggregate
abbrev pub aggregate_in : Scope → Aggregate → Option ℕ
aggregate_in (Rows schema) aggregate = None
aggregate_in (Groups by shown) aggregate = option_map (λ place. length by.now + place) (position (λ other. same_aggregate other aggregate) shown.now)
