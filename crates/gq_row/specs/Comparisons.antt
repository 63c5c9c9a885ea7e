-- How values are compared.
use Rattle.std.specs.Prelude.{Bool}
use Rattle.std.specs.Ordering.{is_eq, is_ne, is_lt, is_le, is_gt, is_ge}
use Rattle.std.specs.declared.cmp.Ordering.{Ordering}
use Rattle.gq_row.specs.declared.comparison.Comparison.{Comparison}
use Rattle.gq_row.specs.declared.comparison.Comparison.TheVariants.{Equal, NotEqual, Less, LessEqual, Greater, GreaterEqual}

-- two values in this order satisfy a comparison
abbrev pub passes : Comparison → Ordering → Bool
passes Equal order = is_eq order
passes NotEqual order = is_ne order
passes Less order = is_lt order
passes LessEqual order = is_le order
passes Greater order = is_gt order
passes GreaterEqual order = is_ge order
