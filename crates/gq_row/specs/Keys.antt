-- Keys, in each layout.
use Rattle.std.specs.Prelude.{List, [], ◌∷◌}
use Rattle.gq_row.specs.declared.value.Value.{Value}
use Rattle.gq_row.specs.declared.key.Values.{Values}
use Rattle.gq_row.specs.declared.key.Values.TheVariants.{One, Two, Many}

-- the values of a key
abbrev pub values_of : Values → List Value
values_of (One value) = value ∷ []
values_of (Two values) = values
values_of (Many values) = values.items
