-- The part of a line in each column.
use Rattle.std.specs.Prelude.{ℕ, List}
use Rattle.gq_format.specs.Boxes.{bars, name_part, value_part}
use Rattle.gq_format.specs.Columns.{Column}
use Rattle.gq_format.specs.declared.boxes.Part.{Part}
use Rattle.gq_format.specs.declared.boxes.Part.TheVariants as part

abbrev pub part_of : Part → Column → List ℕ
part_of part.Bars column = bars column
part_of part.Name column = name_part column
part_of (part.Cell row) column = value_part row.now column
