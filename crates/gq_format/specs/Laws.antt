-- Laws of the texts of results.
use Rattle.std.specs.Prelude.{◌≡◌, ℕ, ◌+◌, ◌<◌, ◌^◌, List, [], ◌∷◌, All, bytes_eq, length, map}
use Rattle.std.specs.Int.Signed.{mag}
use Rattle.std.specs.List.{IsDistinct}
use Rattle.json.specs.Lex.{tokens}
use Rattle.csv.specs.Reading.{default_config, records}
use Rattle.csv.specs.Writing.{read_back}
use Rattle.gq_row.specs.declared.value.Value.{Value}
use Rattle.gq_row.specs.declared.value.Value.TheVariants.{Null, Int, Text, NoCase}
use Rattle.gq_reply.specs.Replies.{cell_text}
use Rattle.gq_format.specs.declared.format.Format.TheVariants as format
use Rattle.gq_format.specs.Boxes.{box_lines}
use Rattle.gq_format.specs.Columns.{Column, columns_of}
use Rattle.gq_format.specs.Formats.{result_text}
use Rattle.gq_format.specs.Jsons.{object_text}
use Rattle.gq_format.specs.Names.{distinct_names}
use Rattle.gq_format.specs.Tokens.{object_tokens}
use Rattle.gq_format.specs.Shown.{terminal_width}

-- a CSV reader returns the header and the fields of each row; a record without fields reads back as one empty field
abbrev pub CsvReadsBack : Type 0
CsvReadsBack = (header : List (List ℕ)) (rows : List (List Value)) → records default_config (result_text format.Csv header rows) ≡ map read_back (header ∷ map (map cell_text) rows)

-- if the value is a number, it fits 64 bits
abbrev pub IsNumberOf64Bits : Value → Type 0
IsNumberOf64Bits Null = Unit {0}
IsNumberOf64Bits (Int n) = mag n < 2 ^ 63
IsNumberOf64Bits (Text t) = Unit {0}
IsNumberOf64Bits (NoCase t) = Unit {0}

-- a JSON reader finds the tokens of an object: each name, and the value in its column
abbrev pub JsonReadsBack : Type 0
JsonReadsBack = (names : List (List ℕ)) (row : List Value) → All IsNumberOf64Bits row → tokens (object_text names row) ≡ object_tokens names row

-- each column gets a name, no two have the same, and distinct names stay the same
pub record NamesColumns : Type 0 where
  pub each : (header : List (List ℕ)) → length (distinct_names header) ≡ length header
  pub differ : (header : List (List ℕ)) → length header < 2 ^ 62 → IsDistinct bytes_eq (distinct_names header)
  pub kept : (header : List (List ℕ)) → IsDistinct bytes_eq header → distinct_names header ≡ header

-- the width of a box: each column with a space on both sides and a mark, and the last mark
abbrev pub box_width : List Column → ℕ
box_width [] = 1
box_width (column ∷ columns) = column.width + 3 + box_width columns

-- all lines of a box have the same width in a terminal
abbrev pub LinesAlign : Type 0
LinesAlign = (header : List (List ℕ)) (rows : List (List Value)) → All (λ line. terminal_width line ≡ box_width (columns_of header rows)) (box_lines header rows)
