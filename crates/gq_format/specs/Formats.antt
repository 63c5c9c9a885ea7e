-- Formats: the text of a result in each.
use Rattle.std.specs.Prelude.{ℕ, List, [], codes}
use Rattle.gq_row.specs.declared.value.Value.{Value}
use Rattle.gq_reply.specs.Replies.{records_text}
use Rattle.gq_format.specs.Boxes.{box_text}
use Rattle.gq_format.specs.Jsons.{json_text}
use Rattle.gq_format.specs.declared.format.Format.{Format}
use Rattle.gq_format.specs.declared.format.Format.TheVariants as format

-- the text of a result, from the names of its columns and its rows
abbrev pub result_text : Format → List (List ℕ) → List (List Value) → List ℕ
result_text format.Csv header rows = records_text header rows
result_text format.Json header rows = json_text header rows
result_text format.Box header rows = box_text header rows

-- what comes between two results
abbrev pub separator_of : Format → List ℕ
separator_of format.Csv = codes "\n"
separator_of format.Json = []
separator_of format.Box = codes "\n"
