use Rattle.std.proofs.Common.{◌≡◌, ◌++◌, drop, string_bytes, encode_utf8_all}
use Rattle.gq_format.specs.Boxes.{line}
use Rattle.gq_format.specs.Parts.{part_of}
use Rattle.gq_format.proofs.boxes.push_line.Given as goal

abbrev pub invariant-loop-column : goal.invariant-loop-column
invariant-loop-column l = string_bytes l.text ++ encode_utf8_all (line l.mark l.marks.between l.marks.right (part_of l.part) (drop l.column-index l.columns))
    ≡ string_bytes l.fn.text ++ encode_utf8_all (line l.marks.left l.marks.between l.marks.right (part_of l.part) l.columns)
