use Rattle.std.proofs.Common.{◌++◌, string_bytes, encode_utf8_all, sym, arith}
use Rattle.gq_format.specs.Boxes.{line}
use Rattle.gq_format.specs.Parts.{part_of}
use Rattle.gq_format.proofs.PushLemmas.{one_more_part}
use Rattle.gq_format.proofs.boxes.push_line.Goals as goal

pub loop-column-preserved : goal.loop-column-preserved
loop-column-preserved c =
    let marks = c.args.marks in
    one_more_part (part_of c.args.part) c.args.columns.now c.loop-column.column-index c.column-item.result c.loop-column.mark marks.between marks.right
    (string_bytes c.loop-column.text) (string_bytes c.push.new.self) (string_bytes c.push_part.new.text) (string_bytes c.args.text.now ++ encode_utf8_all (line marks.left marks.between marks.right (part_of c.args.part) c.args.columns.now))
    (omega arith) (sym c.column-item.is) c.loop-column.invariant c.in_ok-push.ensures.bytes c.in_ok-push_part.ensures
