use Rattle.std.proofs.Common.{◌++◌, map, string_bytes, arith}
use Rattle.gq_format.specs.Boxes.{line, text_of, value_part}
use Rattle.gq_format.proofs.PushLemmas.{one_more_line}
use Rattle.gq_format.proofs.boxes.push_rows.Goals as goal

pub loop-i-preserved : goal.loop-i-preserved
loop-i-preserved c =
    one_more_line (λ row. line 0x2502 0x2502 0x2502 (value_part row) c.args.columns.now) c.args.rows.now c.loop-i.i c.row-row.result (string_bytes c.loop-i.text) (string_bytes c.push_line.new.text)
    (string_bytes c.args.text.now ++ text_of (map (λ row. line 0x2502 0x2502 0x2502 (value_part row) c.args.columns.now) c.args.rows.now)) (omega arith) c.row-row.ensures c.in_ok-push_line.ensures c.loop-i.invariant
