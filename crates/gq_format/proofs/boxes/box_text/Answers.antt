use Rattle.std.proofs.Common.{◌∙◌, ◌++◌, ap, length, map, string_bytes, vec_items}
use Rattle.gq_format.specs.Boxes.{bars, count_text, line, lines_of, name_part, text_of, value_part}
use Rattle.gq_format.specs.Columns.{columns_of}
use Rattle.gq_format.proofs.PushLemmas.{boxed}
use Rattle.gq_format.proofs.boxes.box_text.Goals as goal

pub returns : goal.returns
returns c =
    let columns = c.as_slice-columns.result.now in
    let rows = c.args.rows.now in
    ap vec_items c.into_bytes.ensures.value
    ∙ boxed (string_bytes c.new-text.result) (string_bytes c.push_line.new.text) (string_bytes c.push_line-2.new.text) (string_bytes c.push_line-3.new.text) (string_bytes c.push_rows.new.text) (string_bytes c.push_line-4.new.text) (string_bytes c.push_count.new.text)
    (line 0x250C 0x252C 0x2510 bars columns) (line 0x2502 0x2502 0x2502 name_part columns) (line 0x251C 0x253C 0x2524 bars columns) (line 0x2514 0x2534 0x2518 bars columns) (count_text (length rows))
    (map (λ row. line 0x2502 0x2502 0x2502 (value_part row) columns) rows)
    c.new-text.ensures.bytes c.in_ok-push_line.ensures c.in_ok-push_line-2.ensures c.in_ok-push_line-3.ensures c.in_ok-push_rows.ensures c.in_ok-push_line-4.ensures (c.in_ok-push_count.ensures ∙ ap (λ n. string_bytes c.push_line-4.new.text ++ count_text n) c.len.ensures)
    ∙ ap (λ cs. text_of (lines_of cs rows) ++ count_text (length rows)) (c.as_slice-columns.ensures.value ∙ c.in_ok-columns.ensures ∙ ap (λ h. columns_of h rows) c.as_slice.ensures)
