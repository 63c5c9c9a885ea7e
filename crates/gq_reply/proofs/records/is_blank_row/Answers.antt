use Rattle.std.proofs.Common.{◌≡◌, ◌∙◌, ◌==◌, length, map, sym, ap, arith}
use Rattle.std.proofs.lemmas.List.{length-map}
use Rattle.gq_reply.specs.Replies.{cell_text}
use Rattle.gq_reply.proofs.RecordLemmas.{blank_many, blank_none, blank_one, cell_field}
use Rattle.gq_reply.proofs.records.is_blank_row.Goals as goal

pub returns-in-0 : goal.returns-in-0
returns-in-0 c =
    let row = c.args.row.now in
    let same : length (map cell_text row) ≡ length row = length-map row cell_text in
    sym (blank_none (map cell_text row) (same ∙ sym c.len.ensures ∙ c.in-0.is))

pub returns-in-1 : goal.returns-in-1
returns-in-1 c =
    let row = c.args.row.now in
    let same : length (map cell_text row) ≡ length row = length-map row cell_text in
    let one : length row ≡ 1 = sym c.len.ensures ∙ c.in-1.is in
    c.is_empty_text.ensures ∙ ap (λ v. length (cell_text v) == 0) c.cell.ensures ∙ ap (λ l. length l == 0) (sym (cell_field row 0 (omega (arith, one)))) ∙ sym (blank_one (map cell_text row) (same ∙ one))

pub returns-in_default : goal.returns-in_default
returns-in_default c =
    let row = c.args.row.now in
    let same : length (map cell_text row) ≡ length row = length-map row cell_text in
    sym (blank_many (map cell_text row) (grind (arith, same, c.len.ensures, c.in_default)))
