use Rattle.std.proofs.Common.{◌≡◌, ◌<◌, ◌+◌, ◌-◌, ◌==◌, ◌++◌, ◌∙◌, length, ap, sym, arith, append-nil, take}
use Rattle.std.proofs.lemmas.List.{drop_all}
use Rattle.csv.specs.Writing.{default_writer, field_text}
use Rattle.gq_row.specs.Rows.{cell}
use Rattle.gq_reply.specs.Replies.{cell_text}
use Rattle.gq_reply.proofs.BareLemmas.{fields_ended, one_more_field, row_ended}
use Rattle.gq_reply.proofs.PlainLemmas.{kept_on}
use Rattle.gq_reply.proofs.bare.write_row.Goals as goal

pub loop-column-preserved : goal.loop-column-preserved
loop-column-preserved c =
    let row = c.args.row.now in
    let l = c.loop-column in
    let text = take l.next l.buffer in
    let next = take c.in_ok-next.next c.write_cell.new.buffer in
    let more : l.column < length row = omega (arith, c.loop-column-test.true, c.len-column-end.ensures, l.auto.column-end) in
    record {
      low = omega (arith, c.in_ok-next.ensures.within.0, l.invariant.low);
      high = c.in_ok-next.ensures.within.1;
      kept = kept_on c.args.buffer.now l.buffer c.write_cell.new.buffer c.args.at l.next (omega (arith, l.invariant.low)) l.invariant.kept c.write_cell.ensures.kept;
      written = one_more_field row l.column text next (take c.args.at c.args.buffer.now ++ fields_ended row) more l.invariant.written c.in_ok-next.ensures.field;
      shown = λ i e. let is : l.column ≡ i = omega (arith, e) in ap (λ k. length (field_text default_writer (cell_text (cell row k))) == 0) (sym is) ∙ c.in_ok-next.ensures.shown;
    }

pub returns-clause-written : goal.returns-clause-written
returns-clause-written c =
    let row = c.args.row.now in
    let l = c.loop-column in
    let i = length row - 1 in
    let all : l.column ≡ length row = omega (arith, c.loop-column-test.false, c.len-column-end.ensures, l.auto.column-end) in
    let long : length row ≡ i + 1 = grind (arith, c.is_empty.ensures, c.if-is_empty.false) in
    let text = take l.next l.buffer in
    let written = sym (append-nil text) ∙ ap (λ r. text ++ fields_ended r) (sym (drop_all l.column row (omega (arith, all)))) ∙ l.invariant.written in
    row_ended row l.buffer (take c.args.at c.args.buffer.now) i l.next long (omega (arith, l.invariant.high)) (l.invariant.shown i (all ∙ long)) written
