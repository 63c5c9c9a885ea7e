use Rattle.std.proofs.Common.{◌≡◌, ◌<◌, List, length, take, All, ap, subst, ◌∙◌, arith}
use Rattle.std.proofs.lemmas.List.{take_all}
use Rattle.std.proofs.lemmas.List.Elements.{All-more}
use Rattle.gq_row.specs.declared.value.Value.{Value}
use Rattle.gq_record.specs.Records.{IsCell, body_of}
use Rattle.gq_record.proofs.RecordLemmas.{body_more}
use Rattle.gq_record.proofs.encoding.is_small_row.Goals as goal

pub loop-value-preserved : goal.loop-value-preserved
loop-value-preserved c =
    let cells = c.cells-value-items.result.now in
    let i = c.loop-value.value-index in
    let lt : i < length cells = omega arith in
    let more = body_more i cells c.value-item.result lt c.value-item.is in
    let small = c.is_small.ensures c.if-not-is_small.false in
    record {
      cells = All-more IsCell cells i c.value-item.result lt c.loop-value.invariant.cells (subst IsCell c.value-item.is small.0);
      short = omega (arith, c.loop-value.invariant.short, small.1);
    }

pub returns : goal.returns
returns c = λ _.
    let cells = c.cells-value-items.result.now in
    let all : take c.loop-value.value-index cells ≡ c.args.row.now = take_all c.loop-value.value-index cells (omega arith) ∙ c.cells-value-items.ensures in
    record {
      cells = subst (λ (l : List Value). All IsCell l) all c.loop-value.invariant.cells;
      short = omega (arith, c.loop-value.invariant.short, ap (λ (l : List Value). length (body_of l)) all, ap (λ (l : List Value). length l) c.cells-value-items.ensures);
    }
