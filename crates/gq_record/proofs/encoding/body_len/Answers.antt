use Rattle.std.proofs.Common.{◌<◌, ◌+◌, List, length, ap, subst, arith}
use Rattle.std.proofs.lemmas.List.Elements.{All-more}
use Rattle.gq_record.specs.Records.{IsCell, body_of}
use Rattle.gq_record.proofs.RecordLemmas.{body_longer, body_more}
use Rattle.gq_record.proofs.encoding.body_len.Goals as goal

pub returns-then-total-clause-none : goal.returns-then-total-clause-none
returns-then-total-clause-none c = λ storable.
    let cells = c.cells-value-items.result.now in
    let i = c.loop-value.value-index in
    let lt : i < length cells = omega arith in
    let longer = body_longer (i + 1) cells in
    let more = body_more i cells c.value-item.result lt c.value-item.is in
    let len = c.in-Some.ensures.some.0 in
    let short = storable.short in
    let whole = ap (λ (l : List _). length (body_of l)) c.cells-value-items.ensures in
    omega (arith, c.loop-value.invariant.total)

pub loop-value-preserved : goal.loop-value-preserved
loop-value-preserved c =
    let cells = c.cells-value-items.result.now in
    let i = c.loop-value.value-index in
    let lt : i < length cells = omega arith in
    let more = body_more i cells c.value-item.result lt c.value-item.is in
    let len = c.in-Some.ensures.some.0 in
    record {
      total = omega (arith, c.loop-value.invariant.total);
      short = omega arith;
      cells = All-more IsCell cells i c.value-item.result lt c.loop-value.invariant.cells (subst IsCell c.value-item.is c.in-Some.ensures.some.2);
    }
