use Rattle.std.proofs.Common.{◌∙◌, ◌++◌, ◌+◌, ◌≤◌, length, drop, sym, ap, append-nil, rules}
use Rattle.std.proofs.lemmas.List.{drop_all}
use Rattle.gq_select.specs.Truths.{columns_of}
use Rattle.gq_select.proofs.ReadLemmas.{columns_next}
use Rattle.gq_select.proofs.condition.Condition.columns.Goals as goal

pub loop-test-init : goal.loop-test-init
loop-test-init c = ap (λ l. l ++ columns_of c.as_slice-test-items.result.now) c.new-columns.ensures.items

pub loop-test-preserved : goal.loop-test-preserved
loop-test-preserved c =
    ap (λ l. l ++ columns_of (drop (c.loop-test.test-index + 1) c.as_slice-test-items.result.now)) c.in_ok-push_columns.ensures
    ∙ columns_next c.loop-test.columns.items c.as_slice-test-items.result.now c.test-item.result c.loop-test.test-index c.loop-test-test.true c.test-item.is
    ∙ c.loop-test.invariant

pub returns : goal.returns
returns c =
    let tests = c.as_slice-test-items.result.now in
    let end : length tests ≤ c.loop-test.test-index = search rules in
    sym (append-nil c.loop-test.columns.items)
    ∙ ap (λ l. c.loop-test.columns.items ++ columns_of l) (sym (drop_all c.loop-test.test-index tests end))
    ∙ c.loop-test.invariant
    ∙ ap columns_of c.as_slice-test-items.ensures
