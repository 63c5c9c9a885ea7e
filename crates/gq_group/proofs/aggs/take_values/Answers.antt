use Rattle.std.proofs.Common.{◌≡◌, ◌+◌, ◌<◌, ◌++◌, ◌∷◌, [], List, length, map, take, Some, true, sym, ap, ◌∙◌, drop, arith, rules}
use Rattle.std.specs.List.{list_any}
use Rattle.std.proofs.lemmas.List.{drop-drop, length-map, length-set, map-append, take_all, take_more_set}
use Rattle.gq_row.specs.declared.value.Value.{Value as Cell}
use Rattle.gq_agg.specs.Aggregates.{aggregate}
use Rattle.gq_agg.specs.declared.kind.AggKind.TheVariants.{CountAll}
use Rattle.gq_group.specs.Entries.{tallies}
use Rattle.gq_group.specs.Groups.{answers, column_of, is_none}
use Rattle.gq_group.specs.KeptAggs.{kept_aggs, kept_for}
use Rattle.gq_group.proofs.KeptAggLemmas.{next, next_left, next_known, next_answer, next_refused, some_kept}
use Rattle.gq_group.proofs.aggs.take_values.Goals as goal

pub returns-in_err-take_value-clause-overflow : goal.returns-in_err-take_value-clause-overflow
returns-in_err-take_value-clause-overflow c =
    let asked = c.args.asked.now in
    let i = c.asked.i in
    let a = next asked i c.asked.place (CountAll, 0) c.asked-test.true c.asked.invariant.left in
    let told : (rows : List (List Cell)) → c.args.aggs.now ≡ tallies (kept_aggs asked) rows → list_any is_none (answers asked rows) ≡ true = λ rows is.
    let count = c.rows_added-rows.ensures.rows (kept_aggs asked) rows (some_kept asked i c.asked-test.true) is in
    let known = next_known asked i c.asked.place (CountAll, 0) c.asked-test.true c.asked.invariant.left rows c.rows_added-rows.result c.args.aggs.now c.asked.aggs count is c.asked.invariant.rest in
    next_refused asked i c.asked.place (CountAll, 0) c.asked-test.true c.asked.invariant.left rows (c.in_err-take_value.ensures.value (column_of a.1 rows) known) in
    search rules

pub asked-preserved : goal.asked-preserved
asked-preserved c =
    let asked = c.args.asked.now in
    let i = c.asked.i in
    let place = c.asked.place in
    let value = c.take_value.new.over in
    let a = next asked i place (CountAll, 0) c.asked-test.true c.asked.invariant.left in
    let step : c.kept_for-place.result ≡ kept_for a.0 = c.kept_for-place.ensures in
    let lt : i < length c.asked.values = omega (arith, c.asked-test.true, c.asked.invariant.size) in
    record {
      size = length-set c.asked.values i value ∙ c.asked.invariant.size;
      long = c.in_ok-take_value.ensures.long ∙ c.asked.invariant.long;
      rest =
          ap (λ n. drop (place + n) c.take_value.new.aggs) step
          ∙ c.in_ok-take_value.ensures.behind
          ∙ sym (drop-drop (kept_for a.0) place c.asked.aggs)
          ∙ ap (drop (kept_for a.0)) c.asked.invariant.rest
          ∙ drop-drop (kept_for a.0) place c.args.aggs.now
          ∙ ap (λ n. drop (place + n) c.args.aggs.now) (sym step);
      left = ap (λ n. drop (place + n) (kept_aggs asked)) step ∙ next_left asked i place (CountAll, 0) c.asked-test.true c.asked.invariant.left;
      made = λ rows is.
          let count = c.rows_added-rows.ensures.rows (kept_aggs asked) rows (some_kept asked i c.asked-test.true) is in
          let known = next_known asked i place (CountAll, 0) c.asked-test.true c.asked.invariant.left rows c.rows_added-rows.result c.args.aggs.now c.asked.aggs count is c.asked.invariant.rest in
          let answer = c.in_ok-take_value.ensures.value (column_of a.1 rows) known in
          ap (map Some) (take_more_set c.asked.values i value lt)
          ∙ map-append Some (take i c.asked.values) (value ∷ [])
          ∙ (λ k. c.asked.invariant.made rows is k ++ sym answer k ∷ [])
          ∙ sym (next_answer asked i place (CountAll, 0) c.asked-test.true c.asked.invariant.left rows);
    }

pub returns-clause-ok : goal.returns-clause-ok
returns-clause-ok c = λ rows is.
    let asked = c.args.asked.now in
    let i = c.asked.i in
    let values = take_all i c.asked.values (omega (arith, c.asked-test.false, c.asked.invariant.size)) in
    let all = take_all i (answers asked rows) (omega (arith, c.asked-test.false, length-map asked (λ a. aggregate a.0 (column_of a.1 rows)))) in
    sym all ∙ sym (c.asked.invariant.made rows is) ∙ ap (map Some) values
