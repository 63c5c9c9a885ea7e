use Rattle.std.proofs.Common.{◌≡◌, ◌∙◌, map, sym, subst, IsTrue, IsPermutation, true}
use Rattle.std.specs.List.{list_all}
use Rattle.gq_group.specs.Groups.{groups, answered, out_of_range}
use Rattle.gq_select.specs.Asking.{can_take}
use Rattle.gq_query.specs.Keeping.{kept_rows}
use Rattle.gq_query.proofs.Joined.{can_take_aggs, no_answer, groups_shown}
use Rattle.gq_query.proofs.OutcomeLemmas.{grouped_ok, grouped_passed}
use Rattle.gq_query.proofs.query.Query.aggregates.Goals as goal

pub groups_into-requires-clause-aggs : goal.groups_into-requires-clause-aggs
groups_into-requires-clause-aggs g c =
    let columns = c.args.self.now.table.now.schema.columns in
    subst (λ l. IsTrue (list_all (can_take columns) l)) (sym (c.as_slice.ensures.value ∙ c.in-Ok.ensures)) (can_take_aggs columns c.args.shown.now c.requires.shown)

pub returns-in_err-spent : goal.returns-in_err-spent
returns-in_err-spent g c =
    let by = c.args.self.now.by.now in
    let rows = kept_rows c.args.self.now in
    grouped_passed c.from_residual.result c.from_residual.ensures.1
    (λ out. no_answer by c.args.shown.now rows (subst (λ l. out_of_range (record { by = by; aggs = l }) rows ≡ true) (c.as_slice.ensures.value ∙ c.in-Ok.ensures) out)) c.in_err-spent.ensures

pub returns : goal.returns
returns g c =
    let by = c.args.self.now.by.now in
    let rows = kept_rows c.args.self.now in
    let earlier = c.in_ok-spent.ensures in
    grouped_ok
    (λ h. groups_shown by c.args.shown.now rows c.groups_into.new.groups c.sort.new.self
    (subst (λ l. IsPermutation (groups (record { by = by; aggs = l }) rows) (map answered c.groups_into.new.groups)) (c.as_slice.ensures.value ∙ c.in-Ok.ensures) (earlier.found h))
    c.sort.ensures.moved c.sort.ensures.ascending)
    earlier.spent earlier.others
