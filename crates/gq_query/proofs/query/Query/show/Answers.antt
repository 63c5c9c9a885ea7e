use Rattle.std.proofs.Common.{◌≡◌, ◌∙◌, length, ap, subst, sym, arith}
use Rattle.gq_group.proofs.AccessLemmas.{leaves-trans}
use Rattle.gq_query.specs.Joining.{AreShown, so_far}
use Rattle.gq_query.specs.Keeping.{kept_rows}
use Rattle.gq_query.specs.Sources.{no_runs}
use Rattle.gq_query.proofs.Joined.{so_far_all}
use Rattle.gq_query.proofs.OutcomeLemmas.{grouped_after, grouped_ok, grouped_passed}
use Rattle.gq_query.proofs.query.Query.show.Goals as goal

pub aggregates-requires-clause-columns : goal.aggregates-requires-clause-columns
aggregates-requires-clause-columns g c = c.requires.columns

pub aggregates-requires-clause-shown : goal.aggregates-requires-clause-shown
aggregates-requires-clause-shown g c = c.requires.shown

pub returns-in_err-groups : goal.returns-in_err-groups
returns-in_err-groups g c = grouped_passed c.from_residual.result c.from_residual.ensures.1 (λ none. none) c.in_err-groups.ensures

pub show_next-requires-clause-columns : goal.show_next-requires-clause-columns
show_next-requires-clause-columns g c = c.requires.columns

pub show_next-requires-clause-shown : goal.show_next-requires-clause-shown
show_next-requires-clause-shown g c = c.requires.shown

pub show_next-requires-clause-groups : goal.show_next-requires-clause-groups
show_next-requires-clause-groups g c = λ h. c.shown.invariant.groups (sym c.shown.invariant.others.same_honest ∙ h)

pub returns-in_err-show_next : goal.returns-in_err-show_next
returns-in_err-show_next g c = grouped_after c.from_residual-in_err-show_next.result c.from_residual-in_err-show_next.ensures.1 c.shown.invariant.others c.in_err-show_next.ensures

pub shown-preserved : goal.shown-preserved
shown-preserved g c = record {
  groups = λ h. c.in_ok-show_next.ensures.found (c.shown.invariant.others.same_honest ∙ h);
  others = leaves-trans no_runs no_runs no_runs (g.S.RunStore.runs c.args.store.now) (g.S.RunStore.runs c.shown.store) (g.S.RunStore.runs c.show_next.new.store) c.shown.invariant.others c.in_ok-show_next.ensures.others;
}

pub returns : goal.returns
returns g c =
    let by = c.args.self.now.by.now in
    let rows = kept_rows c.args.self.now in
    let shown = c.args.shown.now in
    let end : c.shown.place ≡ length shown = omega arith in
    grouped_ok
    (λ h. subst (λ l. AreShown by l rows c.shown.groups) (ap (λ n. so_far n shown) end ∙ so_far_all shown) (c.shown.invariant.groups h))
    c.in_ok-groups.ensures.spent c.shown.invariant.others
