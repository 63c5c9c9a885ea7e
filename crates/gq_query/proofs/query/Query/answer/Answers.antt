use Rattle.std.proofs.Common.{false, [], ◌∷◌, sym, subst, rules}
use Rattle.gq_query.specs.Keeping.{kept_rows}
use Rattle.gq_query.specs.Rollups.{grouping_sets}
use Rattle.gq_query.specs.Work.{RisesBy, both_spent}
use Rattle.gq_query.proofs.query.Query.answer.Goals as goal

pub returns : goal.returns
returns g c =
    let honest = (g.S.RunStore.runs c.args.store.now).honest in
    let budget = c.args.self.now.budget.entries in
    let rows = kept_rows c.args.self.now in
    let by = c.args.self.now.by.now in
    let risen : RisesBy honest budget rows (by ∷ []) c.args.spent (both_spent c.args.spent c.in_ok-rows.work) = RisesBy.Rises c.in_ok-rows.work c.in_ok-rows.ensures.spent RisesBy.IsDone in
    record {
      rows = search rules;
      spent = subst (λ rollup. RisesBy honest budget rows (grouping_sets rollup by) c.args.spent c.both_spent.result) (sym c.if-grouping.false)
          (subst (RisesBy honest budget rows (grouping_sets false by) c.args.spent) (sym c.both_spent.ensures) risen);
      overflow = search rules;
      others = c.in_ok-rows.ensures.others;
      cause = tt;
    }
