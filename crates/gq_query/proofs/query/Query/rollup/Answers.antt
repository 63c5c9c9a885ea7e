use Rattle.std.proofs.Common.{◌≡◌, ◌<◌, ◌+◌, IsTrue, length, sym, subst, arith}
use Rattle.gq_group.proofs.AccessLemmas.{leaves-trans}
use Rattle.gq_query.specs.Keeping.{kept_rows}
use Rattle.gq_query.specs.Sources.{no_runs}
use Rattle.gq_query.proofs.OutcomeLemmas.{answered_passed}
use Rattle.gq_query.proofs.RollupLemmas.{Risen, SoFar, all_levels, all_risen, level_refused, one_level_more, risen_more, total_level, total_risen}
use Rattle.gq_query.proofs.query.Query.rollup.Goals as goal

pub levels-init : goal.levels-init
levels-init g c =
    let by = c.args.self.now.by.now in
    let rows = kept_rows c.args.self.now in
    let honest = (g.S.RunStore.runs c.args.store.now).honest in
    let budget = c.args.self.now.budget.entries in
    record {
      rows = λ h. total_level by c.args.shown.now c.args.condition.now.tests rows c.in_ok-rows.rows (c.in_ok-rows.ensures.found h);
      risen = subst (Risen honest budget by rows c.args.spent 0) (sym c.both_spent-total.ensures) (total_risen honest budget by rows c.args.spent c.in_ok-rows.work c.in_ok-rows.ensures.spent);
      others = c.level.ensures.others;
    }

pub returns-in_err-more : goal.returns-in_err-more
returns-in_err-more g c =
    let below : c.levels.fewer < length c.args.self.now.by.now = omega arith in
    answered_passed c.from_residual-in_err-more.result c.from_residual-in_err-more.ensures.1 c.levels.invariant.others
    (λ h none. level_refused c.args.self.now.by.now c.args.shown.now c.args.condition.now.tests (kept_rows c.args.self.now) c.levels.fewer c.levels.rows below (c.levels.invariant.rows h) none)
    c.in_err-more.ensures

pub levels-preserved : goal.levels-preserved
levels-preserved g c =
    let by = c.args.self.now.by.now in
    let rows = kept_rows c.args.self.now in
    let shown = c.args.shown.now in
    let tests = c.args.condition.now.tests in
    let honest = (g.S.RunStore.runs c.args.store.now).honest in
    let budget = c.args.self.now.budget.entries in
    let level = c.levels.fewer in
    let below : level < length by = omega arith in
    let still = λ (h : IsTrue honest). subst IsTrue (sym c.levels.invariant.others.same_honest) h in
    let more = risen_more honest budget by rows c.args.spent level c.levels.total c.in_ok-more.work below (λ h. c.in_ok-more.ensures.spent (still h)) c.levels.invariant.risen in
    record {
      rows = λ h. subst (SoFar by shown tests rows (level + 1)) (sym c.in-Ok.ensures.appended)
          (one_level_more by shown tests rows level c.levels.rows c.in_ok-more.more below (c.levels.invariant.rows h) (c.in_ok-more.ensures.found (still h)));
      risen = subst (Risen honest budget by rows c.args.spent (level + 1)) (sym c.both_spent-total-in-levels.ensures) more;
      others = leaves-trans no_runs no_runs no_runs _ _ _ c.levels.invariant.others c.level-in-levels.ensures.others;
    }

pub returns : goal.returns
returns g c =
    let by = c.args.self.now.by.now in
    let rows = kept_rows c.args.self.now in
    let honest = (g.S.RunStore.runs c.args.store.now).honest in
    let end : c.levels.fewer ≡ length by = omega arith in
    record {
      rows = λ h. all_levels by c.args.shown.now c.args.condition.now.tests rows c.levels.fewer c.levels.rows end (c.levels.invariant.rows h);
      spent = all_risen honest c.args.self.now.budget.entries by rows c.args.spent c.levels.fewer c.levels.total end c.levels.invariant.risen;
      overflow = λ h e. let none : ⊥ = cc in absurd none;
      others = c.levels.invariant.others;
      cause = tt;
    }
