use Rattle.std.proofs.Common.{◌≡◌, ◌∙◌, ℕ, List, Result, Ok, Err, IfOk, [], filter, length, map, sym, ap, subst, refl, IsPermutation}
use Rattle.std.specs.Prelude.{option_copied}
use Rattle.std.specs.List.{list_any}
use Rattle.std.proofs.lemmas.List.{length-map}
use Rattle.std.proofs.lemmas.Result.{IfOk-weaker, on_ok_weaker}
use Rattle.gq_row.specs.declared.value.Value.{Value}
use Rattle.gq_row.specs.Fitting.{fits_columns}
use Rattle.gq_row.specs.Rows.{cells_in}
use Rattle.gq_group.specs.Groups.{Spec, OneWidth, groups, answered, is_none, all_fit, keys_of}
use Rattle.gq_group.proofs.Widths.{one_width-cells}
use Rattle.gq_group.specs.declared.grouping.Spent.{Spent}
use Rattle.gq_group.specs.declared.refusal.Refusal.{Refusal}
use Rattle.gq_group.specs.Work.{Spills}
use Rattle.gq_query.specs.Cells.{columns_used, placed}
use Rattle.gq_query.specs.Keeping.{is_kept, kept_rows, ours_of}
use Rattle.gq_query.specs.Work.{IsSpentOn}
use Rattle.gq_query.proofs.KeepingLemmas.{all_kept, source_ready}
use Rattle.gq_query.proofs.Placing.{used_within, all_fit_placed, groups_placed, same_keys}
use Rattle.gq_query.proofs.query.Query.groups_into.Goals as goal

pub group-requires-clause-source : goal.group-requires-clause-source
group-requires-clause-source g c =
    let spec : Spec = record { by = c.args.self.now.by.now; aggs = c.args.aggs.now } in
    let table = c.args.self.now.table.now in
    let used : c.as_slice-2.result.now ≡ columns_used spec = c.as_slice-2.ensures.value ∙ c.in-Ok.ensures in
    let long =
    source_ready table.schema.columns (columns_used spec) (ours_of (option_copied c.args.self.now.kept.now.matching)) c.as_slice-2.result.now table.rows c.rows.result.rest
    c.rows.ensures.rows used c.rows.ensures.valid.fitting (used_within table.schema.columns spec c.requires.columns.by c.requires.aggs) c.requires.columns.ours in
    (long.0, long.1, c.requires.columns.reads)

pub group-requires-clause-rows : goal.group-requires-clause-rows
group-requires-clause-rows g c = λ h rows e.
    let spec : Spec = record { by = c.args.self.now.by.now; aggs = c.args.aggs.now } in
    let table = c.args.self.now.table.now in
    let keep = is_kept c.args.self.now.kept.now in
    let used : c.as_slice-2.result.now ≡ columns_used spec = c.as_slice-2.ensures.value ∙ c.in-Ok.ensures in
    let asked : c.in-Ok-place_spec.spec ≡ placed (columns_used spec) spec = c.in-Ok-place_spec.ensures ∙ ap (λ u. placed u spec) (c.as_slice.ensures.value ∙ c.in-Ok.ensures) in
    let given : rows ≡ map (cells_in (columns_used spec)) (filter keep table.rows) = e ∙ (λ i. map (cells_in (used i)) (filter keep (c.rows.ensures.rows i))) in
    let fit = all_kept (fits_columns table.schema.columns) keep table.rows c.rows.ensures.valid.fitting in
    (λ i. all_fit (asked i) (given i)) ∙ all_fit_placed table.schema.columns spec (filter keep table.rows) fit c.requires.aggs

pub group-requires-clause-widths : goal.group-requires-clause-widths
group-requires-clause-widths g c = λ h rows e.
    let keep = is_kept c.args.self.now.kept.now in
    subst OneWidth (sym e) (one_width-cells c.as_slice-2.result.now (filter keep c.rows.result.rest))

spent_on : (budget : ℕ) (by : List ℕ) (rows : List (List Value)) (r : Result Spent Refusal) → IfOk r (λ spent. (spent.rows_read ≡ length rows) × (spent.groups ≡ length (keys_of by rows)))
    → IfOk r (Spills budget) → IfOk r (IsSpentOn budget by rows)
spent_on budget by rows (Ok spent) counts spills = record { read = counts.0; groups = counts.1; written = spills }
spent_on budget by rows (Err e) counts spills = tt

pub returns : goal.returns
returns g c =
    let spec : Spec = record { by = c.args.self.now.by.now; aggs = c.args.aggs.now } in
    let rows = kept_rows c.args.self.now in
    let keep = is_kept c.args.self.now.kept.now in
    let given = map (cells_in c.as_slice-2.result.now) (filter keep c.rows.result.rest) in
    let used : c.as_slice-2.result.now ≡ columns_used spec = c.as_slice-2.ensures.value ∙ c.in-Ok.ensures in
    let asked : c.in-Ok-place_spec.spec ≡ placed (columns_used spec) spec = c.in-Ok-place_spec.ensures ∙ ap (λ u. placed u spec) (c.as_slice.ensures.value ∙ c.in-Ok.ensures) in
    let same : groups c.in-Ok-place_spec.spec given ≡ groups spec rows
    = (λ i. groups (asked i) (map (cells_in (used i)) (filter keep (c.rows.ensures.rows i)))) ∙ groups_placed spec rows in
    let keys : keys_of c.in-Ok-place_spec.spec.by given ≡ keys_of spec.by rows
    = (λ i. keys_of (asked i).by (map (cells_in (used i)) (filter keep (c.rows.ensures.rows i)))) ∙ same_keys spec rows in
    record {
      found = λ h. on_ok_weaker c.group.result
          (λ put.
          let pushed = put given refl [] (sym c.requires.none) in
          subst (λ l. IsPermutation (groups spec rows) (map answered l)) pushed.2 (subst (λ gs. IsPermutation gs (map answered pushed.0)) same pushed.1))
          (c.group.ensures.groups h);
      spent = λ h. spent_on c.args.self.now.budget.entries spec.by rows c.group.result
          (IfOk-weaker c.group.result _ _
          (λ spent told.
          let it = told given refl in
          (it.0 ∙ length-map (filter keep c.rows.result.rest) (cells_in c.as_slice-2.result.now) ∙ ap (λ l. length (filter keep l)) c.rows.ensures.rows, it.1 ∙ ap (λ l. length l) keys))
          (c.group.ensures.counts h))
          (c.group.ensures.spills h);
      overflow = λ h e. sym (ap (list_any (λ g. list_any is_none g.1)) same) ∙ c.group.ensures.overflow h e given refl;
      others = c.group.ensures.others;
      cause = c.group.ensures.cause;
    }
