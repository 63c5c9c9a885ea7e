use Rattle.std.proofs.Common.{◌≡◌, ◌∙◌, ℕ, List, [], filter, map, sym, ap, subst, refl, IsPermutation}
use Rattle.std.specs.Prelude.{option_copied}
use Rattle.gq_row.specs.Rows.{cells_in}
use Rattle.gq_group.specs.Distinct.{distinct_groups, all_have, with_column}
use Rattle.gq_group.specs.Groups.{OneWidth}
use Rattle.gq_group.proofs.Widths.{one_width-cells}
use Rattle.gq_query.specs.Cells.{columns_used, placed_columns, place_of}
use Rattle.gq_query.specs.Keeping.{is_kept, kept_rows, ours_of}
use Rattle.gq_query.proofs.KeepingLemmas.{source_ready}
use Rattle.gq_query.proofs.Placing.{counting, counting_within, all_have_placed, distinct_placed}
use Rattle.gq_query.proofs.query.Query.counts_of.Goals as goal

pub group_distinct-requires-clause-source : goal.group_distinct-requires-clause-source
group_distinct-requires-clause-source g c =
    let by = c.args.self.now.by.now in
    let table = c.args.self.now.table.now in
    let all : List ℕ = columns_used (counting by c.args.column) in
    let used : c.as_slice-3.result.now ≡ all = c.as_slice-3.ensures.value ∙ c.in-Ok.ensures in
    let long =
    source_ready table.schema.columns all (ours_of (option_copied c.args.self.now.kept.now.matching)) c.as_slice-3.result.now table.rows c.rows.result.rest
    c.rows.ensures.rows used c.rows.ensures.valid.fitting (counting_within table.schema.columns by c.args.column c.requires.columns.by c.requires.column) c.requires.columns.ours in
    (long.0, long.1, c.requires.columns.reads)

pub group_distinct-requires-clause-rows : goal.group_distinct-requires-clause-rows
group_distinct-requires-clause-rows g c = λ h rows e.
    let by = c.args.self.now.by.now in
    let mine = kept_rows c.args.self.now in
    let keep = is_kept c.args.self.now.kept.now in
    let all : List ℕ = columns_used (counting by c.args.column) in
    let used : c.as_slice-3.result.now ≡ all = c.as_slice-3.ensures.value ∙ c.in-Ok.ensures in
    let by_there : c.as_slice-4.result.now ≡ placed_columns all by = c.as_slice-4.ensures.value ∙ c.in-Ok-place_columns.ensures ∙ ap (λ u. placed_columns u by) (c.as_slice.ensures.value ∙ c.in-Ok.ensures) in
    let place : c.place_of-place.result ≡ place_of all c.args.column = c.place_of-place.ensures ∙ ap (λ u. place_of u c.args.column) (c.as_slice-2.ensures.value ∙ c.in-Ok.ensures) in
    let given : rows ≡ map (cells_in all) mine = e ∙ (λ i. map (cells_in (used i)) (filter keep (c.rows.ensures.rows i))) in
    (λ i. all_have (with_column (by_there i) (place i)) (given i)) ∙ all_have_placed by c.args.column mine

pub group_distinct-requires-clause-widths : goal.group_distinct-requires-clause-widths
group_distinct-requires-clause-widths g c = λ h rows e.
    let keep = is_kept c.args.self.now.kept.now in
    subst OneWidth (sym e) (one_width-cells c.as_slice-3.result.now (filter keep c.rows.result.rest))

pub returns : goal.returns
returns g c =
    let by = c.args.self.now.by.now in
    let mine = kept_rows c.args.self.now in
    let keep = is_kept c.args.self.now.kept.now in
    let given = map (cells_in c.as_slice-3.result.now) (filter keep c.rows.result.rest) in
    let all : List ℕ = columns_used (counting by c.args.column) in
    let used : c.as_slice-3.result.now ≡ all = c.as_slice-3.ensures.value ∙ c.in-Ok.ensures in
    let by_there : c.as_slice-4.result.now ≡ placed_columns all by = c.as_slice-4.ensures.value ∙ c.in-Ok-place_columns.ensures ∙ ap (λ u. placed_columns u by) (c.as_slice.ensures.value ∙ c.in-Ok.ensures) in
    let place : c.place_of-place.result ≡ place_of all c.args.column = c.place_of-place.ensures ∙ ap (λ u. place_of u c.args.column) (c.as_slice-2.ensures.value ∙ c.in-Ok.ensures) in
    let same : distinct_groups c.as_slice-4.result.now c.place_of-place.result given ≡ distinct_groups by c.args.column mine
    = (λ i. distinct_groups (by_there i) (place i) (map (cells_in (used i)) (filter keep (c.rows.ensures.rows i)))) ∙ distinct_placed by c.args.column mine in
    record {
      found = λ h.
          let pushed = c.in_ok-group_distinct.ensures.groups h given refl [] (sym c.new-sink.ensures) in
          let found = sym pushed.2 in
          subst (IsPermutation (distinct_groups by c.args.column mine)) (sym found) (subst (λ gs. IsPermutation gs pushed.0) same pushed.1);
      others = c.in_ok-group_distinct.ensures.others;
      cause = tt;
    }
