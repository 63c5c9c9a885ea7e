use Rattle.std.proofs.Common.{◌≡◌, ◌∙◌, ℕ, List, [], filter, length, map, sym, ap, subst, refl, arith, IsPermutation}
use Rattle.std.specs.Prelude.{option_copied}
use Rattle.std.proofs.lemmas.List.{length-map}
use Rattle.gq_row.specs.Rows.{cells_in}
use Rattle.gq_row.specs.Tables.{keys}
use Rattle.gq_group.specs.Distinct.{all_have}
use Rattle.gq_group.specs.Groups.{OneWidth}
use Rattle.gq_group.proofs.Widths.{one_width-cells}
use Rattle.gq_select.specs.Distinct.{bare_keys}
use Rattle.gq_query.specs.Cells.{columns_used, placed_columns, place_of}
use Rattle.gq_query.specs.Keeping.{is_kept, kept_rows, ours_of}
use Rattle.gq_query.proofs.KeepingLemmas.{source_ready}
use Rattle.gq_query.proofs.Placing.{bare, bare_within, bare_have, keys_of_placed}
use Rattle.gq_query.proofs.query.Query.keys.Goals as goal

pub distinct-requires-clause-some : goal.distinct-requires-clause-some
distinct-requires-clause-some g c =
    let by = c.args.self.now.by.now in
    let many = ap length c.in-Ok-place_columns.ensures ∙ length-map by (λ column. place_of c.as_slice.result.now column) in
    omega (arith, many, c.requires.some)

pub distinct-requires-clause-source : goal.distinct-requires-clause-source
distinct-requires-clause-source g c =
    let by = c.args.self.now.by.now in
    let table = c.args.self.now.table.now in
    let all : List ℕ = columns_used (bare by) in
    let used : c.as_slice-2.result.now ≡ all = c.as_slice-2.ensures.value ∙ c.in-Ok.ensures in
    let long =
    source_ready table.schema.columns all (ours_of (option_copied c.args.self.now.kept.now.matching)) c.as_slice-2.result.now table.rows c.rows.result.rest
    c.rows.ensures.rows used c.rows.ensures.valid.fitting (bare_within table.schema.columns by c.requires.columns.by) c.requires.columns.ours in
    (long.0, long.1, c.requires.columns.reads)

pub distinct-requires-clause-rows : goal.distinct-requires-clause-rows
distinct-requires-clause-rows g c = λ h rows e.
    let by = c.args.self.now.by.now in
    let mine = kept_rows c.args.self.now in
    let keep = is_kept c.args.self.now.kept.now in
    let all : List ℕ = columns_used (bare by) in
    let used : c.as_slice-2.result.now ≡ all = c.as_slice-2.ensures.value ∙ c.in-Ok.ensures in
    let by_there : c.in-Ok-place_columns.by.items ≡ placed_columns all by = c.in-Ok-place_columns.ensures ∙ ap (λ u. placed_columns u by) (c.as_slice.ensures.value ∙ c.in-Ok.ensures) in
    let given : rows ≡ map (cells_in all) mine = e ∙ (λ i. map (cells_in (used i)) (filter keep (c.rows.ensures.rows i))) in
    (λ i. all_have (by_there i) (given i)) ∙ bare_have by mine

pub distinct-requires-clause-widths : goal.distinct-requires-clause-widths
distinct-requires-clause-widths g c = λ h rows e.
    let keep = is_kept c.args.self.now.kept.now in
    subst OneWidth (sym e) (one_width-cells c.as_slice-2.result.now (filter keep c.rows.result.rest))

pub returns : goal.returns
returns g c =
    let by = c.args.self.now.by.now in
    let mine = kept_rows c.args.self.now in
    let keep = is_kept c.args.self.now.kept.now in
    let given = map (cells_in c.as_slice-2.result.now) (filter keep c.rows.result.rest) in
    let all : List ℕ = columns_used (bare by) in
    let used : c.as_slice-2.result.now ≡ all = c.as_slice-2.ensures.value ∙ c.in-Ok.ensures in
    let by_there : c.in-Ok-place_columns.by.items ≡ placed_columns all by = c.in-Ok-place_columns.ensures ∙ ap (λ u. placed_columns u by) (c.as_slice.ensures.value ∙ c.in-Ok.ensures) in
    let same : keys c.in-Ok-place_columns.by.items given ≡ keys by mine
    = (λ i. keys (by_there i) (map (cells_in (used i)) (filter keep (c.rows.ensures.rows i)))) ∙ keys_of_placed by mine c.requires.some in
    record {
      found = λ h.
          let pushed = c.in_ok-distinct.ensures.keys h given refl [] (sym c.of_keys-sink.ensures) in
          let found = sym pushed.2 in
          subst (IsPermutation (bare_keys by mine)) (sym found) (subst (λ ks. IsPermutation (map (λ key. (key, [])) ks) pushed.0) same pushed.1);
      others = c.in_ok-distinct.ensures.others;
      cause = tt;
    }
