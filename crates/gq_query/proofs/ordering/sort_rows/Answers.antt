use Rattle.std.proofs.Common.{◌≡◌, ◌∙◌, All, map, sym, ap, subst, IsPermutation}
use Rattle.std.specs.List.Sorted.{IsSortedByKey}
use Rattle.std.proofs.lemmas.List.Sorted.{All-permutation, IsPermutation-map}
use Rattle.gq_cells.specs.Lists.{IsPart, row_at}
use Rattle.gq_row.specs.Order.{compare_keys}
use Rattle.gq_query.specs.Answers.{ordered_by}
use Rattle.gq_query.specs.Spans.{row_in}
use Rattle.gq_query.proofs.OrderingLemmas.{rows_in_are, sorted_map}
use Rattle.gq_query.proofs.ordering.sort_rows.Goals as goal

pub of-requires-2 : goal.of-requires-2
of-requires-2 c =
    let parts = c.into_parts-cells.result in
    let spans = c.sort_spans.new.spans.items in
    subst (λ l. All (IsPart l) spans) (sym (c.of.ensures ∙ c.in_ok-cells.ensures))
    (All-permutation (IsPart parts.0) parts.1.items spans c.in_ok-sort_spans.ensures.moved c.into_parts-cells.ensures.within)

pub returns : goal.returns
returns c =
    let parts = c.into_parts-cells.result in
    let cells = parts.0 in
    let spans = c.sort_spans.new.spans.items in
    let key = ordered_by c.args.columns.now in
    let within = All-permutation (IsPart cells) parts.1.items spans c.in_ok-sort_spans.ensures.moved c.into_parts-cells.ensures.within in
    let rows : c.of-2.result ≡ map (row_at cells) spans = c.of-2.ensures ∙ ap (λ l. map (row_at l) spans) (c.of.ensures ∙ c.in_ok-cells.ensures) in
    record {
      same_rows = subst (λ rows. IsPermutation c.args.rows rows) (sym rows)
          (subst (λ rows. IsPermutation rows (map (row_at cells) spans)) c.into_parts-cells.ensures.rows (IsPermutation-map (row_at cells) parts.1.items spans c.in_ok-sort_spans.ensures.moved));
      ascending = subst (IsSortedByKey key compare_keys) (rows_in_are cells spans within ∙ sym rows)
          (sorted_map (row_in cells) key spans (subst (λ l. IsSortedByKey (λ span. key (row_in l span)) compare_keys spans) (c.as_slice.ensures.value ∙ c.in_ok-cells.ensures) c.in_ok-sort_spans.ensures.ascending));
    }
