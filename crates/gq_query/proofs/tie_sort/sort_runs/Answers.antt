use Rattle.std.proofs.Common.{◌≤◌, ◌-◌, ◌∙◌, sym, arith}
use Rattle.std.proofs.lemmas.Bool.{and_parts, not-true}
use Rattle.std.proofs.lemmas.List.Sorted.{IsPermutation-put_mid, IsPermutation-trans}
use Rattle.gq_query.proofs.TieLemmas.{chunk_long, chunk_more, moved_tied, part_tied, span_below, tie_same}
use Rattle.gq_query.proofs.tie_sort.sort_runs.Goals as goal

pub sort_run-sorted-requires : goal.sort_run-sorted-requires
sort_run-sorted-requires c =
    let cells = c.args.cells.now in
    let tie = c.args.tie in
    let groups = c.runs.groups in
    let end = c.tie_end-end.ensures.within in record {
      same = tie_same groups c.runs.at c.tie_end-end.result _ end.0 end.1 c.tie_end-end.ensures.ties;
      tied = part_tied cells tie c.runs.at (c.tie_end-end.result - c.runs.at) groups (moved_tied cells tie c.args.groups.now groups c.runs.invariant.moved c.requires);
    }

pub runs-preserved : goal.runs-preserved
runs-preserved c =
    let end = c.tie_end-end.ensures.within in
    let groups = c.runs.groups in
    let chunk = c.sort_run-sorted.new.groups in
    let low : c.runs.at ≤ c.tie_end-end.result = omega (arith, end.0) in
    record {
      moved = IsPermutation-trans _ _ _ c.runs.invariant.moved (IsPermutation-put_mid c.runs.at (c.tie_end-end.result - c.runs.at) groups chunk c.sort_run-sorted.ensures.moved);
      sorted = λ e.
          let all = and_parts _ c.follows-sorted.result e in
          let both = and_parts c.runs.sorted c.sort_run-sorted.result all.0 in
          chunk_more (span_below c.args.cells.now) c.runs.at c.tie_end-end.result groups chunk low end.1
          (chunk_long c.runs.at c.tie_end-end.result groups chunk low end.1 c.sort_run-sorted.ensures.moved)
          (c.runs.invariant.sorted both.0)
          (c.sort_run-sorted.ensures.sorted both.1)
          (λ d later. not-true _ (sym (c.follows-sorted.ensures.later d later) ∙ all.1));
    }
