use Rattle.std.proofs.Common.{◌≤◌, ◌-◌, ◌∙◌, length, map, subst, IsPermutation, rules}
use Rattle.std.proofs.lemmas.List.Sorted.{All-permutation, IsPermutation-map}
use Rattle.gq_query.specs.GroupSpans.{with_prefix}
use Rattle.gq_query.specs.Ties.{HasRestPrefix}
use Rattle.gq_query.proofs.TieLemmas.{chunk_all, chunk_size, part_same}
use Rattle.gq_query.proofs.tie_sort.sort_by_prefix.Goals as goal

pub chunks-preserved : goal.chunks-preserved
chunks-preserved c =
    let at = c.chunks.at in
    let end = c.min-end.result in
    let groups = c.chunks.groups in
    let chunk = c.write_prefixes.new.groups in
    let low : at ≤ end = search rules in
    let high : end ≤ length groups = search rules in
    let long = chunk_size at end groups chunk low high (c.write_prefixes.ensures.kept) in
    record {
      kept = λ p. part_same (with_prefix p) at (end - at) groups chunk (c.write_prefixes.ensures.kept p) ∙ c.chunks.invariant.kept p;
      within = search rules;
      prefixed = chunk_all (HasRestPrefix c.args.cells.now c.args.tie) at end groups chunk low high long c.chunks.invariant.prefixed c.write_prefixes.ensures.prefixed;
    }

pub returns : goal.returns
returns c = record {
  moved = λ p.
      subst (λ l. IsPermutation l (map (with_prefix p) c.sort_unstable_by.new.self)) (c.chunks.invariant.kept p)
      (IsPermutation-map (with_prefix p) c.chunks.groups c.sort_unstable_by.new.self c.sort_unstable_by.ensures.permutation);
  prefixed = All-permutation (HasRestPrefix c.args.cells.now c.args.tie) c.chunks.groups c.sort_unstable_by.new.self c.sort_unstable_by.ensures.permutation
      (λ k d lt. c.chunks.invariant.prefixed k d (search rules));
}
