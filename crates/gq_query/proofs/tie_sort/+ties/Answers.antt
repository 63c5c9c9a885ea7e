use Rattle.std.proofs.Common.{All, ◌<◌, ◌≤◌, ◌-◌, ◌∙◌, length, map, refl, sym, subst, arith, rules, IsPermutation}
use lib.Seq.{map-set_same}
use Rattle.std.proofs.lemmas.Bool.{and_parts, not-true}
use Rattle.std.proofs.lemmas.List.Sorted.{All-permutation, IsPermutation-map, IsPermutation-put_mid, IsPermutation-trans}
use Rattle.gq_row.specs.Order.{compare_keys}
use Rattle.gq_query.specs.declared.group_list.GroupSpan.{GroupSpan}
use Rattle.gq_query.specs.GroupSpans.{HasPrefix, key_at, with_prefix}
use Rattle.gq_query.specs.Ties.{GoesOn, HasRestPrefix}
use Rattle.gq_query.proofs.OrderingLemmas.{sorted_by}
use Rattle.gq_query.proofs.TieLemmas.{chunk_long, chunk_more, given_tied, moved_back, moved_tied, part_all, part_tied, rest_sorted, resorted, set_more, span_below, tie_same, tie_sorted, tied_next}
use Rattle.gq_query.proofs.tie_sort.+ties.Goals as goal

pub sort_long_tie-sort_next-requires : goal.sort_long_tie-sort_next-requires
sort_long_tie-sort_next-requires t c =
    let on : GoesOn c.args.tie c.args.prefix c.in-Some.next = search rules in (
      omega (arith, c.decreases, on.deeper),
      (
        c.requires.same,
        tied_next c.args.cells.now c.args.tie c.in-Some.next c.args.prefix c.args.groups.now on c.requires.tied c.requires.prefixed c.requires.same,
      ),
    )

pub sort_long_tie-returns-2-clause-sorted : goal.sort_long_tie-returns-2-clause-sorted
sort_long_tie-returns-2-clause-sorted t c = λ _.
    let cells = c.args.cells.now in
    let new = c.sort_unstable_by.new.self in
    tie_sorted cells c.args.prefix new (All-permutation (HasPrefix c.args.prefix) c.args.groups.now new c.sort_unstable_by.ensures.permutation c.requires.same)
    (sorted_by (key_at cells) new c.sort_unstable_by.ensures.sorted (λ a r q k. search rules))

pub sort_next-sort_ties-sorted-requires : goal.sort_next-sort_ties-sorted-requires
sort_next-sort_ties-sorted-requires t c = (
  omega (arith, c.decreases),
  (
    given_tied c.args.cells.now c.args.tie c.args.prefix c.args.groups.now c.sort_by_prefix.new.groups (c.sort_by_prefix.ensures.moved c.args.prefix) c.requires.tied,
    c.sort_by_prefix.ensures.prefixed,
  ),
)

pub sort_next-loop-i-init : goal.sort_next-loop-i-init
sort_next-loop-i-init t c =
    let cells = c.args.cells.now in
    let tie = c.args.tie in
    let p = c.args.prefix in
    let prefixed = c.sort_by_prefix.new.groups in
    let new = c.sort_ties-sorted.new.groups in
    let moved = c.sort_ties-sorted.ensures.moved in
    record {
      moved = IsPermutation-trans _ _ _ (c.sort_by_prefix.ensures.moved p) (IsPermutation-map (with_prefix p) prefixed new moved);
      given = λ k d lt. absurd (omega (arith, lt));
      sorted = λ e. rest_sorted cells tie new (moved_tied cells tie prefixed new moved (given_tied cells tie p c.args.groups.now prefixed (c.sort_by_prefix.ensures.moved p) c.requires.tied))
          (All-permutation (HasRestPrefix cells tie) prefixed new moved c.sort_by_prefix.ensures.prefixed) (c.sort_ties-sorted.ensures.sorted e);
    }

pub sort_next-loop-i-preserved : goal.sort_next-loop-i-preserved
sort_next-loop-i-preserved t c =
    let p = c.args.prefix in
    let none : GroupSpan = record { prefix = record { high = 0; low = 0 }; start = 0; key = 0; values = 0 } in
    let within : c.loop-i.i < length c.loop-i.groups = search rules in
    record {
      moved = subst (IsPermutation (map (with_prefix p) c.args.groups.now)) (sym (map-set_same (with_prefix p) c.loop-i.groups c.loop-i.i _ none refl)) c.loop-i.invariant.moved;
      given = set_more (λ k s. HasPrefix p s) c.loop-i.groups c.loop-i.i _ within refl c.loop-i.invariant.given;
      sorted = λ e. resorted (key_at c.args.cells.now) compare_keys c.loop-i.groups _ (map-set_same (key_at c.args.cells.now) c.loop-i.groups c.loop-i.i _ none refl) (c.loop-i.invariant.sorted e);
    }

pub sort_next-returns : goal.sort_next-returns
sort_next-returns t c =
    let p = c.args.prefix in
    let all : length c.loop-i.groups ≤ c.loop-i.i = search rules in
    let has : All (HasPrefix p) c.loop-i.groups = λ k d lt. c.loop-i.invariant.given k d (omega (arith, lt, all)) in
    record {
      moved = moved_back p c.args.groups.now c.loop-i.groups c.requires.same has c.loop-i.invariant.moved;
      sorted = λ e. tie_sorted c.args.cells.now p c.loop-i.groups has (c.loop-i.invariant.sorted e);
    }

pub sort_ties-sort_tie-sorted-requires : goal.sort_ties-sort_tie-sorted-requires
sort_ties-sort_tie-sorted-requires t c =
    let cells = c.args.cells.now in
    let tie = c.args.tie in
    let old = c.args.groups.now in
    let groups = c.ties.groups in
    let long = c.tie_end-end.result - c.ties.at in
    let end = c.tie_end-end.ensures.within in (
      omega (arith, c.decreases),
      (
        tie_same groups c.ties.at c.tie_end-end.result _ end.0 end.1 c.tie_end-end.ensures.ties,
        (
          part_tied cells tie c.ties.at long groups (moved_tied cells tie old groups c.ties.invariant.moved c.requires.tied),
          part_all (HasRestPrefix cells tie) c.ties.at long groups (All-permutation (HasRestPrefix cells tie) old groups c.ties.invariant.moved c.requires.prefixed),
        ),
      ),
    )

pub sort_ties-ties-preserved : goal.sort_ties-ties-preserved
sort_ties-ties-preserved t c =
    let end = c.tie_end-end.ensures.within in
    let groups = c.ties.groups in
    let chunk = c.sort_tie-sorted.new.groups in
    let low : c.ties.at ≤ c.tie_end-end.result = omega (arith, end.0) in
    record {
      moved = IsPermutation-trans _ _ _ c.ties.invariant.moved (IsPermutation-put_mid c.ties.at (c.tie_end-end.result - c.ties.at) groups chunk c.sort_tie-sorted.ensures.moved);
      sorted = λ e.
          let all = and_parts _ c.follows-sorted.result e in
          let both = and_parts c.ties.sorted c.sort_tie-sorted.result all.0 in
          chunk_more (span_below c.args.cells.now) c.ties.at c.tie_end-end.result groups chunk low end.1
          (chunk_long c.ties.at c.tie_end-end.result groups chunk low end.1 c.sort_tie-sorted.ensures.moved)
          (c.ties.invariant.sorted both.0)
          (c.sort_tie-sorted.ensures.sorted both.1)
          (λ d later. not-true _ (sym (c.follows-sorted.ensures.later d later) ∙ all.1));
    }
