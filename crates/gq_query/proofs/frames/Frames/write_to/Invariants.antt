use Rattle.std.proofs.Common.{◌≡◌, ◌<◌, ℕ, get_or, map}
use Rattle.gq_query.specs.declared.sort_prefix.SortPrefix.{SortPrefix}
use Rattle.gq_query.specs.declared.group_list.GroupSpan.{GroupSpan}
use Rattle.gq_query.specs.GroupSpans.{with_prefix}
use Rattle.gq_query.specs.Frames.{HasFramePrefix}
use Rattle.gq_query.proofs.frames.Frames.write_to.Given as goal

abbrev pub invariant-loop-i : goal.invariant-loop-i
invariant-loop-i l = record {
  kept : (p : SortPrefix) → map (with_prefix p) l.groups ≡ map (with_prefix p) l.fn.groups;
  prefixed : (k : ℕ) (d : GroupSpan) → k < l.i → HasFramePrefix l.cells l.self (get_or l.groups k d);
}
