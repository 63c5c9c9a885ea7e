use Rattle.std.proofs.Common.{◌≡◌, ◌++◌, List, length, map, drop, take, Some}
use Rattle.gq_row.specs.declared.value.Value.{Value as Cell}
use Rattle.gq_group.specs.Entries.{tallies}
use Rattle.gq_group.specs.Groups.{answers}
use Rattle.gq_group.specs.KeptAggs.{others, alone, kept_aggs}
use Rattle.gq_group.proofs.aggs.take_values.Given as goal

abbrev pub invariant-asked : goal.invariant-asked
invariant-asked l = record {
  size : length l.values ≡ length l.asked;
  long : length l.aggs ≡ length l.fn.aggs;
  rest : drop l.place l.aggs ≡ drop l.place l.fn.aggs;
  left : drop l.place (kept_aggs l.asked) ≡ others (drop l.i l.asked) ++ alone l.asked;
  made : (rows : List (List Cell)) → l.fn.aggs ≡ tallies (kept_aggs l.asked) rows → map Some (take l.i l.values) ≡ take l.i (answers l.asked rows);
}
